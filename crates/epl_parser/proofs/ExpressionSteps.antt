-- Steps of the parser of expressions, as steps of its readers.
use Rattle.std.proofs.Common.{◌≡◌, ℕ, suc, ◌+◌, ◌-◌, ◌<◌, List, [], ◌∷◌, ◌++◌, Option, Some, None, Ok, refl, sym, ap, ◌∙◌, add-one, max}
use Rattle.grammar.specs.Depths.{Look, Looker, look_then, look_mapped, look_here, look_if, led, look_many}
use Rattle.grammar.specs.Separated.{look_next}
use Rattle.epl_syntax.specs.declared.token.Mark.{Mark}
use Rattle.epl_syntax.specs.declared.token.Mark.TheVariants as mark
use Rattle.epl_syntax.specs.declared.token.Token.{Token}
use Rattle.epl_syntax.specs.declared.tree.Operator.{Operator}
use Rattle.epl_parser.specs.declared.head.Level.TheVariants as level
use Rattle.epl_syntax.specs.Tree.{Expression}
use Rattle.epl_parser.specs.OneToken.{peeked, the_mark, look_one}
use Rattle.epl_parser.specs.Heads.{comparison}
use Rattle.epl_parser.specs.Expressions.{Parsed, joined}
use Rattle.epl_parser.specs.ExpressionReader.{Reader, inner, sum_by, read_compared, read_part, read_chain, read_cmp, exprs_on}
use Rattle.epl_parser.proofs.Steps.{goes_on}
use Rattle.epl_parser.proofs.Loops.{steps_on, steps_over}

-- what begins with a symbol for which f has a value is read on
if_led : {A K : Type 0} (f : Token → Option K) (a : A) (R : Looker Token A) (ts : List Token) (k : K) → peeked f ts ≡ Some k
    → look_if f a R ts ≡ R ts
if_led f a R [] k h = absurd (cc)
if_led f a R (t ∷ ts) k h = ap (λ o. led o R (Ok (a, t ∷ ts)) (t ∷ ts)) h

module _ (bytes : List ℕ) (turns outer : ℕ) where
  -- a comparison goes on with the second sum
  pub compared_step : (n d : ℕ) (ts us vs : List Token) (x : Parsed) (k op : Operator)
      → read_chain bytes turns outer level.Sum n d ts ≡ Ok (x, us) → peeked (λ (t : Token). comparison t.kind) us ≡ Some k
      → look_one (max outer (x.behind + 1)) (λ (t : Token). comparison t.kind) us ≡ Ok (op, vs)
      → read_cmp bytes turns outer n d ts ≡ look_mapped (joined op x) (read_chain bytes turns outer level.Sum n (x.behind + 1)) vs
  unfolding read_cmp read_chain read_part
  compared_step n d ts us vs x k op first h second =
      let sum : Reader = sum_by bytes turns outer (inner bytes turns outer n) in
      let one : x.behind + 1 ≡ suc x.behind = add-one x.behind in
      goes_on (λ (y : Parsed). look_if (λ (t : Token). comparison t.kind) y (read_compared bytes turns outer sum y)) (sum d ts) x us first
      ∙ if_led (λ (t : Token). comparison t.kind) x (read_compared bytes turns outer sum x) us k h
      ∙ goes_on (λ (op : Operator). look_mapped (joined op x) (sum (suc x.behind)))
      (look_one (max outer (suc x.behind)) (λ (t : Token). comparison t.kind) us) op vs
      (ap (λ e. look_one (max outer e) (λ (t : Token). comparison t.kind) us) (sym one) ∙ second)
      ∙ ap (λ e. look_mapped (joined op x) (sum e) vs) (sym one)

  module _ (m : Mark) (expr : Reader) (d : ℕ) where
    -- one more item behind a comma
    pub items_turn : (n : ℕ) (before : List Expression) (rest us vs : List Token) (k u : Token) (x : Parsed) (after : List Expression)
        (whole : Look Token (List Expression))
        → 0 < n → peeked (the_mark mark.Comma) rest ≡ Some k → look_one (max outer d) (the_mark mark.Comma) rest ≡ Ok (u, us)
        → expr (d + 1) us ≡ Ok (x, vs) → after ≡ before ++ x.tree ∷ []
        → exprs_on bytes turns outer m expr d n before rest ≡ whole → exprs_on bytes turns outer m expr d (n - 1) after vs ≡ whole
    items_turn n before rest us vs k u x after whole some h comma item same e =
        let tree : Looker Token Expression = look_mapped (λ (y : Parsed). y.tree) (expr (suc d)) in
        let step : List Expression → Looker Token (List Expression) = look_next 32 (max outer d) (the_mark mark.Comma) tree in
        let next : step before rest ≡ Ok (before ++ x.tree ∷ [], vs) =
        goes_on (λ (k : Token). look_mapped (λ a. before ++ a ∷ []) tree) (look_one (max outer d) (the_mark mark.Comma) rest) u us comma
        ∙ ap (λ r. look_then (look_then r (λ (y : Parsed). look_here y.tree)) (λ a. look_here (before ++ a ∷ [])))
        (ap (λ e. expr e us) (sym (add-one d)) ∙ item) in
        ap (λ l. exprs_on bytes turns outer m expr d (n - 1) l vs) same
        ∙ ap (λ r. look_then r (λ es. look_mapped (λ u. es) (look_one (max outer d) (the_mark m))))
        (steps_on (the_mark mark.Comma) step n before rest k (before ++ x.tree ∷ []) vs
        (look_many (the_mark mark.Comma) step n before rest) some h next refl)
        ∙ e

    -- where no comma comes, the mark has to
    pub items_over : (n : ℕ) (before : List Expression) (rest : List Token) (whole : Look Token (List Expression))
        → 0 < n → peeked (the_mark mark.Comma) rest ≡ None → exprs_on bytes turns outer m expr d n before rest ≡ whole
        → whole ≡ look_mapped (λ u. before) (look_one (max outer d) (the_mark m)) rest
    items_over n before rest whole some h e =
        let tree : Looker Token Expression = look_mapped (λ (y : Parsed). y.tree) (expr (suc d)) in
        let step : List Expression → Looker Token (List Expression) = look_next 32 (max outer d) (the_mark mark.Comma) tree in
        sym e
        ∙ ap (λ r. look_then r (λ es. look_mapped (λ u. es) (look_one (max outer d) (the_mark m))))
        (steps_over (the_mark mark.Comma) step n before rest (look_many (the_mark mark.Comma) step n before rest) some h refl)
