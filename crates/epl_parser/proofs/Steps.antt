-- One step of the parser's code is one step of its reader.
use Rattle.std.proofs.Common.{◌≡◌, ℕ, zero, suc, ◌+◌, ◌-◌, ◌<◌, List, [], ◌∷◌, Option, Ok, refl, ap, ◌∙◌, arith, add-one, max}
use Rattle.grammar.specs.Depths.{Look, Looker, look_then, look_mapped, look_here}
use Rattle.eden_value.specs.Shape.{Shape, lists}
use Rattle.epl_syntax.specs.declared.token.Token.{Token}
use Rattle.epl_syntax.specs.declared.word.Word.TheVariants as word
use Rattle.epl_parser.specs.declared.head.KindHead.TheVariants as head
use Rattle.epl_parser.specs.OneToken.{peeked, take_found, look_one, the_word}
use Rattle.epl_parser.specs.WrittenKinds.{kind_head, inner_kind, read_kind, read_kind_rest}

pub take_is_look : {A : Type 0} (depth : ℕ) (f : Token → Option A) (ts : List Token)
    → take_found depth (peeked f ts) ts ≡ look_one depth f ts
take_is_look depth f [] = refl
take_is_look depth f (t ∷ ts) = refl

-- where some level is left, the kind in a list is read with one level less
pub inner_kind_is : (n outer d : ℕ) (ts : List Token) → 0 < n → inner_kind n outer (suc d) ts ≡ read_kind (n - 1) outer (d + 1) ts
unfolding inner_kind read_kind
inner_kind_is zero outer d ts some = absurd (omega arith)
inner_kind_is (suc n) outer d ts some = let one : suc n - 1 ≡ n = omega arith in rw (add-one, one)

-- what is read goes on with what comes next
pub goes_on : {S A B : Type 0} (f : A → Looker S B) (r : Look S A) (a : A) (w : List S) → r ≡ Ok (a, w) → look_then r f ≡ f a w
goes_on f r a w e = ap (λ x. look_then x f) e

pub list_kind_step : (n outer d : ℕ) (ts us vs ws : List Token) (u : Token) (s : Shape) → 0 < n
    → look_one (max outer d) (λ t. kind_head t.kind) ts ≡ Ok (head.List, us) → look_one (max outer d) (the_word word.Of) us ≡ Ok (u, vs)
    → read_kind (n - 1) outer (d + 1) vs ≡ Ok (s, ws) → read_kind n outer d ts ≡ Ok (lists s, ws)
unfolding read_kind
list_kind_step n outer d ts us vs ws u s some first of_ inside =
    goes_on (read_kind_rest (inner_kind n outer (suc d)) outer d) (look_one (max outer d) (λ t. kind_head t.kind) ts) head.List us first
    ∙ goes_on (λ u. look_mapped lists (inner_kind n outer (suc d))) (look_one (max outer d) (the_word word.Of) us) u vs of_
    ∙ goes_on (λ s. look_here (lists s)) (inner_kind n outer (suc d) vs) s ws (inner_kind_is n outer d vs some ∙ inside)
