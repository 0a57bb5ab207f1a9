-- The constants that statements spell are values.
use Rattle.std.proofs.Common.{ℕ, suc, List, [], ◌∷◌, ◌++◌, sym, subst, inl, inr}
use Rattle.std.specs.List.{AllByRecursion}
use Rattle.grammar.specs.Grammar.{Then}
use Rattle.grammar.specs.Depths.{Placed, Perhaps}
use Rattle.grammar.specs.Separated.{Separated, alone, apart}
use Rattle.epl_syntax.specs.declared.token.Mark.TheVariants as mark
use Rattle.epl_syntax.specs.declared.token.Token.{Token}
use Rattle.epl_syntax.specs.Tree.{Expression, Statement, Statements}
use Rattle.epl_syntax.specs.Constants.{ExpressionFits, StatementFits, StatementsFit}
use Rattle.epl_parser.specs.declared.statement.StatementHead.{StatementHead}
use Rattle.epl_parser.specs.declared.statement.StatementHead.TheVariants as head
use Rattle.epl_parser.specs.OneToken.{the_mark}
use Rattle.epl_parser.specs.Expressions.{IsExpression}
use Rattle.epl_parser.specs.Statements.{InParens, PlainRest, IsStatement, plain, tested, repeated, guarded, IsElse, no_else, or_else}
use Rattle.epl_parser.specs.Statements.{IsBlock, no_statement, and_statement}
use Rattle.epl_parser.proofs.ExpressionConstants.{TextsFit, parted, expression_fits}

-- ---- one spelling behind another: the texts of the first, and of the second
module _ {A B : Type 0} {G : List (Placed Token) → A → Type 0} {H : A → List (Placed Token) → B → Type 0} {ps : List (Placed Token)} {b : B}
    (text : List ℕ) (x : Then G H ps b) (h : TextsFit text ps) where
  pub in_front : TextsFit text x.front
  in_front = (parted text x.front x.back (subst (TextsFit text) x.whole h)).0

  pub behind : TextsFit text x.back
  behind = (parted text x.front x.back (subst (TextsFit text) x.whole h)).1

-- ---- arguments and results
module _ (text : List ℕ) (d : ℕ) where
  separated_fit : (ps : List (Placed Token)) (es : List Expression) → Separated d (the_mark mark.Comma) (IsExpression text d) ps es
      → TextsFit text ps → AllByRecursion ExpressionFits es
  separated_fit ps es (alone {a = e} g) h = (expression_fits text d ps e g h, tt)
  separated_fit ps es (apart {ps = qs} {qs = rs} {a = e} {more = more} s k g f rest) h =
      let parts = parted text qs ((s, d) ∷ rs) h in (expression_fits text d qs e g parts.0, separated_fit rs more rest parts.1.1)

  perhaps_fit : (ps : List (Placed Token)) (es : List Expression)
      → Perhaps [] (Separated d (the_mark mark.Comma) (IsExpression text d)) ps es → TextsFit text ps → AllByRecursion ExpressionFits es
  perhaps_fit ps es (inl e) h = subst (AllByRecursion ExpressionFits) (sym e.1) tt
  perhaps_fit ps es (inr g) h = separated_fit ps es g h

  in_parens_fit : (ps : List (Placed Token)) (es : List Expression)
      → InParens d (Separated d (the_mark mark.Comma) (IsExpression text d)) ps es → TextsFit text ps → AllByRecursion ExpressionFits es
  in_parens_fit ps es x h =
      let inside = x.goes_on in
      subst (AllByRecursion ExpressionFits) (sym inside.goes_on.goes_on.1)
      (perhaps_fit inside.front inside.first inside.begins (in_front text inside (behind text x h)))

-- ---- statements
plain_fits : (text : List ℕ) (d : ℕ) (h : StatementHead) (t : Token) (ps : List (Placed Token)) (s : Statement) → PlainRest text d h t ps s
    → TextsFit text ps → StatementFits s
plain_fits text d head.Assign t ps s x fit =
    let value = x.goes_on in
    subst StatementFits (sym value.goes_on.1)
    (expression_fits text d value.front value.first value.begins (in_front text value (behind text x fit)))
plain_fits text d head.If t ps s x fit = absurd x
plain_fits text d head.While t ps s x fit = absurd x
plain_fits text d head.With t ps s x fit = absurd x
plain_fits text d head.Wait t ps s x fit = subst StatementFits (sym x.goes_on.1) tt
plain_fits text d head.Signal t ps s x fit = subst StatementFits (sym x.goes_on.1) tt
plain_fits text d head.Yield t ps s x fit = subst StatementFits (sym x.1) tt
plain_fits text d head.Deactivate t ps s x fit = subst StatementFits (sym x.1) tt
plain_fits text d head.Checkpoint t ps s x fit = subst StatementFits (sym x.goes_on.1) tt
plain_fits text d head.Destroy t ps s x fit = subst StatementFits (sym x.goes_on.1) tt
plain_fits text d head.Create t ps s x fit =
    subst StatementFits (sym x.goes_on.goes_on.goes_on.goes_on.goes_on.goes_on.goes_on.1) tt
plain_fits text d head.Invoke t ps s x fit =
    let dot = x.goes_on in
    let operation = dot.goes_on in
    let args = operation.goes_on in
    subst StatementFits (sym args.goes_on.goes_on.goes_on.goes_on.1)
    (in_parens_fit text d args.front args.first args.begins
    (in_front text args (behind text operation (behind text dot (behind text x fit)))))
plain_fits text d head.Return t ps s x fit =
    subst StatementFits (sym x.goes_on.1) (in_parens_fit text d x.front x.first x.begins (in_front text x fit))

module _ (text : List ℕ) where
  mutual
    pub statement_fits : (d : ℕ) (ps : List (Placed Token)) (s : Statement) → IsStatement text d ps s → TextsFit text ps → StatementFits s
    statement_fits d ps s (plain {ps = qs} h t e x) fit = plain_fits text d h t qs s x fit.1
    statement_fits d ps s (tested {ps = qs} {qs = rs} {rs = os} {test = test} {so = so} {otherwise = otherwise} t u v e x f b o g) fit =
        let at_then = parted text qs ((u, d) ∷ (rs ++ (os ++ (v, d) ∷ []))) fit.1 in
        let block = parted text rs (os ++ (v, d) ∷ []) at_then.1.1 in
        let other = parted text os ((v, d) ∷ []) block.1 in (
          expression_fits text d qs test x at_then.0,
          block_fits (suc d) rs so b block.0,
          else_fits d os otherwise o other.0,
        )
    statement_fits d ps s (repeated {ps = qs} {qs = rs} {test = test} {body = body} t u v e x f b g) fit =
        let at_do = parted text qs ((u, d) ∷ (rs ++ (v, d) ∷ [])) fit.1 in (
          expression_fits text d qs test x at_do.0,
          block_fits (suc d) rs body b (parted text rs ((v, d) ∷ []) at_do.1.1).0,
        )
    statement_fits d ps s (guarded {ps = qs} {body = body} t m u v e f g b k) fit =
        block_fits (suc d) qs body b (parted text qs ((v, d) ∷ []) fit.1.1.1).0

    else_fits : (d : ℕ) (ps : List (Placed Token)) (ss : Statements) → IsElse text d ps ss → TextsFit text ps → StatementsFit ss
    else_fits d ps ss no_else fit = tt
    else_fits d ps ss (or_else {ps = qs} t e b) fit = block_fits (suc d) qs ss b fit.1

    block_fits : (d : ℕ) (ps : List (Placed Token)) (ss : Statements) → IsBlock text d ps ss → TextsFit text ps → StatementsFit ss
    block_fits d ps ss no_statement fit = tt
    block_fits d ps ss (and_statement {ps = qs} {qs = rs} {s = s} {rest = rest} x b) fit =
        let parts = parted text qs rs fit in (statement_fits d qs s x parts.0, block_fits d rs rest b parts.1)
