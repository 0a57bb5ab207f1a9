-- The constants that expressions spell are values.
use Rattle.std.proofs.Common.{◌≡◌, ℕ, suc, max, Bool, true, false, cond, ℤ, pos, List, [], ◌∷◌, ◌++◌, Some, None}
use Rattle.std.proofs.Common.{refl, sym, subst, arith}
use Rattle.std.specs.Prelude.{FitsSigned, nat_le}
use Rattle.std.specs.Int.{w64}
use Rattle.std.specs.List.{AllByRecursion}
use Rattle.std.proofs.lemmas.Bool.{leb-true}
use Rattle.grammar.specs.Depths.{Placed, bare}
use Rattle.epl_syntax.specs.declared.token.Mark.TheVariants as mark
use Rattle.epl_syntax.specs.declared.token.Token.{Token}
use Rattle.epl_syntax.specs.declared.token.TokenKind.{TokenKind}
use Rattle.epl_syntax.specs.declared.token.TokenKind.TheVariants as kind
use Rattle.epl_syntax.specs.declared.word.Word.TheVariants as word
use Rattle.epl_syntax.specs.Tree.{Expression, in_order}
use Rattle.epl_syntax.specs.Constants.{ExpressionFits, ExpressionsFit}
use Rattle.epl_parser.specs.declared.head.Level.{Level}
use Rattle.epl_parser.specs.declared.head.Level.TheVariants as level
use Rattle.epl_parser.specs.declared.head.PrimaryHead.TheVariants as head
use Rattle.epl_parser.specs.Heads.{primary_head}
use Rattle.epl_parser.specs.Expressions.{Parsed, joined, at_index, IsChain, chain, IsPart, conj, neg, term, unit, IsMore, no_more, more}
use Rattle.epl_parser.specs.Expressions.{IsNeg, not_neg, cmp, IsCmp, sum, compared, IsUnit, minus, indexed, IsIndices, no_index, index}
use Rattle.epl_parser.specs.Expressions.{IsPrimary, int_operand, text_operand, bool_operand, none_operand, self_operand, name_operand}
use Rattle.epl_parser.specs.Expressions.{parens_operand, list_operand, empty_list_operand, builtin_operand, IsExprs, last, and_then}
use Rattle.epl_parser.specs.Expressions.{IsExpression}
use Rattle.epl_parser.proofs.TextTokens.{TextFits}

-- ---- the texts among the tokens
-- each token that is a text stands for one within the limits
abbrev pub TextsFit : List ℕ → List (Placed Token) → Type 0
TextsFit text ps = AllByRecursion (λ p. TextFits text p.0) ps

pub texts_placed : (text : List ℕ) (ps : List (Placed Token)) → AllByRecursion (TextFits text) (bare ps) → TextsFit text ps
texts_placed text [] h = tt
texts_placed text (p ∷ ps) h = (h.0, texts_placed text ps h.1)

-- both parts of a row of tokens
pub parted : (text : List ℕ) (ps qs : List (Placed Token)) → TextsFit text (ps ++ qs) → TextsFit text ps × TextsFit text qs
parted text [] qs h = (tt, h)
parted text (p ∷ ps) qs h = let rest = parted text ps qs h.1 in ((h.0, rest.0), rest.1)

-- ---- heads of operands and constants: a number within the greatest is one of 64 bits, and the head of no text
pub small_fits : (n : ℕ) → nat_le n 9223372036854775807 ≡ true → FitsSigned w64 (pos n)
small_fits n h = let few = leb-true n 9223372036854775807 h in record { sfits = omega arith }

pub number_in : {H : Type 0} (head_of : ℤ → H) → ((x y : ℤ) → head_of x ≡ head_of y → x ≡ y) → (n : ℕ) (m : ℤ) (b : Bool)
    → nat_le n 9223372036854775807 ≡ b → cond b (Some (head_of (pos n))) None ≡ Some (head_of m) → FitsSigned w64 m
number_in head_of one n m false k e = absurd cc
number_in head_of one n m true k e =
    let same : head_of (pos n) ≡ head_of m = cc in subst (FitsSigned w64) (one (pos n) m same) (small_fits n k)

pub no_number : {H : Type 0} (head_of : ℤ → H) (h : H) → ((x : ℤ) → head_of x ≡ h → ⊥) → (n : ℕ) (b : Bool)
    → cond b (Some (head_of (pos n))) None ≡ Some h → ⊥
no_number head_of h apart n false e = absurd cc
no_number head_of h apart n true e = let same : head_of (pos n) ≡ h = cc in apart (pos n) same

number_fits : (k : TokenKind) (m : ℤ) → primary_head k ≡ Some (head.Int m) → FitsSigned w64 m
unfolding primary_head
number_fits (kind.Int n) m e = number_in head.Int (λ x y s. cc) n m (nat_le n 9223372036854775807) refl e
number_fits (kind.Mark mark.Open) m e = absurd cc
number_fits (kind.Word word.True) m e = absurd cc
number_fits _ m e = absurd (cc)

is_text : (k : TokenKind) → primary_head k ≡ Some head.Text → k ≡ kind.Text
unfolding primary_head
is_text kind.Text e = refl
is_text (kind.Int n) e = absurd (no_number head.Int head.Text (λ x s. absurd cc) n (nat_le n 9223372036854775807) e)
is_text (kind.Mark mark.Open) e = absurd cc
is_text (kind.Word word.True) e = absurd cc
is_text _ e = absurd (cc)

-- ---- expressions
pub in_order_fit : (es : List Expression) → AllByRecursion ExpressionFits es → ExpressionsFit (in_order es)
in_order_fit [] h = tt
in_order_fit (e ∷ es) h = (h.0, in_order_fit es h.1)

module _ (text : List ℕ) (outer : ℕ) where
  mutual
    pub chain_fits : (l : Level) (d : ℕ) (ps : List (Token × ℕ)) (x : Parsed) → IsChain text outer l d ps x → TextsFit text ps
        → ExpressionFits x.tree
    chain_fits l d ps x (chain {ps = qs} {qs = rs} {x = y} p m) h =
        let parts = parted text qs rs h in more_fits l y rs x m parts.1 (part_fits l d qs y p parts.0)

    part_fits : (l : Level) (d : ℕ) (ps : List (Token × ℕ)) (x : Parsed) → IsPart text outer l d ps x → TextsFit text ps
        → ExpressionFits x.tree
    part_fits l d ps x (conj c) h = chain_fits level.And d ps x c h
    part_fits l d ps x (neg n) h = neg_fits d ps x n h
    part_fits l d ps x (term c) h = chain_fits level.Term d ps x c h
    part_fits l d ps x (unit u) h = unit_fits d ps x u h

    more_fits : (l : Level) (x : Parsed) (ps : List (Token × ℕ)) (y : Parsed) → IsMore text outer l x ps y → TextsFit text ps
        → ExpressionFits x.tree → ExpressionFits y.tree
    more_fits l x ps y no_more h fit = fit
    more_fits l x ps z (more {ps = qs} {qs = rs} {y = y} t op e p m) h fit =
        let parts = parted text qs rs h.1 in more_fits l (joined op x y) rs z m parts.1 (fit, part_fits l (suc x.behind) qs y p parts.0)

    neg_fits : (d : ℕ) (ps : List (Token × ℕ)) (x : Parsed) → IsNeg text outer d ps x → TextsFit text ps → ExpressionFits x.tree
    neg_fits d ps x (not_neg {ps = qs} {x = y} t e n) h = neg_fits (suc d) qs y n h.1
    neg_fits d ps x (cmp c) h = cmp_fits d ps x c h

    cmp_fits : (d : ℕ) (ps : List (Token × ℕ)) (x : Parsed) → IsCmp text outer d ps x → TextsFit text ps → ExpressionFits x.tree
    cmp_fits d ps x (sum c) h = chain_fits level.Sum d ps x c h
    cmp_fits d ps x (compared {ps = qs} {qs = rs} {x = y} {y = z} t op c e b) h =
        let parts = parted text qs ((t, max outer (suc y.behind)) ∷ rs) h in
        (chain_fits level.Sum d qs y c parts.0, chain_fits level.Sum (suc y.behind) rs z b parts.1.1)

    unit_fits : (d : ℕ) (ps : List (Token × ℕ)) (x : Parsed) → IsUnit text outer d ps x → TextsFit text ps → ExpressionFits x.tree
    unit_fits d ps x (minus {ps = qs} {x = y} t e u) h = unit_fits (suc d) qs y u h.1
    unit_fits d ps x (indexed {ps = qs} {qs = rs} {x = y} p i) h =
        let parts = parted text qs rs h in indices_fit y rs x i parts.1 (primary_fits d qs y p parts.0)

    indices_fit : (x : Parsed) (ps : List (Token × ℕ)) (y : Parsed) → IsIndices text outer x ps y → TextsFit text ps
        → ExpressionFits x.tree → ExpressionFits y.tree
    indices_fit x ps y no_index h fit = fit
    indices_fit x ps z (index {ps = qs} {qs = rs} {y = y} t u e c f i) h fit =
        let close = (u, max outer (suc x.behind)) ∷ [] in
        let parts = parted text (qs ++ close) rs h.1 in
        indices_fit (at_index x y) rs z i parts.1
        (fit, chain_fits level.Or (suc (suc x.behind)) qs y c (parted text qs close parts.0).0)

    primary_fits : (d : ℕ) (ps : List (Token × ℕ)) (x : Parsed) → IsPrimary text outer d ps x → TextsFit text ps → ExpressionFits x.tree
    primary_fits d ps x (int_operand {n = n} t e) h = (tt, number_fits t.kind n e)
    primary_fits d ps x (text_operand t e) h = (h.0 (is_text t.kind e), tt)
    primary_fits d ps x (bool_operand t e) h = (tt, tt)
    primary_fits d ps x (none_operand t e) h = (tt, tt)
    primary_fits d ps x (self_operand t e) h = tt
    primary_fits d ps x (name_operand t e) h = tt
    primary_fits d ps x (parens_operand {ps = qs} {x = y} t u e c f) h =
        chain_fits level.Or (suc d) qs y c (parted text qs ((u, max outer d) ∷ []) h.1).0
    primary_fits d ps x (list_operand {ps = qs} {es = es} t u e i f) h =
        in_order_fit es (exprs_fit d qs es i (parted text qs ((u, max outer d) ∷ []) h.1).0)
    primary_fits d ps x (empty_list_operand qs t o u e f k g) h = ((omega arith, tt), tt)
    primary_fits d ps x (builtin_operand {ps = qs} {es = es} t o u e f i g) h =
        in_order_fit es (exprs_fit d qs es i (parted text qs ((u, max outer d) ∷ []) h.1.1).0)

    exprs_fit : (d : ℕ) (ps : List (Token × ℕ)) (es : List Expression) → IsExprs text outer d ps es → TextsFit text ps
        → AllByRecursion ExpressionFits es
    exprs_fit d ps es (last {x = x} c) h = (chain_fits level.Or (suc d) ps x c h, tt)
    exprs_fit d ps es (and_then {ps = qs} {qs = rs} {x = x} {es = fs} t c e i) h =
        let parts = parted text qs ((t, max outer d) ∷ rs) h in
        (chain_fits level.Or (suc d) qs x c parts.0, exprs_fit d rs fs i parts.1.1)

  pub expression_fits : (ps : List (Token × ℕ)) (e : Expression) → IsExpression text outer ps e → TextsFit text ps → ExpressionFits e
  expression_fits ps e x h = subst ExpressionFits (sym x.2) (chain_fits level.Or 1 ps x.0 x.1 h)
