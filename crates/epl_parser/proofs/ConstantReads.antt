-- The reader of constants reads its grammar.
use Rattle.std.proofs.Common.{◌≡◌, ℕ, List, [], ◌∷◌, ◌++◌, Some, refl, sym, ap, ◌∙◌, subst, arith, ℤ, pos}
use Rattle.grammar.specs.Grammar.{Grammar, Nothing, Then, Mapped}
use Rattle.grammar.specs.Depths.{Placed, Reads}
use Rattle.grammar.proofs.Lookers.{then_reads}
use Rattle.grammar.proofs.Choices.{Anything, same_reads, here_reads, mapped_reads, at_reads}
use Rattle.grammar.proofs.Leads.{at_one, lead_reads}
use Rattle.grammar.proofs.Separated.{Closed, closed_reads}
use Rattle.epl_syntax.specs.declared.token.Mark.{Mark}
use Rattle.epl_syntax.specs.declared.token.Mark.TheVariants as mark
use Rattle.epl_syntax.specs.declared.token.Token.{Token}
use Rattle.epl_syntax.specs.declared.token.TokenKind.TheVariants as kind
use Rattle.epl_parser.specs.declared.head.ConstantHead.{ConstantHead}
use Rattle.epl_parser.specs.declared.head.ConstantHead.TheVariants as first
use Rattle.epl_syntax.specs.Tree.{PlacedShape, Constant, integer, text, truth, absent, empty_list, Beginning}
use Rattle.epl_parser.specs.OneToken.{the_mark, headed, OneAt, look_one}
use Rattle.epl_parser.specs.Heads.{constant_head, negated}
use Rattle.epl_parser.specs.WrittenKinds.{IsWrittenKind, read_written_kind}
use Rattle.epl_parser.specs.Constants.{text_at, begins_with, IsConstant, plain_int, minus_int, plain_text}
use Rattle.epl_parser.specs.Constants.{plain_truth, no_capability, no_items, read_kind_in_parens, read_constant_rest}
use Rattle.epl_parser.specs.Constants.{read_constant}
use Rattle.epl_parser.proofs.SingleTokens.{is_the_mark, the_mark_is, is_headed, headed_is}
use Rattle.epl_parser.proofs.KindReader.{sample, some_kind, written_kind_reads}

-- ---- marks
pub mark_reads : (fuel place : ℕ) (m : Mark) → Reads 32 fuel (OneAt place (the_mark m)) Anything (look_one place (the_mark m))
mark_reads fuel place m =
    at_reads 32 fuel (λ t. place) (the_mark m) (sample (kind.Mark m)) (sample (kind.Mark m)) (the_mark_is m (sample (kind.Mark m)) refl)

-- one of these marks at a depth
pub one_mark : (place : ℕ) (m : Mark) (ps : List (Token × ℕ)) (t : Token) → OneAt place (the_mark m) ps t → (t.kind ≡ kind.Mark m)
    × (ps ≡ (t, place) ∷ [])
one_mark place m ps t h =
    let o = at_one (λ (u : Token). place) (the_mark m) ps t h in
    let i = is_the_mark m o.0 t o.1 in
    (ap (λ (u : Token). u.kind) (sym i.1) ∙ i.0, o.2 ∙ ap (λ (u : Token). (u, place) ∷ []) i.1)

pub mark_one : (place : ℕ) (m : Mark) (t : Token) → t.kind ≡ kind.Mark m → OneAt place (the_mark m) ((t, place) ∷ []) t
mark_one place m t e = (refl, the_mark_is m t e)

-- a spelling and a mark behind it
pub closed_one : {A : Type 0} (place : ℕ) (m : Mark) (G : List (Token × ℕ) → A → Type 0) (ps : List (Token × ℕ)) (a : A)
    → Closed place (the_mark m) G ps a
    → (front : List (Token × ℕ)) × (u : Token) × G front a × (u.kind ≡ kind.Mark m) × (ps ≡ front ++ (u, place) ∷ [])
closed_one place m G ps a c =
    let o = one_mark place m c.back c.goes_on.0 c.goes_on.1 in
    (c.front, c.goes_on.0, subst (λ x. G c.front x) (sym c.goes_on.2) c.begins, o.0, c.whole ∙ ap (λ l. c.front ++ l) o.1)

pub one_closed : {A : Type 0} (place : ℕ) (m : Mark) (G : List (Token × ℕ) → A → Type 0) (front : List (Token × ℕ)) (a : A) (u : Token)
    → G front a → u.kind ≡ kind.Mark m
    → Closed place (the_mark m) G (front ++ (u, place) ∷ []) a
one_closed place m G front a u g e =
    record { front = front; back = (u, place) ∷ []; first = a; whole = refl; begins = g; goes_on = (u, mark_one place m u e, refl) }

-- ---- a kind in parentheses
abbrev pub KindInParens : ℕ → Grammar (Placed Token) PlacedShape
KindInParens place = Then (OneAt place (the_mark mark.Open)) (λ u. Closed place (the_mark mark.Close) (IsWrittenKind place))

pub kind_in_parens_reads : (fuel place : ℕ) → Reads 32 fuel (KindInParens place) Anything (read_kind_in_parens place)
kind_in_parens_reads fuel place =
    then_reads 32 fuel fuel 0 (OneAt place (the_mark mark.Open))
    (λ u. Closed place (the_mark mark.Close) (IsWrittenKind place)) Anything Anything _ _
    (mark_reads fuel place mark.Open)
    (λ ps u p. closed_reads 32 fuel place (the_mark mark.Close) (IsWrittenKind place) Anything (read_written_kind place)
    (written_kind_reads place fuel)
    (λ s w k e. tt) (sample (kind.Mark mark.Close)) (sample (kind.Mark mark.Close))
    (the_mark_is mark.Close (sample (kind.Mark mark.Close)) refl))
    (λ ps u p. omega arith) (omega arith) (λ ps u p qs s q v f. tt)

-- its parts
pub parens_of : (place : ℕ) (ps : List (Token × ℕ)) (k : PlacedShape) → KindInParens place ps k
    → (u w : Token) × (front : List (Token × ℕ)) × (u.kind ≡ kind.Mark mark.Open) × IsWrittenKind place front k
    × (w.kind ≡ kind.Mark mark.Close) × (ps ≡ (u, place) ∷ (front ++ (w, place) ∷ []))
parens_of place ps k t =
    let o = one_mark place mark.Open t.front t.first t.begins in
    let c = closed_one place mark.Close (IsWrittenKind place) t.back k t.goes_on in
    (t.first, c.1, c.0, o.0, c.2, c.3, t.whole ∙ ap (λ l. l ++ t.back) o.1 ∙ ap (λ l. (t.first, place) ∷ l) c.4)

pub of_parens : (place : ℕ) (front : List (Token × ℕ)) (k : PlacedShape) (u w : Token) → u.kind ≡ kind.Mark mark.Open
    → IsWrittenKind place front k → w.kind ≡ kind.Mark mark.Close
    → KindInParens place ((u, place) ∷ (front ++ (w, place) ∷ [])) k
of_parens place front k u w e i f = record {
  front = (u, place) ∷ [];
  back = front ++ (w, place) ∷ [];
  first = u;
  whole = refl;
  begins = mark_one place mark.Open u e;
  goes_on = one_closed place mark.Close (IsWrittenKind place) front k w i f;
}

pub some_kind_in_parens : (place : ℕ) → (ps : List (Token × ℕ)) × (k : PlacedShape) × KindInParens place ps k
some_kind_in_parens place =
    let k = some_kind place in
    let u : Token = sample (kind.Mark mark.Open) in
    let w : Token = sample (kind.Mark mark.Close) in
    ((u, place) ∷ (k.0 ++ (w, place) ∷ []), k.1, of_parens place k.0 k.1 u w refl k.2 refl)

-- ---- constants
module _ (bytes : List ℕ) (outer : ℕ) where
  abbrev Rest : ConstantHead × Token → Grammar (Placed Token) Beginning
  Rest (first.Int n, t) = Nothing (begins_with (integer n) t)
  Rest (first.Minus, t) = Mapped (λ n. begins_with (integer n) t) (OneAt outer (λ (u : Token). negated u.kind))
  Rest (first.Text, t) = Nothing (begins_with (text (text_at bytes t)) t)
  Rest (first.Bool b, t) = Nothing (begins_with (truth b) t)
  Rest (first.Absent, t) = Nothing (begins_with absent t)
  Rest (first.EmptyList, t) = Mapped (λ k. begins_with (empty_list k) t) (KindInParens outer)

  abbrev Form : Grammar (Placed Token) Beginning
  Form = Then (OneAt outer (headed constant_head)) Rest

  to_plain : (t : Token) (c : Constant) (back : List (Token × ℕ)) (x : Beginning) → Nothing (begins_with c t) back x
      → IsConstant bytes outer ((t, outer) ∷ []) (begins_with c t) → IsConstant bytes outer ((t, outer) ∷ back) x
  to_plain t c back x r i =
      subst (λ l. IsConstant bytes outer ((t, outer) ∷ l) x) (sym r.0) (subst (λ y. IsConstant bytes outer ((t, outer) ∷ []) y) (sym r.1) i)

  to_rest : (h : ConstantHead) (t : Token) → constant_head t.kind ≡ Some h → (back : List (Token × ℕ)) (x : Beginning) → Rest (h, t) back x
      → IsConstant bytes outer ((t, outer) ∷ back) x
  to_rest (first.Int n) t e back x r = to_plain t (integer n) back x r (plain_int t e)
  to_rest first.Minus t e back x r =
      let o = at_one (λ (n : ℤ). outer) (λ (u : Token). negated u.kind) back r.0 r.1 in
      subst (λ l. IsConstant bytes outer ((t, outer) ∷ l) x) (sym o.2)
      (subst (λ y. IsConstant bytes outer ((t, outer) ∷ (o.0, outer) ∷ []) y) (sym r.2) (minus_int t o.0 e o.1))
  to_rest first.Text t e back x r = to_plain t (text (text_at bytes t)) back x r (plain_text t e)
  to_rest (first.Bool b) t e back x r = to_plain t (truth b) back x r (plain_truth t e)
  to_rest first.Absent t e back x r = to_plain t absent back x r (no_capability t e)
  to_rest first.EmptyList t e back x r =
      let p = parens_of outer back r.0 r.1 in
      subst (λ l. IsConstant bytes outer ((t, outer) ∷ l) x) (sym p.6)
      (subst (λ y. IsConstant bytes outer ((t, outer) ∷ (p.0, outer) ∷ (p.2 ++ (p.1, outer) ∷ [])) y) (sym r.2)
      (no_items p.2 t p.0 p.1 e p.3 p.4 p.5))

  to_constant : (ps : List (Token × ℕ)) (x : Beginning) → Form ps x → IsConstant bytes outer ps x
  to_constant ps x f =
      let o = at_one (λ (h : ConstantHead × Token). outer) (headed constant_head) f.front f.first f.begins in
      let i = is_headed constant_head o.0 f.first o.1 in
      let start : f.front ≡ (f.first.1, outer) ∷ [] = o.2 ∙ ap (λ (u : Token). (u, outer) ∷ []) i.1 in
      subst (λ l. IsConstant bytes outer l x) (sym (f.whole ∙ ap (λ l. l ++ f.back) start))
      (to_rest f.first.0 f.first.1 (ap (λ (u : Token). constant_head u.kind) (sym i.1) ∙ i.0) f.back x f.goes_on)

  form : (h : ConstantHead) (t : Token) → constant_head t.kind ≡ Some h → (back : List (Token × ℕ)) (x : Beginning) → Rest (h, t) back x
      → Form ((t, outer) ∷ back) x
  form h t e back x r =
      record {
        front = (t, outer) ∷ [];
        back = back;
        first = (h, t);
        whole = refl;
        begins = (refl, headed_is constant_head t h e);
        goes_on = r;
      }

  from_constant : (ps : List (Token × ℕ)) (x : Beginning) → IsConstant bytes outer ps x → Form ps x
  from_constant ps x (plain_int {n = n} t e) = form (first.Int n) t e [] (begins_with (integer n) t) (refl, refl)
  from_constant ps x (minus_int {n = n} t u e f) = form first.Minus t e ((u, outer) ∷ []) (begins_with (integer n) t) (n, (refl, f), refl)
  from_constant ps x (plain_text t e) = form first.Text t e [] (begins_with (text (text_at bytes t)) t) (refl, refl)
  from_constant ps x (plain_truth {b = b} t e) = form (first.Bool b) t e [] (begins_with (truth b) t) (refl, refl)
  from_constant ps x (no_capability t e) = form first.Absent t e [] (begins_with absent t) (refl, refl)
  from_constant ps x (no_items front {k = k} t u w e f i g) =
      form first.EmptyList t e ((u, outer) ∷ (front ++ (w, outer) ∷ [])) (begins_with (empty_list k) t)
      (k, of_parens outer front k u w f i g, refl)

  some_rest : (h : ConstantHead × Token) → (ps : List (Token × ℕ)) × (x : Beginning) × Rest h ps x
  unfolding negated
  some_rest (first.Int n, t) = ([], begins_with (integer n) t, (refl, refl))
  some_rest (first.Minus, t) = ((sample (kind.Int 0), outer) ∷ [], begins_with (integer (pos 0)) t, (pos 0, (refl, refl), refl))
  some_rest (first.Text, t) = ([], begins_with (text (text_at bytes t)) t, (refl, refl))
  some_rest (first.Bool b, t) = ([], begins_with (truth b) t, (refl, refl))
  some_rest (first.Absent, t) = ([], begins_with absent t, (refl, refl))
  some_rest (first.EmptyList, t) = let k = some_kind_in_parens outer in (k.0, begins_with (empty_list k.1) t, (k.1, k.2, refl))

  rest_reads : (fuel : ℕ) (h : ConstantHead) (t : Token) → Reads 32 fuel (Rest (h, t)) Anything (read_constant_rest bytes outer h t)
  unfolding negated
  rest_reads fuel (first.Int n) t = here_reads 32 fuel (begins_with (integer n) t)
  rest_reads fuel first.Minus t =
      mapped_reads 32 fuel (λ n. begins_with (integer n) t) (OneAt outer (λ (u : Token). negated u.kind)) Anything _
      (at_reads 32 fuel (λ (n : ℤ). outer) (λ (u : Token). negated u.kind) (sample (kind.Int 0)) (pos 0) refl)
  rest_reads fuel first.Text t = here_reads 32 fuel (begins_with (text (text_at bytes t)) t)
  rest_reads fuel (first.Bool b) t = here_reads 32 fuel (begins_with (truth b) t)
  rest_reads fuel first.Absent t = here_reads 32 fuel (begins_with absent t)
  rest_reads fuel first.EmptyList t =
      mapped_reads 32 fuel (λ k. begins_with (empty_list k) t) (KindInParens outer) Anything (read_kind_in_parens outer)
      (kind_in_parens_reads fuel outer)

  pub constant_reads : (fuel : ℕ) → Reads 32 fuel (IsConstant bytes outer) Anything (read_constant bytes outer)
  unfolding constant_head read_constant
  constant_reads fuel =
      same_reads 32 fuel Form (IsConstant bytes outer) Anything (read_constant bytes outer) to_constant from_constant
      (lead_reads 32 fuel (λ (h : ConstantHead × Token). outer) (headed constant_head) Rest Anything
      (λ h. read_constant_rest bytes outer h.0 h.1) some_rest (sample kind.Text) (first.Text, sample kind.Text) refl
      (λ h le. rest_reads fuel h.0 h.1))
