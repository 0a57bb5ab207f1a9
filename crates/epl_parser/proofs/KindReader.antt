-- The reader of kinds reads its grammar.
use Rattle.std.proofs.Common.{◌≡◌, ℕ, zero, suc, ◌+◌, ◌<◌, ◌≤◌, List, [], ◌∷◌, ◌++◌, Some, refl, sym, ap, ◌∙◌, subst, arith, max}
use Rattle.grammar.specs.Grammar.{Grammar, Nothing, Then, Mapped}
use Rattle.grammar.specs.Depths.{Placed, At, Looker, Reads}
use Rattle.grammar.proofs.Lookers.{then_reads}
use Rattle.grammar.proofs.Choices.{Anything, same_reads, here_reads, mapped_reads, at_reads}
use Rattle.grammar.proofs.Leads.{at_one, lead_reads}
use Rattle.grammar.specs.Marked.{Marked}
use Rattle.grammar.proofs.Marked.{marked_reads}
use Rattle.eden_value.specs.Shape.{Shape, ints, truths, texts, caps, lists}
use Rattle.epl_syntax.specs.declared.token.Token.{Token}
use Rattle.epl_syntax.specs.declared.token.TokenKind.{TokenKind}
use Rattle.epl_syntax.specs.declared.token.TokenKind.TheVariants as kind
use Rattle.epl_syntax.specs.declared.word.Word.TheVariants as word
use Rattle.epl_parser.specs.declared.head.KindHead.{KindHead}
use Rattle.epl_parser.specs.declared.head.KindHead.TheVariants as head
use Rattle.epl_syntax.specs.Tree.{PlacedShape}
use Rattle.epl_parser.specs.OneToken.{the_word, OneAt}
use Rattle.epl_parser.proofs.SingleTokens.{is_the_word, the_word_is}
use Rattle.epl_parser.specs.WrittenKinds.{kind_head, IsKind, int_kind, bool_kind, text_kind, cap_kind, list_kind}
use Rattle.epl_parser.specs.WrittenKinds.{read_kind_rest, read_kind_by, inner_kind, at_place, IsWrittenKind}
use Rattle.epl_parser.specs.WrittenKinds.{read_kind, read_written_kind}

-- some token of a kind
abbrev pub sample : TokenKind → Token
sample k = record { kind = k; start = 0; end = 0 }

module _ (outer : ℕ) where
  abbrev Rest : ℕ → KindHead → Grammar (Placed Token) Shape
  Rest d head.Int = Nothing ints
  Rest d head.Bool = Nothing truths
  Rest d head.Text = Nothing texts
  Rest d head.Cap = Nothing caps
  Rest d head.List = Then (OneAt (max outer d) (the_word word.Of)) (λ u. Mapped lists (IsKind outer (suc d)))

  abbrev Form : ℕ → Grammar (Placed Token) Shape
  Form d = Then (At (λ h. max outer d) (λ t. kind_head t.kind)) (Rest d)

  to_rest : (d : ℕ) (t : Token) (h : KindHead) → kind_head t.kind ≡ Some h → (back : List (Token × ℕ)) (s : Shape) → Rest d h back s
      → IsKind outer d ((t, max outer d) ∷ back) s
  to_rest d t head.Int e back s r =
      subst (λ l. IsKind outer d ((t, max outer d) ∷ l) s) (sym r.0)
      (subst (λ x. IsKind outer d ((t, max outer d) ∷ []) x) (sym r.1) (int_kind t e))
  to_rest d t head.Bool e back s r =
      subst (λ l. IsKind outer d ((t, max outer d) ∷ l) s) (sym r.0)
      (subst (λ x. IsKind outer d ((t, max outer d) ∷ []) x) (sym r.1) (bool_kind t e))
  to_rest d t head.Text e back s r =
      subst (λ l. IsKind outer d ((t, max outer d) ∷ l) s) (sym r.0)
      (subst (λ x. IsKind outer d ((t, max outer d) ∷ []) x) (sym r.1) (text_kind t e))
  to_rest d t head.Cap e back s r =
      subst (λ l. IsKind outer d ((t, max outer d) ∷ l) s) (sym r.0)
      (subst (λ x. IsKind outer d ((t, max outer d) ∷ []) x) (sym r.1) (cap_kind t e))
  to_rest d t head.List e back s r =
      let u = at_one (λ (u : Token). max outer d) (the_word word.Of) r.front r.first r.begins in
      let i = is_the_word word.Of u.0 r.first u.1 in
      let shape : back ≡ (u.0, max outer d) ∷ r.back = r.whole ∙ ap (λ l. l ++ r.back) u.2 in
      subst (λ l. IsKind outer d ((t, max outer d) ∷ l) s) (sym shape)
      (subst (λ x. IsKind outer d ((t, max outer d) ∷ (u.0, max outer d) ∷ r.back) x) (sym r.goes_on.2) (list_kind t u.0 e i.0 r.goes_on.1))

  to_kind : (d : ℕ) (ps : List (Token × ℕ)) (s : Shape) → Form d ps s → IsKind outer d ps s
  to_kind d ps s r =
      let t = at_one (λ h. max outer d) (λ t. kind_head t.kind) r.front r.first r.begins in
      subst (λ l. IsKind outer d l s) (sym (r.whole ∙ ap (λ l. l ++ r.back) t.2)) (to_rest d t.0 r.first t.1 r.back s r.goes_on)

  form : (d : ℕ) (t : Token) (h : KindHead) → kind_head t.kind ≡ Some h → (back : List (Token × ℕ)) (s : Shape) → Rest d h back s
      → Form d ((t, max outer d) ∷ back) s
  form d t h e back s r = record { front = (t, max outer d) ∷ []; back = back; first = h; whole = refl; begins = (refl, e); goes_on = r }

  from_kind : (d : ℕ) (ps : List (Token × ℕ)) (s : Shape) → IsKind outer d ps s → Form d ps s
  from_kind d ps s (int_kind t e) = form d t head.Int e [] ints (refl, refl)
  from_kind d ps s (bool_kind t e) = form d t head.Bool e [] truths (refl, refl)
  from_kind d ps s (text_kind t e) = form d t head.Text e [] texts (refl, refl)
  from_kind d ps s (cap_kind t e) = form d t head.Cap e [] caps (refl, refl)
  from_kind d ps s (list_kind {ps = qs} {s = x} t u e f k) =
      form d t head.List e ((u, max outer d) ∷ qs) (lists x)
      (record {
        front = (u, max outer d) ∷ [];
        back = qs;
        first = u;
        whole = refl;
        begins = (refl, the_word_is word.Of u f);
        goes_on = (x, k, refl);
      })

  -- each rest has a spelling
  some_rest : (d : ℕ) (h : KindHead) → (ps : List (Token × ℕ)) × (s : Shape) × Rest d h ps s
  unfolding kind_head
  some_rest d head.Int = ([], ints, (refl, refl))
  some_rest d head.Bool = ([], truths, (refl, refl))
  some_rest d head.Text = ([], texts, (refl, refl))
  some_rest d head.Cap = ([], caps, (refl, refl))
  some_rest d head.List = (
    (sample (kind.Word word.Of), max outer d) ∷ (sample (kind.Word word.Int), max outer (suc d)) ∷ [],
    lists ints,
    record {
      front = (sample (kind.Word word.Of), max outer d) ∷ [];
      back = (sample (kind.Word word.Int), max outer (suc d)) ∷ [];
      first = sample (kind.Word word.Of);
      whole = refl;
      begins = (refl, the_word_is word.Of (sample (kind.Word word.Of)) refl);
      goes_on = (ints, int_kind (sample (kind.Word word.Int)) refl, refl);
    },
  )

  rest_reads : (fuel d : ℕ) (inner : Looker Token Shape) → Reads 32 fuel (IsKind outer (suc d)) Anything inner → (h : KindHead)
      → Reads 32 fuel (Rest d h) Anything (read_kind_rest inner outer d h)
  rest_reads fuel d inner k head.Int = here_reads 32 fuel ints
  rest_reads fuel d inner k head.Bool = here_reads 32 fuel truths
  rest_reads fuel d inner k head.Text = here_reads 32 fuel texts
  rest_reads fuel d inner k head.Cap = here_reads 32 fuel caps
  rest_reads fuel d inner k head.List =
      then_reads 32 fuel fuel 0 (OneAt (max outer d) (the_word word.Of)) (λ u. Mapped lists (IsKind outer (suc d))) Anything Anything _ _
      (at_reads 32 fuel (λ (u : Token). max outer d) (the_word word.Of) (sample (kind.Word word.Of)) (sample (kind.Word word.Of))
      (the_word_is word.Of (sample (kind.Word word.Of)) refl))
      (λ ps u p. mapped_reads 32 fuel lists (IsKind outer (suc d)) Anything inner k)
      (λ ps u p. omega arith) (omega arith) (λ ps u p qs s q v f. tt)

  kind_reads_by : (fuel d : ℕ) (inner : Looker Token Shape) → (max outer d ≤ 32 → Reads 32 fuel (IsKind outer (suc d)) Anything inner)
      → Reads 32 fuel (IsKind outer d) Anything (read_kind_by inner outer d)
  unfolding kind_head
  kind_reads_by fuel d inner k =
      same_reads 32 fuel (Form d) (IsKind outer d) Anything (read_kind_by inner outer d) (to_kind d) (from_kind d)
      (lead_reads 32 fuel (λ h. max outer d) (λ t. kind_head t.kind) (Rest d) Anything (read_kind_rest inner outer d) (some_rest d)
      (sample (kind.Word word.Int)) head.Int refl
      (λ h le. rest_reads fuel d inner (k le) h))

  inner_reads : (fuel n d : ℕ) → 33 < d + n → d ≤ 33 → Reads 32 fuel (IsKind outer d) Anything (inner_kind n outer d)
  unfolding inner_kind
  inner_reads fuel zero d h le = absurd (omega arith)
  inner_reads fuel (suc n) d h le =
      kind_reads_by fuel d (inner_kind n outer (suc d)) (λ fits. inner_reads fuel n (suc d) (omega arith) (omega arith))

  pub kind_reads : (fuel n d : ℕ) → 32 < d + n → Reads 32 fuel (IsKind outer d) Anything (read_kind n outer d)
  unfolding read_kind
  kind_reads fuel n d h = kind_reads_by fuel d (inner_kind n outer (suc d)) (λ fits. inner_reads fuel n (suc d) (omega arith) (omega arith))

  no_kind : (d : ℕ) (s : Shape) → IsKind outer d [] s → ⊥
  no_kind d s k = empty [] s k refl
    where
      empty : (ps : List (Token × ℕ)) (s : Shape) → IsKind outer d ps s → ps ≡ [] → ⊥
      empty ps s (int_kind t e) h = absurd (cc)
      empty ps s (bool_kind t e) h = absurd (cc)
      empty ps s (text_kind t e) h = absurd (cc)
      empty ps s (cap_kind t e) h = absurd (cc)
      empty ps s (list_kind t u e f k) h = absurd (cc)

  pub some_kind : (ps : List (Token × ℕ)) × (k : PlacedShape) × IsWrittenKind outer ps k
  unfolding kind_head
  some_kind = (
    (sample (kind.Word word.Int), max outer 1) ∷ [],
    at_place (ints, 0),
    ((ints, 0), (int_kind (sample (kind.Word word.Int)) refl, refl), refl),
  )

  pub written_kind_reads : (fuel : ℕ) → Reads 32 fuel (IsWrittenKind outer) Anything (read_written_kind outer)
  written_kind_reads fuel =
      mapped_reads 32 fuel at_place (Marked (λ (t : Token). t.start) (IsKind outer 1)) Anything _
      (marked_reads 32 fuel (λ (t : Token). t.start) (IsKind outer 1) Anything (read_kind 32 outer 1) (no_kind 1)
      (kind_reads fuel 32 1 (omega arith)))
