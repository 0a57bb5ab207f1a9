-- A text has one reading.
use Rattle.std.proofs.Common.{◌≡◌, ◌∙◌, ap, sym, refl, subst, ℕ, zero, suc, ◌+◌, true, false, List, [], ◌∷◌, ◌++◌, length, Ok, inl, inr, arith}
use Rattle.std.proofs.lemmas.Bool.{cases_order}
use Rattle.script_words.specs.Causes.{rank}
use Rattle.script_words.specs.declared.cause.ScriptCause.{ScriptCause}
use Rattle.script_words.specs.declared.cause.ScriptCause.TheVariants.{BadByte, LongLine, AfterEnd, NoCommand, Misplaced, BadForm}
use Rattle.script_words.specs.declared.cause.ScriptCause.TheVariants.{BadNumber, UnknownName, UnknownType, DoubledName, BadEdentype}
use Rattle.script_words.specs.declared.cause.ScriptCause.TheVariants.{NoEnd}
use Rattle.script_words.proofs.Pieces.{same_ok}
use Rattle.script_words.specs.Causes.{first_word}
use Rattle.script_words.specs.Lines.{lines_of}
use Rattle.line_forms.specs.Forms.{Form, Kind, Row, Line, idle, begins, does, finish, Which, which}
use Rattle.line_forms.specs.Spelling.{SpellsForm}
use Rattle.line_forms.specs.Tests.{Seen, at_first, NumbersFit, places_of, LineTells, IsSaid, IsCause}
use Rattle.line_forms.specs.Reading.{read_form}
use Rattle.line_forms.specs.Scripts.{after, rows_of, Says}
use Rattle.line_forms.specs.One.{IsPlain, ScriptsAreOne}
use Rattle.line_forms.proofs.Formed.{Told, form_whole}
use Rattle.line_forms.proofs.Verdicts.{index_of, form_or, first_unknown, end_unknown, other_unknown, end_first, other_first, other_end}

one_told : (most : ℕ) (f : Form) (bytes : List ℕ) (r q : Told) → read_form most f bytes ≡ Ok r → read_form most f bytes ≡ Ok q → r ≡ q
one_told most f bytes r q h g = same_ok r q (sym h ∙ g)

-- a line says one thing
pub one_line : (kind : Kind) → IsPlain kind → (seen : Seen) (bytes : List ℕ) (l k : Line) → LineTells kind seen bytes l
    → LineTells kind seen bytes k → l ≡ k
one_line kind plain seen bytes idle idle t u = refl
one_line kind plain seen bytes idle (begins ns e) t u = absurd (first_unknown (sym u.0.0 ∙ plain bytes t.0))
one_line kind plain seen bytes idle (does r) t u = absurd (other_unknown r.form u.0.0 (sym u.0.1 ∙ plain bytes t.0))
one_line kind plain seen bytes idle finish t u = absurd (end_unknown (sym u.0.0 ∙ plain bytes t.0))
one_line kind plain seen bytes (begins ns e) idle t u = absurd (first_unknown (sym t.0.0 ∙ plain bytes u.0))
one_line kind plain seen bytes (begins ns e) (begins ms d) t u =
    ap (λ (r : Told). begins r.0 r.1)
    (one_told 0 kind.first bytes (ns, e) (ms, d) ((form_whole 0 kind.first ns e bytes t.0.1).fits t.1)
    ((form_whole 0 kind.first ms d bytes u.0.1).fits u.1))
one_line kind plain seen bytes (begins ns e) (does r) t u = absurd (other_first r.form u.0.0 (sym u.0.1 ∙ t.0.0))
one_line kind plain seen bytes (begins ns e) finish t u = absurd (end_first (sym u.0.0 ∙ t.0.0))
one_line kind plain seen bytes (does r) idle t u = absurd (other_unknown r.form t.0.0 (sym t.0.1 ∙ plain bytes u.0))
one_line kind plain seen bytes (does r) (begins ns e) t u = absurd (other_first r.form t.0.0 (sym t.0.1 ∙ u.0.0))
one_line kind plain seen bytes (does r) finish t u = absurd (other_end r.form t.0.0 (sym t.0.1 ∙ u.0.0))
one_line kind plain seen bytes (does r) (does q) t u =
    let f = t.0.0 in
    let same = sym t.0.1 ∙ u.0.1 in
    let same_i : r.form ≡ q.form = ap index_of same in
    let same_f : f ≡ u.0.0 = ap (form_or f) same in
    let fit = λ (ns : List ℕ) (h : NumbersFit seen.most (places_of (which kind (first_word bytes))) ns).
    subst (λ (x : Which). NumbersFit seen.most (places_of x) ns) t.0.1 h in
    let a = (form_whole seen.most f r.numbers r.last bytes t.0.2).fits (fit r.numbers t.1.0, t.1.1) in
    let s = subst (λ (g : Form). SpellsForm g q.numbers q.last bytes) (sym same_f) u.0.2 in
    let b = (form_whole seen.most f q.numbers q.last bytes s).fits (fit q.numbers u.1.0, u.1.1) in
    ap (λ (i : ℕ). does (record { form = i; numbers = r.numbers; last = r.last })) same_i
    ∙ ap (λ (x : Told). does (record { form = q.form; numbers = x.0; last = x.1 }))
    (one_told seen.most f bytes (r.numbers, r.last) (q.numbers, q.last) a b)
one_line kind plain seen bytes finish idle t u = absurd (end_unknown (sym t.0.0 ∙ plain bytes u.0))
one_line kind plain seen bytes finish (begins ns e) t u = absurd (end_first (sym t.0.0 ∙ u.0.0))
one_line kind plain seen bytes finish (does r) t u = absurd (other_end r.form u.0.0 (sym u.0.1 ∙ t.0.0))
one_line kind plain seen bytes finish finish t u = refl

-- lines from one state on
same_says : (kind : Kind) → IsPlain kind → (lines : List (List ℕ)) (seen : Seen) (a b : List Row) (s t : Seen) → Says kind seen lines a s
    → Says kind seen lines b t → (a ≡ b) × (s ≡ t)
same_says kind plain [] seen a b s t x y = (x.0 ∙ sym y.0, x.1 ∙ sym y.1)
same_says kind plain (bytes ∷ lines) seen a b s t x y =
    let e : x.0 ≡ y.0 = one_line kind plain seen bytes x.0 y.0 x.2.tells y.2.tells in
    let r =
    same_says kind plain lines (after seen x.0) x.1 y.1 s t x.4 (subst (λ l. Says kind (after seen l) lines y.1 t) (sym e) y.4) in
    (x.3 ∙ ap (λ l. rows_of l ++ x.1) e ∙ ap (λ (l : List Row). rows_of y.0 ++ l) r.0 ∙ sym y.3, r.1)

pub no_cause : (kind : Kind) (seen : Seen) (bytes : List ℕ) (l : Line) (c : ScriptCause) → IsSaid kind seen bytes l → IsCause kind seen bytes c → ⊥
no_cause kind seen bytes l c x y = y.fails (x.passes c)

abbrev ranked : ℕ → ScriptCause
ranked zero = BadByte
ranked (suc zero) = LongLine
ranked (suc (suc zero)) = AfterEnd
ranked (suc (suc (suc zero))) = NoCommand
ranked (suc (suc (suc (suc zero)))) = Misplaced
ranked (suc (suc (suc (suc (suc zero))))) = BadForm
ranked (suc (suc (suc (suc (suc (suc zero)))))) = BadNumber
ranked (suc (suc (suc (suc (suc (suc (suc zero))))))) = UnknownName
ranked (suc (suc (suc (suc (suc (suc (suc (suc zero)))))))) = UnknownType
ranked (suc (suc (suc (suc (suc (suc (suc (suc (suc zero))))))))) = DoubledName
ranked (suc (suc (suc (suc (suc (suc (suc (suc (suc (suc zero)))))))))) = BadEdentype
ranked (suc (suc (suc (suc (suc (suc (suc (suc (suc (suc (suc n))))))))))) = NoEnd

ranked_rank : (c : ScriptCause) → ranked (rank c) ≡ c
ranked_rank BadByte = refl
ranked_rank LongLine = refl
ranked_rank AfterEnd = refl
ranked_rank NoCommand = refl
ranked_rank Misplaced = refl
ranked_rank BadForm = refl
ranked_rank BadNumber = refl
ranked_rank UnknownName = refl
ranked_rank UnknownType = refl
ranked_rank DoubledName = refl
ranked_rank BadEdentype = refl
ranked_rank NoEnd = refl

one_cause : (kind : Kind) (seen : Seen) (bytes : List ℕ) (c d : ScriptCause) → IsCause kind seen bytes c → IsCause kind seen bytes d → c ≡ d
one_cause kind seen bytes c d x y =
    elim (cases_order (rank c) (rank d)) [
      | inl e ↦ sym (ranked_rank c) ∙ ap ranked e ∙ ranked_rank d
      | inr o ↦ elim o [ inl s ↦ absurd (x.fails (y.before c s)) | inr s ↦ absurd (y.fails (x.before d s)) ]
    ]

-- a bad line behind some lines, and lines that all are said
said_not_bad : (kind : Kind) → IsPlain kind → (before : List (List ℕ)) (bad : List ℕ) (behind lines : List (List ℕ)) (seen : Seen)
    (a b : List Row) (s t : Seen) (c : ScriptCause)
    → lines ≡ before ++ bad ∷ behind → Says kind seen lines a s → Says kind seen before b t → IsCause kind t bad c → ⊥
said_not_bad kind plain [] bad behind lines seen a b s t c e x y h =
    let z = subst (λ ps. Says kind seen ps a s) e x in
    no_cause kind seen bad z.0 c z.2 (subst (λ t. IsCause kind t bad c) y.1 h)
said_not_bad kind plain (p ∷ before) bad behind lines seen a b s t c e x y h =
    let z = subst (λ ps. Says kind seen ps a s) e x in
    let same : y.0 ≡ z.0 = one_line kind plain seen p y.0 z.0 y.2.tells z.2.tells in
    said_not_bad kind plain before bad behind (before ++ bad ∷ behind) (after seen z.0) z.1 y.1 s t c refl z.4
    (subst (λ k. Says kind (after seen k) before y.1 t) same y.4) h

abbrev head_or : List ℕ → List (List ℕ) → List ℕ
head_or z [] = z
head_or z (p ∷ ps) = p

abbrev tail_of : List (List ℕ) → List (List ℕ)
tail_of [] = []
tail_of (p ∷ ps) = ps

-- two first bad lines
two_bad : (kind : Kind) → IsPlain kind → (f : List (List ℕ)) (x : List ℕ) (u g : List (List ℕ)) (y : List ℕ) (v : List (List ℕ)) (seen : Seen)
    (a b : List Row) (s t : Seen) (c d : ScriptCause)
    → f ++ x ∷ u ≡ g ++ y ∷ v → Says kind seen f a s → Says kind seen g b t → IsCause kind s x c → IsCause kind t y d → (f ≡ g) × (c ≡ d)
two_bad kind plain [] x u [] y v seen a b s t c d e p q h k =
    let same : x ≡ y = ap (head_or x) e in (
      refl,
      one_cause kind seen x c d (subst (λ s. IsCause kind s x c) p.1 h)
          (subst (λ z. IsCause kind seen z d) (sym same) (subst (λ t. IsCause kind t y d) q.1 k)),
    )
two_bad kind plain [] x u (m ∷ g) y v seen a b s t c d e p q h k =
    absurd (no_cause kind seen m q.0 c q.2 (subst (λ z. IsCause kind seen z c) (ap (head_or x) e) (subst (λ s. IsCause kind s x c) p.1 h)))
two_bad kind plain (l ∷ f) x u [] y v seen a b s t c d e p q h k =
    absurd (no_cause kind seen l p.0 d p.2
    (subst (λ z. IsCause kind seen z d) (sym (ap (head_or y) e)) (subst (λ t. IsCause kind t y d) q.1 k)))
two_bad kind plain (l ∷ f) x u (m ∷ g) y v seen a b s t c d e p q h k =
    let first : l ≡ m = ap (head_or l) e in
    let rest : f ++ x ∷ u ≡ g ++ y ∷ v = ap tail_of e in
    let q0 = subst (λ z. IsSaid kind seen z q.0) (sym first) q.2 in
    let same : q.0 ≡ p.0 = one_line kind plain seen l q.0 p.0 q0.tells p.2.tells in
    let r =
    two_bad kind plain f x u g y v (after seen p.0) p.1 q.1 s t c d rest p.4 (subst (λ k. Says kind (after seen k) g q.1 t) same q.4) h k in
    (ap (λ (ps : List (List ℕ)). l ∷ ps) r.0 ∙ ap (λ (p : List ℕ). p ∷ g) first, r.1)

both : true ≡ false → ⊥
both e = cc

pub scripts_are_one : ScriptsAreOne
scripts_are_one kind bytes plain =
    let lines = lines_of bytes in
    record {
      script = λ m n rows others x y.
          let r = same_says kind plain lines at_first rows others x.end y.end x.says y.says in
          (sym x.number ∙ ap (λ (s : Seen). s.most) r.1 ∙ y.number, r.0);
      apart = λ n line rows c x y. elim y.bad [
        | inl h ↦ said_not_bad kind plain y.before h.0 h.1 lines at_first rows y.rows x.end y.end c h.2 x.says y.says h.4
        | inr h ↦ both
            (sym x.ended ∙ ap (λ (s : Seen). s.ended) (same_says kind plain lines at_first rows y.rows x.end y.end x.says
            (subst (λ ps. Says kind at_first ps y.rows y.end) (sym h.0) y.says)).1 ∙ h.2)
      ];
      bad = λ i j c d x y. elim x.bad [
        | inl h ↦ elim y.bad [
          | inl k ↦
              (let r = two_bad kind plain x.before h.0 h.1 y.before k.0 k.1 at_first x.rows y.rows x.end y.end c d
              (sym h.2 ∙ k.2) x.says y.says h.4 k.4 in
              (omega (arith, h.3, k.3, ap length r.0), r.1))
          | inr k ↦ absurd
              (said_not_bad kind plain x.before h.0 h.1 lines at_first y.rows x.rows y.end x.end c h.2
              (subst (λ ps. Says kind at_first ps y.rows y.end) (sym k.0) y.says) x.says h.4)
        ]
        | inr h ↦ elim y.bad [
          | inl k ↦ absurd
              (said_not_bad kind plain y.before k.0 k.1 lines at_first x.rows y.rows x.end y.end d k.2
              (subst (λ ps. Says kind at_first ps x.rows x.end) (sym h.0) x.says) y.says k.4)
          | inr k ↦ (h.1 ∙ ap (λ (ps : List (List ℕ)). length ps + 1) (sym h.0 ∙ k.0) ∙ sym k.1, h.3 ∙ sym k.3)
        ]
      ];
    }
