-- Where rows begin.
use Rattle.std.proofs.Common.{◌≡◌, ◌∙◌, ap, sym, refl, subst, ℕ, ◌+◌, ◌-◌, ◌<◌, Bool, true, false, List, [], ◌∷◌, ◌++◌, length, drop, inl, inr, arith}
use Rattle.std.proofs.Common.{append_assoc, append-nil, length-append, length-drop, take}
use Rattle.std.proofs.Math.Seq.{drop-append_seam, take-length}
use Rattle.script_words.specs.Lines.{lines_of, IsFirstLine}
use Rattle.script_words.specs.declared.cause.ScriptCause.{ScriptCause}
use Rattle.script_words.specs.declared.cause.ScriptCause.TheVariants.{AfterEnd}
use Rattle.line_forms.specs.Forms.{Kind, Row, Line, idle, begins, does, finish, the_first, other}
use Rattle.line_forms.specs.One.{IsPlain}
use Rattle.line_forms.specs.Scripts.{after, rows_of}
use Rattle.line_forms.specs.Spots.{begun_with, IsRowAt, AreAt, spots_of}
use Rattle.line_forms.specs.Tests.{Seen, at_first, IsSaid, IsCause}
use Rattle.line_forms.proofs.Fitting.{placed, behind_first}
use Rattle.line_forms.proofs.Run.{Run, run_first, run_step}
use Rattle.line_forms.proofs.Unique.{one_line, no_cause}
use Rattle.line_forms.proofs.Verdicts.{first_unknown, other_unknown, other_first}

-- ## Behind the first line

seen_is : (seen : Seen) → seen.begun ≡ true → seen.ended ≡ false → seen ≡ begun_with seen.most
seen_is seen b e =
    ap {B = Seen} (λ (x : Bool). record { begun = x; most = seen.most; ended = seen.ended }) b
    ∙ ap {B = Seen} (λ (x : Bool). record { begun = true; most = seen.most; ended = x }) e

module _ (kind : Kind) (plain : IsPlain kind) (seen : Seen) (line : List ℕ) (r : Row) (said : IsSaid kind seen line (does r)) where
  row_begun : seen.begun ≡ true
  row_begun =
      let t = said.tells in
      let f = t.0.0 in
      behind_first kind plain seen line (does r) said (other r.form f) t.0.1 (other_unknown r.form f) (other_first r.form f)

  row_open : seen.ended ≡ false
  row_open =
      let t = said.tells in
      elim (said.passes AfterEnd) [
        | inl i ↦ absurd (other_unknown r.form t.0.0 (sym t.0.1 ∙ plain line i))
        | inr e ↦ e
      ]

  row_said : IsSaid kind (begun_with seen.most) line (does r)
  row_said = subst (λ (s : Seen). IsSaid kind s line (does r)) (seen_is seen row_begun row_open) said

-- ## Rows at their spots

at_both : (kind : Kind) (bytes : List ℕ) (most : ℕ) (spots : List ℕ) (rows : List Row) (more : List ℕ) (later : List Row)
    → AreAt kind bytes most spots rows → AreAt kind bytes most more later → AreAt kind bytes most (spots ++ more) (rows ++ later)
at_both kind bytes most [] [] more later h g = g
at_both kind bytes most [] (r ∷ rows) more later h g = absurd h
at_both kind bytes most (s ∷ spots) [] more later h g = absurd h
at_both kind bytes most (s ∷ spots) (r ∷ rows) more later h g = (h.0, at_both kind bytes most spots rows more later h.1 g)

-- where there is no row, the number of the first line does not matter
at_none : (kind : Kind) (bytes : List ℕ) (most other_ : ℕ) (spots : List ℕ) → AreAt kind bytes most spots [] → AreAt kind bytes other_ spots []
at_none kind bytes most other_ [] h = tt
at_none kind bytes most other_ (s ∷ spots) h = absurd h

at_line : (kind : Kind) → IsPlain kind → (bytes line : List ℕ) (behind : List (List ℕ)) (spot : ℕ) (seen : Seen) (l : Line)
    (spots : List ℕ) (rows : List Row)
    → lines_of (drop spot bytes) ≡ line ∷ behind → IsSaid kind seen line l → (seen.begun ≡ false → rows ≡ [])
    → AreAt kind bytes seen.most spots rows → AreAt kind bytes (after seen l).most (spots ++ spots_of spot l) (rows ++ rows_of l)
at_line kind plain bytes line behind spot seen idle spots rows cut said none h =
    at_both kind bytes seen.most spots rows [] [] h tt
at_line kind plain bytes line behind spot seen (begins ns e) spots rows cut said none h =
    let l = begins ns e in
    let closed : seen.begun ≡ false = (placed kind plain seen line l said the_first said.tells.0.0 first_unknown).0 refl in
    let empty = none closed in
    at_both kind bytes (after seen l).most spots rows [] []
    (subst (λ (rs : List Row). AreAt kind bytes (after seen l).most spots rs) (sym empty)
    (at_none kind bytes seen.most (after seen l).most spots (subst (λ (rs : List Row). AreAt kind bytes seen.most spots rs) empty h))) tt
at_line kind plain bytes line behind spot seen (does r) spots rows cut said none h =
    at_both kind bytes seen.most spots rows (spot ∷ []) (r ∷ []) h
    (record { line = line; behind = behind; cut = cut; said = row_said kind plain seen line r said }, tt)
at_line kind plain bytes line behind spot seen finish spots rows cut said none h =
    at_both kind bytes seen.most spots rows [] [] h tt

both : true ≡ false → ⊥
both e = cc

none_line : (kind : Kind) → IsPlain kind → (line : List ℕ) (seen : Seen) (l : Line) (rows : List Row) → IsSaid kind seen line l
    → (seen.begun ≡ false → rows ≡ []) → (after seen l).begun ≡ false → rows ++ rows_of l ≡ []
none_line kind plain line seen idle rows said none h = append-nil rows ∙ none h
none_line kind plain line seen (begins ns e) rows said none h = absurd (both h)
none_line kind plain line seen (does r) rows said none h = absurd (both (sym (row_begun kind plain seen line r said) ∙ h))
none_line kind plain line seen finish rows said none h = append-nil rows ∙ none h

-- ## Line by line

-- a rest is the back of the text
abbrev IsBack : List ℕ → List ℕ → Type 0
IsBack bytes rest = (front : List ℕ) × (bytes ≡ front ++ rest)

back_step : (bytes rest line behind : List ℕ) → IsBack bytes rest → IsFirstLine rest line behind → IsBack bytes behind
back_step bytes rest line behind b cut =
    elim cut.split [
      | inl e ↦ (
        b.0 ++ (line ++ 10 ∷ []),
        b.1 ∙ ap (λ (l : List ℕ). b.0 ++ l) (e ∙ sym (append_assoc line (10 ∷ []) behind))
            ∙ sym (append_assoc b.0 (line ++ 10 ∷ []) behind),
      )
      | inr e ↦ (bytes, sym (append-nil bytes) ∙ ap (λ (l : List ℕ). bytes ++ l) (sym e.1))
    ]

back_drop : (bytes rest : List ℕ) (spot : ℕ) → IsBack bytes rest → spot ≡ length bytes - length rest → drop spot bytes ≡ rest
back_drop bytes rest spot b e =
    let long : length bytes ≡ length b.0 + length rest = ap (λ (l : List ℕ). length l) b.1 ∙ length-append b.0 rest in
    let same : spot ≡ length b.0 = omega (arith, e, long) in
    ap (λ (n : ℕ). drop n bytes) same ∙ ap (λ (l : List ℕ). drop (length b.0) l) b.1 ∙ drop-append_seam b.0 rest

-- the bytes from a spot on, as code cuts them off
pub slice_back : (bytes : List ℕ) (spot : ℕ) → take (length bytes - spot) (drop spot bytes) ≡ drop spot bytes
slice_back bytes spot = ap (λ (n : ℕ). take n (drop spot bytes)) (sym (length-drop spot bytes)) ∙ take-length (drop spot bytes)

-- The text was read up to this rest, and the rows so far begin at these spots.
pub record HasRead (kind : Kind) (bytes rest spots : List ℕ) (seen : Seen) (lines : ℕ) : Type 0 where
  pub rows : List Row
  pub run : Run kind bytes rest rows seen lines
  pub back : IsBack bytes rest
  pub at : IsPlain kind → AreAt kind bytes seen.most spots rows
  pub none : IsPlain kind → seen.begun ≡ false → rows ≡ []

pub read_first : (kind : Kind) (bytes : List ℕ) → HasRead kind bytes bytes [] at_first 0
read_first kind bytes = record {
  rows = [];
  run = run_first kind bytes;
  back = ([], refl);
  at = λ plain. tt;
  none = λ plain e. refl;
}

pub read_step : (kind : Kind) (bytes rest line behind spots : List ℕ) (seen : Seen) (lines spot : ℕ) (l : Line) (now : List ℕ) (next : Seen)
    → HasRead kind bytes rest spots seen lines → lines_of rest ≡ line ∷ lines_of behind → IsFirstLine rest line behind
    → IsSaid kind seen line l → spot ≡ length bytes - length rest → now ≡ spots ++ spots_of spot l → next ≡ after seen l
    → HasRead kind bytes behind now next (lines + 1)
read_step kind bytes rest line behind spots seen lines spot l now next h cut first said place same then_ =
    let here : lines_of (drop spot bytes) ≡ line ∷ lines_of behind = ap lines_of (back_drop bytes rest spot h.back place) ∙ cut in
    subst (λ (s : Seen). HasRead kind bytes behind now s (lines + 1)) (sym then_)
    (subst (λ (ns : List ℕ). HasRead kind bytes behind ns (after seen l) (lines + 1)) (sym same) (record {
      rows = h.rows ++ rows_of l;
      run = run_step kind bytes rest line behind h.rows seen lines l (h.rows ++ rows_of l) (after seen l) h.run cut said refl refl;
      back = back_step bytes rest line behind h.back first;
      at = λ plain. at_line kind plain bytes line (lines_of behind) spot seen l spots h.rows here said (h.none plain) (h.at plain);
      none = λ plain. none_line kind plain line seen l h.rows said (h.none plain);
    }))

-- ## A row read again

abbrev head_or : List ℕ → List (List ℕ) → List ℕ
head_or z [] = z
head_or z (p ∷ ps) = p

abbrev row_or : Row → Line → Row
row_or q (does r) = r
row_or q _ = q

some_bytes : (bytes line : List ℕ) (behind : List (List ℕ)) → lines_of bytes ≡ line ∷ behind → 0 < length bytes
some_bytes [] line behind h = absurd cc
some_bytes (b ∷ bytes) line behind h = omega arith

module _ (kind : Kind) (bytes : List ℕ) (most spot : ℕ) (r : Row) (there : IsRowAt kind bytes most spot r) where
  pub row_bytes : 0 < length (drop spot bytes)
  row_bytes = some_bytes (drop spot bytes) there.line there.behind there.cut

  pub same_line : (line : List ℕ) (behind : List (List ℕ)) → lines_of (drop spot bytes) ≡ line ∷ behind
      → IsSaid kind (begun_with most) line (does r)
  same_line line behind cut =
      subst (λ (l : List ℕ). IsSaid kind (begun_with most) l (does r)) (ap (head_or line) (sym there.cut ∙ cut)) there.said

  pub same_row : IsPlain kind → (line : List ℕ) (behind : List (List ℕ)) (l : Line) → lines_of (drop spot bytes) ≡ line ∷ behind
      → IsSaid kind (begun_with most) line l → does r ≡ l
  same_row plain line behind l cut said =
      one_line kind plain (begun_with most) line (does r) l (same_line line behind cut).tells said.tells

  pub no_bad : (line : List ℕ) (behind : List (List ℕ)) (c : ScriptCause) → lines_of (drop spot bytes) ≡ line ∷ behind
      → IsCause kind (begun_with most) line c → ⊥
  no_bad line behind c cut bad = no_cause kind (begun_with most) line (does r) c (same_line line behind cut) bad

  pub read_row : IsPlain kind → (line : List ℕ) (behind : List (List ℕ)) (q : Row) → lines_of (drop spot bytes) ≡ line ∷ behind
      → IsSaid kind (begun_with most) line (does q) → r ≡ q
  read_row plain line behind q cut said = ap (row_or r) (same_row plain line behind (does q) cut said)
