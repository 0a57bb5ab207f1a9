-- How a script is read line by line.
use Rattle.std.proofs.Common.{◌≡◌, ap, sym, refl, subst, ℕ, ◌+◌, true, false, List, [], ◌∷◌, ◌++◌, inl, inr, arith}
use Rattle.std.proofs.Common.{append_assoc, append-nil}
use Rattle.script_words.specs.Lines.{lines_of}
use Rattle.script_words.specs.declared.cause.ScriptCause.{ScriptCause}
use Rattle.script_words.specs.declared.cause.ScriptCause.TheVariants.{NoEnd}
use Rattle.line_forms.specs.Forms.{Kind, Row, Line}
use Rattle.line_forms.specs.Tests.{Seen, at_first, IsSaid, IsCause}
use Rattle.line_forms.specs.Scripts.{after, rows_of, Says, IsScript, IsBadIn, IsBadLine}

-- What the rest says, the whole says behind what was said so far; so it is with the first bad line.
pub record Run (kind : Kind) (bytes rest : List ℕ) (rows : List Row) (seen : Seen) (lines : ℕ) : Type 0 where
  pub says : (more : List Row) (end : Seen) → Says kind seen (lines_of rest) more end
      → Says kind at_first (lines_of bytes) (rows ++ more) end
  pub bad : (line : ℕ) (cause : ScriptCause) → IsBadIn kind seen (lines_of rest) line cause → IsBadLine kind bytes (lines + line) cause

pub run_first : (kind : Kind) (bytes : List ℕ) → Run kind bytes bytes [] at_first 0
run_first kind bytes = record {
  says = λ more end h. h;
  bad = λ line cause h. subst (λ (n : ℕ). IsBadLine kind bytes n cause) (omega arith) h;
}

later : (kind : Kind) (seen : Seen) (l : Line) (bytes : List ℕ) (lines : List (List ℕ)) (line : ℕ) (cause : ScriptCause)
    → IsSaid kind seen bytes l → IsBadIn kind (after seen l) lines line cause → IsBadIn kind seen (bytes ∷ lines) (1 + line) cause
later kind seen l bytes lines line cause said h = record {
  before = bytes ∷ h.before;
  rows = rows_of l ++ h.rows;
  end = h.end;
  says = (l, h.rows, said, refl, h.says);
  bad = elim h.bad [
    | inl x ↦ inl (x.0, x.1, ap (λ (ps : List (List ℕ)). bytes ∷ ps) x.2, omega (arith, x.3), x.4)
    | inr x ↦ inr (ap (λ (ps : List (List ℕ)). bytes ∷ ps) x.0, omega (arith, x.1), x.2, x.3)
  ];
}

pub run_step : (kind : Kind) (bytes rest line behind : List ℕ) (rows : List Row) (seen : Seen) (lines : ℕ) (l : Line)
    (now : List Row) (next : Seen)
    → Run kind bytes rest rows seen lines → lines_of rest ≡ line ∷ lines_of behind → IsSaid kind seen line l
    → now ≡ rows ++ rows_of l → next ≡ after seen l → Run kind bytes behind now next (lines + 1)
run_step kind bytes rest line behind rows seen lines l now next run cut said same then_ =
    subst (λ (s : Seen). Run kind bytes behind now s (lines + 1)) (sym then_)
    (subst (λ (os : List Row). Run kind bytes behind os (after seen l) (lines + 1)) (sym same) (record {
      says =
          λ more end h. subst (λ (os : List Row). Says kind at_first (lines_of bytes) os end) (sym (append_assoc rows (rows_of l) more))
          (run.says (rows_of l ++ more) end (subst (λ (ps : List (List ℕ)). Says kind seen ps (rows_of l ++ more) end) (sym cut)
          (l, more, said, refl, h)));
      bad = λ n cause h. subst (λ (n : ℕ). IsBadLine kind bytes n cause) (omega arith)
          (run.bad (1 + n) cause (subst (λ (ps : List (List ℕ)). IsBadIn kind seen ps (1 + n) cause) (sym cut)
          (later kind seen l line (lines_of behind) n cause said h)));
    }))

pub run_bad : (kind : Kind) (bytes rest line behind : List ℕ) (rows : List Row) (seen : Seen) (lines : ℕ) (cause : ScriptCause)
    → Run kind bytes rest rows seen lines → lines_of rest ≡ line ∷ lines_of behind → IsCause kind seen line cause
    → IsBadLine kind bytes (lines + 1) cause
run_bad kind bytes rest line behind rows seen lines cause run cut found =
    run.bad 1 cause (record {
      before = [];
      rows = [];
      end = seen;
      says = (refl, refl);
      bad = inl (line, lines_of behind, cut, omega arith, found);
    })

pub run_no_end : (kind : Kind) (bytes rest : List ℕ) (rows : List Row) (seen : Seen) (lines : ℕ) → Run kind bytes rest rows seen lines
    → rest ≡ [] → seen.ended ≡ false → IsBadLine kind bytes (lines + 1) NoEnd
run_no_end kind bytes rest rows seen lines run e open_ =
    run.bad 1 NoEnd
    (record { before = []; rows = []; end = seen; says = (refl, refl); bad = inr (ap lines_of e, omega arith, open_, refl) })

pub run_end : (kind : Kind) (bytes rest : List ℕ) (rows : List Row) (seen : Seen) (lines most : ℕ)
    → Run kind bytes rest rows seen lines → rest ≡ [] → seen.ended ≡ true → seen.most ≡ most → IsScript kind bytes most rows
run_end kind bytes rest rows seen lines most run e ended same = record {
  end = seen;
  says = subst (λ (os : List Row). Says kind at_first (lines_of bytes) os seen) (append-nil rows)
      (run.says [] seen (subst (λ (l : List ℕ). Says kind seen (lines_of l) [] seen) (sym e) (refl, refl)));
  number = same;
  ended = ended;
}
