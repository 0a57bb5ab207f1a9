-- The laws of a line.
use Rattle.std.proofs.Common.{◌≡◌, ◌∙◌, ap, sym, refl, subst, ℕ, ◌<◌, ◌≤◌, Bool, true, false, cond, not, List, [], ◌∷◌, ◌++◌}
use Rattle.std.proofs.Common.{length, codes, Ok, Err, inl, inr, arith}
use Rattle.std.specs.Prelude.{nat_lt}
use Rattle.std.specs.List.{list_all}
use Rattle.std.proofs.lemmas.Bool.{eqb-true, eqb-false, ltb-false, ltb-true}
use Rattle.script_words.specs.Form.{is_printable}
use Rattle.script_words.specs.Grammar.{Idle}
use Rattle.script_words.specs.Causes.{first_word, rank}
use Rattle.script_words.specs.Reading.{Judged, ◌>>=◌, read_word, read_end, is_idle}
use Rattle.script_words.specs.declared.cause.ScriptCause.{ScriptCause}
use Rattle.script_words.specs.declared.cause.ScriptCause.TheVariants.{BadByte, LongLine, AfterEnd, NoCommand, Misplaced, BadForm}
use Rattle.script_words.specs.declared.cause.ScriptCause.TheVariants.{BadNumber, UnknownName, UnknownType, DoubledName, BadEdentype}
use Rattle.script_words.specs.declared.cause.ScriptCause.TheVariants.{NoEnd}
use Rattle.script_words.proofs.Pieces.{word_takes, end_takes}
use Rattle.script_words.proofs.Rules.{Judges, form_then, only_word, only_end}
use Rattle.script_words.proofs.Calls.{ok_not_form}
use Rattle.line_forms.specs.Forms.{Form, Kind, Line, idle, begins, does, finish, Which, unknown, the_first, the_end, other, which}
use Rattle.line_forms.specs.Spelling.{SpellsForm, SpellsLine}
use Rattle.line_forms.specs.Tests.{Seen, NumbersFit, LastFits, places_of, LineFits, LineTells, LinePasses, IsSaid, IsCause}
use Rattle.line_forms.specs.Reading.{read_form, read_first, read_row, read_finish, judge_word, judge}
use Rattle.std.specs.Prelude.{Result}
use Rattle.script_words.specs.View.{Gives}
use Rattle.script_words.specs.declared.reader.Fault.{Fault}
use Rattle.script_words.specs.declared.reader.Fault.TheVariants.{Bad, Memory}
use Rattle.line_forms.specs.Lines.{LineFinds}
use Rattle.line_forms.specs.View.{line_of}
use Rattle.line_forms.specs.declared.line.Line.{Line as CodeLine}
use Rattle.line_forms.proofs.Formed.{Told, form_sound, form_whole}

both : true ≡ false → ⊥
both e = cc

idle_true : (bytes : List ℕ) → is_idle bytes ≡ true → Idle bytes
idle_true [] h = tt
idle_true (b ∷ bytes) h = eqb-true b 35 h

pub idle_false : (bytes : List ℕ) → is_idle bytes ≡ false → Idle bytes → ⊥
idle_false [] h i = both h
idle_false (b ∷ bytes) h i = eqb-false b 35 h i

-- what a line is found to say, or its first cause
abbrev pub Verdict : Kind → Seen → List ℕ → Judged Line → Type 0
Verdict kind seen bytes (Ok l) = IsSaid kind seen bytes l
Verdict kind seen bytes (Err cause) = IsCause kind seen bytes cause

-- ## What a word stands for

abbrev pub index_of : Which → ℕ
index_of (other i f) = i
index_of _ = 0

abbrev pub form_or : Form → Which → Form
form_or z (other i f) = f
form_or z _ = z

pub first_unknown : the_first ≡ unknown → ⊥
first_unknown h = cc

pub end_unknown : the_end ≡ unknown → ⊥
end_unknown h = cc

pub other_unknown : (i : ℕ) (f : Form) → other i f ≡ unknown → ⊥
other_unknown i f h = cc

pub end_first : the_end ≡ the_first → ⊥
end_first h = cc

pub other_first : (i : ℕ) (f : Form) → other i f ≡ the_first → ⊥
other_first i f h = cc

pub other_end : (i : ℕ) (f : Form) → other i f ≡ the_end → ⊥
other_end i f h = cc

-- ## Lines

-- what a spelling says of the answer
pub record LineWhole (kind : Kind) (seen : Seen) (bytes : List ℕ) (l : Line) (r : Judged Line) : Type 0 where
  pub fits : LineFits kind seen.most bytes l → r ≡ Ok l
  pub form : r ≡ Err BadForm → ⊥

-- a reading whose value is a line
told_sound : (P : Told → Type 0) (N : Type 0) (Q : Line → Type 0) (M : Type 0) (r : Judged Told) (f : Told → Line) → Judges P N r
    → ((x : Told) → P x → Q (f x)) → (N → M) → Judges Q M (r >>= λ x. Ok (f x))
told_sound P N Q M (Ok x) f h p n = p x h
told_sound P N Q M (Err BadForm) f h p n = tt
told_sound P N Q M (Err BadNumber) f h p n = n h
told_sound P N Q M (Err BadByte) f h p n = h
told_sound P N Q M (Err LongLine) f h p n = h
told_sound P N Q M (Err AfterEnd) f h p n = h
told_sound P N Q M (Err NoCommand) f h p n = h
told_sound P N Q M (Err Misplaced) f h p n = h
told_sound P N Q M (Err UnknownName) f h p n = h
told_sound P N Q M (Err UnknownType) f h p n = h
told_sound P N Q M (Err DoubledName) f h p n = h
told_sound P N Q M (Err BadEdentype) f h p n = h
told_sound P N Q M (Err NoEnd) f h p n = h

abbrev cause_as : Judged Line → Judged Told
cause_as (Ok l) = Err NoEnd
cause_as (Err c) = Err c

told_form : (r : Judged Told) (f : Told → Line) → (r ≡ Err BadForm → ⊥) → (r >>= λ x. Ok (f x)) ≡ Err BadForm → ⊥
told_form (Ok x) f h e = ok_not_form e
told_form (Err c) f h e = h (ap cause_as e)

-- a line by what its first word stands for, behind the first line or before it
abbrev judge_with : Kind → Seen → List ℕ → Bool → Which → Judged Line
judge_with kind seen bytes b unknown = Err NoCommand
judge_with kind seen bytes b the_first = cond b (Err Misplaced) (read_first kind bytes)
judge_with kind seen bytes b the_end = cond b (read_finish bytes) (Err Misplaced)
judge_with kind seen bytes b (other i f) = cond b (read_row seen.most i f bytes) (Err Misplaced)

judge_same : (kind : Kind) (seen : Seen) (bytes : List ℕ) (w : Which)
    → judge_with kind seen bytes seen.begun w ≡ judge_word kind seen w bytes
judge_same kind seen bytes unknown = refl
judge_same kind seen bytes the_first = refl
judge_same kind seen bytes the_end = refl
judge_same kind seen bytes (other i f) = refl

module _ (kind : Kind) (seen : Seen) (bytes : List ℕ) where
  abbrev Tells : Line → Type 0
  Tells l = LineTells kind seen bytes l

  abbrev Some_line : Type 0
  Some_line = (l : Line) × SpellsLine kind l bytes

  first_sound : which kind (first_word bytes) ≡ the_first → Judges Tells Some_line (read_first kind bytes)
  first_sound w =
      told_sound _ _ Tells Some_line (read_form 0 kind.first bytes) (λ r. begins r.0 r.1) (form_sound 0 kind.first bytes)
      (λ r h. ((w, h.0), h.1)) (λ s. (begins s.0.0 s.0.1, (w, s.1)))

  first_whole : is_idle bytes ≡ false → which kind (first_word bytes) ≡ the_first → (l : Line) → SpellsLine kind l bytes
      → LineWhole kind seen bytes l (read_first kind bytes)
  first_whole busy w idle s = absurd (idle_false bytes busy s)
  first_whole busy w (begins ns e) s =
      let h = form_whole 0 kind.first ns e bytes s.1 in
      record {
        fits = λ fit. ap (λ (r : Judged Told). r >>= λ r. Ok (begins r.0 r.1)) (h.fits fit);
        form = told_form (read_form 0 kind.first bytes) (λ r. begins r.0 r.1) h.form;
      }
  first_whole busy w (does r) s = absurd (other_first r.form s.0 (sym s.1 ∙ w))
  first_whole busy w finish s = absurd (end_first (sym s.0 ∙ w))

  row_sound : (i : ℕ) (f : Form) → which kind (first_word bytes) ≡ other i f → Judges Tells Some_line (read_row seen.most i f bytes)
  row_sound i f w =
      told_sound _ _ Tells Some_line (read_form seen.most f bytes) (λ r. does (record { form = i; numbers = r.0; last = r.1 }))
      (form_sound seen.most f bytes)
      (λ r h. ((f, w, h.0), subst (λ (x : Which). NumbersFit seen.most (places_of x) r.0 × LastFits r.1) (sym w) h.1))
      (λ s. (does (record { form = i; numbers = s.0.0; last = s.0.1 }), (f, w, s.1)))

  row_whole : (i : ℕ) (f : Form) → is_idle bytes ≡ false → which kind (first_word bytes) ≡ other i f → (l : Line)
      → SpellsLine kind l bytes → LineWhole kind seen bytes l (read_row seen.most i f bytes)
  row_whole i f busy w idle s = absurd (idle_false bytes busy s)
  row_whole i f busy w (begins ns e) s = absurd (other_first i f (sym w ∙ s.0))
  row_whole i f busy w finish s = absurd (other_end i f (sym w ∙ s.0))
  row_whole i f busy w (does r) s =
      let same = sym w ∙ s.1 in
      let same_i : i ≡ r.form = ap index_of same in
      let same_f : f ≡ s.0 = ap (form_or f) same in
      let h = form_whole seen.most f r.numbers r.last bytes (subst (λ (g : Form). SpellsForm g r.numbers r.last bytes) (sym same_f) s.2) in
      let step = λ (x : Told). does (record { form = i; numbers = x.0; last = x.1 }) in
      record {
        fits =
            λ fit. ap (λ (x : Judged Told). x >>= λ x. Ok (step x))
            (h.fits (subst (λ (x : Which). NumbersFit seen.most (places_of x) r.numbers) w fit.0, fit.1))
            ∙ ap (λ (j : ℕ). Ok (does (record { form = j; numbers = r.numbers; last = r.last }))) same_i;
        form = told_form (read_form seen.most f bytes) step h.form;
      }

  finish_sound : which kind (first_word bytes) ≡ the_end → Judges Tells Some_line (read_finish bytes)
  finish_sound w =
      form_then Tells Some_line (read_word (codes "end") bytes) _ (only_word (codes "end") bytes) (λ rest e0.
      form_then Tells Some_line (read_end rest) _ (only_end rest) (λ u e1.
      ((w, word_takes (codes "end") bytes rest e0 ∙ ap (λ (l : List ℕ). codes "end" ++ l) (end_takes rest u e1)), tt)))

  finish_whole : is_idle bytes ≡ false → which kind (first_word bytes) ≡ the_end → (l : Line) → SpellsLine kind l bytes
      → LineWhole kind seen bytes l (read_finish bytes)
  finish_whole busy w idle s = absurd (idle_false bytes busy s)
  finish_whole busy w (begins ns e) s = absurd (end_first (sym w ∙ s.0))
  finish_whole busy w (does r) s = absurd (other_end r.form s.0 (sym s.1 ∙ w))
  finish_whole busy w finish s = record {
    fits = λ fit. ap read_finish s.1;
    form = λ e. ok_not_form (sym (ap read_finish s.1) ∙ e);
  }

  -- ## Causes

  -- what is known of the tests before this one
  table : (n : ℕ) → (0 < n → LinePasses BadByte kind seen bytes) → (1 < n → LinePasses LongLine kind seen bytes)
      → (2 < n → LinePasses AfterEnd kind seen bytes) → (3 < n → LinePasses NoCommand kind seen bytes)
      → (4 < n → LinePasses Misplaced kind seen bytes) → (5 < n → LinePasses BadForm kind seen bytes)
      → (6 < n → LinePasses BadNumber kind seen bytes) → (c : ScriptCause) → rank c < n → LinePasses c kind seen bytes
  table n a b c d e f g BadByte h = a h
  table n a b c d e f g LongLine h = b h
  table n a b c d e f g AfterEnd h = c h
  table n a b c d e f g NoCommand h = d h
  table n a b c d e f g Misplaced h = e h
  table n a b c d e f g BadForm h = f h
  table n a b c d e f g BadNumber h = g h
  table n a b c d e f g UnknownName h = tt
  table n a b c d e f g UnknownType h = tt
  table n a b c d e f g DoubledName h = tt
  table n a b c d e f g BadEdentype h = tt
  table n a b c d e f g NoEnd h = tt

  rank_small : (c : ScriptCause) → rank c < 12
  rank_small BadByte = omega arith
  rank_small LongLine = omega arith
  rank_small AfterEnd = omega arith
  rank_small NoCommand = omega arith
  rank_small Misplaced = omega arith
  rank_small BadForm = omega arith
  rank_small BadNumber = omega arith
  rank_small UnknownName = omega arith
  rank_small UnknownType = omega arith
  rank_small DoubledName = omega arith
  rank_small BadEdentype = omega arith
  rank_small NoEnd = omega arith

  -- the tests before those of form and numbers
  record Placed : Type 0 where
    printable : LinePasses BadByte kind seen bytes
    short : LinePasses LongLine kind seen bytes
    open_ : LinePasses AfterEnd kind seen bytes
    known : LinePasses NoCommand kind seen bytes
    placed : LinePasses Misplaced kind seen bytes

  read_says : Placed → (r : Judged Line) → Judges Tells Some_line r
      → ((l : Line) → SpellsLine kind l bytes → LineWhole kind seen bytes l r) → Verdict kind seen bytes r
  read_says p (Ok l) s w = record {
    passes =
        λ c. table 12 (λ _. p.printable) (λ _. p.short) (λ _. p.open_) (λ _. p.known) (λ _. p.placed) (λ _. (l, s.0)) (λ _. (l, s)) c
        (rank_small c);
    tells = s;
  }
  read_says p (Err BadForm) s w = record {
    before =
        table 5 (λ _. p.printable) (λ _. p.short) (λ _. p.open_) (λ _. p.known) (λ _. p.placed) (λ h. absurd (omega (arith, h)))
        (λ h. absurd (omega (arith, h)));
    fails = λ x. (w x.0 x.1).form refl;
  }
  read_says p (Err BadNumber) s w = record {
    before =
        table 6 (λ _. p.printable) (λ _. p.short) (λ _. p.open_) (λ _. p.known) (λ _. p.placed) (λ _. s)
        (λ h. absurd (omega (arith, h)));
    fails = λ x. number_or_ok x.0 ((w x.0 x.1.0).fits x.1.1);
  }
    where
      number_or_ok : (l : Line) → ◌≡◌ {A = Judged Line} (Err BadNumber) (Ok l) → ⊥
      number_or_ok l e = cc
  read_says p (Err BadByte) s w = absurd s
  read_says p (Err LongLine) s w = absurd s
  read_says p (Err AfterEnd) s w = absurd s
  read_says p (Err NoCommand) s w = absurd s
  read_says p (Err Misplaced) s w = absurd s
  read_says p (Err UnknownName) s w = absurd s
  read_says p (Err UnknownType) s w = absurd s
  read_says p (Err DoubledName) s w = absurd s
  read_says p (Err BadEdentype) s w = absurd s
  read_says p (Err NoEnd) s w = absurd s

  module _ (printable : list_all is_printable bytes ≡ true) (short : length bytes ≤ 4096) (busy : is_idle bytes ≡ false)
      (open_ : seen.ended ≡ false) where
    placed_as : (w : Which) → which kind (first_word bytes) ≡ w → (w ≡ unknown → ⊥)
        → ((w ≡ the_first → seen.begun ≡ false) × (seen.begun ≡ false → w ≡ the_first)) → Placed
    placed_as w e known placed = record {
      printable = printable;
      short = short;
      open_ = inr open_;
      known = inr (λ u. known (sym e ∙ u));
      placed = inr ((λ x. placed.0 (sym e ∙ x)), (λ b. e ∙ placed.1 b));
    }

    misplaced : (w : Which) → which kind (first_word bytes) ≡ w → (w ≡ unknown → ⊥)
        → ((w ≡ the_first → seen.begun ≡ false) → (seen.begun ≡ false → w ≡ the_first) → ⊥) → Verdict kind seen bytes (Err Misplaced)
    misplaced w e known wrong = record {
      before =
          table 4 (λ _. printable) (λ _. short) (λ _. inr open_) (λ _. inr (λ u. known (sym e ∙ u))) (λ h. absurd (omega (arith, h)))
          (λ h. absurd (omega (arith, h))) (λ h. absurd (omega (arith, h)));
      fails = λ h. elim h [
        | inl i ↦ idle_false bytes busy i
        | inr x ↦ wrong (λ f. x.0 (e ∙ f)) (λ b. sym e ∙ x.1 b)
      ];
    }

    word_says : (b : Bool) → seen.begun ≡ b → (w : Which) → which kind (first_word bytes) ≡ w
        → Verdict kind seen bytes (judge_with kind seen bytes b w)
    word_says b g unknown e = record {
      before =
          table 3 (λ _. printable) (λ _. short) (λ _. inr open_) (λ h. absurd (omega (arith, h))) (λ h. absurd (omega (arith, h)))
          (λ h. absurd (omega (arith, h))) (λ h. absurd (omega (arith, h)));
      fails = λ h. elim h [ inl i ↦ idle_false bytes busy i | inr x ↦ x e ];
    }
    word_says true g the_first e = misplaced the_first e first_unknown (λ x y. both (sym g ∙ x refl))
    word_says false g the_first e =
        read_says (placed_as the_first e first_unknown ((λ x. g), (λ x. refl))) (read_first kind bytes) (first_sound e) (first_whole busy e)
    word_says true g the_end e =
        read_says (placed_as the_end e end_unknown ((λ x. absurd (end_first x)), (λ x. absurd (both (sym g ∙ x))))) (read_finish bytes)
        (finish_sound e) (finish_whole busy e)
    word_says false g the_end e = misplaced the_end e end_unknown (λ x y. end_first (y g))
    word_says true g (other i f) e =
        read_says (placed_as (other i f) e (other_unknown i f) ((λ x. absurd (other_first i f x)), (λ x. absurd (both (sym g ∙ x)))))
        (read_row seen.most i f bytes) (row_sound i f e) (row_whole i f busy e)
    word_says false g (other i f) e = misplaced (other i f) e (other_unknown i f) (λ x y. other_first i f (y g))

    word_judged : Verdict kind seen bytes (judge_word kind seen (which kind (first_word bytes)) bytes)
    word_judged =
        subst (Verdict kind seen bytes) (judge_same kind seen bytes (which kind (first_word bytes)))
        (word_says seen.begun refl (which kind (first_word bytes)) refl)

idle_verdict : (kind : Kind) (seen : Seen) (bytes : List ℕ) → LinePasses BadByte kind seen bytes → LinePasses LongLine kind seen bytes
    → Idle bytes → Verdict kind seen bytes (Ok idle)
idle_verdict kind seen bytes printable short i = record {
  passes =
      λ c. table kind seen bytes 12 (λ _. printable) (λ _. short) (λ _. inl i) (λ _. inl i) (λ _. inl i) (λ _. (idle, i))
      (λ _. (idle, (i, tt))) c (rank_small kind seen bytes c);
  tells = (i, tt);
}

judge_by : (kind : Kind) (seen : Seen) (bytes : List ℕ) (p l i e : Bool) → list_all is_printable bytes ≡ p
    → nat_lt 4096 (length bytes) ≡ l → is_idle bytes ≡ i → seen.ended ≡ e
    → Verdict kind seen bytes
    (cond (not p) (Err BadByte) (cond l (Err LongLine) (cond i (Ok idle)
    (cond e (Err AfterEnd) (judge_word kind seen (which kind (first_word bytes)) bytes)))))
judge_by kind seen bytes false l i e f g h k = record {
  before =
      table kind seen bytes 0 (λ w. absurd (omega (arith, w))) (λ w. absurd (omega (arith, w))) (λ w. absurd (omega (arith, w)))
      (λ w. absurd (omega (arith, w))) (λ w. absurd (omega (arith, w))) (λ w. absurd (omega (arith, w))) (λ w. absurd (omega (arith, w)));
  fails = λ x. both (sym x ∙ f);
}
judge_by kind seen bytes true true i e f g h k = record {
  before =
      table kind seen bytes 1 (λ _. f) (λ w. absurd (omega (arith, w))) (λ w. absurd (omega (arith, w)))
      (λ w. absurd (omega (arith, w))) (λ w. absurd (omega (arith, w))) (λ w. absurd (omega (arith, w))) (λ w. absurd (omega (arith, w)));
  fails = λ x. omega (arith, x, ltb-true 4096 (length bytes) g);
}
judge_by kind seen bytes true false true e f g h k =
    idle_verdict kind seen bytes f (ltb-false 4096 (length bytes) g) (idle_true bytes h)
judge_by kind seen bytes true false false true f g h k = record {
  before =
      table kind seen bytes 2 (λ _. f) (λ _. ltb-false 4096 (length bytes) g) (λ w. absurd (omega (arith, w)))
      (λ w. absurd (omega (arith, w))) (λ w. absurd (omega (arith, w))) (λ w. absurd (omega (arith, w))) (λ w. absurd (omega (arith, w)));
  fails = λ x. elim x [ inl i ↦ idle_false bytes h i | inr o ↦ both (sym k ∙ o) ];
}
judge_by kind seen bytes true false false false f g h k =
    word_judged kind seen bytes f (ltb-false 4096 (length bytes) g) h k

-- what a line is judged as
pub judged : (kind : Kind) (seen : Seen) (bytes : List ℕ) → Verdict kind seen bytes (judge kind seen bytes)
judged kind seen bytes = judge_by kind seen bytes _ _ _ _ refl refl refl refl

-- what the code finds of a line
pub found : (kind : Kind) (seen : Seen) (bytes : List ℕ) (r : Result CodeLine Fault) → Gives line_of r (judge kind seen bytes)
    → LineFinds kind seen bytes r
found kind seen bytes (Ok l) h = subst (Verdict kind seen bytes) h (judged kind seen bytes)
found kind seen bytes (Err (Bad cause)) h = subst (Verdict kind seen bytes) h (judged kind seen bytes)
found kind seen bytes (Err Memory) h = tt
