-- The laws of calls.
use Rattle.std.proofs.Common.{◌≡◌, ◌∙◌, ap, sym, refl, subst, ℕ, ◌≤◌, true, false, List, [], ◌∷◌, ◌++◌}
use Rattle.std.proofs.Common.{codes, Option, Some, None, Ok, Err, inl, inr, arith}
use Rattle.std.specs.Prelude.{nat_le}
use Rattle.std.proofs.lemmas.Bool.{leb-true, lt-leb, and_parts, and_right}
use Rattle.script_words.specs.Form.{is_lower, is_upper, is_name_byte, number_of}
use Rattle.eden_script.specs.Tree.{WrittenCommand, call}
use Rattle.script_words.specs.Tree.{WrittenRef, WrittenArg, Row, row_of, size, row_depth}
use Rattle.eden_script.specs.Grammar.{Command}
use Rattle.script_words.specs.Causes.{ResultFits, RowFits}
use Rattle.script_words.specs.Reading.{◌>>=◌}
use Rattle.script_words.specs.Reading.{Judged, Reading, read_word, read_lower_and_blank}
use Rattle.script_words.specs.Reading.{read_upper, read_end, has_result, read_ref}
use Rattle.script_words.specs.Reading.{read_values}
use Rattle.eden_script.specs.Reading.{read_call, read_command}
use Rattle.script_words.specs.Reading.{read_value, within, reference, result_within, in_range}
use Rattle.script_words.specs.declared.cause.ScriptCause.TheVariants.{BadForm}
use Rattle.script_words.proofs.Rules.{Judges, only_word, only_end, only_while}
use Rattle.script_words.proofs.Rules.{form_then, range_then, only_lower_and_blank, lower_and_blank_takes, lower_and_blank_again}
use Rattle.script_words.proofs.Rules.{within_yes, within_no, within_cases}
use Rattle.script_words.proofs.Pieces.{upper_takes, upper_again, end_takes, word_takes}
use Rattle.script_words.proofs.ValueLaws.{AllFit, reference_of, ref_sound, values_sound, value_sound}
use Rattle.script_words.proofs.Wholes.{RefAgain, ref_again}
use Rattle.script_words.proofs.Rows2.{parenthesis, AllAgain, values_again, items_in, row_items_in}
use Rattle.eden_script.proofs.Commands as commands
use Rattle.eden_script.proofs.Commands.{Spelled, Good, Some_one, Whole}
use Rattle.script_words.proofs.Calls.{number_not_form, ok_not_form, only_ref, only_value, only_values}

both : true ≡ false → ⊥
both e = cc

-- ## References within their range

pub reference_then : {B : Type 0} (P : B → Type 0) (N : Type 0) (w : List ℕ × Option (List ℕ)) (f : WrittenRef → Judged B) → N
    → (ResultFits (reference_of w).result → Judges P N (f (reference_of w))) → Judges P N (reference w >>= f)
reference_then P N (name, None) f bad g = g tt
reference_then P N (name, Some d) f bad g =
    elim (within_cases 1 8 (number_of d)) as (λ _. Judges P N (result_within name (within 1 8 d) >>= f)) [
      | inl w ↦ subst (λ (r : Judged ℕ). Judges P N (result_within name r >>= f)) (sym (within_yes 1 8 d w)) (g w)
      | inr out ↦ subst (λ (r : Judged ℕ). Judges P N (result_within name r >>= f)) (sym (within_no 1 8 d out)) bad
    ]

pub reference_fits : (w : List ℕ × Option (List ℕ)) → ResultFits (reference_of w).result → reference w ≡ Ok (reference_of w)
reference_fits (name, None) h = refl
reference_fits (name, Some d) h = ap (result_within name) (within_yes 1 8 d h)

pub reference_form : {B : Type 0} (w : List ℕ × Option (List ℕ)) (f : WrittenRef → Judged B) → ((r : WrittenRef) → f r ≡ Err BadForm → ⊥)
    → (reference w >>= f) ≡ Err BadForm → ⊥
reference_form (name, None) f g h = g _ h
reference_form (name, Some d) f g h =
    elim (within_cases 1 8 (number_of d)) [
      | inl w ↦ g _ (sym (ap (λ (r : Judged ℕ). result_within name r >>= f) (within_yes 1 8 d w)) ∙ h)
      | inr out ↦ number_not_form (sym (ap (λ (r : Judged ℕ). result_within name r >>= f) (within_no 1 8 d out)) ∙ h)
    ]

-- ## Calls

pub call_sound : (most : ℕ) (bytes : List ℕ) → commands.Sound most (codes "call " ++ bytes) (read_call bytes)
call_sound most bytes =
    let line = codes "call " ++ bytes in
    let G = Good most line in
    let S = Some_one line in
    form_then G S (read_lower_and_blank bytes) _ (only_lower_and_blank bytes) (λ n e1.
    form_then G S (read_ref n.1) _ (only_ref n.1) (λ r e2.
    form_then G S (read_word (codes ".") r.1) _ (only_word (codes ".") r.1) (λ p e3.
    form_then G S (read_upper p) _ (only_while is_name_byte is_upper p) (λ op e4.
    form_then G S (read_word (codes "(") op.1) _ (only_word (codes "(") op.1) (λ q e5.
    form_then G S (read_values (read_value true 4) (codes ")") 4096 q) _ (only_values (read_value true 4) (only_value true 4)
    (codes ")") 4096 q) (λ vs e6.
    form_then G S (read_end vs.1) _ (only_end vs.1) (λ u e7.
    let N = lower_and_blank_takes bytes n.0 n.1 e1 in
    let R = ref_sound n.1 r.0 r.1 e2 in
    let T = upper_takes p op.0 op.1 e4 in
    let V = values_sound true 4 (read_value true 4) (value_sound true 4) (codes ")") 4096 q vs.0 vs.1 e6 in
    let close : q ≡ V.front ++ codes ")" = V.whole ∙ ap (λ (l : List ℕ). V.front ++ (codes ")" ++ l)) (end_takes vs.1 u e7) in
    let o : WrittenCommand = call n.0 (reference_of r.0) op.0 (row_of V.items_in) in
    let s : Spelled line o = (
      (
        codes "call ",
        bytes,
        refl,
        (
          n.0,
          32 ∷ n.1,
          (refl, N.1),
          (
            codes " ",
            n.1,
            refl,
            (
              R.front,
              r.1,
              R.spelled,
              (
                codes ".",
                p,
                refl,
                (
                  op.0,
                  op.1,
                  (refl, T.1),
                  (codes "(", q, refl, (V.front, codes ")", V.spelled, refl, close), word_takes (codes "(") op.1 q e5),
                  T.0,
                ),
                word_takes (codes ".") r.1 p e3,
              ),
              R.whole,
            ),
            refl,
          ),
          N.0,
        ),
        refl,
      ),
      V.shallow,
    ) in
    reference_then G S r.0 _ (o, s) (λ fits.
    range_then G S vs.0 _ (o, s) (λ args e8.
    let A : AllFit (Some args) V.items_in = subst (λ o. AllFit o V.items_in) e8 V.fit in
    subst (λ (l : List WrittenArg). G (call n.0 (reference_of r.0) op.0 (row_of l))) (sym A.0) (s, (fits, A.1)))))))))))

args_form : (found : Option (List WrittenArg)) (f : List WrittenArg → WrittenCommand)
    → (in_range found >>= λ args. Ok (f args)) ≡ Err BadForm → ⊥
args_form None f h = number_not_form h
args_form (Some vs) f h = ok_not_form h

args_fit : (found : Option (List WrittenArg)) (args : Row) (f : Row → WrittenCommand) → AllFit found (items_in args) → RowFits args
    → (in_range found >>= λ args. Ok (f (row_of args))) ≡ Ok (f args)
args_fit None args f h fits = absurd (h (subst RowFits (sym (row_items_in args)) fits))
args_fit (Some vs) args f h fits = ap (λ (r : Row). Ok (f r)) (ap row_of h.0 ∙ row_items_in args)

upper_no_result : (op rest : List ℕ) → is_upper op ≡ true → has_result (46 ∷ op ++ rest) ≡ false
upper_no_result [] rest h = absurd cc
upper_no_result (b ∷ op) rest h =
    let w : 65 ≤ b = leb-true _ _ (and_parts _ _ (and_parts _ _ h).0).0 in
    and_right (nat_le 48 b) (nat_le b 57) (lt-leb b 57 (omega arith))

call_read : (most : ℕ) (name op inner : List ℕ) (x : List ℕ) (r : WrittenRef) (args : Row) → is_lower name ≡ true → is_upper op ≡ true
    → (a : RefAgain r (x ++ 46 ∷ (op ++ 40 ∷ (inner ++ 41 ∷ []))) (46 ∷ (op ++ 40 ∷ (inner ++ 41 ∷ []))))
    → (v : AllAgain true 4 4096 41 args (inner ++ 41 ∷ []) [])
    → read_call (name ++ 32 ∷ (x ++ 46 ∷ (op ++ 40 ∷ (inner ++ 41 ∷ [])))) ≡
    (reference a.words >>= λ target. in_range v.found >>= λ args. Ok (call name target op (row_of args)))
call_read most name op inner x r args good up a v =
    let tail = 40 ∷ (inner ++ 41 ∷ []) in
    let F7 =
    λ (n : List ℕ) (w : List ℕ × Option (List ℕ)) (op : List ℕ)
    (vs : Option (List WrittenArg) × List ℕ). read_end vs.1 >>= λ _. reference w >>= λ target. in_range vs.0 >>= λ args. Ok
    (call n target op (row_of args)) in
    ap
    (λ (q : Reading (List ℕ)). q >>= λ n. read_ref n.1 >>= λ r. read_word (codes ".") r.1 >>= λ rest. read_upper rest >>= λ op. read_word
    (codes "(") op.1 >>= λ rest. read_values (read_value true 4) (codes ")") 4096 rest >>= F7 n.0 r.0 op.0)
    (lower_and_blank_again name (x ++ 46 ∷ (op ++ tail)) good)
    ∙ ap
    (λ (q : Reading (List ℕ × Option (List ℕ))). q >>= λ r. read_word (codes ".") r.1 >>= λ rest. read_upper rest >>= λ op. read_word
    (codes "(") op.1 >>= λ rest. read_values (read_value true 4) (codes ")") 4096 rest >>= F7 name r.0 op.0)
    a.read
    ∙ ap
    (λ (q : Reading (List ℕ)). q >>= λ op. read_word (codes "(") op.1 >>= λ rest. read_values (read_value true 4)
    (codes ")") 4096 rest >>= F7 name a.words op.0)
    (upper_again op tail up refl)
    ∙ ap (λ (q : Reading (Option (List WrittenArg))). q >>= F7 name a.words op) v.read

pub call_whole : (most : ℕ) (name : List ℕ) (r : WrittenRef) (op : List ℕ) (args : Row) (bytes : List ℕ) → size args ≤ 4097
    → Command (call name r op args) bytes → row_depth args ≤ 4 → Whole most (call name r op args) (read_command most bytes)
call_whole most name r op args bytes few h shallow =
    let a = h.3 in
    let b = a.3 in
    let c = b.3 in
    let d = c.3 in
    let e = d.3 in
    let f = e.3 in
    let v = f.3 in
    let tail : List ℕ = 46 ∷ (op ++ 40 ∷ (v.0 ++ 41 ∷ [])) in
    let line : bytes ≡ codes "call " ++ (name ++ 32 ∷ (c.0 ++ tail)) =
    h.4 ∙ ap (λ (l : List ℕ). l ++ h.1) h.2 ∙ ap (λ (l : List ℕ). codes "call " ++ l)
    (a.4 ∙ ap (λ (l : List ℕ). l ++ a.1) a.2.0 ∙ ap (λ (l : List ℕ). name ++ l)
    (b.4 ∙ ap (λ (l : List ℕ). l ++ b.1) b.2 ∙ ap (λ (l : List ℕ). 32 ∷ l)
    (c.4 ∙ ap (λ (l : List ℕ). c.0 ++ l)
    (d.4 ∙ ap (λ (l : List ℕ). l ++ d.1) d.2 ∙ ap (λ (l : List ℕ). 46 ∷ l)
    (e.4 ∙ ap (λ (l : List ℕ). l ++ e.1) e.2.0 ∙ ap (λ (l : List ℕ). op ++ l)
    (f.4 ∙ ap (λ (l : List ℕ). l ++ f.1) f.2 ∙ ap (λ (l : List ℕ). 40 ∷ l)
    (v.4 ∙ ap (λ (l : List ℕ). v.0 ++ l) v.3))))))) in
    let R = ref_again r c.0 tail c.2 (record { name = refl; digit = refl; point = upper_no_result op (40 ∷ (v.0 ++ 41 ∷ [])) e.2.1 }) in
    let V = values_again true args 4 4096 41 v.0 [] v.2 (λ bare. absurd (both bare)) few shallow parenthesis in
    let read : read_command most bytes ≡ (reference R.words >>= λ target. in_range V.found >>= λ args. Ok
    (call name target op (row_of args))) =
    ap (read_command most) line ∙ call_read most name op v.0 c.0 r args a.2.1 e.2.1 R V in
    record {
      fits = λ w.
          read
          ∙ ap (λ (q : Judged WrittenRef). q >>= λ target. in_range V.found >>= λ args. Ok (call name target op (row_of args)))
          (reference_fits R.words (subst (λ r. ResultFits r.result) (sym R.same) w.0) ∙ ap (λ (r : WrittenRef). Ok r) R.same)
          ∙ args_fit V.found args (call name r op) V.fit w.1;
      form = λ e. reference_form R.words _ (λ target. args_form V.found (λ args. call name target op (row_of args))) (sym read ∙ e);
    }
