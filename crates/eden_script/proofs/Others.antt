-- The laws of the other commands.
use Rattle.std.proofs.Common.{◌≡◌, ◌≢◌, ◌∙◌, ap, sym, refl, subst, ℕ, ◌==◌, Bool, true, false, cond, List, [], ◌∷◌, ◌++◌, codes}
use Rattle.std.proofs.Common.{Option, Some, None, Ok, Err, inl, inr, append-nil}
use Rattle.std.proofs.lemmas.Bool.{eqb-false, ne_eqb}
use Rattle.script_words.specs.Form.{is_number, is_lower, number_of, IsText, quoted}
use Rattle.eden_script.specs.Tree.{WrittenCommand, hold, restrict, walk, go, crash, restart}
use Rattle.script_words.specs.Tree.{WrittenRef, WrittenMode}
use Rattle.eden_script.specs.Tree.{cut, join, fail, stop, finish}
use Rattle.eden_script.specs.Grammar.{Command}
use Rattle.script_words.specs.Grammar.{◌⋅◌, Is, Number, Quoted}
use Rattle.eden_script.specs.Causes.{Fits}
use Rattle.script_words.specs.Causes.{Within, ResultFits, HowFits}
use Rattle.script_words.specs.Reading.{◌>>=◌}
use Rattle.script_words.specs.Reading.{Judged, Reading, read_word, read_lower_and_blank, read_digits, read_digits_and}
use Rattle.script_words.specs.Reading.{read_last_digits, read_two_digits, read_end, read_quoted}
use Rattle.eden_script.specs.Reading.{two_stations}
use Rattle.script_words.specs.Reading.{read_ref, within, reference, in_range, read_mode, read_crash_mode}
use Rattle.eden_script.specs.Reading.{read_stations, read_hold, read_restrict, read_walk, read_go, read_crash, read_restart, read_cut}
use Rattle.eden_script.specs.Reading.{read_join, read_fail, read_stop, read_command}
use Rattle.script_words.specs.declared.cause.ScriptCause.TheVariants.{BadForm}
use Rattle.script_words.proofs.Rules.{OnlyForm, only_bind, only_word, only_end, only_digits, only_digits_and, only_last_digits, form_then}
use Rattle.script_words.proofs.Rules.{number_then, range_then, only_lower_and_blank, lower_and_blank_takes, lower_and_blank_again}
use Rattle.script_words.proofs.Rules.{digits_and_takes, digits_and_again, last_takes, last_again, within_yes, within_no, within_cases}
use Rattle.script_words.proofs.Pieces.{bind_ok, same_ok, digits_take, digits_again, end_takes, word_takes}
use Rattle.script_words.proofs.ValueLaws.{reference_of, ref_sound}
use Rattle.script_words.proofs.Wholes.{Stops, RefAgain, ref_again, quoted_again}
use Rattle.eden_script.proofs.Calls.{reference_then, reference_fits, reference_form}
use Rattle.script_words.proofs.Calls.{only_ref, number_not_form, ok_not_form}
use Rattle.eden_script.proofs.Commands.{Spelled, Good, Some_one, Sound, Whole}
use Rattle.script_words.proofs.ModeLaws.{FitsHow, crash_mode_again, crash_mode_stops, crash_mode_takes, mode_again, mode_stops, mode_takes, number_is, only_crash_mode, only_mode, only_quoted, quoted_takes}

-- ## Numbers

pub number_step : {B : Type 0} (low high n : ℕ) (d : List ℕ) (f : ℕ → Judged B) → number_of d ≡ n → Within low high n
    → (within low high d >>= f) ≡ f n
number_step low high n d f same w =
    ap (λ (r : Judged ℕ). r >>= f) (within_yes low high d (subst (Within low high) (sym same) w)) ∙ ap f same

pub number_fails : {B : Type 0} (low high : ℕ) (d : List ℕ) (f : ℕ → Judged B) → ((n : ℕ) → f n ≡ Err BadForm → ⊥)
    → (within low high d >>= f) ≡ Err BadForm → ⊥
number_fails low high d f g h =
    elim (within_cases low high (number_of d)) [
      | inl w ↦ g _ (sym (ap (λ (r : Judged ℕ). r >>= f) (within_yes low high d w)) ∙ h)
      | inr out ↦ number_not_form (sym (ap (λ (r : Judged ℕ). r >>= f) (within_no low high d out)) ∙ h)
    ]

-- ## Commands with one number

pub single_sound : (most low high : ℕ) (w : List ℕ) (o : ℕ → WrittenCommand) → ((n : ℕ) (y : List ℕ) → Number n y → Spelled (w ++ y) (o n))
    → ((n : ℕ) → Within low high n → Fits most (o n))
    → (bytes : List ℕ) → Sound most (w ++ bytes) (read_last_digits bytes >>= λ d. within low high d >>= λ i. Ok (o i))
single_sound most low high w o spell fit bytes =
    let line = w ++ bytes in
    form_then (Good most line) (Some_one line) (read_last_digits bytes) _ (only_last_digits bytes) (λ d e.
    let s : Spelled line (o (number_of d)) = spell (number_of d) bytes (number_is bytes d e) in
    number_then (Good most line) (Some_one line) low high d _ (o (number_of d), s) (λ w. (s, fit (number_of d) w)))

pub single_whole : (most low high n : ℕ) (w : List ℕ) (o : ℕ → WrittenCommand) (bytes : List ℕ) → (Is w ⋅ Number n) bytes
    → ((y : List ℕ) → read_command most (w ++ y) ≡ (read_last_digits y >>= λ d. within low high d >>= λ i. Ok (o i)))
    → (Fits most (o n) → Within low high n) → Whole most (o n) (read_command most bytes)
single_whole most low high n w o bytes h dispatch fit =
    let line : bytes ≡ w ++ h.1 = h.4 ∙ ap (λ (l : List ℕ). l ++ h.1) h.2 in
    let read : read_command most bytes ≡ (within low high h.1 >>= λ i. Ok (o i)) =
    ap (read_command most) line ∙ dispatch h.1
    ∙ ap (λ (r : Judged (List ℕ)). r >>= λ d. within low high d >>= λ i. Ok (o i)) (last_again h.1 h.3.0) in
    record {
      fits = λ f. read ∙ number_step low high n h.1 (λ i. Ok (o i)) h.3.1 (fit f);
      form = λ e. number_fails low high h.1 (λ i. Ok (o i)) (λ n e. ok_not_form e) (sym read ∙ e);
    }

pub go_sound : (most : ℕ) (bytes : List ℕ) → Sound most (codes "go " ++ bytes) (read_go bytes)
go_sound most bytes = single_sound most 1 1000000 (codes "go ") go (λ n y h. ((codes "go ", y, refl, h, refl), tt)) (λ n w. w) bytes

pub go_whole : (most n : ℕ) (bytes : List ℕ) → Command (go n) bytes → Whole most (go n) (read_command most bytes)
go_whole most n bytes h = single_whole most 1 1000000 n (codes "go ") go bytes h (λ y. refl) (λ f. f)

pub restart_sound : (most : ℕ) (bytes : List ℕ) → Sound most (codes "restart " ++ bytes) (read_restart most bytes)
restart_sound most bytes =
    single_sound most 1 most (codes "restart ") restart (λ n y h. ((codes "restart ", y, refl, h, refl), tt)) (λ n w. w) bytes

pub restart_whole : (most n : ℕ) (bytes : List ℕ) → Command (restart n) bytes → Whole most (restart n) (read_command most bytes)
restart_whole most n bytes h = single_whole most 1 most n (codes "restart ") restart bytes h (λ y. refl) (λ f. f)

-- ## Commands with two numbers

pub only_two : (bytes : List ℕ) → OnlyForm (read_two_digits bytes)
only_two bytes =
    only_bind (read_digits_and (codes " ") bytes) _ (only_digits_and (codes " ") bytes)
    (λ a. only_bind (read_last_digits a.1) _ (only_last_digits a.1) (λ b. tt))

pub two_take : (bytes a b : List ℕ) → read_two_digits bytes ≡ Ok (a, b)
    → (bytes ≡ a ++ 32 ∷ b) × (is_number a ≡ true) × (is_number b ≡ true)
two_take bytes a b h =
    let x = bind_ok (read_digits_and (codes " ") bytes) (λ a. read_last_digits a.1 >>= λ b. Ok (a.0, b)) (a, b) h in
    let y = bind_ok (read_last_digits x.0.1) (λ b. Ok (x.0.0, b)) (a, b) x.2 in
    let s = same_ok (x.0.0, y.0) (a, b) y.2 in
    let first : x.0.0 ≡ a = ap (λ (p : List ℕ × List ℕ). p.0) s in
    let second : y.0 ≡ b = ap (λ (p : List ℕ × List ℕ). p.1) s in
    let D = digits_and_takes (codes " ") bytes x.0.0 x.0.1 x.1 in
    let L = last_takes x.0.1 y.0 y.1 in (
      D.0 ∙ ap (λ (l : List ℕ). x.0.0 ++ 32 ∷ l) (L.0 ∙ second) ∙ ap (λ (l : List ℕ). l ++ 32 ∷ b) first,
      ap is_number (sym first) ∙ D.1,
      ap is_number (sym second) ∙ L.1,
    )

pub two_again : (a b : List ℕ) → is_number a ≡ true → is_number b ≡ true → read_two_digits (a ++ 32 ∷ b) ≡ Ok (a, b)
two_again a b g h =
    ap (λ (r : Reading (List ℕ)). r >>= λ a. read_last_digits a.1 >>= λ b. Ok (a.0, b)) (digits_and_again (codes " ") a b g refl)
    ∙ ap (λ (r : Judged (List ℕ)). r >>= λ b. Ok (a, b)) (last_again b h)

pub fail_sound : (most : ℕ) (bytes : List ℕ) → Sound most (codes "fail " ++ bytes) (read_fail most bytes)
fail_sound most bytes =
    let line = codes "fail " ++ bytes in
    let G = Good most line in
    let S = Some_one line in
    form_then G S (read_two_digits bytes) _ (only_two bytes) (λ w e.
    let t = two_take bytes w.0 w.1 e in
    let o : WrittenCommand = fail (number_of w.0) (number_of w.1) in
    let s : Spelled line o =
    ((codes "fail ", bytes, refl, (w.0, 32 ∷ w.1, (t.1, refl), (codes " ", w.1, refl, (t.2, refl), refl), t.0), refl), tt) in
    number_then G S 1 most w.0 _ (o, s) (λ p. number_then G S 1 1000000 w.1 _ (o, s) (λ q. (s, (p, q)))))

-- the two numbers of a spelling
two_line : (a b : ℕ) (bytes : List ℕ) → (Number a ⋅ Is (codes " ") ⋅ Number b) bytes
    → (x : List ℕ) × (y : List ℕ) × (bytes ≡ x ++ 32 ∷ y) × Number a x × Number b y
two_line a b bytes h =
    (h.0, h.3.1, h.4 ∙ ap (λ (l : List ℕ). h.0 ++ l) (h.3.4 ∙ ap (λ (l : List ℕ). l ++ h.3.1) h.3.2), h.2, h.3.3)

pub fail_whole : (most n k : ℕ) (bytes : List ℕ) → Command (fail n k) bytes → Whole most (fail n k) (read_command most bytes)
fail_whole most n k bytes h =
    let t = two_line n k h.1 h.3 in
    let line : bytes ≡ codes "fail " ++ (t.0 ++ 32 ∷ t.1) =
    h.4 ∙ ap (λ (l : List ℕ). l ++ h.1) h.2 ∙ ap (λ (l : List ℕ). codes "fail " ++ l) t.2 in
    let read : read_command most bytes ≡ (within 1 most t.0 >>= λ node. within 1 1000000 t.1 >>= λ k. Ok (fail node k)) =
    ap (read_command most) line
    ∙ ap
    (λ (r : Judged (List ℕ × List ℕ)). r >>= λ words. within 1 most words.0 >>= λ node. within 1 1000000 words.1 >>= λ k. Ok (fail node k))
    (two_again t.0 t.1 t.3.0 t.4.0) in
    record {
      fits = λ f. read ∙ number_step 1 most n t.0 _ t.3.1 f.0 ∙ number_step 1 1000000 k t.1 _ t.4.1 f.1;
      form = λ e. number_fails 1 most t.0 _ (λ n. number_fails 1 1000000 t.1 _ (λ k e. ok_not_form e)) (sym read ∙ e);
    }

-- ## Links

only_stations : (w : List ℕ × List ℕ) → OnlyForm (two_stations w)
only_stations w = only_flip (number_of w.0 == number_of w.1) w
  where
    only_flip : (b : Bool) (x : List ℕ × List ℕ) → OnlyForm (cond {A = Judged (List ℕ × List ℕ)} b (Err BadForm) (Ok x))
    only_flip true x = tt
    only_flip false x = tt

stations_by : (b : Bool) (w v : List ℕ × List ℕ) → ◌≡◌ {A = Judged (List ℕ × List ℕ)} (cond b (Err BadForm) (Ok w)) (Ok v)
    → (b ≡ false) × (w ≡ v)
stations_by true w v h = absurd cc
stations_by false w v h = (refl, same_ok w v h)

abbrev both_ok : ℕ → ℕ → Judged (ℕ × ℕ)
both_ok a b = Ok (a, b)

module _ (most : ℕ) (w : List ℕ) (o : ℕ → ℕ → WrittenCommand) where
  pub link_sound : ((a b : ℕ) (y : List ℕ) → (Number a ⋅ Is (codes " ") ⋅ Number b) y → a ≢ b → Spelled (w ++ y) (o a b))
      → ((a b : ℕ) → Within 0 most a → Within 0 most b → Fits most (o a b))
      → (bytes : List ℕ) → Sound most (w ++ bytes) (read_stations most bytes >>= λ s. Ok (o s.0 s.1))
  link_sound spell fit bytes =
      let line = w ++ bytes in
      let G = Good most line in
      let S = Some_one line in
      subst (Sound most line) (again (read_two_digits bytes))
      (form_then G S (read_two_digits bytes) _ (only_two bytes) (λ v e.
      form_then G S (two_stations v) _ (only_stations v) (λ u f.
      let d = stations_by (number_of v.0 == number_of v.1) v u f in
      let t = two_take bytes u.0 u.1 (e ∙ ap (λ (x : List ℕ × List ℕ). Ok x) d.1) in
      let apart : number_of u.0 ≢ number_of u.1 = subst (λ (x : List ℕ × List ℕ). number_of x.0 ≢ number_of x.1) d.1 (eqb-false _ _ d.0) in
      let s : Spelled line (o (number_of u.0) (number_of u.1)) =
      spell (number_of u.0) (number_of u.1) bytes (u.0, 32 ∷ u.1, (t.1, refl), (codes " ", u.1, refl, (t.2, refl), refl), t.0) apart in
      number_then G S 0 most u.0 _ (o (number_of u.0) (number_of u.1), s)
      (λ p. number_then G S 0 most u.1 _ (o (number_of u.0) (number_of u.1), s) (λ q. (s, fit _ _ p q))))))
    where
      last : (a b : Judged ℕ) → (a >>= λ a. b >>= λ b. Ok (o a b)) ≡ ((a >>= λ a. b >>= λ b. both_ok a b) >>= λ s. Ok (o s.0 s.1))
      last (Ok a) (Ok b) = refl
      last (Ok a) (Err e) = refl
      last (Err e) b = refl

      middle : (r : Judged (List ℕ × List ℕ))
          → (r >>= λ u. within 0 most u.0 >>= λ a. within 0 most u.1 >>= λ b. Ok (o a b)) ≡
          ((r >>= λ u. within 0 most u.0 >>= λ a. within 0 most u.1 >>= λ b. both_ok a b) >>= λ s. Ok (o s.0 s.1))
      middle (Ok u) = last (within 0 most u.0) (within 0 most u.1)
      middle (Err e) = refl

      again : (r : Judged (List ℕ × List ℕ))
          → (r >>= λ v. two_stations v >>= λ u. within 0 most u.0 >>= λ a. within 0 most u.1 >>= λ b. Ok (o a b)) ≡
          ((r >>= λ v. two_stations v >>= λ u. within 0 most u.0 >>= λ a. within 0 most u.1 >>= λ b. both_ok a b) >>= λ s. Ok (o s.0 s.1))
      again (Ok v) = middle (two_stations v)
      again (Err e) = refl

  pub link_whole : (a b : ℕ) (bytes : List ℕ) → (Is w ⋅ Number a ⋅ Is (codes " ") ⋅ Number b) bytes → a ≢ b
      → ((y : List ℕ) → read_command most (w ++ y) ≡ (read_stations most y >>= λ s. Ok (o s.0 s.1)))
      → (Fits most (o a b) → Within 0 most a × Within 0 most b) → Whole most (o a b) (read_command most bytes)
  link_whole a b bytes h apart dispatch fit =
      let t = two_line a b h.1 h.3 in
      let line : bytes ≡ w ++ (t.0 ++ 32 ∷ t.1) = h.4 ∙ ap (λ (l : List ℕ). l ++ h.1) h.2 ∙ ap (λ (l : List ℕ). w ++ l) t.2 in
      let d : (number_of t.0 == number_of t.1) ≡ false = ne_eqb _ _ (λ e. apart (sym t.3.1 ∙ e ∙ t.4.1)) in
      let pair : Judged (List ℕ × List ℕ) = Ok (t.0, t.1) in
      let stations : read_stations most (t.0 ++ 32 ∷ t.1) ≡ (within 0 most t.0 >>= λ a. within 0 most t.1 >>= λ b. both_ok a b) =
      ap
      (λ (r : Judged
      (List ℕ × List ℕ)). r >>= λ v. two_stations v >>= λ u. within 0 most u.0 >>= λ a. within 0 most u.1 >>= λ b. both_ok a b)
      (two_again t.0 t.1 t.3.0 t.4.0)
      ∙ ap (λ (z : Bool). cond z (Err BadForm) pair >>= λ u. within 0 most u.0 >>= λ a. within 0 most u.1 >>= λ b. both_ok a b) d in
      let read : read_command most bytes ≡ ((within 0 most t.0 >>= λ a. within 0 most t.1 >>= λ b. both_ok a b) >>= λ s. Ok (o s.0 s.1)) =
      ap (read_command most) line ∙ dispatch (t.0 ++ 32 ∷ t.1) ∙ ap (λ (r : Judged (ℕ × ℕ)). r >>= λ s. Ok (o s.0 s.1)) stations in
      record {
        fits =
            λ f. read
            ∙ ap (λ (r : Judged (ℕ × ℕ)). r >>= λ s. Ok (o s.0 s.1))
            (number_step 0 most a t.0 _ t.3.1 (fit f).0 ∙ number_step 0 most b t.1 _ t.4.1 (fit f).1);
        form =
            λ e. two_fail (within 0 most t.0) (within 0 most t.1) (λ f. number_fails 0 most t.0 (λ n. both_ok n n) (λ n e. ok_not_form e) f)
            (λ f. number_fails 0 most t.1 (λ n. both_ok n n) (λ n e. ok_not_form e) f) (sym read ∙ e);
      }
    where
      two_fail : (x y : Judged ℕ) → ((x >>= λ n. both_ok n n) ≡ Err BadForm → ⊥) → ((y >>= λ n. both_ok n n) ≡ Err BadForm → ⊥)
          → ((x >>= λ a. y >>= λ b. both_ok a b) >>= λ s. Ok (o s.0 s.1)) ≡ Err BadForm → ⊥
      two_fail (Ok a) (Ok b) g h e = ok_not_form e
      two_fail (Ok a) (Err c) g h e = h (ap back e)
        where
          back : Judged WrittenCommand → Judged (ℕ × ℕ)
          back (Ok o) = both_ok 0 0
          back (Err c) = Err c
      two_fail (Err c) y g h e = g (ap back e)
        where
          back : Judged WrittenCommand → Judged (ℕ × ℕ)
          back (Ok o) = both_ok 0 0
          back (Err c) = Err c

pub cut_sound : (most : ℕ) (bytes : List ℕ) → Sound most (codes "cut " ++ bytes) (read_cut most bytes)
cut_sound most bytes = link_sound most (codes "cut ") cut (λ a b y h d. ((codes "cut ", y, refl, h, refl), d)) (λ a b p q. (p, q)) bytes

pub cut_whole : (most a b : ℕ) (bytes : List ℕ) → Command (cut a b) bytes → a ≢ b → Whole most (cut a b) (read_command most bytes)
cut_whole most a b bytes h d = link_whole most (codes "cut ") cut a b bytes h d (λ y. refl) (λ f. f)

pub join_sound : (most : ℕ) (bytes : List ℕ) → Sound most (codes "join " ++ bytes) (read_join most bytes)
join_sound most bytes = link_sound most (codes "join ") join (λ a b y h d. ((codes "join ", y, refl, h, refl), d)) (λ a b p q. (p, q)) bytes

pub join_whole : (most a b : ℕ) (bytes : List ℕ) → Command (join a b) bytes → a ≢ b → Whole most (join a b) (read_command most bytes)
join_whole most a b bytes h d = link_whole most (codes "join ") join a b bytes h d (λ y. refl) (λ f. f)

-- ## hold

pub hold_sound : (most : ℕ) (bytes : List ℕ) → Sound most (codes "hold " ++ bytes) (read_hold most bytes)
hold_sound most bytes =
    let line = codes "hold " ++ bytes in
    let G = Good most line in
    let S = Some_one line in
    form_then G S (read_lower_and_blank bytes) _ (only_lower_and_blank bytes) (λ n e1.
    form_then G S (read_digits_and (codes ".") n.1) _ (only_digits_and (codes ".") n.1) (λ d e2.
    form_then G S (read_digits_and (codes ".") d.1) _ (only_digits_and (codes ".") d.1) (λ p e3.
    form_then G S (read_last_digits p.1) _ (only_last_digits p.1) (λ z e4.
    let N = lower_and_blank_takes bytes n.0 n.1 e1 in
    let D = digits_and_takes (codes ".") n.1 d.0 d.1 e2 in
    let E = digits_and_takes (codes ".") d.1 p.0 p.1 e3 in
    let o : WrittenCommand = hold n.0 (number_of d.0) (number_of p.0) (number_of z) in
    let s : Spelled line o = (
      (
        codes "hold ",
        bytes,
        refl,
        (
          n.0,
          32 ∷ n.1,
          (refl, N.1),
          (
            codes " ",
            n.1,
            refl,
            (
              d.0,
              46 ∷ d.1,
              (D.1, refl),
              (codes ".", d.1, refl, (p.0, 46 ∷ p.1, (E.1, refl), (codes ".", p.1, refl, number_is p.1 z e4, refl), E.0), refl),
              D.0,
            ),
            refl,
          ),
          N.0,
        ),
        refl,
      ),
      tt,
    )
    in
    number_then G S 1 most d.0 _ (o, s)
    (λ w. number_then G S 1 4294967295 p.0 _ (o, s) (λ x. number_then G S 1 4294967295 z _ (o, s) (λ y. (s, (w, x, y)))))))))

hold_read : (most : ℕ) (name d p z : List ℕ) → is_lower name ≡ true → is_number d ≡ true → is_number p ≡ true → is_number z ≡ true
    → read_hold most (name ++ 32 ∷ (d ++ 46 ∷ (p ++ 46 ∷ z))) ≡
    (within 1 most d >>= λ node. within 1 4294967295 p >>= λ epoch. within 1 4294967295 z >>= λ serial. Ok (hold name node epoch serial))
hold_read most name d p z a b c e =
    let F =
    λ (n d p z : List ℕ). within 1 most d >>= λ node. within 1 4294967295 p >>= λ epoch. within 1 4294967295 z >>= λ serial. Ok
    (hold n node epoch serial) in
    ap
    (λ (r : Reading (List ℕ)). r >>= λ n. read_digits_and (codes ".") n.1 >>= λ d. read_digits_and
    (codes ".") d.1 >>= λ p. read_last_digits p.1 >>= λ z. F n.0 d.0 p.0 z)
    (lower_and_blank_again name (d ++ 46 ∷ (p ++ 46 ∷ z)) a)
    ∙ ap (λ (r : Reading (List ℕ)). r >>= λ d. read_digits_and (codes ".") d.1 >>= λ p. read_last_digits p.1 >>= λ z. F name d.0 p.0 z)
    (digits_and_again (codes ".") d (p ++ 46 ∷ z) b refl)
    ∙ ap (λ (r : Reading (List ℕ)). r >>= λ p. read_last_digits p.1 >>= λ z. F name d p.0 z) (digits_and_again (codes ".") p z c refl)
    ∙ ap (λ (r : Judged (List ℕ)). r >>= λ z. F name d p z) (last_again z e)

pub hold_whole : (most : ℕ) (name : List ℕ) (n e s : ℕ) (bytes : List ℕ) → Command (hold name n e s) bytes
    → Whole most (hold name n e s) (read_command most bytes)
hold_whole most name n e s bytes h =
    let a = h.3 in
    let b = a.3 in
    let c = b.3 in
    let d = c.3 in
    let p = d.3 in
    let q = p.3 in
    let line : bytes ≡ codes "hold " ++ (name ++ 32 ∷ (c.0 ++ 46 ∷ (p.0 ++ 46 ∷ q.1))) =
    h.4 ∙ ap (λ (l : List ℕ). l ++ h.1) h.2 ∙ ap (λ (l : List ℕ). codes "hold " ++ l)
    (a.4 ∙ ap (λ (l : List ℕ). l ++ a.1) a.2.0 ∙ ap (λ (l : List ℕ). name ++ l)
    (b.4 ∙ ap (λ (l : List ℕ). l ++ b.1) b.2 ∙ ap (λ (l : List ℕ). 32 ∷ l)
    (c.4 ∙ ap (λ (l : List ℕ). c.0 ++ l)
    (d.4 ∙ ap (λ (l : List ℕ). l ++ d.1) d.2 ∙ ap (λ (l : List ℕ). 46 ∷ l)
    (p.4 ∙ ap (λ (l : List ℕ). p.0 ++ l) (q.4 ∙ ap (λ (l : List ℕ). l ++ q.1) q.2)))))) in
    let read = ap (read_command most) line ∙ hold_read most name c.0 p.0 q.1 a.2.1 c.2.0 p.2.0 q.3.0 in
    record {
      fits =
          λ f. read ∙ number_step 1 most n c.0 _ c.2.1 f.0 ∙ number_step 1 4294967295 e p.0 _ p.2.1 f.1
          ∙ number_step 1 4294967295 s q.1 _ q.3.1 f.2;
      form =
          λ x. number_fails 1 most c.0 _ (λ i. number_fails 1 4294967295 p.0 _
          (λ j. number_fails 1 4294967295 q.1 _ (λ k e. ok_not_form e))) (sym read ∙ x);
    }

-- ## restrict

pub restrict_sound : (most : ℕ) (bytes : List ℕ) → Sound most (codes "restrict " ++ bytes) (read_restrict bytes)
restrict_sound most bytes =
    let line = codes "restrict " ++ bytes in
    let G = Good most line in
    let S = Some_one line in
    form_then G S (read_lower_and_blank bytes) _ (only_lower_and_blank bytes) (λ n e1.
    form_then G S (read_ref n.1) _ (only_ref n.1) (λ r e2.
    form_then G S (read_word (codes " ") r.1) _ (only_word (codes " ") r.1) (λ p e3.
    form_then G S (read_last_digits p) _ (only_last_digits p) (λ d e4.
    let N = lower_and_blank_takes bytes n.0 n.1 e1 in
    let R = ref_sound n.1 r.0 r.1 e2 in
    let o : WrittenCommand = restrict n.0 (reference_of r.0) (number_of d) in
    let s : Spelled line o = (
      (
        codes "restrict ",
        bytes,
        refl,
        (
          n.0,
          32 ∷ n.1,
          (refl, N.1),
          (
            codes " ",
            n.1,
            refl,
            (
              R.front,
              r.1,
              R.spelled,
              (codes " ", p, refl, number_is p d e4, word_takes (codes " ") r.1 p e3),
              R.whole,
            ),
            refl,
          ),
          N.0,
        ),
        refl,
      ),
      tt,
    )
    in
    reference_then G S r.0 _ (o, s) (λ f. number_then G S 0 65535 d _ (o, s) (λ w. (s, (f, w))))))))

restrict_read : (name x d : List ℕ) (r : WrittenRef) → is_lower name ≡ true → (a : RefAgain r (x ++ 32 ∷ d) (32 ∷ d)) → is_number d ≡ true
    → read_restrict (name ++ 32 ∷ (x ++ 32 ∷ d)) ≡
    (reference a.words >>= λ target. within 0 65535 d >>= λ mask. Ok (restrict name target mask))
restrict_read name x d r good a number =
    let F =
    λ (n : List ℕ) (w : List ℕ × Option (List ℕ)) (d : List ℕ). reference w >>= λ target. within 0 65535 d >>= λ mask. Ok
    (restrict n target mask) in
    ap
    (λ (q : Reading (List ℕ)). q >>= λ n. read_ref n.1 >>= λ r. read_word
    (codes " ") r.1 >>= λ rest. read_last_digits rest >>= λ d. F n.0 r.0 d)
    (lower_and_blank_again name (x ++ 32 ∷ d) good)
    ∙ ap
    (λ (q : Reading (List ℕ × Option (List ℕ))). q >>= λ r. read_word
    (codes " ") r.1 >>= λ rest. read_last_digits rest >>= λ d. F name r.0 d)
    a.read
    ∙ ap (λ (q : Judged (List ℕ)). q >>= λ d. F name a.words d) (last_again d number)

reference_step : {B : Type 0} (r : WrittenRef) (w : List ℕ × Option (List ℕ)) (f : WrittenRef → Judged B) → reference_of w ≡ r
    → ResultFits r.result → (reference w >>= f) ≡ f r
reference_step r w f same fits =
    ap (λ (q : Judged WrittenRef). q >>= f) (reference_fits w (subst (λ r. ResultFits r.result) (sym same) fits)) ∙ ap f same

blank_stops : (rest : List ℕ) → Stops (32 ∷ rest)
blank_stops rest = record { name = refl; digit = refl; point = refl }

pub restrict_whole : (most : ℕ) (name : List ℕ) (r : WrittenRef) (mask : ℕ) (bytes : List ℕ) → Command (restrict name r mask) bytes
    → Whole most (restrict name r mask) (read_command most bytes)
restrict_whole most name r mask bytes h =
    let a = h.3 in
    let b = a.3 in
    let c = b.3 in
    let d = c.3 in
    let line : bytes ≡ codes "restrict " ++ (name ++ 32 ∷ (c.0 ++ 32 ∷ d.1)) =
    h.4 ∙ ap (λ (l : List ℕ). l ++ h.1) h.2 ∙ ap (λ (l : List ℕ). codes "restrict " ++ l)
    (a.4 ∙ ap (λ (l : List ℕ). l ++ a.1) a.2.0 ∙ ap (λ (l : List ℕ). name ++ l)
    (b.4 ∙ ap (λ (l : List ℕ). l ++ b.1) b.2 ∙ ap (λ (l : List ℕ). 32 ∷ l)
    (c.4 ∙ ap (λ (l : List ℕ). c.0 ++ l) (d.4 ∙ ap (λ (l : List ℕ). l ++ d.1) d.2)))) in
    let R = ref_again r c.0 (32 ∷ d.1) c.2 (blank_stops d.1) in
    let read = ap (read_command most) line ∙ restrict_read name c.0 d.1 r a.2.1 R d.3.0 in
    record {
      fits = λ f. read ∙ reference_step r R.words _ R.same f.0 ∙ number_step 0 65535 mask d.1 _ d.3.1 f.1;
      form = λ e. reference_form R.words _ (λ t. number_fails 0 65535 d.1 _ (λ k e. ok_not_form e)) (sym read ∙ e);
    }

-- ## walk

pub walk_sound : (most : ℕ) (bytes : List ℕ) → Sound most (codes "walk " ++ bytes) (read_walk bytes)
walk_sound most bytes =
    let line = codes "walk " ++ bytes in
    let G = Good most line in
    let S = Some_one line in
    form_then G S (read_lower_and_blank bytes) _ (only_lower_and_blank bytes) (λ n e1.
    form_then G S (read_ref n.1) _ (only_ref n.1) (λ r e2.
    form_then G S (read_word (codes " ") r.1) _ (only_word (codes " ") r.1) (λ p e3.
    form_then G S (read_quoted p) _ (only_quoted p) (λ t e4.
    form_then G S (read_end t.1) _ (only_end t.1) (λ u e5.
    let N = lower_and_blank_takes bytes n.0 n.1 e1 in
    let R = ref_sound n.1 r.0 r.1 e2 in
    let T = quoted_takes p t.0 t.1 e4 in
    let whole : T.0 ≡ p = sym (T.2 ∙ ap (λ (l : List ℕ). T.0 ++ l) (end_takes t.1 u e5) ∙ append-nil T.0) in
    let o : WrittenCommand = walk n.0 (reference_of r.0) t.0 in
    let s : Spelled line o = (
      (
        codes "walk ",
        bytes,
        refl,
        (
          n.0,
          32 ∷ n.1,
          (refl, N.1),
          (
            codes " ",
            n.1,
            refl,
            (
              R.front,
              r.1,
              R.spelled,
              (codes " ", p, refl, subst (Quoted t.0) whole T.1, word_takes (codes " ") r.1 p e3),
              R.whole,
            ),
            refl,
          ),
          N.0,
        ),
        refl,
      ),
      tt,
    )
    in
    reference_then G S r.0 _ (o, s) (λ f. (s, f)))))))

walk_read : (name x t : List ℕ) (r : WrittenRef) → is_lower name ≡ true
    → (a : RefAgain r (x ++ 32 ∷ ((34 ∷ quoted t) ++ 34 ∷ [])) (32 ∷ ((34 ∷ quoted t) ++ 34 ∷ []))) → IsText t
    → read_walk (name ++ 32 ∷ (x ++ 32 ∷ ((34 ∷ quoted t) ++ 34 ∷ []))) ≡ (reference a.words >>= λ target. Ok (walk name target t))
walk_read name x t r good a text =
    let F =
    λ (n : List ℕ) (w : List ℕ × Option (List ℕ)) (p : List ℕ × List ℕ). read_end p.1 >>= λ _. reference w >>= λ target. Ok
    (walk n target p.0) in
    ap (λ (q : Reading (List ℕ)). q >>= λ n. read_ref n.1 >>= λ r. read_word (codes " ") r.1 >>= λ rest. read_quoted rest >>= F n.0 r.0)
    (lower_and_blank_again name (x ++ 32 ∷ ((34 ∷ quoted t) ++ 34 ∷ [])) good)
    ∙ ap (λ (q : Reading (List ℕ × Option (List ℕ))). q >>= λ r. read_word (codes " ") r.1 >>= λ rest. read_quoted rest >>= F name r.0)
    a.read
    ∙ ap (λ (q : Reading (List ℕ)). q >>= F name a.words) (quoted_again t [] text)

pub walk_whole : (most : ℕ) (name : List ℕ) (r : WrittenRef) (t bytes : List ℕ) → Command (walk name r t) bytes
    → Whole most (walk name r t) (read_command most bytes)
walk_whole most name r t bytes h =
    let a = h.3 in
    let b = a.3 in
    let c = b.3 in
    let d = c.3 in
    let q : List ℕ = (34 ∷ quoted t) ++ 34 ∷ [] in
    let line : bytes ≡ codes "walk " ++ (name ++ 32 ∷ (c.0 ++ 32 ∷ q)) =
    h.4 ∙ ap (λ (l : List ℕ). l ++ h.1) h.2 ∙ ap (λ (l : List ℕ). codes "walk " ++ l)
    (a.4 ∙ ap (λ (l : List ℕ). l ++ a.1) a.2.0 ∙ ap (λ (l : List ℕ). name ++ l)
    (b.4 ∙ ap (λ (l : List ℕ). l ++ b.1) b.2 ∙ ap (λ (l : List ℕ). 32 ∷ l)
    (c.4 ∙ ap (λ (l : List ℕ). c.0 ++ l) (d.4 ∙ ap (λ (l : List ℕ). l ++ d.1) d.2 ∙ ap (λ (l : List ℕ). 32 ∷ l) d.3.0)))) in
    let R = ref_again r c.0 (32 ∷ q) c.2 (blank_stops q) in
    let read = ap (read_command most) line ∙ walk_read name c.0 t r a.2.1 R d.3.1 in
    record {
      fits = λ f. read ∙ reference_step r R.words _ R.same f;
      form = λ e. reference_form R.words _ (λ t e. ok_not_form e) (sym read ∙ e);
    }

-- ## Modes

mode_step : (m : Option WrittenMode) (how : WrittenMode) (f : WrittenMode → Judged WrittenCommand) → FitsHow m how → HowFits how
    → (in_range m >>= f) ≡ f how
mode_step None how f h fits = absurd (h fits)
mode_step (Some x) how f h fits = ap f h.0

mode_form : (m : Option WrittenMode) (f : WrittenMode → Judged WrittenCommand) → ((how : WrittenMode) → f how ≡ Err BadForm → ⊥)
    → (in_range m >>= f) ≡ Err BadForm → ⊥
mode_form None f g h = number_not_form h
mode_form (Some x) f g h = g x h

-- ## crash and stop

pub crash_sound : (most : ℕ) (bytes : List ℕ) → Sound most (codes "crash " ++ bytes) (read_crash most bytes)
crash_sound most bytes =
    let line = codes "crash " ++ bytes in
    let G = Good most line in
    let S = Some_one line in
    form_then G S (read_digits bytes) _ (only_digits bytes) (λ d e1.
    form_then G S (read_crash_mode d.1) _ (only_crash_mode d.1) (λ m e2.
    let D = digits_take bytes d.0 d.1 e1 in
    let M = crash_mode_takes d.1 m e2 in
    let o : WrittenCommand = crash (number_of d.0) M.0 in
    let s : Spelled line o = ((codes "crash ", bytes, refl, (d.0, d.1, (D.1, refl), M.1, D.0), refl), tt) in
    number_then G S 1 most d.0 _ (o, s) (λ w. range_then G S m _ (o, s) (λ how e3.
    let F : FitsHow (Some how) M.0 = subst (λ m. FitsHow m M.0) e3 M.2 in
    subst (λ (h : WrittenMode). G (crash (number_of d.0) h)) (sym F.0) (s, (w, F.1))))))

pub crash_whole : (most n : ℕ) (how : WrittenMode) (bytes : List ℕ) → Command (crash n how) bytes
    → Whole most (crash n how) (read_command most bytes)
crash_whole most n how bytes h =
    let a = h.3 in
    let line : bytes ≡ codes "crash " ++ (a.0 ++ a.1) =
    h.4 ∙ ap (λ (l : List ℕ). l ++ h.1) h.2 ∙ ap (λ (l : List ℕ). codes "crash " ++ l) a.4 in
    let M = crash_mode_again how a.1 a.3 in
    let read : read_command most bytes ≡ (within 1 most a.0 >>= λ node. in_range M.0 >>= λ how. Ok (crash node how)) =
    ap (read_command most) line
    ∙ ap
    (λ (r : Reading (List ℕ)). r >>= λ d. read_crash_mode d.1 >>= λ how. within 1 most d.0 >>= λ node. in_range how >>= λ how. Ok
    (crash node how))
    (digits_again a.0 a.1 a.2.0 (crash_mode_stops how a.1 a.3))
    ∙ ap (λ (r : Judged (Option WrittenMode)). r >>= λ how. within 1 most a.0 >>= λ node. in_range how >>= λ how. Ok (crash node how)) M.1
    in
    record {
      fits = λ f. read ∙ number_step 1 most n a.0 _ a.2.1 f.0 ∙ mode_step M.0 how (λ how. Ok (crash n how)) M.2 f.1;
      form = λ e. number_fails 1 most a.0 _ (λ n. mode_form M.0 (λ how. Ok (crash n how)) (λ h e. ok_not_form e)) (sym read ∙ e);
    }

pub stop_sound : (most : ℕ) (bytes : List ℕ) → Sound most (codes "stop " ++ bytes) (read_stop most bytes)
stop_sound most bytes =
    let line = codes "stop " ++ bytes in
    let G = Good most line in
    let S = Some_one line in
    form_then G S (read_digits_and (codes " ") bytes) _ (only_digits_and (codes " ") bytes) (λ d e1.
    form_then G S (read_digits d.1) _ (only_digits d.1) (λ k e2.
    form_then G S (read_mode k.1) _ (only_mode k.1) (λ m e3.
    let D = digits_and_takes (codes " ") bytes d.0 d.1 e1 in
    let K = digits_take d.1 k.0 k.1 e2 in
    let M = mode_takes k.1 m e3 in
    let o : WrittenCommand = stop (number_of d.0) (number_of k.0) M.0 in
    let s : Spelled line o = (
      (
        codes "stop ",
        bytes,
        refl,
        (d.0, 32 ∷ d.1, (D.1, refl), (codes " ", d.1, refl, (k.0, k.1, (K.1, refl), M.1, K.0), refl), D.0),
        refl,
      ),
      tt,
    )
    in
    number_then G S 1 most d.0 _ (o, s) (λ w. number_then G S 1 1000000 k.0 _ (o, s) (λ x. range_then G S m _ (o, s) (λ how e4.
    let F : FitsHow (Some how) M.0 = subst (λ m. FitsHow m M.0) e4 M.2 in
    subst (λ (h : WrittenMode). G (stop (number_of d.0) (number_of k.0) h)) (sym F.0) (s, (w, x, F.1))))))))

pub stop_whole : (most n k : ℕ) (how : WrittenMode) (bytes : List ℕ) → Command (stop n k how) bytes
    → Whole most (stop n k how) (read_command most bytes)
stop_whole most n k how bytes h =
    let a = h.3 in
    let b = a.3 in
    let c = b.3 in
    let line : bytes ≡ codes "stop " ++ (a.0 ++ 32 ∷ (c.0 ++ c.1)) =
    h.4 ∙ ap (λ (l : List ℕ). l ++ h.1) h.2
    ∙ ap (λ (l : List ℕ). codes "stop " ++ l)
    (a.4 ∙ ap (λ (l : List ℕ). a.0 ++ l) (b.4 ∙ ap (λ (l : List ℕ). l ++ b.1) b.2 ∙ ap (λ (l : List ℕ). 32 ∷ l) c.4)) in
    let M = mode_again how c.1 c.3 in
    let F =
    λ (d k : List ℕ) (how : Option WrittenMode). within 1 most d >>= λ node. within 1 1000000 k >>= λ after. in_range how >>= λ how. Ok
    (stop node after how) in
    let read : read_command most bytes ≡ (within 1 most a.0 >>= λ node. within 1 1000000 c.0 >>= λ after. in_range M.0 >>= λ how. Ok
    (stop node after how)) =
    ap (read_command most) line
    ∙ ap (λ (r : Reading (List ℕ)). r >>= λ d. read_digits d.1 >>= λ k. read_mode k.1 >>= λ how. F d.0 k.0 how)
    (digits_and_again (codes " ") a.0 (c.0 ++ c.1) a.2.0 refl)
    ∙ ap (λ (r : Reading (List ℕ)). r >>= λ k. read_mode k.1 >>= λ how. F a.0 k.0 how) (digits_again c.0 c.1 c.2.0 (mode_stops how c.1 c.3))
    ∙ ap (λ (r : Judged (Option WrittenMode)). r >>= λ how. F a.0 c.0 how) M.1 in
    record {
      fits =
          λ f. read ∙ number_step 1 most n a.0 _ a.2.1 f.0 ∙ number_step 1 1000000 k c.0 _ c.2.1 f.1
          ∙ mode_step M.0 how (λ how. Ok (stop n k how)) M.2 f.2;
      form =
          λ e. number_fails 1 most a.0 _ (λ n. number_fails 1 1000000 c.0 _
          (λ k. mode_form M.0 (λ how. Ok (stop n k how)) (λ h e. ok_not_form e))) (sym read ∙ e);
    }

pub end_whole : (most : ℕ) (bytes : List ℕ) → Command finish bytes → Whole most finish (read_command most bytes)
end_whole most bytes h = record { fits = λ f. ap (read_command most) h; form = λ e. ok_not_form (sym (ap (read_command most) h) ∙ e) }
