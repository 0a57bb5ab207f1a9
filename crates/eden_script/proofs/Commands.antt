-- The laws of commands.
use Rattle.std.proofs.Common.{◌≡◌, ◌∙◌, ap, sym, refl, subst, ℕ, true, List, [], ◌∷◌, ◌++◌, codes, Ok, Err, inl, inr, append-nil}
use Rattle.script_words.specs.Form.{is_number, is_lower, is_upper, is_name_byte, number_of}
use Rattle.eden_script.specs.Tree.{WrittenCommand, turn, create}
use Rattle.eden_script.specs.Grammar.{Command, Holds}
use Rattle.script_words.specs.Grammar.{Number}
use Rattle.eden_script.specs.Causes.{Fits}
use Rattle.script_words.specs.Causes.{Within}
use Rattle.eden_script.specs.Reading.{read_create}
use Rattle.script_words.specs.Reading.{◌>>=◌}
use Rattle.script_words.specs.Reading.{Judged, Reading, read_lower_and_blank, read_digits_and, read_upper, read_end}
use Rattle.eden_script.specs.Reading.{read_turn, read_command}
use Rattle.script_words.specs.Reading.{read_last_digits, within}
use Rattle.script_words.specs.declared.cause.ScriptCause.TheVariants.{BadForm, BadNumber}
use Rattle.script_words.proofs.Rules.{Judges, form_then, number_then, only_last_digits, last_takes, last_again, within_yes, within_cases}
use Rattle.script_words.proofs.Rules.{within_no, only_lower_and_blank, only_digits_and, only_while, only_end, lower_and_blank_takes}
use Rattle.script_words.proofs.Rules.{lower_and_blank_again, digits_and_takes, digits_and_again}
use Rattle.script_words.proofs.Pieces.{upper_takes, upper_again, end_takes}

abbrev pub Spelled : List ℕ → WrittenCommand → Type 0
Spelled bytes o = Command o bytes × Holds o

abbrev pub Good : ℕ → List ℕ → WrittenCommand → Type 0
Good most bytes o = Spelled bytes o × Fits most o

abbrev pub Some_one : List ℕ → Type 0
Some_one bytes = (o : WrittenCommand) × Spelled bytes o

-- what an answer says of a line
abbrev pub Sound : ℕ → List ℕ → Judged WrittenCommand → Type 0
Sound most bytes r = Judges (Good most bytes) (Some_one bytes) r

-- what a command's spelling says of the answer
pub record Whole (most : ℕ) (o : WrittenCommand) (r : Judged WrittenCommand) : Type 0 where
  pub fits : Fits most o → r ≡ Ok o
  pub form : r ≡ Err BadForm → ⊥

pub turn_sound : (most : ℕ) (bytes : List ℕ) → Sound most (codes "turn " ++ bytes) (read_turn bytes)
turn_sound most bytes =
    let line = codes "turn " ++ bytes in
    form_then (Good most line) (Some_one line) (read_last_digits bytes) _ (only_last_digits bytes) (λ d e.
    let t = last_takes bytes d e in
    let n : Number (number_of d) bytes = (ap is_number t.0 ∙ t.1, ap number_of t.0) in
    let s : Spelled line (turn (number_of d)) = ((codes "turn ", bytes, refl, n, refl), tt) in
    number_then (Good most line) (Some_one line) 0 1000000 d _ (turn (number_of d), s) (λ w. (s, w)))

number_form : (low high : ℕ) (d : List ℕ) (o : ℕ → WrittenCommand) → (within low high d >>= λ i. Ok (o i)) ≡ Err BadForm → ⊥
number_form low high d o h =
    elim (within_cases low high (number_of d)) [
      | inl w ↦ ok_form (sym (ap (λ (r : Judged ℕ). r >>= λ i. Ok (o i)) (within_yes low high d w)) ∙ h)
      | inr out ↦ number_bad (sym (ap (λ (r : Judged ℕ). r >>= λ i. Ok (o i)) (within_no low high d out)) ∙ h)
    ]
  where
    ok_form : {x : WrittenCommand} → ◌≡◌ {A = Judged WrittenCommand} (Ok x) (Err BadForm) → ⊥
    ok_form h = cc

    number_bad : ◌≡◌ {A = Judged WrittenCommand} (Err BadNumber) (Err BadForm) → ⊥
    number_bad h = cc

pub turn_whole : (most i : ℕ) (bytes : List ℕ) → Command (turn i) bytes → Whole most (turn i) (read_command most bytes)
turn_whole most i bytes h =
    let line : bytes ≡ codes "turn " ++ h.1 = h.4 ∙ ap (λ (l : List ℕ). l ++ h.1) h.2 in
    let read : read_command most bytes ≡ (within 0 1000000 h.1 >>= λ i. Ok (turn i)) =
    ap (read_command most) line ∙ ap (λ (r : Judged (List ℕ)). r >>= λ d. within 0 1000000 d >>= λ i. Ok (turn i)) (last_again h.1 h.3.0) in
    record {
      fits =
          λ w. read ∙ ap (λ (r : Judged ℕ). r >>= λ i. Ok (turn i)) (within_yes 0 1000000 h.1 (subst (Within 0 1000000) (sym h.3.1) w))
          ∙ ap (λ n. Ok (turn n)) h.3.1;
      form = λ e. number_form 0 1000000 h.1 turn (sym read ∙ e);
    }

-- ## create

pub create_sound : (most : ℕ) (bytes : List ℕ) → Sound most (codes "create " ++ bytes) (read_create most bytes)
create_sound most bytes =
    let line = codes "create " ++ bytes in
    let G = Good most line in
    let S = Some_one line in
    form_then G S (read_lower_and_blank bytes) _ (only_lower_and_blank bytes) (λ n e.
    form_then G S (read_digits_and (codes " ") n.1) _ (only_digits_and (codes " ") n.1) (λ d f.
    form_then G S (read_upper d.1) _ (only_while is_name_byte is_upper d.1) (λ t g.
    form_then G S (read_end t.1) _ (only_end t.1) (λ u h.
    let N = lower_and_blank_takes bytes n.0 n.1 e in
    let D = digits_and_takes (codes " ") n.1 d.0 d.1 f in
    let T = upper_takes d.1 t.0 t.1 g in
    let last : d.1 ≡ t.0 = T.0 ∙ ap (λ (l : List ℕ). t.0 ++ l) (end_takes t.1 u h) ∙ append-nil t.0 in
    let s : Spelled line (create n.0 (number_of d.0) t.0) = (
      (
        codes "create ",
        bytes,
        refl,
        (
          n.0,
          32 ∷ n.1,
          (refl, N.1),
          (codes " ", n.1, refl, (d.0, 32 ∷ d.1, (D.1, refl), (codes " ", d.1, refl, (last, T.1), refl), D.0), refl),
          N.0,
        ),
        refl,
      ),
      tt,
    )
    in
    number_then G S 1 most d.0 _ (create n.0 (number_of d.0) t.0, s) (λ w. (s, w))))))

-- the answer of a command with one number
one_number : (most low high n : ℕ) (d : List ℕ) (o : ℕ → WrittenCommand) (r : Judged WrittenCommand) → number_of d ≡ n
    → (Fits most (o n) → Within low high n)
    → r ≡ (within low high d >>= λ i. Ok (o i)) → Whole most (o n) r
one_number most low high n d o r same w read = record {
  fits =
      λ f. read ∙ ap (λ (r : Judged ℕ). r >>= λ i. Ok (o i)) (within_yes low high d (subst (Within low high) (sym same) (w f)))
      ∙ ap (λ n. Ok (o n)) same;
  form = λ e. number_form low high d o (sym read ∙ e);
}

read_created : (most : ℕ) (name d t : List ℕ) → is_lower name ≡ true → is_number d ≡ true → is_upper t ≡ true
    → read_create most (name ++ 32 ∷ (d ++ 32 ∷ t)) ≡ (within 1 most d >>= λ node. Ok (create name node t))
read_created most name d t a b c =
    let after_end : Judged WrittenCommand = within 1 most d >>= λ node. Ok (create name node t) in
    ap
    (λ (r : Reading (List ℕ)). r >>= λ n. read_digits_and
    (codes " ") n.1 >>= λ d. read_upper d.1 >>= λ t. read_end t.1 >>= λ _. within 1 most d.0 >>= λ node. Ok (create n.0 node t.0))
    (lower_and_blank_again name (d ++ 32 ∷ t) a)
    ∙ ap
    (λ (r : Reading (List ℕ)). r >>= λ d. read_upper d.1 >>= λ t. read_end t.1 >>= λ _. within 1 most d.0 >>= λ node. Ok
    (create name node t.0))
    (digits_and_again (codes " ") d t b refl)
    ∙ ap (λ (l : List ℕ). read_upper l >>= λ t. read_end t.1 >>= λ _. within 1 most d >>= λ node. Ok (create name node t.0))
    (sym (append-nil t))
    ∙ ap (λ (r : Reading (List ℕ)). r >>= λ t. read_end t.1 >>= λ _. within 1 most d >>= λ node. Ok (create name node t.0))
    (upper_again t [] c refl)

pub create_whole : (most : ℕ) (name : List ℕ) (n : ℕ) (t bytes : List ℕ) → Command (create name n t) bytes
    → Whole most (create name n t) (read_command most bytes)
create_whole most name n t bytes h =
    let a = h.3 in
    let b = a.3 in
    let c = b.3 in
    let e = c.3 in
    let line : bytes ≡ codes "create " ++ (name ++ 32 ∷ (c.0 ++ 32 ∷ t)) =
    h.4 ∙ ap (λ (l : List ℕ). l ++ h.1) h.2 ∙ ap (λ (l : List ℕ). codes "create " ++ l)
    (a.4 ∙ ap (λ (l : List ℕ). l ++ a.1) a.2.0 ∙ ap (λ (l : List ℕ). name ++ l)
    (b.4 ∙ ap (λ (l : List ℕ). l ++ b.1) b.2 ∙ ap (λ (l : List ℕ). 32 ∷ l)
    (c.4 ∙ ap (λ (l : List ℕ). c.0 ++ l) (e.4 ∙ ap (λ (l : List ℕ). l ++ e.1) e.2 ∙ ap (λ (l : List ℕ). 32 ∷ l) e.3.0)))) in
    one_number most 1 most n c.0 (λ i. create name i t) (read_command most bytes) c.2.1 (λ f. f)
    (ap (read_command most) line ∙ read_created most name c.0 t a.2.1 c.2.0 e.3.1)
