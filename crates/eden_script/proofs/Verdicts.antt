-- The laws of a line.
use Rattle.std.proofs.Common.{◌≡◌, ◌∙◌, ap, sym, refl, subst, ℕ, ◌<◌, ◌==◌, Bool, true, false, cond, not, List, [], ◌∷◌, ◌++◌, length}
use Rattle.std.proofs.Common.{codes, Ok, Err, inl, inr, arith}
use Rattle.std.specs.Prelude.{nat_lt}
use Rattle.std.specs.List.{list_all, list_any}
use Rattle.std.specs.Str.{bytes_eq}
use Rattle.std.proofs.lemmas.Bool.{eqb-true, eqb-false, ltb-false, ltb-true, or_left, or_right, or_from, false_from_ne_true}
use Rattle.std.proofs.lemmas.Slice.Eq.{bytes_eq-Decides}
use Rattle.script_words.specs.Form.{is_number, is_printable, is_among, number_of}
use Rattle.eden_script.specs.Tree.{WrittenCommand, create, hold, call, restrict, walk, turn, go, crash, restart, cut, join, fail, stop}
use Rattle.eden_script.specs.Tree.{finish, Line, idle, nodes, does, declares, unended}
use Rattle.eden_script.specs.Grammar.{Command, SpellsLine}
use Rattle.script_words.specs.Grammar.{◌⋅◌, Is, Number, Idle}
use Rattle.eden_script.specs.Declarations.{type_names}
use Rattle.eden_script.specs.Causes.{Seen, LineFits, command_words, uses, types, brings, LineTells, LinePasses}
use Rattle.script_words.specs.Causes.{first_word, rank}
use Rattle.eden_script.specs.Reading.{read_nodes, read_command, named_in}
use Rattle.script_words.specs.Reading.{◌>>=◌}
use Rattle.script_words.specs.Reading.{Judged, read_word, read_last_digits, within, is_idle}
use Rattle.eden_script.specs.Reading.{judge_command, judge_word, judge}
use Rattle.script_words.specs.declared.cause.ScriptCause.{ScriptCause}
use Rattle.script_words.specs.declared.cause.ScriptCause.TheVariants.{BadByte, LongLine, AfterEnd, NoCommand, Misplaced, BadForm}
use Rattle.script_words.specs.declared.cause.ScriptCause.TheVariants.{BadNumber, UnknownName, UnknownType, DoubledName, BadEdentype}
use Rattle.script_words.specs.declared.cause.ScriptCause.TheVariants.{NoEnd}
use Rattle.script_words.proofs.Pieces.{same_ok, word_takes}
use Rattle.script_words.proofs.Rules.{Judges, form_then, number_then, only_word, only_last_digits, last_again, last_takes}
use Rattle.eden_script.proofs.Commands.{Sound, Whole}
use Rattle.script_words.proofs.Calls.{ok_not_form}
use Rattle.eden_script.proofs.Others.{number_step, number_fails}
use Rattle.eden_script.proofs.Lined.{order_sound, order_whole}

-- a line that passes all its tests, and what it says
pub record IsLine (seen : Seen) (bytes : List ℕ) (l : Line) : Type 0 where
  pub passes : (c : ScriptCause) → LinePasses c seen bytes
  pub tells : LineTells seen bytes l

-- the first test that a line does not pass
pub record IsLineCause (seen : Seen) (bytes : List ℕ) (cause : ScriptCause) : Type 0 where
  pub before : (c : ScriptCause) → rank c < rank cause → LinePasses c seen bytes
  pub fails : LinePasses cause seen bytes → ⊥

abbrev pub Verdict : Seen → List ℕ → Judged Line → Type 0
Verdict seen bytes (Ok l) = IsLine seen bytes l
Verdict seen bytes (Err cause) = IsLineCause seen bytes cause

pub both : true ≡ false → ⊥
both e = cc

-- ## Words

idle_true : (bytes : List ℕ) → is_idle bytes ≡ true → Idle bytes
idle_true [] h = tt
idle_true (b ∷ bytes) h = eqb-true b 35 h

pub idle_false : (bytes : List ℕ) → is_idle bytes ≡ false → Idle bytes → ⊥
idle_false [] h i = both h
idle_false (b ∷ bytes) h i = eqb-false b 35 h i

abbrev pub word_of : WrittenCommand → List ℕ
word_of (create name n t) = codes "create"
word_of (hold name n e s) = codes "hold"
word_of (call name r op args) = codes "call"
word_of (restrict name r mask) = codes "restrict"
word_of (walk name r path) = codes "walk"
word_of (turn i) = codes "turn"
word_of (go n) = codes "go"
word_of (crash n how) = codes "crash"
word_of (restart n) = codes "restart"
word_of (cut a b) = codes "cut"
word_of (join a b) = codes "join"
word_of (fail n k) = codes "fail"
word_of (stop n k how) = codes "stop"
word_of finish = codes "end"

pub begins_with : (w : List ℕ) (Q : List ℕ → Type 0) (bytes : List ℕ) (h : (Is w ⋅ Q) bytes) → bytes ≡ w ++ h.1
begins_with w Q bytes h = h.4 ∙ ap (λ (l : List ℕ). l ++ h.1) h.2

pub first_is_word : (o : WrittenCommand) (bytes : List ℕ) → Command o bytes → first_word bytes ≡ word_of o
first_is_word (create name n t) bytes h = ap first_word (begins_with _ _ bytes h)
first_is_word (hold name n e s) bytes h = ap first_word (begins_with _ _ bytes h)
first_is_word (call name r op args) bytes h = ap first_word (begins_with _ _ bytes h)
first_is_word (restrict name r mask) bytes h = ap first_word (begins_with _ _ bytes h)
first_is_word (walk name r path) bytes h = ap first_word (begins_with _ _ bytes h)
first_is_word (turn i) bytes h = ap first_word (begins_with _ _ bytes h)
first_is_word (go n) bytes h = ap first_word (begins_with _ _ bytes h)
first_is_word (crash n how) bytes h = ap first_word (begins_with _ _ bytes h)
first_is_word (restart n) bytes h = ap first_word (begins_with _ _ bytes h)
first_is_word (cut a b) bytes h = ap first_word (begins_with _ _ bytes h)
first_is_word (join a b) bytes h = ap first_word (begins_with _ _ bytes h)
first_is_word (fail n k) bytes h = ap first_word (begins_with _ _ bytes h)
first_is_word (stop n k how) bytes h = ap first_word (begins_with _ _ bytes h)
first_is_word finish bytes h = ap first_word h

pub no_nodes : (o : WrittenCommand) → bytes_eq (word_of o) (codes "nodes") ≡ false
no_nodes (create name n t) = refl
no_nodes (hold name n e s) = refl
no_nodes (call name r op args) = refl
no_nodes (restrict name r mask) = refl
no_nodes (walk name r path) = refl
no_nodes (turn i) = refl
no_nodes (go n) = refl
no_nodes (crash n how) = refl
no_nodes (restart n) = refl
no_nodes (cut a b) = refl
no_nodes (join a b) = refl
no_nodes (fail n k) = refl
no_nodes (stop n k how) = refl
no_nodes finish = refl

-- ## What a line's reading says, before the names

abbrev LineSound : ℕ → List ℕ → Judged Line → Type 0
LineSound most bytes r = Judges (λ l. SpellsLine l bytes × LineFits most l) ((l : Line) × SpellsLine l bytes) r

pub record LineWhole (most : ℕ) (l : Line) (r : Judged Line) : Type 0 where
  pub fits : LineFits most l → r ≡ Ok l
  pub form : r ≡ Err BadForm → ⊥

nodes_sound : (most : ℕ) (bytes : List ℕ) → LineSound most bytes (read_nodes bytes)
nodes_sound most bytes =
    let G = λ (l : Line). SpellsLine l bytes × LineFits most l in
    let S = (l : Line) × SpellsLine l bytes in
    form_then G S (read_word (codes "nodes ") bytes) _ (only_word (codes "nodes ") bytes) (λ rest e.
    form_then G S (read_last_digits rest) _ (only_last_digits rest) (λ d f.
    let t = last_takes rest d f in
    let n : Number (number_of d) rest = (ap is_number t.0 ∙ t.1, ap number_of t.0) in
    let s : SpellsLine (nodes (number_of d)) bytes = (codes "nodes ", rest, refl, n, word_takes (codes "nodes ") bytes rest e) in
    number_then G S 1 8 d _ (nodes (number_of d), s) (λ w. (s, w))))

pub nodes_whole : (most n : ℕ) (bytes : List ℕ) → SpellsLine (nodes n) bytes → LineWhole most (nodes n) (read_nodes bytes)
nodes_whole most n bytes h =
    let read : read_nodes bytes ≡ (within 1 8 h.1 >>= λ n. Ok (nodes n)) =
    ap read_nodes (begins_with _ _ bytes h)
    ∙ ap (λ (r : Judged (List ℕ)). r >>= λ d. within 1 8 d >>= λ n. Ok (nodes n)) (last_again h.1 h.3.0) in
    record { fits = λ f. read ∙ number_step 1 8 n h.1 _ h.3.1 f; form = λ e. number_fails 1 8 h.1 _ (λ n e. ok_not_form e) (sym read ∙ e) }

-- a command as a line
abbrev as_line : Judged WrittenCommand → Judged Line
as_line (Ok o) = Ok (does o)
as_line (Err e) = Err e

does_sound : (most : ℕ) (bytes : List ℕ) (r : Judged WrittenCommand) → Sound most bytes r → LineSound most bytes (as_line r)
does_sound most bytes (Ok o) h = h
does_sound most bytes (Err BadForm) h = tt
does_sound most bytes (Err BadNumber) h = (does h.0, h.1)
does_sound most bytes (Err BadByte) h = h
does_sound most bytes (Err LongLine) h = h
does_sound most bytes (Err AfterEnd) h = h
does_sound most bytes (Err NoCommand) h = h
does_sound most bytes (Err Misplaced) h = h
does_sound most bytes (Err UnknownName) h = h
does_sound most bytes (Err UnknownType) h = h
does_sound most bytes (Err DoubledName) h = h
does_sound most bytes (Err BadEdentype) h = h
does_sound most bytes (Err NoEnd) h = h

form_back : (r : Judged WrittenCommand) → as_line r ≡ Err BadForm → r ≡ Err BadForm
form_back (Ok o) h = absurd (ok_not_form h)
form_back (Err e) h = ap (λ (r : Judged Line). back r) h
  where
    back : Judged Line → Judged WrittenCommand
    back (Ok l) = Err BadByte
    back (Err e) = Err e

does_whole : (most : ℕ) (o : WrittenCommand) (r : Judged WrittenCommand) → Whole most o r → LineWhole most (does o) (as_line r)
does_whole most o r h = record { fits = λ f. ap as_line (h.fits f); form = λ e. h.form (form_back r e) }

-- ## The tests, in order

table : (seen : Seen) (bytes : List ℕ) (n : ℕ)
    → (0 < n → LinePasses BadByte seen bytes) → (1 < n → LinePasses LongLine seen bytes) → (2 < n → LinePasses AfterEnd seen bytes) →
    (3 < n → LinePasses NoCommand seen bytes) → (4 < n → LinePasses Misplaced seen bytes)
    → (5 < n → LinePasses BadForm seen bytes) → (6 < n → LinePasses BadNumber seen bytes) → (7 < n → LinePasses UnknownName seen bytes) →
    (8 < n → LinePasses UnknownType seen bytes) → (9 < n → LinePasses DoubledName seen bytes)
    → (c : ScriptCause) → rank c < n → LinePasses c seen bytes
table seen bytes n a b c d e f g h i j BadByte w = a w
table seen bytes n a b c d e f g h i j LongLine w = b w
table seen bytes n a b c d e f g h i j AfterEnd w = c w
table seen bytes n a b c d e f g h i j NoCommand w = d w
table seen bytes n a b c d e f g h i j Misplaced w = e w
table seen bytes n a b c d e f g h i j BadForm w = f w
table seen bytes n a b c d e f g h i j BadNumber w = g w
table seen bytes n a b c d e f g h i j UnknownName w = h w
table seen bytes n a b c d e f g h i j UnknownType w = i w
table seen bytes n a b c d e f g h i j DoubledName w = j w
table seen bytes n a b c d e f g h i j BadEdentype w = tt
table seen bytes n a b c d e f g h i j NoEnd w = tt

rank_small : (c : ScriptCause) → rank c < 12
rank_small BadByte = omega arith
rank_small LongLine = omega arith
rank_small AfterEnd = omega arith
rank_small NoCommand = omega arith
rank_small Misplaced = omega arith
rank_small BadForm = omega arith
rank_small BadNumber = omega arith
rank_small UnknownName = omega arith
rank_small UnknownType = omega arith
rank_small DoubledName = omega arith
rank_small BadEdentype = omega arith
rank_small NoEnd = omega arith

-- a line that passed the first five tests
record Placed (seen : Seen) (bytes : List ℕ) : Type 0 where
  pub printable : LinePasses BadByte seen bytes
  pub short : LinePasses LongLine seen bytes
  pub open_ : LinePasses AfterEnd seen bytes
  pub known : LinePasses NoCommand seen bytes
  pub placed : LinePasses Misplaced seen bytes

module _ (seen : Seen) (bytes : List ℕ) (p : Placed seen bytes) where
  named_by : (l : Line) → LineTells seen bytes l → ((k : Line) → LineTells seen bytes k → k ≡ l) → (u t d : Bool)
      → list_all (is_among seen.names) (uses l) ≡ u → list_all (is_among (type_names seen.types)) (types l) ≡ t
      → list_any (is_among seen.names) (brings l) ≡ d
      → Verdict seen bytes (cond (not u) (Err UnknownName) (cond (not t) (Err UnknownType) (cond d (Err DoubledName) (Ok l))))
  named_by l tells one false t d e f g = record {
    before =
        table seen bytes 7 (λ _. p.printable) (λ _. p.short) (λ _. p.open_) (λ _. p.known) (λ _. p.placed) (λ _. (l, tells.0))
        (λ _. (l, tells)) (λ w. absurd (omega (arith, w))) (λ w. absurd (omega (arith, w))) (λ w. absurd (omega (arith, w)));
    fails = λ h. both (sym h.2 ∙ ap (λ k. list_all (is_among seen.names) (uses k)) (one h.0 h.1) ∙ e);
  }
  named_by l tells one true false d e f g = record {
    before =
        table seen bytes 8 (λ _. p.printable) (λ _. p.short) (λ _. p.open_) (λ _. p.known) (λ _. p.placed) (λ _. (l, tells.0))
        (λ _. (l, tells)) (λ _. (l, tells, e)) (λ w. absurd (omega (arith, w))) (λ w. absurd (omega (arith, w)));
    fails = λ h. both (sym h.2 ∙ ap (λ k. list_all (is_among (type_names seen.types)) (types k)) (one h.0 h.1) ∙ f);
  }
  named_by l tells one true true true e f g = record {
    before =
        table seen bytes 9 (λ _. p.printable) (λ _. p.short) (λ _. p.open_) (λ _. p.known) (λ _. p.placed) (λ _. (l, tells.0))
        (λ _. (l, tells)) (λ _. (l, tells, e)) (λ _. (l, tells, f)) (λ w. absurd (omega (arith, w)));
    fails = λ h. both (sym g ∙ sym (ap (λ k. list_any (is_among seen.names) (brings k)) (one h.0 h.1)) ∙ h.2);
  }
  named_by l tells one true true false e f g = record {
    passes =
        λ c. table seen bytes 12 (λ _. p.printable) (λ _. p.short) (λ _. p.open_) (λ _. p.known) (λ _. p.placed) (λ _. (l, tells.0))
        (λ _. (l, tells)) (λ _. (l, tells, e)) (λ _. (l, tells, f)) (λ _. (l, tells, g)) c (rank_small c);
    tells = tells;
  }

  -- from what was read of the line
  read_by : (r : Judged Line) → LineSound seen.nodes bytes r → ((l : Line) → SpellsLine l bytes → LineWhole seen.nodes l r)
      → Verdict seen bytes (r >>= named_in seen)
  read_by (Ok l) sound whole =
      named_by l sound (λ k t. sym (same_ok l k ((whole k t.0).fits t.1))) _ _ _ refl refl refl
  read_by (Err BadForm) sound whole = record {
    before =
        table seen bytes 5 (λ _. p.printable) (λ _. p.short) (λ _. p.open_) (λ _. p.known) (λ _. p.placed) (λ w. absurd (omega (arith, w)))
        (λ w. absurd (omega (arith, w))) (λ w. absurd (omega (arith, w))) (λ w. absurd (omega (arith, w))) (λ w. absurd (omega (arith, w)));
    fails = λ h. (whole h.0 h.1).form refl;
  }
  read_by (Err BadNumber) sound whole = record {
    before =
        table seen bytes 6 (λ _. p.printable) (λ _. p.short) (λ _. p.open_) (λ _. p.known) (λ _. p.placed) (λ _. sound)
        (λ w. absurd (omega (arith, w))) (λ w. absurd (omega (arith, w))) (λ w. absurd (omega (arith, w))) (λ w. absurd (omega (arith, w)));
    fails = λ h. number_not_ok ((whole h.0 h.1.0).fits h.1.1);
  }
    where
      number_not_ok : {x : Line} → ◌≡◌ {A = Judged Line} (Err BadNumber) (Ok x) → ⊥
      number_not_ok e = cc
  read_by (Err BadByte) sound whole = absurd sound
  read_by (Err LongLine) sound whole = absurd sound
  read_by (Err AfterEnd) sound whole = absurd sound
  read_by (Err NoCommand) sound whole = absurd sound
  read_by (Err Misplaced) sound whole = absurd sound
  read_by (Err UnknownName) sound whole = absurd sound
  read_by (Err UnknownType) sound whole = absurd sound
  read_by (Err DoubledName) sound whole = absurd sound
  read_by (Err BadEdentype) sound whole = absurd sound
  read_by (Err NoEnd) sound whole = absurd sound

-- ## The tests before the form

orders_named : (seen : Seen) (r : Judged WrittenCommand) → (as_line r >>= named_in seen) ≡ (r >>= λ o. named_in seen (does o))
orders_named seen (Ok o) = refl
orders_named seen (Err e) = refl

abbrev one_line : ℕ → Judged Line
one_line n = Ok (nodes n)

module _ (seen : Seen) where
  third : (c : Judged ℕ) → ((c >>= λ n. one_line n) >>= named_in seen) ≡ (c >>= λ n. one_line n)
  third (Ok n) = refl
  third (Err e) = refl

  second : (b : Judged (List ℕ))
      → ((b >>= λ d. within 1 8 d >>= λ n. one_line n) >>= named_in seen) ≡ (b >>= λ d. within 1 8 d >>= λ n. one_line n)
  second (Ok d) = third (within 1 8 d)
  second (Err e) = refl

  first : (a : Judged (List ℕ))
      → ((a >>= λ rest. read_last_digits rest >>= λ d. within 1 8 d >>= λ n. one_line n) >>= named_in seen) ≡
      (a >>= λ rest. read_last_digits rest >>= λ d. within 1 8 d >>= λ n. one_line n)
  first (Ok rest) = second (read_last_digits rest)
  first (Err e) = refl

module _ (seen : Seen) (bytes : List ℕ) (printable : LinePasses BadByte seen bytes) (short : LinePasses LongLine seen bytes)
    (waits : Idle bytes → ⊥) (open_ : seen.ended ≡ false) where
  nodes_lines : first_word bytes ≡ codes "nodes" → (l : Line) → SpellsLine l bytes → LineWhole seen.nodes l (read_nodes bytes)
  nodes_lines w idle h = absurd (waits h)
  nodes_lines w (nodes n) h = nodes_whole seen.nodes n bytes h
  nodes_lines w (declares t) h = absurd h
  nodes_lines w unended h = absurd h
  nodes_lines w (does o) h =
      absurd (both (sym ((bytes_eq-Decides (word_of o) (codes "nodes")).1 (sym (first_is_word o bytes h.0) ∙ w)) ∙ no_nodes o))

  command_lines : bytes_eq (first_word bytes) (codes "nodes") ≡ false → (l : Line) → SpellsLine l bytes
      → LineWhole seen.nodes l (as_line (read_command seen.nodes bytes))
  command_lines w idle h = absurd (waits h)
  command_lines w (nodes n) h =
      absurd (both (sym ((bytes_eq-Decides (first_word bytes) (codes "nodes")).1 (ap first_word (begins_with _ _ bytes h))) ∙ w))
  command_lines w (declares t) h = absurd h
  command_lines w unended h = absurd h
  command_lines w (does o) h = does_whole seen.nodes o (read_command seen.nodes bytes) (order_whole seen.nodes o bytes short h)

  among_nodes : first_word bytes ≡ codes "nodes" → is_among (codes "nodes" ∷ command_words) (first_word bytes) ≡ true
  among_nodes w = or_left _ _ ((bytes_eq-Decides (codes "nodes") (first_word bytes)).1 (sym w))

  word_by : (n z k : Bool) → bytes_eq (first_word bytes) (codes "nodes") ≡ n → (seen.nodes == 0) ≡ z
      → is_among command_words (first_word bytes) ≡ k
      → Verdict seen bytes
      (cond n (cond z (read_nodes bytes) (Err Misplaced)) (cond k (cond z (Err Misplaced) (judge_command seen bytes)) (Err NoCommand)))
  word_by true true k e f g =
      let w = (bytes_eq-Decides (first_word bytes) (codes "nodes")).0 e in
      let zero_ : seen.nodes ≡ 0 = eqb-true seen.nodes 0 f in
      let p : Placed seen bytes =
      record { printable = printable; short = short; open_ = inr open_; known = inr (among_nodes w); placed = inr ((λ _. zero_), (λ _. w)) }
      in
      subst (Verdict seen bytes) (first seen (read_word (codes "nodes ") bytes))
      (read_by seen bytes p (read_nodes bytes) (nodes_sound seen.nodes bytes) (nodes_lines w))
  word_by true false k e f g =
      let w = (bytes_eq-Decides (first_word bytes) (codes "nodes")).0 e in
      record {
        before =
            table seen bytes 4 (λ _. printable) (λ _. short) (λ _. inr open_) (λ _. inr (among_nodes w)) (λ w. absurd (omega (arith, w)))
            (λ w. absurd (omega (arith, w))) (λ w. absurd (omega (arith, w))) (λ w. absurd (omega (arith, w)))
            (λ w. absurd (omega (arith, w))) (λ w. absurd (omega (arith, w)));
        fails = λ h. elim h [ inl i ↦ waits i | inr x ↦ eqb-false seen.nodes 0 f (x.0 w) ];
      }
  word_by false z false e f g = record {
    before =
        table seen bytes 3 (λ _. printable) (λ _. short) (λ _. inr open_) (λ w. absurd (omega (arith, w))) (λ w. absurd (omega (arith, w)))
        (λ w. absurd (omega (arith, w))) (λ w. absurd (omega (arith, w))) (λ w. absurd (omega (arith, w))) (λ w. absurd (omega (arith, w)))
        (λ w. absurd (omega (arith, w)));
    fails = λ h. elim h [
      | inl i ↦ waits i
      | inr x ↦ both
          (sym x ∙ or_from _ _ (false_from_ne_true _ (λ y. both (sym
          ((bytes_eq-Decides (first_word bytes) (codes "nodes")).1 (sym ((bytes_eq-Decides (codes "nodes") (first_word bytes)).0 y)))
          ∙ e))) g)
    ];
  }
  word_by false true true e f g = record {
    before =
        table seen bytes 4 (λ _. printable) (λ _. short) (λ _. inr open_) (λ _. inr (or_right _ _ g)) (λ w. absurd (omega (arith, w)))
        (λ w. absurd (omega (arith, w))) (λ w. absurd (omega (arith, w))) (λ w. absurd (omega (arith, w))) (λ w. absurd (omega (arith, w)))
        (λ w. absurd (omega (arith, w)));
    fails =
        λ h. elim h [
          | inl i ↦ waits i
          | inr x ↦ both (sym ((bytes_eq-Decides (first_word bytes) (codes "nodes")).1
              (x.1 (eqb-true seen.nodes 0 f))) ∙ e)
        ];
  }
  word_by false false true e f g =
      let apart : first_word bytes ≡ codes "nodes" → ⊥ = λ w. both (sym ((bytes_eq-Decides (first_word bytes) (codes "nodes")).1 w) ∙ e) in
      let p : Placed seen bytes =
      record {
        printable = printable;
        short = short;
        open_ = inr open_;
        known = inr (or_right _ _ g);
        placed = inr ((λ w. absurd (apart w)), (λ y. absurd (eqb-false seen.nodes 0 f y)));
      }
      in
      subst (Verdict seen bytes) (orders_named seen (read_command seen.nodes bytes))
      (read_by seen bytes p (as_line (read_command seen.nodes bytes))
      (does_sound seen.nodes bytes (read_command seen.nodes bytes) (order_sound seen.nodes bytes)) (command_lines e))

idle_verdict : (seen : Seen) (bytes : List ℕ) → LinePasses BadByte seen bytes → LinePasses LongLine seen bytes → Idle bytes
    → Verdict seen bytes (Ok idle)
idle_verdict seen bytes printable short i = record {
  passes =
      λ c. table seen bytes 12 (λ _. printable) (λ _. short) (λ _. inl i) (λ _. inl i) (λ _. inl i) (λ _. (idle, i))
      (λ _. (idle, (i, tt))) (λ _. (idle, (i, tt), refl)) (λ _. (idle, (i, tt), refl)) (λ _. (idle, (i, tt), refl)) c (rank_small c);
  tells = (i, tt);
}

judge_by : (seen : Seen) (bytes : List ℕ) (p l i e : Bool) → list_all is_printable bytes ≡ p → nat_lt 4096 (length bytes) ≡ l
    → is_idle bytes ≡ i → seen.ended ≡ e
    → Verdict seen bytes
    (cond (not p) (Err BadByte) (cond l (Err LongLine) (cond i (Ok idle)
    (cond e (Err AfterEnd) (judge_word seen (first_word bytes) bytes)))))
judge_by seen bytes false l i e f g h k = record {
  before =
      table seen bytes 0 (λ w. absurd (omega (arith, w))) (λ w. absurd (omega (arith, w))) (λ w. absurd (omega (arith, w)))
      (λ w. absurd (omega (arith, w))) (λ w. absurd (omega (arith, w))) (λ w. absurd (omega (arith, w))) (λ w. absurd (omega (arith, w)))
      (λ w. absurd (omega (arith, w))) (λ w. absurd (omega (arith, w))) (λ w. absurd (omega (arith, w)));
  fails = λ x. both (sym x ∙ f);
}
judge_by seen bytes true true i e f g h k = record {
  before =
      table seen bytes 1 (λ _. f) (λ w. absurd (omega (arith, w))) (λ w. absurd (omega (arith, w))) (λ w. absurd (omega (arith, w)))
      (λ w. absurd (omega (arith, w))) (λ w. absurd (omega (arith, w))) (λ w. absurd (omega (arith, w))) (λ w. absurd (omega (arith, w)))
      (λ w. absurd (omega (arith, w))) (λ w. absurd (omega (arith, w)));
  fails = λ x. omega (arith, x, ltb-true 4096 (length bytes) g);
}
judge_by seen bytes true false true e f g h k = idle_verdict seen bytes f (ltb-false 4096 (length bytes) g) (idle_true bytes h)
judge_by seen bytes true false false true f g h k = record {
  before =
      table seen bytes 2 (λ _. f) (λ _. ltb-false 4096 (length bytes) g) (λ w. absurd (omega (arith, w))) (λ w. absurd (omega (arith, w)))
      (λ w. absurd (omega (arith, w))) (λ w. absurd (omega (arith, w))) (λ w. absurd (omega (arith, w))) (λ w. absurd (omega (arith, w)))
      (λ w. absurd (omega (arith, w))) (λ w. absurd (omega (arith, w)));
  fails = λ x. elim x [ inl i ↦ idle_false bytes h i | inr o ↦ both (sym k ∙ o) ];
}
judge_by seen bytes true false false false f g h k =
    word_by seen bytes f (ltb-false 4096 (length bytes) g) (idle_false bytes h) k _ _ _ refl refl refl

pub judged : (seen : Seen) (bytes : List ℕ) → Verdict seen bytes (judge seen bytes)
judged seen bytes = judge_by seen bytes _ _ _ _ refl refl refl refl
