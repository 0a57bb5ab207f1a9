-- The creations and the rounds of a script, in front of a rest of one.
use Rattle.std.proofs.Common.{◌≡◌, ◌≤◌, ◌<◌, ◌+◌, ◌/◌, ◌^◌, ◌∙◌, ap, sym, refl, inl, inr, ℕ, zero, suc, pos, Bool, true, false, cond}
use Rattle.std.proofs.Common.{List, [], ◌∷◌, ◌++◌, map, length, codes, subst, arith, append_assoc, append-nil, drop}
use Rattle.std.proofs.Common.{nat_lt, ◌==◌}
use Rattle.std.specs.List.{list_all, flat_map, range_with_len}
use Rattle.std.specs.Str.{bytes_eq}
use Rattle.std.specs.Fmt.{decimal}
use Rattle.std.proofs.lemmas.Bool.{cases_Bool, and_from, or_from, or_right, le-leb, leb-true}
use Rattle.std.proofs.lemmas.Fmt.{decimal_digit, decimal_injective, length-decimal-le}
use Rattle.std.proofs.lemmas.Nat.{mod_below}
use Rattle.std.proofs.lemmas.Slice.Eq.{bytes_eq-Decides}
use Rattle.eden_value.specs.Datum.{number}
use Rattle.eden_disk.specs.declared.disk.ImageMode.TheVariants as image
use Rattle.journal.specs.Argument.{Argument, plain}
use Rattle.journal.specs.declared.command.Command.{Command}
use Rattle.journal.specs.declared.command.Command.TheVariants as command
use Rattle.eden_gen.specs.Generated.{Text, call_text, chosen_text, crash_text, create_text, creations_text, draws_before, drawn, node_of}
use Rattle.eden_gen.specs.Generated.{random, round_text, rounds_text, set_text, sets}
use Rattle.script_words.specs.Form.{is_among, is_lower, is_printable, is_upper}
use Rattle.script_words.specs.Grammar.{Values}
use Rattle.script_words.specs.Meaning.{written_arg}
use Rattle.script_words.specs.Tree.{row_depth, row_of}
use Rattle.script_words.specs.Causes.{RowFits, names_of}
use Rattle.eden_script.specs.Meaning.{written_command}
use Rattle.eden_script.specs.Names.{with_names}
use Rattle.eden_script.proofs.FitNames.{SameNames, same_names_more}
use Rattle.eden_script.specs.Script.{after}
use Rattle.eden_script.specs.Tree.{does}
use Rattle.gen_laws.proofs.Digits.{AreDigits, digits-in-names, digits-of, digits-print}
use Rattle.gen_laws.proofs.Cut.{other-first}
use Rattle.gen_laws.proofs.Said.{IsLineOf, IsRest, behind, line-first}
use Rattle.gen_laws.proofs.Calls.{call-bytes, call-line, crash-line, create-bytes, create-line, end-line, go-line, restart-line}

-- ## Names

-- the name of a Cell, with its number as a digit
abbrev pub cell-name : ℕ → List ℕ
cell-name cell = 99 ∷ (48 + cell) ∷ []

-- those of the first Cells, the last of them first
abbrev pub cells-up-to : ℕ → List (List ℕ)
cells-up-to zero = []
cells-up-to (suc n) = cell-name (suc n) ∷ cells-up-to n

-- the name of the call of a round
abbrev pub round-name : ℕ → List ℕ
round-name round = 113 ∷ decimal round

-- What is known of the names behind some rounds, in whatever order they stand: all Cells are there, and no later round is.
pub record AreNames (last : ℕ) (names : List (List ℕ)) : Type 0 where
  pub cells : (x : List ℕ) → is_among (cells-up-to 6) x ≡ true → is_among names x ≡ true
  pub rounds : (r : ℕ) → last < r → r < 2 ^ 64 → is_among names (round-name r) ≡ false

up-to-more : (a b : ℕ) (names : List (List ℕ)) → a ≤ b → AreNames a names → AreNames b names
up-to-more a b names le h = record { cells = h.cells; rounds = λ r less few. h.rounds r (omega (arith, less, le)) few }

other-round : (a b : ℕ) → a < b → b < 2 ^ 64 → bytes_eq (round-name a) (round-name b) ≡ false
other-round a b less few =
    elim (cases_Bool (bytes_eq (round-name a) (round-name b))) [
      | inl h ↦
          (let same : round-name a ≡ round-name b = (bytes_eq-Decides (round-name a) (round-name b)).0 h in
          let digits : decimal a ≡ decimal b = ap (drop 1) same in
          let equal : a ≡ b = decimal_injective a b (omega (arith, less, few)) few digits in absurd (omega (arith, equal, less)))
      | inr h ↦ h
    ]

-- behind the call of a round
behind-call : (last round : ℕ) (names : List (List ℕ)) → last < round → AreNames last names
    → AreNames round (with_names names (round-name round ∷ []))
behind-call last round names less h = record {
  cells = λ x is. same x ∙ or_right _ _ (h.cells x is);
  rounds = λ r after few. same (round-name r)
      ∙ or_from _ _ (other-round round r after few) (h.rounds r (omega (arith, less, after)) few);
}
  where
    same : SameNames (with_names names (round-name round ∷ [])) (round-name round ∷ names)
    same = same_names_more (round-name round ∷ []) names names (leb-true _ _ refl) (λ x. refl)

-- behind the creations
behind-cells : (names : List (List ℕ)) → SameNames names (cells-up-to 6) → AreNames 0 names
behind-cells names same = record {
  cells = λ x is. same x ∙ is;
  rounds = λ r some few. same (round-name r) ∙ none r;
}
  where
    other : (cell r : ℕ) → bytes_eq (cell-name cell) (round-name r) ≡ false
    other cell r = other-first 99 113 ((48 + cell) ∷ []) (decimal r) (λ is. omega (arith, is))

    none : (r : ℕ) → is_among (cells-up-to 6) (round-name r) ≡ false
    none r = or_from _ _ (other 6 r) (or_from _ _ (other 5 r) (or_from _ _ (other 4 r)
        (or_from _ _ (other 3 r) (or_from _ _ (other 2 r) (or_from _ _ (other 1 r) refl)))))

-- ## Calls of rounds

-- a rest of the script, whatever names stand before it of which so much is known
abbrev pub RestBehind : ℕ → List ℕ → Type 0
RestBehind last bytes = (names : List (List ℕ)) → AreNames last names → IsRest (behind names) bytes

-- The text of a round may come in front of a rest, behind earlier rounds.
abbrev pub MayCome : ℕ → Text → Type 0
MayCome round text = (last : ℕ) (rest : List ℕ) → last < round → RestBehind round rest → RestBehind last (text ++ rest)

-- what is asked of an operation with its values
record IsOperation (op vals : List ℕ) (args : List Argument) : Type 0 where
  upper : is_upper op ≡ true
  prints : list_all is_printable op ≡ true
  short : length op ≤ 32
  values : Values (row_of (map written_arg args)) vals
  values_print : list_all is_printable vals ≡ true
  values_short : length vals ≤ 1024
  shallow : row_depth (row_of (map written_arg args)) ≤ 4
  fits : RowFits (row_of (map written_arg args))
  no_names : names_of (row_of (map written_arg args)) ≡ []

-- what is asked of the name of a Cell
record IsCell (cell : ℕ) : Type 0 where
  lower : is_lower (cell-name cell) ≡ true
  prints : list_all is_printable (cell-name cell) ≡ true
  there : is_among (cells-up-to 6) (cell-name cell) ≡ true
  digit : decimal cell ≡ (48 + cell) ∷ []

call-and : (q c op vals rest : List ℕ)
    → call-bytes q c op vals ++ rest ≡ codes "call " ++ (q ++ (32 ∷ (c ++ (46 ∷ (op ++ (40 ∷ (vals ++ 41 ∷ rest)))))))
call-and q c op vals rest = ap (λ l. codes "call " ++ l)
    (append_assoc q (32 ∷ (c ++ (46 ∷ (op ++ (40 ∷ (vals ++ 41 ∷ [])))))) rest ∙ ap (λ l. q ++ (32 ∷ l))
    (append_assoc c (46 ∷ (op ++ (40 ∷ (vals ++ 41 ∷ [])))) rest ∙ ap (λ l. c ++ (46 ∷ l))
    (append_assoc op (40 ∷ (vals ++ 41 ∷ [])) rest ∙ ap (λ l. op ++ (40 ∷ l)) (append_assoc vals (41 ∷ []) rest))))

regrouped : (digits c op vals rest : List ℕ)
    → (codes "call q" ++ digits ++ codes " c" ++ c ++ codes "." ++ (op ++ (40 ∷ (vals ++ 41 ∷ []))) ++ codes "\n") ++ rest
    ≡ call-bytes (113 ∷ digits) (99 ∷ c) op vals ++ 10 ∷ rest
regrouped digits c op vals rest =
    pieces (codes "call q") digits (codes " c") c (codes ".") (op ++ (40 ∷ (vals ++ 41 ∷ []))) (codes "\n")
    ∙ ap (λ l. codes "call q" ++ (digits ++ (codes " c" ++ (c ++ (codes "." ++ l)))))
    (append_assoc op (40 ∷ (vals ++ 41 ∷ [])) (10 ∷ rest) ∙ ap (λ l. op ++ (40 ∷ l)) (append_assoc vals (41 ∷ []) (10 ∷ rest)))
    ∙ sym (call-and (113 ∷ digits) (99 ∷ c) op vals (10 ∷ rest))
  where
    pieces : (a b c d e f g : List ℕ) → (a ++ b ++ c ++ d ++ e ++ f ++ g) ++ rest ≡ a ++ (b ++ (c ++ (d ++ (e ++ (f ++ (g ++ rest))))))
    pieces a b c d e f g = simp append_assoc

few-digits : (n : ℕ) → n ≤ 9999 → length (decimal n) ≤ 4
few-digits n few = length-decimal-le 4 n (omega arith) (omega (arith, few)) (omega (arith, few))

call-may-come : (round cell : ℕ) (op vals : List ℕ) (args : List Argument) → round ≤ 2000 → IsCell cell → IsOperation op vals args
    → MayCome round (call_text round cell (op ++ (40 ∷ (vals ++ 41 ∷ []))))
call-may-come round cell op vals args few is o last rest less more names known =
    subst (IsRest (behind names)) (sym text) (line-first names (call-bytes q c op vals) rest
    (command.Call q (record { name = c; result = 0 }) op args)
    (call-line names q c op vals (row_of (map written_arg args)) (record {
      new_name = and_from _ _ refl (and_from _ _ (digits-in-names round (decimal round) digits) (le-leb _ _ (omega (arith, short))));
      new_prints = digits-print round (decimal round) digits;
      new_short = omega (arith, short);
      name = is.lower;
      name_prints = is.prints;
      name_short = leb-true _ _ refl;
      operation = o.upper;
      operation_prints = o.prints;
      operation_short = o.short;
      values = o.values;
      values_print = o.values_print;
      values_short = o.values_short;
      shallow = o.shallow;
      fits = o.fits;
      no_names = o.no_names;
      there = known.cells c is.there;
      new = known.rounds round less (omega (arith, few));
    }))
    (more (with_names names (q ∷ [])) (behind-call last round names less known)))
  where
    q : List ℕ
    q = round-name round

    c : List ℕ
    c = cell-name cell

    digits : AreDigits round (decimal round)
    digits = digits-of round (omega (arith, few))

    short : length (decimal round) ≤ 4
    short = few-digits round (omega (arith, few))

    text : call_text round cell (op ++ (40 ∷ (vals ++ 41 ∷ []))) ++ rest ≡ call-bytes q c op vals ++ 10 ∷ rest
    text =
        ap (λ d. (codes "call q" ++ decimal round ++ codes " c" ++ d ++ codes "." ++ (op ++ 40 ∷ (vals ++ 41 ∷ [])) ++ codes "\n") ++ rest)
        is.digit ∙ regrouped (decimal round) ((48 + cell) ∷ []) op vals rest

-- ## Other lines of rounds

-- Lines that name nothing may come too.
plain-may-come : (round : ℕ) (bytes : List ℕ) (c : Command) → ((names : List (List ℕ)) → IsLineOf names bytes (written_command c))
    → ((names : List (List ℕ)) → after (behind names) (does (written_command c)) ≡ behind names) → MayCome round (bytes ++ codes "\n")
plain-may-come round bytes c is same last rest less more names known =
    subst (IsRest (behind names)) (sym (append_assoc bytes (codes "\n") rest)) (line-first names bytes rest c (is names)
    (subst (λ s. IsRest s rest) (sym (same names)) (more names (up-to-more last round names (omega (arith, less)) known))))

digits-40 : AreDigits 40 (codes "40")
digits-40 = record { digits = refl; first = refl; value = refl }

digits-200 : AreDigits 200 (codes "200")
digits-200 = record { digits = refl; first = refl; value = refl }

go-40 : (round : ℕ) → MayCome round (codes "go 40\n")
go-40 round = plain-may-come round (codes "go 40") (command.Go 40)
    (λ names. go-line names 40 (codes "40") digits-40 (leb-true _ _ refl) (leb-true _ _ refl) (leb-true _ _ refl)) (λ names. refl)

go-200 : (round : ℕ) → MayCome round (codes "go 200\n")
go-200 round = plain-may-come round (codes "go 200") (command.Go 200)
    (λ names. go-line names 200 (codes "200") digits-200 (leb-true _ _ refl) (leb-true _ _ refl) (leb-true _ _ refl)) (λ names. refl)

crash-may-come : (round n : ℕ) → 1 ≤ n → n ≤ 3 → MayCome round (crash_text n)
crash-may-come round n low high last rest less more names known =
    subst (IsRest (behind names)) (sym whole) (line-first names (codes "crash" ++ 32 ∷ decimal n)
    ((codes "restart" ++ 32 ∷ decimal n) ++ 10 ∷ rest) (command.Crash n image.Lose)
    (crash-line names n (decimal n) digits short low high)
    (line-first names (codes "restart" ++ 32 ∷ decimal n) rest (command.Restart n)
    (restart-line names n (decimal n) digits short low high) (more names (up-to-more last round names (omega (arith, less)) known))))
  where
    digits : AreDigits n (decimal n)
    digits = digits-of n (omega (arith, high))

    short : length (decimal n) ≤ 20
    short = let few = few-digits n (omega (arith, high)) in omega (arith, few)

    whole : crash_text n ++ rest ≡ (codes "crash" ++ 32 ∷ decimal n) ++ 10 ∷ ((codes "restart" ++ 32 ∷ decimal n) ++ 10 ∷ rest)
    whole = simp append_assoc

-- ## Rounds

-- what holds of each of six Cells
by-cell : (P : ℕ → Type 0) → P 1 → P 2 → P 3 → P 4 → P 5 → P 6 → (d : ℕ) → d < 6 → P (d + 1)
by-cell P a b c e f g zero less = a
by-cell P a b c e f g (suc zero) less = b
by-cell P a b c e f g (suc (suc zero)) less = c
by-cell P a b c e f g (suc (suc (suc zero))) less = e
by-cell P a b c e f g (suc (suc (suc (suc zero)))) less = f
by-cell P a b c e f g (suc (suc (suc (suc (suc zero))))) less = g
by-cell P a b c e f g (suc (suc (suc (suc (suc (suc d)))))) less = absurd (omega (arith, less))

a-cell : (cell : ℕ) → cell < 10 → is_lower (cell-name cell) ≡ true → list_all is_printable (cell-name cell) ≡ true
    → is_among (cells-up-to 6) (cell-name cell) ≡ true → IsCell cell
a-cell cell few lower prints there = record { lower = lower; prints = prints; there = there; digit = decimal_digit cell few }

each-cell : (d : ℕ) → d < 6 → IsCell (d + 1)
each-cell = by-cell IsCell (a-cell 1 (leb-true _ _ refl) refl refl refl) (a-cell 2 (leb-true _ _ refl) refl refl refl)
    (a-cell 3 (leb-true _ _ refl) refl refl refl) (a-cell 4 (leb-true _ _ refl) refl refl refl)
    (a-cell 5 (leb-true _ _ refl) refl refl refl) (a-cell 6 (leb-true _ _ refl) refl refl refl)

get-operation : IsOperation (codes "Get") [] []
get-operation = record {
  upper = refl;
  prints = refl;
  short = leb-true _ _ refl;
  values = refl;
  values_print = refl;
  values_short = leb-true _ _ refl;
  shallow = leb-true _ _ refl;
  fits = tt;
  no_names = refl;
}

save-operation : IsOperation (codes "Save") [] []
save-operation = record {
  upper = refl;
  prints = refl;
  short = leb-true _ _ refl;
  values = refl;
  values_print = refl;
  values_short = leb-true _ _ refl;
  shallow = leb-true _ _ refl;
  fits = tt;
  no_names = refl;
}

set-operation : (v : ℕ) → v < 1000 → IsOperation (codes "Set") (decimal v) (plain (number (pos v)) ∷ [])
set-operation v few = record {
  upper = refl;
  prints = refl;
  short = leb-true _ _ refl;
  values = (decimal v, [], inl (v, refl, (and_from _ _ digits.first digits.digits, digits.value)), refl, sym (append-nil (decimal v)));
  values_print = digits-print v (decimal v) digits;
  values_short = let short = few-digits v (omega (arith, few)) in omega (arith, short);
  shallow = leb-true _ _ refl;
  fits = ((let small : v < 2 ^ 63 = omega (arith, few) in small), tt);
  no_names = refl;
}
  where
    digits : AreDigits v (decimal v)
    digits = digits-of v (omega (arith, few))

-- either text may come, and so may the one that a test chooses
chosen : (round : ℕ) (b : Bool) (x y : Text) → MayCome round x → MayCome round y → MayCome round (cond b x y)
chosen round true x y h k = h
chosen round false x y h k = k

chosen-may-come : (round choice d v : ℕ) → round ≤ 2000 → d < 6 → v < 1000 → MayCome round (chosen_text round choice (d + 1) v)
chosen-may-come round choice d v few cell value =
    chosen round (sets choice) setting (cond (nat_lt choice 10) getting
    (cond (nat_lt choice 13) saving (cond (choice == 13) going (cond (choice == 14) crashing going_far))))
    (call-may-come round (d + 1) (codes "Set") (decimal v) (plain (number (pos v)) ∷ []) few is (set-operation v value))
    (chosen round (nat_lt choice 10) getting
    (cond (nat_lt choice 13) saving (cond (choice == 13) going (cond (choice == 14) crashing going_far)))
    (call-may-come round (d + 1) (codes "Get") [] [] few is get-operation)
    (chosen round (nat_lt choice 13) saving (cond (choice == 13) going (cond (choice == 14) crashing going_far))
    (call-may-come round (d + 1) (codes "Save") [] [] few is save-operation)
    (chosen round (choice == 13) going (cond (choice == 14) crashing going_far) (go-40 round)
    (chosen round (choice == 14) crashing going_far (crash-may-come round (node_of (d + 1)) low high) (go-200 round)))))
  where
    is : IsCell (d + 1)
    is = each-cell d cell

    setting : Text
    setting = call_text round (d + 1) (set_text v)

    getting : Text
    getting = call_text round (d + 1) (codes "Get()")

    saving : Text
    saving = call_text round (d + 1) (codes "Save()")

    going : Text
    going = codes "go 40\n"

    crashing : Text
    crashing = crash_text (node_of (d + 1))

    going_far : Text
    going_far = codes "go 200\n"

    low : 1 ≤ node_of (d + 1)
    low = omega arith

    high : node_of (d + 1) ≤ 3
    high = omega arith

drawn-below : (seed k m : ℕ) → 0 < m → drawn seed k m < m
drawn-below seed k m some = mod_below (random seed (suc k) / 2 ^ 33) m some

round-may-come : (seed k round : ℕ) → round ≤ 2000 → MayCome round (round_text seed k round)
round-may-come seed k round few = chosen-may-come round (drawn seed k 16) (drawn seed (k + 1) 6) (drawn seed (k + 2) 1000) few
    (drawn-below seed (k + 1) 6 (leb-true _ _ refl)) (drawn-below seed (k + 2) 1000 (leb-true _ _ refl))

-- so many rounds, from this one on, in front of a rest
from-round : (seed a n : ℕ) (rest : List ℕ) → a + n ≤ 2000 → RestBehind (a + n) rest
    → RestBehind a (flat_map (λ behind. round_text seed (draws_before seed behind) (behind + 1)) (range_with_len a n) ++ rest)
from-round seed a zero rest few more =
    let same : a + 0 ≡ a = omega arith in subst (λ m. RestBehind m rest) same more
from-round seed a (suc n) rest few more =
    subst (RestBehind a) (sym (append_assoc first others rest))
    (round-may-come seed (draws_before seed a) (a + 1) (omega (arith, few)) a (others ++ rest) (omega arith)
    (from-round seed (a + 1) n rest (omega (arith, few)) (let same : a + suc n ≡ a + 1 + n = omega arith in
    subst (λ m. RestBehind m rest) same more)))
  where
    first : Text
    first = round_text seed (draws_before seed a) (a + 1)

    others : Text
    others = flat_map (λ behind. round_text seed (draws_before seed behind) (behind + 1)) (range_with_len (a + 1) n)

pub rounds-first : (seed n : ℕ) (rest : List ℕ) → n ≤ 2000 → RestBehind n rest → RestBehind 0 (rounds_text seed n ++ rest)
unfolding rounds_text
rounds-first seed n rest few more =
    let all : 0 + n ≤ 2000 = omega (arith, few) in
    let same : n ≡ 0 + n = omega arith in from-round seed 0 n rest all (subst (λ m. RestBehind m rest) same more)

-- ## Creations

-- a rest of the script behind these many creations
abbrev RestBehindCells : ℕ → List ℕ → Type 0
RestBehindCells n bytes = (names : List (List ℕ)) → SameNames names (cells-up-to n) → IsRest (behind names) bytes

creation-first : (n : ℕ) (rest : List ℕ) → suc n < 10 → is_lower (cell-name (suc n)) ≡ true
    → list_all is_printable (cell-name (suc n)) ≡ true → is_among (cells-up-to n) (cell-name (suc n)) ≡ false
    → RestBehindCells (suc n) rest → RestBehindCells n (create_text (suc n) ++ rest)
creation-first n rest few lower prints new more names known =
    subst (IsRest (behind names)) (sym text) (line-first names (create-bytes c (decimal node)) rest (command.Create c node (codes "Cell"))
    (create-line names c node (decimal node) lower prints (leb-true _ _ refl) digits short (omega arith) (omega arith) (known c ∙ new))
    (more (with_names names (c ∷ [])) (same_names_more (c ∷ []) names (cells-up-to n) (leb-true _ _ refl) known)))
  where
    c : List ℕ
    c = cell-name (suc n)

    node : ℕ
    node = node_of (suc n)

    digits : AreDigits node (decimal node)
    digits = digits-of node (omega arith)

    short : length (decimal node) ≤ 20
    short = let few = few-digits node (omega arith) in omega (arith, few)

    grouped : (d e : List ℕ) → (codes "create c" ++ d ++ codes " " ++ e ++ codes " Cell\n") ++ rest ≡ create-bytes (99 ∷ d) e ++ 10 ∷ rest
    grouped d e = simp append_assoc

    text : create_text (suc n) ++ rest ≡ create-bytes c (decimal node) ++ 10 ∷ rest
    text = ap (λ d. (codes "create c" ++ d ++ codes " " ++ decimal node ++ codes " Cell\n") ++ rest) (decimal_digit (suc n) few)
        ∙ grouped ((48 + suc n) ∷ []) (decimal node)

pub creations-first : (rest : List ℕ) → RestBehind 0 rest → IsRest (behind []) (creations_text 6 ++ rest)
unfolding creations_text
creations-first rest more =
    subst (IsRest (behind [])) (sym text)
    (creation-first 0 _ (leb-true _ _ refl) refl refl refl
    (creation-first 1 _ (leb-true _ _ refl) refl refl refl
    (creation-first 2 _ (leb-true _ _ refl) refl refl refl
    (creation-first 3 _ (leb-true _ _ refl) refl refl refl
    (creation-first 4 _ (leb-true _ _ refl) refl refl refl
    (creation-first 5 rest (leb-true _ _ refl) refl refl refl (λ names same. more names (behind-cells names same)))))))
    [] (λ x. refl))
  where
    grouped : (a b c d e f : Text) → (a ++ (b ++ (c ++ (d ++ (e ++ (f ++ [])))))) ++ rest ≡ a ++ (b ++ (c ++ (d ++ (e ++ (f ++ rest)))))
    grouped a b c d e f = simp (append_assoc, append-nil)

    text : creations_text 6 ++ rest
        ≡ create_text 1 ++ (create_text 2 ++ (create_text 3 ++ (create_text 4 ++ (create_text 5 ++ (create_text 6 ++ rest)))))
    text = grouped (create_text 1) (create_text 2) (create_text 3) (create_text 4) (create_text 5) (create_text 6)

-- ## The end

digits-5000 : AreDigits 5000 (codes "5000")
digits-5000 = record { digits = refl; first = refl; value = refl }

pub end-first : (last : ℕ) → RestBehind last (codes "go 5000\nend\n")
end-first last names known = line-first names (codes "go 5000") (codes "end\n") (command.Go 5000)
    (go-line names 5000 (codes "5000") digits-5000 (leb-true _ _ refl) (leb-true _ _ refl) (leb-true _ _ refl))
    (line-first names (codes "end") [] command.End (end-line names) (record {
      commands = [];
      end = after (behind names) (does (written_command command.End));
      says = (refl, refl);
      types = refl;
      nodes = refl;
      ended = refl;
    }))
