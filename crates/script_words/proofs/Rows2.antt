-- What is spelled as a value, or as values in a row, is read.
use Rattle.std.proofs.Common.{◌≡◌, ◌∙◌, ap, sym, refl, subst, ℕ, zero, suc, ℤ, pos, ◌≤◌, Bool, true, false, ◌==◌, ◌||◌, List, [], ◌∷◌}
use Rattle.std.proofs.Common.{◌++◌, codes, Option, Some, None, Ok, inl, inr, arith, append_assoc, append-nil}
use Rattle.std.proofs.lemmas.Bool.{and_parts, or_left, ne_eqb}
use Rattle.script_words.specs.Form.{starts_with, is_number, is_lower, number_of, quoted}
use Rattle.script_words.specs.Tree.{WrittenArg, plain, named, several, Row, no_more, and_more, row_of, size, depth, row_depth}
use Rattle.eden_value.specs.Datum.{number, truth, text, cap, list}
use Rattle.script_words.specs.Grammar.{Refers, minus, Signed, truth_word, Value, Values, Behind}
use Rattle.script_words.specs.Causes.{names_in, names_of}
use Rattle.script_words.specs.Reading.{Judged, Reading, Maybe, ◌>>=◌, behind, read_flat, added, read_close, more_by, more_values}
use Rattle.script_words.specs.Reading.{closed_by, read_values, listed, list_by, read_value}
use Rattle.script_words.proofs.Pieces.{word_again, behind_again}
use Rattle.script_words.proofs.ValueLaws.{Fitting, AllFit, added_fit, listed_fits}
use Rattle.script_words.proofs.Wholes.{Stops, Again, begins_flat, differ, no_mark, lower_begins, digit_begins, positive_again}
use Rattle.script_words.proofs.Wholes.{negative_again, text_value_again, named_again, word_value_again}

abbrev pub begins : ℕ → Bool
begins b = begins_flat b || b == 91

-- ## What a value begins with

number_begins : (d : List ℕ) → is_number d ≡ true → starts_with begins_flat d ≡ true
number_begins [] h = absurd cc
number_begins (b ∷ d) h = digit_begins b (and_parts _ _ h).0

name_begins : (name more : List ℕ) → is_lower name ≡ true → starts_with begins_flat (name ++ more) ≡ true
name_begins [] more h = absurd cc
name_begins (b ∷ name) more h = lower_begins b (and_parts _ _ h).0

signed_begins : (n : ℤ) (x : List ℕ) → Signed n x → starts_with begins_flat x ≡ true
signed_begins n x (inl h) = number_begins x h.2.0
signed_begins n x (inr h) = ap (starts_with begins_flat) (h.2.4 ∙ ap (λ (l : List ℕ). l ++ h.2.1) h.2.2)

refers_begins : (k : Option ℕ) (name x : List ℕ) → Refers (record { name = name; result = k }) x → starts_with begins_flat x ≡ true
refers_begins None name x h = ap (starts_with begins_flat) (h.0 ∙ sym (append-nil name)) ∙ name_begins name [] h.1
refers_begins (Some k) name x h = ap (starts_with begins_flat) (h.4 ∙ ap (λ (l : List ℕ). l ++ h.1) h.2.0) ∙ name_begins name h.1 h.2.1

truth_begins : (b : Bool) → starts_with begins_flat (truth_word b) ≡ true
truth_begins true = refl
truth_begins false = refl

widen : (x : List ℕ) → starts_with begins_flat x ≡ true → starts_with begins x ≡ true
widen [] h = absurd cc
widen (b ∷ x) h = or_left (begins_flat b) (b == 91) h

pub value_begins : (g : WrittenArg) (x : List ℕ) → Value g x → starts_with begins x ≡ true
value_begins (plain (number n)) x h = widen x (signed_begins n x h)
value_begins (plain (truth b)) x h = ap (starts_with begins) h ∙ widen (truth_word b) (truth_begins b)
value_begins (plain (text t)) x h = ap (starts_with begins) h.0
value_begins (plain (cap None)) x h = ap (starts_with begins) h
value_begins (plain (cap (Some c))) x h = absurd h
value_begins (plain (list ds)) x h = absurd h
value_begins (named r) x h = widen x (refers_begins r.result r.name x h.0)
value_begins (several gs) x h = ap (starts_with begins) (h.0.4 ∙ ap (λ (l : List ℕ). l ++ h.0.1) h.0.2)

-- ## A flat value is no list

no_list : (x rest : List ℕ) → starts_with begins_flat x ≡ true → behind (codes "[") (x ++ rest) ≡ None
no_list [] rest h = absurd cc
no_list (b ∷ x) rest h = no_mark 91 b (x ++ rest) (differ b 91 h refl)

flat_read : (names : Bool) (n : ℕ) (bytes : List ℕ) → behind (codes "[") bytes ≡ None → read_value names n bytes ≡ read_flat names bytes
flat_read names zero bytes h = refl
flat_read names (suc n) bytes h =
    ap
    (λ o. list_by o (read_flat names bytes) (λ rest. read_values (read_value names n) (codes "]") 255 rest >>= λ x. Ok (listed x.0, x.1))) h

flat_again : (names : Bool) (n : ℕ) (g : WrittenArg) (x rest : List ℕ) → starts_with begins_flat x ≡ true
    → Again (read_flat names) g (x ++ rest) rest → Again (read_value names n) g (x ++ rest) rest
flat_again names n g x rest h a =
    record { found = a.found; read = flat_read names n (x ++ rest) (no_list x rest h) ∙ a.read; fitting = a.fitting }

signed_again : (names : Bool) (n : ℤ) (x rest : List ℕ) → Signed n x → Stops rest
    → Again (read_flat names) (plain (number n)) (x ++ rest) rest
signed_again names n x rest (inl h) stop =
    subst (λ z. Again (read_flat names) (plain (number z)) (x ++ rest) rest) (ap (λ m. pos m) h.2.1 ∙ sym h.1)
    (positive_again names x rest h.2.0 stop)
signed_again names n x rest (inr h) stop =
    let d = h.2.1 in
    let e : 45 ∷ d ≡ x = ap (λ (l : List ℕ). l ++ d) (sym h.2.2) ∙ sym h.2.4 in
    subst (λ z. Again (read_flat names) (plain (number z)) (x ++ rest) rest) (ap minus h.2.3.1 ∙ sym h.1)
    (subst (λ (l : List ℕ). Again (read_flat names) (plain (number (minus (number_of d)))) (l ++ rest) rest) e
    (negative_again names d rest h.2.3.0 stop))

truth_again : (names : Bool) (b : Bool) (rest : List ℕ) → Stops rest → Again (read_flat names) (plain (truth b)) (truth_word b ++ rest) rest
truth_again names true rest stop = word_value_again names (codes "true") rest (plain (truth true)) refl refl refl tt stop
truth_again names false rest stop = word_value_again names (codes "false") rest (plain (truth false)) refl refl refl tt stop

-- ## Rows

abbrev pub items_in : Row → List WrittenArg
items_in no_more = []
items_in (and_more g gs) = g ∷ items_in gs

pub row_items_in : (gs : Row) → row_of (items_in gs) ≡ gs
row_items_in no_more = refl
row_items_in (and_more g gs) = ap (and_more g) (row_items_in gs)

-- what closes a row
pub record Closes (c : ℕ) : Type 0 where
  pub stops : (rest : List ℕ) → Stops (c ∷ rest)
  pub comma : (rest : List ℕ) → behind (codes ", ") (c ∷ rest) ≡ None
  pub apart : begins c ≡ false

pub bracket : Closes 93
bracket = record { stops = λ rest. record { name = refl; digit = refl; point = refl }; comma = λ rest. refl; apart = refl }

pub parenthesis : Closes 41
parenthesis = record { stops = λ rest. record { name = refl; digit = refl; point = refl }; comma = λ rest. refl; apart = refl }

pub record RowAgain (names : Bool) (n left c : ℕ) (so_far : Option (List WrittenArg)) (before : List WrittenArg) (gs : Row)
    (bytes rest : List ℕ) : Type 0 where
  pub found : Option (List WrittenArg)
  pub read : more_values (read_value names n) (c ∷ []) left so_far bytes ≡ Ok (found, rest)
  pub fit : AllFit found (before ++ items_in gs)

behind_stops : (c : ℕ) → Closes c → (gs : Row) (y rest : List ℕ) → Behind gs y → Stops (y ++ (c ∷ rest))
behind_stops c closes no_more y rest h = subst (λ (l : List ℕ). Stops (l ++ (c ∷ rest))) (sym h) (closes.stops rest)
behind_stops c closes (and_more g gs) y rest h =
    subst (λ (l : List ℕ). Stops (l ++ (c ∷ rest))) (ap (λ (l : List ℕ). l ++ h.1) (sym h.2) ∙ sym h.4)
    (record { name = refl; digit = refl; point = refl })

close_again : (names : Bool) (n left c : ℕ) → Closes c → (so_far : Option (List WrittenArg)) (rest : List ℕ)
    → more_values (read_value names n) (c ∷ []) left so_far (c ∷ rest) ≡ Ok (so_far, rest)
close_again names n zero c closes so_far rest = ap (λ (r : Judged (List ℕ)). r >>= λ rest. Ok (so_far, rest)) (word_again (c ∷ []) rest)
close_again names n (suc left) c closes so_far rest =
    ap
    (λ o. more_by o (read_close (c ∷ []) so_far (c ∷ rest)) (λ rest. read_value names n rest >>= λ x. more_values (read_value names n)
    (c ∷ []) left (added so_far x.0) x.1))
    (closes.comma rest)
    ∙ ap (λ (r : Judged (List ℕ)). r >>= λ rest. Ok (so_far, rest)) (word_again (c ∷ []) rest)

-- one value more, where what is behind it is read
one_more : (names : Bool) (n left c : ℕ) (so_far : Option (List WrittenArg)) (before : List WrittenArg) (g : WrittenArg) (gs : Row)
    (x w rest : List ℕ)
    → AllFit so_far before
    → Again (read_value names n) g (x ++ (w ++ (c ∷ rest))) (w ++ (c ∷ rest))
    →
    ((so_far : Option (List WrittenArg)) (before : List WrittenArg) → AllFit so_far before → RowAgain names n left c so_far before gs
    (w ++ (c ∷ rest)) rest)
    → RowAgain names n (suc left) c so_far before (and_more g gs) (codes ", " ++ (x ++ (w ++ (c ∷ rest)))) rest
one_more names n left c so_far before g gs x w rest fit a again =
    let r = again (added so_far a.found) (before ++ g ∷ []) (added_fit so_far a.found before g fit a.fitting) in
    record {
      found = r.found;
      read = ap (λ (q : Reading Maybe). q >>= λ x. more_values (read_value names n) (c ∷ []) left (added so_far x.0) x.1) a.read ∙ r.read;
      fit = subst (AllFit r.found) (append_assoc before (g ∷ []) (items_in gs)) r.fit;
    }

pub record AllAgain (names : Bool) (n left c : ℕ) (gs : Row) (bytes rest : List ℕ) : Type 0 where
  pub found : Option (List WrittenArg)
  pub read : read_values (read_value names n) (c ∷ []) left bytes ≡ Ok (found, rest)
  pub fit : AllFit found (items_in gs)

list_again : (names : Bool) (gs : Row) (n : ℕ) (inner rest x : List ℕ) → x ≡ 91 ∷ (inner ++ 93 ∷ [])
    → AllAgain names n 255 93 gs (inner ++ (93 ∷ rest)) rest → Again (read_value names (suc n)) (several gs) (x ++ rest) rest
list_again names gs n inner rest x e a = record {
  found = listed a.found;
  read =
      ap (λ (l : List ℕ). read_value names (suc n) (l ++ rest)) e
      ∙ ap (λ (l : List ℕ). read_value names (suc n) (91 ∷ l)) (append_assoc inner (93 ∷ []) rest)
      ∙ ap (λ (q : Reading (Option (List WrittenArg))). q >>= λ x. Ok (listed x.0, x.1)) a.read;
  fitting = subst (λ r. Fitting (listed a.found) (several r)) (row_items_in gs) (listed_fits a.found (items_in gs) a.fit);
}

-- the first value, and those behind it
first_more : (names : Bool) (n left c : ℕ) (g : WrittenArg) (gs : Row) (x w rest : List ℕ) → Closes c → starts_with begins x ≡ true
    → Again (read_value names n) g (x ++ (w ++ (c ∷ rest))) (w ++ (c ∷ rest))
    →
    ((so_far : Option (List WrittenArg)) (before : List WrittenArg) → AllFit so_far before → RowAgain names n left c so_far before gs
    (w ++ (c ∷ rest)) rest)
    → AllAgain names n left c (and_more g gs) (x ++ (w ++ (c ∷ rest))) rest
first_more names n left c g gs x w rest closes start a again =
    let r = again (added (Some []) a.found) (g ∷ []) (added_fit (Some []) a.found [] g (refl, tt) a.fitting) in
    record {
      found = r.found;
      read =
          ap
          (λ o. closed_by o (read_value names n (x ++ (w ++ (c ∷ rest))) >>= λ x. more_values (read_value names n) (c ∷ []) left
          (added (Some []) x.0) x.1))
          (not_closed x (w ++ (c ∷ rest)) start)
          ∙ ap (λ (q : Reading Maybe). q >>= λ x. more_values (read_value names n) (c ∷ []) left (added (Some []) x.0) x.1) a.read ∙ r.read;
      fit = r.fit;
    }
  where
    not_closed : (x more : List ℕ) → starts_with begins x ≡ true → behind (c ∷ []) (x ++ more) ≡ None
    not_closed [] more h = absurd cc
    not_closed (b ∷ x) more h = no_mark c b (x ++ more) (ne_eqb b c (λ e. both (sym h ∙ ap begins e ∙ closes.apart)))
      where
        both : true ≡ false → ⊥
        both e = cc

pub some_name : (name : List ℕ) → name ∷ [] ≡ [] → ⊥
some_name name e = cc

pub none_left : (a b : List (List ℕ)) → a ++ b ≡ [] → a ≡ []
none_left [] b e = refl
none_left (x ∷ a) b e = absurd cc

pub none_right : (a b : List (List ℕ)) → a ++ b ≡ [] → b ≡ []
none_right [] b e = e
none_right (x ∷ a) b e = absurd cc

mutual
  pub value_again : (names : Bool) (g : WrittenArg) (n : ℕ) (x rest : List ℕ) → Value g x → (names ≡ false → names_in g ≡ []) → depth g ≤ n
      → Stops rest → Again (read_value names n) g (x ++ rest) rest
  value_again names (plain (number z)) n x rest h may d stop =
      flat_again names n (plain (number z)) x rest (signed_begins z x h) (signed_again names z x rest h stop)
  value_again names (plain (truth b)) n x rest h may d stop =
      subst (λ (l : List ℕ). Again (read_value names n) (plain (truth b)) (l ++ rest) rest) (sym h)
      (flat_again names n (plain (truth b)) (truth_word b) rest (truth_begins b) (truth_again names b rest stop))
  value_again names (plain (text t)) n x rest h may d stop =
      subst (λ (l : List ℕ). Again (read_value names n) (plain (text t)) (l ++ rest) rest) (sym h.0)
      (flat_again names n (plain (text t)) ((34 ∷ quoted t) ++ 34 ∷ []) rest refl (text_value_again names t rest h.1))
  value_again names (plain (cap None)) n x rest h may d stop =
      subst (λ (l : List ℕ). Again (read_value names n) (plain (cap None)) (l ++ rest) rest) (sym h)
      (flat_again names n (plain (cap None)) (codes "none") rest refl
      (word_value_again names (codes "none") rest (plain (cap None)) refl refl refl tt stop))
  value_again names (plain (cap (Some c))) n x rest h may d stop = absurd h
  value_again names (plain (list ds)) n x rest h may d stop = absurd h
  value_again names (named r) n x rest h may d stop =
      flat_again names n (named r) x rest (refers_begins r.result r.name x h.0)
      (named_again names r x rest h (λ bare. some_name r.name (may bare)) stop)
  value_again names (several gs) zero x rest h may d stop = absurd (omega (arith, d))
  value_again names (several gs) (suc n) x rest h may d stop =
      let inner = h.0.3.0 in
      let e : x ≡ 91 ∷ (inner ++ 93 ∷ []) =
      h.0.4 ∙ ap (λ (l : List ℕ). l ++ h.0.1) h.0.2 ∙ ap (λ (l : List ℕ). 91 ∷ l) (h.0.3.4 ∙ ap (λ (l : List ℕ). inner ++ l) h.0.3.3) in
      let a = values_again names gs n 255 93 inner rest h.0.3.2 may (omega (arith, h.1)) (omega (arith, d)) bracket in
      list_again names gs n inner rest x e a

  pub values_again : (names : Bool) (gs : Row) (n left c : ℕ) (y rest : List ℕ) → Values gs y → (names ≡ false → names_of gs ≡ [])
      → size gs ≤ suc left → row_depth gs ≤ n → Closes c → AllAgain names n left c gs (y ++ (c ∷ rest)) rest
  values_again names no_more n left c y rest h may few shallow closes =
      subst (λ (l : List ℕ). AllAgain names n left c no_more (l ++ (c ∷ rest)) rest) (sym h)
      (record {
        found = Some [];
        read = ap (λ o. closed_by o
            (read_value names n (c ∷ rest) >>= λ x. more_values (read_value names n) (c ∷ []) left (added (Some []) x.0) x.1))
            (behind_again (c ∷ []) rest);
        fit = (refl, tt);
      })
  values_again names (and_more g gs) n left c y rest h may few shallow closes =
      subst (λ (l : List ℕ). AllAgain names n left c (and_more g gs) l rest)
      (sym (append_assoc h.0 h.1 (c ∷ rest)) ∙ ap (λ (l : List ℕ). l ++ (c ∷ rest)) (sym h.4))
      (first_more names n left c g gs h.0 h.1 rest closes (value_begins g h.0 h.2)
      (value_again names g n h.0 (h.1 ++ (c ∷ rest)) h.2 (λ bare. none_left (names_in g) (names_of gs) (may bare))
      (omega (arith, shallow)) (behind_stops c closes gs h.1 rest h.3))
      (λ s b f. row_again names gs n left c s b h.1 rest h.3 (λ bare. none_right (names_in g) (names_of gs) (may bare))
      (omega (arith, few)) (omega (arith, shallow)) closes f))

  pub row_again : (names : Bool) (gs : Row) (n left c : ℕ) (so_far : Option (List WrittenArg)) (before : List WrittenArg) (y rest : List ℕ)
      → Behind gs y → (names ≡ false → names_of gs ≡ []) → size gs ≤ left → row_depth gs ≤ n → Closes c → AllFit so_far before
      → RowAgain names n left c so_far before gs (y ++ (c ∷ rest)) rest
  row_again names no_more n left c so_far before y rest h may few shallow closes fit =
      subst (λ (l : List ℕ). RowAgain names n left c so_far before no_more (l ++ (c ∷ rest)) rest) (sym h)
      (record {
        found = so_far;
        read = close_again names n left c closes so_far rest;
        fit = subst (AllFit so_far)
            (sym (append-nil before)) fit;
      })
  row_again names (and_more g gs) n zero c so_far before y rest h may few shallow closes fit = absurd (omega (arith, few))
  row_again names (and_more g gs) n (suc left) c so_far before y rest h may few shallow closes fit =
      let p = h.3 in
      let e : y ≡ codes ", " ++ (p.0 ++ p.1) = h.4 ∙ ap (λ (l : List ℕ). l ++ h.1) h.2 ∙ ap (λ (l : List ℕ). codes ", " ++ l) p.4 in
      subst (λ (l : List ℕ). RowAgain names n (suc left) c so_far before (and_more g gs) l rest)
      (ap (λ (l : List ℕ). codes ", " ++ l) (sym (append_assoc p.0 p.1 (c ∷ rest))) ∙ ap (λ (l : List ℕ). l ++ (c ∷ rest)) (sym e))
      (one_more names n left c so_far before g gs p.0 p.1 rest fit
      (value_again names g n p.0 (p.1 ++ (c ∷ rest)) p.2 (λ bare. none_left (names_in g) (names_of gs) (may bare))
      (omega (arith, shallow)) (behind_stops c closes gs p.1 rest p.3))
      (λ s b f. row_again names gs n left c s b p.1 rest p.3 (λ bare. none_right (names_in g) (names_of gs) (may bare))
      (omega (arith, few)) (omega (arith, shallow)) closes f))
