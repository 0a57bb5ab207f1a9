-- Values in which lists nest at most so deep: of a list, and of values in a row.
use Rattle.std.proofs.Common.{◌≡◌, ℕ, zero, suc, ◌+◌, ◌-◌, ◌<◌, ◌&&◌, Bool, true}
use Rattle.std.proofs.Common.{false, cond, nat_le, max, List, [], ◌∷◌, ◌++◌, Option, None, Some}
use Rattle.std.proofs.Common.{refl, sym, ap, ◌∙◌, append_assoc, append-nil, length, drop, drop-cons, get_or, arith}
use Rattle.std.proofs.lemmas.List.{map-append}
use Rattle.std.specs.Option.{option_map}
use Rattle.std.proofs.lemmas.Bool.Decides.{nat_tests}
use Rattle.eden_value.specs.Datum.{Datum, Data, list, no_data, data_and, items_of, data_of}
use Rattle.eden_value.specs.Limits.{depth, depths}
use Rattle.eden_value.proofs.Laws.{data_of-items_of}
use Rattle.eden_value.specs.View.{datum, datums}
use Rattle.eden_value.specs.declared.value.Value.{Value}
use Rattle.eden_model.specs.Map.{with_item}
use Rattle.shell_names.specs.Shallow.{shallow, shallow_all}

-- a list of values, where there are these
abbrev pub listed : Option Data → Option Datum
listed o = with_item o (λ ds. Some (list ds)) None

-- one value more, before others
abbrev pub joined : Option Datum → Option Data → Option Data
joined a b = with_item a (λ d. with_item b (λ ds. Some (data_and d ds)) None) None

abbrev pub row : Option Datum → Option (List Datum) → Option (List Datum)
row a b = with_item a (λ d. with_item b (λ ds. Some (d ∷ ds)) None) None

past-zero : (n : ℕ) → nat_le (suc n) 0 ≡ false
past-zero n = grind (arith, nat_tests)

one-less : (a b : ℕ) → nat_le (suc a) (suc b) ≡ nat_le a b
one-less a b = grind (arith, nat_tests)

-- no list is within no list
pub list-none : (o : Option Data) → shallow 0 (listed o) ≡ None
list-none None = refl
list-none (Some ds) = rw (past-zero (depths ds)) refl

-- a list is within the limit where its items are within one less
pub list-shallow : (most : ℕ) (o : Option Data) → shallow (suc most) (listed o) ≡ option_map (λ ds. list (data_of ds)) (shallow_all most o)
list-shallow most None = refl
list-shallow most (Some ds) = rw (one-less (depths ds) most) (go (nat_le (depths ds) most))
  where
    go : (b : Bool) → cond b (Some (list ds)) None ≡ option_map (λ es. list (data_of es)) (cond b (Some (items_of ds)) None)
    go true = rw (data_of-items_of ds) refl
    go false = refl

both-within : (a b n : ℕ) → nat_le (max a b) n ≡ (nat_le a n && nat_le b n)
both-within a b n = grind (arith, nat_tests)

-- values in a row are within the limit where each is
pub row-shallow : (most : ℕ) (a : Option Datum) (b : Option Data)
    → shallow_all most (joined a b) ≡ row (shallow most a) (shallow_all most b)
row-shallow most None b = refl
row-shallow most (Some d) None = go (nat_le (depth d) most)
  where
    go : (c : Bool) → None ≡ row (cond c (Some d) None) None
    go true = refl
    go false = refl
row-shallow most (Some d) (Some ds) = rw (both-within (depth d) (depths ds) most) (go (nat_le (depth d) most) (nat_le (depths ds) most))
  where
    go : (p q : Bool)
        → cond (p && q) (Some (d ∷ items_of ds)) None ≡ row (cond p (Some d) None) (cond q (Some (items_of ds)) None)
    go true true = refl
    go true false = refl
    go false q = refl

-- these values, and others behind them
abbrev pub before : List Value → Option (List Datum) → Option (List Datum)
before made o = with_item o (λ ds. Some (datums made ++ ds)) None

-- one value more was read
pub one-more : (most : ℕ) (made : List Value) (v : Value) (a : Option Datum) (b : Option Data) → Some (datum v) ≡ shallow most a
    → before (made ++ v ∷ []) (shallow_all most b) ≡ before made (shallow_all most (joined a b))
one-more most made v a b is = rw (row-shallow most a b, sym is) (go (shallow_all most b))
  where
    go : (o : Option (List Datum)) → before (made ++ v ∷ []) o ≡ before made (row (Some (datum v)) o)
    go None = refl
    go (Some ds) = ap Some (ap (λ es. es ++ ds) (map-append datum made (v ∷ [])) ∙ append_assoc (datums made) (datum v ∷ []) ds)

-- an argument has no value
pub stopped : (most : ℕ) (made : List Value) (a : Option Datum) (b : Option Data) → None ≡ shallow most a
    → before made (shallow_all most (joined a b)) ≡ None
stopped most made a b is = rw (row-shallow most a b, sym is) refl

-- a list of what was read
pub list-read : (most : ℕ) (o : Option Data) (found : Option (List Datum)) → (most ≡ 0 → ⊥) → found ≡ shallow_all (most - 1) o
    → option_map (λ ds. list (data_of ds)) found ≡ shallow most (listed o)
list-read zero o found above is = absurd (above refl)
list-read (suc most) o found above is =
    let less : suc most - 1 ≡ most = omega arith in
    ap (option_map (λ ds. list (data_of ds))) (is ∙ ap (λ n. shallow_all n o) less) ∙ sym (list-shallow most o)

-- the item at a place, and those behind it
pub next-item : {X : Type 0} (xs : List X) (i : ℕ) (x : X) → i < length xs → x ≡ get_or xs i x → drop i xs ≡ x ∷ drop (i + 1) xs
next-item xs i x within is =
    let next : suc i ≡ i + 1 = omega arith in
    drop-cons xs i x within ∙ (λ j. sym is j ∷ drop (next j) xs)

nothing-within : (most : ℕ) → nat_le 0 most ≡ true
nothing-within most = grind (arith, nat_tests)

-- no argument is left
pub all-read : (most : ℕ) (made : List Value) → before made (shallow_all most (Some no_data)) ≡ Some (datums made)
all-read most made = rw (nothing-within most) (ap Some (append-nil (datums made)))
