-- The filters of a stream make what their functions make of its list.
use Rattle.std.proofs.Common.{◌≡◌, ℕ, zero, suc, ◌+◌, ◌-◌, ◌<◌, ◌≤◌, ℤ, pos, negsuc, Bool, true, false, cond, List, [], ◌∷◌, ◌++◌, take}
use Rattle.std.proofs.Common.{drop, length, refl, ap, sym, ◌∙◌, arith, length-append, length-take}
use Rattle.std.specs.Prelude.{nat_le, int_le, ◌+ℤ◌}
use Rattle.std.specs.List.{filter}
use Rattle.std.proofs.lemmas.Bool.Decides.{nat_tests}
use Rattle.std.proofs.lemmas.List.{take-append-le, drop-append-le}
use Rattle.std.proofs.lemmas.List.Elements.{filter-append}
use Rattle.epl_syntax.specs.Simple.{argument, number_in, text_in}
use Rattle.epl_syntax.specs.Filters.{Filter, begins_with, numbered, handed_on, passed_over}
use Rattle.epl_syntax.specs.Pipelines.{Sieve, takes, skips, keeps, numbers, sifted, so_many, numbered_from, rule_of, hands_on, takes_in}
use Rattle.epl_syntax.specs.Pipelines.{HasTaken, IsFront, FiltersMakeTheirFunctions, FiltersEndAsTheirFunctions, PipelinesKeepFronts}

append_nothing : {A : Type 0} (xs : List A) → xs ++ [] ≡ xs
append_nothing [] = refl
append_nothing (x ∷ xs) = ap (λ l. x ∷ l) (append_nothing xs)

take_whole : {A : Type 0} (n : ℕ) (xs : List A) → length xs ≤ n → take n xs ≡ xs
take_whole zero [] h = refl
take_whole zero (x ∷ xs) h = absurd (omega arith)
take_whole (suc n) [] h = refl
take_whole (suc n) (x ∷ xs) h = ap (λ l. x ∷ l) (take_whole n xs (omega arith))

drop_whole : {A : Type 0} (n : ℕ) (xs : List A) → length xs ≤ n → drop n xs ≡ []
drop_whole zero [] h = refl
drop_whole zero (x ∷ xs) h = absurd (omega arith)
drop_whole (suc n) [] h = refl
drop_whole (suc n) (x ∷ xs) h = drop_whole n xs (omega arith)

past : (n k : ℕ) → nat_le n k ≡ false → k < n
past n k h = grind (arith, nat_tests)

within : (n k : ℕ) → nat_le n k ≡ true → n ≤ k
within n k h = grind (arith, nat_tests)

-- ---- one item more
take_one : {A : Type 0} (n : ℕ) (xs : List A) (x : A) → nat_le n (length (take n xs)) ≡ false
    → take n (xs ++ x ∷ []) ≡ take n xs ++ x ∷ []
take_one n xs x h =
    let more : length (take n xs) < n = past n (length (take n xs)) h in
    let short : length xs < n = omega (arith, length-take n xs) in
    take_whole n (xs ++ x ∷ []) (omega (arith, length-append xs (x ∷ []))) ∙ sym (ap (λ l. l ++ x ∷ []) (take_whole n xs (omega arith)))

drop_one : {A : Type 0} (n : ℕ) (xs : List A) (x : A) (b : Bool) → nat_le n (length xs) ≡ b
    → drop n (xs ++ x ∷ []) ≡ drop n xs ++ cond b (x ∷ []) []
drop_one n xs x true h = drop-append-le n xs (x ∷ []) (within n (length xs) h)
drop_one n xs x false h =
    let short : length xs < n = past n (length xs) h in
    drop_whole n (xs ++ x ∷ []) (omega (arith, length-append xs (x ∷ []))) ∙ sym (ap (λ l. l ++ []) (drop_whole n xs (omega arith)))

numbered_one : (before : ℕ) (xs : List (List ℕ)) (x : List ℕ)
    → numbered_from before (xs ++ x ∷ []) ≡ numbered_from before xs ++ numbered (pos (before + length xs + 1)) x ∷ []
numbered_one before [] x = ap (λ n. numbered (pos n) x ∷ []) (omega arith)
numbered_one before (y ∷ xs) x =
    ap (λ l. numbered (pos (before + 1)) y ∷ l)
    (numbered_one (before + 1) xs x ∙ ap (λ n. numbered_from (before + 1) xs ++ numbered (pos n) x ∷ []) (omega arith))

numbered_length : (before : ℕ) (xs : List (List ℕ)) → length (numbered_from before xs) ≡ length xs
numbered_length before [] = refl
numbered_length before (x ∷ xs) = ap suc (numbered_length (before + 1) xs)

-- each filter, where what it holds is written out
take_made : (n : ℤ) (items : List (List ℕ)) (x : List ℕ) → int_le n (pos (length (take (so_many n) items))) ≡ false
    → take (so_many n) (items ++ x ∷ []) ≡ take (so_many n) items ++ x ∷ []
take_made (pos n) items x h = take_one n items x h
take_made (negsuc n) items x h = absurd cc

skip_made : (n : ℤ) (items : List (List ℕ)) (x : List ℕ)
    → drop (so_many n) (items ++ x ∷ []) ≡ drop (so_many n) items ++ cond (int_le n (pos (length items))) (x ∷ []) []
skip_made (pos n) items x = drop_one n items x (nat_le n (length items)) refl
skip_made (negsuc n) items x = refl

only_made : (front : List ℕ) (items : List (List ℕ)) (x : List ℕ)
    → filter (begins_with front) (items ++ x ∷ []) ≡ filter (begins_with front) items ++ cond (begins_with front x) (x ∷ []) []
only_made front items x = filter-append (begins_with front) items (x ∷ [])

one_more : (s : Sieve) (items : List (List ℕ)) (item : List ℕ) (f : Filter) → HasTaken s items f → (rule_of s).is_over f ≡ false
    → sifted s (items ++ item ∷ []) ≡ sifted s items ++ hands_on (rule_of s) item f
one_more (takes n) items item f h on =
    take_made n items item (ap (int_le n) (sym h.made) ∙ ap (λ a. int_le (number_in (argument 0 a)) f.made) (sym h.argument) ∙ on)
one_more (skips n) items item f h on =
    skip_made n items item
    ∙ ap (λ b. drop (so_many n) items ++ cond b (item ∷ []) [])
    (ap (int_le n) (sym h.got) ∙ ap (λ a. int_le (number_in (argument 0 a)) f.got) (sym h.argument))
one_more (keeps front) items item f h on =
    only_made front items item
    ∙ ap (λ a. filter (begins_with front) items ++ cond (begins_with (text_in (argument 0 a)) item) (item ∷ []) []) (sym h.argument)
one_more numbers items item f h on =
    numbered_one 0 items item
    ∙ ap (λ n. numbered_from 0 items ++ numbered n item ∷ [])
    (ap pos (omega (arith, numbered_length 0 items)) ∙ ap (λ n. n +ℤ pos 1) (sym h.made))

one_longer : (xs : List (List ℕ)) (x : List ℕ) → pos (length xs) +ℤ pos 1 ≡ pos (length (xs ++ x ∷ []))
one_longer xs x = ap pos (omega (arith, length-append xs (x ∷ [])))

taken_in : (s : Sieve) (items : List (List ℕ)) (item : List ℕ) (f : Filter) → HasTaken s items f
    → sifted s (items ++ item ∷ []) ≡ sifted s items ++ hands_on (rule_of s) item f
    → HasTaken s (items ++ item ∷ []) (takes_in (rule_of s) item f)
taken_in s items item f h makes = go ((rule_of s).passes f item) makes
  where
    got : f.got +ℤ pos 1 ≡ pos (length (items ++ item ∷ []))
    got = ap (λ n. n +ℤ pos 1) h.got ∙ one_longer items item

    made : List ℕ
    made = (rule_of s).becomes f item

    go : (b : Bool) → sifted s (items ++ item ∷ []) ≡ sifted s items ++ cond b (made ∷ []) []
        → HasTaken s (items ++ item ∷ []) (cond b (handed_on (rule_of s) item f) (passed_over f))
    go true m = record {
      argument = h.argument;
      got = got;
      made = ap (λ n. n +ℤ pos 1) h.made ∙ one_longer (sifted s items) made ∙ ap (λ l. pos (length l)) (sym m);
    }
    go false m = record {
      argument = h.argument;
      got = got;
      made = h.made ∙ ap (λ l. pos (length l)) (sym (append_nothing (sifted s items)) ∙ sym m);
    }

pub filters_make_their_functions : FiltersMakeTheirFunctions
filters_make_their_functions s items item f h on = let makes = one_more s items item f h on in (makes, taken_in s items item f h makes)

-- ---- nothing more
take_over : (n : ℤ) (items more : List (List ℕ)) → int_le n (pos (length (take (so_many n) items))) ≡ true
    → take (so_many n) (items ++ more) ≡ take (so_many n) items
take_over (pos n) items more h =
    let all : n ≤ length (take n items) = within n (length (take n items)) h in
    take-append-le n items more (omega (arith, length-take n items))
take_over (negsuc n) items more h = refl

pub filters_end_as_their_functions : FiltersEndAsTheirFunctions
filters_end_as_their_functions (takes n) items more f h over =
    take_over n items more (ap (int_le n) (sym h.made) ∙ ap (λ a. int_le (number_in (argument 0 a)) f.made) (sym h.argument) ∙ over)
filters_end_as_their_functions (skips n) items more f h over = absurd cc
filters_end_as_their_functions (keeps front) items more f h over = absurd cc
filters_end_as_their_functions numbers items more f h over = absurd cc

-- ---- fronts
take_front : {A : Type 0} (n : ℕ) (xs ys : List A) → take n xs ++ take (n - length xs) ys ≡ take n (xs ++ ys)
take_front n [] ys =
    let all : n - zero ≡ n = omega arith in
    ap (λ l. l ++ take (n - zero) ys) (take_whole n [] (omega arith)) ∙ ap (λ k. take k ys) all
take_front zero (x ∷ xs) ys = let none : zero - suc (length xs) ≡ zero = omega arith in ap (λ k. take k ys) none
take_front (suc n) (x ∷ xs) ys =
    ap (λ l. x ∷ l) (ap (λ k. take n xs ++ take k ys) (omega arith) ∙ take_front n xs ys)

drop_front : {A : Type 0} (n : ℕ) (xs ys : List A) → drop n xs ++ drop (n - length xs) ys ≡ drop n (xs ++ ys)
drop_front n [] ys =
    let all : n - zero ≡ n = omega arith in
    ap (λ l. l ++ drop (n - zero) ys) (drop_whole n [] (omega arith)) ∙ ap (λ k. drop k ys) all
drop_front zero (x ∷ xs) ys = let none : zero - suc (length xs) ≡ zero = omega arith in ap (λ k. x ∷ (xs ++ drop k ys)) none
drop_front (suc n) (x ∷ xs) ys = ap (λ k. drop n xs ++ drop k ys) (omega arith) ∙ drop_front n xs ys

numbered_front : (before : ℕ) (xs ys : List (List ℕ))
    → numbered_from before xs ++ numbered_from (before + length xs) ys ≡ numbered_from before (xs ++ ys)
numbered_front before [] ys = ap (λ k. numbered_from k ys) (omega arith)
numbered_front before (x ∷ xs) ys =
    ap (λ l. numbered (pos (before + 1)) x ∷ l)
    (ap (λ k. numbered_from (before + 1) xs ++ numbered_from k ys) (omega arith) ∙ numbered_front (before + 1) xs ys)

sifted_front : (s : Sieve) (xs ys : List (List ℕ)) → IsFront (sifted s xs) (sifted s (xs ++ ys))
sifted_front (takes n) xs ys = (take (so_many n - length xs) ys, take_front (so_many n) xs ys)
sifted_front (skips n) xs ys = (drop (so_many n - length xs) ys, drop_front (so_many n) xs ys)
sifted_front (keeps front) xs ys = (filter (begins_with front) ys, sym (filter-append (begins_with front) xs ys))
sifted_front numbers xs ys =
    (numbered_from (length xs) ys, ap (λ k. numbered_from 0 xs ++ numbered_from k ys) (omega arith) ∙ numbered_front 0 xs ys)

front_of_sifted : (s : Sieve) (xs ys : List (List ℕ)) → IsFront xs ys → IsFront (sifted s xs) (sifted s ys)
front_of_sifted s xs ys h = let f = sifted_front s xs h.0 in (f.0, f.1 ∙ ap (sifted s) h.1)

pub pipelines_keep_fronts : PipelinesKeepFronts
pipelines_keep_fronts [] xs ys h = h
pipelines_keep_fronts (s ∷ sieves) xs ys h = pipelines_keep_fronts sieves (sifted s xs) (sifted s ys) (front_of_sifted s xs ys h)
