-- How the walk over a log goes on.
use Rattle.std.proofs.Common.{◌≡◌, ℕ, ◌+◌, ◌≤◌, false, List, [], ◌∷◌, ◌++◌, length, refl, sym, ap, ◌∙◌, arith, append_assoc}
use Rattle.std.proofs.Common.{length-append, Result, Option, Ok, Err, add-zero, append-nil}
use Rattle.std.specs.Prelude.{◌==◌, if◌then◌else◌, nat_lt, slice_index}
use Rattle.std.proofs.lemmas.Bool.Decides.{nat_tests}
use Rattle.capability.specs.declared.Uid.{Uid}
use Rattle.passive_store.specs.Kept.{StoreChange, Kept, kept_after, nothing_kept}
use Rattle.passive_store.specs.Kept.{kept_from, kept_by}
use Rattle.passive_store.specs.Log.{records_behind, records_of, with_record, with_records, record_of, is_record, length_of, SpellsRecord}
use Rattle.passive_store.specs.Log.{IsFront, log_grows, log_map}

pub passed_over : (node place : ℕ) (bytes rest : List ℕ)
    → records_behind node (length bytes) place (bytes ++ rest) ≡ records_behind node 0 (place + length bytes) rest
unfolding records_behind
passed_over node place [] rest = ap (λ p. records_behind node 0 p rest) (sym (add-zero place))
passed_over node place (b ∷ bytes) rest = passed_over node (place + 1) bytes rest ∙ ap (λ p. records_behind node 0 p rest) (omega arith)

pub closed : (node place gate : ℕ) (rest : List ℕ) → (gate == 225) ≡ false → records_behind node 0 place (gate ∷ rest) ≡ Ok []
unfolding records_behind
closed node place gate rest shut = rw shut refl

pub opened_gate : (node place : ℕ) (bytes : List ℕ)
    → records_behind node 0 place (225 ∷ bytes)
    ≡ (if is_record node bytes then with_record (record_of place bytes)
    (records_behind node (14 + length_of bytes) (place + 1) bytes) else Err place)
unfolding records_behind
opened_gate node place bytes = refl

pub opened : (node place : ℕ) (bytes : List ℕ) (uid : Uid) (body : Option (List ℕ)) (gate : ℕ) (rest : List ℕ)
    → SpellsRecord node bytes uid body →
    records_behind node 0 place (225 ∷ (bytes ++ gate ∷ rest)) ≡ with_record
    (record { uid = uid; body = body; mark = place; wrote = log_grows body })
    (records_behind node 0 (place + 1 + length bytes) (gate ∷ rest))
opened node place bytes uid body gate rest s =
    let bs : List ℕ = bytes ++ gate ∷ rest in
    opened_gate node place bs
    ∙ ap (λ b. if b then with_record (record_of place bs) (records_behind node (14 + length_of bs) (place + 1) bs) else Err place)
    (s.whole gate rest)
    ∙ ap (λ r. with_record r (records_behind node (14 + length_of bs) (place + 1) bs)) (s.reads place gate rest)
    ∙ ap (λ n. with_record (record { uid = uid; body = body; mark = place; wrote = log_grows body })
    (records_behind node n (place + 1) bs)) (s.size gate rest)
    ∙ ap (with_record (record { uid = uid; body = body; mark = place; wrote = log_grows body }))
    (passed_over node (place + 1) bytes (gate ∷ rest))

one_more_record : (rs : List StoreChange) (r : StoreChange) (found : Result (List StoreChange) ℕ)
    → with_records rs (with_record r found) ≡ with_records (rs ++ r ∷ []) found
one_more_record rs r (Ok ts) = ap (λ l. Ok l) (sym (append_assoc rs (r ∷ []) ts))
one_more_record rs r (Err place) = refl

-- a front with one more record
pub front_more : (node : ℕ) (front bytes : List ℕ) (rs : List StoreChange) (uid : Uid) (body : Option (List ℕ)) → IsFront node front rs
    → SpellsRecord node bytes uid body →
    IsFront node (front ++ 225 ∷ bytes) (rs ++ record { uid = uid; body = body; mark = length front; wrote = log_grows body } ∷ [])
front_more node front bytes rs uid body f s gate rest =
    ap (records_of node) (append_assoc front (225 ∷ bytes) (gate ∷ rest))
    ∙ f 225 (bytes ++ gate ∷ rest)
    ∙ ap (with_records rs) (opened node (length front) bytes uid body gate rest s)
    ∙ one_more_record rs (record { uid = uid; body = body; mark = length front; wrote = log_grows body })
    (records_behind node 0 (length front + 1 + length bytes) (gate ∷ rest))
    ∙ ap (λ n. with_records (rs ++ record { uid = uid; body = body; mark = length front; wrote = log_grows body } ∷ [])
    (records_behind node 0 n (gate ∷ rest))) (omega (arith, length-append front (225 ∷ bytes)))

-- a front with a closed gate behind it
pub front_closed : (node gate : ℕ) (front rest : List ℕ) (rs : List StoreChange) → IsFront node front rs → (gate == 225) ≡ false
    → records_of node (front ++ gate ∷ rest) ≡ Ok rs
front_closed node gate front rest rs f shut =
    f gate rest ∙ ap (with_records rs) (closed node (length front) gate rest shut) ∙ ap (λ l. Ok l) (append-nil rs)

pub kept_from_more : (kept : Kept) (rs : List StoreChange) (r : StoreChange)
    → kept_from kept (rs ++ r ∷ []) ≡ kept_after r (kept_from kept rs)
kept_from_more kept [] r = refl
kept_from_more kept (s ∷ rs) r = kept_from_more (kept_after s kept) rs r

not_below : (n m : ℕ) → m ≤ n → nat_lt n m ≡ false
not_below n m h = grind (arith, nat_tests)

pub long_enough : (node : ℕ) (image : List ℕ) → 17 ≤ length image
    → log_map node image ≡ (if slice_index image 0 == 237 then kept_by (records_of node image) else Ok nothing_kept)
long_enough node image long = ap (λ b. if b then Err 0 else
    (if slice_index image 0 == 237 then kept_by (records_of node image) else Ok nothing_kept)) (not_below (length image) 17 long)

-- the map of an image on which a log stands
pub log_stands_there : (node : ℕ) (image : List ℕ) → 17 ≤ length image → slice_index image 0 ≡ 237
    → log_map node image ≡ kept_by (records_of node image)
log_stands_there node image long header = long_enough node image long ∙ ap
    (λ g. if g == 237 then kept_by (records_of node image) else Ok nothing_kept) header
