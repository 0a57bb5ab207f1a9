-- A log that keeps too much to be brought over: so this layout does not open every image that has a map.
use Rattle.std.proofs.Common.{◌≡◌, ℕ, suc, zero, ◌+◌, ◌-◌, ◌*◌, ◌/◌, ◌%◌, ◌≤◌, ◌<◌, Bool, true, false, ◌&&◌, ◌==◌, List, []}
use Rattle.std.proofs.Common.{◌∷◌, ◌++◌}
use Rattle.std.proofs.Common.{length, take, replicate, eq-eqb, refl, sym, ap, ◌∙◌, arith, Option, None, Some, length-append, cond}
use Rattle.std.specs.Prelude.{slice_index, slice_range, nat_le, nat_lt, sum_by, Ok, Err, if◌then◌else◌}
use Rattle.std.specs.Int.{w32, from_be_bytes}
use Rattle.std.specs.FinMap as finite
use Rattle.std.specs.Ordering.{eq_by_cmp}
use Rattle.std.proofs.lemmas.Bool.{false≢true, and_from, le-leb, le-ltb, lt-ltb, false_from_ne_true}
use Rattle.std.proofs.lemmas.Bool.Decides.{nat_tests}
use Rattle.std.proofs.lemmas.List.{length-replicate, take-append-le, take_all}
use Rattle.std.proofs.lemmas.List.Sums.{sum_by-cons}
use Rattle.capability.specs.declared.Uid.{Uid}
use Rattle.capability.specs.Uids.{uid_cmp}
use Rattle.capability.proofs.Uids.{uid_cmp_total}
use Rattle.passive_store.specs.Kept.{StoreChange, Kept, NeverOverfull, nothing_kept, kept_after, kept_from, kept_by, bodies_after}
use Rattle.passive_store.specs.Log.{length_of, uid_of, are_fields, is_record, record_of, with_record, records_behind, records_of}
use Rattle.passive_store.specs.Log.{log_map}
use Rattle.block_tables.specs.Blocks.{is_block_size, blocks_of}
use Rattle.passive_blocks.specs.Conversion.{Moved, moved_from, blocks_moved, is_too_much}
use Rattle.passive_blocks.specs.BlockLayout.{Blocks, Staged, OldLog, Foreign, Blank, format_of, overfull_by, block_layout}
use Rattle.block_tables.proofs.Slots.{same_uids}

-- the bytes of a record behind its gate: one byte under the serial
abbrev record_bytes : ℕ → ℕ → List ℕ
record_bytes node s = 0 ∷ 0 ∷ 0 ∷ 1 ∷ node ∷ 0 ∷ 0 ∷ 0 ∷ 1 ∷ 0 ∷ 0 ∷ s / 256 ∷ s % 256 ∷ 1 ∷ 7 ∷ []

-- so many records, and what is behind them
log_of : ℕ → ℕ → List ℕ → List ℕ
log_of node zero rest = rest
log_of node (suc m) rest = 225 ∷ (record_bytes node (suc m) ++ log_of node m rest)

abbrev uid_at : ℕ → ℕ → Uid
uid_at node s = record { node = node; epoch = 1; serial = s }

-- the changes of these records
AreOf : ℕ → ℕ → List StoreChange → Type 0
AreOf node zero [] = Unit {0}
AreOf node zero (c ∷ cs) = ⊥
AreOf node (suc m) [] = ⊥
AreOf node (suc m) (c ∷ cs) = (c.uid ≡ uid_at node (suc m)) × ((body : List ℕ) × (c.body ≡ Some body)) × AreOf node m cs

fields_good : (node serial : ℕ) → 1 ≤ serial → are_fields node 1 (uid_at node serial) 1 ≡ true
fields_good node serial some = grind (arith, nat_tests)

log_long : (node m : ℕ) (rest : List ℕ) → length (log_of node m rest) ≡ 16 * m + length rest
unfolding log_of
log_long node zero rest = omega arith
log_long node (suc m) rest = omega (arith, log_long node m rest)

serial_is : (node s : ℕ) (rest : List ℕ) → s < 65536 → uid_of (record_bytes node s ++ rest) ≡ uid_at node s
serial_is node s rest small =
    let same : from_be_bytes w32 (slice_range (record_bytes node s ++ rest) 9 13) ≡ s = omega arith in
    ap (λ n. uid_at node n) same

good_record : (node s : ℕ) (rest : List ℕ) → 1 ≤ s → s < 65536 → 1 ≤ length rest → is_record node (record_bytes node s ++ rest) ≡ true
good_record node s rest some small more =
    and_from (nat_le 16 (length (record_bytes node s ++ rest))) (are_fields node 1 (uid_of (record_bytes node s ++ rest)) 1)
    (le-leb 16 (length (record_bytes node s ++ rest)) (omega (arith, more, length-append (record_bytes node s) rest)))
    (ap (λ u. are_fields node 1 u 1) (serial_is node s rest small) ∙ fields_good node s some)

-- the records are found
found_of : (node n place : ℕ) (tail : List ℕ) → n < 65536
    → (cs : List StoreChange) × (records_behind node 0 place (log_of node n (0 ∷ tail)) ≡ Ok cs) × AreOf node n cs
unfolding log_of records_behind AreOf
found_of node zero place tail small = ([], refl, tt)
found_of node (suc m) place tail small =
    let rest : List ℕ = log_of node m (0 ∷ tail) in
    let bs : List ℕ = record_bytes node (suc m) ++ rest in
    let long : 1 ≤ length rest = omega (arith, log_long node m (0 ∷ tail)) in
    let good : is_record node bs ≡ true = good_record node (suc m) rest (omega arith) small long in
    let behind = found_of node m (place + 1 + 1 + 1 + 1 + 1 + 1 + 1 + 1 + 1 + 1 + 1 + 1 + 1 + 1 + 1 + 1) tail (omega (arith, small)) in (
      record_of place bs ∷ behind.0,
      ap (λ b. if b then with_record (record_of place bs) (records_behind node (14 + length_of bs) (place + 1) bs) else Err place) good
          ∙ ap (with_record (record_of place bs)) behind.1,
      (serial_is node (suc m) rest small, (7 ∷ [], refl), behind.2),
    )

-- Each of them is kept.
many_kept : (node n : ℕ) (cs : List StoreChange) (kept : Kept) → AreOf node n cs
    → ((q : Uid) → q.serial ≤ n → finite.get kept.bodies q ≡ None)
    → finite.len kept.bodies + n ≤ finite.len (kept_from kept cs).bodies
unfolding AreOf
many_kept node zero [] kept are none = omega arith
many_kept node zero (c ∷ cs) kept are none = absurd are
many_kept node (suc m) [] kept are none = absurd are
many_kept node (suc m) (c ∷ cs) kept are none =
    let body : List ℕ = are.1.0 in
    let inserted : (kept_after c kept).bodies ≡ finite.insert kept.bodies (uid_at node (suc m)) body =
    ap (λ u. bodies_after u c.body kept.bodies) are.0 ∙ ap (λ b. bodies_after (uid_at node (suc m)) b kept.bodies) are.1.1 in
    let one : finite.len (kept_after c kept).bodies ≡ finite.len kept.bodies + 1 =
    ap finite.len inserted ∙ finite.len-insert uid_cmp_total kept.bodies (uid_at node (suc m)) body
    ∙ ap (λ o. cond (is_there o) (finite.len kept.bodies) (finite.len kept.bodies + 1)) (none (uid_at node (suc m)) (omega arith)) in
    omega (
      arith,
      one,
      many_kept node m cs (kept_after c kept) are.2 (λ q less.
          ap (λ m2. finite.get m2 q) inserted
          ∙ finite.get-insert uid_cmp_total kept.bodies (uid_at node (suc m)) body q
          ∙ ap (λ b. cond b (Some body) (finite.get kept.bodies q))
          (false_from_ne_true (eq_by_cmp uid_cmp q (uid_at node (suc m))) (λ same.
          let s : q.serial ≡ suc m = ap (λ (u : Uid). u.serial) (same_uids q (uid_at node (suc m)) same) in omega (arith, s, less)))
          ∙ none q (omega (arith, less))),
    )
  where
    is_there : Option (List ℕ) → Bool
    is_there None = false
    is_there (Some b) = true

many_moved : (number first : ℕ) (es : List (Uid × List ℕ))
    → length es ≤ sum_by (λ (m : Moved). blocks_of m.head.size) (moved_from number first es)
unfolding moved_from
many_moved number first [] = omega arith
many_moved number first (e ∷ es) = omega (
  arith,
  many_moved (number + 1) (first + blocks_of (length e.1)) es,
  sum_by-cons (λ (m : Moved). blocks_of m.head.size)
      (record {
        head = record { number = number; uid = e.0; removal = false; sequence = number + 1; size = length e.1; first = first };
        body = e.1;
      })
      (moved_from (number + 1) (first + blocks_of (length e.1)) es),
)

-- A log with many records keeps too much.
much_kept : (node n : ℕ) (tail : List ℕ) → n < 65536 → 2944 < n
    → is_too_much (log_map node (237 ∷ (replicate 15 0 ++ log_of node n (0 ∷ tail)))) ≡ true
unfolding records_behind
much_kept node n tail small many =
    let image : List ℕ = 237 ∷ (replicate 15 0 ++ log_of node n (0 ∷ tail)) in
    let found = found_of node n (0 + 1 + 1 + 1 + 1 + 1 + 1 + 1 + 1 + 1 + 1 + 1 + 1 + 1 + 1 + 1 + 1) tail small in
    let kept : Kept = kept_from nothing_kept found.0 in
    let long : nat_lt (length image) 17 ≡ false = le-ltb (length image) 17 (omega (arith, log_long node n (0 ∷ tail))) in
    let map_is : log_map node image ≡ Ok kept =
    ap (λ b. if b then Err 0 else kept_by (records_of node image)) long ∙ ap kept_by found.1 in
    let kept_many : n ≤ finite.len kept.bodies = omega (
      arith,
      many_kept node n found.0 nothing_kept found.2 (λ q less. finite.get-empty uid_cmp q),
      finite.len-empty uid_cmp (List ℕ),
    ) in
    let moved_many : n ≤ blocks_moved kept = omega (
      arith,
      kept_many,
      finite.len-entries kept.bodies,
      many_moved 0 1024 (finite.entries kept.bodies),
    ) in
    ap is_too_much map_is ∙ lt-ltb 2944 (blocks_moved kept) (omega (arith, moved_many, many))

-- an image of a disk that may be converted, whose log is too much
too_full : (node total part n : ℕ) → n < 65536 → 2944 < n → 16 * n + 17 ≤ part → part ≤ total → (image : List ℕ) × (length image ≡ total)
    × ((slice_index image 1 == 235) ≡ false) × ((slice_index image 0 == 237) ≡ true) × ((slice_index image 2 == 234) ≡ false)
    × (is_too_much (log_map node (take part image)) ≡ true)
too_full node total part n small many fits within =
    let tail : List ℕ = replicate (part - (16 * n + 17)) 0 in
    let log : List ℕ = 237 ∷ (replicate 15 0 ++ log_of node n (0 ∷ tail)) in
    let long : length log ≡ part = omega (
      arith,
      fits,
      log_long node n (0 ∷ tail),
      length-replicate {A = ℕ} (part - (16 * n + 17)) 0,
    ) in
    let behind : List ℕ = replicate (total - part) 0 in
    let front : take part (log ++ behind) ≡ log = take-append-le part log behind (omega (arith, long)) ∙ take_all part log (omega
    (arith, long)) in (
      log ++ behind,
      omega (arith, length-append log behind, long, length-replicate {A = ℕ} (total - part) 0, within),
      refl,
      refl,
      refl,
      ap (λ x. is_too_much (log_map node x)) front ∙ much_kept node n tail small many,
    )

-- There is an image that is overfull.
pub not_never : NeverOverfull block_layout → ⊥
not_never never =
    let found = too_full 1 4194304 1048576 2945 (omega arith) (omega arith) (omega arith) (omega arith) in
    false≢true (sym (never 1 found.0) ∙ overfull_is 1 found.0 found.1 found.2 found.3 found.4 found.5)
  where
    overfull_is : (node : ℕ) (image : List ℕ) → length image ≡ 4194304 → (slice_index image 1 == 235) ≡ false →
        (slice_index image 0 == 237) ≡ true
        → (slice_index image 2 == 234) ≡ false → is_too_much (log_map node (take 1048576 image)) ≡ true
        → block_layout.is_overfull node image ≡ true
    overfull_is node image long none log unstaged much =
        let f : format_of image ≡ OldLog =
        ap (λ b. if b then Blocks else (if slice_index image 0 == 237
        then (if length image == 4194304 then (if slice_index image 2 == 234 then Staged else OldLog) else Foreign) else Blank)) none
        ∙ ap (λ b. if b then (if length image == 4194304 then
        (if slice_index image 2 == 234 then Staged else OldLog) else Foreign) else Blank) log
        ∙ ap (λ b. if b then (if slice_index image 2 == 234 then Staged else OldLog) else Foreign) (eq-eqb (length image) 4194304 long)
        ∙ ap (λ b. if b then Staged else OldLog) unstaged in
        ap (λ x. is_block_size (length image) && overfull_by x node image) f
        ∙ ap (λ b. is_block_size (length image) && b) much
        ∙ ap (λ m. is_block_size m && true) long
