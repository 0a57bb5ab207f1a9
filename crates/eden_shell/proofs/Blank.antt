-- Zeros on a disk where blocks may stand: nothing is kept there, and the room is told for more changes than a run makes. So they are handed
-- in as they have to be.
use Rattle.std.proofs.Common.{◌≡◌, ℕ, zero, suc, ◌-◌, ◌/◌, ◌≤◌, ◌<◌, Bool, true, false, ◌&&◌, not, List, [], ◌∷◌, length}
use Rattle.std.proofs.Common.{replicate, is_some, IsTrue, subst, refl, sym, ◌∙◌, ap, arith}
use Rattle.std.specs.Prelude.{if◌then◌else◌, find, sum_by, nat_le, slice_index, slice_get, slice_index_or, ◌^◌, Ok, Err, Some}
use Rattle.std.specs.List.{All}
use Rattle.std.specs.Option.{option_map}
use Rattle.std.proofs.lemmas.List.Elements.{All-head, All-tail}
use Rattle.std.proofs.lemmas.Bool.{false≢true}
use Rattle.std.proofs.lemmas.Bool.Decides.{nat_tests}
use Rattle.std.proofs.lemmas.List.{length-replicate, get_or-replicate}
use Rattle.std.specs.FinMap as finite
use Rattle.capability.specs.declared.Uid.{Uid}
use Rattle.capability.specs.Uids.{uid_cmp}
use Rattle.eden_model.specs.Map.{value_at}
use Rattle.eden_disk.specs.SimDisk.{Simulated, blank_of, zeros as sim_zeros}
use Rattle.eden_disk.specs.Told.{Told}
use Rattle.passive_store.specs.Seen.{DiskSeen}
use Rattle.passive_store.specs.Kept.{nothing_kept}
use Rattle.block_tables.specs.Blocks.{numbers, is_block_size, data_count, blocks_of, greatest}
use Rattle.block_tables.specs.Changes.{is_taken}
use Rattle.passive_blocks.specs.BlockLayout.{Blank, format_of, map_by, block_map, overfull_by, heads_by, changes_left, block_changes}
use Rattle.passive_blocks.specs.BlockLayout.{blocks_left, block_layout}
use Rattle.journal.specs.Opening.{IsFitFor, entries_of, found_in, most_changes}
use Rattle.journal.specs.LegalRun.{IsHandedInFor}
use Rattle.journal.specs.RefusedRuns.{blank_told, zeros}
use Rattle.journal.specs.Standing.{DiskRun}
use Rattle.eden_world.proofs.DiskPairs.{paired}
use Rattle.eden_shell.specs.Blank.{AreBlank, BlankDisksAreHandedIn, BlankDisksMayBeHandedIn, BlankDisksMayBeHandedInForMany, sim_seen}

-- 1. What is kept where nothing was written

none_of_none : {X : Type 0} (xs : List X) → length xs ≡ 0 → xs ≡ []
none_of_none [] e = refl
none_of_none (x ∷ xs) e = absurd (omega (arith, e))

no_entries : finite.entries nothing_kept.bodies ≡ []
no_entries =
    none_of_none (finite.entries nothing_kept.bodies) (sym (finite.len-entries nothing_kept.bodies) ∙ finite.len-empty uid_cmp (List ℕ))

zero_at : (n k : ℕ) → slice_index (replicate n 0) k ≡ 0
zero_at zero k = refl
zero_at (suc n) zero = refl
zero_at (suc n) (suc k) = zero_at n k

pub zeros_are_blank : (size : ℕ) → format_of (replicate size 0) ≡ Blank
zeros_are_blank size = rw (zero_at size 1, zero_at size 0) refl

blank_keeps : (node : ℕ) (image : List ℕ) → is_block_size (length image) ≡ true → format_of image ≡ Blank
    → block_map node image ≡ Ok nothing_kept
blank_keeps node image sized blank =
    ap (λ b. if b then map_by (format_of image) node image else Err 0) sized ∙ ap (λ f. map_by f node image) blank

zeros_sized : (size : ℕ) → is_block_size size ≡ true → is_block_size (length (replicate {A = ℕ} size 0)) ≡ true
zeros_sized size sized = ap (λ n. is_block_size n) (length-replicate {A = ℕ} size 0) ∙ sized

pub zeros_keep_nothing : (node size : ℕ) → is_block_size size ≡ true → block_map node (replicate size 0) ≡ Ok nothing_kept
zeros_keep_nothing node size sized = blank_keeps node (replicate size 0) (zeros_sized size sized) (zeros_are_blank size)

-- 2. The room of such a disk

large : (size : ℕ) → is_block_size size ≡ true → 32768 ≤ size
large size sized = grind (arith, nat_tests, sized)

a_head_is_free : (count : ℕ) → 1 ≤ count → is_some (find (λ number. not (is_taken [] number)) (numbers 0 count)) ≡ true
unfolding numbers
a_head_is_free zero some = absurd (omega (arith, some))
a_head_is_free (suc n) some = refl

a_block_is_left : (size : ℕ) → 32768 ≤ size → nat_le 1 (blocks_left size nothing_kept.bodies) ≡ true
a_block_is_left size least = ap (λ es. nat_le 1 (data_count size - sum_by (λ e. blocks_of (length e.1)) es)) no_entries ∙ within size least
  where
    within : (size : ℕ) → 32768 ≤ size → nat_le 1 (data_count size - 0) ≡ true
    within size least = grind (arith, nat_tests, least)

told_where : (free left : Bool) (most greatest : ℕ) → free ≡ true → left ≡ true
    → (if free && left then most - greatest else 0) ≡ most - greatest
told_where true true most greatest f l = refl
told_where true false most greatest f l = absurd (false≢true l)
told_where false left most greatest f l = absurd (false≢true f)

room_left : (size : ℕ) → 32768 ≤ size → changes_left size [] (Ok nothing_kept) ≡ 9223372036854775808
unfolding greatest
room_left size least = told_where _ _ (2 ^ 63) 0 (a_head_is_free (size / 1024) (omega (arith, least))) (a_block_is_left size least)

blank_room : (node : ℕ) (image : List ℕ) → is_block_size (length image) ≡ true → format_of image ≡ Blank
    → block_changes node image ≡ 9223372036854775808
blank_room node image sized blank =
    ap (λ f. if overfull_by f node image then 2 ^ 63
    else changes_left (length image) (heads_by f node image) (block_map node image)) blank
    ∙ ap (λ m. changes_left (length image) [] m) (blank_keeps node image sized blank)
    ∙ room_left (length image) (large (length image) sized)

zeros_have_room : (node size : ℕ) → is_block_size size ≡ true → block_changes node (replicate size 0) ≡ 9223372036854775808
zeros_have_room node size sized = blank_room node (replicate size 0) (zeros_sized size sized) (zeros_are_blank size)

-- 3. Its bytes

small_bytes : (size : ℕ) → All (λ byte. byte < 256) (replicate size 0)
small_bytes size k d there =
    let zero_there : slice_index_or (replicate size 0) k d ≡ 0 = get_or-replicate {A = ℕ} size k 0 d
    (omega (arith, there, length-replicate {A = ℕ} size 0)) in
    omega (arith, zero_there)

-- 4. As a run takes it for granted

blank_found : (n size : ℕ) → is_block_size size ≡ true → found_in block_layout n (zeros size) ≡ Ok []
blank_found n size sized = ap entries_of (zeros_keep_nothing n size sized) ∙ ap Ok no_entries

fit_allowed : (n size more : ℕ) → more ≤ 9223372036854775808 → is_block_size size ≡ true → IsFitFor block_layout n more (zeros size)
fit_allowed n size more few sized = record {
  epochs = λ kept found u there. absurd (nothing_there kept u (cc (sym (blank_found n size sized) ∙ found)) there);
  room_is_told = λ kept found opens. omega (arith, few, zeros_have_room n size sized);
}
  where
    nothing_there : (kept : List (Uid × List ℕ)) (u : Uid) → [] ≡ kept → IsTrue (is_some (value_at uid_cmp u kept)) → ⊥
    nothing_there kept u none there = absurd (cc (ap (λ es. is_some (value_at uid_cmp u es)) none ∙ there))

-- an image of a size that is not allowed has no map, so there is nothing to be said of it
pub no_map : (node : ℕ) (image : List ℕ) → is_block_size (length image) ≡ false → block_map node image ≡ Err 0
no_map node image unsized = ap (λ b. if b then map_by (format_of image) node image else Err 0) unsized

fit_other : (n size more : ℕ) → is_block_size size ≡ false → IsFitFor block_layout n more (zeros size)
fit_other n size more unsized =
    let none : block_map n (zeros size) ≡ Err 0 =
    no_map n (zeros size) (ap (λ k. is_block_size k) (length-replicate {A = ℕ} size 0) ∙ unsized) in
    record {
      epochs = λ kept found u there. absurd (cc (sym (ap entries_of none) ∙ found));
      room_is_told = λ kept found opens. absurd (cc (sym none ∙ found));
    }

fit_blank : (n size more : ℕ) → more ≤ 9223372036854775808 → IsFitFor block_layout n more (zeros size)
fit_blank n size more few = by_size (is_block_size size) refl
  where
    by_size : (b : Bool) → is_block_size size ≡ b → IsFitFor block_layout n more (zeros size)
    by_size true sized = fit_allowed n size more few sized
    by_size false unsized = fit_other n size more unsized

pub blank_for_many : BlankDisksMayBeHandedInForMany
blank_for_many n size more d few before = subst (λ (told : Told). IsHandedInFor block_layout n more (record d { before = told }))
    (sym before)
    (record { nothing_unsynced = refl; same = refl; bytes = small_bytes size; fit = fit_blank n size more few })

pub blank_disks : BlankDisksMayBeHandedIn
blank_disks n size d before = blank_for_many n size most_changes d (omega arith) before

-- 5. In memory

pub sim-zeros : (size : ℕ) → (blank_of size).told ≡ blank_told size
unfolding sim_zeros
sim-zeros size = refl

at-place : (before : List Simulated) (k : ℕ) (d : DiskSeen) → AreBlank before → option_map sim_seen (slice_get before k) ≡ Some d
    → (size : ℕ) × (d.told ≡ blank_told size)
at-place [] k d blank is = absurd (cc is)
at-place (x ∷ before) zero d blank is =
    let one = All-head (λ y. (size : ℕ) × (y ≡ blank_of size)) x before blank in
    let same : sim_seen x ≡ d = cc is in
    (one.0, ap (λ (y : DiskSeen). y.told) (sym same) ∙ ap (λ (y : Simulated). y.told) one.1 ∙ sim-zeros one.0)
at-place (x ∷ before) (suc k) d blank is = at-place before k d (All-tail (λ y. (size : ℕ) × (y ≡ blank_of size)) x before blank) is

pub blank_in_memory : BlankDisksAreHandedIn
blank_in_memory before after more few blank n d there =
    let r = paired true sim_seen before after 1 n d there in
    let zeros = at-place before r.index r.old blank r.was in
    blank_for_many n zeros.0 more d few (ap (λ (z : DiskRun). z.before) r.run ∙ zeros.1)
