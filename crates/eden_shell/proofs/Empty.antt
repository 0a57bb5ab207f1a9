-- Zeros on a disk where blocks may stand keep nothing, whatever a crash leaves of them.
use Rattle.std.proofs.Common.{◌≡◌, ℕ, zero, suc, ◌-◌, Bool, true, false, ◌&&◌, List, [], ◌∷◌, length, map, subst, refl, sym}
use Rattle.std.proofs.Common.{◌∙◌, ap, arith, Some}
use Rattle.std.specs.Prelude.{slice_get}
use Rattle.std.proofs.lemmas.List.Elements.{All-head, All-tail}
use Rattle.eden_disk.specs.SimDisk.{Simulated, blank_of}
use Rattle.eden_disk.specs.Told.{Told}
use Rattle.eden_disk.proofs.Held.{only_now}
use Rattle.passive_store.specs.Seen.{DiskSeen}
use Rattle.passive_store.specs.Kept.{Kept, nothing_kept, Idle, LeavesKept, Stands}
use Rattle.block_tables.specs.Blocks.{is_block_size}
use Rattle.passive_blocks.specs.BlockLayout.{format_of, overfull_by, block_layout}
use Rattle.journal.specs.RefusedRuns.{blank_told, zeros}
use Rattle.eden_world.specs.Legal.{disk_run, disk_runs}
use Rattle.move_world.specs.Disks.{KeepsNothing}
use Rattle.shell_answers.specs.Answers.{seen_before}
use Rattle.twin_world.specs.Commands as twin_commands
use Rattle.twin_world.specs.Disks as twins
use Rattle.eden_shell.specs.Blank.{AreBlank, AreOfBlocks, BlankDisksKeepNothing, BlankDisksKeepNoTexts, BlankDisksCanRise, sim_seen}
use Rattle.eden_shell.proofs.Blank.{no_map, zeros_are_blank, zeros_keep_nothing, sim-zeros}
use Rattle.std.proofs.lemmas.List.{length-replicate}

and-false : (b c : Bool) → c ≡ false → b && c ≡ false
and-false true c is = is
and-false false c is = refl

zeros-fit : (size node : ℕ) → block_layout.is_overfull node (zeros size) ≡ false
zeros-fit size node = and-false (is_block_size (length (zeros size))) (overfull_by (format_of (zeros size)) node (zeros size))
    (ap (λ f. overfull_by f node (zeros size)) (zeros_are_blank size))

zeros-stand : (node size : ℕ) → is_block_size size ≡ true → Stands block_layout node 0 nothing_kept [] (zeros size)
zeros-stand node size sized =
    record { found = zeros_keep_nothing node size sized; opens = zeros-fit size node; told = omega arith }

zeros-leave : (node size : ℕ) → is_block_size size ≡ true → LeavesKept block_layout node 0 nothing_kept Idle (blank_told size)
zeros-leave node size sized image left = subst (λ (l : List ℕ). Stands block_layout node 0 nothing_kept [] l)
    (sym (only_now (zeros size) image left)) (zeros-stand node size sized)

pub zeros-empty : (node size : ℕ) (told : Told) → is_block_size size ≡ true → told ≡ blank_told size
    → KeepsNothing block_layout node told
zeros-empty node size told sized is = subst (λ (t : Told). KeepsNothing block_layout node t) (sym is)
    (record { kept = nothing_kept; more = 0; none = refl; stands = zeros-leave node size sized })

at-place : (before after : List Simulated) (k : ℕ) (d : DiskSeen) → AreBlank before → AreOfBlocks (disk_runs true sim_seen before after)
    → slice_get (map seen_before (disk_runs true sim_seen before after)) k ≡ Some d
    → (size : ℕ) × (is_block_size size ≡ true) × (d.told ≡ blank_told size)
at-place [] after k d blank sized is = absurd (cc is)
at-place (x ∷ before) [] k d blank sized is = absurd (cc is)
at-place (x ∷ before) (y ∷ after) zero d blank sized is =
    let one = All-head (λ z. (size : ℕ) × (z ≡ blank_of size)) x before blank in
    let allowed : is_block_size x.counts.size ≡ true =
    All-head (λ r. is_block_size r.first.size ≡ true) (disk_run true (sim_seen x) (sim_seen y)) (disk_runs true sim_seen before after) sized in
    let same : seen_before (disk_run true (sim_seen x) (sim_seen y)) ≡ d = cc is in (
      one.0,
      subst (λ (z : Simulated). is_block_size z.counts.size ≡ true) one.1 allowed,
      ap (λ (z : DiskSeen). z.told) (sym same) ∙ ap (λ (z : Simulated). z.told) one.1 ∙ sim-zeros one.0,
    )
at-place (x ∷ before) (y ∷ after) (suc k) d blank sized is =
    at-place before after k d (All-tail (λ z. (size : ℕ) × (z ≡ blank_of size)) x before blank)
    (All-tail (λ r. is_block_size r.first.size ≡ true) (disk_run true (sim_seen x) (sim_seen y)) (disk_runs true sim_seen before after) sized) is

pub blank-keep : BlankDisksKeepNothing
blank-keep before after blank sized n d node there =
    let r = at-place before after (n - 1) d blank sized there in zeros-empty n r.0 d.told r.1 r.2

-- the same, as a disk of a pair
twin-empty : (node size : ℕ) (told : Told) → is_block_size size ≡ true → told ≡ blank_told size
    → twins.KeepsNothing block_layout node told
twin-empty node size told sized is = subst (λ (t : Told). twins.KeepsNothing block_layout node t) (sym is)
    (record { kept = nothing_kept; none = refl; stands = zeros-leave node size sized })

pub blank-no-texts : BlankDisksKeepNoTexts
blank-no-texts before after blank sized d disk among there =
    let r = at-place before after (d - 1) disk blank sized there in twin-empty (twin_commands.node_of_disk d) r.0 disk.told r.1 r.2

pub blank-rise : BlankDisksCanRise
blank-rise [] after k few blank = tt
blank-rise (x ∷ before) [] k few blank = tt
blank-rise (x ∷ before) (y ∷ after) k few blank =
    let one = All-head (λ z. (size : ℕ) × (z ≡ blank_of size)) x before blank in
    let none : x.counts.faults ≡ 0 = ap (λ (z : Simulated). z.counts.faults) one.1 in (
      omega (arith, none, few),
      blank-rise before after k few (All-tail (λ z. (size : ℕ) × (z ≡ blank_of size)) x before blank),
    )

-- an image of zeros keeps nothing, if it has a map
pub zeros-no-texts : twins.ZerosKeepNothing block_layout
zeros-no-texts node size kept there = go (is_block_size size) refl
  where
    go : (b : Bool) → is_block_size size ≡ b → kept.bodies ≡ nothing_kept.bodies
    go true sized = let same : nothing_kept ≡ kept = cc (sym (zeros_keep_nothing node size sized) ∙ there) in
        sym (ap (λ (k : Kept). k.bodies) same)
    go false unsized = absurd (cc (sym (no_map node (zeros size)
        (ap (λ n. is_block_size n) (length-replicate {A = ℕ} size 0) ∙ unsized)) ∙ there))
