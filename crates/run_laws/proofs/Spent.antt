-- Where the last sequence is used, the room is told for no change, and a boot finds none.
use Rattle.std.proofs.Common.{◌≡◌, ◌≢◌, ◌≤◌, ◌∙◌, ◌^◌, ◌-◌, ◌==◌, ◌&&◌, ℕ, Bool, true, false, not, List, Option, Some, None, Result, Ok, Err}
use Rattle.std.proofs.Common.{refl, sym, ap, arith, length}
use Rattle.std.specs.Prelude.{if◌then◌else◌}
use Rattle.std.specs.FinMap as finite
use Rattle.capability.specs.declared.Uid.{Uid}
use Rattle.passive_store.specs.Kept.{Kept}
use Rattle.passive_store.specs.declared.store.Pick.{Pick}
use Rattle.block_tables.specs.Blocks.{Head, greatest, is_block_size}
use Rattle.passive_blocks.specs.BlockLayout.{block_layout, block_map, block_changes, map_by, overfull_by, format_of, heads_by, changes_left}
use Rattle.journal.specs.declared.event.BootEnd.{BootEnd}
use Rattle.journal.specs.declared.event.BootEnd.TheVariants.{Up, DiskFault, Stop, Damaged, EpochsSpent, Full}
use Rattle.journal.specs.World.{Site, on_node}
use Rattle.journal.specs.Opening.{node_from, found_in, entries_of, ledger_of, has_epoch_first, is_untold}
use Rattle.journal.specs.Settling.{settled}
use Rattle.journal.specs.Boots.{BootsSo, epoch_fits}
use Rattle.run_laws.specs.Spent.{IsSpentImage, SpentDisksAreFull}

-- 1. No change is told

none-of : (most g : ℕ) → most ≤ g → most - g ≡ 0
none-of most g h = omega (arith, h)

either-none : (b : Bool) (m : ℕ) → m ≡ 0 → (if b then m else 0) ≡ 0
either-none true m is = is
either-none false m is = refl

none-left : (size : ℕ) (heads : List Head) (r : Result Kept ℕ) (kept : Kept) → r ≡ Ok kept → 2 ^ 63 ≤ greatest heads
    → changes_left size heads r ≡ 0
none-left size heads (Ok k) kept is last = either-none _ (2 ^ 63 - greatest heads) (none-of (2 ^ 63) (greatest heads) last)
none-left size heads (Err place) kept is last = absurd (cc is)

-- an image that has a map is of a size that is allowed
sized : (b : Bool) (r : Result Kept ℕ) (kept : Kept) → (if b then r else Err 0) ≡ Ok kept → b ≡ true
sized true r kept is = refl
sized false r kept is = absurd (cc is)

not-overfull : (b full : Bool) → b ≡ true → (b && full) ≡ false → full ≡ false
not-overfull true full is h = h
not-overfull false full is h = absurd (cc is)

none-told : (n : ℕ) (image : List ℕ) → IsSpentImage n image → block_changes n image ≡ 0
none-told n image h =
    let small : overfull_by (format_of image) n image ≡ false =
    not-overfull (is_block_size (length image)) (overfull_by (format_of image) n image)
    (sized (is_block_size (length image)) (map_by (format_of image) n image) h.kept h.map) h.opens in
    ap (λ b. if b then 2 ^ 63 else changes_left (length image) (heads_by (format_of image) n image) (block_map n image)) small
    ∙ none-left (length image) (heads_by (format_of image) n image) (block_map n image) h.kept h.map h.last

pub is-untold : (n : ℕ) (image : List ℕ) → IsSpentImage n image → is_untold block_layout n image ≡ true
is-untold n image h =
    ap (λ m. (m == 0) && (not (block_layout.is_overfull n image) && has_epoch_first n (found_in block_layout n image))) (none-told n image h)
    ∙ ap (λ b. not b && has_epoch_first n (found_in block_layout n image)) h.opens
    ∙ h.epoch

-- 2. No boot brings it up

not-both : (a b : Bool) → b ≡ true → (a && not b) ≡ true → ⊥
not-both true true is h = cc h
not-both false true is h = cc h
not-both a false is h = cc is

settled-untold : (p : Option Pick) (s : Site) → (settled p s).node.untold ≡ s.node.untold
unfolding on_node
settled-untold None s = refl
settled-untold (Some k) s = refl

undamaged : (n size : ℕ) (r : Result (List (Uid × List ℕ)) ℕ) (found : List (Uid × List ℕ)) (overfull untold : Bool) (ledger : List ℕ)
    → r ≡ Ok found → (node_from n size r overfull untold ledger).damaged ≡ None
undamaged n size (Ok kept) found overfull untold ledger is = refl
undamaged n size (Err place) found overfull untold ledger is = absurd (cc is)

told-of : (n size : ℕ) (r : Result (List (Uid × List ℕ)) ℕ) (overfull untold : Bool) (ledger : List ℕ)
    → (node_from n size r overfull untold ledger).untold ≡ untold
told-of n size (Ok kept) overfull untold ledger = refl
told-of n size (Err place) overfull untold ledger = refl

pub spent-is-full : SpentDisksAreFull
spent-is-full n image h s at e how p began boots failed stopped spent = go how boots.boots failed stopped spent
  where
    untold : s.node.untold ≡ true
    untold = at.untold
        ∙ told-of n (length image) (found_in block_layout n image) (block_layout.is_overfull n image) (is_untold block_layout n image)
        (ledger_of (block_layout.map_of n image))
        ∙ is-untold n image h

    whole : s.node.damaged ≡ None
    whole = at.damaged
        ∙ undamaged n (length image) (found_in block_layout n image) (finite.entries h.kept.bodies) (block_layout.is_overfull n image)
        (is_untold block_layout n image) (ledger_of (block_layout.map_of n image)) (ap entries_of h.map)

    go : (how : BootEnd) → BootsSo s e how p began → how ≢ DiskFault → how ≢ Stop → how ≢ EpochsSpent → how ≡ Full
    go Up b f t l = absurd (not-both (epoch_fits (settled p s) e) (settled p s).node.untold (settled-untold p s ∙ untold) b.has_room)
    go DiskFault b f t l = absurd (f refl)
    go Stop b f t l = absurd (t refl)
    go (Damaged place) b f t l = absurd (let bad : Some place ≡ None = sym b.at_place ∙ whole in cc bad)
    go EpochsSpent b f t l = absurd (l refl)
    go Full b f t l = refl
