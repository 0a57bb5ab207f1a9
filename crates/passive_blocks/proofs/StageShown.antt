-- What a store over blocks shows of what its memory has, at each stage of a job.
use Rattle.std.specs.Prelude.{ℕ, ◌-◌, ◌^◌, ◌<◌, ◌≤◌, Bool}
use Rattle.std.specs.Prelude.{true, false, IsTrue, List, length, map, if◌then◌else◌}
use Rattle.std.specs.Prelude.{Option, None, Some, Ok}
use Rattle.std.proofs.Common.{sym, ap, subst, ◌∙◌, inl, inr, arith}
use Rattle.std.proofs.lemmas.Bool.{cases_lt}
use Rattle.eden_disk.specs.Told.{Told, Contents, contents}
use Rattle.eden_disk.specs.Calls.{Counts}
use Rattle.passive_store.specs.Kept.{Kept}
use Rattle.block_tables.specs.declared.heads.HeadFields.{HeadFields}
use Rattle.block_tables.specs.declared.table.Table.{Table}
use Rattle.passive_blocks.specs.declared.block_store.Pending.{Pending}
use Rattle.passive_blocks.specs.declared.block_store.Stage.{Stage}
use Rattle.passive_blocks.specs.declared.block_store.Stage.TheVariants.{Close, Write as WritePart, Head as WriteHead}
use Rattle.passive_blocks.specs.declared.block_store.Stage.TheVariants.{SyncHead, Open, SyncOpen}
use Rattle.passive_blocks.specs.declared.block_store.Stage.TheVariants.{Ended}
use Rattle.block_tables.specs.Blocks.{Head, kept_in_blocks, is_block_size, greatest}
use Rattle.passive_blocks.specs.BlockLayout.{changes_left}
use Rattle.block_tables.specs.Greatest.{peak}
use Rattle.block_tables.specs.HeadState.{heads_in, slot_at, is_open}
use Rattle.block_tables.specs.TableState.{greatest_in}
use Rattle.passive_blocks.specs.HeldState.{IsHeld, IsPlanned}
use Rattle.passive_blocks.specs.KeptState.{IsShown}
use Rattle.passive_blocks.specs.StoreState.{IsTableOf, chain_in}
use Rattle.passive_blocks.specs.StageState.{IsStore, IsStageOn, IsRefusedAt, IsSpelled, IsEarly, IsLate}
use Rattle.block_tables.proofs.Greatest.{peak-at}
use Rattle.passive_blocks.proofs.HeldFacts.{sequence_at}
use Rattle.passive_blocks.proofs.HeldJob.{greatest_is}
use Rattle.passive_blocks.proofs.KeptLooks.{shown_found, own_found, own_of_some}
use Rattle.passive_blocks.proofs.StageImages.{fits_chains, changes_is}
use Rattle.passive_blocks.proofs.StageSeen.{keeping_begun}
use Rattle.passive_blocks.proofs.StageLate.{late_chains}
use Rattle.passive_blocks.proofs.StageSettling.{late_waits}
use Rattle.passive_blocks.proofs.StageGoes.{kept_seen, spelled_here}

table_shown : (node : ℕ) (image : List ℕ) (t : Table) → IsTableOf node image t → IsShown node image t
table_shown node image t is = record {
  long = is.long;
  own = own_found node image t.heads.slots.items is.heads;
  chains = is.chains;
}

early_shown : (node more : ℕ) (t : Table) (p : Pending) (c : Contents) → IsEarly node more t p c → IsShown node c.now t
early_shown node more t p c e =
    let same = keeping_begun node e.began e.heads t e.begun in
    record {
      long = e.fits.now.long ∙ e.begun.long;
      own = own_of_some node e.began e.heads (λ (h : Head). is_open (slot_at t.heads.slots.items h.number)) t.heads.slots.items
          e.begun.found
          e.begun.left;
      chains = fits_chains e.began c.now e.heads (heads_in t.heads.slots.items) e.fits.now same ∙ e.begun.chains
          ∙ ap (map (chain_in t.blocks.next.items)) (sym same);
    }

late_shown : (node size more : ℕ) (counts : Counts) (t : Table) (p : Pending) (c : Contents) → IsHeld size counts t (Some p)
    → IsSpelled node t.blocks.size p.head → IsLate node more t p c → IsShown node c.now t
late_shown node size more counts t p c held spelled l = record {
  long = l.fits.now.long ∙ l.is.table.long;
  own = own_found node l.ready t.heads.slots.items l.is.table.heads;
  chains = late_chains node size counts l.ready c.now t p (late_waits node size more counts t p c held spelled l) l.fits.now;
}

refused_shown : (node size more : ℕ) (counts : Counts) (t : Table) (p : Pending) (c : Contents) (power : Bool) (gate : ℕ)
    → IsHeld size counts t (Some p) → IsSpelled node t.blocks.size p.head → IsRefusedAt node more t p c power gate → IsShown node c.now t
refused_shown node size more counts t p c power gate held spelled (inl early) = early_shown node more t p c early.0
refused_shown node size more counts t p c power gate held spelled (inr late) = late_shown node size more counts t p c held spelled late.0

stage_shown : (node size more : ℕ) (counts : Counts) (t : Table) (p : Pending) (c : Contents) (power : Bool) (stage : Stage)
    → IsHeld size counts t (Some p) → IsSpelled node t.blocks.size p.head → IsStageOn node more t p c power stage → IsShown node c.now t
stage_shown node size more counts t p c power Close held spelled on = early_shown node more t p c on.0
stage_shown node size more counts t p c power (WritePart block from) held spelled on = early_shown node more t p c on.0
stage_shown node size more counts t p c power WriteHead held spelled on = early_shown node more t p c on.0
stage_shown node size more counts t p c power SyncHead held spelled on = early_shown node more t p c on.0
stage_shown node size more counts t p c power Open held spelled on = table_shown node c.now t on.1.table
stage_shown node size more counts t p c power SyncOpen held spelled on = late_shown node size more counts t p c held spelled on.0
stage_shown node size more counts t p c power (Ended gate synced) held spelled on =
    refused_shown node size more counts t p c power gate held spelled on.0

-- What is kept is read off what is seen, at each moment.
pub store_shown : (tells : Bool) (node size more : ℕ) (counts : Counts) (told : Told) (t : Table) (pending : Option Pending)
    → IsStore tells node size more counts told t pending → IsTrue tells → IsShown node (contents told).now t
store_shown tells node size more counts told t None store so = table_shown node (contents told).now t (store.on so).1
store_shown tells node size more counts told t (Some p) store so =
    stage_shown node size more counts t p (contents told) counts.power p.stage store.held
    (spelled_here node size counts t p store.held store.staged) (store.on so)

-- A sequence is left where the room is told.
peak_below : (slots : List HeadFields) (n : ℕ) → ((k : ℕ) → (slot_at slots k).sequence < n)
    → peak (map (λ (s : HeadFields). s.sequence) slots) < n
peak_below slots n later =
    let values : List ℕ = map (λ (s : HeadFields). s.sequence) slots in
    elim (cases_lt (peak values) n) [
      | inl less ↦ less
      | inr more ↦ absurd (let found = peak-at values (omega (arith, more, later 0)) in
          let bad : ⊥ = omega (arith, more, found.2, sequence_at slots found.0, later found.0) in bad)
    ]

room_left : (b : Bool) (m g : ℕ) → 1 ≤ m → m ≤ (if b then 2 ^ 63 - g else 0) → g < 2 ^ 63
room_left true m g some left = omega (arith, some, left)
room_left false m g some left = absurd (let bad : ⊥ = omega (arith, some, left) in bad)

changes_some : (node size m : ℕ) (heads : List Head) (kept : Kept) → 1 ≤ m → m ≤ changes_left size heads (Ok kept)
    → greatest heads < 2 ^ 63
changes_some node size m heads kept some left = room_left _ m (greatest heads) some left

pub store_sequence : (tells : Bool) (node size more : ℕ) (counts : Counts) (told : Told) (t : Table) (pending : Option Pending)
    → IsStore tells node size more counts told t pending → IsTrue tells → 1 ≤ more → greatest_in t < 2 ^ 63
store_sequence tells node size more counts told t None store so some =
    let on = store.on so in
    let heads : List Head = heads_in t.heads.slots.items in
    let kept : Kept = kept_seen told t in
    subst (λ n. n < 2 ^ 63) (greatest_is t.heads.slots.items)
    (changes_some node (length (contents told).now) more heads kept some
    (subst (λ n. more ≤ n) (changes_is node (contents told).now heads kept (ap is_block_size on.1.long ∙ store.held.table.blocks.sized)
    on.1.format on.1.heads (ap (kept_in_blocks (contents told).now) on.1.heads ∙ shown_found (contents told).now t on.1.chains)) on.2))
store_sequence tells node size more counts told t (Some p) store so some =
    let planned : IsPlanned t p = store.held.planned in
    omega (arith, some, (store.telling so).sequence, peak_below t.heads.slots.items p.head.sequence planned.later)
