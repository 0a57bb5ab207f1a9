-- The room goes on being told behind the first sync of a job.
use Rattle.std.specs.Prelude.{◌≡◌, ◌⊎◌, ℕ, ◌+◌, ◌≤◌, ◌<◌, true, length}
use Rattle.std.specs.Prelude.{Some, Ok}
use Rattle.std.proofs.Common.{refl, sym, ap, subst, ◌∙◌, inl, inr, arith, set}
use Rattle.std.proofs.lemmas.Bool.{false≢true}
use Rattle.std.proofs.lemmas.List.{length-set}
use Rattle.eden_disk.specs.Told.{Contents}
use Rattle.eden_disk.specs.Calls.{Counts}
use Rattle.passive_store.specs.Kept.{Kept, kept_after}
use Rattle.passive_blocks.specs.StageState.{TellsBehind}
use Rattle.block_tables.specs.declared.table.Table.{Table}
use Rattle.passive_blocks.specs.declared.block_store.Pending.{Pending}
use Rattle.passive_blocks.specs.declared.block_store.Stage.{Stage}
use Rattle.passive_blocks.specs.declared.block_store.Stage.TheVariants.{Close, Write as WritePart, Head as WriteHead, SyncHead, Open}
use Rattle.passive_blocks.specs.declared.block_store.Stage.TheVariants.{SyncOpen}
use Rattle.passive_blocks.specs.declared.block_store.Stage.TheVariants.{Ended}
use Rattle.block_tables.specs.Members.{is_member}
use Rattle.block_tables.specs.Blocks.{kept_in_blocks, blocks_map, is_block_size, blocks_of, data_count}
use Rattle.block_tables.specs.TableState.{spare}
use Rattle.passive_blocks.specs.BlockLayout.{block_changes, changes_left}
use Rattle.block_tables.specs.HeadState.{heads_in, slot_at, is_open, closed_slot}
use Rattle.passive_blocks.specs.HeldState.{IsHeld}
use Rattle.passive_blocks.specs.StoreState.{change_of, kept_or_none}
use Rattle.passive_blocks.specs.StageState.{IsStageOn, IsStaged, IsTelling, FreeBeside, NoneCloses}
use Rattle.passive_blocks.specs.StageState.{TellsBehindSync, IsNext, is_going}
use Rattle.passive_blocks.specs.StageState.{first_closed}
use Rattle.block_tables.proofs.Slots.{slot_same}
use Rattle.passive_blocks.proofs.HeldTold.{told_behind}
use Rattle.passive_blocks.proofs.StageImages.{changes_is}
use Rattle.passive_blocks.proofs.StageFirst.{first_closed_is}
use Rattle.passive_blocks.proofs.StageStands.{early_stands}
use Rattle.passive_blocks.proofs.StageGoes.{early_known}

free_now : (t : Table) (p : Pending) → NoneCloses t → FreeBeside t p ⊎ ((k : ℕ) × (is_member t.heads.closing k ≡ true)) → FreeBeside t p
free_now t p none (inl free) = free
free_now t p none (inr closing) = absurd (false≢true (sym (none closing.0) ∙ closing.1))

-- At the first sync it is told of what is seen, with the change and without it.
pub sync_told : (node size more : ℕ) (counts : Counts) (t : Table) (p : Pending) (c : Contents) (stage : Stage) → IsHeld size counts t
    (Some p)
    → IsStaged t p stage → IsStageOn node more t p c true stage → IsTelling node more t p
    → (1 ≤ more → TellsBehind node (kept_or_none (kept_in_blocks c.now (Ok (heads_in t.heads.slots.items)))) p.head.uid)
    → TellsBehindSync node more t p c stage
sync_told node size more counts t p c Close held staged on telling first = tt
sync_told node size more counts t p c (WritePart block from) held staged on telling first = tt
sync_told node size more counts t p c WriteHead held staged on telling first = tt
sync_told node size more counts t p c SyncHead held staged on telling first =
    let kept : Kept = kept_or_none (kept_in_blocks c.now (Ok (heads_in t.heads.slots.items))) in
    let is = early_known node more t p c on.0 in
    let table = (on.1 refl).0 in
    let sized : is_block_size (length c.now) ≡ true = ap is_block_size table.long ∙ held.table.blocks.sized in
    let now : more ≤ block_changes node c.now = (early_stands node size more counts t p c kept c.now held on.0 is on.0.fits.now).told in
    let map_is : blocks_map node c.now ≡ Ok kept = ap (kept_in_blocks c.now) table.heads ∙ is in
    let enough : more ≤ changes_left (length c.now) (heads_in t.heads.slots.items) (Ok kept) =
    subst (λ n. more ≤ n) (changes_is node c.now (heads_in t.heads.slots.items) kept sized table.format table.heads map_is) now in
    let long : length c.now ≡ size = table.long ∙ held.same in
    record {
      now = now;
      behind = λ then_kept then_is.
          let same : kept ≡ then_kept = ap kept_or_none then_is in
          subst (λ k. more ≤ changes_left (length c.now) (heads_in (set t.heads.slots.items p.head.number p.head))
          (Ok (kept_after (change_of p) k))) same
          (subst (λ n. more ≤ changes_left n (heads_in (set t.heads.slots.items p.head.number p.head))
          (Ok (kept_after (change_of p) kept))) (sym long)
          (told_behind node size more counts t p c.now kept held long table.chains is
          (subst (λ n. more ≤ changes_left n (heads_in t.heads.slots.items) (Ok kept)) long enough)
          telling.sequence first telling.own telling.eject
          (λ value. subst (λ n. t.blocks.needed + (blocks_of p.head.size + spare p.head.uid) ≤ data_count n) held.same (telling.room value))
          (free_now t p staged telling.free)));
    }
sync_told node size more counts t p c Open held staged on telling first = tt
sync_told node size more counts t p c SyncOpen held staged on telling first = tt
sync_told node size more counts t p c (Ended gate synced) held staged on telling first = tt

same_telling : (node more : ℕ) (t new_table : Table) (p : Pending) → new_table ≡ t → IsTelling node more t p → IsTelling node more new_table
    p
same_telling node more t new_table p same telling = subst (λ v. IsTelling node more v p) (sym same) telling

-- And so it does through each call of the job: a head that was closed is free.
pub next_telling : (node size more : ℕ) (counts : Counts) (t new_table : Table) (p : Pending) (stage s : Stage) → IsHeld size counts t
    (Some p)
    → IsStaged t p stage → is_going stage ≡ true → IsNext t new_table p stage (Some s) → IsTelling node more t p → IsTelling node more
    new_table p
next_telling node size more counts t new_table p Close s held staged going next telling =
    let n : ℕ = first_closed t in
    let first = first_closed_is t staged.0 staged.1 in
    let may = held.closing n first.1 in
    record {
      sequence = telling.sequence;
      own = telling.own;
      eject = telling.eject;
      room = λ value. subst (λ v. v.needed + (blocks_of p.head.size + spare p.head.uid) ≤ data_count v.size) (sym next.0.blocks)
          (telling.room value);
      free = inl (
        n,
        subst (λ v. n < length v) (sym next.0.items) (omega (arith, may.on, length-set t.heads.slots.items n closed_slot)),
        ap (λ v. is_open (slot_at v n)) next.0.items ∙ ap is_open (slot_same t.heads.slots.items n closed_slot may.on),
        λ same. false≢true (sym held.planned.shut ∙ ap (λ i. is_open (slot_at t.heads.slots.items i)) (sym same) ∙ may.opened),
      );
    }
next_telling node size more counts t new_table p (WritePart block from) s held staged going next telling = same_telling node more t
    new_table p next.1 telling
next_telling node size more counts t new_table p WriteHead s held staged going next telling = same_telling node more t new_table p next.1
    telling
next_telling node size more counts t new_table p SyncHead s held staged going next telling = same_telling node more t new_table p next.1
    telling
next_telling node size more counts t new_table p Open s held staged going next telling = same_telling node more t new_table p next.1 telling
next_telling node size more counts t new_table p SyncOpen s held staged going next telling = same_telling node more t new_table p next.1
    telling
next_telling node size more counts t new_table p (Ended gate synced) s held staged going next telling = absurd (false≢true going)

pub telling_alike : (node more : ℕ) (t : Table) (p : Pending) (stage : Stage) (made : ℕ) → IsTelling node more t p
    → IsTelling node more t (record p { stage = stage; made = made })
telling_alike node more t p stage made telling = record {
  sequence = telling.sequence;
  own = telling.own;
  eject = telling.eject;
  room = telling.room;
  free = telling.free;
}
