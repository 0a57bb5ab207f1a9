-- What holds of a store holds behind each call of a job.
use Rattle.std.specs.Prelude.{◌≡◌, ◌⊎◌, ℕ, ◌+◌, ◌*◌, ◌≤◌, ◌<◌, min, if◌then◌else◌, Bool, true, false, IsTrue}
use Rattle.std.specs.Prelude.{[], length}
use Rattle.std.specs.Prelude.{Option, None, Some, Ok, Err, slice_index}
use Rattle.std.proofs.Common.{refl, sym, ap, subst, ◌∙◌, inl, inr, arith, eq-eqb}
use Rattle.std.proofs.lemmas.Bool.{false≢true, cases_lt, ne_eqb}
use Rattle.std.proofs.lemmas.Bool.Decides.{nat_tests}
use Rattle.eden_disk.specs.Told.{Contents, Told, at_rest, contents, LeavesOnly}
use Rattle.eden_disk.specs.Calls.{Counts, End, Fine, SyncTold, power_after}
use Rattle.passive_store.specs.Acts.{CallTold}
use Rattle.passive_store.specs.declared.store.Progress.{Progress}
use Rattle.passive_store.specs.declared.store.StoreRefusal.{StoreRefusal}
use Rattle.passive_store.specs.Kept.{Stands, IsFresh, IsDiskRefusal, end_of_store, kept_after}
use Rattle.passive_store.specs.Seen.{DiskSeen}
use Rattle.block_tables.specs.declared.table.Table.{Table}
use Rattle.passive_blocks.specs.declared.block_store.Pending.{Pending}
use Rattle.passive_blocks.specs.declared.block_store.Stage.{Stage}
use Rattle.passive_blocks.specs.declared.block_store.Stage.TheVariants.{Close, Write as WritePart, Head as WriteHead, SyncHead, Open}
use Rattle.passive_blocks.specs.declared.block_store.Stage.TheVariants.{SyncOpen}
use Rattle.passive_blocks.specs.declared.block_store.Stage.TheVariants.{Ended}
use Rattle.block_tables.specs.Members.{is_member}
use Rattle.block_tables.specs.Blocks.{keeping, kept_in_blocks, is_block_size, is_data, has, blocks_of}
use Rattle.block_tables.specs.BlockState.{walk}
use Rattle.passive_blocks.specs.BlockLayout.{block_layout, block_changes}
use Rattle.block_tables.specs.HeadState.{heads_in, slot_at, entry_at}
use Rattle.passive_blocks.specs.HeldState.{IsHeld, IsPlanned, behind_walk}
use Rattle.passive_blocks.specs.StoreState.{IsTableOf, IsImageOf, change_of, kept_or_none}
use Rattle.passive_blocks.specs.StageState.{IsStageOn, IsStaged, IsRefusedAt, IsNext, IsStore, IsPartNext}
use Rattle.passive_blocks.specs.StageState.{NoneCloses}
use Rattle.passive_blocks.specs.StageState.{stage_call, first_closed, gate_of, is_going, behind_part}
use Rattle.passive_blocks.specs.StageState.{TellsBehind}
use Rattle.passive_blocks.proofs.StageTold.{sync_told, next_telling, telling_alike}
use Rattle.passive_blocks.proofs.HeldMaking.{held_at_stage}
use Rattle.passive_blocks.proofs.StageLate.{slots_with, walk_has}
use Rattle.passive_blocks.proofs.StageOrder.{behind_more}
use Rattle.passive_blocks.proofs.StageFirst.{first_closed_is, stage_split}
use Rattle.passive_blocks.proofs.StageAdvance.{advance_made, advance_refused, stage_first}
use Rattle.passive_blocks.proofs.StageRecords.{at_stage, stage_alike, calls_alike, next_going}
use Rattle.passive_blocks.proofs.StageKeeps.{same_keepers, last_keeps}
use Rattle.passive_blocks.proofs.StageOpens.{step_made}
use Rattle.passive_blocks.proofs.StageStands.{late_all_stand, idle_stands}
use Rattle.passive_blocks.proofs.HeldKeepers.{keeping_when_closed}
use Rattle.passive_blocks.proofs.StageAdvances.{OneCall}
use Rattle.passive_blocks.proofs.StageGoes.{Before, kept_seen, kept_still, first_there, spelled_here, stage_known}

-- the gate in doubt is that of the change or of a head that is closed next
gate_staged : (t : Table) (p : Pending) (stage : Stage) → IsStaged t p stage → is_going stage ≡ true
    → (gate_of t p stage ≡ p.head.number) ⊎ (is_member t.heads.closing (gate_of t p stage) ≡ true)
gate_staged t p Close staged going = inr (first_closed_is t staged.0 staged.1).1
gate_staged t p (WritePart block from) staged going = inl refl
gate_staged t p WriteHead staged going = inl refl
gate_staged t p SyncHead staged going = inl refl
gate_staged t p Open staged going = inl refl
gate_staged t p SyncOpen staged going = inl refl
gate_staged t p (Ended gate synced) staged going = absurd (false≢true going)

-- A refused call ends the job in doubt.
pub store_refused : (tells obeys : Bool) (node size more : ℕ) (old new : DiskSeen) (t : Table) (p : Pending) (gate : ℕ) (e : StoreRefusal)
    → Before tells node size more old new t p → IsDiskRefusal e → IsHeld size new.counts t (Some p)
    → OneCall tells obeys (stage_call t p p.stage) (end_of_store {T = Progress} (Err e)) old new
    → (end_of_store {T = Progress} (Err e) ≡ Fine → ⊥) → gate ≡ gate_of t p p.stage
    → IsStore tells node size more new.counts new.told t (Some (at_stage p (Ended gate false) (p.made + 1)))
store_refused tells obeys node size more old new t p gate e b refusal held one refused at =
    let end : End = end_of_store {T = Progress} (Err e) in
    let q : Pending = at_stage p (Ended gate false) (p.made + 1) in
    let split = stage_split size old.counts t p p.stage b.held b.waits.staged b.going in
    let still = kept_still tells node size more old new t p end b one.told in
    record {
      held = held_at_stage size new.counts t p q held refl refl;
      staged = record {
        staged = subst (λ g. (g ≡ p.head.number) ⊎ (is_member t.heads.closing g ≡ true)) (sym at)
            (gate_staged t p p.stage b.waits.staged b.going);
        spelled = b.waits.spelled;
        short = b.waits.short;
        limit = b.waits.limit;
        few = omega (arith, b.waits.few, ap length split.1);
        later = (
          λ is. absurd (let bad : Stage.Ended gate false ≡ Open = is in cc),
          λ is. absurd
              (let bad : Stage.Ended gate false ≡ SyncOpen = is in cc),
        );
      };
      on = λ telling. stage_alike node more t p (contents new.told) new.counts.power (Ended gate false) (Ended gate false) (p.made + 1) (
        subst (λ w. IsRefusedAt node more t p (contents new.told) w gate) (sym one.counts.power)
            (subst (IsRefusedAt node more t p (contents new.told) (power_after end)) (sym at)
            (advance_refused node size more old.counts t p new.counts.clock old.told new.told p.stage end b.held b.waits.staged
            (b.on telling) b.going
            (λ close. (first_there node size t p p.stage b.waits.staged close).1) (one.told telling) refused)),
        λ synced. absurd (false≢true synced),
      );
      fresh = λ telling. subst (IsFresh (change_of p)) (sym (ap kept_or_none (still telling))) (b.fresh telling);
      telling = λ tell. telling_alike node more t p (Ended gate false) (p.made + 1) (b.telling tell);
      first = λ telling some. subst (λ k. TellsBehind node k p.head.uid) (sym (ap kept_or_none (still telling)))
          (b.first telling some);
    }

-- behind a part comes another one, or the head
part_staged : (t : Table) (p : Pending) (block from : ℕ) → IsPlanned t p → IsPartNext t p block from
    → IsStaged t p (behind_part t.blocks.next.items p.body.items block from)
part_staged t p block from plan part = elim (cases_lt (part.count + 1) (blocks_of (length p.body.items))) [
  | inl further ↦ subst (IsStaged t p)
      (sym (ap (λ c. if c then WriteHead else WritePart (slice_index t.blocks.next.items block) (min (from + 1022) (length p.body.items)))
      (ne_eqb (slice_index t.blocks.next.items block) 0 (λ none. absurd (let bad : ⊥ = omega (arith, none, some_next further) in bad)))))
      (record {
        value = part.value;
        count = part.count + 1;
        more = further;
        place = link;
        before = let e : min (from + 1022) (length p.body.items) ≡ 1022 * (part.count + 1) = omega (arith, part.before, further) in e;
        closed = part.closed;
      })
  | inr last ↦ subst (IsStaged t p)
      (sym (ap (λ c. if c then WriteHead else WritePart (slice_index t.blocks.next.items block) (min (from + 1022) (length p.body.items)))
      (eq-eqb (slice_index t.blocks.next.items block) 0
      (no_next (let e : part.count + 1 ≡ blocks_of (length p.body.items) = omega (arith, last, part.more) in e)))))
      part.closed
]
  where
    link : slice_index t.blocks.next.items block ≡ behind_walk t.blocks.next.items p.head.first (part.count + 1)
    link = ap (slice_index t.blocks.next.items) part.place ∙ sym (behind_more t.blocks.next.items p.head.first part.count)

    some_next : part.count + 1 < blocks_of (length p.body.items) → 1 ≤ slice_index t.blocks.next.items block
    some_next further =
        let there : has (slice_index t.blocks.next.items block) (walk t.blocks.next.items p.head.first (blocks_of p.head.size)) ≡ true =
        ap (λ i. has i (walk t.blocks.next.items p.head.first (blocks_of p.head.size))) link
        ∙ walk_has t.blocks.next.items p.head.first (blocks_of p.head.size) (part.count + 1)
        (subst (λ n. part.count + 1 < blocks_of n) plan.bytes further) in
        let data_block : is_data t.blocks.size (slice_index t.blocks.next.items block) ≡ true =
        plan.chain part.value (slice_index t.blocks.next.items block) there in
        grind (arith, nat_tests, data_block)

    no_next : part.count + 1 ≡ blocks_of (length p.body.items) → slice_index t.blocks.next.items block ≡ 0
    no_next all = link ∙ ap (behind_walk t.blocks.next.items p.head.first) (all ∙ ap blocks_of plan.bytes) ∙ plan.ends part.value

pub first_staged : (t : Table) (p : Pending) (b : Bool) → p.head.removal ≡ b → NoneCloses t
    → IsStaged t p (if b then WriteHead else WritePart p.head.first 0)
unfolding behind_walk
first_staged t p true removal none = none
first_staged t p false value none = record {
  value = value;
  count = 0;
  more = let e : 0 < blocks_of (length p.body.items) = omega arith in e;
  place = refl;
  before = let e : 0 ≡ 1022 * 0 = omega arith in e;
  closed = none;
}

same_table : (t new_table : Table) (p : Pending) (stage s : Stage) → s ≡ stage → new_table ≡ t → IsStaged t p stage → IsStaged new_table p s
same_table t new_table p stage s is same staged =
    subst (IsStaged new_table p) (sym is) (subst (λ v. IsStaged v p stage) (sym same) staged)

some_stage : (s q : Stage) → Option.Some s ≡ Some q → s ≡ q
some_stage s q e = cc

-- What follows a call is ready for its own.
pub next_staged : (t new_table : Table) (p : Pending) (stage s : Stage) → IsPlanned t p → IsStaged t p stage → is_going stage ≡ true
    → IsNext t new_table p stage (Some s) → IsStaged new_table p s
next_staged t new_table p Close s plan staged going next = elim next.1 [
  | inl again ↦ subst (IsStaged new_table p) (sym again.0) again.1
  | inr last ↦ subst (IsStaged new_table p) (sym last.0) (first_staged new_table p p.head.removal refl last.1)
]
next_staged t new_table p (WritePart block from) s plan staged going next =
    same_table t new_table p (behind_part t.blocks.next.items p.body.items block from) s
    (some_stage s (behind_part t.blocks.next.items p.body.items block from) next.0) next.1 (part_staged t p block from plan staged)
next_staged t new_table p WriteHead s plan staged going next = same_table t new_table p SyncHead s (some_stage s SyncHead next.0) next.1
    staged
next_staged t new_table p SyncHead s plan staged going next = same_table t new_table p Open s (some_stage s Open next.0) next.1 staged
next_staged t new_table p Open s plan staged going next = same_table t new_table p SyncOpen s (some_stage s SyncOpen next.0) next.1 staged
next_staged t new_table p SyncOpen s plan staged going next = absurd (let bad : Option.Some s ≡ None = next.0 in cc)
next_staged t new_table p (Ended gate synced) s plan staged going next = absurd (false≢true going)

staged_alike : (t : Table) (p : Pending) (stage s : Stage) (made : ℕ) → IsStaged t p s → IsStaged t (at_stage p stage made) s
staged_alike t p stage Close made staged = staged
staged_alike t p stage (WritePart block from) made staged = record {
  value = staged.value;
  count = staged.count;
  more = staged.more;
  place = staged.place;
  before = staged.before;
  closed = staged.closed;
}
staged_alike t p stage WriteHead made staged = staged
staged_alike t p stage SyncHead made staged = staged
staged_alike t p stage Open made staged = staged
staged_alike t p stage SyncOpen made staged = staged
staged_alike t p stage (Ended gate synced) made staged = staged

-- A call that is not the last leads to the next stage.
pub store_going : (tells obeys : Bool) (node size more : ℕ) (old new : DiskSeen) (t new_table : Table) (p : Pending) (s : Stage)
    → Before tells node size more old new t p → OneCall tells obeys (stage_call t p p.stage) Fine old new
    → IsHeld size new.counts new_table (Some p) → IsNext t new_table p p.stage (Some s)
    → keeping (heads_in new_table.heads.slots.items) ≡ keeping (heads_in t.heads.slots.items)
    → IsStore tells node size more new.counts new.told new_table (Some (at_stage p s (p.made + 1)))
store_going tells obeys node size more old new t new_table p s b one held next same =
    let q : Pending = at_stage p s (p.made + 1) in
    let going : is_going s ≡ true = next_going t new_table p p.stage s b.going next in
    let split = stage_first size old.counts t new_table p p.stage (Some s) b.held b.waits.staged b.going
    (first_there node size t p p.stage b.waits.staged) next in
    let still = λ (telling : IsTrue tells). same_keepers (contents new.told).now (heads_in new_table.heads.slots.items)
    (heads_in t.heads.slots.items) same
    ∙ kept_still tells node size more old new t p Fine b one.told telling in
    record {
      held = held_at_stage size new.counts new_table p q held refl refl;
      staged = record {
        staged = staged_alike new_table p s s (p.made + 1) (next_staged t new_table p p.stage s b.held.planned b.waits.staged b.going next);
        spelled = b.waits.spelled;
        short = b.waits.short;
        limit = b.waits.limit;
        few = omega (
          arith,
          b.waits.few,
          ap length split.1,
          ap length (split.2 s refl),
          ap length
              (calls_alike new_table p s s (p.made + 1)),
        );
        later = (λ is. omega arith, λ is. omega arith);
      };
      on = λ telling. subst (λ w. IsStageOn node more new_table q (contents new.told) w s) (sym one.counts.power)
          (stage_alike node more new_table p (contents new.told) true s s (p.made + 1)
          (advance_made node size more old.counts t new_table p new.counts.clock old.told new.told p.stage (Some s) b.held b.waits.staged
          (spelled_here node size old.counts t p b.held b.waits) (b.on telling) (b.tells_behind telling) b.going
          (λ close. (first_there node size t p p.stage b.waits.staged close).1) (one.told telling) next));
      fresh = λ telling. subst (IsFresh (change_of p)) (sym (ap kept_or_none (still telling))) (b.fresh telling);
      telling = λ tell. telling_alike node more new_table p s (p.made + 1)
          (next_telling node size more old.counts t new_table p p.stage s b.held b.waits.staged b.going next (b.telling tell));
      first = λ telling some. subst (λ k. TellsBehind node k p.head.uid) (sym (ap kept_or_none (still telling)))
          (b.first telling some);
    }

at_last : (node more : ℕ) (t : Table) (p : Pending) (c : Contents) → p.stage ≡ SyncOpen → IsStageOn node more t p c true p.stage
    → IsStageOn node more t p c true SyncOpen
at_last node more t p c last on = subst (IsStageOn node more t p c true) last on

told_last : (t : Table) (p : Pending) (clock : ℕ) (old new : Told) → p.stage ≡ SyncOpen → CallTold (stage_call t p p.stage) clock old new
    Fine
    → SyncTold clock old new Fine
told_last t p clock old new last told = subst (λ s. CallTold (stage_call t p s) clock old new Fine) last told

-- Behind the last call the table with the change made is that of what is seen,
pub done_on : (tells obeys : Bool) (node size more : ℕ) (old new : DiskSeen) (t made : Table) (p : Pending)
    → Before tells node size more old new t p → OneCall tells obeys (stage_call t p p.stage) Fine old new → p.stage ≡ SyncOpen
    → made.heads.slots.items ≡ slots_with t p → made.blocks.next ≡ t.blocks.next → made.blocks.size ≡ t.blocks.size
    → IsTrue tells → (contents new.told ≡ at_rest (contents new.told).now) × IsTableOf node (contents new.told).now made
    × (more ≤ block_changes node (contents new.told).now)
done_on tells obeys node size more old new t made p b one last items next sized telling =
    let on = at_last node more t p (contents old.told) last (b.on telling) in
    let told = told_last t p new.counts.clock old.told new.told last (one.told telling) in
    let spelled = spelled_here node size old.counts t p b.held b.waits in
    let image = step_made node size more old.counts t p new.counts.clock old.told new.told b.held spelled on told in
    let stands = late_all_stand node size more old.counts t p (contents old.told) (kept_seen old.told t) (contents old.told).now b.held
    spelled on.0
    (stage_known node size more old.counts t p (contents old.told) p.stage b.held b.waits (b.on telling) b.going) (b.fresh telling)
    on.0.fits.now in (
      image.0,
      subst (λ s. IsImageOf node (contents new.told).now s made.blocks.next.items made.blocks.size) (sym items)
          (subst (λ v. IsImageOf node (contents new.told).now (slots_with t p) v.items made.blocks.size) (sym next)
          (subst (λ n. IsImageOf node (contents new.told).now (slots_with t p) t.blocks.next.items n) (sym sized) image.1)),
      subst (λ t2. more ≤ block_changes node (contents t2).now) (sym told) stands.told,
    )

-- what is kept has the change,
pub done_kept : (tells obeys : Bool) (node size more : ℕ) (old new : DiskSeen) (t made : Table) (p : Pending)
    → Before tells node size more old new t p → OneCall tells obeys (stage_call t p p.stage) Fine old new → p.stage ≡ SyncOpen
    → made.heads.slots.items ≡ slots_with t p → IsTrue tells
    → kept_in_blocks (contents new.told).now (Ok (heads_in made.heads.slots.items)) ≡ Ok (kept_after (change_of p) (kept_seen old.told t))
done_kept tells obeys node size more old new t made p b one last items telling =
    ap (λ s. kept_in_blocks (contents new.told).now (Ok (heads_in s))) items
    ∙ last_keeps node size more old.counts t p new.counts.clock (kept_seen old.told t) old.told new.told b.held
    (spelled_here node size old.counts t p b.held b.waits) (at_last node more t p (contents old.told) last (b.on telling))
    (told_last t p new.counts.clock old.told new.told last (one.told telling))
    (stage_known node size more old.counts t p (contents old.told) p.stage b.held b.waits (b.on telling) b.going)

-- a crash leaves it, and what holds of a store holds.
pub done_leaves : (tells obeys : Bool) (node size more : ℕ) (old new : DiskSeen) (t made : Table) (p : Pending)
    → Before tells node size more old new t p → OneCall tells obeys (stage_call t p p.stage) Fine old new → p.stage ≡ SyncOpen
    → made.heads.slots.items ≡ slots_with t p → made.blocks.next ≡ t.blocks.next → made.blocks.size ≡ t.blocks.size
    → IsTrue tells → LeavesOnly (Stands block_layout node more (kept_seen new.told made) []) (contents new.told)
done_leaves tells obeys node size more old new t made p b one last items next sized telling =
    let on = done_on tells obeys node size more old new t made p b one last items next sized telling in
    let is = done_kept tells obeys node size more old new t made p b one last items telling in
    idle_stands node more made (contents new.told) (kept_seen new.told made) (ap is_block_size sized ∙ b.held.table.blocks.sized) on.0 on.1
    on.2
    (is ∙ ap (λ k. Ok k) (sym (ap kept_or_none is)))

pub store_done : (tells obeys : Bool) (node size more : ℕ) (old new : DiskSeen) (t made : Table) (p : Pending)
    → Before tells node size more old new t p → OneCall tells obeys (stage_call t p p.stage) Fine old new → p.stage ≡ SyncOpen
    → IsHeld size new.counts made None → ((k : ℕ) → is_member made.heads.lone k ≡ false)
    → made.heads.slots.items ≡ slots_with t p → made.blocks.next ≡ t.blocks.next → made.blocks.size ≡ t.blocks.size
    → IsStore tells node size more new.counts new.told made None
store_done tells obeys node size more old new t made p b one last held lone items next sized = record {
  held = held;
  staged = lone;
  on = done_on tells obeys node size more old new t made p b one last items next sized;
  fresh = λ telling. tt;
  telling = λ tell. tt;
  first = λ telling. tt;
}

-- What is known before a call, by what holds of the store.
pub before_call : (tells : Bool) (node size more : ℕ) (old new : DiskSeen) (t : Table) (p : Pending)
    → IsStore tells node size more old.counts old.told t (Some p) → old.counts.power ≡ true → is_going p.stage ≡ true
    → Before tells node size more old new t p
before_call tells node size more old new t p store power going = record {
  held = store.held;
  waits = store.staged;
  on = λ telling. subst (λ w. IsStageOn node more t p (contents old.told) w p.stage) power (store.on telling);
  fresh = store.fresh;
  going = going;
  telling = store.telling;
  first = store.first;
  tells_behind = λ telling. sync_told node size more old.counts t p (contents old.told) p.stage store.held store.staged.staged
      (subst (λ w. IsStageOn node more t p (contents old.told) w p.stage) power (store.on telling)) (store.telling telling)
      (store.first telling);
}

-- the table is the same through a call that closes no head, and one that does keeps what is kept
pub next_keeping : (size : ℕ) (counts : Counts) (t new_table : Table) (p : Pending) (stage : Stage) (next : Option Stage)
    → IsHeld size counts t (Some p) → IsStaged t p stage → IsNext t new_table p stage next → is_going stage ≡ true
    → keeping (heads_in new_table.heads.slots.items) ≡ keeping (heads_in t.heads.slots.items)
next_keeping size counts t new_table p Close None held staged next going = absurd next
next_keeping size counts t new_table p Close (Some s) held staged next going =
    let n : ℕ = first_closed t in
    let first = first_closed_is t staged.0 staged.1 in
    let may = held.closing n first.1 in
    let slots = t.heads.slots.items in
    let entry = entry_at t.heads.index (slot_at slots n).uid in
    ap (λ s. keeping (heads_in s)) next.0.items
    ∙ keeping_when_closed slots n entry.latest entry.others held.apart may.on may.opened (held.table.heads.entries (slot_at slots n).uid)
    may.alone may.removal
next_keeping size counts t new_table p (WritePart block from) next held staged is going
    = ap (λ (v : Table). keeping (heads_in v.heads.slots.items)) is.1
next_keeping size counts t new_table p WriteHead next held staged is going = ap (λ (v : Table). keeping (heads_in v.heads.slots.items)) is.1
next_keeping size counts t new_table p SyncHead next held staged is going = ap (λ (v : Table). keeping (heads_in v.heads.slots.items)) is.1
next_keeping size counts t new_table p Open next held staged is going = ap (λ (v : Table). keeping (heads_in v.heads.slots.items)) is.1
next_keeping size counts t new_table p SyncOpen next held staged is going = ap (λ (v : Table). keeping (heads_in v.heads.slots.items)) is.1
next_keeping size counts t new_table p (Ended gate synced) next held staged is going = absurd (false≢true going)

-- none comes behind the last stage alone, which leaves the table
pub none_is_last : (t new_table : Table) (p : Pending) (stage : Stage) → is_going stage ≡ true → IsNext t new_table p stage None
    → (stage ≡ SyncOpen) × (new_table ≡ t)
none_is_last t new_table p Close going next = absurd next
none_is_last t new_table p (WritePart block from) going next =
    absurd (let bad : None ≡ Option.Some (behind_part t.blocks.next.items p.body.items block from) = next.0 in cc)
none_is_last t new_table p WriteHead going next = absurd (let bad : None ≡ Option.Some SyncHead = next.0 in cc)
none_is_last t new_table p SyncHead going next = absurd (let bad : None ≡ Option.Some Open = next.0 in cc)
none_is_last t new_table p Open going next = absurd (let bad : None ≡ Option.Some SyncOpen = next.0 in cc)
none_is_last t new_table p SyncOpen going next = (refl, next.1)
none_is_last t new_table p (Ended gate synced) going next = absurd (false≢true going)
