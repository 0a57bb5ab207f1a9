-- What holds of a store holds behind each call of a job, and what is seen of that call.
use Rattle.std.specs.Prelude.{◌≡◌, ◌⊎◌, ℕ, suc, zero, ◌+◌, ◌≤◌, Bool, true, false, IsTrue, List, [], ◌∷◌, length, map}
use Rattle.std.specs.Prelude.{Option, Some, Ok, Err}
use Rattle.std.proofs.Common.{refl, sym, ap, subst, ◌∙◌, inl, inr, arith}
use Rattle.std.proofs.lemmas.Bool.{false≢true}
use Rattle.eden_disk.specs.Told.{Contents, Told, contents, LeavesOnly, EachMoment}
use Rattle.eden_disk.specs.Calls.{Counts, End, Fine, power_after}
use Rattle.passive_store.specs.declared.store.Pick.{Pick}
use Rattle.passive_store.specs.declared.store.Progress.{Progress}
use Rattle.passive_store.specs.declared.store.Progress.TheVariants.{Going, Done}
use Rattle.passive_store.specs.declared.store.StoreRefusal.{StoreRefusal}
use Rattle.passive_store.specs.Acts.{DiskCall, CallTold}
use Rattle.passive_store.specs.Kept.{Kept, StoreChange, Idle, Busy, Unsettled, Stands, IsFresh, IsDiskRefusal, changes_in, doubt_in}
use Rattle.passive_store.specs.Kept.{end_of_store, kept_after}
use Rattle.passive_store.specs.Kept.{kept_from, nothing_kept}
use Rattle.passive_store.specs.Seen.{DiskSeen, Advances}
use Rattle.passive_blocks.specs.StageState.{TellsBehind}
use Rattle.block_tables.specs.declared.table.Table.{Table}
use Rattle.passive_blocks.specs.declared.block_store.Pending.{Pending}
use Rattle.passive_blocks.specs.declared.block_store.Stage.{Stage}
use Rattle.passive_blocks.specs.declared.block_store.Stage.TheVariants.{Close, Write as WritePart, Head as WriteHead, SyncHead, Open}
use Rattle.passive_blocks.specs.declared.block_store.Stage.TheVariants.{SyncOpen}
use Rattle.passive_blocks.specs.declared.block_store.Stage.TheVariants.{Ended}
use Rattle.block_tables.specs.Members.{IsFirstOf}
use Rattle.block_tables.specs.Blocks.{keeping, kept_in_blocks}
use Rattle.passive_blocks.specs.BlockLayout.{block_layout}
use Rattle.block_tables.specs.HeadState.{heads_in}
use Rattle.passive_blocks.specs.HeldState.{IsHeld}
use Rattle.passive_blocks.specs.StoreState.{calls_at, work_at, change_of, kept_or_none}
use Rattle.passive_blocks.specs.StageState.{IsEarly, IsLate, IsStageOn, IsStaged, IsWaiting, IsNext, IsSpelled}
use Rattle.passive_blocks.specs.StageState.{stage_call, first_closed, gate_of, is_going, IsTelling, TellsBehindSync}
use Rattle.passive_blocks.proofs.StageChains.{kept_by_chains, value_on}
use Rattle.passive_blocks.proofs.StageLate.{late_kept}
use Rattle.passive_blocks.proofs.StageSettling.{late_waits}
use Rattle.passive_blocks.proofs.StageOpens.{late_ready}
use Rattle.passive_blocks.proofs.StageStands.{early_kept, early_is_kept}
use Rattle.passive_blocks.proofs.StageFirst.{first_closed_is, stage_split}
use Rattle.passive_blocks.proofs.StageAdvance.{advance_made, advance_refused, advance_moments, stage_first}
use Rattle.passive_blocks.proofs.StageRecords.{work_going, calls_some, next_going, at_stage, calls_alike, stage_leaves}
use Rattle.passive_blocks.proofs.StageRecords.{refused_leaves}
use Rattle.passive_blocks.proofs.StageKeeps.{same_keepers, call_keeps}
use Rattle.passive_blocks.proofs.StageAdvances.{OneCall, seen_with, going_record, done_record, refused_record}

-- what is seen as kept
abbrev pub kept_seen : Told → Table → Kept
kept_seen told t = kept_or_none (kept_in_blocks (contents told).now (Ok (heads_in t.heads.slots.items)))

known : (image : List ℕ) (t : Table) (kept : Kept) → kept_in_blocks image (Ok (heads_in t.heads.slots.items)) ≡ Ok kept
    → kept_in_blocks image (Ok (heads_in t.heads.slots.items)) ≡ Ok (kept_or_none
    (kept_in_blocks image (Ok (heads_in t.heads.slots.items))))
known image t kept is = is ∙ ap (λ k. Ok k) (sym (ap kept_or_none is))

-- At each stage something is kept.
pub early_known : (node more : ℕ) (t : Table) (p : Pending) (c : Contents) → IsEarly node more t p c
    → kept_in_blocks c.now (Ok (heads_in t.heads.slots.items)) ≡ Ok (kept_or_none
    (kept_in_blocks c.now (Ok (heads_in t.heads.slots.items))))
early_known node more t p c e =
    known c.now t (kept_from nothing_kept (map (value_on e.began t.blocks.next.items) (keeping e.heads)))
    (early_kept node more t p c c.now e e.fits.now ∙ early_is_kept node more t p c e)

pub late_known : (node size more : ℕ) (counts : Counts) (t : Table) (p : Pending) (c : Contents) → IsHeld size counts t (Some p)
    → IsWaiting node size t p → IsLate node more t p c
    → kept_in_blocks c.now (Ok (heads_in t.heads.slots.items)) ≡ Ok (kept_or_none
    (kept_in_blocks c.now (Ok (heads_in t.heads.slots.items))))
late_known node size more counts t p c held waits l =
    let w = late_waits node size more counts t p c held (subst (λ n. IsSpelled node n p.head) (sym held.same) waits.spelled) l in
    known c.now t (kept_from nothing_kept (map (value_on l.ready t.blocks.next.items) (keeping (heads_in t.heads.slots.items))))
    (late_kept node size counts l.ready c.now t p w l.fits.now ∙ kept_by_chains l.ready t.blocks.next.items (heads_in t.heads.slots.items)
    l.is.table.chains)

pub stage_known : (node size more : ℕ) (counts : Counts) (t : Table) (p : Pending) (c : Contents) (stage : Stage) → IsHeld size counts t
    (Some p)
    → IsWaiting node size t p → IsStageOn node more t p c true stage → is_going stage ≡ true
    → kept_in_blocks c.now (Ok (heads_in t.heads.slots.items)) ≡ Ok (kept_or_none
    (kept_in_blocks c.now (Ok (heads_in t.heads.slots.items))))
stage_known node size more counts t p c Close held waits on going = early_known node more t p c on.0
stage_known node size more counts t p c (WritePart block from) held waits on going = early_known node more t p c on.0
stage_known node size more counts t p c WriteHead held waits on going = early_known node more t p c on.0
stage_known node size more counts t p c SyncHead held waits on going = early_known node more t p c on.0
stage_known node size more counts t p c Open held waits on going =
    late_known node size more counts t p c held waits (record {
      ready = c.now;
      is = on.1;
      told = on.2;
      fits = late_ready node more t p c on;
    })
stage_known node size more counts t p c SyncOpen held waits on going = late_known node size more counts t p c held waits on.0
stage_known node size more counts t p c (Ended gate synced) held waits on going = absurd (false≢true going)

pub spelled_here : (node size : ℕ) (counts : Counts) (t : Table) (p : Pending) → IsHeld size counts t (Some p) → IsWaiting node size t p
    → IsSpelled node t.blocks.size p.head
spelled_here node size counts t p held waits = subst (λ n. IsSpelled node n p.head) (sym held.same) waits.spelled

pub first_there : (node size : ℕ) (t : Table) (p : Pending) (stage : Stage) → IsStaged t p stage → stage ≡ Close
    → IsFirstOf t.heads.closing (Some (first_closed t))
first_there node size t p stage staged same =
    let some : IsStaged t p Close = subst (IsStaged t p) same staged in
    first_closed_is t some.0 some.1

-- which changes a crash in the call may show: none in the first
doubt_either : (c : StoreChange) (made : ℕ) (left : List DiskCall)
    → (changes_in (doubt_in (Busy c made left)) ≡ []) ⊎ (changes_in (doubt_in (Busy c made left)) ≡ c ∷ [])
doubt_either c zero left = inl refl
doubt_either c (suc made) left = inr refl

doubt_some : (c : StoreChange) (made : ℕ) (left : List DiskCall) → 1 ≤ made → changes_in (doubt_in (Busy c made left)) ≡ c ∷ []
doubt_some c zero left some = absurd (let bad : ⊥ = omega (arith, some) in bad)
doubt_some c (suc made) left some = refl

-- what is known before a call of a job
pub record Before (tells : Bool) (node size more : ℕ) (old new : DiskSeen) (t : Table) (p : Pending) : Type 0 where
  pub held : IsHeld size old.counts t (Some p)
  pub waits : IsWaiting node size t p
  pub on : IsTrue tells → IsStageOn node more t p (contents old.told) true p.stage
  pub fresh : IsTrue tells → IsFresh (change_of p) (kept_seen old.told t)
  pub going : is_going p.stage ≡ true
  pub telling : IsTrue tells → IsTelling node more t p
  pub first : IsTrue tells → 1 ≤ more → TellsBehind node (kept_seen old.told t) p.head.uid
  pub tells_behind : IsTrue tells → TellsBehindSync node more t p (contents old.told) p.stage

moments_of : (tells : Bool) (node size more : ℕ) (old new : DiskSeen) (t : Table) (p : Pending) (end : End) → Before tells node size more
    old new t p
    → (IsTrue tells → CallTold (stage_call t p p.stage) new.counts.clock old.told new.told end)
    → IsTrue tells → EachMoment (Stands block_layout node more (kept_seen old.told t) (changes_in (doubt_in (work_at t p p.stage))))
    old.told new.told
moments_of tells node size more old new t p end b told telling =
    let w = work_going t p p.stage b.going in
    subst (λ w. EachMoment (Stands block_layout node more (kept_seen old.told t) (changes_in (doubt_in w))) old.told new.told) (sym w)
    (advance_moments node size more old.counts t p new.counts.clock (kept_seen old.told t) old.told new.told p.stage end
    (changes_in (doubt_in (Busy (change_of p) p.made (calls_at t p p.stage))))
    (doubt_either (change_of p) p.made (calls_at t p p.stage)) b.held b.waits.staged (spelled_here node size old.counts t p b.held b.waits)
    (b.on telling) b.going (λ close. (first_there node size t p p.stage b.waits.staged close).1)
    (λ opens. doubt_some (change_of p) p.made (calls_at t p p.stage) (b.waits.later.0 opens))
    (λ last. doubt_some (change_of p) p.made (calls_at t p p.stage) (b.waits.later.1 last))
    (stage_known node size more old.counts t p (contents old.told) p.stage b.held b.waits (b.on telling) b.going) (b.fresh telling)
    (told telling))

-- what is kept by the table before the call
pub kept_still : (tells : Bool) (node size more : ℕ) (old new : DiskSeen) (t : Table) (p : Pending) (end : End) → Before tells node size
    more old new t p
    → (IsTrue tells → CallTold (stage_call t p p.stage) new.counts.clock old.told new.told end)
    → IsTrue tells → kept_in_blocks (contents new.told).now (Ok (heads_in t.heads.slots.items)) ≡ Ok (kept_seen old.told t)
kept_still tells node size more old new t p end b told telling =
    call_keeps node size more old.counts t p new.counts.clock (kept_seen old.told t) old.told new.told p.stage end b.held b.waits.staged
    (spelled_here node size old.counts t p b.held b.waits) (b.on telling) b.going
    (λ close. (first_there node size t p p.stage b.waits.staged close).1) (told telling)
    (stage_known node size more old.counts t p (contents old.told) p.stage b.held b.waits (b.on telling) b.going)

-- A call of the job was refused: the record of it.
pub call_refused : (tells obeys : Bool) (node size more : ℕ) (old new : DiskSeen) (t : Table) (p : Pending) (picked : Option Pick)
    (e : StoreRefusal)
    → Before tells node size more old new t p → IsDiskRefusal e → IsHeld size new.counts t (Some p)
    → OneCall tells obeys (stage_call t p p.stage) (end_of_store {T = Progress} (Err e)) old new
    → (end_of_store {T = Progress} (Err e) ≡ Fine → ⊥)
    → Advances tells obeys block_layout (Err e) (seen_with node (work_at t p p.stage) picked (kept_seen old.told t) more old)
    (seen_with node (Unsettled (change_of p) false) picked (kept_seen new.told t) more new)
call_refused tells obeys node size more old new t p picked e b refusal held one refused =
    let end : End = end_of_store {T = Progress} (Err e) in
    let rest = stage_split size old.counts t p p.stage b.held b.waits.staged b.going in
    refused_record tells obeys node more p.made (change_of p) (stage_call t p p.stage) rest.0 (work_at t p p.stage) picked
    (kept_seen old.told t) (kept_seen new.told t) old new e
    (work_going t p p.stage b.going ∙ ap (Busy (change_of p) p.made) rest.1) refusal one
    (λ telling. ap kept_or_none (kept_still tells node size more old new t p end b one.told telling))
    (λ telling. refused_leaves node size more new.counts t p (contents new.told) (power_after end) (gate_of t p p.stage)
    (kept_seen new.told t) held
    (spelled_here node size old.counts t p b.held b.waits)
    (advance_refused node size more old.counts t p new.counts.clock old.told new.told p.stage end b.held b.waits.staged (b.on telling)
    b.going
    (λ close. (first_there node size t p p.stage b.waits.staged close).1) (one.told telling) refused)
    (known (contents new.told).now t (kept_seen old.told t) (kept_still tells node size more old new t p end b one.told telling))
    (subst (IsFresh (change_of p)) (sym (ap kept_or_none (kept_still tells node size more old new t p end b one.told telling)))
    (b.fresh telling)))
    (moments_of tells node size more old new t p end b one.told)

-- The last one was made: the record of it, and the table of what is seen.
pub call_done : (tells obeys : Bool) (node size more : ℕ) (old new : DiskSeen) (t new_table : Table) (p : Pending) (picked : Option Pick)
    (then_kept : Kept)
    → Before tells node size more old new t p → OneCall tells obeys (stage_call t p p.stage) Fine old new → p.stage ≡ SyncOpen
    → (IsTrue tells → then_kept ≡ kept_after (change_of p) (kept_seen old.told t))
    → (IsTrue tells → LeavesOnly (Stands block_layout node more then_kept []) (contents new.told))
    → Advances tells obeys block_layout (Ok Done) (seen_with node (work_at t p p.stage) picked (kept_seen old.told t) more old)
    (seen_with node Idle picked then_kept more new)
call_done tells obeys node size more old new t new_table p picked then_kept b one last after stands =
    done_record tells obeys node more p.made (change_of p) (stage_call t p p.stage) (work_at t p p.stage) picked (kept_seen old.told t)
    then_kept old new
    (work_going t p p.stage b.going ∙ ap (Busy (change_of p) p.made) (ap (calls_at t p) last ∙ sym (ap (λ s. stage_call t p s ∷ []) last)))
    one after stands (moments_of tells node size more old new t p Fine b one.told)

-- One that was not the last was made: the job goes on.
pub call_made : (tells obeys : Bool) (node size more : ℕ) (old new : DiskSeen) (t new_table : Table) (p : Pending) (s : Stage)
    (picked : Option Pick)
    → Before tells node size more old new t p → OneCall tells obeys (stage_call t p p.stage) Fine old new
    → IsHeld size new.counts new_table (Some p) → IsNext t new_table p p.stage (Some s)
    → keeping (heads_in new_table.heads.slots.items) ≡ keeping (heads_in t.heads.slots.items)
    → Advances tells obeys block_layout (Ok Going) (seen_with node (work_at t p p.stage) picked (kept_seen old.told t) more old)
    (seen_with node (work_at new_table (at_stage p s (p.made + 1)) s) picked (kept_seen new.told new_table) more new)
call_made tells obeys node size more old new t new_table p s picked b one held next same =
    let going : is_going s ≡ true = next_going t new_table p p.stage s b.going next in
    let split = stage_first size old.counts t new_table p p.stage (Some s) b.held b.waits.staged b.going
    (first_there node size t p p.stage b.waits.staged) next in
    let left : split.0 ≡ calls_at new_table p s = split.2 s refl in
    let still = λ (telling : IsTrue tells). same_keepers (contents new.told).now (heads_in new_table.heads.slots.items)
    (heads_in t.heads.slots.items) same
    ∙ kept_still tells node size more old new t p Fine b one.told telling in
    going_record tells obeys node more p.made (change_of p) (stage_call t p p.stage) split.0 (work_at t p p.stage)
    (work_at new_table (at_stage p s (p.made + 1)) s) picked (kept_seen old.told t) (kept_seen new.told new_table) old new
    (work_going t p p.stage b.going ∙ ap (Busy (change_of p) p.made) split.1)
    (work_going new_table (at_stage p s (p.made + 1)) s going
    ∙ ap (Busy (change_of p) (p.made + 1)) (calls_alike new_table p s s (p.made + 1) ∙ sym left))
    (subst (λ cs. 1 ≤ length cs) (sym left) (calls_some new_table p s going)) one
    (λ telling. ap kept_or_none (still telling))
    (λ telling. stage_leaves node size more new.counts new_table p (contents new.told) true s (kept_seen new.told new_table) held
    (subst (λ n. IsSpelled node n p.head) (sym held.same) b.waits.spelled)
    (advance_made node size more old.counts t new_table p new.counts.clock old.told new.told p.stage (Some s) b.held b.waits.staged
    (spelled_here node size old.counts t p b.held b.waits) (b.on telling) (b.tells_behind telling) b.going
    (λ close. (first_there node size t p p.stage b.waits.staged close).1) (one.told telling) next)
    (known (contents new.told).now new_table (kept_seen old.told t) (still telling))
    (subst (IsFresh (change_of p)) (sym (ap kept_or_none (still telling))) (b.fresh telling)))
    (moments_of tells node size more old new t p Fine b one.told)
