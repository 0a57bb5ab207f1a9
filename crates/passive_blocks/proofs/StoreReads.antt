-- A read of a store, at whatever stage its job is: what holds behind it, and what a crash in it leaves.
use Rattle.std.specs.Prelude.{◌≡◌, ◌⊎◌, ℕ, zero, suc, ◌≤◌, Bool, true, false, IsTrue, IfSome, List, [], ◌∷◌, length, map, Option, None}
use Rattle.std.specs.Prelude.{Some, Ok}
use Rattle.std.proofs.Common.{refl, sym, ap, subst, ◌∙◌, inl, inr, arith}
use Rattle.std.proofs.lemmas.Bool.{false≢true}
use Rattle.eden_disk.specs.Told.{Contents, Told, Left, at_rest, contents, LeavesOnly, EachMoment}
use Rattle.eden_disk.specs.Calls.{End, Fine, AtFault, AtStop, ReadTold, power_after}
use Rattle.eden_disk.specs.Held.{Holds}
use Rattle.eden_disk.proofs.Held.{only_now, passes_read, holds_at_rest, moments_weaker}
use Rattle.passive_store.specs.Acts.{DiskCall}
use Rattle.passive_store.specs.Kept.{Kept, StoreChange, Stands, IsFresh, Busy, changes_in, doubt_in}
use Rattle.passive_store.specs.Seen.{DiskSeen}
use Rattle.passive_blocks.specs.StageState.{TellsBehind}
use Rattle.block_tables.specs.declared.table.Table.{Table}
use Rattle.passive_blocks.specs.declared.block_store.Pending.{Pending}
use Rattle.passive_blocks.specs.declared.block_store.Stage.{Stage}
use Rattle.passive_blocks.specs.declared.block_store.Stage.TheVariants.{Close, Write as WritePart, Head as WriteHead, SyncHead, Open}
use Rattle.passive_blocks.specs.declared.block_store.Stage.TheVariants.{SyncOpen}
use Rattle.passive_blocks.specs.declared.block_store.Stage.TheVariants.{Ended}
use Rattle.block_tables.specs.Blocks.{kept_in_blocks, is_block_size}
use Rattle.passive_blocks.specs.BlockLayout.{block_layout}
use Rattle.passive_blocks.specs.Fits.{Fits}
use Rattle.block_tables.specs.HeadState.{heads_in}
use Rattle.passive_blocks.specs.HeldState.{IsHeld}
use Rattle.passive_blocks.specs.KeptState.{HasChains}
use Rattle.passive_blocks.specs.StoreState.{chain_in, change_of, kept_or_none, pending_work, work_at, calls_at}
use Rattle.passive_blocks.specs.StageState.{IsStore, IsOnDisk, IsStageOn, IsEarly, IsLate, IsWaiting, MayOpen}
use Rattle.passive_blocks.proofs.HeldMaking.{held_by_counts}
use Rattle.passive_blocks.proofs.KeptLooks.{shown_found}
use Rattle.passive_blocks.proofs.StageCalls.{EarlyImages, early_after}
use Rattle.passive_blocks.proofs.StageGoes.{kept_seen, spelled_here, early_known, late_known}
use Rattle.passive_blocks.proofs.StageImages.{blocks_map_is, fits_chains, never_overfull}
use Rattle.passive_blocks.proofs.StageLate.{late_kept, late_chains}
use Rattle.passive_blocks.proofs.StageOpens.{late_ready}
use Rattle.passive_blocks.proofs.StageSeen.{keeping_begun}
use Rattle.passive_blocks.proofs.StageSettling.{late_waits, settle_reads}
use Rattle.passive_blocks.proofs.StageStands.{early_stands, early_kept, late_all_stand, stands_with}

-- of a disk with nothing unsynced a read that stopped it changes nothing
rest_read : (old new : Told) (clock : ℕ) → contents old ≡ at_rest (contents old).now → ReadTold clock old new AtStop
    → contents new ≡ contents old
rest_read old new clock rest (inl cut) =
    let same : cut.0 ≡ (contents old).now = only_now (contents old).now cut.0 (subst (λ d. Left d cut.0) rest cut.1) in
    ap contents cut.2 ∙ ap at_rest same ∙ sym rest
rest_read old new clock rest (inr same) = ap contents same.1

-- The images that a crash may leave: each stands for what is kept, and keeps what is seen to be kept.
pub record Images (node more : ℕ) (t : Table) (kept : Kept) (changes : List StoreChange) (c : Contents) : Type 1 where
  pub among : List ℕ → Type 0
  pub holds : Holds among c
  pub stand : (image : List ℕ) → among image → Stands block_layout node more kept changes image
  pub keep : (image : List ℕ) → among image → kept_in_blocks image (Ok (heads_in t.heads.slots.items)) ≡ Ok kept

early_images : (node size more : ℕ) (t : Table) (p : Pending) (told : Told) (cs : List StoreChange) (s : DiskSeen) → IsHeld size s.counts t
    (Some p)
    → IsEarly node more t p (contents told) → (cs ≡ []) ⊎ (cs ≡ change_of p ∷ []) → Images node more t (kept_seen told t) cs (contents told)
early_images node size more t p told cs s held e (inl none) =
    let is = early_known node more t p (contents told) e in
    record {
      among = EarlyImages node more t p (contents told) e;
      holds = e.fits;
      stand = λ image fit. subst (λ ds. Stands block_layout node more (kept_seen told t) ds image) (sym none)
          (early_stands node size more s.counts t p (contents told) (kept_seen told t) image held e is fit);
      keep = λ image fit. early_kept node more t p (contents told) image e fit
          ∙ sym (early_kept node more t p (contents told) (contents told).now e e.fits.now) ∙ is;
    }
early_images node size more t p told cs s held e (inr some) =
    let is = early_known node more t p (contents told) e in
    record {
      among = EarlyImages node more t p (contents told) e;
      holds = e.fits;
      stand = λ image fit. subst (λ ds. Stands block_layout node more (kept_seen told t) ds image) (sym some)
          (stands_with node more (kept_seen told t) (change_of p) image
          (early_stands node size more s.counts t p (contents told) (kept_seen told t) image held e is fit));
      keep = λ image fit. early_kept node more t p (contents told) image e fit
          ∙ sym (early_kept node more t p (contents told) (contents told).now e e.fits.now) ∙ is;
    }

late_images : (node size more : ℕ) (t : Table) (p : Pending) (told : Told) (cs : List StoreChange) (s : DiskSeen) → IsHeld size s.counts t
    (Some p)
    → IsWaiting node size t p → IsFresh (change_of p) (kept_seen told t)
    → IsLate node more t p (contents told) → cs ≡ change_of p ∷ [] → Images node more t (kept_seen told t) cs (contents told)
late_images node size more t p told cs s held waits fresh l some =
    let is = late_known node size more s.counts t p (contents told) held waits l in
    let spelled = spelled_here node size s.counts t p held waits in
    let w = late_waits node size more s.counts t p (contents told) held spelled l in
    record {
      among = Fits (MayOpen l.ready p.head.number) (length l.ready);
      holds = l.fits;
      stand = λ image fit. subst (λ ds. Stands block_layout node more (kept_seen told t) ds image) (sym some)
          (late_all_stand node size more s.counts t p (contents told) (kept_seen told t) image held spelled l is fresh fit);
      keep = λ image fit. late_kept node size s.counts l.ready image t p w fit
          ∙ sym (late_kept node size s.counts l.ready (contents told).now t p w l.fits.now) ∙ is;
    }

doubt_either : (c : StoreChange) (made : ℕ) (left : List DiskCall)
    → (changes_in (doubt_in (Busy c made left)) ≡ []) ⊎ (changes_in (doubt_in (Busy c made left)) ≡ c ∷ [])
doubt_either c zero left = inl refl
doubt_either c (suc made) left = inr refl

doubt_some : (c : StoreChange) (made : ℕ) (left : List DiskCall) → 1 ≤ made → changes_in (doubt_in (Busy c made left)) ≡ c ∷ []
doubt_some c zero left some = absurd (let bad : ⊥ = omega (arith, some) in bad)
doubt_some c (suc made) left some = refl

stage_images : (node size more : ℕ) (t : Table) (p : Pending) (told : Told) (s : DiskSeen) (power : Bool) (stage : Stage)
    → IsHeld size s.counts t (Some p) → IsWaiting node size t p → IsFresh (change_of p) (kept_seen told t)
    → (stage ≡ Open → 1 ≤ p.made) → (stage ≡ SyncOpen → 1 ≤ p.made) → IsStageOn node more t p (contents told) power stage
    → Images node more t (kept_seen told t) (changes_in (doubt_in (work_at t p stage))) (contents told)
stage_images node size more t p told s power Close held waits fresh a b on =
    early_images node size more t p told (changes_in (doubt_in (work_at t p Close))) s held on.0
    (doubt_either (change_of p) p.made (calls_at t p Close))
stage_images node size more t p told s power (WritePart block from) held waits fresh a b on =
    early_images node size more t p told (changes_in (doubt_in (work_at t p (WritePart block from)))) s held on.0
    (doubt_either (change_of p) p.made (calls_at t p (WritePart block from)))
stage_images node size more t p told s power WriteHead held waits fresh a b on =
    early_images node size more t p told (changes_in (doubt_in (work_at t p WriteHead))) s held on.0
    (doubt_either (change_of p) p.made (calls_at t p WriteHead))
stage_images node size more t p told s power SyncHead held waits fresh a b on =
    early_images node size more t p told (changes_in (doubt_in (work_at t p SyncHead))) s held on.0
    (doubt_either (change_of p) p.made (calls_at t p SyncHead))
stage_images node size more t p told s power Open held waits fresh a b on =
    late_images node size more t p told (changes_in (doubt_in (work_at t p Open))) s held waits fresh
    (record { ready = (contents told).now; is = on.1; told = on.2; fits = late_ready node more t p (contents told) on })
    (doubt_some (change_of p) p.made (calls_at t p Open) (a refl))
stage_images node size more t p told s power SyncOpen held waits fresh a b on =
    late_images node size more t p told (changes_in (doubt_in (work_at t p SyncOpen))) s held waits fresh on.0
    (doubt_some (change_of p) p.made (calls_at t p SyncOpen) (b refl))
stage_images node size more t p told s power (Ended gate synced) held waits fresh a b (inl early, rest) =
    early_images node size more t p told (changes_in (doubt_in (work_at t p (Ended gate synced)))) s held early.0 (inr refl)
stage_images node size more t p told s power (Ended gate synced) held waits fresh a b (inr late, rest) =
    late_images node size more t p told (changes_in (doubt_in (work_at t p (Ended gate synced)))) s held waits fresh late.0 refl

idle_images : (node more : ℕ) (t : Table) (told : Told) (power : Bool) → is_block_size t.blocks.size ≡ true
    → IsOnDisk node more t None (contents told) power → Images node more t (kept_seen told t) [] (contents told)
idle_images node more t told power sized on =
    let now = (contents told).now in
    let is = shown_found now t on.1.chains in
    let stands : Stands block_layout node more (kept_seen told t) [] now = record {
      found = blocks_map_is node now (ap is_block_size on.1.long ∙ sized) on.1.format ∙ ap (kept_in_blocks now) on.1.heads ∙ is;
      opens = never_overfull node now on.1.format;
      told = on.2;
    } in
    record {
      among = λ image. image ≡ now;
      holds = subst (Holds (λ image. image ≡ now)) (sym on.0) (holds_at_rest (λ image. image ≡ now) now refl);
      stand = λ image same. subst (Stands block_layout node more (kept_seen told t) []) (sym same) stands;
      keep = λ image same. subst (λ i. kept_in_blocks i (Ok (heads_in t.heads.slots.items)) ≡ Ok (kept_seen told t)) (sym same) is;
    }

pub store_images : (tells : Bool) (node size more : ℕ) (s : DiskSeen) (t : Table) (q : Option Pending)
    → IsStore tells node size more s.counts s.told t q → IsTrue tells
    → Images node more t (kept_seen s.told t) (changes_in (doubt_in (pending_work t q))) (contents s.told)
store_images tells node size more s t None store telling =
    idle_images node more t s.told s.counts.power store.held.table.blocks.sized (store.on telling)
store_images tells node size more s t (Some p) store telling =
    stage_images node size more t p s.told s s.counts.power p.stage store.held store.staged (store.fresh telling) store.staged.later.0
    store.staged.later.1 (store.on telling)

-- The image that is seen is as long as the disk, and the chains on it are those of memory.
early_seen : (node more : ℕ) (t : Table) (p : Pending) (c : Contents) → IsEarly node more t p c
    → (length c.now ≡ t.blocks.size) × HasChains c.now t
early_seen node more t p c e =
    let same = keeping_begun node e.began e.heads t e.begun in (
      e.fits.now.long ∙ e.begun.long,
      fits_chains e.began c.now e.heads (heads_in t.heads.slots.items) e.fits.now same ∙ e.begun.chains
          ∙ ap (map (chain_in t.blocks.next.items)) (sym same),
    )

late_seen : (node size more : ℕ) (t : Table) (p : Pending) (c : Contents) (s : DiskSeen) → IsHeld size s.counts t (Some p)
    → IsWaiting node size t p → IsLate node more t p c → (length c.now ≡ t.blocks.size) × HasChains c.now t
late_seen node size more t p c s held waits l = (
  l.fits.now.long ∙ l.is.table.long,
  late_chains node size s.counts l.ready c.now t p
      (late_waits node size more s.counts t p c held (spelled_here node size s.counts t p held waits) l) l.fits.now,
)

stage_seen : (node size more : ℕ) (t : Table) (p : Pending) (c : Contents) (s : DiskSeen) (power : Bool) (stage : Stage)
    → IsHeld size s.counts t (Some p) → IsWaiting node size t p → IsStageOn node more t p c power stage
    → (length c.now ≡ t.blocks.size) × HasChains c.now t
stage_seen node size more t p c s power Close held waits on = early_seen node more t p c on.0
stage_seen node size more t p c s power (WritePart block from) held waits on = early_seen node more t p c on.0
stage_seen node size more t p c s power WriteHead held waits on = early_seen node more t p c on.0
stage_seen node size more t p c s power SyncHead held waits on = early_seen node more t p c on.0
stage_seen node size more t p c s power Open held waits on = (on.1.table.long, on.1.table.chains)
stage_seen node size more t p c s power SyncOpen held waits on = late_seen node size more t p c s held waits on.0
stage_seen node size more t p c s power (Ended gate synced) held waits (inl early, rest) = early_seen node more t p c early.0
stage_seen node size more t p c s power (Ended gate synced) held waits (inr late, rest) = late_seen node size more t p c s held waits late.0

pub store_seen : (tells : Bool) (node size more : ℕ) (s : DiskSeen) (t : Table) (q : Option Pending)
    → IsStore tells node size more s.counts s.told t q → IsTrue tells
    → (length (contents s.told).now ≡ t.blocks.size) × HasChains (contents s.told).now t
store_seen tells node size more s t None store telling = ((store.on telling).1.long, (store.on telling).1.chains)
store_seen tells node size more s t (Some p) store telling =
    stage_seen node size more t p (contents s.told) s s.counts.power p.stage store.held store.staged (store.on telling)

pub store_chains : (tells : Bool) (node size more : ℕ) (s : DiskSeen) (t : Table) (q : Option Pending)
    → IsStore tells node size more s.counts s.told t q → IsTrue tells → HasChains (contents s.told).now t
store_chains tells node size more s t q store telling = (store_seen tells node size more s t q store telling).1

pub store_long : (tells : Bool) (node size more : ℕ) (s : DiskSeen) (t : Table) (q : Option Pending)
    → IsStore tells node size more s.counts s.told t q → IsTrue tells → length (contents s.told).now ≡ s.counts.size
store_long tells node size more s t q store telling =
    (store_seen tells node size more s t q store telling).0 ∙ store.held.same ∙ sym store.held.sized

-- no time passes
pub store_stands : (tells : Bool) (node size more : ℕ) (s : DiskSeen) (t : Table) (q : Option Pending)
    → IsStore tells node size more s.counts s.told t q → IsTrue tells
    → LeavesOnly (Stands block_layout node more (kept_seen s.told t) (changes_in (doubt_in (pending_work t q)))) (contents s.told)
store_stands tells node size more s t q store telling =
    let i = store_images tells node size more s t q store telling in
    λ image left. i.stand image (i.holds.left image left)

pub store_still : (tells : Bool) (node size more : ℕ) (s : DiskSeen) (t : Table) (q : Option Pending)
    → IsStore tells node size more s.counts s.told t q → IsTrue tells
    → EachMoment (Stands block_layout node more (kept_seen s.told t) (changes_in (doubt_in (pending_work t q)))) s.told s.told
store_still tells node size more s t q store telling =
    record { acts = []; image = refl; since = refl; leaves = store_stands tells node size more s t q store telling }

-- What is kept stays through a read, and so does what a crash leaves.
pub read_kept : (tells : Bool) (node size more : ℕ) (old new : DiskSeen) (t : Table) (q : Option Pending) (end : End)
    → IsStore tells node size more old.counts old.told t q → (IsTrue tells → ReadTold new.counts.clock old.told new.told end) → IsTrue tells
    → kept_seen new.told t ≡ kept_seen old.told t
read_kept tells node size more old new t q end store told telling =
    let i = store_images tells node size more old t q store telling in
    ap kept_or_none (i.keep (contents new.told).now
    (passes_read i.among new.counts.clock old.told new.told end i.holds (told telling)).after.now)

pub read_moments : (tells : Bool) (node size more : ℕ) (old new : DiskSeen) (t : Table) (q : Option Pending) (end : End)
    → IsStore tells node size more old.counts old.told t q → (IsTrue tells → ReadTold new.counts.clock old.told new.told end) → IsTrue tells
    → EachMoment (Stands block_layout node more (kept_seen old.told t) (changes_in (doubt_in (pending_work t q)))) old.told new.told
read_moments tells node size more old new t q end store told telling =
    let i = store_images tells node size more old t q store telling in
    moments_weaker i.among (Stands block_layout node more (kept_seen old.told t) (changes_in (doubt_in (pending_work t q)))) old.told
    new.told i.stand
    (passes_read i.among new.counts.clock old.told new.told end i.holds (told telling)).moments

stopped_on : (node more : ℕ) (t : Table) (p : Pending) (clock : ℕ) (old new : Told) (stage : Stage)
    → IsStageOn node more t p (contents old) true stage → ReadTold clock old new AtStop → IsStageOn node more t p (contents new) false stage
stopped_on node more t p clock old new Close on told = (
  early_after node more t p old new on.0
      (passes_read (EarlyImages node more t p (contents old) on.0) clock old new AtStop on.0.fits told),
  λ power. absurd (false≢true power),
)
stopped_on node more t p clock old new (WritePart block from) on told = (
  early_after node more t p old new on.0
      (passes_read (EarlyImages node more t p (contents old) on.0) clock old new AtStop on.0.fits told),
  λ power. absurd (false≢true power),
)
stopped_on node more t p clock old new WriteHead on told = (
  early_after node more t p old new on.0
      (passes_read (EarlyImages node more t p (contents old) on.0) clock old new AtStop on.0.fits told),
  λ power. absurd (false≢true power),
)
stopped_on node more t p clock old new SyncHead on told = (
  early_after node more t p old new on.0
      (passes_read (EarlyImages node more t p (contents old) on.0) clock old new AtStop on.0.fits told),
  λ power. absurd (false≢true power),
)
stopped_on node more t p clock old new Open on told =
    subst (λ c. IsStageOn node more t p c false Open) (sym (rest_read old new clock on.0 told)) on
stopped_on node more t p clock old new SyncOpen on told = (
  record {
    ready = on.0.ready;
    is = on.0.is;
    told = on.0.told;
    fits = (passes_read (Fits (MayOpen on.0.ready p.head.number) (length on.0.ready)) clock old new AtStop on.0.fits told).after;
  },
  λ power. absurd (false≢true power),
)
stopped_on node more t p clock old new (Ended gate synced) on told = (
  settle_reads node more t p gate clock old new AtStop on.0 told,
  λ is. subst (λ c. c ≡ at_rest c.now) (sym (rest_read old new clock (on.1 is) told)) (on.1 is),
)

read_on : (node more : ℕ) (t : Table) (q : Option Pending) (clock : ℕ) (old new : Told) (end : End)
    → IsOnDisk node more t q (contents old) true → ReadTold clock old new end → IsOnDisk node more t q (contents new) (power_after end)
read_on node more t q clock old new Fine on told = subst (λ v. IsOnDisk node more t q (contents v) true) (sym told) on
read_on node more t q clock old new AtFault on told = subst (λ v. IsOnDisk node more t q (contents v) true) (sym told) on
read_on node more t None clock old new AtStop on told =
    subst (λ c. IsOnDisk node more t None c false) (sym (rest_read old new clock on.0 told)) on
read_on node more t (Some p) clock old new AtStop on told = stopped_on node more t p clock old new p.stage on told

-- what holds of a store holds behind a read
pub read_store : (tells : Bool) (node size more : ℕ) (old new : DiskSeen) (t : Table) (q : Option Pending) (end : End)
    → IsStore tells node size more old.counts old.told t q → old.counts.power ≡ true → new.counts.size ≡ old.counts.size
    → new.counts.power ≡ power_after end → (IsTrue tells → ReadTold new.counts.clock old.told new.told end)
    → IsStore tells node size more new.counts new.told t q
read_store tells node size more old new t q end store was sized power told = record {
  held = held_by_counts size old.counts new.counts t q store.held sized;
  staged = store.staged;
  on = λ telling. subst (λ w. IsOnDisk node more t q (contents new.told) w) (sym power)
      (read_on node more t q new.counts.clock old.told new.told end
      (subst (λ w. IsOnDisk node more t q (contents old.told) w) was (store.on telling)) (told telling));
  fresh = λ telling. subst (λ k. IfSome q (λ (p : Pending). IsFresh (change_of p) k))
      (sym (read_kept tells node size more old new t q end store told telling)) (store.fresh telling);
  telling = store.telling;
  first = λ telling. subst (λ k. IfSome q (λ (p : Pending). 1 ≤ more → TellsBehind node k p.head.uid))
      (sym (read_kept tells node size more old new t q end store told telling)) (store.first telling);
}
