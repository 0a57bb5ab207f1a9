-- An empty entry of a uid changes nothing of what holds of a store at any stage, nor of what is seen of it.
use Rattle.std.proofs.Common.{◌≡◌, ◌+◌, ◌≤◌, ℕ, Bool, false, List, length, refl, sym, ap, subst, ◌∙◌, inl, inr, Option, None, Some}
use Rattle.std.specs.Prelude.{IsSome}
use Rattle.std.specs.BTreeMap as tree
use Rattle.capability.specs.declared.Uid.{Uid}
use Rattle.capability.specs.Uids.{uid_cmp}
use Rattle.eden_disk.specs.Told.{Contents, Told, contents}
use Rattle.eden_disk.specs.Calls.{Counts}
use Rattle.passive_store.specs.declared.store.Pick.{Pick}
use Rattle.passive_store.specs.Kept.{is_busy}
use Rattle.passive_store.specs.Seen.{Seen, DiskSeen}
use Rattle.block_tables.specs.declared.table.Table.{Table}
use Rattle.passive_blocks.specs.declared.block_store.Pending.{Pending}
use Rattle.passive_blocks.specs.declared.block_store.Stage.{Stage}
use Rattle.passive_blocks.specs.declared.block_store.Stage.TheVariants.{Close, Write as WritePart, Head as WriteHead, SyncHead, Open}
use Rattle.passive_blocks.specs.declared.block_store.Stage.TheVariants.{SyncOpen, Ended}
use Rattle.block_tables.specs.Blocks.{Head}
use Rattle.block_tables.specs.HeadState.{entry_at}
use Rattle.block_tables.specs.TableState.{IsTable}
use Rattle.passive_blocks.specs.StoreState.{calls_at, work_at, pending_work}
use Rattle.passive_blocks.specs.HeldState.{IsHeld}
use Rattle.passive_blocks.specs.StageState.{IsStore, IsBegun, IsEarly, IsReady, IsToldReady, IsLate, IsSeenRefused, IsRefusedAt}
use Rattle.passive_blocks.specs.StageState.{IsStageOn, IsStaged, IsWaiting, IsTelling}
use Rattle.passive_blocks.proofs.HeldMaking.{held_with_entry}
use Rattle.passive_blocks.proofs.StageAdvances.{seen_with}
use Rattle.passive_blocks.proofs.StageGoes.{kept_seen}

-- what is seen of a store with this table, where this change waits
abbrev pub waiting_seen : ℕ → ℕ → DiskSeen → Table → Option Pending → Option Pick → Seen
waiting_seen node more d t pending picked = seen_with node (pending_work t pending) picked (kept_seen d.told t) more d

-- the heads and blocks of a table, with the index of another
abbrev like : Table → Table → Table
like t x = record {
  heads = record {
    index = x.heads.index;
    slots = t.heads.slots;
    sequences = x.heads.sequences;
    free = x.heads.free;
    closing = t.heads.closing;
    lone = t.heads.lone;
  };
  blocks = t.blocks;
}

is_like : (t new : Table) → new.heads.slots ≡ t.heads.slots → new.heads.closing ≡ t.heads.closing → new.heads.lone ≡ t.heads.lone
    → new.blocks ≡ t.blocks → new ≡ like t new
is_like t new slots closing lone blocks = λ i. record {
  heads = record {
    index = new.heads.index;
    slots = slots i;
    sequences = new.heads.sequences;
    free = new.heads.free;
    closing = closing i;
    lone = lone i;
  };
  blocks = blocks i;
}

begun_like : (node : ℕ) (began : List ℕ) (heads : List Head) (t x : Table) → IsBegun node began heads t
    → IsBegun node began heads (like t x)
begun_like node began heads t x b = record {
  format = b.format;
  long = b.long;
  found = b.found;
  chains = b.chains;
  left = b.left;
  closed = b.closed;
  closing = b.closing;
}

early_like : (node more : ℕ) (t x : Table) (p : Pending) (c : Contents) → IsEarly node more t p c → IsEarly node more (like t x) p c
early_like node more t x p c e = record {
  began = e.began;
  heads = e.heads;
  begun = begun_like node e.began e.heads t x e.begun;
  shut = e.shut;
  told = e.told;
  fits = e.fits;
}

ready_like : (node : ℕ) (ready : List ℕ) (t x : Table) (p : Pending) → IsReady node ready t p → IsReady node ready (like t x) p
ready_like node ready t x p r = record { table = r.table; body = r.body; head = r.head; shut = r.shut }

told_like : (node more : ℕ) (ready : List ℕ) (t x : Table) (p : Pending) → IsToldReady node more ready t p
    → IsToldReady node more ready (like t x) p
told_like node more ready t x p r = record { now = r.now; behind = r.behind }

late_like : (node more : ℕ) (t x : Table) (p : Pending) (c : Contents) → IsLate node more t p c → IsLate node more (like t x) p c
late_like node more t x p c l = record {
  ready = l.ready;
  is = ready_like node l.ready t x p l.is;
  told = told_like node more l.ready t x p l.told;
  fits = l.fits;
}

seen_like : (node : ℕ) (now : List ℕ) (t x : Table) (p : Pending) (gate : ℕ) → IsSeenRefused node now t p gate
    → IsSeenRefused node now (like t x) p gate
seen_like node now t x p gate s = record { shut = s.shut; own = s.own; still_open = s.still_open; closed = s.closed }

refused_like : (node more : ℕ) (t x : Table) (p : Pending) (c : Contents) (power : Bool) (gate : ℕ) → IsRefusedAt node more t p c power gate
    → IsRefusedAt node more (like t x) p c power gate
refused_like node more t x p c power gate (inl early) =
    inl (early_like node more t x p c early.0, λ on. seen_like node c.now t x p gate (early.1 on))
refused_like node more t x p c power gate (inr late) = inr (late_like node more t x p c late.0, late.1)

stage_like : (node more : ℕ) (t x : Table) (p : Pending) (c : Contents) (power : Bool) (stage : Stage)
    → IsStageOn node more t p c power stage → IsStageOn node more (like t x) p c power stage
stage_like node more t x p c power Close on = (early_like node more t x p c on.0, on.1)
stage_like node more t x p c power (WritePart block from) on = (early_like node more t x p c on.0, on.1)
stage_like node more t x p c power WriteHead on = (early_like node more t x p c on.0, on.1)
stage_like node more t x p c power SyncHead on = (early_like node more t x p c on.0, on.1)
stage_like node more t x p c power Open on = (on.0, ready_like node c.now t x p on.1, told_like node more c.now t x p on.2)
stage_like node more t x p c power SyncOpen on = (late_like node more t x p c on.0, on.1)
stage_like node more t x p c power (Ended gate synced) on = (refused_like node more t x p c power gate on.0, on.1)

staged_like : (t x : Table) (p : Pending) (stage : Stage) → IsStaged t p stage → IsStaged (like t x) p stage
staged_like t x p Close s = s
staged_like t x p (WritePart block from) s = record {
  value = s.value;
  count = s.count;
  more = s.more;
  place = s.place;
  before = s.before;
  closed = s.closed;
}
staged_like t x p WriteHead s = s
staged_like t x p SyncHead s = s
staged_like t x p Open s = s
staged_like t x p SyncOpen s = s
staged_like t x p (Ended gate synced) s = s

calls_like : (t x : Table) (p : Pending) (stage : Stage) → calls_at (like t x) p stage ≡ calls_at t p stage
calls_like t x p Close = refl
calls_like t x p (WritePart block from) = refl
calls_like t x p WriteHead = refl
calls_like t x p SyncHead = refl
calls_like t x p Open = refl
calls_like t x p SyncOpen = refl
calls_like t x p (Ended gate synced) = refl

waiting_like : (node size : ℕ) (t x : Table) (p : Pending) → IsWaiting node size t p → IsWaiting node size (like t x) p
waiting_like node size t x p w = record {
  staged = staged_like t x p p.stage w.staged;
  spelled = w.spelled;
  short = w.short;
  limit = w.limit;
  few = subst (λ cs. p.made + length cs ≤ 131072) (sym (calls_like t x p p.stage)) w.few;
  later = w.later;
}

telling_like : (node more : ℕ) (t x : Table) (p : Pending) → IsTelling node more t p → IsTelling node more (like t x) p
telling_like node more t x p w = record { sequence = w.sequence; own = w.own; eject = w.eject; room = w.room; free = w.free }

store_like : (tells : Bool) (node size more : ℕ) (counts : Counts) (told : Told) (t x : Table) (pending : Option Pending)
    → IsHeld size counts (like t x) pending → IsStore tells node size more counts told t pending
    → IsStore tells node size more counts told (like t x) pending
store_like tells node size more counts told t x None held s = record {
  held = held;
  staged = s.staged;
  on = s.on;
  fresh = s.fresh;
  telling = λ tell. tt;
  first = s.first;
}
store_like tells node size more counts told t x (Some p) held s = record {
  held = held;
  staged = waiting_like node size t x p s.staged;
  on = λ tell. stage_like node more t x p (contents told) counts.power p.stage (s.on tell);
  fresh = s.fresh;
  telling = λ tell. telling_like node more t x p (s.telling tell);
  first = s.first;
}

-- What holds of a store goes on holding.
pub entry_store : (tells : Bool) (node size more : ℕ) (counts : Counts) (told : Told) (t new : Table) (pending : Option Pending)
    → IsStore tells node size more counts told t pending → IsTable new → new.heads.slots ≡ t.heads.slots
    → ((q : Uid) → entry_at new.heads.index q ≡ entry_at t.heads.index q)
    → ((q : Uid) → IsSome (tree.get uid_cmp t.heads.index q) → IsSome (tree.get uid_cmp new.heads.index q))
    → new.heads.closing ≡ t.heads.closing → new.heads.lone ≡ t.heads.lone → new.blocks ≡ t.blocks
    → IsStore tells node size more counts told new pending
entry_store tells node size more counts told t new pending is table slots entries keys closing lone blocks =
    let same : new ≡ like t new = is_like t new slots closing lone blocks in
    subst (λ x. IsStore tells node size more counts told x pending) (sym same)
    (store_like tells node size more counts told t new pending
    (subst (λ x. IsHeld size counts x pending) same
    (held_with_entry size counts t new pending is.held table slots entries keys closing lone blocks)) is)

work_like : (t x : Table) (p : Pending) (stage : Stage) → work_at (like t x) p stage ≡ work_at t p stage
work_like t x p Close = refl
work_like t x p (WritePart block from) = refl
work_like t x p WriteHead = refl
work_like t x p SyncHead = refl
work_like t x p Open = refl
work_like t x p SyncOpen = refl
work_like t x p (Ended gate synced) = refl

waits_like : (t x : Table) (pending : Option Pending) → pending_work (like t x) pending ≡ pending_work t pending
waits_like t x None = refl
waits_like t x (Some p) = work_like t x p p.stage

-- The same is seen of it.
pub entry_seen : (node more : ℕ) (d : DiskSeen) (t new : Table) (pending : Option Pending) (picked : Option Pick)
    → new.heads.slots ≡ t.heads.slots → new.heads.closing ≡ t.heads.closing → new.heads.lone ≡ t.heads.lone → new.blocks ≡ t.blocks
    → waiting_seen node more d new pending picked
    ≡ waiting_seen node more d t pending picked
entry_seen node more d t new pending picked slots closing lone blocks =
    ap (λ (x : Table). waiting_seen node more d x pending picked) (is_like t new slots closing lone blocks)
    ∙ ap (λ w. seen_with node w picked (kept_seen d.told t) more d) (waits_like t new pending)

busy_like : (t new : Table) (pending : Option Pending)
    → is_busy (pending_work new pending) ≡ is_busy (pending_work t pending)
busy_like t new None = refl
busy_like t new (Some p) = go p.stage
  where
    go : (stage : Stage) → is_busy (work_at new p stage) ≡ is_busy (work_at t p stage)
    go Close = refl
    go (WritePart block from) = refl
    go WriteHead = refl
    go SyncHead = refl
    go Open = refl
    go SyncOpen = refl
    go (Ended gate synced) = refl

-- no job goes on where none did
pub entry_idle : (t new : Table) (pending : Option Pending)
    → is_busy (pending_work t pending) ≡ false → is_busy (pending_work new pending) ≡ false
entry_idle t new pending idle = busy_like t new pending ∙ idle
