-- A job is begun, or refused: what holds of the store then, and what is seen of it.
use Rattle.std.proofs.Common.{◌≡◌, ◌⊎◌, ℕ, suc, zero, ◌+◌, ◌-◌, ◌/◌, ◌≤◌, ◌<◌, ◌^◌, Bool, true, false, ◌||◌, ◌&&◌, not, ◌==◌, IsTrue}
use Rattle.std.proofs.Common.{List, [], ◌∷◌, ◌++◌, length, refl, sym, ap, subst, ◌∙◌, arith, inl, inr, Option, None, Some}
use Rattle.std.specs.Prelude.{◌≢◌, if◌then◌else◌, is_some, nat_le, slice_index, IsSome, IfSome, Ok, Err}
use Rattle.std.specs.BTreeMap as tree
use Rattle.std.proofs.lemmas.Bool.{false≢true, or_left, or_right, leb-true, eqb-true, ne_eqb}
use Rattle.capability.specs.declared.Uid.{Uid}
use Rattle.capability.specs.Uids.{uid_cmp}
use Rattle.eden_disk.specs.Told.{Contents, contents}
use Rattle.eden_disk.specs.Calls.{Counts}
use Rattle.passive_store.specs.declared.store.Pick.{Pick}
use Rattle.passive_store.specs.declared.store.StoreRefusal.{StoreRefusal}
use Rattle.passive_store.specs.declared.store.StoreRefusal.TheVariants.{Full}
use Rattle.passive_store.specs.Acts.{Sync}
use Rattle.passive_store.specs.Kept.{StoreChange, Kept, Work, Idle, Busy, HasJob, IsJobOf, IsFresh, IsOwn, IsEarlyRefusal, body_at}
use Rattle.passive_store.specs.Kept.{KeepsTelling, change_in, reserved_uid}
use Rattle.passive_store.specs.Seen.{Asked, Begins, DiskSeen, asked, change_asked, has_room_for}
use Rattle.block_tables.specs.declared.heads.HeadFields.{HeadFields}
use Rattle.block_tables.specs.declared.table.Table.{Table}
use Rattle.passive_blocks.specs.declared.block_store.Pending.{Pending}
use Rattle.passive_blocks.specs.declared.block_store.Stage.{Stage}
use Rattle.passive_blocks.specs.declared.block_store.Stage.TheVariants.{Close, Write as WritePart, Head as WriteHead, SyncHead, Open}
use Rattle.passive_blocks.specs.declared.block_store.Stage.TheVariants.{SyncOpen, Ended}
use Rattle.block_tables.specs.Members.{is_member}
use Rattle.block_tables.specs.Blocks.{blocks_of, data_count, greatest, has, is_data}
use Rattle.block_tables.specs.Changes.{blocks_job, bytes_of, first_or_zero, free_head, is_removal, size_of}
use Rattle.passive_blocks.specs.BlockLayout.{block_layout, blocks_left, changes_left}
use Rattle.block_tables.specs.HeadState.{heads_in, is_open, slot_at}
use Rattle.block_tables.specs.BlockState.{AreDataIn, walk, free_in}
use Rattle.block_tables.specs.TableState.{IsTable, blocks_chosen, fits_in, greatest_in, keeper, spare}
use Rattle.passive_blocks.specs.StoreState.{body_asked, calls_at, change_of, work_at, pending_work}
use Rattle.passive_blocks.specs.HeldState.{IsHeld}
use Rattle.passive_blocks.specs.StageState.{IsStore, IsBehindClosing, IsOnDisk, IsSpelled, IsWaiting, changes_behind}
use Rattle.passive_blocks.specs.StageState.{TellsBehind, goes_on_telling, is_going}
use Rattle.std.proofs.Common.{eq-eqb, map}
use Rattle.block_tables.specs.declared.head_table.HeadTable.{HeadTable}
use Rattle.block_tables.specs.Blocks.{Head, is_block_size, kept_in_blocks}
use Rattle.block_tables.specs.HeadState.{entry_at, kept_slot}
use Rattle.passive_blocks.specs.StoreState.{kept_or_none}
use Rattle.passive_blocks.specs.HeldState.{AreApart, blocks_planned, one_if}
use Rattle.passive_blocks.specs.KeptState.{HasChains}
use Rattle.passive_blocks.specs.StageState.{IsStaged, NoneCloses, behind_closing}
use Rattle.block_tables.proofs.Greatest.{peak-above}
use Rattle.block_tables.proofs.Walks.{on_disk}
use Rattle.passive_blocks.proofs.OpeningRead.{size_parts}
use Rattle.passive_blocks.proofs.HeldBegins.{told_last, fits_shown, fresh_shown, full_shown, job_bounded}
use Rattle.passive_blocks.proofs.HeldBegun.{calls_bounded, spelled_is, telling_begun}
use Rattle.passive_blocks.proofs.HeldChoosing.{held_when_chosen, chosen_times, chosen_walk}
use Rattle.passive_blocks.proofs.HeldCounts.{some_times}
use Rattle.passive_blocks.proofs.HeldFacts.{free_left, sequence_at}
use Rattle.passive_blocks.proofs.HeldJob.{job_is, behind_closing as job_behind, greatest_is}
use Rattle.passive_blocks.proofs.HeldOnDisk.{begun_on}
use Rattle.passive_blocks.proofs.HeldTold.{no_blocks, none_kept}
use Rattle.passive_blocks.proofs.KeptLooks.{shown, shown_found, holds_shown, needed_shown}
use Rattle.passive_blocks.proofs.ShownReserved.{keeper_of_shown}
use Rattle.passive_blocks.proofs.StageImages.{changes_is}
use Rattle.passive_blocks.proofs.StageStore.{first_staged}
use Rattle.passive_blocks.proofs.StageAdvances.{seen_with}
use Rattle.passive_blocks.proofs.StageGoes.{kept_seen}

-- What a job is begun with.
pub record IsAsked (tells : Bool) (node size more : ℕ) (d : DiskSeen) (t : Table) (pending : Option Pending) (uid : Uid) (removal : Bool)
    (bytes : List ℕ) : Type 0 where
  pub store : IsStore tells node size more d.counts d.told t pending
  pub idle : pending ≡ None
  pub entry : IsSome (tree.get uid_cmp t.heads.index uid)
  pub own : IsOwn node uid (length bytes)
  pub limit : length bytes ≤ 262144
  pub eject : removal ≡ true → 1 ≤ uid.epoch
  pub empty : removal ≡ true → bytes ≡ []
  pub kept : removal ≡ true → IsTrue tells → IsSome (body_at (kept_seen d.told t) uid)
  pub epoch : uid.epoch < 2 ^ 32
  pub serial : uid.serial < 2 ^ 32

-- What was chosen for it.
pub record IsChosen (t new : Table) (p : Pending) (uid : Uid) (removal : Bool) (bytes : List ℕ) : Type 0 where
  pub table : IsTable new
  pub heads : new.heads ≡ t.heads
  pub needed : new.blocks.needed ≡ t.blocks.needed
  pub sized : new.blocks.size ≡ t.blocks.size
  pub uid_is : p.head.uid ≡ uid
  pub removal_is : p.head.removal ≡ removal
  pub size_is : p.head.size ≡ length bytes
  pub sequence : (p.head.sequence ≡ greatest_in t + 1) × (p.head.sequence ≤ 2 ^ 63)
  pub number : p.head.number < length t.heads.slots.items
  pub free : is_open (slot_at t.heads.slots.items p.head.number) ≡ false
  pub least : (k : ℕ) → k < p.head.number → is_open (slot_at t.heads.slots.items k) ≡ true
  pub room : fits_in t uid removal (length bytes) ≡ true
  pub first : p.head.first ≡ first_or_zero (blocks_chosen t.blocks removal (length bytes))
  pub chain : 1 ≤ length (blocks_chosen t.blocks removal (length bytes))
      → walk new.blocks.next.items p.head.first (suc (length (blocks_chosen t.blocks removal (length bytes))))
      ≡ blocks_chosen t.blocks removal (length bytes) ++ 0 ∷ []
  pub taken : (k : ℕ) → is_member new.blocks.free k
      ≡ (not (has k (blocks_chosen t.blocks removal (length bytes))) && is_member t.blocks.free k)
  pub others : (k : ℕ) → has k (blocks_chosen t.blocks removal (length bytes)) ≡ false
      → slice_index new.blocks.next.items k ≡ slice_index t.blocks.next.items k
  pub bytes_is : p.body.items ≡ bytes
  pub stage : IsBehindClosing new p.head p.stage
  pub made : p.made ≡ 0

-- The same, of a head that was chosen for so many bytes.
pub record IsFound (t new : Table) (h : HeadFields) (uid : Uid) (removal : Bool) (long : ℕ) : Type 0 where
  pub table : IsTable new
  pub heads : new.heads ≡ t.heads
  pub needed : new.blocks.needed ≡ t.blocks.needed
  pub sized : new.blocks.size ≡ t.blocks.size
  pub uid_is : h.uid ≡ uid
  pub removal_is : h.removal ≡ removal
  pub size_is : h.size ≡ long
  pub sequence : (h.sequence ≡ greatest_in t + 1) × (h.sequence ≤ 2 ^ 63)
  pub number : h.number < length t.heads.slots.items
  pub free : is_open (slot_at t.heads.slots.items h.number) ≡ false
  pub least : (k : ℕ) → k < h.number → is_open (slot_at t.heads.slots.items k) ≡ true
  pub room : fits_in t uid removal long ≡ true
  pub first : h.first ≡ first_or_zero (blocks_chosen t.blocks removal long)
  pub chain : 1 ≤ length (blocks_chosen t.blocks removal long)
      → walk new.blocks.next.items h.first (suc (length (blocks_chosen t.blocks removal long)))
      ≡ blocks_chosen t.blocks removal long ++ 0 ∷ []
  pub taken : (k : ℕ) → is_member new.blocks.free k ≡ (not (has k (blocks_chosen t.blocks removal long)) && is_member t.blocks.free k)
  pub others : (k : ℕ) → has k (blocks_chosen t.blocks removal long) ≡ false
      → slice_index new.blocks.next.items k ≡ slice_index t.blocks.next.items k

pub chosen_by : (t new : Table) (p : Pending) (uid : Uid) (removal : Bool) (bytes : List ℕ) (long : ℕ) → long ≡ length bytes
    → IsFound t new p.head uid removal long → p.body.items ≡ bytes → IsBehindClosing new p.head p.stage → p.made ≡ 0
    → IsChosen t new p uid removal bytes
chosen_by t new p uid removal bytes long same found items stage made =
    let f : IsFound t new p.head uid removal (length bytes) = subst (IsFound t new p.head uid removal) same found in
    record {
      table = f.table;
      heads = f.heads;
      needed = f.needed;
      sized = f.sized;
      uid_is = f.uid_is;
      removal_is = f.removal_is;
      size_is = f.size_is;
      sequence = f.sequence;
      number = f.number;
      free = f.free;
      least = f.least;
      room = f.room;
      first = f.first;
      chain = f.chain;
      taken = f.taken;
      others = f.others;
      bytes_is = items;
      stage = stage;
      made = made;
    }

removal_asked : (r : Bool) (bytes : List ℕ) → is_removal (body_asked r bytes) ≡ r
removal_asked true bytes = refl
removal_asked false bytes = refl

size_asked : (r : Bool) (bytes : List ℕ) → (r ≡ true → bytes ≡ []) → size_of (body_asked r bytes) ≡ length bytes
size_asked true bytes empty = sym (ap length (empty refl))
size_asked false bytes empty = refl

bytes_asked : (r : Bool) (bytes : List ℕ) → (r ≡ true → bytes ≡ []) → bytes_of (body_asked r bytes) ≡ bytes
bytes_asked true bytes empty = sym (empty refl)
bytes_asked false bytes empty = refl

none_asked : (r : Bool) (bytes : List ℕ) → body_asked r bytes ≡ None → r ≡ true
none_asked true bytes is = refl
none_asked false bytes is = absurd (false≢true (sym (ap is_some is)))

-- where nothing waits
idle_store : (tells : Bool) (node size more : ℕ) (d : DiskSeen) (t : Table) (pending : Option Pending) (uid : Uid) (removal : Bool)
    (bytes : List ℕ) → IsAsked tells node size more d t pending uid removal bytes → IsStore tells node size more d.counts d.told t None
idle_store tells node size more d t pending uid removal bytes a = subst (IsStore tells node size more d.counts d.told t) a.idle a.store

pub begun_held : (tells : Bool) (node size more : ℕ) (d : DiskSeen) (t new : Table) (pending : Option Pending) (p : Pending) (uid : Uid)
    (removal : Bool) (bytes : List ℕ) → IsAsked tells node size more d t pending uid removal bytes → IsChosen t new p uid removal bytes
    → IsHeld size d.counts new (Some p)
begun_held tells node size more d t new pending p uid removal bytes a c =
    held_when_chosen size d.counts t new p uid removal (length bytes) (idle_store tells node size more d t pending uid removal bytes a).held
    c.table c.heads c.needed c.sized c.uid_is c.removal_is c.size_is c.sequence.0 c.number c.free c.room c.chain c.taken c.others a.entry
    (ap length c.bytes_is)

going_behind : (r : Bool) (h : HeadFields) → is_going (if r then WriteHead else WritePart h.first 0) ≡ true
going_behind true h = refl
going_behind false h = refl

first_data : (size : ℕ) (next : List ℕ) (first n : ℕ) → 1 ≤ n → AreDataIn size (walk next first n) → is_data size first ≡ true
unfolding walk
first_data size next first zero some inside = absurd (omega (arith, some))
first_data size next first (suc n) some inside =
    inside first (or_left (first == first) (has first (walk next (slice_index next first) n)) (eq-eqb first first refl))

short_first : (size first : ℕ) → size ≤ 67108864 → first < size / 1024 → first < 65536
short_first size first most within = omega (arith, most, within)

some_blocks : (n : ℕ) → 1 ≤ blocks_of n
some_blocks n = omega arith

-- the head of a change that was chosen is of the format
spelled_chosen : (tells : Bool) (node size more : ℕ) (d : DiskSeen) (t new : Table) (pending : Option Pending) (p : Pending) (uid : Uid)
    (removal : Bool) (bytes : List ℕ) → IsAsked tells node size more d t pending uid removal bytes → IsChosen t new p uid removal bytes
    → IsSpelled node size p.head × (p.head.first < 65536)
spelled_chosen tells node size more d t new pending p uid removal bytes a c =
    let held = begun_held tells node size more d t new pending p uid removal bytes a c in
    let inside : p.head.removal ≡ false → is_data size p.head.first ≡ true = λ value.
    first_data size new.blocks.next.items p.head.first (blocks_of p.head.size) (some_blocks p.head.size)
    (subst (λ s. AreDataIn s (walk new.blocks.next.items p.head.first (blocks_of p.head.size))) held.same (held.planned.chain value)) in
    let none : p.head.removal ≡ true → p.head.first ≡ 0 = λ gone.
    c.first ∙ ap (λ r. first_or_zero (blocks_chosen t.blocks r (length bytes))) (sym c.removal_is ∙ gone) in
    let small : size ≤ 67108864 = (size_parts size (ap is_block_size (sym held.same) ∙ held.table.blocks.sized)).1 in
    let short : p.head.first < 65536 = by_kind p.head.removal refl none (λ value. short_first size p.head.first small
    (on_disk size p.head.first (inside value))) in (
      spelled_is node size p.head
          (subst (λ u. IsOwn node u p.head.size) (sym c.uid_is) (subst (IsOwn node uid) (sym c.size_is) a.own))
          (omega (arith, c.size_is, a.limit))
          (subst (λ (u : Uid). u.epoch < 2 ^ 32) (sym c.uid_is) a.epoch)
          (subst (λ (u : Uid). u.serial < 2 ^ 32) (sym c.uid_is) a.serial)
          short (omega (arith, c.sequence.0)) c.sequence.1
          (λ gone. (
            c.size_is ∙ ap length (a.empty (sym c.removal_is ∙ gone)),
            none gone,
            subst (λ (u : Uid). 1 ≤ u.epoch) (sym c.uid_is) (a.eject (sym c.removal_is ∙ gone)),
          ))
          inside,
      short,
    )
  where
    by_kind : (r : Bool) → p.head.removal ≡ r → (p.head.removal ≡ true → p.head.first ≡ 0) → (p.head.removal ≡ false → p.head.first < 65536)
        → p.head.first < 65536
    by_kind true is none value = omega (arith, none is)
    by_kind false is none value = value is

-- its job is the calls from the closing of heads on
calls_are : (t new : Table) (p : Pending) → IsBehindClosing new p.head p.stage → calls_at new p p.stage ≡ calls_at new p Close
calls_are t new p (inl closes) = ap (calls_at new p) closes.0
calls_are t new p (inr behind) = ap (calls_at new p) behind.0 ∙ sym (job_behind new p behind.1)

is_begun : (new : Table) (p : Pending) → IsBehindClosing new p.head p.stage → is_going p.stage ≡ true
is_begun new p (inl closes) = ap is_going closes.0
is_begun new p (inr behind) = ap is_going behind.0 ∙ going_behind p.head.removal p.head

busy_at : (t : Table) (p : Pending) (stage : Stage) → is_going stage ≡ true
    → work_at t p stage ≡ Busy (change_of p) p.made (calls_at t p stage)
busy_at t p Close going = refl
busy_at t p (WritePart block from) going = refl
busy_at t p WriteHead going = refl
busy_at t p SyncHead going = refl
busy_at t p Open going = refl
busy_at t p SyncOpen going = refl
busy_at t p (Ended gate synced) going = absurd (false≢true going)

pub change_is : (t new : Table) (p : Pending) (uid : Uid) (removal : Bool) (bytes : List ℕ) → IsChosen t new p uid removal bytes
    → change_of p ≡ change_asked block_layout (asked uid (body_asked removal bytes)) p.head.sequence
change_is t new p uid removal bytes c =
    let body : (if p.head.removal then None else Some p.body.items) ≡ body_asked removal bytes =
    ap (λ r. if r then None else Some p.body.items) c.removal_is ∙ ap (body_asked removal) c.bytes_is in
    λ i. record { uid = c.uid_is i; body = body i; mark = p.head.sequence; wrote = [] }

pub work_is : (t new : Table) (p : Pending) (uid : Uid) (removal : Bool) (bytes : List ℕ) → IsChosen t new p uid removal bytes
    → work_at new p p.stage ≡ Busy (change_asked block_layout (asked uid (body_asked removal bytes)) p.head.sequence) 0
    (calls_at new p Close)
work_is t new p uid removal bytes c =
    busy_at new p p.stage (is_begun new p c.stage)
    ∙ ap (λ ch. Busy ch p.made (calls_at new p p.stage)) (change_is t new p uid removal bytes c)
    ∙ ap (λ m. Busy (change_asked block_layout (asked uid (body_asked removal bytes)) p.head.sequence) m (calls_at new p p.stage)) c.made
    ∙ ap (Busy (change_asked block_layout (asked uid (body_asked removal bytes)) p.head.sequence) 0) (calls_are t new p c.stage)

few_calls : (size planned calls free need : ℕ) → free + (need + planned) ≡ data_count size → calls ≤ size / 1024 + (planned + 4)
    → size ≤ 67108864 → 32768 ≤ size → calls ≤ 131072
few_calls size planned calls free need is less most some = omega (arith, is, less, most, some)

staged_begun : (tells : Bool) (node size more : ℕ) (d : DiskSeen) (t new : Table) (pending : Option Pending) (p : Pending) (uid : Uid)
    (removal : Bool) (bytes : List ℕ) → IsAsked tells node size more d t pending uid removal bytes → IsChosen t new p uid removal bytes
    → IsWaiting node size new p
staged_begun tells node size more d t new pending p uid removal bytes a c =
    let held = begun_held tells node size more d t new pending p uid removal bytes a c in
    let spelled = spelled_chosen tells node size more d t new pending p uid removal bytes a c in
    let sizes = size_parts size (ap is_block_size (sym held.same) ∙ held.table.blocks.sized) in
    let going = is_begun new p c.stage in
    record {
      staged = at_first c.stage;
      spelled = spelled.0;
      short = spelled.1;
      limit = omega (arith, ap length c.bytes_is, a.limit);
      few = omega (
        arith,
        c.made,
        ap length (calls_are t new p c.stage),
        few_calls size (length (blocks_planned new.blocks.next.items p.head)) (length (calls_at new p Close)) _ new.blocks.needed
            (free_left size d.counts new (Some p) held) (calls_bounded size d.counts new p held).1 sizes.1 sizes.0,
      );
      later = (λ is. absurd (not_open c.stage is), λ is. absurd (not_synced c.stage is));
    }
  where
    at_first : IsBehindClosing new p.head p.stage → IsStaged new p p.stage
    at_first (inl closes) = subst (IsStaged new p) (sym closes.0) closes.1
    at_first (inr behind) = subst (IsStaged new p) (sym behind.0) (first_staged new p p.head.removal refl behind.1)

    is_early : Stage → Bool
    is_early Close = true
    is_early (WritePart block from) = true
    is_early WriteHead = true
    is_early SyncHead = false
    is_early Open = false
    is_early SyncOpen = false
    is_early (Ended gate synced) = false

    early_behind : (r : Bool) → is_early (if r then WriteHead else WritePart p.head.first 0) ≡ true
    early_behind true = refl
    early_behind false = refl

    early : IsBehindClosing new p.head p.stage → is_early p.stage ≡ true
    early (inl closes) = ap is_early closes.0
    early (inr behind) = ap is_early behind.0 ∙ early_behind p.head.removal

    not_open : IsBehindClosing new p.head p.stage → p.stage ≡ Open → ⊥
    not_open at is = false≢true (sym (ap is_early is) ∙ early at)

    not_synced : IsBehindClosing new p.head p.stage → p.stage ≡ SyncOpen → ⊥
    not_synced at is = false≢true (sym (ap is_early is) ∙ early at)

-- What is shown tells as much as memory has.
told_shown : (node size more : ℕ) (counts : Counts) (t : Table) (c : Contents) (power : Bool) → IsHeld size counts t None
    → IsOnDisk node more t None c power → more ≤ changes_left size (heads_in t.heads.slots.items) (Ok (shown c.now t))
told_shown node size more counts t c power held on =
    subst (λ s. more ≤ changes_left s (heads_in t.heads.slots.items) (Ok (shown c.now t))) (on.1.long ∙ held.same)
    (subst (λ n. more ≤ n)
    (changes_is node c.now (heads_in t.heads.slots.items) (shown c.now t) (ap is_block_size on.1.long ∙ held.table.blocks.sized)
    on.1.format on.1.heads
    (ap (kept_in_blocks c.now) on.1.heads ∙ shown_found c.now t on.1.chains)) on.2)

keeper_late : (t : Table) (uid : Uid) (s : HeadFields) → keeper t uid ≡ Some s → s.sequence ≤ greatest_in t
keeper_late t uid s is = go (entry_at t.heads.index uid).latest is
  where
    at : (k : ℕ) → (slot_at t.heads.slots.items k).sequence ≤ greatest_in t
    at k = subst (λ n. n ≤ greatest_in t) (sequence_at t.heads.slots.items k)
        (peak-above (map (λ (x : HeadFields). x.sequence) t.heads.slots.items) k)

    by_removal : (b : Bool) (x : HeadFields) → x.sequence ≤ greatest_in t → (if b then None else Some x) ≡ Some s
        → s.sequence ≤ greatest_in t
    by_removal true x less is = absurd (false≢true (ap is_some is))
    by_removal false x less is = subst (λ (y : HeadFields). y.sequence ≤ greatest_in t) (let e : x ≡ s = cc in e) less

    go : (o : Option ℕ) → kept_slot t.heads.slots.items o ≡ Some s → s.sequence ≤ greatest_in t
    go None is = absurd (false≢true (ap is_some is))
    go (Some n) is = by_removal (slot_at t.heads.slots.items n).removal (slot_at t.heads.slots.items n) (at n) is

-- the change gives its uid a mark of its own
fresh_begun : (tells : Bool) (node size more : ℕ) (d : DiskSeen) (t new : Table) (pending : Option Pending) (p : Pending) (uid : Uid)
    (removal : Bool) (bytes : List ℕ) → IsAsked tells node size more d t pending uid removal bytes → IsChosen t new p uid removal bytes
    → IsTrue tells → IsFresh (change_asked block_layout (asked uid (body_asked removal bytes)) p.head.sequence) (kept_seen d.told t)
fresh_begun tells node size more d t new pending p uid removal bytes a c tell =
    let store = idle_store tells node size more d t pending uid removal bytes a in
    let image = (contents d.told).now in
    fresh_shown size d.counts image t None (change_asked block_layout (asked uid (body_asked removal bytes)) p.head.sequence) store.held
    (store.on tell).1.chains c.sequence.0
    (λ none. holds_shown image t uid store.held.table store.held.apart (store.on tell).1.chains
    ∙ a.kept (none_asked removal bytes none) tell)
    (keeper_late t uid)

kept_same : (d : DiskSeen) (t new : Table) → new.heads ≡ t.heads → kept_seen d.told new ≡ kept_seen d.told t
kept_same d t new same = ap (λ (h : HeadTable). kept_or_none (kept_in_blocks (contents d.told).now (Ok (heads_in h.slots.items)))) same

-- Behind it the room goes on being told for one change less, where it does.
told_less : (t : Table) (node more : ℕ) (uid : Uid) → changes_behind t node more uid ≤ more - 1
told_less t node more uid = go (goes_on_telling t node uid)
  where
    go : (b : Bool) → (if b then more - 1 else 0) ≤ more - 1
    go true = omega arith
    go false = omega arith

pub told_fewer : (t : Table) (node more : ℕ) (uid : Uid) → changes_behind t node more uid ≤ more
told_fewer t node more uid = omega (arith, told_less t node more uid)

told_flag : (t : Table) (node more : ℕ) (uid : Uid) → 1 ≤ changes_behind t node more uid → goes_on_telling t node uid ≡ true
told_flag t node more uid some = go (goes_on_telling t node uid) some
  where
    go : (b : Bool) → 1 ≤ (if b then more - 1 else 0) → b ≡ true
    go true some = refl
    go false some = absurd (omega (arith, some))

by_flag : (more : ℕ) (b : Bool) → b ≡ true → more ≤ (if b then more - 1 else 0) + 1
by_flag more true is = omega arith
by_flag more false is = absurd (false≢true is)

-- a uid of the node that is not the reserved one is that of an Eject
other_eject : (node long : ℕ) (uid : Uid) → IsOwn node uid long → uid ≢ reserved_uid node → 1 ≤ uid.epoch
other_eject node long uid own other = elim own.1 [
  | inl eject ↦ eject.0
  | inr first ↦ absurd (other (λ i. record { node = own.0 i; epoch = first.0 i; serial = first.1 i }))
]

-- It does behind a change of an Eject,
one_other : (t : Table) (node more : ℕ) (uid : Uid) → 1 ≤ uid.epoch → more ≤ changes_behind t node more uid + 1
one_other t node more uid some = by_flag more (goes_on_telling t node uid)
    (or_left (not (uid.epoch == 0)) ((t.blocks.needed == 0) || is_some (keeper t (reserved_uid node)))
    (ap not (ne_eqb uid.epoch 0 (λ e. omega (arith, e, some)))))

-- and where what is shown has a value under the reserved uid, or nothing is shown.
one_first : (size : ℕ) (counts : Counts) (image : List ℕ) (t : Table) (pending : Option Pending) (node more : ℕ) (uid : Uid)
    → IsHeld size counts t pending → length image ≡ size → HasChains image t → KeepsTelling node (shown image t)
    → more ≤ changes_behind t node more uid + 1
one_first size counts image t pending node more uid held long chains tells = by_flag more (goes_on_telling t node uid)
    (or_right (not (uid.epoch == 0)) ((t.blocks.needed == 0) || is_some (keeper t (reserved_uid node))) (known tells))
  where
    known : KeepsTelling node (shown image t) → ((t.blocks.needed == 0) || is_some (keeper t (reserved_uid node))) ≡ true
    known (inl some) = or_right (t.blocks.needed == 0) (is_some (keeper t (reserved_uid node)))
        (keeper_of_shown image t (reserved_uid node) held.table held.apart some)
    known (inr none) = or_left (t.blocks.needed == 0) (is_some (keeper t (reserved_uid node)))
        (eq-eqb t.blocks.needed 0 (sym (needed_shown size counts image t pending held long chains) ∙ no_blocks (shown image t).bodies none))

-- What memory says of it is so of what is shown.
first_kept : (size : ℕ) (counts : Counts) (image : List ℕ) (t : Table) (pending : Option Pending) (node : ℕ) (uid : Uid)
    → IsHeld size counts t pending → length image ≡ size → HasChains image t → goes_on_telling t node uid ≡ true
    → TellsBehind node (shown image t) uid
first_kept size counts image t pending node uid held long chains flag = by_epoch (uid.epoch == 0) refl flag
  where
    by_blocks : (b : Bool) → (t.blocks.needed == 0) ≡ b → (b || is_some (keeper t (reserved_uid node))) ≡ true
        → TellsBehind node (shown image t) uid
    by_blocks true none flag = inr (inr (none_kept (shown image t).bodies
        (needed_shown size counts image t pending held long chains ∙ eqb-true t.blocks.needed 0 none)))
    by_blocks false some flag = inr (inl (sym (holds_shown image t (reserved_uid node) held.table held.apart chains) ∙ flag))

    by_epoch : (b : Bool) → (uid.epoch == 0) ≡ b → (not b || ((t.blocks.needed == 0) || is_some (keeper t (reserved_uid node)))) ≡ true
        → TellsBehind node (shown image t) uid
    by_epoch true none flag = by_blocks (t.blocks.needed == 0) refl flag
    by_epoch false some flag =
        inl (λ same. false≢true (sym some ∙ eq-eqb uid.epoch 0 (ap (λ (u : Uid). u.epoch) same)))

-- a value finds its blocks free
room_chosen : (t : Table) (uid : Uid) (n : ℕ) → fits_in t uid false n ≡ true
    → t.blocks.needed + (blocks_of n + spare uid) ≤ data_count t.blocks.size
room_chosen t uid n fits =
    within (blocks_of n) (spare uid) t.blocks.needed (data_count t.blocks.size) (some_blocks n)
    (leb-true (blocks_of n + spare uid) (data_count t.blocks.size - t.blocks.needed) fits)
  where
    within : (blocks spared need all : ℕ) → 1 ≤ blocks → blocks + spared ≤ all - need → need + (blocks + spared) ≤ all
    within blocks spared need all some less = omega (arith, some, less)

room_there : (t : Table) (uid : Uid) (removal : Bool) (n : ℕ) → fits_in t uid removal n ≡ true → removal ≡ false
    → t.blocks.needed + (blocks_of n + spare uid) ≤ data_count t.blocks.size
room_there t uid true n fits is = absurd (false≢true (sym is))
room_there t uid false n fits is = room_chosen t uid n fits

planned_chosen : (size : ℕ) (counts : Counts) (t new : Table) (p : Pending) (uid : Uid) (removal : Bool) (bytes : List ℕ)
    → IsHeld size counts t None → IsChosen t new p uid removal bytes
    → blocks_planned new.blocks.next.items p.head ≡ blocks_chosen t.blocks removal (length bytes)
planned_chosen size counts t new p uid removal bytes held c =
    (chosen_walk t.blocks new.blocks.next.items p.head removal (length bytes) c.removal_is c.size_is
    (λ value. enough (blocks_of (length bytes)) (spare uid) t.blocks.needed (data_count size) (length (free_in t.blocks))
    (subst (λ s. t.blocks.needed + (blocks_of (length bytes) + spare uid) ≤ data_count s) held.same
    (room_there t uid removal (length bytes) c.room value)) (free_left size counts t None held)) c.chain).0
  where
    enough : (blocks spared need all free : ℕ) → need + (blocks + spared) ≤ all → free + (need + 0) ≡ all → blocks ≤ free
    enough blocks spared need all free less is = omega (arith, less, is)

stays_there : (t new : Table) (p : Pending) (uid : Uid) (removal : Bool) (bytes : List ℕ) → IsChosen t new p uid removal bytes → (k : ℕ)
    → is_member t.blocks.free k ≡ false → slice_index new.blocks.next.items k ≡ slice_index t.blocks.next.items k
stays_there t new p uid removal bytes c k shut =
    c.others k (go (has k (blocks_chosen t.blocks removal (length bytes))) refl)
  where
    go : (b : Bool) → has k (blocks_chosen t.blocks removal (length bytes)) ≡ b → b ≡ false
    go false is = refl
    go true is =
        absurd (omega (
          arith,
          some_times k (blocks_chosen t.blocks removal (length bytes)) is,
          chosen_times t.blocks removal (length bytes) k,
          ap one_if shut,
        ))

at_behind : (new : Table) (p : Pending) → IsBehindClosing new p.head p.stage → (p.stage ≡ Close) ⊎ (p.stage ≡ behind_closing p.head)
at_behind new p (inl closes) = inl closes.0
at_behind new p (inr behind) = inr behind.0

closes_or_none : (new : Table) (p : Pending) → IsBehindClosing new p.head p.stage
    → ((k : ℕ) × (is_member new.heads.closing k ≡ true)) ⊎ NoneCloses new
closes_or_none new p (inl closes) = inl closes.1
closes_or_none new p (inr behind) = inr behind.1

last_sequence : (node size more less : ℕ) (counts : Counts) (t : Table) (s : ℕ) (c : Contents) (power : Bool) → IsHeld size counts t None
    → IsOnDisk node more t None c power → less ≤ more - 1 → s ≡ greatest_in t + 1 → less ≤ 2 ^ 63 - s
last_sequence node size more less counts t s c power held on fewer is =
    let heads : List Head = heads_in t.heads.slots.items in
    let bodies = (shown c.now t).bodies in
    reach (greatest heads) (greatest_in t) s more less (greatest_is t.heads.slots.items)
    (told_last (is_some (free_head size heads)) (nat_le 1 (blocks_left size bodies)) (2 ^ 63 - greatest heads) more
    (told_shown node size more counts t c power held on)) fewer is
  where
    reach : (g h s m l : ℕ) → g ≡ h → m ≤ 2 ^ 63 - g → l ≤ m - 1 → s ≡ h + 1 → l ≤ 2 ^ 63 - s
    reach g h s m l same most fewer is = omega (arith, same, most, fewer, is)

-- What holds of the store once the job is begun.
pub begun_store : (tells : Bool) (node size more : ℕ) (d : DiskSeen) (t new : Table) (pending : Option Pending) (p : Pending) (uid : Uid)
    (removal : Bool) (bytes : List ℕ) → IsAsked tells node size more d t pending uid removal bytes → IsChosen t new p uid removal bytes
    → IsStore tells node size (changes_behind t node more uid) d.counts d.told new (Some p)
begun_store tells node size more d t new pending p uid removal bytes a c =
    let less : ℕ = changes_behind t node more uid in
    let store = idle_store tells node size more d t pending uid removal bytes a in
    let held = begun_held tells node size more d t new pending p uid removal bytes a c in
    let ask : Asked = asked uid (body_asked removal bytes) in
    let change = change_is t new p uid removal bytes c in
    let same = kept_same d t new c.heads in
    let fewer = told_less t node more uid in
    record {
      held = held;
      staged = staged_begun tells node size more d t new pending p uid removal bytes a c;
      on = λ tell. begun_on node size more less d.counts t new p (contents d.told) d.counts.power store.held store.staged c.heads c.sized
          (stays_there t new p uid removal bytes c) c.number c.free (store.on tell) (omega (arith, fewer)) (at_behind new p c.stage);
      fresh = λ tell. subst (λ k. IsFresh (change_of p) k) (sym same)
          (subst (λ ch. IsFresh ch (kept_seen d.told t)) (sym change)
          (fresh_begun tells node size more d t new pending p uid removal bytes a c tell));
      telling = λ tell. telling_begun node size less d.counts new p held
          (λ k. ap (λ (h : HeadTable). is_member h.lone k) c.heads ∙ store.staged k) (closes_or_none new p c.stage)
          (last_sequence node size more less d.counts t p.head.sequence (contents d.told) d.counts.power store.held (store.on tell) fewer
          c.sequence.0)
          (subst (λ (ch : StoreChange). IsOwn node p.head.uid (size_of ch.body)) (sym change)
          (subst (λ n. IsOwn node p.head.uid n) (sym (size_asked removal bytes a.empty)) (subst (λ u. IsOwn node u (length bytes))
          (sym c.uid_is) a.own)))
          (λ gone. subst (λ (u : Uid). 1 ≤ u.epoch) (sym c.uid_is) (a.eject (sym c.removal_is ∙ gone)))
          (λ value. in_room c (room_there t uid removal (length bytes) c.room (sym c.removal_is ∙ value)));
      first = λ tell some.
          subst (λ k. TellsBehind node k p.head.uid) (sym same)
          (subst (λ (u : Uid). TellsBehind node (kept_seen d.told t) u) (sym c.uid_is)
          (first_kept size d.counts (contents d.told).now t None node uid store.held ((store.on tell).1.long ∙ store.held.same)
          (store.on tell).1.chains (told_flag t node more uid some)));
    }
  where
    in_room : IsChosen t new p uid removal bytes → t.blocks.needed + (blocks_of (length bytes) + spare uid) ≤ data_count t.blocks.size
        → new.blocks.needed + (blocks_of p.head.size + spare p.head.uid) ≤ data_count new.blocks.size
    in_room c less =
        subst (λ u. new.blocks.needed + (blocks_of p.head.size + spare u) ≤ data_count new.blocks.size) (sym c.uid_is)
        (subst (λ n. new.blocks.needed + (blocks_of n + spare uid) ≤ data_count new.blocks.size) (sym c.size_is)
        (subst (λ s. new.blocks.needed + (blocks_of (length bytes) + spare uid) ≤ data_count s) (sym c.sized)
        (subst (λ n. n + (blocks_of (length bytes) + spare uid) ≤ data_count t.blocks.size) (sym c.needed) less)))

own_asked : (node : ℕ) (uid : Uid) (removal : Bool) (bytes : List ℕ) → (removal ≡ true → bytes ≡ []) → IsOwn node uid (length bytes)
    → IsOwn node uid (size_of (body_asked removal bytes))
own_asked node uid removal bytes empty own = subst (IsOwn node uid) (sym (size_asked removal bytes empty)) own

fits_asked : (t : Table) (uid : Uid) (removal : Bool) (bytes : List ℕ) → (removal ≡ true → bytes ≡ [])
    → fits_in t uid (is_removal (body_asked removal bytes)) (size_of (body_asked removal bytes)) ≡ fits_in t uid removal (length bytes)
fits_asked t uid removal bytes empty =
    ap (λ r. fits_in t uid r (size_of (body_asked removal bytes))) (removal_asked removal bytes)
    ∙ ap (fits_in t uid removal) (size_asked removal bytes empty)

-- the calls of its job
job_begun : (tells : Bool) (node size more : ℕ) (d : DiskSeen) (t new : Table) (pending : Option Pending) (p : Pending) (uid : Uid)
    (removal : Bool) (bytes : List ℕ) → IsAsked tells node size more d t pending uid removal bytes → IsChosen t new p uid removal bytes
    → IsTrue tells → calls_at new p Close ≡ blocks_job node None (contents d.told).now uid (body_asked removal bytes)
job_begun tells node size more d t new pending p uid removal bytes a c tell =
    let store = idle_store tells node size more d t pending uid removal bytes a in
    let on = store.on tell in
    let r = removal_asked removal bytes in
    let n = size_asked removal bytes a.empty in
    job_is node size d.counts t new p (contents d.told).now uid (body_asked removal bytes) store.held store.staged
    (on.1.long ∙ store.held.same) on.1.heads on.1.chains c.uid_is (c.removal_is ∙ sym r) (c.size_is ∙ sym n)
    (c.bytes_is ∙ sym (bytes_asked removal bytes a.empty)) (ap length c.bytes_is ∙ sym c.size_is) c.sequence.0 c.number c.free c.least
    (c.first ∙ chosen_asked r n) c.heads (planned_chosen size d.counts t new p uid removal bytes store.held c ∙ ap (λ f. f) (all_asked r n))
  where
    all_asked : is_removal (body_asked removal bytes) ≡ removal → size_of (body_asked removal bytes) ≡ length bytes
        → blocks_chosen t.blocks removal (length bytes)
        ≡ blocks_chosen t.blocks (is_removal (body_asked removal bytes)) (size_of (body_asked removal bytes))
    all_asked r n = ap (λ x. blocks_chosen t.blocks x (length bytes)) (sym r)
        ∙ ap (blocks_chosen t.blocks (is_removal (body_asked removal bytes))) (sym n)

    chosen_asked : is_removal (body_asked removal bytes) ≡ removal → size_of (body_asked removal bytes) ≡ length bytes
        → first_or_zero (blocks_chosen t.blocks removal (length bytes))
        ≡ first_or_zero (blocks_chosen t.blocks (is_removal (body_asked removal bytes)) (size_of (body_asked removal bytes)))
    chosen_asked r n = ap first_or_zero (all_asked r n)

-- What is seen of a job that is begun.
pub begun_seen : (tells : Bool) (node size more : ℕ) (d : DiskSeen) (t new : Table) (pending : Option Pending) (p : Pending) (uid : Uid)
    (removal : Bool) (bytes : List ℕ) (picked : Option Pick)
    → IsAsked tells node size more d t pending uid removal bytes → IsChosen t new p uid removal bytes
    → Begins tells block_layout (asked uid (body_asked removal bytes)) (Ok tt)
    (seen_with node (pending_work t pending) picked (kept_seen d.told t) more d)
    (seen_with node (work_at new p p.stage) picked (kept_seen d.told new) (changes_behind t node more uid) d)
begun_seen tells node size more d t new pending p uid removal bytes picked a c =
    let store = idle_store tells node size more d t pending uid removal bytes a in
    let held = begun_held tells node size more d t new pending p uid removal bytes a c in
    let jobs = job_bounded size d.counts new p held in
    let work = work_is t new p uid removal bytes c in
    let image = (contents d.told).now in
    let same = kept_same d t new c.heads in
    record {
      node = refl;
      disk = refl;
      only = tt;
      picked = refl;
      at = refl;
      mark = p.head.sequence;
      calls = calls_at new p Close;
      bounded = subst (λ s. IsJobOf s (length (calls_at new p Close))) (sym held.sized) jobs.0;
      job = jobs.1;
      work = work;
      by_layout = λ tell. subst (HasJob block_layout node None image) (sym work)
          (job_begun tells node size more d t new pending p uid removal bytes a c tell, refl);
      one = λ other. one_other t node more uid (other_eject node (length bytes) uid a.own other);
      first = λ tell keeps. one_first size d.counts image t None node more uid store.held ((store.on tell).1.long ∙ store.held.same)
          (store.on tell).1.chains keeps;
      same = tt;
      room = λ tell some. ap (λ s. has_room_for block_layout s (kept_seen d.told t) (asked uid (body_asked removal bytes))) store.held.sized
          ∙ sym (fits_shown node size more d.counts image t None uid (body_asked removal bytes) store.held
          ((store.on tell).1.long ∙ store.held.same) (store.on tell).1.chains some
          (told_shown node size more d.counts t (contents d.told) d.counts.power store.held (store.on tell))
          (own_asked node uid removal bytes a.empty a.own))
          ∙ fits_asked t uid removal bytes a.empty ∙ c.room;
      full = λ tell some. tt;
      kept = λ tell. same;
      fresh = λ tell. subst (λ w. IfSome (change_in w) (λ ch. IsFresh ch (kept_seen d.told new))) (sym work)
          (subst (IsFresh (change_asked block_layout (asked uid (body_asked removal bytes)) p.head.sequence)) (sym same)
          (fresh_begun tells node size more d t new pending p uid removal bytes a c tell));
    }

-- What is seen of one that is refused.
pub refused_begins : (tells : Bool) (node more : ℕ) (d : DiskSeen) (kept : Kept) (work : Work) (ask : Asked) (e : StoreRefusal)
    (picked : Option Pick) → work ≡ Idle → IsEarlyRefusal e
    → (IsTrue tells → 1 ≤ more → e ≡ Full → has_room_for block_layout d.counts.size kept ask ≡ false)
    → Begins tells block_layout ask (Err e) (seen_with node work picked kept more d) (seen_with node work picked kept more d)
refused_begins tells node more d kept work ask e picked idle early full = record {
  node = refl;
  disk = refl;
  only = early;
  picked = refl;
  at = refl;
  mark = 0;
  calls = Sync ∷ Sync ∷ Sync ∷ Sync ∷ [];
  bounded = (omega arith, (0, omega arith, omega arith));
  job = refl;
  work = refl;
  by_layout = λ tell. subst (HasJob block_layout node None (contents d.told).now) (sym idle) tt;
  one = λ other. omega arith;
  first = λ tell keeps. omega arith;
  same = refl;
  room = λ tell some. tt;
  full = full;
  kept = λ tell. refl;
  fresh = λ tell. subst (λ w. IfSome (change_in w) (λ ch. IsFresh ch kept)) (sym idle) tt;
}

-- a change that does not fit is refused for want of room alone, where the room is told
pub full_begins : (tells : Bool) (node size more : ℕ) (d : DiskSeen) (t : Table) (pending : Option Pending) (uid : Uid) (removal : Bool)
    (bytes : List ℕ) → IsAsked tells node size more d t pending uid removal bytes
    → ((k : ℕ) → k < length t.heads.slots.items → is_open (slot_at t.heads.slots.items k) ≡ false → greatest_in t < 2 ^ 63
    → fits_in t uid removal (length bytes) ≡ false)
    → IsTrue tells → 1 ≤ more
    → has_room_for block_layout d.counts.size (kept_seen d.told t) (asked uid (body_asked removal bytes)) ≡ false
full_begins tells node size more d t pending uid removal bytes a full tell some =
    let store = idle_store tells node size more d t pending uid removal bytes a in
    ap (λ s. has_room_for block_layout s (kept_seen d.told t) (asked uid (body_asked removal bytes))) store.held.sized
    ∙ full_shown node size more d.counts (contents d.told).now t None uid (body_asked removal bytes) store.held
    ((store.on tell).1.long ∙ store.held.same) (store.on tell).1.chains some
    (told_shown node size more d.counts t (contents d.told) d.counts.power store.held (store.on tell))
    (own_asked node uid removal bytes a.empty a.own)
    (λ k within shut less. fits_asked t uid removal bytes a.empty ∙ full k within shut less)

none_waits : (t : Table) (p : Pending) (stage : Stage) → work_at t p stage ≡ Idle → ⊥
none_waits t p Close is = cc
none_waits t p (WritePart block from) is = cc
none_waits t p WriteHead is = cc
none_waits t p SyncHead is = cc
none_waits t p Open is = cc
none_waits t p SyncOpen is = cc
none_waits t p (Ended gate synced) is = cc

-- where no work is seen, nothing waits
pub none_pending : (t : Table) (pending : Option Pending) → pending_work t pending ≡ Idle → pending ≡ None
none_pending t None idle = refl
none_pending t (Some p) idle = absurd (none_waits t p p.stage idle)
