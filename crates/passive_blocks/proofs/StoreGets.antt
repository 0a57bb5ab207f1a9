-- A get: a settling, and a read of what is kept.
use Rattle.std.specs.Prelude.{◌≡◌, ◌⊎◌, ◌*◌, ◌/◌, ℕ, ◌≤◌, Bool, true, IsTrue, List, length, Option, None, Some, Result}
use Rattle.std.specs.Prelude.{Ok, Err, IfOk, IfErr, IsSome, IfSome, is_some}
use Rattle.std.proofs.Common.{refl, sym, ap, subst, ◌∙◌, inl, arith}
use Rattle.std.proofs.lemmas.Bool.{false≢true}
use Rattle.capability.specs.declared.Uid.{Uid}
use Rattle.eden_disk.specs.Told.{Told, contents, EachMoment}
use Rattle.eden_disk.specs.Calls.{Counts, Fine, AtFault, AtStop, ReadTold, Obeyed}
use Rattle.eden_disk.specs.Timed.{Timed}
use Rattle.eden_disk.proofs.Timed.{timed_join}
use Rattle.eden_disk.proofs.Held.{moments_join, moments_weaker, obeyed_more, obeyed_none, calls_none}
use Rattle.passive_store.specs.declared.store.Pick.{Pick}
use Rattle.passive_store.specs.declared.store.StoreRefusal.{StoreRefusal}
use Rattle.passive_store.specs.declared.store.StoreRefusal.TheVariants.{Failed, Stopped, Full, Damaged, OutOfMemory}
use Rattle.passive_store.specs.Acts.{CallsTold}
use Rattle.passive_store.specs.Kept.{Kept, Stands, Idle, Ran, IsDiskRefusal, IsAnyOf, body_at, changes_in, doubt_in, settled}
use Rattle.passive_store.specs.Kept.{work_settled, reads_due, end_of_store}
use Rattle.passive_store.specs.Seen.{Seen, DiskSeen, Settled, Gets}
use Rattle.passive_store.proofs.Joining.{timed_still, ran_join, settled_back, reads_behind, reads_refused, ran_refused_as}
use Rattle.passive_store.proofs.Joining.{ran_refused_more, end_alike, obeyed_alike, stands_weaker}
use Rattle.passive_store.proofs.Changing.{first_refused, picked_first}
use Rattle.block_tables.specs.declared.heads.HeadFields.{HeadFields}
use Rattle.block_tables.specs.declared.table.Table.{Table}
use Rattle.passive_blocks.specs.declared.block_store.Pending.{Pending}
use Rattle.block_tables.specs.Blocks.{blocks_of, data_count, body_on}
use Rattle.passive_blocks.specs.BlockLayout.{block_layout}
use Rattle.block_tables.specs.HeadSeen.{head_of}
use Rattle.block_tables.specs.TableState.{keeper, IsKeptOn}
use Rattle.block_tables.specs.BlockState.{AreDataIn, walk}
use Rattle.passive_blocks.specs.HeldState.{IsHeld}
use Rattle.passive_blocks.specs.StoreState.{chain_in, pending_work}
use Rattle.passive_blocks.specs.StageState.{IsStore}
use Rattle.passive_blocks.specs.ReadState.{ReadsBody}
use Rattle.passive_blocks.proofs.StageAdvances.{seen_with}
use Rattle.passive_blocks.proofs.StageGoes.{kept_seen}
use Rattle.passive_blocks.proofs.OpeningFormat.{size_parts}
use Rattle.passive_blocks.proofs.Parts.{reads_told}
use Rattle.passive_blocks.proofs.KeptLooks.{body_shown}
use Rattle.passive_blocks.proofs.KeptUnder.{body_under, body_long}
use Rattle.passive_blocks.proofs.StoreReads.{store_stands, store_still, store_seen, store_chains, read_kept, read_moments, read_store}

-- A settling and a read.
pub settled_gets : (tells obeys : Bool) (uid : Uid) (result : Result (Option (List ℕ)) StoreRefusal) (old mid new : Seen)
    → Settled tells obeys block_layout (Ok tt) old mid → ReadsBody tells obeys uid result mid new
    → Gets tells obeys block_layout uid result old new
settled_gets tells obeys uid result old mid new e b = record {
  goes = record {
    node = b.goes.node ∙ e.goes.node;
    obeyed = λ so. obeyed_more e.ran.made b.ran.made _ _ _ _ _ _ _ e.ran.counts b.ran.counts (e.goes.obeyed so) (b.goes.obeyed so);
    timed = λ so. timed_join _ _ _ _ _ _ (e.goes.timed so) (b.goes.timed so);
    stands = b.goes.stands;
  };
  only = b.only;
  calls = b.calls;
  ran = ran_join _ (Unit {0}) _ b.calls tt result _ _ _ e.ran b.ran;
  found = b.found;
  by_layout = λ tells. b.by_layout tells ∙ ap (λ (k : Kept). block_layout.reading_calls (body_at k uid)) (sym (b.kept tells));
  order = λ tells. reads_behind _ old.work b.calls result _ _ _ (e.order tells) (b.order tells);
  reads = λ so. reads_then _ _ _ result (λ some. subst (λ (k : Kept). IsSome (body_at k uid)) (sym (b.kept so)) some) (b.reads so);
  picked = picked_first _ _ old.work result b.picked e.picked;
  work = b.work ∙ e.work ∙ ap (λ p. work_settled p old.work) (sym b.picked);
  more = b.more ∙ e.more;
  at = b.at ∙ e.at;
  kept = λ tells. b.kept tells ∙ e.kept tells ∙ ap (λ p. settled p old.work old.kept) (sym b.picked);
  body = λ so. found_then result (λ found is. is ∙ ap (λ (k : Kept). body_at k uid) (sym (b.kept so))) (b.body so);
  moments = λ so.
      let w = old.work in
      let P : List ℕ → Type 0 = Stands block_layout old.node old.more old.kept (changes_in (doubt_in w)) in
      moments_join P old.disk.told mid.disk.told new.disk.told (e.moments so)
      (moments_weaker (Stands block_layout old.node old.more mid.kept (changes_in (doubt_in mid.work))) P _ _
      (λ image h. stands_weaker block_layout old.node old.more mid.kept old.kept (changes_in (doubt_in mid.work)) (changes_in (doubt_in w))
      image
      (λ is. settled_back mid.picked w old.kept (block_layout.map_of old.node image) (e.fresh so)
      (subst (λ (x : Kept). IsAnyOf x (changes_in (doubt_in (work_settled mid.picked w))) (block_layout.map_of old.node image)) (e.kept so)
      (subst (λ x. IsAnyOf mid.kept (changes_in (doubt_in x)) (block_layout.map_of old.node image)) e.work is))) h)
      (subst (λ n. EachMoment (Stands block_layout n old.more mid.kept (changes_in (doubt_in mid.work))) mid.disk.told new.disk.told)
      e.goes.node
      (subst (λ n. EachMoment (Stands block_layout mid.node n mid.kept (changes_in (doubt_in mid.work))) mid.disk.told new.disk.told) e.more
      (b.moments so))));
}
  where
    reads_then : {T : Type 0} (A B C : Type 0) (r : Result T StoreRefusal) → (A → B) → IfErr r (λ e. IsDiskRefusal e → A)
        → IfErr r (λ e. IsDiskRefusal e → C → B)
    reads_then A B C (Ok x) f h = tt
    reads_then A B C (Err e) f h = λ refusal c. f (h refusal)

    found_then : {T : Type 0} {P Q : T → Type 0} (r : Result T StoreRefusal) → ((x : T) → P x → Q x) → IfOk r P → IfOk r Q
    found_then (Ok x) f h = f x h
    found_then (Err e) f h = tt

-- The settling was refused.
pub refused_gets : (tells obeys : Bool) (uid : Uid) (e : StoreRefusal) (old new : Seen)
    → Settled tells obeys block_layout (Err e) old new → Gets tells obeys block_layout uid (Err e) old new
refused_gets tells obeys uid e old new s =
    let calls = block_layout.reading_calls (body_at new.kept uid) in
    record {
      goes = record {
        node = s.goes.node;
        obeyed = λ so. obeyed_alike (Unit {0}) (Option (List ℕ)) e _ _ _ _ (s.goes.obeyed so);
        timed = s.goes.timed;
        stands = s.goes.stands;
      };
      only = inl s.only;
      calls = calls;
      ran = ran_refused_more (Unit {0}) (Option (List ℕ)) _ calls _ _ _ s.only s.ran;
      found = tt;
      by_layout = λ tells. refl;
      order = λ tells. reads_refused (Unit {0}) (Option (List ℕ)) old.work calls _ _ _ s.only (s.order tells);
      reads = λ tells refusal settled. absurd (false≢true (sym s.picked ∙ settled ∙ s.refused));
      picked = first_refused (Option (List ℕ)) _ old.work _ s.only s.picked;
      work = s.work;
      more = s.more;
      at = s.at;
      kept = s.kept;
      body = λ tells. tt;
      moments = s.moments;
    }

-- Nothing is kept.
pub reads_nothing : (tells obeys : Bool) (node size more : ℕ) (s : DiskSeen) (t : Table) (q : Option Pending) (picked : Option Pick)
    (uid : Uid)
    → IsStore tells node size more s.counts s.told t q → s.counts.power ≡ true → None ≡ keeper t uid
    → ReadsBody tells obeys uid (Ok None) (seen_with node (pending_work t q) picked (kept_seen s.told t) more s)
    (seen_with node (pending_work t q) picked (kept_seen s.told t) more s)
reads_nothing tells obeys node size more s t q picked uid store power none =
    let is = λ (telling : IsTrue tells). ap (body_under (contents s.told).now t.blocks.next.items) none
    ∙ body_shown (contents s.told).now t uid store.held.table store.held.apart (store_chains tells node size more s t q store telling) in
    record {
      goes = record {
        node = refl;
        obeyed = λ so. obeyed_none _ _;
        timed = λ telling. timed_still _ _ _ _ (omega arith) refl;
        stands = store_stands tells node size more s t q store;
      };
      only = tt;
      calls = 0;
      ran = record { made = 0; number = refl; counts = calls_none s.counts power };
      found = refl;
      by_layout = λ telling. ap block_layout.reading_calls (is telling);
      order = λ telling. refl;
      reads = λ telling. tt;
      picked = refl;
      work = refl;
      more = refl;
      at = refl;
      kept = λ telling. refl;
      body = is;
      moments = store_still tells node size more s t q store;
    }

-- What the read of a value shows.
pub record IsRead (tells obeys : Bool) (node size more : ℕ) (old new : DiskSeen) (t : Table) (q : Option Pending) (uid : Uid)
    (value : HeadFields)
    (result : Result (List ℕ) StoreRefusal) : Type 0 where
  pub store : IsStore tells node size more old.counts old.told t q
  pub power : old.counts.power ≡ true
  pub is : Some value ≡ keeper t uid
  pub only : IfErr result (λ e. IsDiskRefusal e ⊎ (e ≡ OutOfMemory))
  pub ran : Ran 0 (blocks_of value.size) result old.counts new.counts
  pub obeyed : IsTrue obeys → Obeyed old.due new.due old.counts new.counts (end_of_store result)
  pub timed : IsTrue tells → Timed old.counts.clock old.told new.counts.clock new.told
  pub told : IsTrue tells → ReadTold new.counts.clock old.told new.told (end_of_store result)
  pub long : IfOk result (λ bytes. length bytes ≡ value.size)
  pub body : IsTrue tells → IfOk result (λ bytes. bytes ≡ body_on (contents old.told).now (chain_in t.blocks.next.items (head_of value)))

some_blocks : (n : ℕ) → 1 ≤ blocks_of n
some_blocks n = omega arith

due_of : {T : Type 0} (n clock : ℕ) (old new : Told) (r : Result T StoreRefusal) → 1 ≤ n → ReadTold clock old new (end_of_store r)
    → CallsTold (reads_due Idle n r) old new (end_of_store r)
due_of n clock old new (Ok x) some told = reads_told n clock old new Fine some told
due_of n clock old new (Err Failed) some told = reads_told n clock old new AtFault some told
due_of n clock old new (Err Stopped) some told = reads_told n clock old new AtStop some told
due_of n clock old new (Err Full) some told = told
due_of n clock old new (Err (Damaged place)) some told = told
due_of n clock old new (Err OutOfMemory) some told = told

shown_is : (tells obeys : Bool) (node size more : ℕ) (old new : DiskSeen) (t : Table) (q : Option Pending) (uid : Uid) (value : HeadFields)
    (result : Result (List ℕ) StoreRefusal) → IsRead tells obeys node size more old new t q uid value result → IsTrue tells
    → Some (body_on (contents old.told).now (chain_in t.blocks.next.items (head_of value))) ≡ body_at (kept_seen old.told t) uid
shown_is tells obeys node size more old new t q uid value result r telling =
    ap (body_under (contents old.told).now t.blocks.next.items) r.is
    ∙ body_shown (contents old.told).now t uid r.store.held.table r.store.held.apart
    (store_chains tells node size more old t q r.store telling)

pub reads_value : (tells obeys : Bool) (node size more : ℕ) (old new : DiskSeen) (t : Table) (q : Option Pending) (picked : Option Pick)
    (uid : Uid)
    (value : HeadFields) (bytes : List ℕ) → IsRead tells obeys node size more old new t q uid value (Ok bytes)
    → IsStore tells node size more new.counts new.told t q
    → ReadsBody tells obeys uid (Ok (Some bytes)) (seen_with node (pending_work t q) picked (kept_seen old.told t) more old)
    (seen_with node (pending_work t q) picked (kept_seen new.told t) more new)
reads_value tells obeys node size more old new t q picked uid value bytes r then_store =
    let is = λ (telling : IsTrue tells). ap Some (r.body telling) ∙ shown_is tells obeys node size more old new t q uid value (Ok bytes) r
    telling in
    record {
      goes = record { node = refl; obeyed = r.obeyed; timed = r.timed; stands = store_stands tells node size more new t q then_store };
      only = tt;
      calls = blocks_of value.size;
      ran = record { made = r.ran.made; number = r.ran.number; counts = r.ran.counts };
      found = ap blocks_of (sym r.long);
      by_layout = λ telling. ap blocks_of (sym r.long) ∙ ap block_layout.reading_calls (is telling);
      order = λ telling. due_of {T = Option (List ℕ)} (blocks_of value.size) new.counts.clock old.told new.told (Ok (Some bytes))
          (some_blocks value.size) (r.told telling);
      reads = λ telling. tt;
      picked = refl;
      work = refl;
      more = refl;
      at = refl;
      kept = read_kept tells node size more old new t q Fine r.store r.told;
      body = is;
      moments = read_moments tells node size more old new t q Fine r.store r.told;
    }

-- The read was refused.
pub reads_refusal : (tells obeys : Bool) (node size more : ℕ) (old new : DiskSeen) (t : Table) (q : Option Pending) (picked : Option Pick)
    (uid : Uid)
    (value : HeadFields) (e : StoreRefusal) → IsRead tells obeys node size more old new t q uid value (Err e)
    → IsStore tells node size more new.counts new.told t q
    → ReadsBody tells obeys uid (Err e) (seen_with node (pending_work t q) picked (kept_seen old.told t) more old)
    (seen_with node (pending_work t q) picked (kept_seen new.told t) more new)
reads_refusal tells obeys node size more old new t q picked uid value e r then_store =
    let shown = λ (telling : IsTrue tells). shown_is tells obeys node size more old new t q uid value (Err e) r telling in
    let blocks = λ (telling : IsTrue tells). shown_blocks old t value r.store.held r.is
    (store_seen tells node size more old t q r.store telling).0 in
    record {
      goes = record {
        node = refl;
        obeyed = λ so. obeyed_alike (List ℕ) (Option (List ℕ)) e _ _ _ _ (r.obeyed so);
        timed = r.timed;
        stands = store_stands tells node size more new t q then_store;
      };
      only = r.only;
      calls = blocks_of value.size;
      ran = ran_refused_as (List ℕ) (Option (List ℕ)) 0 (blocks_of value.size) e old.counts new.counts r.ran;
      found = tt;
      by_layout = λ telling. ap blocks_of (sym (blocks telling)) ∙ ap block_layout.reading_calls (shown telling);
      order = λ telling. due_of {T = Option (List ℕ)} (blocks_of value.size) new.counts.clock old.told new.told (Err e)
          (some_blocks value.size)
          (subst (ReadTold new.counts.clock old.told new.told) (end_alike (List ℕ) (Option (List ℕ)) e) (r.told telling));
      reads = λ telling refusal. sym (ap is_some (shown telling));
      picked = refl;
      work = refl;
      more = refl;
      at = refl;
      kept = read_kept tells node size more old new t q (end_of_store {T = List ℕ} (Err e)) r.store r.told;
      body = λ telling. tt;
      moments = read_moments tells node size more old new t q (end_of_store {T = List ℕ} (Err e)) r.store r.told;
    }
  where
    shown_blocks : (old : DiskSeen) (t : Table) (value : HeadFields) → IsHeld size old.counts t q → Some value ≡ keeper t uid
        → length (contents old.told).now ≡ t.blocks.size
        → length (body_on (contents old.told).now (chain_in t.blocks.next.items (head_of value))) ≡ value.size
    shown_blocks old t value held is long =
        let kept : IsKeptOn t.blocks value = subst (λ o. IfSome o (IsKeptOn t.blocks)) (sym is) (held.kept uid) in
        body_long (contents old.told).now t.blocks.next.items (head_of value)
        (subst (λ n. AreDataIn n (walk t.blocks.next.items value.first (blocks_of value.size))) (sym long) kept.chain)

-- What holds of the store behind it.
pub then_store : (tells obeys : Bool) (node size more : ℕ) (old new : DiskSeen) (t : Table) (q : Option Pending) (uid : Uid)
    (value : HeadFields)
    (result : Result (List ℕ) StoreRefusal) → IsRead tells obeys node size more old new t q uid value result
    → IsStore tells node size more new.counts new.told t q
then_store tells obeys node size more old new t q uid value result r =
    read_store tells node size more old new t q (end_of_store result) r.store r.power r.ran.counts.size r.ran.counts.power r.told

-- A value that is kept is no longer than the disk.
pub kept_short : (size : ℕ) (counts : Counts) (t : Table) (q : Option Pending) (uid : Uid) (value : HeadFields) → IsHeld size counts t q
    → Some value ≡ keeper t uid → value.size ≤ 67108864
kept_short size counts t q uid value held is =
    let kept : IsKeptOn t.blocks value = subst (λ o. IfSome o (IsKeptOn t.blocks)) (sym is) (held.kept uid) in
    short value.size (blocks_of value.size) t.blocks.needed (data_count t.blocks.size) t.blocks.size (fills value.size) kept.needed
    held.table.blocks.needed (counted t.blocks.size) (size_parts t.blocks.size held.table.blocks.sized).1
  where
    fills : (n : ℕ) → n ≤ 1022 * blocks_of n
    fills n = omega arith

    counted : (n : ℕ) → data_count n ≤ n / 1024
    counted n = omega arith

    short : (n blocks needed count size : ℕ) → n ≤ 1022 * blocks → blocks ≤ needed → needed ≤ count → count ≤ size / 1024 → size ≤ 67108864
        → n ≤ 67108864
    short n blocks needed count size a b c d e = omega (arith, a, b, c, d, e)
