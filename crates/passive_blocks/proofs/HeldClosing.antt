-- A head that may be closed is closed: what holds in memory goes on holding.
use Rattle.std.proofs.Common.{◌≡◌, ℕ, ◌+◌, ◌-◌, ◌≤◌, Bool, true, false, ◌||◌, ◌&&◌, not, ◌==◌, List}
use Rattle.std.proofs.Common.{length, set, refl, sym, ap, subst, ◌∙◌, arith, inl, inr, Option, None, Some}
use Rattle.std.specs.Prelude.{if◌then◌else◌, IfSome, IsSome, sum_by}
use Rattle.std.specs.Ordering.{eq_by_cmp}
use Rattle.std.proofs.lemmas.Bool.{false≢true, cases_eq, cases_Bool, and_parts, and_left, or_cases, both_ways, false_from_ne_true, eqb-true}
use Rattle.std.proofs.lemmas.Bool.{eqb-false, eq-eqb, ne_eqb, not-true}
use Rattle.std.proofs.lemmas.List.{length-set}
use Rattle.std.specs.BTreeMap as tree
use Rattle.capability.specs.declared.Uid.{Uid}
use Rattle.capability.specs.Uids.{uid_cmp}
use Rattle.eden_disk.specs.Calls.{Counts}
use Rattle.block_tables.specs.declared.heads.HeadFields.{HeadFields}
use Rattle.block_tables.specs.declared.index.IndexEntry.{IndexEntry}
use Rattle.block_tables.specs.declared.table.Table.{Table}
use Rattle.block_tables.specs.declared.head_table.HeadTable.{HeadTable}
use Rattle.passive_blocks.specs.declared.block_store.Pending.{Pending}
use Rattle.block_tables.specs.Members.{is_member}
use Rattle.block_tables.specs.Blocks.{Head, blocks_of, keeping, is_data}
use Rattle.block_tables.specs.HeadState.{AreHeads, heads_in, slot_at, closed_slot, entry_at, is_open, is_open_of, is_it, closed_entry}
use Rattle.block_tables.specs.HeadState.{no_entry, lone_in, IsLatest, count_of, one_if_some}
use Rattle.block_tables.specs.TableState.{IsKeptOn}
use Rattle.passive_blocks.specs.HeldState.{IsHeld, IsPlanned, MayClose, AreApart, times, one_if, chain_by, planned_blocks, behind_walk}
use Rattle.passive_blocks.specs.HeldState.{must_close, closes_next}
use Rattle.block_tables.proofs.Slots.{slot_same, slot_other, other_open, own_uid, same_uids, two_of}
use Rattle.block_tables.proofs.OpenHeads.{open_within}
use Rattle.block_tables.proofs.OpenHeads.{open_is}
use Rattle.passive_blocks.proofs.HeldSums.{uid_is, is_of, same_itself}
use Rattle.passive_blocks.proofs.HeldKeepers.{apart_closed, keeping_when_closed, keeper_known, entry_when_closed, entry_beside_closed}

closed_it : (n j : ℕ) (e : IndexEntry) → is_it j (closed_entry n e).latest ≡ true
    → (is_it j e.latest ≡ true) × (e.others ≡ 0 → (closed_entry n e).others ≡ 0)
closed_it n j e there = go (is_it n e.latest) there
  where
    go : (b : Bool) → is_it j (if b then no_entry else record { latest = e.latest; others = e.others - 1 }).latest ≡ true
        → (is_it j e.latest ≡ true)
        × (e.others ≡ 0 → (if b then no_entry else record { latest = e.latest; others = e.others - 1 }).others ≡ 0)
    go true is = absurd (false≢true is)
    go false is = (is, λ none. omega (arith, none))

pub it_is : (k : ℕ) (latest : Option ℕ) → is_it k latest ≡ true → latest ≡ Some k
it_is k None is = absurd (false≢true is)
it_is k (Some m) is = ap Some (sym (eqb-true k m is))

-- the head that a closing leaves alone
abbrev LeavesAlone : List HeadFields → ℕ → ℕ → Option ℕ → ℕ → Type 0
LeavesAlone slots n k latest others = (is_it n latest ≡ false) × (is_it k latest ≡ true) × ((slot_at slots k).removal
    ≡ true) × (others - 1 ≡ 0)

lone_when : (slots : List HeadFields) (k m others : ℕ) (r z : Bool) → (slot_at slots m).removal ≡ r → (others == 0) ≡ z
    → is_it k (if r && z then Some m else None) ≡ true → ((k == m) ≡ true) × ((slot_at slots k).removal ≡ true) × (others ≡ 0)
lone_when slots k m others true true removal none there =
    (there, ap (λ j. (slot_at slots j).removal) (eqb-true k m there) ∙ removal, eqb-true others 0 none)
lone_when slots k m others true false removal none there = absurd (false≢true there)
lone_when slots k m others false z removal none there = absurd (false≢true there)

lone_is : (slots : List HeadFields) (n k : ℕ) (latest : Option ℕ) (others : ℕ)
    → is_it k (lone_in slots (closed_entry n (record { latest = latest; others = others }))) ≡ true → LeavesAlone slots n k latest others
lone_is slots n k None others there = absurd (false≢true there)
lone_is slots n k (Some m) others there = go (n == m) refl there
  where
    go : (b : Bool) → (n == m) ≡ b
        → is_it k (lone_in slots (if b then no_entry else record { latest = Some m; others = others - 1 })) ≡ true
        → LeavesAlone slots n k (Some m) others
    go true same there = absurd (false≢true there)
    go false other there =
        let w = lone_when slots k m (others - 1) (slot_at slots m).removal ((others - 1) == 0) refl refl there in
        (other, w.0, w.1, w.2)

planned_stays : (t new : Table) (pending : Option Pending) → ((p : Pending) → IsPlanned t p → IsPlanned new p)
    → IfSome pending (IsPlanned t)
    → IfSome pending (IsPlanned new)
planned_stays t new None stays planned = tt
planned_stays t new (Some p) stays planned = stays p planned

-- What is known of a closing.
record Closed (t : Table) (h : HeadTable) (n : ℕ) : Type 0 where
  old : AreHeads t.heads
  heads : AreHeads h
  apart : AreApart t.heads.slots.items
  may : MayClose t n
  items : h.slots.items ≡ set t.heads.slots.items n closed_slot

closed_at : (t : Table) (h : HeadTable) (n k : ℕ) → Closed t h n → (k ≡ n → ⊥) → slot_at h.slots.items k ≡ slot_at t.heads.slots.items k
closed_at t h n k c other = ap (λ s. slot_at s k) c.items ∙ slot_other t.heads.slots.items n k closed_slot other

-- a head that counts under a uid counted before, and had no fewer beside it
still_it : (t : Table) (h : HeadTable) (n j : ℕ) (uid : Uid) → Closed t h n → is_it j (entry_at h.index uid).latest ≡ true
    → (is_it j (entry_at t.heads.index uid).latest ≡ true)
    × ((entry_at t.heads.index uid).others ≡ 0 → (entry_at h.index uid).others ≡ 0)
still_it t h n j uid c there = elim (cases_Bool (eq_by_cmp uid_cmp uid (slot_at t.heads.slots.items n).uid)) [
  | inl same ↦
      let is : entry_at h.index uid ≡ closed_entry n (entry_at t.heads.index uid) =
      entry_when_closed t.heads h n uid c.old c.heads c.apart c.may.on c.may.opened c.may.alone c.items
      (same_uids uid (slot_at t.heads.slots.items n).uid same) in
      let parts = closed_it n j (entry_at t.heads.index uid) (sym (ap (λ (e : IndexEntry). is_it j e.latest) is) ∙ there) in
      (parts.0, λ none. ap (λ (e : IndexEntry). e.others) is ∙ parts.1 none)
  | inr other ↦
      let is : entry_at h.index uid ≡ entry_at t.heads.index uid =
      entry_beside_closed t.heads h n uid c.old c.heads c.apart c.may.on c.items other in
      (sym (ap (λ (e : IndexEntry). is_it j e.latest) is) ∙ there, λ none. ap (λ (e : IndexEntry). e.others) is ∙ none)
]

-- another head that may be closed still may
still_may : (t : Table) (h : HeadTable) (n j : ℕ) → Closed t h n → (j ≡ n → ⊥) → MayClose t j
    → MayClose (record { heads = h; blocks = t.blocks }) j
still_may t h n j c other may =
    let at : slot_at h.slots.items j ≡ slot_at t.heads.slots.items j = closed_at t h n j c other in
    record {
      on = omega (arith, may.on, ap length c.items, length-set t.heads.slots.items n closed_slot);
      opened = ap is_open at ∙ may.opened;
      alone = subst (λ (s : HeadFields). is_it j (entry_at h.index s.uid).latest ≡ true → (entry_at h.index s.uid).others ≡ 0) (sym at)
          (λ there. let parts = still_it t h n j (slot_at t.heads.slots.items j).uid c there in parts.1 (may.alone parts.0));
      removal = subst (λ (s : HeadFields). is_it j (entry_at h.index s.uid).latest ≡ true → s.removal ≡ true) (sym at)
          (λ there. may.removal (still_it t h n j (slot_at t.heads.slots.items j).uid c there).0);
    }

-- a removal that a closing leaves alone may be closed, and was not to be closed before
left_alone : (t : Table) (h : HeadTable) (n k : ℕ) → Closed t h n → ((j : ℕ) → is_member t.heads.closing j ≡ true → MayClose t j)
    → LeavesAlone t.heads.slots.items n k (entry_at t.heads.index (slot_at t.heads.slots.items n).uid).latest
    (entry_at t.heads.index (slot_at t.heads.slots.items n).uid).others
    → MayClose (record { heads = h; blocks = t.blocks }) k × (is_member t.heads.closing k ≡ false) × (k ≡ n → ⊥)
left_alone t h n k c closing left =
    let slots : List HeadFields = t.heads.slots.items in
    let own : Uid = (slot_at slots n).uid in
    let entry : IndexEntry = entry_at t.heads.index own in
    let latest : entry.latest ≡ Some k = it_is k entry.latest left.1 in
    let is : IsLatest slots own (Some k) = subst (IsLatest slots own) latest (c.old.entries own).0 in
    let uid : (slot_at slots k).uid ≡ own = uid_is (slot_at slots k) own is.0 in
    let other : k ≡ n → ⊥ = λ same. both_ways (is_it n entry.latest) left.0 (ap (is_it n) latest ∙ eq-eqb n k (sym same)) in
    let some : 1 ≤ entry.others = other_open slots own n entry.latest entry.others c.may.on (own_uid (slot_at slots n) c.may.opened)
    (c.old.entries own) left.0 in
    let at : slot_at h.slots.items k ≡ slot_at slots k = closed_at t h n k c other in
    let now : entry_at h.index own ≡ closed_entry n entry =
    entry_when_closed t.heads h n own c.old c.heads c.apart c.may.on c.may.opened c.may.alone c.items refl in
    let none : (entry_at h.index own).others ≡ 0 =
    ap (λ (e : IndexEntry). e.others) now
    ∙ ap (λ b. (if b then no_entry else record { latest = entry.latest; others = entry.others - 1 }).others) left.0 ∙ left.3 in (
      record {
        on = omega (
          arith,
          open_within slots k (open_is (slot_at slots k) own is.0),
          ap length c.items,
          length-set slots n closed_slot,
        );
        opened = ap is_open at ∙ open_is (slot_at slots k) own is.0;
        alone = λ there. ap (λ (s : HeadFields). (entry_at h.index s.uid).others) at ∙ ap (λ u. (entry_at h.index u).others) uid ∙ none;
        removal = λ there. ap (λ (s : HeadFields). s.removal) at ∙ left.2;
      },
      false_from_ne_true (is_member t.heads.closing k) (λ there.
          let zero_others : entry.others ≡ 0 =
          subst (λ u. is_it k (entry_at t.heads.index u).latest ≡ true → (entry_at t.heads.index u).others
          ≡ 0) uid (closing k there).alone left.1 in
          omega (arith, some, zero_others)),
      other,
    )

still_planned : (t : Table) (h : HeadTable) (n : ℕ) (p : Pending) → Closed t h n
    → ((q : Uid) → IsSome (tree.get uid_cmp t.heads.index q) → IsSome (tree.get uid_cmp h.index q)) → IsPlanned t p
    → IsPlanned (record { heads = h; blocks = t.blocks }) p
still_planned t h n p c keys planned =
    let slots : List HeadFields = t.heads.slots.items in
    let other : p.head.number ≡ n → ⊥ = λ same. both_ways (is_open (slot_at slots n))
    (ap (λ j. is_open (slot_at slots j)) (sym same) ∙ planned.shut) c.may.opened in
    record {
      number = omega (arith, planned.number, ap length c.items, length-set slots n closed_slot);
      shut = ap is_open (closed_at t h n p.head.number c other) ∙ planned.shut;
      opened = planned.opened;
      later = λ k. elim (cases_eq k n) [
        | inl same ↦ omega (
          arith,
          ap (λ (s : HeadFields). s.sequence) (ap (λ s. slot_at s k) c.items ∙ ap (slot_at (set slots n closed_slot)) same
              ∙ slot_same slots n closed_slot c.may.on),
          planned.later n,
        )
        | inr apart_k ↦ omega (arith, ap (λ (s : HeadFields). s.sequence) (closed_at t h n k c apart_k), planned.later k)
      ];
      entry = keys p.head.uid planned.entry;
      fits = planned.fits;
      chain = planned.chain;
      ends = planned.ends;
      bytes = planned.bytes;
    }

three : (a l c : Bool) → ((a || l) || c) ≡ (a || (l || c))
three true l c = refl
three false l c = refl

lone_one : (slots : List HeadFields) (k m others : ℕ) → (k == m) ≡ true
    → is_it k (if (slot_at slots m).removal && (others == 0) then Some m else None) ≡ ((slot_at slots k).removal && (others == 0))
lone_one slots k m others same =
    subst (λ j. is_it k (if (slot_at slots j).removal && (others == 0) then Some j else None) ≡ ((slot_at slots k).removal
    && (others == 0)))
    (eqb-true k m same) (go ((slot_at slots k).removal && (others == 0)))
  where
    go : (b : Bool) → is_it k (if b then Some k else None) ≡ b
    go true = eq-eqb k k refl
    go false = refl

-- of the uid of the head that is closed, which was not the one that counts
closes_own : (slots : List HeadFields) (n k : ℕ) (opened : Bool) (latest : Option ℕ) (others : ℕ) → opened ≡ true
    → is_it n latest ≡ false → 1 ≤ others
    → (is_it k (lone_in slots (closed_entry n (record { latest = latest; others = others })))
    || (opened && (not (is_it k latest) || ((slot_at slots k).removal && others == 0))))
    ≡ (opened && (not (is_it k (closed_entry n (record { latest = latest; others = others })).latest)
    || ((slot_at slots k).removal && (closed_entry n (record { latest = latest; others = others })).others == 0)))
closes_own slots n k false latest others opened not_it some = absurd (false≢true opened)
closes_own slots n k true None others opened not_it some = refl
closes_own slots n k true (Some m) others opened not_it some =
    subst (λ b. (is_it k (lone_in slots (if b then no_entry else record { latest = Some m; others = others - 1 }))
    || (not (k == m) || ((slot_at slots k).removal && others == 0)))
    ≡ (not (is_it k (if b then no_entry else record { latest = Some m; others = others - 1 }).latest)
    || ((slot_at slots k).removal && (if b then no_entry else record { latest = Some m; others = others - 1 }).others == 0))) (sym not_it)
    (go (k == m) refl)
  where
    none : (r : Bool) → (r && (others == 0)) ≡ false
    none true = ne_eqb others 0 (λ e. omega (arith, e, some))
    none false = refl

    or_true : (a : Bool) → (a || true) ≡ true
    or_true true = refl
    or_true false = refl

    or_false : (a : Bool) → (a || false) ≡ a
    or_false true = refl
    or_false false = refl

    go : (b : Bool) → (k == m) ≡ b
        → (is_it k (lone_in slots (record { latest = Some m; others = others - 1 })) || (not b || ((slot_at slots k).removal
        && others == 0)))
        ≡ (not b || ((slot_at slots k).removal && (others - 1) == 0))
    go true same =
        ap (λ r. is_it k (lone_in slots (record { latest = Some m; others = others - 1 })) || r) (none (slot_at slots k).removal)
        ∙ or_false (is_it k (lone_in slots (record { latest = Some m; others = others - 1 })))
        ∙ lone_one slots k m (others - 1) same
    go false other = or_true (is_it k (lone_in slots (record { latest = Some m; others = others - 1 })))

-- What the next change closes behind a closing: what it closed before, and the removal that is left alone.
closes_behind : (t : Table) (h : HeadTable) (n k : ℕ) → Closed t h n → ((j : ℕ) → is_member t.heads.closing j ≡ true → MayClose t j)
    → (k ≡ n → ⊥)
    → (is_it k (lone_in t.heads.slots.items (closed_entry n (entry_at t.heads.index (slot_at t.heads.slots.items n).uid)))
    || closes_next t k)
    ≡ closes_next (record { heads = h; blocks = t.blocks }) k
closes_behind t h n k c closing apart_n =
    let slots : List HeadFields = t.heads.slots.items in
    let own : Uid = (slot_at slots n).uid in
    let entry : IndexEntry = entry_at t.heads.index own in
    let at : slot_at h.slots.items k ≡ slot_at slots k = closed_at t h n k c apart_n in
    let left = λ (is : is_it k (lone_in slots (closed_entry n entry)) ≡ true). lone_is slots n k entry.latest entry.others is in
    let of_own = λ (is : is_it k (lone_in slots (closed_entry n entry)) ≡ true).
    (subst (IsLatest slots own) (it_is k entry.latest (left is).1) (c.old.entries own).0).0 in
    elim (cases_Bool (is_open (slot_at slots k))) [
      | inr shut ↦
          ap (λ b. b || closes_next t k) (false_from_ne_true (is_it k (lone_in slots (closed_entry n entry))) (λ is.
          both_ways (is_open (slot_at slots k)) shut (open_is (slot_at slots k) own (of_own is))))
          ∙ and_left (is_open (slot_at slots k)) (not (is_it k (entry_at t.heads.index (slot_at slots k).uid).latest)
          || ((slot_at slots k).removal && (entry_at t.heads.index (slot_at slots k).uid).others == 0)) shut
          ∙ sym (and_left (is_open (slot_at h.slots.items k)) (not (is_it k (entry_at h.index (slot_at h.slots.items k).uid).latest)
          || ((slot_at h.slots.items k).removal && (entry_at h.index (slot_at h.slots.items k).uid).others == 0)) (ap is_open at ∙ shut))
      | inl opened ↦ elim (cases_Bool (eq_by_cmp uid_cmp (slot_at slots k).uid own)) [
        | inr other ↦
            ap (λ b. b || closes_next t k) (false_from_ne_true (is_it k (lone_in slots (closed_entry n entry))) (λ is.
            both_ways (eq_by_cmp uid_cmp (slot_at slots k).uid own) other
            (ap (λ u. eq_by_cmp uid_cmp u own) (uid_is (slot_at slots k) own (of_own is)) ∙ same_itself own)))
            ∙ ap (λ e. must_close slots k e) (sym (entry_beside_closed t.heads h n
            (slot_at slots k).uid c.old c.heads c.apart c.may.on c.items other))
            ∙ sym (same_place at (λ u. entry_at h.index u))
        | inl same ↦
            let uid : (slot_at slots k).uid ≡ own = same_uids (slot_at slots k).uid own same in
            let of : is_open_of own (slot_at slots k) ≡ true = is_of (slot_at slots k) own opened uid in
            let not_it : is_it n entry.latest ≡ false = false_from_ne_true (is_it n entry.latest) (λ it.
            two_alone (entry.others) (count_of slots own) (c.may.alone it)
            (subst (λ l. entry.others + one_if_some l ≡ count_of slots own) (it_is n entry.latest it) (c.old.entries own).1)
            (two_of slots own n k c.may.on (own_uid (slot_at slots n) c.may.opened) apart_n of)) in
            ap (λ u. is_it k (lone_in slots (closed_entry n entry)) || must_close slots k (entry_at t.heads.index u)) uid
            ∙ closes_own slots n k (is_open (slot_at slots k)) entry.latest entry.others opened not_it
            (other_open slots own n entry.latest entry.others c.may.on (own_uid (slot_at slots n) c.may.opened) (c.old.entries own) not_it)
            ∙ ap (λ e. must_close slots k e)
            (sym (entry_when_closed t.heads h n own c.old c.heads c.apart c.may.on c.may.opened c.may.alone c.items refl)
            ∙ ap (λ u. entry_at h.index u) (sym uid))
            ∙ sym (same_place at (λ u. entry_at h.index u))
      ]
    ]
  where
    same_place : {a b : HeadFields} → a ≡ b → (f : Uid → IndexEntry)
        → (is_open a && (not (is_it k (f a.uid).latest) || (a.removal && (f a.uid).others == 0)))
        ≡ (is_open b && (not (is_it k (f b.uid).latest) || (b.removal && (f b.uid).others == 0)))
    same_place same f = ap (λ (s : HeadFields). is_open s && (not (is_it k (f s.uid).latest) || (s.removal && (f s.uid).others == 0))) same

    two_alone : (others count : ℕ) → others ≡ 0 → others + 1 ≡ count → 2 ≤ count → ⊥
    two_alone others count none is two = omega (arith, none, is, two)

-- A head that the change closes is closed.
pub held_when_closed : (size : ℕ) (counts : Counts) (t : Table) (h : HeadTable) (pending : Option Pending) (n : ℕ)
    → IsHeld size counts t pending → is_member t.heads.closing n ≡ true → AreHeads h
    → h.slots.items ≡ set t.heads.slots.items n closed_slot
    → ((k : ℕ) → is_member h.closing k ≡ (not (k == n) && is_member t.heads.closing k))
    → ((k : ℕ) → is_member h.lone k
    ≡ (is_it k (lone_in t.heads.slots.items (closed_entry n (entry_at t.heads.index (slot_at t.heads.slots.items n).uid)))
    || is_member t.heads.lone k))
    → ((q : Uid) → IsSome (tree.get uid_cmp t.heads.index q) → IsSome (tree.get uid_cmp h.index q))
    → IsHeld size counts (record { heads = h; blocks = t.blocks }) pending
held_when_closed size counts t h pending n held there heads items closing lone keys =
    let slots : List HeadFields = t.heads.slots.items in
    let own : Uid = (slot_at slots n).uid in
    let entry : IndexEntry = entry_at t.heads.index own in
    let may : MayClose t n = held.closing n there in
    let new : Table = record { heads = h; blocks = t.blocks } in
    let c : Closed t h n = record { old = held.table.heads; heads = heads; apart = held.apart; may = may; items = items } in
    let same : keeping (heads_in h.slots.items) ≡ keeping (heads_in slots) =
    ap (λ s. keeping (heads_in s)) items
    ∙ keeping_when_closed slots n entry.latest entry.others held.apart may.on may.opened
    (held.table.heads.entries own) may.alone may.removal in
    let apart : AreApart h.slots.items = subst AreApart (sym items) (apart_closed slots n held.apart may.on) in
    let keeps = λ (uid : Uid). keeper_known slots h.slots.items uid (entry_at t.heads.index uid).latest
    (entry_at h.index uid).latest held.apart apart
    (held.table.heads.entries uid).0 (heads.entries uid).0 same in
    record {
      table = record {
        heads = heads;
        blocks = held.table.blocks;
        count = ap length items ∙ length-set slots n closed_slot ∙ held.table.count;
      };
      sized = held.sized;
      same = held.same;
      apart = apart;
      kept = λ uid. subst (λ o. IfSome o (IsKeptOn t.blocks)) (sym (keeps uid)) (held.kept uid);
      ends = λ uid. subst (λ o. IfSome o (λ (x : HeadFields). behind_walk t.blocks.next.items x.first (blocks_of x.size)
          ≡ 0)) (sym (keeps uid))
          (held.ends uid);
      needed = held.needed ∙ sym (ap (sum_by (λ (x : Head). blocks_of x.size)) same);
      places = λ k. subst (λ (hs : List Head). one_if (is_member t.blocks.free k) + (sum_by (λ (x : Head). times k
          (chain_by t.blocks.next.items x)) hs
          + times k (planned_blocks t.blocks.next.items pending)) ≡ one_if (is_data size k)) (sym same) (held.places k);
      closing = λ k is.
          let parts = and_parts (not (k == n)) (is_member t.heads.closing k) (sym (closing k) ∙ is) in
          still_may t h n k c (eqb-false k n (not-true (k == n) parts.0)) (held.closing k parts.1);
      lone = λ k is. elim (or_cases (is_it k (lone_in slots (closed_entry n entry))) (is_member t.heads.lone k) (sym (lone k) ∙ is)) [
        | inl new_one ↦
            let left = left_alone t h n k c held.closing (lone_is slots n k entry.latest entry.others new_one) in
            (left.0, closing k ∙ ap (λ b. not (k == n) && b) left.1 ∙ none (not (k == n)))
        | inr old_one ↦
            let before = held.lone k old_one in (
              still_may t h n k c (λ e. both_ways (is_member t.heads.closing k) before.1
                  (ap (is_member t.heads.closing) e ∙ there)) before.0,
              closing k ∙ ap (λ b. not (k == n) && b) before.1 ∙ none (not (k == n)),
            )
      ];
      all = λ k. ap (λ b. b || is_member h.closing k) (lone k) ∙ ap (λ b. (is_it k (lone_in slots (closed_entry n entry))
          || is_member t.heads.lone k) || b)
          (closing k) ∙ elim (cases_eq k n) [
            | inl e ↦
                let out : is_it k (lone_in slots (closed_entry n entry)) ≡ false =
                false_from_ne_true (is_it k (lone_in slots (closed_entry n entry))) (λ it.
                let left = lone_is slots n k entry.latest entry.others it in
                both_ways (is_it k entry.latest) (ap (λ j. is_it j entry.latest) e ∙ left.0) left.1) in
                let not_lone : is_member t.heads.lone k ≡ false =
                false_from_ne_true (is_member t.heads.lone k) (λ one.
                both_ways (is_member t.heads.closing k) (held.lone k one).1 (ap (is_member t.heads.closing) e ∙ there)) in
                ap (λ b. (b || is_member t.heads.lone k) || (not (k == n) && is_member t.heads.closing k)) out
                ∙ ap (λ b. b || (not (k == n) && is_member t.heads.closing k)) not_lone
                ∙ ap (λ b. not b && is_member t.heads.closing k) (eq-eqb k n e)
                ∙ sym (and_left (is_open (slot_at h.slots.items k)) (not (is_it k (entry_at h.index (slot_at h.slots.items k).uid).latest)
                || ((slot_at h.slots.items k).removal && (entry_at h.index (slot_at h.slots.items k).uid).others == 0))
                (ap is_open (ap (λ s. slot_at s k) items ∙ ap (slot_at (set slots n closed_slot)) e
                ∙ slot_same slots n closed_slot may.on)))
            | inr apart_n ↦
                ap (λ b. (is_it k (lone_in slots (closed_entry n entry)) || is_member t.heads.lone k) || (not b
                && is_member t.heads.closing k))
                (ne_eqb k n apart_n)
                ∙ three (is_it k (lone_in slots (closed_entry n entry))) (is_member t.heads.lone k) (is_member t.heads.closing k)
                ∙ ap (λ b. is_it k (lone_in slots (closed_entry n entry)) || b) (held.all k)
                ∙ closes_behind t h n k c held.closing apart_n
          ];
      planned = planned_stays t new pending (λ p planned. still_planned t h n p c keys planned) held.planned;
    }
  where
    none : (b : Bool) → (b && false) ≡ false
    none true = refl
    none false = refl
