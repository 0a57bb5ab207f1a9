-- A change that waited is made or not made: what holds in memory goes on holding.
use Rattle.std.proofs.Common.{◌≡◌, ℕ, ◌+◌, ◌-◌, ◌≤◌, ◌<◌, Bool, true, false, ◌||◌, ◌&&◌, not, ◌==◌, List, []}
use Rattle.std.proofs.Common.{length, set, refl, sym, ap, subst, ◌∙◌, arith, inl, inr, Option, None, Some}
use Rattle.std.specs.Prelude.{if◌then◌else◌, IfSome, IsSome, sum_by}
use Rattle.std.specs.Ordering.{eq_by_cmp}
use Rattle.std.proofs.lemmas.Bool.{false≢true, cases_eq, cases_Bool, and_parts, and_left, or_cases, both_ways, false_from_ne_true, eqb-true}
use Rattle.std.proofs.lemmas.Bool.{eq-eqb, ne_eqb, le-ltb}
use Rattle.std.proofs.lemmas.List.{length-set}
use Rattle.std.specs.BTreeMap as tree
use Rattle.capability.specs.declared.Uid.{Uid}
use Rattle.capability.specs.Uids.{uid_cmp}
use Rattle.eden_disk.specs.Calls.{Counts}
use Rattle.block_tables.specs.declared.heads.HeadFields.{HeadFields}
use Rattle.block_tables.specs.declared.index.IndexEntry.{IndexEntry}
use Rattle.block_tables.specs.declared.table.Table.{Table}
use Rattle.block_tables.specs.declared.block_table.BlockTable.{BlockTable}
use Rattle.passive_blocks.specs.declared.block_store.Pending.{Pending}
use Rattle.block_tables.specs.Members.{is_member}
use Rattle.block_tables.specs.Blocks.{Head, blocks_of, data_count, keeping, is_data, has}
use Rattle.block_tables.specs.HeadSeen.{head_of}
use Rattle.block_tables.specs.HeadState.{heads_in, slot_at, entry_at, is_open, is_it, IsLatest, kept_slot, outdated}
use Rattle.block_tables.specs.BlockState.{walk, AreDataIn}
use Rattle.block_tables.specs.TableState.{IsTable, IsKeptOn, keeper, blocks_kept, blocks_under, stands_alone}
use Rattle.passive_blocks.specs.HeldState.{IsHeld, IsPlanned, MayClose, AreApart, times, one_if, chain_by, times_kept, planned_blocks}
use Rattle.passive_blocks.specs.HeldState.{blocks_planned, behind_walk, must_close, closes_next}
use Rattle.block_tables.proofs.Slots.{slot_same, slot_other, same_uids}
use Rattle.block_tables.proofs.OpenHeads.{open_within}
use Rattle.block_tables.proofs.OpenHeads.{open_is}
use Rattle.passive_blocks.proofs.HeldSums.{uid_is, same_itself, weight_of, sum_when_joined}
use Rattle.passive_blocks.proofs.HeldCounts.{once}
use Rattle.passive_blocks.proofs.HeldKeepers.{apart_joined, latest_when_joined, entry_beside_joined, kept_beside, kept_joined}
use Rattle.passive_blocks.proofs.HeldFacts.{few_one, times_under, size_under, planned_times, keeper_times, keeper_size}
use Rattle.passive_blocks.proofs.HeldFacts.{kept_by_places}
use Rattle.passive_blocks.proofs.HeldClosing.{it_is}

-- What is known of a change that is made.
pub record Made (t new : Table) (x : HeadFields) : Type 0 where
  pub old : IsTable t
  pub table : IsTable new
  pub apart : AreApart t.heads.slots.items
  pub within : x.number < length t.heads.slots.items
  pub shut : is_open (slot_at t.heads.slots.items x.number) ≡ false
  pub opened : is_open x ≡ true
  pub later : (k : ℕ) → (slot_at t.heads.slots.items k).sequence < x.sequence
  pub items : new.heads.slots.items ≡ set t.heads.slots.items x.number x

-- What is kept under the uid of the change, and what is kept under another.
pub keeper_of_made : (t new : Table) (x : HeadFields) (uid : Uid) → Made t new x → eq_by_cmp uid_cmp uid x.uid ≡ true
    → keeper new uid ≡ (if x.removal then None else Some x)
keeper_of_made t new x uid m same =
    ap (kept_slot new.heads.slots.items)
    (latest_when_joined t.heads new.heads x uid m.table.heads m.apart m.within m.opened m.later m.items (same_uids uid x.uid same))
    ∙ ap (λ s. kept_slot s (Some x.number)) m.items ∙ kept_joined t.heads.slots.items x x.number m.within

pub keeper_beside_made : (t new : Table) (x : HeadFields) (uid : Uid) → Made t new x → eq_by_cmp uid_cmp uid x.uid ≡ false
    → keeper new uid ≡ keeper t uid
keeper_beside_made t new x uid m other =
    let slots : List HeadFields = t.heads.slots.items in
    ap (λ s. kept_slot s (entry_at new.heads.index uid).latest) m.items
    ∙ ap (λ (e : IndexEntry). kept_slot (set slots x.number x) e.latest)
    (entry_beside_joined t.heads new.heads x uid m.old.heads m.table.heads m.apart m.within m.shut m.later m.items other)
    ∙ kept_beside slots x x.number uid (entry_at t.heads.index uid).latest (m.old.heads.entries uid).0 m.shut

made_at : (t new : Table) (x : HeadFields) (k : ℕ) → Made t new x → (k ≡ x.number → ⊥)
    → slot_at new.heads.slots.items k ≡ slot_at t.heads.slots.items k
made_at t new x k m other = ap (λ s. slot_at s k) m.items ∙ slot_other t.heads.slots.items x.number k x other

made_here : (t new : Table) (x : HeadFields) → Made t new x → slot_at new.heads.slots.items x.number ≡ x
made_here t new x m = ap (λ s. slot_at s x.number) m.items ∙ slot_same t.heads.slots.items x.number x m.within

-- the head of the change is none of those that were open
apart_from : (t new : Table) (x : HeadFields) (k : ℕ) → Made t new x → is_open (slot_at t.heads.slots.items k) ≡ true → k ≡ x.number → ⊥
apart_from t new x k m opened same =
    both_ways (is_open (slot_at t.heads.slots.items x.number)) m.shut (ap (λ j. is_open (slot_at t.heads.slots.items j)) (sym same)
    ∙ opened)

-- where another head counts, its uid is not that of the change
beside : (t new : Table) (x : HeadFields) (k : ℕ) (uid : Uid) → Made t new x → (k ≡ x.number → ⊥)
    → is_it k (entry_at new.heads.index uid).latest ≡ true → entry_at new.heads.index uid ≡ entry_at t.heads.index uid
beside t new x k uid m other there = elim (cases_Bool (eq_by_cmp uid_cmp uid x.uid)) [
  | inl same ↦ absurd (other (eqb-true k x.number
      (sym (ap (is_it k) (latest_when_joined t.heads new.heads x uid m.table.heads m.apart m.within m.opened m.later m.items
      (same_uids uid x.uid same)))
      ∙ there)))
  | inr apart ↦ entry_beside_joined t.heads new.heads x uid m.old.heads m.table.heads m.apart m.within m.shut m.later m.items apart
]

-- a head that might be closed may be closed
made_may : (t new : Table) (x : HeadFields) (k : ℕ) → Made t new x → MayClose t k → MayClose new k
made_may t new x k m may =
    let other : k ≡ x.number → ⊥ = apart_from t new x k m may.opened in
    let at : slot_at new.heads.slots.items k ≡ slot_at t.heads.slots.items k = made_at t new x k m other in
    let uid : Uid = (slot_at t.heads.slots.items k).uid in
    record {
      on = omega (arith, may.on, ap length m.items, length-set t.heads.slots.items x.number x);
      opened = ap is_open at ∙ may.opened;
      alone = subst (λ (s : HeadFields). is_it k (entry_at new.heads.index s.uid).latest ≡ true
          → (entry_at new.heads.index s.uid).others ≡ 0) (sym at)
          (λ there.
          let same : entry_at new.heads.index uid ≡ entry_at t.heads.index uid = beside t new x k uid m other there in
          ap (λ (e : IndexEntry). e.others) same ∙ may.alone (sym (ap (λ (e : IndexEntry). is_it k e.latest) same) ∙ there));
      removal = subst (λ (s : HeadFields). is_it k (entry_at new.heads.index s.uid).latest ≡ true → s.removal ≡ true) (sym at)
          (λ there. may.removal (sym (ap (λ (e : IndexEntry). is_it k e.latest) (beside t new x k uid m other there)) ∙ there));
    }

-- so may the one that counted before
outdated_is : (slots : List HeadFields) (x : HeadFields) (k : ℕ) (latest : Option ℕ) → ((j : ℕ) → (slot_at slots j).sequence < x.sequence)
    → is_it k (outdated slots x latest) ≡ true → is_it k latest ≡ true
outdated_is slots x k None later there = there
outdated_is slots x k (Some m) later there =
    sym (ap (λ b. is_it k (if b then Some x.number else Some m))
    (le-ltb x.sequence (slot_at slots m).sequence (omega (arith, later m)))) ∙ there

outdated_may : (t new : Table) (x : HeadFields) (k : ℕ) → Made t new x
    → is_it k (outdated t.heads.slots.items x (entry_at t.heads.index x.uid).latest) ≡ true → MayClose new k
outdated_may t new x k m there =
    let slots : List HeadFields = t.heads.slots.items in
    let latest : (entry_at t.heads.index x.uid).latest ≡ Some k =
    it_is k (entry_at t.heads.index x.uid).latest (outdated_is slots x k (entry_at t.heads.index x.uid).latest m.later there) in
    let is : IsLatest slots x.uid (Some k) = subst (IsLatest slots x.uid) latest (m.old.heads.entries x.uid).0 in
    let opened : is_open (slot_at slots k) ≡ true = open_is (slot_at slots k) x.uid is.0 in
    let other : k ≡ x.number → ⊥ = apart_from t new x k m opened in
    let at : slot_at new.heads.slots.items k ≡ slot_at slots k = made_at t new x k m other in
    let uid : (slot_at new.heads.slots.items k).uid ≡ x.uid = ap (λ (s : HeadFields). s.uid) at ∙ uid_is (slot_at slots k) x.uid is.0 in
    let never = λ (it : is_it k (entry_at new.heads.index (slot_at new.heads.slots.items k).uid).latest ≡ true).
    other (eqb-true k x.number
    (sym (ap (is_it k) (latest_when_joined t.heads new.heads x
    (slot_at new.heads.slots.items k).uid m.table.heads m.apart m.within m.opened m.later
    m.items uid)) ∙ it)) in
    record {
      on = omega (arith, open_within slots k opened, ap length m.items, length-set slots x.number x);
      opened = ap is_open at ∙ opened;
      alone = λ it. absurd (never it);
      removal = λ it. absurd (never it);
    }

four : (a b c d : Bool) → (a && (b && (c && d))) ≡ true → (c ≡ true) × (d ≡ true)
four true true true true is = (refl, refl)
four true true true false is = absurd (false≢true is)
four true true false d is = absurd (false≢true is)
four true false c d is = absurd (false≢true is)
four false b c d is = absurd (false≢true is)

-- and the head of the change, if it is a removal and stands alone
removal_may : (t new : Table) (x : HeadFields) (k : ℕ) → Made t new x → (k == x.number && stands_alone new x.number) ≡ true → MayClose new k
removal_may t new x k m there =
    let parts = and_parts (k == x.number) (stands_alone new x.number) there in
    let here : HeadFields = slot_at new.heads.slots.items x.number in
    let alone = four (is_open here) (is_it x.number (entry_at new.heads.index here.uid).latest) here.removal
    ((entry_at new.heads.index here.uid).others == 0) parts.1 in
    subst (MayClose new) (sym (eqb-true k x.number parts.0)) (record {
      on = omega (arith, m.within, ap length m.items, length-set t.heads.slots.items x.number x);
      opened = ap is_open (made_here t new x m) ∙ m.opened;
      alone = λ it. eqb-true (entry_at new.heads.index here.uid).others 0 alone.1;
      removal = λ it. alone.0;
    })

moved_or : (l c d m : Bool) → (l || (c || (d || m))) ≡ ((l || m) || (c || d))
moved_or true c d m = refl
moved_or false true true true = refl
moved_or false true true false = refl
moved_or false true false true = refl
moved_or false true false false = refl
moved_or false false true true = refl
moved_or false false true false = refl
moved_or false false false true = refl
moved_or false false false false = refl

same_place : (f : Uid → IndexEntry) (k : ℕ) (a b : HeadFields) → a ≡ b
    → (is_open a && (not (is_it k (f a.uid).latest) || (a.removal && (f a.uid).others == 0)))
    ≡ (is_open b && (not (is_it k (f b.uid).latest) || (b.removal && (f b.uid).others == 0)))
same_place f k a b same = ap (λ (s : HeadFields). is_open s && (not (is_it k (f s.uid).latest) || (s.removal
    && (f s.uid).others == 0))) same

-- What the next change closes behind this one, at the head of this one and elsewhere.
closes_own : (t new : Table) (x : HeadFields) → Made t new x
    → (closes_next t x.number
    || ((x.removal && (x.number == x.number && stands_alone new x.number))
    || is_it x.number (outdated t.heads.slots.items x (entry_at t.heads.index x.uid).latest))) ≡ closes_next new x.number
closes_own t new x m =
    let slots : List HeadFields = t.heads.slots.items in
    let here : HeadFields = slot_at slots x.number in
    let now : HeadFields = slot_at new.heads.slots.items x.number in
    let entry : IndexEntry = entry_at new.heads.index x.uid in
    let at : now ≡ x = made_here t new x m in
    let latest : is_it x.number entry.latest ≡ true =
    ap (is_it x.number) (latest_when_joined t.heads new.heads x x.uid m.table.heads m.apart m.within m.opened m.later m.items refl)
    ∙ eq-eqb x.number x.number refl in
    let none : closes_next t x.number ≡ false = and_left (is_open here) (not (is_it x.number (entry_at t.heads.index here.uid).latest)
    || (here.removal && (entry_at t.heads.index here.uid).others == 0)) m.shut in
    let not_old : is_it x.number (outdated slots x (entry_at t.heads.index x.uid).latest) ≡ false =
    false_from_ne_true (is_it x.number (outdated slots x (entry_at t.heads.index x.uid).latest)) (λ is.
    let was = it_is x.number (entry_at t.heads.index x.uid).latest (outdated_is slots x x.number
    (entry_at t.heads.index x.uid).latest m.later is) in
    let counted : IsLatest slots x.uid (Some x.number) = subst (IsLatest slots x.uid) was (m.old.heads.entries x.uid).0 in
    both_ways (is_open here) m.shut (open_is here x.uid counted.0)) in
    let alone : stands_alone new x.number ≡ (x.removal && (entry.others == 0)) =
    ap (λ (s : HeadFields). is_open s && (is_it x.number (entry_at new.heads.index s.uid).latest
    && (s.removal && (entry_at new.heads.index s.uid).others == 0))) at
    ∙ ap (λ b. b && (is_it x.number entry.latest && (x.removal && (entry.others == 0)))) m.opened
    ∙ ap (λ b. b && (x.removal && (entry.others == 0))) latest in
    let next : closes_next new x.number ≡ (x.removal && (entry.others == 0)) =
    same_place (λ u. entry_at new.heads.index u) x.number now x at
    ∙ ap (λ b. b && (not (is_it x.number entry.latest) || (x.removal && (entry.others == 0)))) m.opened
    ∙ ap (λ b. not b || (x.removal && (entry.others == 0))) latest in
    ap (λ b. b || ((x.removal && (x.number == x.number && stands_alone new x.number))
    || is_it x.number (outdated slots x (entry_at t.heads.index x.uid).latest))) none
    ∙ ap (λ b. (x.removal && (x.number == x.number && stands_alone new x.number)) || b) not_old
    ∙ ap (λ b. (x.removal && (b && stands_alone new x.number)) || false) (eq-eqb x.number x.number refl)
    ∙ ap (λ b. (x.removal && b) || false) alone
    ∙ twice x.removal (entry.others == 0) ∙ sym next
  where
    twice : (r z : Bool) → ((r && (r && z)) || false) ≡ (r && z)
    twice true true = refl
    twice true false = refl
    twice false z = refl

closes_beside : (t new : Table) (x : HeadFields) (k : ℕ) → Made t new x → (k ≡ x.number → ⊥)
    → (closes_next t k || is_it k (outdated t.heads.slots.items x (entry_at t.heads.index x.uid).latest)) ≡ closes_next new k
closes_beside t new x k m apart_n =
    let slots : List HeadFields = t.heads.slots.items in
    let here : HeadFields = slot_at slots k in
    let old : Option ℕ = (entry_at t.heads.index x.uid).latest in
    let at : slot_at new.heads.slots.items k ≡ here = made_at t new x k m apart_n in
    let place : closes_next new k ≡ must_close slots k (entry_at new.heads.index here.uid) =
    same_place (λ u. entry_at new.heads.index u) k (slot_at new.heads.slots.items k) here at in
    let of_own = λ (is : is_it k (outdated slots x old) ≡ true).
    (subst (IsLatest slots x.uid) (it_is k old (outdated_is slots x k old m.later is)) (m.old.heads.entries x.uid).0).0 in
    elim (cases_Bool (is_open here)) [
      | inr shut ↦
          ap (λ b. closes_next t k || b) (false_from_ne_true (is_it k (outdated slots x old)) (λ is.
          both_ways (is_open here) shut (open_is here x.uid (of_own is))))
          ∙ ap (λ b. b || false) (and_left (is_open here) (not (is_it k (entry_at t.heads.index here.uid).latest)
          || (here.removal && (entry_at t.heads.index here.uid).others == 0)) shut)
          ∙ sym (place ∙ and_left (is_open here) (not (is_it k (entry_at new.heads.index here.uid).latest)
          || (here.removal && (entry_at new.heads.index here.uid).others == 0)) shut)
      | inl opened ↦ elim (cases_Bool (eq_by_cmp uid_cmp here.uid x.uid)) [
        | inr other ↦
            ap (λ b. closes_next t k || b) (false_from_ne_true (is_it k (outdated slots x old)) (λ is.
            both_ways (eq_by_cmp uid_cmp here.uid x.uid) other
            (ap (λ u. eq_by_cmp uid_cmp u x.uid) (uid_is here x.uid (of_own is)) ∙ same_itself x.uid)))
            ∙ or_none (closes_next t k)
            ∙ ap (λ e. must_close slots k e)
            (sym (entry_beside_joined t.heads new.heads x here.uid m.old.heads m.table.heads m.apart m.within m.shut m.later m.items other))
            ∙ sym place
        | inl same ↦
            let uid : here.uid ≡ x.uid = same_uids here.uid x.uid same in
            let not_latest : is_it k (entry_at new.heads.index here.uid).latest ≡ false =
            ap (is_it k) (latest_when_joined t.heads new.heads x here.uid m.table.heads m.apart m.within m.opened m.later m.items uid)
            ∙ ne_eqb k x.number apart_n in
            let now : closes_next new k ≡ true =
            place ∙ ap (λ b. b && (not (is_it k (entry_at new.heads.index here.uid).latest)
            || (here.removal && (entry_at new.heads.index here.uid).others == 0))) opened
            ∙ ap (λ b. not b || (here.removal && (entry_at new.heads.index here.uid).others == 0)) not_latest in
            ap (λ u. must_close slots k (entry_at t.heads.index u) || is_it k (outdated slots x old)) uid
            ∙ ap (λ b. (b && (not (is_it k old) || (here.removal && (entry_at t.heads.index x.uid).others == 0)))
            || is_it k (outdated slots x old)) opened
            ∙ either slots k old (here.removal && (entry_at t.heads.index x.uid).others == 0) m.later
            ∙ sym now
      ]
    ]
  where
    or_none : (b : Bool) → (b || false) ≡ b
    or_none true = refl
    or_none false = refl

    or_true : (b : Bool) → (b || true) ≡ true
    or_true true = refl
    or_true false = refl

    either : (slots : List HeadFields) (k : ℕ) (old : Option ℕ) (r : Bool) → ((j : ℕ) → (slot_at slots j).sequence < x.sequence)
        → ((not (is_it k old) || r) || is_it k (outdated slots x old)) ≡ true
    either slots k None r later = refl
    either slots k (Some m2) r later =
        ap (λ b. (not (k == m2) || r) || is_it k (if b then Some x.number else Some m2))
        (le-ltb x.sequence (slot_at slots m2).sequence (omega (arith, later m2))) ∙ go (k == m2)
      where
        go : (b : Bool) → ((not b || r) || b) ≡ true
        go true = or_true r
        go false = refl

or_sum : (c f : Bool) (n : ℕ) → n ≡ one_if c → n + one_if f ≤ 1 → one_if (c || f) ≡ n + one_if f
or_sum true true n is less = absurd (omega (arith, is, less))
or_sum true false n is less = omega (arith, is)
or_sum false f n is less = omega (arith, is)

ends_joined : (next : List ℕ) (x : HeadFields) (b : Bool) → (b ≡ false → behind_walk next x.first (blocks_of x.size) ≡ 0)
    → IfSome (if b then None else Some x) (λ (h : HeadFields). behind_walk next h.first (blocks_of h.size) ≡ 0)
ends_joined next x true ends = tt
ends_joined next x false ends = ends refl

-- A change that waited is made.
pub held_when_made : (size : ℕ) (counts : Counts) (t new : Table) (p : Pending) → IsHeld size counts t (Some p) → IsTable new
    → new.heads.slots.items ≡ set t.heads.slots.items p.head.number p.head
    → ((k : ℕ) → is_member new.heads.lone k ≡ false)
    → ((k : ℕ) → is_member new.heads.closing k
    ≡ (is_member t.heads.lone k || ((p.head.removal && (k == p.head.number && stands_alone new p.head.number))
    || (is_it k (outdated t.heads.slots.items p.head (entry_at t.heads.index p.head.uid).latest) || is_member t.heads.closing k))))
    → new.blocks.needed ≡ t.blocks.needed - blocks_kept (keeper t p.head.uid) + (if p.head.removal then 0 else blocks_of p.head.size)
    → ((k : ℕ) → is_member new.blocks.free k ≡ (has k (blocks_under t.blocks (keeper t p.head.uid)) || is_member t.blocks.free k))
    → new.blocks.next ≡ t.blocks.next → new.blocks.size ≡ t.blocks.size → IsHeld size counts new None
held_when_made size counts t new p held is items lone closing needed free next sized =
    let x : HeadFields = p.head in
    let slots : List HeadFields = t.heads.slots.items in
    let latest : Option ℕ = (entry_at t.heads.index x.uid).latest in
    let planned : IsPlanned t p = held.planned in
    let m : Made t new x = record {
      old = held.table;
      table = is;
      apart = held.apart;
      within = planned.number;
      shut = planned.shut;
      opened = planned.opened;
      later = planned.later;
      items = items;
    } in
    let links : new.blocks.next.items ≡ t.blocks.next.items = ap (λ v. v.items) next in
    let apart : AreApart new.heads.slots.items = subst AreApart (sym items) (apart_joined slots x.number x held.apart m.within m.later) in
    let needs : new.blocks.needed ≡ sum_by (λ (h : Head). blocks_of h.size) (keeping (heads_in new.heads.slots.items)) =
    needed_of new.blocks.needed t.blocks.needed (blocks_kept (keeper t x.uid)) (weight_of (λ (h : Head). blocks_of h.size) (keeper t x.uid))
    (if x.removal then 0 else blocks_of x.size) (sum_by (λ (h : Head). blocks_of h.size) (keeping (heads_in slots)))
    (sum_by (λ (h : Head). blocks_of h.size) (keeping (heads_in (set slots x.number x))))
    (sum_by (λ (h : Head). blocks_of h.size) (keeping (heads_in new.heads.slots.items)))
    needed (size_under (keeper t x.uid)) held.needed (keeper_size t x.uid held.table held.apart)
    (sum_when_joined (λ (h : Head). blocks_of h.size) slots x latest held.apart m.within m.shut m.opened m.later
    (held.table.heads.entries x.uid).0)
    (ap (λ s. sum_by (λ (h : Head). blocks_of h.size) (keeping (heads_in s))) items) in
    let places = λ (k : ℕ).
    let under : List ℕ = blocks_under t.blocks (keeper t x.uid) in
    let w : Head → ℕ = λ (h : Head). times k (chain_by t.blocks.next.items h) in
    placed (one_if (is_member new.blocks.free k)) (one_if (has k under || is_member t.blocks.free k)) (one_if (is_member t.blocks.free k))
    (times k under) (weight_of w (keeper t x.uid)) (times_kept t.blocks.next.items (heads_in slots) k)
    (times_kept t.blocks.next.items (heads_in (set slots x.number x)) k)
    (times_kept new.blocks.next.items (heads_in new.heads.slots.items) k)
    (times k (blocks_planned t.blocks.next.items x)) (if x.removal then 0 else w (head_of x)) (one_if (is_data size k))
    (ap one_if (free k))
    (or_sum (has k under) (is_member t.blocks.free k) (times k under)
    (once k under (less_one (times k under) (times_kept t.blocks.next.items (heads_in slots) k) (one_if (is_member t.blocks.free k))
    (times k (blocks_planned t.blocks.next.items x)) (one_if (is_data size k)) (keeper_times t x.uid k held.table held.apart)
    (held.places k)
    (few_one (is_data size k))).0)
    (less_one (times k under) (times_kept t.blocks.next.items (heads_in slots) k) (one_if (is_member t.blocks.free k))
    (times k (blocks_planned t.blocks.next.items x)) (one_if (is_data size k)) (keeper_times t x.uid k held.table held.apart)
    (held.places k)
    (few_one (is_data size k))).1)
    (times_under t.blocks k (keeper t x.uid)) (planned_times t.blocks.next.items k x)
    (sum_when_joined w slots x latest held.apart m.within m.shut m.opened m.later (held.table.heads.entries x.uid).0)
    (ap (λ s. times_kept new.blocks.next.items (heads_in s) k) items
    ∙ ap (λ v. times_kept v (heads_in (set slots x.number x)) k) links)
    (held.places k) in
    record {
      table = is;
      sized = held.sized;
      same = sized ∙ held.same;
      apart = apart;
      kept = kept_by_places size new (λ k. 0) is (sized ∙ held.same) apart needs places;
      ends = λ uid. subst (λ v. IfSome (keeper new uid) (λ (h : HeadFields). behind_walk v h.first (blocks_of h.size) ≡ 0)) (sym links)
          (elim (cases_Bool (eq_by_cmp uid_cmp uid x.uid)) [
            | inl equal ↦ subst (λ o. IfSome o (λ (h : HeadFields). behind_walk t.blocks.next.items h.first (blocks_of h.size) ≡ 0))
                (sym (keeper_of_made t new x uid m equal)) (ends_joined t.blocks.next.items x x.removal planned.ends)
            | inr other ↦ subst (λ o. IfSome o (λ (h : HeadFields). behind_walk t.blocks.next.items h.first (blocks_of h.size) ≡ 0))
                (sym (keeper_beside_made t new x uid m other)) (held.ends uid)
          ]);
      needed = needs;
      places = places;
      closing = λ k there. elim (or_cases (is_member t.heads.lone k) (rest k) (sym (closing k) ∙ there)) [
        | inl old_lone ↦ made_may t new x k m (held.lone k old_lone).0
        | inr others ↦ elim (or_cases (x.removal && (k == x.number && stands_alone new x.number)) (last k) others) [
          | inl alone ↦ removal_may t new x k m (and_parts x.removal (k == x.number && stands_alone new x.number) alone).1
          | inr behind ↦ elim (or_cases (is_it k (outdated slots x latest)) (is_member t.heads.closing k) behind) [
            | inl before ↦ outdated_may t new x k m before
            | inr old_one ↦ made_may t new x k m (held.closing k old_one)
          ]
        ]
      ];
      lone = λ k there. absurd (both_ways (is_member new.heads.lone k) (lone k) there);
      all = λ k. ap (λ b. b || is_member new.heads.closing k) (lone k) ∙ closing k
          ∙ moved_or (is_member t.heads.lone k) (x.removal && (k == x.number && stands_alone new x.number))
          (is_it k (outdated slots x latest)) (is_member t.heads.closing k)
          ∙ ap (λ b. b || ((x.removal && (k == x.number && stands_alone new x.number)) || is_it k (outdated slots x latest))) (held.all k)
          ∙ elim (cases_eq k x.number) [
            | inl same ↦ subst (λ j. (closes_next t j || ((x.removal && (j == x.number && stands_alone new x.number))
                || is_it j (outdated slots x latest)))
                ≡ closes_next new j) (sym same) (closes_own t new x m)
            | inr other ↦
                ap (λ b. closes_next t k || ((x.removal && (b && stands_alone new x.number)) || is_it k (outdated slots x latest)))
                (ne_eqb k x.number other)
                ∙ ap (λ b. closes_next t k || (b || is_it k (outdated slots x latest))) (never x.removal)
                ∙ closes_beside t new x k m other
          ];
      planned = tt;
    }
  where
    never : (b : Bool) → (b && false) ≡ false
    never true = refl
    never false = refl

    last : ℕ → Bool
    last k = is_it k (outdated t.heads.slots.items p.head (entry_at t.heads.index p.head.uid).latest) || is_member t.heads.closing k

    rest : ℕ → Bool
    rest k = (p.head.removal && (k == p.head.number && stands_alone new p.head.number)) || last k

    needed_of : (n o kept weight more before after after2 : ℕ) → n ≡ o - kept + more → kept ≡ weight → o ≡ before → kept ≤ before
        → after + weight ≡ before + more → after2 ≡ after → n ≡ after2
    needed_of n o kept weight more before after after2 a b c d e f = omega (arith, a, b, c, d, e, f)

    less_one : (n kept free planned whole : ℕ) → n ≤ kept → free + (kept + planned) ≡ whole → whole ≤ 1 → (n ≤ 1) × (n + free ≤ 1)
    less_one n kept free planned whole a b c = (omega (arith, a, b, c), omega (arith, a, b, c))

    placed : (free_new both free n weight kept after after2 planned more whole : ℕ) → free_new ≡ both → both ≡ n + free → n ≡ weight
        → planned ≡ more → after + weight ≡ kept + more → after2 ≡ after → free + (kept + planned) ≡ whole → free_new + (after2 + 0) ≡ whole
    placed free_new both free n weight kept after after2 planned more whole a b c d e f g = omega (arith, a, b, c, d, e, f, g)

same_may : (t new : Table) (k : ℕ) → new.heads.slots.items ≡ t.heads.slots.items → ((q : Uid) → entry_at new.heads.index q
    ≡ entry_at t.heads.index q)
    → MayClose t k → MayClose new k
same_may t new k items entries may =
    let at : slot_at new.heads.slots.items k ≡ slot_at t.heads.slots.items k = ap (λ s. slot_at s k) items in
    let uid : Uid = (slot_at t.heads.slots.items k).uid in
    record {
      on = subst (λ s. k < length s) (sym items) may.on;
      opened = ap is_open at ∙ may.opened;
      alone = subst (λ (s : HeadFields). is_it k (entry_at new.heads.index s.uid).latest ≡ true
          → (entry_at new.heads.index s.uid).others ≡ 0) (sym at)
          (subst (λ (e : IndexEntry). is_it k e.latest ≡ true → e.others ≡ 0) (sym (entries uid)) may.alone);
      removal = subst (λ (s : HeadFields). is_it k (entry_at new.heads.index s.uid).latest ≡ true → s.removal ≡ true) (sym at)
          (subst (λ (e : IndexEntry). is_it k e.latest ≡ true → (slot_at t.heads.slots.items k).removal ≡ true)
          (sym (entries uid)) may.removal);
    }

same_next : (t new : Table) (k : ℕ) → new.heads.slots.items ≡ t.heads.slots.items → ((q : Uid) → entry_at new.heads.index q
    ≡ entry_at t.heads.index q)
    → closes_next t k ≡ closes_next new k
same_next t new k items entries =
    ap (λ e. must_close t.heads.slots.items k e) (sym (entries (slot_at t.heads.slots.items k).uid))
    ∙ ap (λ s. must_close s k (entry_at new.heads.index (slot_at s k).uid)) (sym items)

same_keeper : (t new : Table) (uid : Uid) → new.heads.slots.items ≡ t.heads.slots.items
    → ((q : Uid) → entry_at new.heads.index q ≡ entry_at t.heads.index q) → keeper new uid ≡ keeper t uid
same_keeper t new uid items entries =
    ap (λ s. kept_slot s (entry_at new.heads.index uid).latest) items ∙ ap (λ (e : IndexEntry). kept_slot t.heads.slots.items e.latest)
    (entries uid)

dropped : (b : BlockTable) (x : HeadFields) → blocks_under b (if x.removal then None else Some x) ≡ blocks_planned b.next.items x
dropped b x = go x.removal
  where
    go : (r : Bool) → blocks_under b (if r then None else Some x) ≡ (if r then [] else chain_by b.next.items (head_of x))
    go true = refl
    go false = refl

-- A change that waited is not made.
pub held_when_dropped : (size : ℕ) (counts : Counts) (t new : Table) (p : Pending) → IsHeld size counts t (Some p) → IsTable new
    → new.heads.slots ≡ t.heads.slots → new.heads.index ≡ t.heads.index
    → ((k : ℕ) → is_member new.heads.closing k ≡ (is_member t.heads.lone k || is_member t.heads.closing k))
    → ((k : ℕ) → is_member new.heads.lone k ≡ false)
    → ((k : ℕ) → is_member new.blocks.free k
    ≡ (has k (blocks_under t.blocks (if p.head.removal then None else Some p.head)) || is_member t.blocks.free k))
    → new.blocks.needed ≡ t.blocks.needed → new.blocks.next ≡ t.blocks.next → new.blocks.size ≡ t.blocks.size
    → IsHeld size counts new None
held_when_dropped size counts t new p held is slots index closing lone free needed next sized =
    let items : new.heads.slots.items ≡ t.heads.slots.items = ap (λ v. v.items) slots in
    let entries = λ (q : Uid). ap (λ i. entry_at i q) index in
    let links : new.blocks.next.items ≡ t.blocks.next.items = ap (λ v. v.items) next in
    let apart : AreApart new.heads.slots.items = subst AreApart (sym items) held.apart in
    let needs : new.blocks.needed ≡ sum_by (λ (h : Head). blocks_of h.size) (keeping (heads_in new.heads.slots.items)) =
    needed ∙ held.needed ∙ sym (ap (λ s. sum_by (λ (h : Head). blocks_of h.size) (keeping (heads_in s))) items) in
    let places = λ (k : ℕ).
    let planned : List ℕ = blocks_planned t.blocks.next.items p.head in
    placed (one_if (is_member new.blocks.free k)) (one_if (has k planned || is_member t.blocks.free k)) (one_if (is_member t.blocks.free k))
    (times k planned) (times_kept t.blocks.next.items (heads_in t.heads.slots.items) k)
    (times_kept new.blocks.next.items (heads_in new.heads.slots.items) k) (one_if (is_data size k))
    (ap one_if (free k ∙ ap (λ bs. has k bs || is_member t.blocks.free k) (dropped t.blocks p.head)))
    (or_sum (has k planned) (is_member t.blocks.free k) (times k planned)
    (once k planned (less_one (times k planned) (times_kept t.blocks.next.items (heads_in t.heads.slots.items) k)
    (one_if (is_member t.blocks.free k)) (one_if (is_data size k)) (held.places k) (few_one (is_data size k))).0)
    (less_one (times k planned) (times_kept t.blocks.next.items (heads_in t.heads.slots.items) k)
    (one_if (is_member t.blocks.free k)) (one_if (is_data size k)) (held.places k) (few_one (is_data size k))).1)
    (ap (λ s. times_kept new.blocks.next.items (heads_in s) k) items
    ∙ ap (λ v. times_kept v (heads_in t.heads.slots.items) k) links)
    (held.places k) in
    record {
      table = is;
      sized = held.sized;
      same = sized ∙ held.same;
      apart = apart;
      kept = kept_by_places size new (λ k. 0) is (sized ∙ held.same) apart needs places;
      ends = λ uid. subst (λ v. IfSome (keeper new uid) (λ (h : HeadFields). behind_walk v h.first (blocks_of h.size) ≡ 0)) (sym links)
          (subst (λ o. IfSome o (λ (h : HeadFields). behind_walk t.blocks.next.items h.first (blocks_of h.size) ≡ 0))
          (sym (same_keeper t new uid items entries)) (held.ends uid));
      needed = needs;
      places = places;
      closing = λ k there. elim (or_cases (is_member t.heads.lone k) (is_member t.heads.closing k) (sym (closing k) ∙ there)) [
        | inl one ↦ same_may t new k items entries (held.lone k one).0
        | inr one ↦ same_may t new k items entries (held.closing k one)
      ];
      lone = λ k there. absurd (both_ways (is_member new.heads.lone k) (lone k) there);
      all = λ k. ap (λ b. b || is_member new.heads.closing k) (lone k) ∙ closing k ∙ held.all k ∙ same_next t new k items entries;
      planned = tt;
    }
  where
    less_one : (n kept free whole : ℕ) → free + (kept + n) ≡ whole → whole ≤ 1 → (n ≤ 1) × (n + free ≤ 1)
    less_one n kept free whole a b = (omega (arith, a, b), omega (arith, a, b))

    placed : (free_new both free n kept after whole : ℕ) → free_new ≡ both → both ≡ n + free → after ≡ kept → free + (kept + n) ≡ whole
        → free_new + (after + 0) ≡ whole
    placed free_new both free n kept after whole a b c d = omega (arith, a, b, c, d)

planned_goes_on : (t new : Table) (pending : Option Pending) → ((p : Pending) → IsPlanned t p → IsPlanned new p)
    → IfSome pending (IsPlanned t)
    → IfSome pending (IsPlanned new)
planned_goes_on t new None goes planned = tt
planned_goes_on t new (Some p) goes planned = goes p planned

-- A uid has an empty entry more.
pub held_with_entry : (size : ℕ) (counts : Counts) (t new : Table) (pending : Option Pending) → IsHeld size counts t pending → IsTable new
    → new.heads.slots ≡ t.heads.slots → ((q : Uid) → entry_at new.heads.index q ≡ entry_at t.heads.index q)
    → ((q : Uid) → IsSome (tree.get uid_cmp t.heads.index q) → IsSome (tree.get uid_cmp new.heads.index q))
    → new.heads.closing ≡ t.heads.closing → new.heads.lone ≡ t.heads.lone → new.blocks ≡ t.blocks → IsHeld size counts new pending
held_with_entry size counts t new pending held is slots entries keys closing lone blocks =
    let items : new.heads.slots.items ≡ t.heads.slots.items = ap (λ v. v.items) slots in
    let apart : AreApart new.heads.slots.items = subst AreApart (sym items) held.apart in
    record {
      table = is;
      sized = held.sized;
      same = ap (λ (b : BlockTable). b.size) blocks ∙ held.same;
      apart = apart;
      kept = λ uid. subst (λ b. IfSome (keeper new uid) (IsKeptOn b)) (sym blocks)
          (subst (λ o. IfSome o (IsKeptOn t.blocks)) (sym (same_keeper t new uid items entries)) (held.kept uid));
      ends = λ uid. subst (λ (b : BlockTable). IfSome (keeper new uid) (λ (h : HeadFields). behind_walk b.next.items h.first
          (blocks_of h.size) ≡ 0))
          (sym blocks)
          (subst (λ o. IfSome o (λ (h : HeadFields). behind_walk t.blocks.next.items h.first (blocks_of h.size) ≡ 0))
          (sym (same_keeper t new uid items entries)) (held.ends uid));
      needed = ap (λ (b : BlockTable). b.needed) blocks ∙ held.needed
          ∙ sym (ap (λ s. sum_by (λ (h : Head). blocks_of h.size) (keeping (heads_in s))) items);
      places = λ k. subst (λ (b : BlockTable). one_if (is_member b.free k) + (times_kept b.next.items (heads_in new.heads.slots.items) k
          + times k (planned_blocks b.next.items pending)) ≡ one_if (is_data size k)) (sym blocks)
          (subst (λ s. one_if (is_member t.blocks.free k) + (times_kept t.blocks.next.items (heads_in s) k
          + times k (planned_blocks t.blocks.next.items pending)) ≡ one_if (is_data size k)) (sym items) (held.places k));
      closing = λ k there. same_may t new k items entries (held.closing k (ap (λ r. is_member r k) (sym closing) ∙ there));
      lone = λ k there.
          let before = held.lone k (ap (λ r. is_member r k) (sym lone) ∙ there) in
          (same_may t new k items entries before.0, ap (λ r. is_member r k) closing ∙ before.1);
      all = λ k. ap (λ r. is_member r k || is_member new.heads.closing k) lone ∙ ap (λ r. is_member t.heads.lone k || is_member r k) closing
          ∙ held.all k ∙ same_next t new k items entries;
      planned = planned_goes_on t new pending (λ p planned. record {
        number = subst (λ s. p.head.number < length s) (sym items) planned.number;
        shut = ap (λ s. is_open (slot_at s p.head.number)) items ∙ planned.shut;
        opened = planned.opened;
        later = λ k. subst (λ s. (slot_at s k).sequence < p.head.sequence) (sym items) (planned.later k);
        entry = keys p.head.uid planned.entry;
        fits = subst (λ (b : BlockTable). p.head.removal ≡ false → b.needed + blocks_of p.head.size ≤ data_count b.size)
            (sym blocks) planned.fits;
        chain = subst (λ (b : BlockTable). p.head.removal ≡ false → AreDataIn b.size (walk b.next.items p.head.first
            (blocks_of p.head.size)))
            (sym blocks) planned.chain;
        ends = subst (λ (b : BlockTable). p.head.removal ≡ false → behind_walk b.next.items p.head.first (blocks_of p.head.size)
            ≡ 0) (sym blocks)
            planned.ends;
        bytes = planned.bytes;
      }) held.planned;
    }

-- The disk was called, and is as large as before.
pub held_by_counts : (size : ℕ) (counts now : Counts) (t : Table) (pending : Option Pending) → IsHeld size counts t pending
    → now.size ≡ counts.size → IsHeld size now t pending
held_by_counts size counts now t pending held same = record {
  table = held.table;
  sized = same ∙ held.sized;
  same = held.same;
  apart = held.apart;
  kept = held.kept;
  ends = held.ends;
  needed = held.needed;
  places = held.places;
  closing = held.closing;
  lone = held.lone;
  all = held.all;
  planned = held.planned;
}

-- The job of the change has come to another stage.
pub held_at_stage : (size : ℕ) (counts : Counts) (t : Table) (p q : Pending) → IsHeld size counts t (Some p) → q.head ≡ p.head
    → q.body ≡ p.body
    → IsHeld size counts t (Some q)
held_at_stage size counts t p q held head body =
    let plan : IsPlanned t p = held.planned in
    record {
      table = held.table;
      sized = held.sized;
      same = held.same;
      apart = held.apart;
      kept = held.kept;
      ends = held.ends;
      needed = held.needed;
      places = λ k. subst (λ h. one_if (is_member t.blocks.free k) + (times_kept t.blocks.next.items (heads_in t.heads.slots.items) k
          + times k (blocks_planned t.blocks.next.items h)) ≡ one_if (is_data size k)) (sym head) (held.places k);
      closing = held.closing;
      lone = held.lone;
      all = held.all;
      planned = record {
        number = subst (λ (h : HeadFields). h.number < length t.heads.slots.items) (sym head) plan.number;
        shut = subst (λ (h : HeadFields). is_open (slot_at t.heads.slots.items h.number) ≡ false) (sym head) plan.shut;
        opened = subst (λ (h : HeadFields). is_open h ≡ true) (sym head) plan.opened;
        later = subst (λ (h : HeadFields). (k : ℕ) → (slot_at t.heads.slots.items k).sequence < h.sequence) (sym head) plan.later;
        entry = subst (λ (h : HeadFields). IsSome (tree.get uid_cmp t.heads.index h.uid)) (sym head) plan.entry;
        fits = subst (λ (h : HeadFields). h.removal ≡ false → t.blocks.needed + blocks_of h.size ≤ data_count t.blocks.size)
            (sym head) plan.fits;
        chain = subst (λ (h : HeadFields). h.removal ≡ false → AreDataIn t.blocks.size (walk t.blocks.next.items h.first
            (blocks_of h.size)))
            (sym head) plan.chain;
        ends = subst (λ (h : HeadFields). h.removal ≡ false → behind_walk t.blocks.next.items h.first (blocks_of h.size)
            ≡ 0) (sym head) plan.ends;
        bytes = ap (λ v. length v.items) body ∙ plan.bytes ∙ ap (λ (h : HeadFields). h.size) (sym head);
      };
    }
