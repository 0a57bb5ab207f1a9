-- A disk was read: what holds in memory then.
use Rattle.std.proofs.Common.{◌≡◌, ℕ, ◌+◌, Bool, true, false, ◌||◌, ◌&&◌, not, ◌==◌}
use Rattle.std.proofs.Common.{refl, sym, ap, ◌∙◌, arith, Option, None, Some}
use Rattle.std.specs.Prelude.{if◌then◌else◌, IfSome, sum_by}
use Rattle.std.proofs.lemmas.Bool.{and_parts, both_ways, eqb-true, eq-eqb}
use Rattle.capability.specs.declared.Uid.{Uid}
use Rattle.eden_disk.specs.Calls.{Counts}
use Rattle.block_tables.specs.declared.heads.HeadFields.{HeadFields}
use Rattle.block_tables.specs.declared.table.Table.{Table}
use Rattle.block_tables.specs.Members.{is_member}
use Rattle.block_tables.specs.Blocks.{Head, blocks_of, keeping, is_data}
use Rattle.block_tables.specs.HeadState.{heads_in, slot_at, entry_at, is_open, is_it, is_lone, IsLatest, kept_slot}
use Rattle.block_tables.specs.TableState.{IsTable}
use Rattle.block_tables.proofs.OpenHeads.{open_within}
use Rattle.block_tables.proofs.OpenHeads.{open_is}
use Rattle.passive_blocks.specs.HeldState.{IsHeld, MayClose, AreApart, one_if, times_kept, behind_walk, closes_next}
use Rattle.passive_blocks.proofs.HeldSums.{uid_is}
use Rattle.passive_blocks.proofs.HeldFacts.{kept_by_places}

-- what the next change closes may be closed
pub next-may_close : (t : Table) (k : ℕ) → closes_next t k ≡ true → MayClose t k
next-may_close t k closes =
    let slot : HeadFields = slot_at t.heads.slots.items k in
    let parts = and_parts (is_open slot) (not (is_it k (entry_at t.heads.index slot.uid).latest)
    || (slot.removal && (entry_at t.heads.index slot.uid).others == 0)) closes in
    let lone = λ (it : is_it k (entry_at t.heads.index slot.uid).latest ≡ true).
    and_parts slot.removal ((entry_at t.heads.index slot.uid).others == 0)
    (sym (ap (λ b. not b || (slot.removal && (entry_at t.heads.index slot.uid).others == 0)) it) ∙ parts.1) in
    record {
      on = open_within t.heads.slots.items k parts.0;
      opened = parts.0;
      alone = λ it. eqb-true (entry_at t.heads.index slot.uid).others 0 (lone it).1;
      removal = λ it. (lone it).0;
    }

either_way : (a i rz : Bool) → ((a && (i && rz)) || (a && not i)) ≡ (a && (not i || rz))
either_way true true true = refl
either_way true true false = refl
either_way true false rz = refl
either_way false i rz = refl

ends_by : (t : Table) (uid : Uid) (latest : Option ℕ) → IsLatest t.heads.slots.items uid latest → (entry_at t.heads.index uid).latest
    ≡ latest
    → ((k : ℕ) → is_open (slot_at t.heads.slots.items k) ≡ true
    → is_it k (entry_at t.heads.index (slot_at t.heads.slots.items k).uid).latest ≡ true → (slot_at t.heads.slots.items k).removal ≡ false
    → behind_walk t.blocks.next.items (slot_at t.heads.slots.items k).first (blocks_of (slot_at t.heads.slots.items k).size) ≡ 0)
    → IfSome (kept_slot t.heads.slots.items latest) (λ (h : HeadFields). behind_walk t.blocks.next.items h.first (blocks_of h.size) ≡ 0)
ends_by t uid None is same ends = tt
ends_by t uid (Some m) is same ends =
    go (slot_at t.heads.slots.items m).removal refl
  where
    go : (r : Bool) → (slot_at t.heads.slots.items m).removal ≡ r
        → IfSome (if r then None else Some (slot_at t.heads.slots.items m))
        (λ (h : HeadFields). behind_walk t.blocks.next.items h.first (blocks_of h.size) ≡ 0)
    go true removal = tt
    go false value =
        ends m (open_is (slot_at t.heads.slots.items m) uid is.0)
        (ap (λ u. is_it m (entry_at t.heads.index u).latest) (uid_is (slot_at t.heads.slots.items m) uid is.0)
        ∙ ap (is_it m) same ∙ eq-eqb m m refl) value

-- A disk was read to its end.
pub held_when_opened : (size : ℕ) (counts : Counts) (t : Table) → IsTable t → counts.size ≡ size → t.blocks.size ≡ size
    → AreApart t.heads.slots.items
    → t.blocks.needed ≡ sum_by (λ (h : Head). blocks_of h.size) (keeping (heads_in t.heads.slots.items))
    → ((k : ℕ) → one_if (is_member t.blocks.free k) + times_kept t.blocks.next.items (heads_in t.heads.slots.items) k
    ≡ one_if (is_data size k))
    → ((k : ℕ) → is_open (slot_at t.heads.slots.items k) ≡ true
    → is_it k (entry_at t.heads.index (slot_at t.heads.slots.items k).uid).latest ≡ true → (slot_at t.heads.slots.items k).removal ≡ false
    → behind_walk t.blocks.next.items (slot_at t.heads.slots.items k).first (blocks_of (slot_at t.heads.slots.items k).size) ≡ 0)
    → ((k : ℕ) → is_member t.heads.closing k
    ≡ (is_lone t.heads.slots.items k (entry_at t.heads.index (slot_at t.heads.slots.items k).uid)
    || (is_open (slot_at t.heads.slots.items k) && not (is_it k (entry_at t.heads.index (slot_at t.heads.slots.items k).uid).latest))))
    → ((k : ℕ) → is_member t.heads.lone k ≡ false) → IsHeld size counts t None
held_when_opened size counts t is sized same apart needed places ends closing lone =
    let places_more = λ (k : ℕ). with_none (one_if (is_member t.blocks.free k))
    (times_kept t.blocks.next.items (heads_in t.heads.slots.items) k) (one_if (is_data size k)) (places k) in
    let closes = λ (k : ℕ). closing k ∙ either_way (is_open (slot_at t.heads.slots.items k))
    (is_it k (entry_at t.heads.index (slot_at t.heads.slots.items k).uid).latest)
    ((slot_at t.heads.slots.items k).removal && (entry_at t.heads.index (slot_at t.heads.slots.items k).uid).others == 0) in
    record {
      table = is;
      sized = sized;
      same = same;
      apart = apart;
      kept = kept_by_places size t (λ k. 0) is same apart needed places_more;
      ends = λ uid. ends_by t uid (entry_at t.heads.index uid).latest (is.heads.entries uid).0 refl ends;
      needed = needed;
      places = places_more;
      closing = λ k there. next-may_close t k (sym (closes k) ∙ there);
      lone = λ k there. absurd (both_ways (is_member t.heads.lone k) (lone k) there);
      all = λ k. ap (λ b. b || is_member t.heads.closing k) (lone k) ∙ closes k;
      planned = tt;
    }
  where
    with_none : (a b d : ℕ) → a + b ≡ d → a + (b + 0) ≡ d
    with_none a b d is = omega (arith, is)
