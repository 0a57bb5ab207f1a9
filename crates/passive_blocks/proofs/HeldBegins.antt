-- What a job that is begun owes, by what memory has and its disk shows.
use Rattle.std.proofs.Common.{◌≡◌, ℕ, suc, zero, ◌+◌, ◌-◌, ◌*◌, ◌/◌, ◌≤◌, ◌<◌, ◌^◌, Bool, true, false, cond, ◌&&◌, not}
use Rattle.std.proofs.Common.{List, length, refl, sym, ap, subst, ◌∙◌, arith, Option, None, Some}
use Rattle.std.specs.Prelude.{if◌then◌else◌, ◌≢◌, nat_le, is_some, IsSome, Ok}
use Rattle.std.specs.FinMap as finite
use Rattle.std.specs.List.{find}
use Rattle.std.proofs.lemmas.Bool.{false≢true, leb-true, le-leb, not-true}
use Rattle.capability.specs.declared.Uid.{Uid}
use Rattle.capability.proofs.Uids.{uid_cmp_total}
use Rattle.eden_disk.specs.Calls.{Counts}
use Rattle.passive_store.specs.Kept.{StoreChange, IsFresh, IsJobOf, IsOwn, marks_after}
use Rattle.passive_store.specs.Seen.{asked, has_room_for}
use Rattle.block_tables.specs.declared.heads.HeadFields.{HeadFields}
use Rattle.block_tables.specs.declared.table.Table.{Table}
use Rattle.passive_blocks.specs.declared.block_store.Pending.{Pending}
use Rattle.passive_blocks.specs.declared.block_store.Stage.TheVariants.{Close}
use Rattle.block_tables.specs.Blocks.{Head, data_count, greatest, numbers}
use Rattle.block_tables.specs.Changes.{free_head, is_removal, is_taken, size_of}
use Rattle.passive_blocks.specs.BlockLayout.{block_layout, blocks_left, changes_left}
use Rattle.block_tables.specs.HeadState.{heads_in, is_open, slot_at}
use Rattle.block_tables.specs.TableState.{fits_in, greatest_in, keeper, sequence_of}
use Rattle.passive_blocks.specs.StoreState.{calls_at}
use Rattle.passive_blocks.specs.HeldState.{IsHeld, blocks_planned}
use Rattle.passive_blocks.specs.KeptState.{HasChains}
use Rattle.passive_blocks.proofs.HeldSums.{same_itself}
use Rattle.passive_blocks.proofs.HeldFacts.{free_left}
use Rattle.passive_blocks.proofs.HeldJob.{taken_is, greatest_is}
use Rattle.passive_blocks.proofs.HeldTold.{told_parts}
use Rattle.passive_blocks.proofs.HeldBegun.{calls_bounded}
use Rattle.passive_blocks.proofs.KeptRoom.{fits_kept}
use Rattle.passive_blocks.proofs.KeptLooks.{shown, mark_shown, needed_shown}

-- So many calls as a job may have.
pub job_bounded : (size : ℕ) (counts : Counts) (t : Table) (p : Pending) → IsHeld size counts t (Some p)
    → IsJobOf size (length (calls_at t p Close)) × (nat_le 4 (length (calls_at t p Close)) ≡ true)
job_bounded size counts t p held =
    let calls = calls_bounded size counts t p held in
    let count = free_left size counts t (Some p) held in (
      (
        omega (arith, calls.0),
        (
          size / 1024,
          omega arith,
          most (size / 1024) (length (blocks_planned t.blocks.next.items p.head)) (data_count size) (length (calls_at t p Close))
              t.blocks.needed
              _ count calls.1 (omega arith),
        ),
      ),
      at_most 4 (length (calls_at t p Close)) calls.0,
    )
  where
    most : (kib blocks all calls need free : ℕ) → free + (need + blocks) ≡ all → calls ≤ kib + (blocks + 4) → all ≤ kib
        → calls ≤ 2 * kib + 4
    most kib blocks all calls need free is less within = omega (arith, is, less, within)

    at_most : (s n : ℕ) → s ≤ n → nat_le s n ≡ true
    at_most s n less = le-leb s n less

pub told_last : (a b : Bool) (n more : ℕ) → more ≤ (if a && b then n else 0) → more ≤ n
told_last true true n more less = less
told_last true false n more less = omega (arith, less)
told_last false b n more less = omega (arith, less)

found_of : (p : ℕ → Bool) (from n : ℕ) → is_some (find p (numbers from n)) ≡ true → (j : ℕ) × (j < from + n) × (p j ≡ true)
unfolding numbers
found_of p from zero some = absurd (false≢true some)
found_of p from (suc n) some = go (p from) refl some (λ rest. found_of p (from + 1) n rest)
  where
    go : (b : Bool) → p from ≡ b → is_some (cond b (Some from) (find p (numbers (from + 1) n))) ≡ true
        → (is_some (find p (numbers (from + 1) n)) ≡ true → (j : ℕ) × (j < from + 1 + n) × (p j ≡ true))
        → (j : ℕ) × (j < from + suc n) × (p j ≡ true)
    go true is some rest = (from, omega arith, is)
    go false is some rest = let found = rest some in (found.0, omega (arith, found.1), found.2)

-- whether a change fits, by memory and by what is shown
pub fits_shown : (node size more : ℕ) (counts : Counts) (image : List ℕ) (t : Table) (pending : Option Pending) (uid : Uid)
    (body : Option (List ℕ)) → IsHeld size counts t pending → length image ≡ size → HasChains image t → 1 ≤ more
    → more ≤ changes_left size (heads_in t.heads.slots.items) (Ok (shown image t)) → IsOwn node uid (size_of body)
    → fits_in t uid (is_removal body) (size_of body) ≡ has_room_for block_layout size (shown image t) (asked uid body)
fits_shown node size more counts image t pending uid body held long chains some told own =
    let heads : List Head = heads_in t.heads.slots.items in
    let need = needed_shown size counts image t pending held long chains in
    let parts = told_parts (is_some (free_head size heads)) (nat_le 1 (blocks_left size (shown image t).bodies))
    (2 ^ 63 - greatest heads) more told some in
    fits_kept node size t (shown image t).bodies uid body held.same need
    (subst (λ n. 1 ≤ n) (ap (λ n. data_count size - n) need ∙ sym (ap (λ s. data_count s - t.blocks.needed) held.same))
    (leb-true 1 (blocks_left size (shown image t).bodies) parts.1)) own

-- A change that does not fit is refused for want of room alone, where the room is told.
pub full_shown : (node size more : ℕ) (counts : Counts) (image : List ℕ) (t : Table) (pending : Option Pending) (uid : Uid)
    (body : Option (List ℕ)) → IsHeld size counts t pending → length image ≡ size → HasChains image t → 1 ≤ more
    → more ≤ changes_left size (heads_in t.heads.slots.items) (Ok (shown image t)) → IsOwn node uid (size_of body)
    → ((k : ℕ) → k < length t.heads.slots.items → is_open (slot_at t.heads.slots.items k) ≡ false → greatest_in t < 2 ^ 63
    → fits_in t uid (is_removal body) (size_of body) ≡ false)
    → has_room_for block_layout size (shown image t) (asked uid body) ≡ false
full_shown node size more counts image t pending uid body held long chains some told own full =
    let heads : List Head = heads_in t.heads.slots.items in
    let parts = told_parts (is_some (free_head size heads)) (nat_le 1 (blocks_left size (shown image t).bodies))
    (2 ^ 63 - greatest heads) more told some in
    let last = told_last (is_some (free_head size heads)) (nat_le 1 (blocks_left size (shown image t).bodies))
    (2 ^ 63 - greatest heads) more told in
    let found = found_of (λ number. not (is_taken heads number)) 0 (size / 1024) parts.0 in
    let shut : is_open (slot_at t.heads.slots.items found.0) ≡ false =
    sym (taken_is t.heads.slots.items found.0 held.table.heads.numbered) ∙ not-true (is_taken heads found.0) found.2 in
    let count : length t.heads.slots.items ≡ size / 1024 = held.table.count ∙ ap (λ s. s / 1024) held.same in
    sym (fits_shown node size more counts image t pending uid body held long chains some told own)
    ∙ full found.0 (omega (arith, found.1, count)) shut
    (reach (greatest heads) (greatest_in t) more (greatest_is t.heads.slots.items) last some)
  where
    reach : (g h m : ℕ) → g ≡ h → m ≤ 2 ^ 63 - g → 1 ≤ m → h < 2 ^ 63
    reach g h m same less more = omega (arith, same, less, more)

-- A change gives its uid a mark of its own: a value a later one, and a removal none where there was one.
pub fresh_shown : (size : ℕ) (counts : Counts) (image : List ℕ) (t : Table) (pending : Option Pending) (c : StoreChange)
    → IsHeld size counts t pending
    → HasChains image t → c.mark ≡ greatest_in t + 1 → (c.body ≡ None → IsSome (keeper t c.uid))
    → ((s : HeadFields) → keeper t c.uid ≡ Some s → s.sequence ≤ greatest_in t) → IsFresh c (shown image t)
fresh_shown size counts image t pending c held chains mark kept late =
    by_body c.body refl (keeper t c.uid) refl
  where
    now : sequence_of (keeper t c.uid) ≡ finite.get (shown image t).marks c.uid
    now = mark_shown image t c.uid held.table held.apart chains

    over : (o : Option HeadFields) → keeper t c.uid ≡ o → Some c.mark ≡ sequence_of o → ⊥
    over None none same = false≢true (sym (ap is_some same))
    over (Some s) some same =
        let equal : c.mark ≡ s.sequence = cc in
        omega (arith, equal, mark, late s some)

    by_body : (b : Option (List ℕ)) → c.body ≡ b → (o : Option HeadFields) → keeper t c.uid ≡ o
        → finite.get (marks_after c.uid c.body c.mark (shown image t).marks) c.uid ≢ finite.get (shown image t).marks c.uid
    by_body None is None none = λ same. false≢true (ap is_some (sym none) ∙ kept is)
    by_body None is (Some s) some = λ same.
        false≢true (ap is_some (sym (ap (λ b. finite.get (marks_after c.uid b c.mark (shown image t).marks) c.uid) is
        ∙ finite.get-remove uid_cmp_total (shown image t).marks c.uid c.uid
        ∙ ap (λ b. cond b None (finite.get (shown image t).marks c.uid)) (same_itself c.uid)) ∙ same ∙ sym now ∙ ap sequence_of some))
    by_body (Some body) is o found = λ same.
        let given : Some c.mark ≡ finite.get (shown image t).marks c.uid =
        sym (ap (λ b. finite.get (marks_after c.uid b c.mark (shown image t).marks) c.uid) is
        ∙ finite.get-insert uid_cmp_total (shown image t).marks c.uid c.mark c.uid
        ∙ ap (λ b. cond b (Some c.mark) (finite.get (shown image t).marks c.uid)) (same_itself c.uid)) ∙ same in
        over o found (given ∙ sym now ∙ ap sequence_of found)
