-- A change is chosen: what holds in memory goes on holding, with that change waiting.
use Rattle.std.proofs.Common.{◌≡◌, ℕ, suc, ◌+◌, ◌-◌, ◌≤◌, ◌<◌, Bool, true, false, ◌||◌, ◌&&◌, not, List, [], ◌∷◌, ◌++◌}
use Rattle.std.proofs.Common.{length, map, take, refl, sym, ap, subst, ◌∙◌, arith, None, Some}
use Rattle.std.specs.Prelude.{if◌then◌else◌, nat_le, slice_index, IsSome}
use Rattle.std.proofs.lemmas.Bool.{false≢true, false_from_ne_true, leb-true, lt-ltb}
use Rattle.std.proofs.lemmas.List.{length-take-le}
use Rattle.std.specs.BTreeMap as tree
use Rattle.capability.specs.declared.Uid.{Uid}
use Rattle.capability.specs.Uids.{uid_cmp}
use Rattle.eden_disk.specs.Calls.{Counts}
use Rattle.block_tables.specs.declared.heads.HeadFields.{HeadFields}
use Rattle.block_tables.specs.declared.table.Table.{Table}
use Rattle.block_tables.specs.declared.block_table.BlockTable.{BlockTable}
use Rattle.passive_blocks.specs.declared.block_store.Pending.{Pending}
use Rattle.block_tables.specs.Members.{is_member}
use Rattle.block_tables.specs.Blocks.{Head, blocks_of, data_count, is_data, keeping, has}
use Rattle.block_tables.specs.HeadState.{heads_in, slot_at, is_open}
use Rattle.block_tables.specs.BlockState.{walk, free_in}
use Rattle.block_tables.specs.TableState.{IsTable, keeper, greatest_in, fits_in, spare, left_in, blocks_chosen}
use Rattle.passive_blocks.specs.HeldState.{IsHeld, MayClose, times, one_if, times_kept, planned_blocks, behind_walk}
use Rattle.passive_blocks.specs.HeldState.{blocks_planned}
use Rattle.block_tables.proofs.Greatest.{peak-above}
use Rattle.passive_blocks.proofs.HeldCounts.{some_times, once, times_among, times_take, walk_further, walk_long}
use Rattle.passive_blocks.proofs.HeldCounts.{same_parts, chains_stay}
use Rattle.passive_blocks.proofs.HeldFacts.{one_true, few_one, times_under, keeper_times, kept_by_places, free_left, ends_stay, sequence_at}

pub chosen_times : (b : BlockTable) (removal : Bool) (long k : ℕ) → times k (blocks_chosen b removal long) ≤ one_if (is_member b.free k)
chosen_times b true long k = omega arith
chosen_times b false long k =
    omega (arith, times_take k (blocks_of long) (free_in b), times_among (is_member b.free) k 0 (length b.free))

some_blocks : (long : ℕ) → 1 ≤ blocks_of long
some_blocks long = omega arith

-- the blocks of the change are those that were chosen, and behind the last of them is none
pub chosen_walk : (b : BlockTable) (next : List ℕ) (head : HeadFields) (removal : Bool) (long : ℕ) → head.removal ≡ removal → head.size
    ≡ long
    → (removal ≡ false → blocks_of long ≤ length (free_in b))
    → (1 ≤ length (blocks_chosen b removal long)
    → walk next head.first (suc (length (blocks_chosen b removal long))) ≡ blocks_chosen b removal long ++ 0 ∷ [])
    → (blocks_planned next head ≡ blocks_chosen b removal long)
    × (head.removal ≡ false → behind_walk next head.first (blocks_of head.size) ≡ 0)
chosen_walk b next head true long same size enough walks = (
  ap (λ c. if c then [] else walk next head.first (blocks_of head.size)) same,
  λ is. absurd (false≢true (sym is ∙ same)),
)
chosen_walk b next head false long same size enough walks =
    let n : ℕ = blocks_of long in
    let taken : List ℕ = take n (free_in b) in
    let exact : length taken ≡ n = length-take-le n (free_in b) (enough refl) in
    let further : walk next head.first n ++ behind_walk next head.first n ∷ [] ≡ taken ++ 0 ∷ [] =
    sym (walk_further next head.first n) ∙ ap (λ m. walk next head.first (suc m)) (sym exact)
    ∙ walks (subst (λ m. 1 ≤ m) (sym exact) (some_blocks long)) in
    let parts = same_parts (walk next head.first n) taken (behind_walk next head.first n) 0 (walk_long next head.first n
    ∙ sym exact) further in (
      ap (λ c. if c then [] else walk next head.first (blocks_of head.size)) same
          ∙ ap (λ m. walk next head.first (blocks_of m)) size ∙ parts.0,
      λ is. ap (λ m. behind_walk next head.first (blocks_of m)) size ∙ parts.1,
    )

left_or_taken : (c f : Bool) (n : ℕ) → n ≡ one_if c → n ≤ one_if f → one_if (not c && f) + n ≡ one_if f
left_or_taken true true n is less = omega (arith, is)
left_or_taken true false n is less = absurd (omega (arith, is, less))
left_or_taken false f n is less = omega (arith, is)

room_is : (removal b : Bool) → (removal || b) ≡ true → removal ≡ false → b ≡ true
room_is true b h not_it = absurd (false≢true (sym not_it))
room_is false b h not_it = h

same_heads : (t : Table) (b : BlockTable) (k : ℕ) → MayClose t k → MayClose (record { heads = t.heads; blocks = b }) k
same_heads t b k may = record { on = may.on; opened = may.opened; alone = may.alone; removal = may.removal }

-- A change is chosen, and waits.
pub held_when_chosen : (size : ℕ) (counts : Counts) (t new : Table) (p : Pending) (uid : Uid) (removal : Bool) (long : ℕ)
    → IsHeld size counts t None → IsTable new → new.heads ≡ t.heads → new.blocks.needed ≡ t.blocks.needed → new.blocks.size ≡ t.blocks.size
    → p.head.uid ≡ uid → p.head.removal ≡ removal → p.head.size ≡ long → p.head.sequence ≡ greatest_in t + 1
    → p.head.number < length t.heads.slots.items → is_open (slot_at t.heads.slots.items p.head.number) ≡ false
    → fits_in t uid removal long ≡ true
    → (1 ≤ length (blocks_chosen t.blocks removal long)
    → walk new.blocks.next.items p.head.first (suc (length (blocks_chosen t.blocks removal long)))
    ≡ blocks_chosen t.blocks removal long ++ 0 ∷ [])
    → ((k : ℕ) → is_member new.blocks.free k ≡ (not (has k (blocks_chosen t.blocks removal long)) && is_member t.blocks.free k))
    → ((k : ℕ) → has k (blocks_chosen t.blocks removal long) ≡ false
    → slice_index new.blocks.next.items k ≡ slice_index t.blocks.next.items k)
    → IsSome (tree.get uid_cmp t.heads.index uid) → length p.body.items ≡ long → IsHeld size counts new (Some p)
held_when_chosen size counts t new p uid removal long held is heads needed sized uid_is removal_is size_is sequence number shut fits walks
    taken others entry bytes =
    let b : BlockTable = new.blocks in
    let both : Table = record { heads = t.heads; blocks = b } in
    let listed : List Head = heads_in t.heads.slots.items in
    let chosen : List ℕ = blocks_chosen t.blocks removal long in
    let is_both : IsTable both = subst (λ h. IsTable (record { heads = h; blocks = b })) heads is in
    let count = free_left size counts t None held in
    let room = λ (none : removal ≡ false). leb-true (blocks_of long + spare uid) (left_in t)
    (room_is removal (nat_le (blocks_of long + spare uid) (left_in t)) fits none) in
    let left : left_in t ≡ data_count size - t.blocks.needed = ap (λ s. data_count s - t.blocks.needed) held.same in
    let enough = λ (none : removal ≡ false). enough_of (blocks_of long) (spare uid) (left_in t) (data_count size) t.blocks.needed
    (length (free_in t.blocks)) (room none) left count in
    let walked = chosen_walk t.blocks b.next.items p.head removal long removal_is size_is enough walks in
    let not_chosen = λ (j : ℕ) (some : 1 ≤ times_kept t.blocks.next.items listed j).
    false_from_ne_true (has j chosen) (λ there.
    not_both (times_kept t.blocks.next.items listed j) (one_if (is_member t.blocks.free j)) (one_if (is_data size j)) (times j chosen)
    (held.places j) (few_one (is_data size j)) (some_times j chosen there) (chosen_times t.blocks removal long j) some) in
    let places = λ (k : ℕ). placed (one_if (is_member b.free k)) (one_if (is_member t.blocks.free k))
    (times_kept b.next.items listed k) (times_kept t.blocks.next.items listed k) (times k (planned_blocks b.next.items (Some p)))
    (times k chosen) (one_if (not (has k chosen) && is_member t.blocks.free k)) (one_if (is_data size k))
    (ap one_if (taken k))
    (left_or_taken (has k chosen) (is_member t.blocks.free k) (times k chosen)
    (once k chosen (at_most_one (times k chosen) (is_member t.blocks.free k) (chosen_times t.blocks removal long k)))
    (chosen_times t.blocks removal long k))
    (chains_stay t.blocks.next.items b.next.items (keeping listed) (λ j some. others j (not_chosen j some)) k)
    (ap (times k) walked.0) (held.places k) in
    subst (λ h. IsHeld size counts (record { heads = h; blocks = b }) (Some p)) (sym heads) (record {
      table = is_both;
      sized = held.sized;
      same = sized ∙ held.same;
      apart = held.apart;
      kept = kept_by_places size both (λ k. times k (planned_blocks b.next.items (Some p))) is_both (sized ∙ held.same) held.apart
          (needed ∙ held.needed) places;
      ends = λ u. ends_stay t.blocks.next.items b.next.items (keeper t u) (λ k some. others k (not_chosen k
          (within (times_under t.blocks k (keeper t u)) (keeper_times t u k held.table held.apart) some))) (held.ends u);
      needed = needed ∙ held.needed;
      places = places;
      closing = λ k there. same_heads t b k (held.closing k there);
      lone = λ k there. (same_heads t b k (held.lone k there).0, (held.lone k there).1);
      all = held.all;
      planned = record {
        number = number;
        shut = shut;
        opened = lt-ltb 0 p.head.sequence (omega (arith, sequence));
        later = λ k. later_of (slot_at t.heads.slots.items k).sequence _ p.head.sequence _
            (sequence_at t.heads.slots.items k) (peak-above (map (λ (s : HeadFields). s.sequence) t.heads.slots.items) k) sequence;
        entry = subst (λ u. IsSome (tree.get uid_cmp t.heads.index u)) (sym uid_is) entry;
        fits = λ none. fit_of b.needed t.blocks.needed (blocks_of long) (blocks_of p.head.size) (spare uid) (left_in t)
            (data_count t.blocks.size)
            (data_count b.size) needed (ap blocks_of size_is) (ap data_count sized) (room (sym removal_is ∙ none)) refl
            (some_blocks long);
        chain = λ none k there.
            ap (λ s. is_data s k) sized
            ∙ held.table.blocks.inside k (one_true (is_member t.blocks.free k)
            (omega (
              arith,
              chosen_times t.blocks removal long k,
              some_times k chosen
                  (sym (ap (has k) (sym (ap (λ c. if c then [] else walk b.next.items p.head.first (blocks_of p.head.size)) none)
                  ∙ walked.0))
                  ∙ there),
            )));
        ends = walked.1;
        bytes = bytes ∙ sym size_is;
      };
    })
  where
    enough_of : (n spared left all need free : ℕ) → n + spared ≤ left → left ≡ all - need → free + (need + 0) ≡ all → n ≤ free
    enough_of n spared left all need free room is count = omega (arith, room, is, count)

    not_both : (kept free whole n : ℕ) → free + (kept + 0) ≡ whole → whole ≤ 1 → 1 ≤ n → n ≤ free → 1 ≤ kept → ⊥
    not_both kept free whole n is few some less more = omega (arith, is, few, some, less, more)

    placed : (free_new free kept_new kept planned n left whole : ℕ) → free_new ≡ left → left + n ≡ free → kept_new ≡ kept → planned ≡ n
        → free + (kept + 0) ≡ whole → free_new + (kept_new + planned) ≡ whole
    placed free_new free kept_new kept planned n left whole a b c d e = omega (arith, a, b, c, d, e)

    at_most_one : (n : ℕ) (f : Bool) → n ≤ one_if f → n ≤ 1
    at_most_one n f less = omega (arith, less, few_one f)

    within : {a b c : ℕ} → a ≡ b → a ≤ c → 1 ≤ b → 1 ≤ c
    within same less some = omega (arith, same, less, some)

    later_of : (s at x greatest : ℕ) → at ≡ s → at ≤ greatest → x ≡ greatest + 1 → s < x
    later_of s at x greatest same less is = omega (arith, same, less, is)

    fit_of : (need_new need n n2 spared left all all_new : ℕ) → need_new ≡ need → n2 ≡ n → all_new ≡ all → n + spared ≤ left
        → left ≡ all - need → 1 ≤ n → need_new + n2 ≤ all_new
    fit_of need_new need n n2 spared left all all_new a b c d e f = omega (arith, a, b, c, d, e, f)
