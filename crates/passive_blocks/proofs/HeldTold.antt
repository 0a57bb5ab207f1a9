-- For how many more changes the room is told behind a change, by what memory has.
use Rattle.std.proofs.Common.{◌≡◌, ◌⊎◌, ℕ, suc, zero, ◌+◌, ◌-◌, ◌≤◌, ◌<◌, ◌/◌, ◌^◌, Bool, true, false, cond, ◌||◌, ◌&&◌, not, ◌==◌}
use Rattle.std.proofs.Common.{List, [], ◌∷◌, length, map, set, refl, sym, ap, subst, ◌∙◌, arith, inl, inr, Option, None, Some, eq-eqb}
use Rattle.std.proofs.Common.{IsTrue}
use Rattle.std.specs.Prelude.{if◌then◌else◌, nat_le, filter, is_some, sum_by, slice_set, Ok}
use Rattle.std.specs.FinMap as finite
use Rattle.std.specs.FinMap.{FinMap}
use Rattle.std.specs.List.{find, list_all}
use Rattle.std.specs.Ordering.{eq_by_cmp}
use Rattle.std.proofs.lemmas.Bool.{false≢true, cases_eq, cases_lt, and_parts, or_cases, both_ways, false_from_ne_true, eqb-true, eqb-false}
use Rattle.std.proofs.lemmas.Bool.{ne_eqb, leb-true}
use Rattle.std.proofs.lemmas.Bool.{le-leb, and_from, or_left, or_right, not-true}
use Rattle.std.proofs.lemmas.Bool.Decides.{nat_tests}
use Rattle.std.proofs.lemmas.List.{length-set}
use Rattle.std.proofs.lemmas.List.Sums.{sum_by-cons}
use Rattle.capability.specs.declared.Uid.{Uid}
use Rattle.capability.specs.Uids.{uid_cmp}
use Rattle.capability.proofs.Uids.{uid_cmp_total, uid_cmp-IsAntisymmetric}
use Rattle.eden_disk.specs.Calls.{Counts}
use Rattle.passive_store.specs.Kept.{Kept, kept_after, bodies_after, reserved_uid, body_at, IsOwn}
use Rattle.passive_blocks.specs.StageState.{TellsBehind}
use Rattle.block_tables.specs.declared.heads.HeadFields.{HeadFields}
use Rattle.block_tables.specs.declared.table.Table.{Table}
use Rattle.block_tables.specs.declared.index.IndexEntry.{IndexEntry}
use Rattle.block_tables.specs.declared.head_table.HeadTable.{HeadTable}
use Rattle.passive_blocks.specs.declared.block_store.Pending.{Pending}
use Rattle.block_tables.specs.Members.{is_member}
use Rattle.block_tables.specs.Greatest.{peak}
use Rattle.block_tables.specs.Blocks.{Head, keeping, counts, blocks_of, data_count, numbers, greatest, kept_in_blocks, is_block_size}
use Rattle.block_tables.specs.Changes.{free_head, is_taken, size_of}
use Rattle.passive_blocks.specs.BlockLayout.{blocks_needed, blocks_left, changes_left}
use Rattle.block_tables.specs.HeadSeen.{head_of}
use Rattle.block_tables.specs.HeadState.{heads_in, slot_at, entry_at, is_open, is_open_of, is_it, count_of, one_if_some, closed_slot}
use Rattle.block_tables.specs.TableState.{spare}
use Rattle.passive_blocks.specs.StoreState.{change_of}
use Rattle.passive_blocks.specs.HeldState.{IsHeld, IsPlanned, MayClose, closes_next}
use Rattle.passive_blocks.specs.KeptState.{HasChains}
use Rattle.block_tables.proofs.Greatest.{peak-at}
use Rattle.block_tables.proofs.Slots.{one, slot_same, slot_other, count_set, fewer_of, own_uid}
use Rattle.passive_blocks.proofs.HeldSums.{same_itself, each_open, uid_is}
use Rattle.block_tables.proofs.Slots.{same_uids}
use Rattle.block_tables.proofs.OpenHeads.{open_within}
use Rattle.block_tables.proofs.OpenHeads.{open_is}
use Rattle.passive_blocks.proofs.HeldFacts.{sequence_at}
use Rattle.passive_blocks.proofs.HeldClosing.{it_is}
use Rattle.passive_blocks.proofs.HeldJob.{taken_is, greatest_is, counts_is, one_passes}
use Rattle.passive_blocks.proofs.KeptRoom.{needed_kept, total_insert, total_empty}
use Rattle.passive_blocks.proofs.KeptLooks.{on_image}

-- a head is free beside that of a change
abbrev pub FreeBeside : Table → Pending → Type 0
FreeBeside t p = (j : ℕ) × (j < length t.heads.slots.items) × (is_open (slot_at t.heads.slots.items j) ≡ false) × (j ≡ p.head.number → ⊥)

-- the blocks of a body, or of none
abbrev blocks_if : Option (List ℕ) → ℕ
blocks_if None = 0
blocks_if (Some body) = blocks_of (length body)

abbrev size_in : List ℕ → ℕ
size_in body = blocks_of (length body)

none_there : (m : FinMap uid_cmp (List ℕ)) (uid : Uid) → finite.get m uid ≡ None → finite.remove m uid ≡ m
none_there m uid none = finite.same_map uid_cmp_total uid_cmp-IsAntisymmetric (finite.remove m uid) m
    (λ q. finite.get-remove uid_cmp_total m uid q ∙ go q (eq_by_cmp uid_cmp q uid) refl)
  where
    go : (q : Uid) (b : Bool) → eq_by_cmp uid_cmp q uid ≡ b → cond b None (finite.get m q) ≡ finite.get m q
    go q true same = sym none ∙ ap (finite.get m) (sym (same_uids q uid same))
    go q false other = refl

one_there : (m : FinMap uid_cmp (List ℕ)) (uid : Uid) (old : List ℕ) → finite.get m uid ≡ Some old
    → finite.insert (finite.remove m uid) uid old ≡ m
one_there m uid old there = finite.same_map uid_cmp_total uid_cmp-IsAntisymmetric (finite.insert (finite.remove m uid) uid old) m
    (λ q. finite.get-insert uid_cmp_total (finite.remove m uid) uid old q
    ∙ ap (cond (eq_by_cmp uid_cmp q uid) (Some old)) (finite.get-remove uid_cmp_total m uid q) ∙ go q (eq_by_cmp uid_cmp q uid) refl)
  where
    go : (q : Uid) (b : Bool) → eq_by_cmp uid_cmp q uid ≡ b → cond b (Some old) (cond b None (finite.get m q)) ≡ finite.get m q
    go q true same = sym there ∙ ap (finite.get m) (sym (same_uids q uid same))
    go q false other = refl

other_there : (m : FinMap uid_cmp (List ℕ)) (uid : Uid) (body : List ℕ)
    → finite.insert (finite.remove m uid) uid body ≡ finite.insert m uid body
other_there m uid body =
    finite.same_map uid_cmp_total uid_cmp-IsAntisymmetric (finite.insert (finite.remove m uid) uid body) (finite.insert m uid body)
    (λ q. finite.get-insert uid_cmp_total (finite.remove m uid) uid body q
    ∙ ap (cond (eq_by_cmp uid_cmp q uid) (Some body)) (finite.get-remove uid_cmp_total m uid q) ∙ go q (eq_by_cmp uid_cmp q uid)
    ∙ sym (finite.get-insert uid_cmp_total m uid body q))
  where
    go : (q : Uid) (b : Bool) → cond b (Some body) (cond b None (finite.get m q)) ≡ cond b (Some body) (finite.get m q)
    go q true = refl
    go q false = refl

removed_none : (m : FinMap uid_cmp (List ℕ)) (uid : Uid) → finite.get (finite.remove m uid) uid ≡ None
removed_none m uid = finite.get-remove uid_cmp_total m uid uid ∙ ap (λ b. cond b None (finite.get m uid)) (same_itself uid)

-- The blocks of all bodies but one, and its own.
removed_blocks : (m : FinMap uid_cmp (List ℕ)) (uid : Uid) (found : Option (List ℕ)) → finite.get m uid ≡ found
    → blocks_needed (finite.remove m uid) + blocks_if found ≡ blocks_needed m
removed_blocks m uid None none = omega (arith, ap blocks_needed (none_there m uid none))
removed_blocks m uid (Some old) there =
    omega (
      arith,
      ap blocks_needed (one_there m uid old there),
      total_insert size_in (finite.remove m uid) uid old (removed_none m uid),
    )

after_blocks : (m : FinMap uid_cmp (List ℕ)) (uid : Uid) (body : Option (List ℕ))
    → blocks_needed (bodies_after uid body m) ≡ blocks_needed (finite.remove m uid) + blocks_if body
after_blocks m uid None = omega arith
after_blocks m uid (Some body) =
    ap blocks_needed (sym (other_there m uid body)) ∙ total_insert size_in (finite.remove m uid) uid body (removed_none m uid)

-- where nothing is kept no block is taken, and the other way round
pub no_blocks : (m : FinMap uid_cmp (List ℕ)) → ((uid : Uid) → finite.get m uid ≡ None) → blocks_needed m ≡ 0
no_blocks m none = ap blocks_needed (finite.same_map uid_cmp_total uid_cmp-IsAntisymmetric m finite.empty
    (λ q. none q ∙ sym (finite.get-empty uid_cmp q)))
    ∙ total_empty size_in

pub none_kept : (m : FinMap uid_cmp (List ℕ)) → blocks_needed m ≡ 0 → (uid : Uid) → finite.get m uid ≡ None
none_kept m none uid = go (finite.get m uid) refl
  where
    some : (n : ℕ) → 1 ≤ blocks_of n
    some n = omega arith

    go : (o : Option (List ℕ)) → finite.get m uid ≡ o → o ≡ None
    go None there = refl
    go (Some old) there = absurd (omega (arith, removed_blocks m uid (Some old) there, some (length old), none))

pub told_parts : (a b : Bool) (n more : ℕ) → more ≤ (if a && b then n else 0) → 1 ≤ more → (a ≡ true) × (b ≡ true)
told_parts true true n more less some = (refl, refl)
told_parts true false n more less some = absurd (omega (arith, less, some))
told_parts false b n more less some = absurd (omega (arith, less, some))

told_from : (a b : Bool) (n more : ℕ) → a ≡ true → b ≡ true → more ≤ n → more ≤ (if a && b then n else 0)
told_from true true n more p q less = less
told_from true false n more p q less = absurd (false≢true q)
told_from false b n more p q less = absurd (false≢true p)

found_some : (p : ℕ → Bool) (j from n : ℕ) → from ≤ j → j < from + n → p j ≡ true → is_some (find p (numbers from n)) ≡ true
unfolding numbers
found_some p j from zero above below is = absurd (omega (arith, above, below))
found_some p j from (suc n) above below is = elim (cases_eq from j) [
  | inl same ↦ ap (λ b. is_some (cond b (Some from) (find p (numbers (from + 1) n)))) (ap p same ∙ is)
  | inr other ↦ go (p from) (found_some p j (from + 1) n (omega (arith, above, other)) (omega (arith, below)) is)
]
  where
    go : (b : Bool) → is_some (find p (numbers (from + 1) n)) ≡ true → is_some (cond b (Some from) (find p (numbers (from + 1) n))) ≡ true
    go true rest = refl
    go false rest = rest

-- a head is free behind the change
free_behind : (size : ℕ) (counts : Counts) (t : Table) (p : Pending) → IsHeld size counts t (Some p) → FreeBeside t p
    → is_some (free_head size (heads_in (set t.heads.slots.items p.head.number p.head))) ≡ true
free_behind size counts t p held free =
    let slots : List HeadFields = t.heads.slots.items in
    let n : ℕ = p.head.number in
    let new : List HeadFields = set slots n p.head in
    let plan : IsPlanned t p = held.planned in
    let count : length slots ≡ size / 1024 = held.table.count ∙ ap (λ s. s / 1024) held.same in
    found_some (λ number. not (is_taken (heads_in new) number)) free.0 0 (size / 1024) (omega arith) (omega (arith, free.1, count))
    (ap not (taken_is new free.0 (λ j opened. elim (cases_eq j n) [
      | inl same ↦ ap (λ (s : HeadFields). s.number) (ap (slot_at new) same ∙ slot_same slots n p.head plan.number) ∙ sym same
      | inr other ↦
          ap (λ (s : HeadFields). s.number) (slot_other slots n j p.head other)
          ∙ held.table.heads.numbered j (sym (ap is_open (slot_other slots n j p.head other)) ∙ opened)
    ]) ∙ ap is_open (slot_other slots n free.0 p.head free.3) ∙ free.2))

-- the head of the change has the greatest sequence
greatest_behind : (slots : List HeadFields) (x : HeadFields) → x.number < length slots → is_open x ≡ true
    → ((k : ℕ) → (slot_at slots k).sequence < x.sequence) → greatest (heads_in (set slots x.number x)) ≤ x.sequence
greatest_behind slots x within opened later =
    let new : List HeadFields = set slots x.number x in
    let values : List ℕ = map (λ (s : HeadFields). s.sequence) new in
    elim (cases_lt x.sequence (greatest (heads_in new))) [
      | inr less ↦ less
      | inl more ↦ absurd (let found = peak-at values (omega (arith, more, greatest_is new)) in
          let at : (slot_at new found.0).sequence ≡ peak values = sym (sequence_at new found.0) ∙ found.2 in
          elim (cases_eq found.0 x.number) [
            | inl same ↦ omega (
              arith,
              more,
              greatest_is new,
              at,
              ap (λ (s : HeadFields). s.sequence) (ap (slot_at new) same ∙ slot_same slots x.number x within),
            )
            | inr other ↦ omega (
              arith,
              more,
              greatest_is new,
              at,
              ap (λ (s : HeadFields). s.sequence) (slot_other slots x.number found.0 x other),
              later found.0,
            )
          ])
    ]

-- a block is left behind the change
left_behind : (node size need : ℕ) (kept : Kept) (uid : Uid) (body : Option (List ℕ)) (found : Option (List ℕ)) → is_block_size size ≡ true
    → blocks_needed kept.bodies ≡ need → finite.get kept.bodies uid ≡ found → TellsBehind node kept uid → 1 ≤ data_count size - need
    → IsOwn node uid (size_of body) → (is_some body ≡ true → need + (blocks_if body + spare uid) ≤ data_count size)
    → 1 ≤ data_count size - blocks_needed (bodies_after uid body kept.bodies)
left_behind node size need kept uid None found sized is there first left own room =
    omega (arith, left, is, after_blocks kept.bodies uid None, removed_blocks kept.bodies uid found there)
left_behind node size need kept uid (Some body) found sized is there first left own room = go own.1
  where
    after : blocks_needed (bodies_after uid (Some body) kept.bodies) ≡ blocks_needed (finite.remove kept.bodies uid) + blocks_of
        (length body)
    after = after_blocks kept.bodies uid (Some body)

    enough : need + (blocks_of (length body) + spare uid) ≤ data_count size
    enough = room refl

    some_old : (o : Option (List ℕ)) → finite.get kept.bodies uid ≡ o → uid ≡ reserved_uid node → TellsBehind node kept uid
        → ((blocks_needed (finite.remove kept.bodies uid)) + 1 ≤ need) ⊎ (need ≡ 0)
    some_old None none same (inl other) = absurd (other same)
    some_old None none same (inr (inl here)) =
        absurd (false≢true (sym (ap is_some (ap (finite.get kept.bodies) (sym same) ∙ none)) ∙ here))
    some_old None none same (inr (inr nothing)) = inr (sym is ∙ no_blocks kept.bodies nothing)
    some_old (Some old) old_there same tells = inl (omega (arith, removed_blocks kept.bodies uid (Some old) old_there, is))

    large : (s : ℕ) → is_block_size s ≡ true → 32768 ≤ s
    large s h = grind (arith, nat_tests)

    many : (s : ℕ) → 32768 ≤ s → 2 ≤ data_count s
    many s h = omega (arith, h)

    go : ((1 ≤ uid.epoch) × (1 ≤ uid.serial)) ⊎ ((uid.epoch ≡ 0) × (uid.serial ≡ 0) × (length body ≡ 4))
        → 1 ≤ data_count size - blocks_needed (bodies_after uid (Some body) kept.bodies)
    go (inl eject) =
        let one : spare uid ≡ 1 = ap (λ b. if b then 0 else 1) (ne_eqb uid.epoch 0 (λ e. omega (arith, e, eject.0))) in
        omega (arith, enough, one, after, removed_blocks kept.bodies uid found there, is)
    go (inr reserved) =
        let same : uid ≡ reserved_uid node = λ i. record { node = own.0 i; epoch = reserved.0 i; serial = reserved.1 i } in
        let four : blocks_of (length body) ≡ 1 = ap blocks_of reserved.2 in
        elim (some_old found there same first) [
          | inl less ↦ omega (arith, less, four, after, left)
          | inr none ↦ omega (arith, none, four, after, removed_blocks kept.bodies uid found there, is, many size (large size sized))
        ]

-- For as many changes the room is told behind a change as before its head is opened, up to the sequences that are left.
pub told_behind : (node size more : ℕ) (counts : Counts) (t : Table) (p : Pending) (image : List ℕ) (kept : Kept)
    → IsHeld size counts t (Some p) → length image ≡ size → HasChains image t
    → kept_in_blocks image (Ok (heads_in t.heads.slots.items)) ≡ Ok kept
    → more ≤ changes_left size (heads_in t.heads.slots.items) (Ok kept) → more ≤ 2 ^ 63 - p.head.sequence
    → (1 ≤ more → TellsBehind node kept p.head.uid) → IsOwn node p.head.uid (size_of (change_of p).body)
    → (p.head.removal ≡ true → 1 ≤ p.head.uid.epoch)
    → (p.head.removal ≡ false → t.blocks.needed + (blocks_of p.head.size + spare p.head.uid) ≤ data_count size) → FreeBeside t p
    → more ≤ changes_left size (heads_in (slice_set t.heads.slots.items p.head.number p.head)) (Ok (kept_after (change_of p) kept))
told_behind node size more counts t p image kept held long chains found now last tells own eject room free = elim (cases_lt 0 more) [
  | inr none ↦ omega (arith, none)
  | inl some ↦
      let heads : List Head = heads_in t.heads.slots.items in
      let new : List Head = heads_in (set t.heads.slots.items p.head.number p.head) in
      let plan : IsPlanned t p = held.planned in
      let body : Option (List ℕ) = (change_of p).body in
      let need : blocks_needed kept.bodies ≡ t.blocks.needed =
      needed_kept image t kept held.table held.apart chains (on_image size counts image t (Some p) held long) found ∙ sym held.needed in
      let parts = told_parts (is_some (free_head size heads)) (nat_le 1 (blocks_left size kept.bodies))
      (2 ^ 63 - greatest heads) more now (omega (arith, some)) in
      let left : 1 ≤ data_count size - t.blocks.needed =
      subst (λ m. 1 ≤ data_count size - m) need (leb-true 1 (blocks_left size kept.bodies) parts.1) in
      let sized : is_block_size size ≡ true = ap is_block_size (sym held.same) ∙ held.table.blocks.sized in
      told_from (is_some (free_head size new)) (nat_le 1 (blocks_left size (kept_after (change_of p) kept).bodies))
      (2 ^ 63 - greatest new) more
      (free_behind size counts t p held free)
      (le-leb 1 (blocks_left size (kept_after (change_of p) kept).bodies)
      (left_behind node size t.blocks.needed kept p.head.uid body (finite.get kept.bodies p.head.uid) sized need refl
      (tells (omega (arith, some))) left own (roomy p.head.removal refl plan.bytes)))
      (omega (arith, last, greatest_behind t.heads.slots.items p.head plan.number plan.opened plan.later))
]
  where
    roomy : (b : Bool) → p.head.removal ≡ b → length p.body.items ≡ p.head.size
        → is_some (if b then None else Some p.body.items) ≡ true
        → t.blocks.needed + (blocks_if (if b then None else Some p.body.items) + spare p.head.uid) ≤ data_count size
    roomy true is long some = absurd (false≢true some)
    roomy false is long some = subst (λ n. t.blocks.needed + (blocks_of n + spare p.head.uid) ≤ data_count size) (sym long) (room is)

-- A closing leaves a head free beside that of the change.
pub freed_when_closed : (size : ℕ) (counts : Counts) (t : Table) (h : HeadTable) (p : Pending) (n : ℕ) → IsHeld size counts t (Some p)
    → is_member t.heads.closing n ≡ true → h.slots.items ≡ set t.heads.slots.items n closed_slot
    → FreeBeside (record { heads = h; blocks = t.blocks }) p
freed_when_closed size counts t h p n held there items =
    let may : MayClose t n = held.closing n there in (
      n,
      subst (λ s. n < length s) (sym items) (omega (arith, may.on, length-set t.heads.slots.items n closed_slot)),
      ap is_open (ap (λ s. slot_at s n) items ∙ slot_same t.heads.slots.items n closed_slot may.on),
      λ same. both_ways (is_open (slot_at t.heads.slots.items n))
          (ap (λ j. is_open (slot_at t.heads.slots.items j)) same ∙ held.planned.shut) may.opened,
    )

-- where one is free another closing leaves it so
pub still_free : (t : Table) (h : HeadTable) (p : Pending) (n : ℕ) → h.slots.items ≡ set t.heads.slots.items n closed_slot
    → n < length t.heads.slots.items → FreeBeside t p → FreeBeside (record { heads = h; blocks = t.blocks }) p
still_free t h p n items within free = (
  free.0,
  subst (λ s. free.0 < length s) (sym items) (omega (arith, free.1, length-set t.heads.slots.items n closed_slot)),
  ap (λ s. is_open (slot_at s free.0)) items ∙ elim (cases_eq free.0 n) [
    | inl same ↦ ap is_open (ap (slot_at (set t.heads.slots.items n closed_slot)) same ∙ slot_same t.heads.slots.items n closed_slot within)
    | inr other ↦ ap is_open (slot_other t.heads.slots.items n free.0 closed_slot other) ∙ free.2
  ],
  free.3,
)

search : (q : ℕ → Bool) (m : ℕ) → ((j : ℕ) × (j < m) × (q j ≡ true)) ⊎ ((j : ℕ) → j < m → q j ≡ false)
search q zero = inr (λ j less. absurd (omega (arith, less)))
search q (suc m) = go (q m) refl (search q m)
  where
    go : (b : Bool) → q m ≡ b → ((j : ℕ) × (j < m) × (q j ≡ true)) ⊎ ((j : ℕ) → j < m → q j ≡ false)
        → ((j : ℕ) × (j < suc m) × (q j ≡ true)) ⊎ ((j : ℕ) → j < suc m → q j ≡ false)
    go true is rest = inl (m, omega arith, is)
    go false is (inl found) = inl (found.0, omega (arith, found.1), found.2)
    go false is (inr none) = inr (λ j less. elim (cases_eq j m) [
      | inl same ↦ ap q same ∙ is
      | inr other ↦ none j (omega (arith, less, other))
    ])

all_pass : (q : HeadFields → Bool) (slots : List HeadFields) → ((k : ℕ) → k < length slots → q (slot_at slots k) ≡ true)
    → length (filter q slots) ≡ length slots
all_pass q [] all = refl
all_pass q (s ∷ slots) all =
    ap (λ b. length (if b then s ∷ filter q slots else filter q slots)) (all zero (omega arith))
    ∙ ap suc (all_pass q slots (λ k less. all (suc k) (omega (arith, less))))

as_many : (hs : List HeadFields) → length (map head_of hs) ≡ length hs
as_many [] = refl
as_many (h ∷ hs) = ap suc (as_many hs)

each_block : (hs : List Head) → length hs ≤ sum_by (λ (h : Head). blocks_of h.size) hs
each_block [] = omega arith
each_block (h ∷ hs) = omega (arith, each_block hs, sum_by-cons (λ (g : Head). blocks_of g.size) h hs, some_block h.size)
  where
    some_block : (n : ℕ) → 1 ≤ blocks_of n
    some_block n = omega arith

pub all_kept : (q : Head → Bool) (hs : List Head) → list_all q hs ≡ true → filter q hs ≡ hs
all_kept q [] all = refl
all_kept q (h ∷ hs) all =
    let parts = and_parts (q h) (list_all q hs) all in
    ap (λ b. if b then h ∷ filter q hs else filter q hs) parts.0 ∙ ap (λ gs. h ∷ gs) (all_kept q hs parts.1)

-- where no head is to be closed, each open one keeps a value
each_keeps : (size : ℕ) (counts : Counts) (t : Table) (pending : Option Pending) → IsHeld size counts t pending
    → ((k : ℕ) → is_member t.heads.closing k ≡ false) → ((k : ℕ) → is_member t.heads.lone k ≡ false)
    → keeping (heads_in t.heads.slots.items) ≡ heads_in t.heads.slots.items
each_keeps size counted t pending held closing lone =
    let slots : List HeadFields = t.heads.slots.items in
    let stays = λ (k : ℕ). sym (held.all k) ∙ ap (λ b. b || is_member t.heads.closing k) (lone k) ∙ closing k in
    all_kept (λ h. counts (heads_in slots) h && not h.removal) (heads_in slots)
    (each_open (λ h. counts (heads_in slots) h && not h.removal) slots (λ k opened.
    let slot : HeadFields = slot_at slots k in
    let entry : IndexEntry = entry_at t.heads.index slot.uid in
    let parts = kept_parts (is_open slot) (is_it k entry.latest) slot.removal (entry.others == 0) (stays k) opened in
    let is_counted = counts_is slots k entry.latest held.apart opened (held.table.heads.entries slot.uid).0 in
    and_from (counts (heads_in slots) (head_of slot)) (not slot.removal) (is_counted ∙ parts.0)
    (ap not (false_from_ne_true slot.removal (λ removal.
    let some : entry.others ≡ 0 → ⊥ = λ none. both_ways (entry.others == 0) (parts.1 removal) (eq-eqb entry.others 0 none) in
    let count : entry.others + 1 ≡ count_of slots slot.uid =
    subst (λ l. entry.others + one_if_some l ≡ count_of slots slot.uid) (it_is k entry.latest parts.0)
    (held.table.heads.entries slot.uid).1 in
    let other = another slots k entry.others opened some count in
    let uid : (slot_at slots other.0).uid ≡ slot.uid = uid_is (slot_at slots other.0) slot.uid other.2 in
    let not_latest : is_it other.0 (entry_at t.heads.index (slot_at slots other.0).uid).latest ≡ false =
    ap (λ u. is_it other.0 (entry_at t.heads.index u).latest) uid ∙ ap (is_it other.0) (it_is k entry.latest parts.0)
    ∙ ne_eqb other.0 k other.1 in
    both_ways (closes_next t other.0) (stays other.0)
    (ap (λ b. b && (not (is_it other.0 (entry_at t.heads.index (slot_at slots other.0).uid).latest)
    || ((slot_at slots other.0).removal && (entry_at t.heads.index (slot_at slots other.0).uid).others == 0)))
    (open_is (slot_at slots other.0) slot.uid other.2)
    ∙ ap (λ b. not b || ((slot_at slots other.0).removal && (entry_at t.heads.index
    (slot_at slots other.0).uid).others == 0)) not_latest))))))
  where
    kept_parts : (a i r z : Bool) → (a && (not i || (r && z))) ≡ false → a ≡ true → (i ≡ true) × (r ≡ true → z ≡ false)
    kept_parts true true true z is opened = (refl, λ e. is)
    kept_parts true true false z is opened = (refl, λ e. absurd (false≢true e))
    kept_parts true false r z is opened = absurd (false≢true (sym is))
    kept_parts false i r z is opened = absurd (false≢true opened)

    fewer : (n others count : ℕ) → (others ≡ 0 → ⊥) → others + 1 ≡ count → n + 1 ≡ count → 1 ≤ n
    fewer n others count some is less = omega (arith, some, is, less)

    another : (slots : List HeadFields) (k others : ℕ) → is_open (slot_at slots k) ≡ true → (others ≡ 0 → ⊥)
        → others + 1 ≡ count_of slots (slot_at slots k).uid
        → (j : ℕ) × (j ≡ k → ⊥) × (is_open_of (slot_at slots k).uid (slot_at slots j) ≡ true)
    another slots k others opened some count =
        let uid : Uid = (slot_at slots k).uid in
        let on : k < length slots = open_within slots k opened in
        let found = one_passes (is_open_of uid) (set slots k closed_slot)
        (fewer (length (filter (is_open_of uid) (set slots k closed_slot))) others (count_of slots uid) some count
        (fewer_of slots uid k on (own_uid (slot_at slots k) opened))) in
        let apart : found.0 ≡ k → ⊥ = λ e. false≢true (sym (ap (is_open_of uid) (ap (slot_at (set slots k closed_slot)) e
        ∙ slot_same slots k closed_slot on)) ∙ found.1) in
        (found.0, apart, sym (ap (is_open_of uid) (slot_other slots k found.0 closed_slot apart)) ∙ found.1)

-- Where none is to be closed, a head is free beside that of the change: the others keep values, and these need a block each.
pub free_beside : (size : ℕ) (counts : Counts) (t : Table) (p : Pending) → IsHeld size counts t (Some p)
    → ((k : ℕ) → is_member t.heads.closing k ≡ false) → ((k : ℕ) → is_member t.heads.lone k ≡ false) → FreeBeside t p
free_beside size counted t p held closing lone =
    let slots : List HeadFields = t.heads.slots.items in
    let n : ℕ = p.head.number in
    let plan : IsPlanned t p = held.planned in
    elim (search (λ j. not (is_open (slot_at slots j)) && not (j == n)) (length slots)) [
      | inl found ↦
          let parts = and_parts (not (is_open (slot_at slots found.0))) (not (found.0 == n)) found.2 in
          (found.0, found.1, not-true (is_open (slot_at slots found.0)) parts.0, eqb-false found.0 n (not-true (found.0 == n) parts.1))
      | inr none ↦ absurd (
          let whole : length (filter is_open (set slots n p.head)) ≡ length (set slots n p.head) =
          all_pass is_open (set slots n p.head) (λ k less. elim (cases_eq k n) [
            | inl same ↦ ap is_open (ap (slot_at (set slots n p.head)) same ∙ slot_same slots n p.head plan.number) ∙ plan.opened
            | inr other ↦
                ap is_open (slot_other slots n k p.head other)
                ∙ else_open (is_open (slot_at slots k)) (k == n) (none k (omega (arith, less, length-set slots n p.head)))
                (ne_eqb k n other)
          ]) in
          too_many (length (filter is_open (set slots n p.head))) (length (set slots n p.head)) (length slots) (length
          (filter is_open slots))
          (one (is_open (slot_at slots n))) (one (is_open p.head)) (length (heads_in slots)) t.blocks.needed size (length (keeping
          (heads_in slots)))
          (sum_by (λ (h : Head). blocks_of h.size) (keeping (heads_in slots)))
          whole (length-set slots n p.head) (count_set is_open slots n p.head plan.number) (ap one plan.shut) (ap one plan.opened)
          (as_many (filter is_open slots)) (ap length (each_keeps size counted t (Some p) held closing lone)) (each_block (keeping
          (heads_in slots)))
          held.needed (subst (λ s. t.blocks.needed ≤ data_count s) held.same held.table.blocks.needed)
          (held.table.count ∙ ap (λ s. s / 1024) held.same)
          (large size (ap is_block_size (sym held.same) ∙ held.table.blocks.sized)))
    ]
  where
    else_open : (a e : Bool) → (not a && not e) ≡ false → e ≡ false → a ≡ true
    else_open true e none other = refl
    else_open false true none other = absurd (false≢true (sym other))
    else_open false false none other = absurd (false≢true (sym none))

    large : (s : ℕ) → is_block_size s ≡ true → 32768 ≤ s
    large s h = grind (arith, nat_tests)

    too_many : (opened_new all_new all opened was is heads need s kept sum : ℕ) → opened_new ≡ all_new → all_new ≡ all
        → opened_new + was ≡ opened + is → was ≡ 0 → is ≡ 1 → heads ≡ opened → kept ≡ heads → kept ≤ sum → need ≡ sum → need ≤ data_count s
        → all ≡ s / 1024 → 32768 ≤ s → ⊥
    too_many opened_new all_new all opened was is heads need s kept sum a b c d e f g h i j k l = omega
        (arith, a, b, c, d, e, f, g, h, i, j, k, l)
