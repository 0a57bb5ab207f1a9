-- What an image keeps that a crash leaves behind the first sync of a job: its head is open or not.
use Rattle.std.specs.Prelude.{◌≡◌, ◌⊎◌, ℕ, zero, suc, ◌+◌, ◌-◌, ◌*◌, ◌/◌, ◌%◌, ◌≤◌, ◌<◌, Bool, true, false, not, ◌&&◌, ◌||◌, ◌==◌}
use Rattle.std.specs.Prelude.{nat_le, nat_lt, List, [], ◌∷◌, ◌++◌, length, map, flat_map, take, drop, slice_index}
use Rattle.std.specs.Prelude.{slice_range}
use Rattle.std.specs.Prelude.{Option, None, Some, Result, Ok, if◌then◌else◌}
use Rattle.std.proofs.Common.{refl, sym, ap, subst, ◌∙◌, inl, inr, arith, set}
use Rattle.std.specs.List.{list_all}
use Rattle.std.specs.Int.{w16, from_be_bytes}
use Rattle.std.proofs.lemmas.Bool.{false≢true, eqb-true, cases_eq, lt-ltb}
use Rattle.std.proofs.lemmas.Bool.Decides.{nat_tests}
use Rattle.std.proofs.lemmas.List.{length-set, length-take, take-take}
use Rattle.std.proofs.Math.Seq.{drop-cons}
use Rattle.eden_disk.specs.Calls.{Counts}
use Rattle.passive_store.specs.Kept.{Kept, StoreChange, Stands, IsFresh, kept_after, kept_from, nothing_kept, kept_by}
use Rattle.block_tables.specs.declared.heads.HeadFields.{HeadFields}
use Rattle.block_tables.specs.declared.table.Table.{Table}
use Rattle.passive_blocks.specs.declared.block_store.Pending.{Pending}
use Rattle.block_tables.specs.Blocks.{Head, head_place, head_bytes, head_in, is_head, heads_of, keeping, counts, has, next_block}
use Rattle.block_tables.specs.Blocks.{blocks_of, is_data}
use Rattle.block_tables.specs.Blocks.{chains_of, data_blocks, taken_by, kept_in_blocks, blocks_map, changes_on}
use Rattle.block_tables.specs.Blocks.{is_block_size, body_on}
use Rattle.passive_blocks.specs.BlockLayout.{block_layout, changes_left}
use Rattle.block_tables.specs.Changes.{spelled_head}
use Rattle.passive_blocks.specs.Fits.{Fits}
use Rattle.block_tables.specs.HeadSeen.{head_of, IsHeadThere}
use Rattle.block_tables.specs.HeadState.{heads_in, slot_at, is_open, entry_at}
use Rattle.block_tables.specs.BlockState.{walk}
use Rattle.passive_blocks.specs.HeldState.{IsHeld, IsPlanned, behind_walk, chain_by, times, times_kept, one_if}
use Rattle.passive_blocks.specs.StoreState.{IsTableOf, IsImageOf, chain_in, change_of}
use Rattle.passive_blocks.specs.StageState.{MayOpen, IsReady, IsSpelled, IsWritten, IsHeadWritten, HasPart, part_of_body}
use Rattle.passive_blocks.specs.StageState.{gate_open}
use Rattle.passive_blocks.proofs.Among.{In, all_in, in_all, in_filter, of_filter, left_true, right_true, both_true}
use Rattle.block_tables.proofs.Slots.{slot_same, slot_other}
use Rattle.passive_blocks.proofs.Spans.{same_part, same_head, opened_is}
use Rattle.passive_blocks.proofs.Agreeing.{SameBlock, changes_agree}
use Rattle.block_tables.proofs.Closing.{lets, all_append}
use Rattle.block_tables.proofs.Heading.{is_earlier}
use Rattle.passive_blocks.proofs.HeldSums.{heads_with_open, heads_at_shut, front_of, back_of, each_open, sum_when_joined}
use Rattle.passive_blocks.proofs.HeldKeepers.{apart_joined}
use Rattle.passive_blocks.proofs.StageHeads.{each_number, has_first, has_later}
use Rattle.passive_blocks.proofs.BlocksKept.{data_on}
use Rattle.passive_blocks.proofs.HeldFacts.{planned_times}
use Rattle.passive_blocks.proofs.StageBody.{body_stands}
use Rattle.passive_blocks.proofs.StageKeeping.{lets_by}
use Rattle.passive_blocks.proofs.StageSlots.{AreThere, open_slot, heads_by_slots, slots_by_heads}
use Rattle.passive_blocks.proofs.StageChains.{LinksAs, AreLinked, chains_by_links, chains_link, kept_by_chains, value_on}
use Rattle.passive_blocks.proofs.StageChains.{has_times, times_flat, times_in, one_true, taken_chains}
use Rattle.passive_blocks.proofs.StageKept.{kept_with, Makes, mark_of}
use Rattle.passive_blocks.proofs.StageImages.{blocks_map_is, changes_is, never_overfull}
use Rattle.passive_blocks.proofs.StageHeld.{ends_held, once_held}

-- nothing but the gate differs
pub same_else : (ready image : List ℕ) (n k : ℕ) → Fits (MayOpen ready n) (length ready) image → (k ≡ head_place n → ⊥)
    → slice_index ready k ≡ slice_index image k
same_else ready image n k fit other = elim (fit.bytes k) [ inl at ↦ absurd (other at) | inr same ↦ sym same ]

pub head_else : (ready image : List ℕ) (n k : ℕ) → Fits (MayOpen ready n) (length ready) image → (k ≡ n → ⊥)
    → head_bytes ready k ≡ head_bytes image k
head_else ready image n k fit other =
    same_head ready image k (sym fit.long) (λ o small. same_else ready image n (head_place k + o) fit
    (λ at. other (let e : k ≡ n = omega (arith, at, small) in e)))

beyond : (size n b o : ℕ) → size % 32768 ≡ 0 → n < size / 1024 → size / 32768 < b → b * 1024 + o ≡ head_place n → ⊥
beyond size n b o whole within above at = omega (arith, whole, within, above, at)

pub block_else : (ready image : List ℕ) (n b : ℕ) → Fits (MayOpen ready n) (length ready) image → is_block_size (length ready) ≡ true
    → n < length ready / 1024 → is_data (length ready) b ≡ true → SameBlock ready image b
block_else ready image n b fit sized within data_block =
    let above : length ready / 32768 < b = grind (arith, nat_tests, data_block) in
    let whole : length ready % 32768 ≡ 0 =
    eqb-true (length ready % 32768) 0 (left_true (length ready % 32768 == 0) (nat_le 32768 (length ready))
    (left_true (length ready % 32768 == 0 && nat_le 32768 (length ready)) (nat_le (length ready) 67108864) sized)) in
    let same = λ (k : ℕ) (from : b * 1024 ≤ k). same_else ready image n k fit
    (λ at. beyond (length ready) n b (k - b * 1024) whole within above
    (let e : b * 1024 + (k - b * 1024) ≡ head_place n = omega (arith, at, from) in e)) in (
      ap (from_be_bytes w16) (same_part ready image (b * 1024) (b * 1024 + 2) (sym fit.long) (λ k from to. same k from)),
      same_part ready image (b * 1024 + 2) (b * 1024 + 1024) (sym fit.long) (λ k from to. same k (omega (arith, from))),
    )

there_same : (node : ℕ) (xs ys : List ℕ) (k : ℕ) (slot : Option HeadFields) → length xs ≡ length ys → head_bytes xs k ≡ head_bytes ys k
    → IsHeadThere node xs k slot → IsHeadThere node ys k slot
there_same node xs ys k None long same there = sym (ap (λ bytes. slice_index bytes 0 == 225) same) ∙ there
there_same node xs ys k (Some h) long same there = (
  sym (ap (λ bytes. slice_index bytes 0) same) ∙ there.0,
  sym (ap (λ bytes. is_head node (length xs) bytes (head_in k bytes)) same
      ∙ ap (λ size. is_head node size (head_bytes ys k) (head_in k (head_bytes ys k))) long) ∙ there.1,
  there.2 ∙ ap (head_in k) same,
)

there_shut : (node : ℕ) (xs ys : List ℕ) (k : ℕ) (slot : HeadFields) → is_open slot ≡ false → gate_open ys k ≡ false
    → IsHeadThere node ys k (open_slot slot)
there_shut node xs ys k slot shut gate =
    subst (λ b. IsHeadThere node ys k (if b then Some slot else None)) (sym shut) (opened_is ys k ∙ gate)

there_new : (node : ℕ) (image : List ℕ) (x : HeadFields) → head_bytes image x.number ≡ 225 ∷ spelled_head (head_of x)
    → IsSpelled node (length image) x → is_open x ≡ true → IsHeadThere node image x.number (open_slot x)
there_new node image x bytes s opened =
    subst (λ b. IsHeadThere node image x.number (if b then Some x else None)) (sym opened) (
      ap (λ bytes. slice_index bytes 0) bytes,
      ap (λ bytes. is_head node (length image) bytes (head_in x.number bytes)) bytes
          ∙ ap (is_head node (length image) (225 ∷ spelled_head (head_of x))) (sym s.same) ∙ s.good,
      s.same ∙ ap (head_in x.number) (sym bytes),
    )

-- The heads of an image on which the new one is closed, and on which it is open.
pub heads_shut : (node : ℕ) (ready image : List ℕ) (slots : List HeadFields) (x : HeadFields) → Fits (MayOpen ready x.number) (length ready)
    image
    → length slots ≡ length ready / 1024 → AreThere node ready slots → is_open (slot_at slots x.number) ≡ false
    → gate_open image x.number ≡ false → AreThere node image slots
heads_shut node ready image slots x fit long there shut gate k within = elim (cases_eq k x.number) [
  | inl same ↦ subst (λ n. IsHeadThere node image n (open_slot (slot_at slots n))) (sym same)
      (there_shut node ready image x.number (slot_at slots x.number) shut gate)
  | inr other ↦ there_same node ready image k (open_slot (slot_at slots k)) (sym fit.long) (head_else ready image x.number k fit other)
      (there k within)
]

pub heads_open : (node : ℕ) (ready image : List ℕ) (slots : List HeadFields) (x : HeadFields) → Fits (MayOpen ready x.number) (length ready)
    image
    → AreThere node ready slots → x.number < length slots → is_open x ≡ true
    → IsHeadThere node image x.number (open_slot x) → AreThere node image (set slots x.number x)
heads_open node ready image slots x fit there inside opened new k within = elim (cases_eq k x.number) [
  | inl same ↦ subst (λ n. IsHeadThere node image n (open_slot (slot_at (set slots x.number x) n))) (sym same)
      (subst (λ s. IsHeadThere node image x.number (open_slot s)) (sym (slot_same slots x.number x inside)) new)
  | inr other ↦ subst (λ s. IsHeadThere node image k (open_slot s)) (sym (slot_other slots x.number k x other))
      (there_same node ready image k (open_slot (slot_at slots k)) (sym fit.long) (head_else ready image x.number k fit other)
      (there k (omega (arith, within, length-set slots x.number x))))
]

-- a head that keeps a value once a new one is open is that one, or it kept it before
pub kept_or_new : (front back : List Head) (h x : Head) → In x (keeping (front ++ h ∷ back)) → (x ≡ h) ⊎ In x (keeping (front ++ back))
kept_or_new front back h x there =
    let p : Head → Bool = λ g. counts (front ++ h ∷ back) g && not g.removal in
    let at = of_filter p (front ++ h ∷ back) x there in
    elim (split front back h x at.0) [
      | inl same ↦ inl same
      | inr rest ↦ inr (in_filter (λ g. counts (front ++ back) g && not g.removal) (front ++ back) x rest
          (both_true (counts (front ++ back) x) (not x.removal)
          (fewer front back h x (left_true (counts (front ++ h ∷ back) x) (not x.removal) at.1))
          (right_true (counts (front ++ h ∷ back) x) (not x.removal) at.1)))
    ]
  where
    split : (front back : List Head) (h x : Head) → In x (front ++ h ∷ back) → (x ≡ h) ⊎ In x (front ++ back)
    split [] back h x (inl same) = inl same
    split [] back h x (inr rest) = inr rest
    split (f ∷ front) back h x (inl same) = inr (inl same)
    split (f ∷ front) back h x (inr rest) = elim (split front back h x rest) [ inl same ↦ inl same | inr more ↦ inr (inr more) ]

    fewer : (front back : List Head) (h x : Head) → counts (front ++ h ∷ back) x ≡ true → counts (front ++ back) x ≡ true
    fewer front back h x is =
        let parts : (list_all (λ g. lets x g) front && list_all (λ g. lets x g) (h ∷ back)) ≡ true =
        sym (all_append (λ g. lets x g) front (h ∷ back)) ∙ is in
        all_append (λ g. lets x g) front back
        ∙ both_true (list_all (λ g. lets x g) front) (list_all (λ g. lets x g) back)
        (left_true (list_all (λ g. lets x g) front) (list_all (λ g. lets x g) (h ∷ back)) parts)
        (right_true (lets x h) (list_all (λ g. lets x g) back)
        (right_true (list_all (λ g. lets x g) front) (list_all (λ g. lets x g) (h ∷ back)) parts))

-- a block of a walk is so many behind its first
pub walk_at : (next : List ℕ) (block n b : ℕ) → has b (walk next block n) ≡ true → (i : ℕ) × (i < n) × (b ≡ behind_walk next block i)
unfolding walk behind_walk
walk_at next block zero b there = absurd (false≢true there)
walk_at next block (suc n) b there = go (block == b) refl there (walk_at next (slice_index next block) n b)
  where
    go : (c : Bool) → (block == b) ≡ c → (c || has b (walk next (slice_index next block) n)) ≡ true
        → (has b (walk next (slice_index next block) n) ≡ true → (i : ℕ) × (i < n) × (b ≡ behind_walk next (slice_index next block) i))
        → (i : ℕ) × (i < suc n) × (b ≡ behind_walk next block i)
    go true same there rest = (0, omega arith, sym (eqb-true block b same))
    go false other there rest = let r = rest there in (suc r.0, omega (arith, r.1), r.2)

pub written_links : (image next : List ℕ) (first count : ℕ) (body : List ℕ) → IsWritten image next first body count
    → LinksAs image next (walk next first count)
written_links image next first count body written b there =
    let at = walk_at next first count b there in
    subst (λ k. next_block image k ≡ slice_index next k) (sym at.2) (written at.0 at.1).0

-- What stands where a change is ready: the table, the change that waits, and the image behind the first sync.
pub record Waits (node size : ℕ) (counts : Counts) (ready : List ℕ) (t : Table) (p : Pending) : Type 0 where
  pub held : IsHeld size counts t (Some p)
  pub ready_is : IsReady node ready t p
  pub spelled : IsSpelled node (length ready) p.head

-- of such a change
abbrev slots_of : Table → List HeadFields
slots_of t = t.heads.slots.items

abbrev next_of : Table → List ℕ
next_of t = t.blocks.next.items

-- the slots once it is made
abbrev pub slots_with : Table → Pending → List HeadFields
slots_with t p = set (slots_of t) p.head.number p.head

planned : (node size : ℕ) (counts : Counts) (ready : List ℕ) (t : Table) (p : Pending) → Waits node size counts ready t p → IsPlanned t p
planned node size counts ready t p w = w.held.planned

long_slots : (node size : ℕ) (counts : Counts) (ready : List ℕ) (t : Table) (p : Pending) → Waits node size counts ready t p
    → length (slots_of t) ≡ length ready / 1024
long_slots node size counts ready t p w = w.held.table.count ∙ ap (λ n. n / 1024) (sym w.ready_is.table.long)

sized : (node size : ℕ) (counts : Counts) (ready : List ℕ) (t : Table) (p : Pending) → Waits node size counts ready t p
    → is_block_size (length ready) ≡ true
sized node size counts ready t p w = ap is_block_size w.ready_is.table.long ∙ w.held.table.blocks.sized

there_ready : (node size : ℕ) (counts : Counts) (ready : List ℕ) (t : Table) (p : Pending) → Waits node size counts ready t p
    → AreThere node ready (slots_of t)
there_ready node size counts ready t p w =
    slots_by_heads node ready (slots_of t) (long_slots node size counts ready t p w) w.held.table.heads.numbered w.ready_is.table.heads

-- Where its gate is shut its head is not there,
pub late_shut : (node size : ℕ) (counts : Counts) (ready image : List ℕ) (t : Table) (p : Pending) → Waits node size counts ready t p
    → Fits (MayOpen ready p.head.number) (length ready) image → gate_open image p.head.number ≡ false
    → heads_of node image ≡ Ok (heads_in (slots_of t))
late_shut node size counts ready image t p w fit gate =
    heads_by_slots node image (slots_of t) (long_slots node size counts ready t p w ∙ ap (λ n. n / 1024) (sym fit.long))
    (heads_shut node ready image (slots_of t) p.head fit (long_slots node size counts ready t p w)
    (there_ready node size counts ready t p w)
    w.held.planned.shut gate)
    w.held.apart

head_spelled : (ready image : List ℕ) (x : HeadFields) → Fits (MayOpen ready x.number) (length ready) image
    → x.number < length ready / 1024 → length ready % 32768 ≡ 0 → IsHeadWritten ready x → gate_open image x.number ≡ true
    → head_bytes image x.number ≡ 225 ∷ spelled_head (head_of x)
head_spelled ready image x fit within whole written gate =
    let n : ℕ = x.number in
    let on : head_place n < length image = omega (arith, within, whole, fit.long) in
    ap (λ k. take k (drop (head_place n) image)) (let e : head_place n + 32 - head_place n ≡ 32 = omega arith in e)
    ∙ ap (take 32) (drop-cons image (head_place n) 0 on)
    ∙ ap (λ b. b ∷ take 31 (drop (suc (head_place n)) image)) (eqb-true (slice_index image (head_place n)) 225 gate)
    ∙ ap (λ bytes. 225 ∷ bytes)
    (ap (λ k. take 31 (drop k image)) (let e : suc (head_place n) ≡ head_place n + 1 = omega arith in e)
    ∙ ap (λ k. take k (drop (head_place n + 1) image)) (let e : 31 ≡ head_place n + 32 - (head_place n + 1) = omega arith in e)
    ∙ sym (same_part ready image (head_place n + 1) (head_place n + 32) (sym fit.long) (λ k from to. same_else ready image n k fit
    (λ at. absurd (let bad : ⊥ = omega (arith, at, from) in bad))))
    ∙ written)

pub whole_size : (size : ℕ) → is_block_size size ≡ true → size % 32768 ≡ 0
whole_size size is = eqb-true (size % 32768) 0 (left_true (size % 32768 == 0) (nat_le 32768 size)
    (left_true (size % 32768 == 0 && nat_le 32768 size) (nat_le size 67108864) is))

-- and where it is open it is.
pub late_open : (node size : ℕ) (counts : Counts) (ready image : List ℕ) (t : Table) (p : Pending) → Waits node size counts ready t p
    → Fits (MayOpen ready p.head.number) (length ready) image → gate_open image p.head.number ≡ true
    → heads_of node image ≡ Ok (heads_in (slots_with t p))
late_open node size counts ready image t p w fit gate =
    let plan : IsPlanned t p = w.held.planned in
    let within : p.head.number < length ready / 1024 = omega (arith, plan.number, long_slots node size counts ready t p w) in
    let bytes : head_bytes image p.head.number ≡ 225 ∷ spelled_head (head_of p.head) =
    head_spelled ready image p.head fit within (whole_size (length ready) (sized node size counts ready t p w)) w.ready_is.head gate in
    let spelled : IsSpelled node (length image) p.head = subst (λ n. IsSpelled node n p.head) (sym fit.long) w.spelled in
    heads_by_slots node image (slots_with t p)
    (length-set (slots_of t) p.head.number p.head ∙ long_slots node size counts ready t p w ∙ ap (λ n. n / 1024) (sym fit.long))
    (heads_open node ready image (slots_of t) p.head fit (there_ready node size counts ready t p w) plan.number plan.opened
    (there_new node image p.head bytes spelled plan.opened))
    (apart_joined (slots_of t) p.head.number p.head w.held.apart plan.number plan.later)

-- the blocks of its chains are for data
chain_data : (size : ℕ) (next : List ℕ) (heads : List Head) → ((k : ℕ) → times_kept next heads k ≤ one_if (is_data size k))
    → (h : Head) → In h (keeping heads) → (b : ℕ) → has b (chain_by next h) ≡ true → is_data size b ≡ true
chain_data size next heads once h there b at =
    one_true (is_data size b) (omega (arith, has_times b (chain_by next h) at, times_in next b (keeping heads) h there, once b))

-- The chains of what was kept are as they were,
linked_else : (node size : ℕ) (counts : Counts) (ready image : List ℕ) (t : Table) (p : Pending) → Waits node size counts ready t p
    → Fits (MayOpen ready p.head.number) (length ready) image → AreLinked image (next_of t) (keeping (heads_in (slots_of t)))
linked_else node size counts ready image t p w fit h there b at =
    let long : length ready ≡ size = w.ready_is.table.long ∙ w.held.same in
    let data_block : is_data (length ready) b ≡ true =
    ap (λ s. is_data s b) long ∙ chain_data size (next_of t) (heads_in (slots_of t)) (once_held size counts t (Some p) w.held) h there b at
    in
    sym (block_else ready image p.head.number b fit (sized node size counts ready t p w)
    (omega (arith, w.held.planned.number, long_slots node size counts ready t p w)) data_block).0
    ∙ chains_link ready (next_of t) (data_blocks (length ready)) (keeping (heads_in (slots_of t))) w.ready_is.table.chains
    (ends_held size counts t (Some p) w.held) h there b at

pub late_chains : (node size : ℕ) (counts : Counts) (ready image : List ℕ) (t : Table) (p : Pending) → Waits node size counts ready t p
    → Fits (MayOpen ready p.head.number) (length ready) image
    → chains_of image (heads_in (slots_of t)) ≡ map (chain_in (next_of t)) (keeping (heads_in (slots_of t)))
late_chains node size counts ready image t p w fit =
    chains_by_links image (next_of t) size (heads_in (slots_of t)) (fit.long ∙ w.ready_is.table.long ∙ w.held.same)
    (once_held size counts t (Some p) w.held) (linked_else node size counts ready image t p w fit) (ends_held size counts t (Some p) w.held)

-- what stands before the new head and behind it
new_heads : (t : Table) (p : Pending) → IsPlanned t p
    → heads_in (slots_with t p) ≡ front_of (slots_of t) p.head.number ++ head_of p.head ∷ back_of (slots_of t) p.head.number
new_heads t p plan = heads_with_open (slots_of t) p.head.number p.head plan.number plan.opened

old_heads : (t : Table) (p : Pending) → IsPlanned t p
    → heads_in (slots_of t) ≡ front_of (slots_of t) p.head.number ++ back_of (slots_of t) p.head.number
old_heads t p plan = heads_at_shut (slots_of t) p.head.number plan.number plan.shut

earlier_all : (t : Table) (p : Pending) → IsPlanned t p
    → list_all (is_earlier (head_of p.head)) (front_of (slots_of t) p.head.number ++ back_of (slots_of t) p.head.number) ≡ true
earlier_all t p plan =
    subst (λ hs. list_all (is_earlier (head_of p.head)) hs ≡ true) (old_heads t p plan)
    (each_open (is_earlier (head_of p.head)) (slots_of t) (λ k there. lt-ltb (slot_at (slots_of t) k).sequence p.head.sequence
    (plan.later k)))

all_parts : (q : Head → Bool) (front back : List Head) → list_all q (front ++ back) ≡ true
    → (list_all q front ≡ true) × (list_all q back ≡ true)
all_parts q front back all =
    let both : (list_all q front && list_all q back) ≡ true = sym (all_append q front back) ∙ all in
    (left_true (list_all q front) (list_all q back) both, right_true (list_all q front) (list_all q back) both)

-- a head that is later than all others counts
later_than_all : (front back : List Head) (h : Head) → list_all (is_earlier h) front ≡ true → list_all (is_earlier h) back ≡ true
    → counts (front ++ h ∷ back) h ≡ true
later_than_all front back h before behind =
    all_append (λ g. lets h g) front (h ∷ back)
    ∙ both_true (list_all (λ g. lets h g) front) (list_all (λ g. lets h g) (h ∷ back)) (let_all front before)
    (both_true (lets h h) (list_all (λ g. lets h g) back) (lets_by h h (λ same. omega arith)) (let_all back behind))
  where
    let_all : (hs : List Head) → list_all (is_earlier h) hs ≡ true → list_all (λ g. lets h g) hs ≡ true
    let_all hs all = in_all (λ g. lets h g) hs (λ g there.
        let less : nat_lt g.sequence h.sequence ≡ true = all_in (is_earlier h) hs g all there in
        lets_by h g (λ same. let e : g.sequence < h.sequence = grind (arith, nat_tests, less) in omega (arith, e)))

not_removal : (front back : List Head) (h : Head) → In h (keeping (front ++ h ∷ back)) → h.removal ≡ false
not_removal front back h there =
    let at = of_filter (λ g. counts (front ++ h ∷ back) g && not g.removal) (front ++ h ∷ back) h there in
    go h.removal (right_true (counts (front ++ h ∷ back) h) (not h.removal) at.1)
  where
    go : (b : Bool) → not b ≡ true → b ≡ false
    go true h = absurd (false≢true h)
    go false h = refl

-- and so are those of what is kept then.
linked_new : (node size : ℕ) (counts : Counts) (ready image : List ℕ) (t : Table) (p : Pending) → Waits node size counts ready t p
    → Fits (MayOpen ready p.head.number) (length ready) image → p.head.removal ≡ false
    → LinksAs image (next_of t) (walk (next_of t) p.head.first (blocks_of p.head.size))
linked_new node size counts ready image t p w fit value b there =
    let long : length ready ≡ t.blocks.size = w.ready_is.table.long in
    let data_block : is_data (length ready) b ≡ true = ap (λ s. is_data s b) long ∙ w.held.planned.chain value b there in
    sym (block_else ready image p.head.number b fit (sized node size counts ready t p w)
    (omega (arith, w.held.planned.number, long_slots node size counts ready t p w)) data_block).0
    ∙ written_links ready (next_of t) p.head.first (blocks_of p.head.size) p.body.items
    (subst (λ n. IsWritten ready (next_of t) p.head.first p.body.items (blocks_of n)) w.held.planned.bytes (w.ready_is.body value)) b there

-- how often a block stands on the chains of what is kept then
once_new : (node size : ℕ) (counts : Counts) (ready : List ℕ) (t : Table) (p : Pending) → Waits node size counts ready t p
    → (k : ℕ) → times_kept (next_of t) (heads_in (slots_with t p)) k ≤ one_if (is_data size k)
once_new node size counts ready t p w k =
    let x : HeadFields = p.head in
    let sums = sum_when_joined (λ (h : Head). times k (chain_by (next_of t) h)) (slots_of t) x (entry_at t.heads.index x.uid).latest
    w.held.apart w.held.planned.number w.held.planned.shut w.held.planned.opened w.held.planned.later (w.held.table.heads.entries x.uid).0
    in
    omega (arith, sums, w.held.places k, planned_times (next_of t) k x)

keeps_new : (node size : ℕ) (counts : Counts) (ready : List ℕ) (t : Table) (p : Pending) → Waits node size counts ready t p
    → (h : Head) → In h (keeping (heads_in (slots_with t p)))
    → ((h ≡ head_of p.head) × (p.head.removal ≡ false)) ⊎ In h (keeping (heads_in (slots_of t)))
keeps_new node size counts ready t p w h there =
    let plan : IsPlanned t p = w.held.planned in
    let front : List Head = front_of (slots_of t) p.head.number in
    let back : List Head = back_of (slots_of t) p.head.number in
    let at : In h (keeping (front ++ head_of p.head ∷ back)) = subst (λ hs. In h (keeping hs)) (new_heads t p plan) there in
    elim (kept_or_new front back (head_of p.head) h at) [
      | inl same ↦ inl (
        same,
        not_removal front back (head_of p.head) (subst (λ g. In g (keeping (front ++ head_of p.head ∷ back))) same
            at),
      )
      | inr old ↦ inr (subst (λ hs. In h (keeping hs)) (sym (old_heads t p plan)) old)
    ]

pub new_chains : (node size : ℕ) (counts : Counts) (ready image : List ℕ) (t : Table) (p : Pending) → Waits node size counts ready t p
    → Fits (MayOpen ready p.head.number) (length ready) image
    → chains_of image (heads_in (slots_with t p)) ≡ map (chain_in (next_of t)) (keeping (heads_in (slots_with t p)))
new_chains node size counts ready image t p w fit =
    chains_by_links image (next_of t) size (heads_in (slots_with t p)) (fit.long ∙ w.ready_is.table.long ∙ w.held.same)
    (once_new node size counts ready t p w)
    (λ h there. elim (keeps_new node size counts ready t p w h there) [
      | inl new ↦ subst (λ (g : Head). LinksAs image (next_of t) (chain_by (next_of t) g)) (sym new.0)
          (linked_new node size counts ready image t p w fit new.1)
      | inr old ↦ linked_else node size counts ready image t p w fit h old
    ])
    (λ h there. elim (keeps_new node size counts ready t p w h there) [
      | inl new ↦ ap (λ (g : Head). behind_walk (next_of t) g.first (blocks_of g.size)) new.0 ∙ w.held.planned.ends new.1
      | inr old ↦ ends_held size counts t (Some p) w.held h old
    ])

-- What was kept is kept on it by these heads,
pub late_kept : (node size : ℕ) (counts : Counts) (ready image : List ℕ) (t : Table) (p : Pending) → Waits node size counts ready t p
    → Fits (MayOpen ready p.head.number) (length ready) image
    → kept_in_blocks image (Ok (heads_in (slots_of t))) ≡ kept_in_blocks ready (Ok (heads_in (slots_of t)))
late_kept node size counts ready image t p w fit =
    let heads : List Head = heads_in (slots_of t) in
    let all = each_number (SameBlock ready image) (taken_by (chains_of ready heads)) (λ b at.
    block_else ready image p.head.number b fit (sized node size counts ready t p w)
    (omega (arith, w.held.planned.number, long_slots node size counts ready t p w)) (taken_data b at)) in
    ap kept_by (ap (changes_on image) (late_chains node size counts ready image t p w fit ∙ sym w.ready_is.table.chains)
    ∙ sym (changes_agree ready image (chains_of ready heads) all))
  where
    taken_data : (b : ℕ) → has b (taken_by (chains_of ready (heads_in (slots_of t)))) ≡ true → is_data (length ready) b ≡ true
    taken_data b at =
        let flat : has b (flat_map (chain_by (next_of t)) (keeping (heads_in (slots_of t)))) ≡ true =
        sym (ap (has b) (ap taken_by w.ready_is.table.chains ∙ taken_chains (next_of t) (keeping (heads_in (slots_of t))))) ∙ at in
        ap (λ s. is_data s b) (w.ready_is.table.long ∙ w.held.same)
        ∙ one_true (is_data size b) (omega (
          arith,
          has_times b (flat_map (chain_by (next_of t)) (keeping (heads_in (slots_of t)))) flat,
          times_flat (next_of t) b (keeping (heads_in (slots_of t))),
          once_held size counts t (Some p) w.held b,
        ))

abbrev found_kept : Kept → Result Kept ℕ
found_kept kept = Ok kept

ok_kept : (a b : Kept) → found_kept a ≡ found_kept b → a ≡ b
ok_kept a b e = cc

-- a block of a walk by its number
pub walk_has : (next : List ℕ) (block n i : ℕ) → i < n → has (behind_walk next block i) (walk next block n) ≡ true
unfolding walk behind_walk
walk_has next block zero i within = absurd (let bad : ⊥ = omega (arith, within) in bad)
walk_has next block (suc n) zero within = has_first block (walk next (slice_index next block) n)
walk_has next block (suc n) (suc i) within =
    has_later block (behind_walk next (slice_index next block) i) (walk next (slice_index next block) n)
    (walk_has next (slice_index next block) n i (omega (arith, within)))

pub short_part : (body : List ℕ) (i : ℕ) → length (part_of_body body i) ≤ 1022
short_part body i = omega (arith, length-take 1022 (drop (1022 * i) body))

-- a part stands where the block is the same
pub part_else : (xs ys next part : List ℕ) (b : ℕ) → SameBlock xs ys b → length part ≤ 1022 → HasPart xs next b part → HasPart ys next b
    part
part_else xs ys next part b same short has = (
  sym same.0 ∙ has.0,
  sym (front_of_data ys) ∙ ap (take (length part)) (sym same.1) ∙ front_of_data xs ∙ has.1,
)
  where
    front_of_data : (image : List ℕ) → take (length part) (data_on image b) ≡ slice_range image (b * 1024 + 2) (b * 1024 + 2 + length part)
    front_of_data image =
        let x : ℕ = b * 1024 + 2 in
        ap (λ n. take (length part) (take n (drop x image))) (let e : b * 1024 + 1024 - x ≡ 1022 = omega arith in e)
        ∙ take-take (length part) 1022 (drop x image) short
        ∙ ap (λ n. take n (drop x image)) (let e : length part ≡ x + length part - x = omega arith in e)

made_by : (node size : ℕ) (counts : Counts) (ready image : List ℕ) (t : Table) (p : Pending) → Waits node size counts ready t p
    → Fits (MayOpen ready p.head.number) (length ready) image → Makes (value_on image (next_of t)) (head_of p.head) (change_of p)
made_by node size counts ready image t p w fit = record {
  uid = refl;
  body = go p.head.removal refl;
  mark = at_mark p.head.removal;
  wrote = refl;
}
  where
    at_mark : (b : Bool) → mark_of (if b then None else Some p.body.items) p.head.sequence ≡ (if b then None else Some p.head.sequence)
    at_mark true = refl
    at_mark false = refl

    go : (b : Bool) → p.head.removal ≡ b
        → (if b then None else Some p.body.items) ≡ (if b then None else Some (body_on image (chain_in (next_of t) (head_of p.head))))
    go true removal = refl
    go false value =
        let size_is : length p.body.items ≡ p.head.size = w.held.planned.bytes in
        ap Some (sym (ap (λ n. take n (flat_map (data_on image) (walk (next_of t) p.head.first (blocks_of p.head.size)))) (sym size_is)
        ∙ body_stands image (next_of t) (blocks_of p.head.size) p.head.first p.body.items
        (subst (λ n. n ≤ 1022 * blocks_of p.head.size) (sym size_is) (holds_all p.head.size))
        (λ b there. block_within (length image) b (ap (λ s. is_data s b) (fit.long ∙ w.ready_is.table.long) ∙ w.held.planned.chain value b
        there))
        (λ i within. written_else i within (subst (λ n. IsWritten ready (next_of t) p.head.first p.body.items (blocks_of n)) size_is
        (w.ready_is.body value)) value)))
      where
        holds_all : (n : ℕ) → n ≤ 1022 * blocks_of n
        holds_all n = omega arith

        block_within : (size b : ℕ) → is_data size b ≡ true → b * 1024 + 1024 ≤ size
        block_within size b is = let e : b < size / 1024 = grind (arith, nat_tests, is) in omega (arith, e)

        written_else : (i : ℕ) → i < blocks_of p.head.size → IsWritten ready (next_of t) p.head.first p.body.items (blocks_of p.head.size)
            → p.head.removal ≡ false → HasPart image (next_of t) (behind_walk (next_of t) p.head.first i) (part_of_body p.body.items i)
        written_else i within written value =
            let b : ℕ = behind_walk (next_of t) p.head.first i in
            let data_block : is_data (length ready) b ≡ true =
            ap (λ s. is_data s b) w.ready_is.table.long ∙ w.held.planned.chain value b
            (walk_has (next_of t) p.head.first (blocks_of p.head.size) i within) in
            let same : SameBlock ready image b = block_else ready image p.head.number b fit (sized node size counts ready t p w)
            (omega (arith, w.held.planned.number, long_slots node size counts ready t p w)) data_block in
            part_else ready image (next_of t) (part_of_body p.body.items i) b same (short_part p.body.items i) (written i within)

-- and with the change made by those among which is the new one.
pub new_kept : (node size : ℕ) (counts : Counts) (ready image : List ℕ) (t : Table) (p : Pending) (kept : Kept)
    → Waits node size counts ready t p → Fits (MayOpen ready p.head.number) (length ready) image
    → kept_in_blocks ready (Ok (heads_in (slots_of t))) ≡ Ok kept
    → kept_in_blocks image (Ok (heads_in (slots_with t p))) ≡ Ok (kept_after (change_of p) kept)
new_kept node size counts ready image t p kept w fit is =
    let plan : IsPlanned t p = w.held.planned in
    let v : Head → StoreChange = value_on image (next_of t) in
    let front : List Head = front_of (slots_of t) p.head.number in
    let back : List Head = back_of (slots_of t) p.head.number in
    let parts = all_parts (is_earlier (head_of p.head)) front back (earlier_all t p plan) in
    let before : kept_from nothing_kept (map v (keeping (heads_in (slots_of t)))) ≡ kept =
    ok_kept (kept_from nothing_kept (map v (keeping (heads_in (slots_of t))))) kept
    (sym (kept_by_chains image (next_of t) (heads_in (slots_of t)) (late_chains node size counts ready image t p w fit))
    ∙ late_kept node size counts ready image t p w fit ∙ is) in
    kept_by_chains image (next_of t) (heads_in (slots_with t p)) (new_chains node size counts ready image t p w fit)
    ∙ ap (λ k. found_kept k)
    (ap (λ hs. kept_from nothing_kept (map v (keeping hs))) (new_heads t p plan)
    ∙ kept_with v front back (head_of p.head) (change_of p) (λ h. refl) (λ h. refl) (made_by node size counts ready image t p w fit)
    parts.0 parts.1 (later_than_all front back (head_of p.head) parts.0 parts.1)
    ∙ ap (λ hs. kept_after (change_of p) (kept_from nothing_kept (map v (keeping hs)))) (sym (old_heads t p plan))
    ∙ ap (kept_after (change_of p)) before)

-- The table is that of an image on which the gate is shut, and with the change made of one on which it is open.
pub late_is_old : (node size : ℕ) (counts : Counts) (ready image : List ℕ) (t : Table) (p : Pending) → Waits node size counts ready t p
    → Fits (MayOpen ready p.head.number) (length ready) image → gate_open image p.head.number ≡ false → IsTableOf node image t
late_is_old node size counts ready image t p w fit gate = record {
  format = sym (same_else ready image p.head.number 1 fit (λ at. absurd (let bad : ⊥ = omega (arith, at) in bad)))
      ∙ w.ready_is.table.format;
  long = fit.long ∙ w.ready_is.table.long;
  heads = late_shut node size counts ready image t p w fit gate;
  chains = late_chains node size counts ready image t p w fit;
}

pub late_is_new : (node size : ℕ) (counts : Counts) (ready image : List ℕ) (t : Table) (p : Pending) → Waits node size counts ready t p
    → Fits (MayOpen ready p.head.number) (length ready) image → gate_open image p.head.number ≡ true
    → IsImageOf node image (slots_with t p) (next_of t) t.blocks.size
late_is_new node size counts ready image t p w fit gate = record {
  format = sym (same_else ready image p.head.number 1 fit (λ at. absurd (let bad : ⊥ = omega (arith, at) in bad)))
      ∙ w.ready_is.table.format;
  long = fit.long ∙ w.ready_is.table.long;
  heads = late_open node size counts ready image t p w fit gate;
  chains = new_chains node size counts ready image t p w fit;
}

-- An image that is of the table keeps what its heads keep.
pub image_map : (node : ℕ) (image : List ℕ) (slots : List HeadFields) (next : List ℕ) (size : ℕ) → IsImageOf node image slots next size
    → blocks_map node image ≡ Ok (kept_from nothing_kept (map (value_on image next) (keeping (heads_in slots))))
image_map node image slots next size is =
    ap (kept_in_blocks image) is.heads ∙ kept_by_chains image next (heads_in slots) is.chains

-- Each image that a crash leaves behind the first sync stands for what was kept, with or without the change.
pub late_stands : (node size more : ℕ) (counts : Counts) (ready image : List ℕ) (t : Table) (p : Pending) (kept : Kept)
    → Waits node size counts ready t p → kept_in_blocks ready (Ok (heads_in (slots_of t))) ≡ Ok kept → IsFresh (change_of p) kept
    → more ≤ changes_left (length ready) (heads_in (slots_of t)) (Ok kept)
    → more ≤ changes_left (length ready) (heads_in (slots_with t p)) (Ok (kept_after (change_of p) kept))
    → Fits (MayOpen ready p.head.number) (length ready) image → Stands block_layout node more kept (change_of p ∷ []) image
late_stands node size more counts ready image t p kept w is fresh told behind fit = go (gate_open image p.head.number) refl
  where
    on_size : is_block_size (length image) ≡ true
    on_size = ap is_block_size fit.long ∙ sized node size counts ready t p w

    go : (b : Bool) → gate_open image p.head.number ≡ b → Stands block_layout node more kept (change_of p ∷ []) image
    go false gate =
        let old = late_is_old node size counts ready image t p w fit gate in
        let map_is : blocks_map node image ≡ Ok kept =
        ap (kept_in_blocks image) old.heads ∙ late_kept node size counts ready image t p w fit ∙ is in
        record {
          found = inl (blocks_map_is node image on_size old.format ∙ map_is);
          opens = never_overfull node image old.format;
          told = subst (λ n. more ≤ n) (sym (changes_is node image (heads_in (slots_of t)) kept on_size old.format old.heads map_is))
              (subst (λ n. more ≤ changes_left n (heads_in (slots_of t)) (Ok kept)) (sym fit.long) told);
        }
    go true gate =
        let new = late_is_new node size counts ready image t p w fit gate in
        let map_is : blocks_map node image ≡ Ok (kept_after (change_of p) kept) =
        ap (kept_in_blocks image) new.heads ∙ new_kept node size counts ready image t p kept w fit is in
        record {
          found = inr (fresh, blocks_map_is node image on_size new.format ∙ map_is);
          opens = never_overfull node image new.format;
          told = subst (λ n. more ≤ n)
              (sym (changes_is node image (heads_in (slots_with t p)) (kept_after (change_of p) kept) on_size new.format new.heads map_is))
              (subst (λ n. more ≤ changes_left n (heads_in (slots_with t p)) (Ok (kept_after (change_of p) kept))) (sym fit.long)
              behind);
        }
