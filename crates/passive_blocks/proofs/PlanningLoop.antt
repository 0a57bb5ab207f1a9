-- The loop that plans the heads of a log's values: what it has planned so far.
use Rattle.std.proofs.Common.{◌≡◌, ℕ, ◌+◌, ◌≤◌, ◌<◌, List, [], ◌∷◌, ◌++◌, sym, ap, subst, ◌∙◌, arith, append_assoc, append-nil, Bor}
use Rattle.std.specs.Prelude.{All, Bool, true, false, if◌then◌else◌, Option, None, Some, IfSome}
use Rattle.std.specs.Option.{option_and_then}
use Rattle.std.specs.BTreeMap as tree
use Rattle.std.specs.BTreeMap.{BTreeMap}
use Rattle.std.specs.Iterator.{Yields}
use Rattle.std.specs.Map.Iter.{TakesFirst, deref_pair}
use Rattle.std.proofs.lemmas.Bool.{false≢true}
use Rattle.std.proofs.lemmas.List.Elements.{All-nil, All-push, All-same, All-weaker}
use Rattle.std.proofs.lemmas.List.Sums.{sum_by-cons}
use Rattle.std.proofs.lemmas.Map.Iter.{btree_map_turn}
use Rattle.capability.specs.declared.Uid.{Uid}
use Rattle.capability.specs.Uids.{uid_cmp}
use Rattle.capability.proofs.Uids.{uid_cmp_total}
use Rattle.passive_store.specs.declared.index.Slot.{Slot}
use Rattle.passive_store.specs.LogState.{slot_at}
use Rattle.passive_blocks.specs.declared.convert.Moved.{Moved}
use Rattle.block_tables.specs.Blocks.{blocks_of}
use Rattle.passive_blocks.specs.Converting.{ArePlanned, IsMovable, slots_in, planned_at, planned_from, planned, blocks_together}

-- the values so far, and those of the entries that are left, are all values
pub record Planning (index : BTreeMap Uid (Option Slot)) (left : List (Uid × Option Slot)) (moved : List Moved) (number first : ℕ) : Type 0
  where
    pub all : moved ++ planned_from number first (slots_in left) ≡ planned index
    pub blocks : first + blocks_together (slots_in left) ≡ 1024 + blocks_together (slots_in index.entries)
    pub room : first ≤ 3968
    pub numbers : number + 1024 ≤ first
    pub movable : All IsMovable moved

-- the slot that is found under a uid is as each is
at_slot : (P : Slot → Type 0) (index : BTreeMap Uid (Option Slot)) (uid : Uid) (slot : Slot)
    → tree.get uid_cmp index uid ≡ Some (Some slot) → ((q : Uid) → IfSome (slot_at index q) P) → P slot
at_slot P index uid slot found each = subst (λ o. IfSome (option_and_then (λ s. s) o) P) found (each uid)

-- and so is the one of this turn of the loop
pub slot_of_turn : (P : Slot → Type 0) (index : BTreeMap Uid (Option Slot)) (yielded : List (Bor Uid × Bor (Option Slot)))
    (start left rest : List (Uid × Option Slot)) (item : Option (Bor Uid × Bor (Option Slot))) (uid : Bor Uid) (entry : Bor (Option Slot))
    (slot : Slot) → Yields (TakesFirst deref_pair) start yielded left → item ≡ Some (uid, entry) → TakesFirst deref_pair left item rest
    → start ≡ index.entries → tree.IsOrdered uid_cmp index → entry.now ≡ Some slot → ((q : Uid) → IfSome (slot_at index q) P) → P slot
slot_of_turn P index yielded start left rest item uid entry slot yields is step begins ordered has each =
    let turn = btree_map_turn deref_pair yielded start left rest item (uid, entry) yields is step uid_cmp_total index begins ordered in
    at_slot P index uid.now slot (turn.1 ∙ ap (λ e. Some e) has) each

pub planning_begun : (index : BTreeMap Uid (Option Slot)) (left : List (Uid × Option Slot)) → left ≡ index.entries
    → Planning index left [] 0 1024
planning_begun index left start = record {
  all = ap (λ es. planned_from 0 1024 (slots_in es)) start;
  blocks = ap (λ es. 1024 + blocks_together (slots_in es)) start;
  room = omega arith;
  numbers = omega arith;
  movable = All-nil IsMovable;
}

-- an entry without a slot is passed over
pub planning_without : (index : BTreeMap Uid (Option Slot)) (left rest : List (Uid × Option Slot)) (moved : List Moved) (number first : ℕ)
    (uid : Uid) → left ≡ (uid, None) ∷ rest → Planning index left moved number first → Planning index rest moved number first
planning_without index left rest moved number first uid is p =
    passed (subst (λ es. Planning index es moved number first) is p)
  where
    passed : Planning index ((uid, None) ∷ rest) moved number first → Planning index rest moved number first
    passed q = record { all = q.all; blocks = q.blocks; room = q.room; numbers = q.numbers; movable = q.movable }

more_values : (number first : ℕ) (uid : Uid) (slot : Slot) (rest : List (Uid × Option Slot)) (moved : List Moved)
    → (moved ++ planned_at number first uid slot ∷ []) ++ planned_from (number + 1) (first + blocks_of slot.length) (slots_in rest)
    ≡ moved ++ planned_from number first ((uid, slot) ∷ slots_in rest)
unfolding planned_from
more_values number first uid slot rest moved =
    append_assoc moved (planned_at number first uid slot ∷ [])
    (planned_from (number + 1) (first + blocks_of slot.length) (slots_in rest))

more_blocks : (uid : Uid) (slot : Slot) (rest : List (Uid × Option Slot))
    → blocks_together ((uid, slot) ∷ slots_in rest) ≡ blocks_of slot.length + blocks_together (slots_in rest)
more_blocks uid slot rest = sum_by-cons (λ (s : Uid × Slot). blocks_of s.1.length) (uid, slot) (slots_in rest)

joined : (first b n all : ℕ) → first + (b + n) ≡ all → (first + b) + n ≡ all
joined first b n all is = omega arith

-- and one with a slot is planned
pub planning_with : (index : BTreeMap Uid (Option Slot)) (left rest : List (Uid × Option Slot)) (moved more : List Moved)
    (number first : ℕ) (uid : Uid) (slot : Slot) → left ≡ (uid, Some slot) ∷ rest → Planning index left moved number first
    → more ≡ moved ++ planned_at number first uid slot ∷ [] → IsMovable (planned_at number first uid slot)
    → first + blocks_of slot.length ≤ 3968 → Planning index rest more (number + 1) (first + blocks_of slot.length)
planning_with index left rest moved more number first uid slot is p added good room = record {
  all = ap (λ ms. ms ++ planned_from (number + 1) (first + blocks_of slot.length) (slots_in rest)) added
      ∙ more_values number first uid slot rest moved
      ∙ sym (ap (λ es. moved ++ planned_from number first (slots_in es)) is)
      ∙ p.all;
  blocks = joined first (blocks_of slot.length) (blocks_together (slots_in rest)) (1024 + blocks_together (slots_in index.entries))
      (ap (λ n. first + n) (sym (more_blocks uid slot rest) ∙ sym (ap (λ es. blocks_together (slots_in es)) is)) ∙ p.blocks);
  room = room;
  numbers = omega (arith, p.numbers);
  movable = All-same IsMovable more (moved ++ planned_at number first uid slot ∷ []) added
      (All-push IsMovable moved (planned_at number first uid slot) p.movable good);
}

-- a value that finds no room: all values are too much
pub planning_full : (index : BTreeMap Uid (Option Slot)) (left rest : List (Uid × Option Slot)) (moved : List Moved) (number first : ℕ)
    (uid : Uid) (slot : Slot) → left ≡ (uid, Some slot) ∷ rest → Planning index left moved number first
    → 3968 < first + blocks_of slot.length → 2944 < blocks_together (slots_in index.entries)
planning_full index left rest moved number first uid slot is p over =
    let sum : first + (blocks_of slot.length + blocks_together (slots_in rest)) ≡ 1024 + blocks_together (slots_in index.entries) =
    ap (λ n. first + n) (sym (more_blocks uid slot rest) ∙ sym (ap (λ es. blocks_together (slots_in es)) is)) ∙ p.blocks in
    passes first (blocks_of slot.length) (blocks_together (slots_in rest)) (blocks_together (slots_in index.entries)) sum over
  where
    passes : (a b n all : ℕ) → a + (b + n) ≡ 1024 + all → 3968 < a + b → 2944 < all
    passes a b n all sum over = omega arith

-- what a list is behind a push that found memory
pub pushed : (ok : Bool) (more old : List Moved) (given value : Moved) → more ≡ (if ok then old ++ given ∷ [] else old) → ok ≡ true
    → given ≡ value → more ≡ old ++ value ∷ []
pushed true more old given value is ok same = is ∙ ap (λ m. old ++ m ∷ []) same
pushed false more old given value is ok same = absurd (false≢true ok)

-- no entry is left: all values are planned, and are not too much
pub planning_done : (index : BTreeMap Uid (Option Slot)) (left : List (Uid × Option Slot)) (moved : List Moved) (number first : ℕ)
    → left ≡ [] → Planning index left moved number first → moved ≡ planned index
unfolding planned_from
planning_done index left moved number first none p =
    sym (append-nil moved) ∙ sym (ap (λ es. moved ++ planned_from number first (slots_in es)) none) ∙ p.all

pub planning_fits : (index : BTreeMap Uid (Option Slot)) (left : List (Uid × Option Slot)) (moved : List Moved) (number first : ℕ)
    → left ≡ [] → Planning index left moved number first → blocks_together (slots_in index.entries) ≤ 2944
planning_fits index left moved number first none p =
    fits first (blocks_together (slots_in index.entries)) (sym (ap (λ es. first + blocks_together (slots_in es)) none) ∙ p.blocks) p.room
  where
    fits : (a all : ℕ) → a + 0 ≡ 1024 + all → a ≤ 3968 → all ≤ 2944
    fits a all sum room = omega arith

begins_low : (m : Moved) → IsMovable m → m.head.first < 65536
begins_low m good = omega (arith, good.blocks)

pub are_planned : (moved : List Moved) → All IsMovable moved → ArePlanned moved
are_planned moved good = All-weaker IsMovable (λ m. m.head.first < 65536) begins_low moved good
