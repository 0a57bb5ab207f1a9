-- The room that what is kept on an image leaves, by what memory has.
use Rattle.std.proofs.Common.{◌≡◌, ◌⊎◌, ℕ, suc, zero, ◌+◌, ◌-◌, ◌*◌, ◌≤◌, ◌<◌, ◌^◌, Bool, true, false, cond, List, [], ◌∷◌, length}
use Rattle.std.proofs.Common.{map, refl, sym, ap, subst, ◌∙◌, arith, inl, inr}
use Rattle.std.specs.Prelude.{◌&&◌, ◌||◌, ◌==◌, not, nat_le, filter, sum_by, is_some, Option, None, Some}
use Rattle.std.specs.Prelude.{Ok, if◌then◌else◌}
use Rattle.std.specs.FinMap as finite
use Rattle.std.specs.FinMap.{FinMap}
use Rattle.std.specs.FinMap.Entries.{find, put, by_order}
use Rattle.std.specs.List.{list_all, list_any}
use Rattle.std.specs.Ordering.{eq_by_cmp, is_eq}
use Rattle.std.specs.Cmp.{eq_by_cmp_equiv}
use Rattle.std.specs.declared.cmp.Ordering.{Ordering}
use Rattle.std.specs.declared.cmp.Ordering.TheVariants.{Less, Equal, Greater}
use Rattle.std.proofs.lemmas.Bool.{cases_lt, le-leb, lt-leb, false_from_ne_true, ne_eqb}
use Rattle.std.proofs.lemmas.List.Sums.{sum_by-cons}
use Rattle.capability.specs.declared.Uid.{Uid}
use Rattle.capability.specs.Uids.{uid_cmp}
use Rattle.capability.proofs.Uids.{uid_cmp_total}
use Rattle.passive_store.specs.Kept.{StoreChange, Kept, nothing_kept, kept_after, kept_from, bodies_after, reserved_uid, IsOwn}
use Rattle.passive_store.specs.LogLayout.{within_room}
use Rattle.block_tables.specs.declared.heads.HeadFields.{HeadFields}
use Rattle.block_tables.specs.declared.table.Table.{Table}
use Rattle.block_tables.specs.Blocks.{Head, keeping, kept_in_blocks, blocks_of, data_count, body_on, is_data, greatest}
use Rattle.block_tables.specs.Changes.{free_head, is_removal, size_of}
use Rattle.passive_blocks.specs.BlockLayout.{blocks_needed, blocks_left, block_room, block_has_room, changes_left}
use Rattle.block_tables.specs.HeadState.{heads_in, entry_at}
use Rattle.block_tables.specs.TableState.{IsTable, keeper, greatest_in, left_in, fits_in, spare}
use Rattle.passive_blocks.specs.StoreState.{chain_in, changes_known}
use Rattle.passive_blocks.specs.HeldState.{AreApart, times, chain_by, times_kept, one_if}
use Rattle.passive_blocks.proofs.Keeping.{body_now}
use Rattle.passive_blocks.proofs.StageChains.{value_on}
use Rattle.passive_blocks.proofs.StageKept.{IsOfUid}
use Rattle.passive_blocks.proofs.HeldSums.{heads_under, same_itself}
use Rattle.passive_blocks.proofs.HeldKeepers.{keeper_listed}
use Rattle.passive_blocks.proofs.HeldCounts.{some_times}
use Rattle.passive_blocks.proofs.HeldFacts.{latest_held, one_true}
use Rattle.passive_blocks.specs.KeptState.{HasChains, AreOnImage}
use Rattle.passive_blocks.proofs.KeptUnder.{memory_kept, kept_is, body_long, holds_kept}

-- of each uid there is at most one head
abbrev pub AtMostOne : List Head → Type 0
AtMostOne hs = (uid : Uid) → length (filter (λ (g : Head). eq_by_cmp uid_cmp uid g.uid) hs) ≤ 1

few_under : (o : Option HeadFields) → length (heads_under o) ≤ 1
few_under None = omega arith
few_under (Some s) = omega arith

pub keeping_one : (t : Table) → IsTable t → AreApart t.heads.slots.items → AtMostOne (keeping (heads_in t.heads.slots.items))
keeping_one t is apart uid =
    subst (λ hs. length hs ≤ 1)
    (sym (keeper_listed t.heads.slots.items uid (entry_at t.heads.index uid).latest apart (latest_held t uid is))) (few_under
    (keeper t uid))

count_step : (b : Bool) (h : Head) (hs : List Head) → length (if b then h ∷ hs else hs) ≡ one_if b + length hs
count_step true h hs = omega arith
count_step false h hs = omega arith

-- what is summed over the bodies that are kept
abbrev total : (List ℕ → ℕ) → FinMap uid_cmp (List ℕ) → ℕ
total f m = sum_by (λ (e : Uid × List ℕ). f e.1) (finite.entries m)

sum_put : (f : List ℕ → ℕ) (uid : Uid) (body : List ℕ) (es : List (Uid × List ℕ)) → find uid_cmp uid es ≡ None
    → sum_by (λ (e : Uid × List ℕ). f e.1) (put uid_cmp uid body es) ≡ sum_by (λ (e : Uid × List ℕ). f e.1) es + f body
sum_put f uid body [] none = omega (arith, sum_by-cons (λ (e : Uid × List ℕ). f e.1) (uid, body) [])
sum_put f uid body (e ∷ es) none = go (uid_cmp uid e.0) none (λ rest. sum_put f uid body es rest)
  where
    go : (o : Ordering) → cond (is_eq o) (Some e.1) (find uid_cmp uid es) ≡ None
        → (find uid_cmp uid es ≡ None
        → sum_by (λ (x : Uid × List ℕ). f x.1) (put uid_cmp uid body es) ≡ sum_by (λ (x : Uid × List ℕ). f x.1) es + f body)
        → sum_by (λ (x : Uid × List ℕ). f x.1) (by_order o ((uid, body) ∷ e ∷ es) ((e.0, body) ∷ es) (e ∷ put uid_cmp uid body es))
        ≡ sum_by (λ (x : Uid × List ℕ). f x.1) (e ∷ es) + f body
    go Less absent rest = omega (arith, sum_by-cons (λ (x : Uid × List ℕ). f x.1) (uid, body) (e ∷ es))
    go Equal absent rest = absurd (let bad : Option.Some e.1 ≡ None = absent in cc)
    go Greater absent rest =
        omega (
          arith,
          rest absent,
          sum_by-cons (λ (x : Uid × List ℕ). f x.1) e (put uid_cmp uid body es),
          sum_by-cons (λ (x : Uid × List ℕ). f x.1) e es,
        )

pub total_insert : (f : List ℕ → ℕ) (m : FinMap uid_cmp (List ℕ)) (uid : Uid) (body : List ℕ) → finite.get m uid ≡ None
    → total f (finite.insert m uid body) ≡ total f m + f body
total_insert f m uid body none =
    ap (sum_by (λ (e : Uid × List ℕ). f e.1)) (finite.entries-insert uid_cmp_total m uid body)
    ∙ sum_put f uid body (finite.entries m) (sym (finite.get-entries m uid) ∙ none)

no_entries : (es : List (Uid × List ℕ)) → length es ≡ 0 → es ≡ []
no_entries [] none = refl
no_entries (e ∷ es) none = absurd (omega (arith, none))

pub total_empty : (f : List ℕ → ℕ) → total f nothing_kept.bodies ≡ 0
total_empty f =
    let none : finite.entries nothing_kept.bodies ≡ [] =
    no_entries (finite.entries nothing_kept.bodies)
    (sym (finite.len-entries nothing_kept.bodies) ∙ finite.len-empty uid_cmp (List ℕ)) in
    ap (sum_by (λ (e : Uid × List ℕ). f e.1)) none

-- What is summed over the bodies that heads give, where each is of a uid of its own.
total_kept : (f : List ℕ → ℕ) (v : Head → StoreChange) (body : Head → List ℕ) → IsOfUid v → ((h : Head) → (v h).body ≡ Some (body h))
    → (hs : List Head) (kept : Kept) → AtMostOne hs
    → ((uid : Uid) → 1 ≤ length (filter (λ (g : Head). eq_by_cmp uid_cmp uid g.uid) hs) → finite.get kept.bodies uid ≡ None)
    → total f (kept_from kept (map v hs)).bodies ≡ total f kept.bodies + sum_by (λ h. f (body h)) hs
total_kept f v body uids gives [] kept one fresh = omega arith
total_kept f v body uids gives (h ∷ hs) kept one fresh =
    let counted = λ (uid : Uid). count_step (eq_by_cmp uid_cmp uid h.uid) h (filter (λ (g : Head). eq_by_cmp uid_cmp uid g.uid) hs) in
    let here : finite.get kept.bodies h.uid ≡ None =
    fresh h.uid (some_here (one_if (eq_by_cmp uid_cmp h.uid h.uid)) _ _ (counted h.uid) (ap one_if (same_itself h.uid))) in
    let next : Kept = kept_after (v h) kept in
    let bodies : next.bodies ≡ finite.insert kept.bodies h.uid (body h) =
    ap (λ u. bodies_after u (v h).body kept.bodies) (uids h) ∙ ap (λ b. bodies_after h.uid b kept.bodies) (gives h) in
    let rest = total_kept f v body uids gives hs next
    (λ uid. fewer (one_if (eq_by_cmp uid_cmp uid h.uid)) _ _ (counted uid) (one uid))
    (λ uid some.
    let other : eq_by_cmp uid_cmp uid h.uid ≡ false = false_from_ne_true (eq_by_cmp uid_cmp uid h.uid) (λ same.
    two_here (one_if (eq_by_cmp uid_cmp uid h.uid)) _ _ (counted uid) (ap one_if same) some (one uid)) in
    body_now (v h).uid uid (v h).body kept.bodies
    ∙ ap (λ b. cond b (v h).body (finite.get kept.bodies uid)) (ap (eq_by_cmp uid_cmp uid) (uids h) ∙ other)
    ∙ fresh uid (more_here (one_if (eq_by_cmp uid_cmp uid h.uid)) _ _ (counted uid) some)) in
    omega (
      arith,
      rest,
      ap (total f) bodies,
      total_insert f kept.bodies h.uid (body h) here,
      sum_by-cons (λ g. f (body g)) h hs,
    )
  where
    some_here : (b n m : ℕ) → n ≡ b + m → b ≡ 1 → 1 ≤ n
    some_here b n m is here = omega (arith, is, here)

    fewer : (b n m : ℕ) → n ≡ b + m → n ≤ 1 → m ≤ 1
    fewer b n m is less = omega (arith, is, less)

    two_here : (b n m : ℕ) → n ≡ b + m → b ≡ 1 → 1 ≤ m → n ≤ 1 → ⊥
    two_here b n m is here some less = omega (arith, is, here, some, less)

    more_here : (b n m : ℕ) → n ≡ b + m → 1 ≤ m → 1 ≤ n
    more_here b n m is some = omega (arith, is, some)

total_memory : (f : List ℕ → ℕ) (image : List ℕ) (t : Table) → IsTable t → AreApart t.heads.slots.items
    → total f (memory_kept image t).bodies
    ≡ sum_by (λ (h : Head). f (body_on image (chain_in t.blocks.next.items h))) (keeping (heads_in t.heads.slots.items))
total_memory f image t is apart =
    omega (
      arith,
      total_kept f (value_on image t.blocks.next.items) (λ (h : Head). body_on image (chain_in t.blocks.next.items h)) (λ h. refl)
          (λ h. refl)
          (keeping (heads_in t.heads.slots.items)) nothing_kept (keeping_one t is apart) (λ uid some. finite.get-empty uid_cmp uid),
      total_empty f,
    )

-- the lengths of bodies on chains of blocks for data
sizes_on : (image next : List ℕ) (hs : List Head)
    → ((k : ℕ) → 1 ≤ sum_by (λ (h : Head). times k (chain_by next h)) hs → is_data (length image) k ≡ true)
    → sum_by (λ (h : Head). blocks_of (length (body_on image (chain_in next h)))) hs ≡ sum_by (λ (h : Head). blocks_of h.size) hs
sizes_on image next [] inside = refl
sizes_on image next (h ∷ hs) inside =
    let long : length (body_on image (chain_in next h)) ≡ h.size =
    body_long image next h (λ k there. inside k (some_of (sum_by (λ (g : Head). times k (chain_by next g)) (h ∷ hs)) _ _
    (sum_by-cons (λ (g : Head). times k (chain_by next g)) h hs) (some_times k (chain_by next h) there))) in
    let rest = sizes_on image next hs (λ k some. inside k (rest_of (sum_by (λ (g : Head). times k (chain_by next g)) (h ∷ hs)) _ _
    (sum_by-cons (λ (g : Head). times k (chain_by next g)) h hs) some)) in
    sum_by-cons (λ (g : Head). blocks_of (length (body_on image (chain_in next g)))) h hs
    ∙ ap (λ n. blocks_of n + sum_by (λ (g : Head). blocks_of (length (body_on image (chain_in next g)))) hs) long
    ∙ ap (λ n. blocks_of h.size + n) rest
    ∙ sym (sum_by-cons (λ (g : Head). blocks_of g.size) h hs)
  where
    some_of : (n a b : ℕ) → n ≡ a + b → 1 ≤ a → 1 ≤ n
    some_of n a b is some = omega (arith, is, some)

    rest_of : (n a b : ℕ) → n ≡ a + b → 1 ≤ b → 1 ≤ n
    rest_of n a b is some = omega (arith, is, some)

-- The blocks that what is kept takes.
pub needed_kept : (image : List ℕ) (t : Table) (kept : Kept) → IsTable t → AreApart t.heads.slots.items → HasChains image t
    → AreOnImage image t
    → kept_in_blocks image (Ok (heads_in t.heads.slots.items)) ≡ Ok kept
    → blocks_needed kept.bodies ≡ sum_by (λ (h : Head). blocks_of h.size) (keeping (heads_in t.heads.slots.items))
needed_kept image t kept is apart chains on found =
    let heads : List Head = keeping (heads_in t.heads.slots.items) in
    subst (λ (k : Kept). blocks_needed k.bodies ≡ sum_by (λ (h : Head). blocks_of h.size) heads) (kept_is image t kept chains found)
    (total_memory (λ body. blocks_of (length body)) image t is apart
    ∙ sizes_on image t.blocks.next.items heads
    (λ k some. one_true (is_data (length image) k) (more (times_kept t.blocks.next.items (heads_in t.heads.slots.items) k)
    (one_if (is_data (length image) k)) some (on k))))
  where
    more : (a b : ℕ) → 1 ≤ a → a ≤ b → 1 ≤ b
    more a b some less = omega (arith, some, less)

ones : {X : Type 0} (xs : List X) → sum_by (λ (x : X). 1) xs ≡ length xs
ones [] = refl
ones {X = X} (x ∷ xs) = omega (arith, sum_by-cons (λ (y : X). 1) x xs, ones xs)

pub len_kept : (image : List ℕ) (t : Table) (kept : Kept) → IsTable t → AreApart t.heads.slots.items → HasChains image t
    → kept_in_blocks image (Ok (heads_in t.heads.slots.items)) ≡ Ok kept
    → finite.len kept.bodies ≡ length (keeping (heads_in t.heads.slots.items))
len_kept image t kept is apart chains found =
    let heads : List Head = keeping (heads_in t.heads.slots.items) in
    subst (λ (k : Kept). finite.len k.bodies ≡ length heads) (kept_is image t kept chains found)
    (finite.len-entries (memory_kept image t).bodies
    ∙ sym (ones (finite.entries (memory_kept image t).bodies))
    ∙ total_memory (λ body. 1) image t is apart ∙ ones heads)

-- For as many changes the room is told by an image as by memory.
pub changes_kept : (size : ℕ) (image : List ℕ) (t : Table) (kept : Kept) → IsTable t → AreApart t.heads.slots.items → HasChains image t
    → AreOnImage image t → t.blocks.needed ≡ sum_by (λ (h : Head). blocks_of h.size) (keeping (heads_in t.heads.slots.items))
    → kept_in_blocks image (Ok (heads_in t.heads.slots.items)) ≡ Ok kept
    → changes_left size (heads_in t.heads.slots.items) (Ok kept) ≡ changes_known size t.blocks.needed
    (heads_in t.heads.slots.items)
changes_kept size image t kept is apart chains on needed found =
    let heads : List Head = heads_in t.heads.slots.items in
    ap (λ n. if is_some (free_head size heads) && nat_le 1 (data_count size - n) then 2 ^ 63 - greatest heads else 0)
    (needed_kept image t kept is apart chains on found ∙ sym needed)

-- The room is what the layout says, where a sequence is left.
pub room_kept : (size : ℕ) (t : Table) (bodies : FinMap uid_cmp (List ℕ)) → t.blocks.size ≡ size → blocks_needed bodies ≡ t.blocks.needed
    → greatest_in t < 2 ^ 63
    → (if not (nat_le (2 ^ 63) (greatest_in t)) && nat_le 2 (left_in t) then Option.Some (1022 * (left_in t - 1)) else Option.None)
    ≡ block_room size bodies
room_kept size t bodies sized needed less =
    let left : left_in t ≡ blocks_left size bodies =
    ap (λ s. data_count s - t.blocks.needed) sized ∙ ap (λ n. data_count size - n) (sym needed) in
    ap (λ b. if not b && nat_le 2 (left_in t) then Option.Some (1022 * (left_in t - 1)) else Option.None) (lt-leb (2 ^ 63)
    (greatest_in t) less)
    ∙ ap (λ n. if nat_le 2 n then Option.Some (1022 * (n - 1)) else Option.None) left

fits_within : (left n : ℕ) → nat_le (blocks_of n + 1) left ≡ within_room (if nat_le 2 left then Option.Some (1022 * (left - 1))
    else Option.None) n
fits_within left n = elim (cases_lt left 2) [
  | inl few ↦
      lt-leb (blocks_of n + 1) left (omega (arith, few))
      ∙ sym (ap (λ b. within_room (if b then Option.Some (1022 * (left - 1)) else Option.None) n) (lt-leb 2 left few))
  | inr enough ↦ elim (cases_lt (1022 * (left - 1)) n) [
    | inl more ↦
        lt-leb (blocks_of n + 1) left (omega (arith, enough, more))
        ∙ sym (ap (λ b. within_room (if b then Option.Some (1022 * (left - 1)) else Option.None) n) (le-leb 2 left enough)
        ∙ lt-leb n (1022 * (left - 1)) more)
    | inr fits ↦
        le-leb (blocks_of n + 1) left (omega (arith, enough, fits))
        ∙ sym (ap (λ b. within_room (if b then Option.Some (1022 * (left - 1)) else Option.None) n) (le-leb 2 left enough)
        ∙ le-leb n (1022 * (left - 1)) fits)
  ]
]

-- Whether a change finds room, by memory and by the layout, where a block is left.
pub fits_kept : (node size : ℕ) (t : Table) (bodies : FinMap uid_cmp (List ℕ)) (uid : Uid) (body : Option (List ℕ)) → t.blocks.size ≡ size
    → blocks_needed bodies ≡ t.blocks.needed → 1 ≤ left_in t → IsOwn node uid (size_of body)
    → fits_in t uid (is_removal body) (size_of body) ≡ block_has_room (block_room size bodies) uid body
fits_kept node size t bodies uid body sized needed some own =
    let left : left_in t ≡ blocks_left size bodies =
    ap (λ s. data_count s - t.blocks.needed) sized ∙ ap (λ n. data_count size - n) (sym needed) in
    ap (λ b. is_removal body || b) (go own.1 left)
  where
    ejects : (epoch : ℕ) → 1 ≤ epoch → (epoch == 0) ≡ false
    ejects zero more = absurd (omega (arith, more))
    ejects (suc n) more = ne_eqb (suc n) 0 (λ e. omega (arith, e))

    four_fit : (n left : ℕ) → n ≡ 4 → 1 ≤ left → blocks_of n + 0 ≤ left
    four_fit n left is more = omega (arith, is, more)

    go : ((1 ≤ uid.epoch) × (1 ≤ uid.serial)) ⊎ ((uid.epoch ≡ 0) × (uid.serial ≡ 0) × (size_of body ≡ 4))
        → left_in t ≡ blocks_left size bodies
        → nat_le (blocks_of (size_of body) + spare uid) (left_in t) ≡ (uid.epoch == 0 || within_room (block_room size bodies)
        (size_of body))
    go (inl eject) left =
        ap (λ b. nat_le (blocks_of (size_of body) + (if b then 0 else 1)) (left_in t)) (ejects uid.epoch eject.0)
        ∙ ap (λ n. nat_le (blocks_of (size_of body) + 1) n) left
        ∙ fits_within (blocks_left size bodies) (size_of body)
        ∙ sym (ap (λ b. b || within_room (block_room size bodies) (size_of body)) (ejects uid.epoch eject.0))
    go (inr reserved) left =
        ap (λ e. nat_le (blocks_of (size_of body) + (if e == 0 then 0 else 1)) (left_in t)) reserved.0
        ∙ le-leb (blocks_of (size_of body) + 0) (left_in t) (four_fit (size_of body) (left_in t) reserved.2 some)
        ∙ sym (ap (λ e. (e == 0) || within_room (block_room size bodies) (size_of body)) reserved.0)
