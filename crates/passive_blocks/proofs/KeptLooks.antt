-- What a store over blocks shows of what it keeps, by what memory has.
use Rattle.std.proofs.Common.{◌≡◌, ℕ, suc, zero, ◌+◌, ◌-◌, ◌*◌, ◌≤◌, ◌<◌, ◌^◌, Bool, true, false, List, [], ◌∷◌, length, refl, sym, ap}
use Rattle.std.proofs.Common.{subst, ◌∙◌, arith}
use Rattle.std.specs.Prelude.{◌&&◌, not, nat_le, filter, is_some, Option, Ok, if◌then◌else◌}
use Rattle.std.specs.FinMap as finite
use Rattle.std.specs.List.{AllByRecursion}
use Rattle.std.proofs.lemmas.Bool.{false≢true, both_ways}
use Rattle.capability.specs.declared.Uid.{Uid}
use Rattle.eden_disk.specs.Calls.{Counts}
use Rattle.passive_store.specs.Kept.{Kept, IsNextOf, IsNextKept, IsOwn, reserved_uid, body_at}
use Rattle.passive_store.specs.LogState.{is_eject}
use Rattle.block_tables.specs.declared.heads.HeadFields.{HeadFields}
use Rattle.block_tables.specs.declared.table.Table.{Table}
use Rattle.passive_blocks.specs.declared.block_store.Pending.{Pending}
use Rattle.block_tables.specs.Members.{is_member}
use Rattle.block_tables.specs.Blocks.{Head, kept_in_blocks, heads_of, head_numbers, head_bytes, head_in, is_data}
use Rattle.passive_blocks.specs.BlockLayout.{block_room, blocks_needed}
use Rattle.block_tables.specs.HeadSeen.{head_of}
use Rattle.block_tables.specs.HeadState.{heads_in, slot_at, is_open}
use Rattle.block_tables.specs.TableState.{IsTable, keeper, sequence_of, greatest_in, left_in}
use Rattle.passive_blocks.specs.StoreState.{kept_or_none}
use Rattle.passive_blocks.specs.HeldState.{IsHeld, AreApart, AreOwn, times_kept, times, one_if, planned_blocks}
use Rattle.passive_blocks.specs.KeptState.{HasChains, AreOnImage}
use Rattle.passive_blocks.proofs.BlocksKept.{HeadsHave, heads_each}
use Rattle.passive_blocks.proofs.BlockLaw.{own_fields}
use Rattle.passive_blocks.proofs.HeldSums.{head_step}
use Rattle.passive_blocks.proofs.KeptUnder.{kept_exists, body_under, mark_kept, body_kept}
use Rattle.passive_blocks.proofs.KeptUnder.{holds_kept, next_kept}
use Rattle.passive_blocks.proofs.KeptRoom.{needed_kept, room_kept}

-- what is shown of an image
abbrev pub shown : List ℕ → Table → Kept
shown image t = kept_or_none (kept_in_blocks image (Ok (heads_in t.heads.slots.items)))

pub shown_found : (image : List ℕ) (t : Table) → HasChains image t → kept_in_blocks image (Ok (heads_in t.heads.slots.items))
    ≡ Ok (shown image t)
shown_found image t chains = kept_exists image t chains ∙ ap Ok (sym (ap kept_or_none (kept_exists image t chains)))

-- The mark that is shown of a uid, whether it is kept, its body, and what comes next.
pub mark_shown : (image : List ℕ) (t : Table) (uid : Uid) → IsTable t → AreApart t.heads.slots.items → HasChains image t
    → sequence_of (keeper t uid) ≡ finite.get (shown image t).marks uid
mark_shown image t uid is apart chains = sym (mark_kept image t (shown image t) uid is apart chains (shown_found image t chains))

pub holds_shown : (image : List ℕ) (t : Table) (uid : Uid) → IsTable t → AreApart t.heads.slots.items → HasChains image t
    → is_some (keeper t uid) ≡ is_some (body_at (shown image t) uid)
holds_shown image t uid is apart chains = sym (holds_kept image t (shown image t) uid is apart chains (shown_found image t chains))

pub body_shown : (image : List ℕ) (t : Table) (uid : Uid) → IsTable t → AreApart t.heads.slots.items → HasChains image t
    → body_under image t.blocks.next.items (keeper t uid) ≡ body_at (shown image t) uid
body_shown image t uid is apart chains = sym (body_kept image t (shown image t) uid is apart chains (shown_found image t chains))

pub next_shown : (node : ℕ) (image : List ℕ) (t : Table) (from next : Option Uid) → IsTable t → AreApart t.heads.slots.items
    → AreOwn node t.heads.slots.items → HasChains image t
    → IsNextOf (λ uid. is_some (keeper t uid) && is_eject node uid) (reserved_uid node) from next
    → IsNextKept node (shown image t) from next
next_shown node image t from next is apart own chains there =
    next_kept node image t (shown image t) from next is apart own chains (shown_found image t chains) there

-- the blocks of what is kept are on an image that is as long as the disk
pub on_image : (size : ℕ) (counts : Counts) (image : List ℕ) (t : Table) (pending : Option Pending) → IsHeld size counts t pending
    → length image ≡ size → AreOnImage image t
on_image size counts image t pending held long k =
    subst (λ s. times_kept t.blocks.next.items (heads_in t.heads.slots.items) k ≤ one_if (is_data s k)) (sym long)
    (within (one_if (is_member t.blocks.free k)) (times_kept t.blocks.next.items (heads_in t.heads.slots.items) k)
    (times k (planned_blocks t.blocks.next.items pending)) (one_if (is_data size k)) (held.places k))
  where
    within : (a b c d : ℕ) → a + (b + c) ≡ d → b ≤ d
    within a b c d is = omega (arith, is)

-- The blocks that what is shown takes are those that memory has counted.
pub needed_shown : (size : ℕ) (counts : Counts) (image : List ℕ) (t : Table) (pending : Option Pending) → IsHeld size counts t pending
    → length image ≡ size → HasChains image t → blocks_needed (shown image t).bodies ≡ t.blocks.needed
needed_shown size counts image t pending held long chains =
    needed_kept image t (shown image t) held.table held.apart chains (on_image size counts image t pending held long)
    (shown_found image t chains) ∙ sym held.needed

-- The room that is shown, where a sequence is left.
pub room_shown : (size : ℕ) (counts : Counts) (image : List ℕ) (t : Table) (pending : Option Pending) → IsHeld size counts t pending
    → length image ≡ size → HasChains image t → greatest_in t < 2 ^ 63
    → (if not (nat_le (2 ^ 63) (greatest_in t)) && nat_le 2 (left_in t) then Option.Some (1022 * (left_in t - 1)) else Option.None)
    ≡ block_room counts.size (shown image t).bodies
room_shown size counts image t pending held long chains less =
    room_kept size t (shown image t).bodies held.same (needed_shown size counts image t pending held long chains) less
    ∙ ap (λ s. block_room s (shown image t).bodies) (sym held.sized)

-- what holds of all open heads holds of each
of_all : (P : Head → Type 0) (slots : List HeadFields) (k : ℕ) → AllByRecursion P (heads_in slots) → is_open (slot_at slots k) ≡ true
    → P (head_of (slot_at slots k))
of_all P [] k all opened = absurd (false≢true opened)
of_all P (s ∷ slots) k all opened =
    go (is_open s) refl k opened (subst (AllByRecursion P) (head_step (is_open s) s (filter is_open slots)) all)
    (λ j rest open_there. of_all P slots j rest open_there)
  where
    go : (b : Bool) → is_open s ≡ b → (j : ℕ) → is_open (slot_at (s ∷ slots) j) ≡ true
        → AllByRecursion P (if b then head_of s ∷ heads_in slots else heads_in slots)
        → ((i : ℕ) → AllByRecursion P (heads_in slots) → is_open (slot_at slots i) ≡ true → P (head_of (slot_at slots i)))
        → P (head_of (slot_at (s ∷ slots) j))
    go true is zero open_there rest behind = rest.0
    go true is (suc i) open_there rest behind = behind i rest.1 open_there
    go false is zero open_there rest behind = absurd (both_ways (is_open s) is open_there)
    go false is (suc i) open_there rest behind = behind i rest open_there

abbrev IsOwnHead : ℕ → Head → Type 0
IsOwnHead node h = IsOwn node h.uid h.size

own_heads : (node : ℕ) (image : List ℕ) (heads : List Head) → heads_of node image ≡ Ok heads → AllByRecursion (IsOwnHead node) heads
own_heads node image heads found =
    subst (HeadsHave (IsOwnHead node)) found
    (heads_each (IsOwnHead node) node image
    (λ number good. own_fields node (length image) (head_bytes image number) (head_in number (head_bytes image number)) good) []
    (head_numbers (length image)))

own_left : (node : ℕ) (p : Head → Bool) (hs : List Head) → AllByRecursion (IsOwnHead node) hs
    → AllByRecursion (IsOwnHead node) (filter p hs)
own_left node p [] all = tt
own_left node p (h ∷ hs) all = go (p h) (own_left node p hs all.1)
  where
    go : (b : Bool) → AllByRecursion (IsOwnHead node) (filter p hs)
        → AllByRecursion (IsOwnHead node) (if b then h ∷ filter p hs else filter p hs)
    go true rest = (all.0, rest)
    go false rest = rest

-- The open heads are of the node, where they were found on an image, or are some of those that were.
pub own_found : (node : ℕ) (image : List ℕ) (slots : List HeadFields) → heads_of node image ≡ Ok (heads_in slots) → AreOwn node slots
own_found node image slots found k opened = of_all (IsOwnHead node) slots k (own_heads node image (heads_in slots) found) opened

pub own_of_some : (node : ℕ) (image : List ℕ) (heads : List Head) (p : Head → Bool) (slots : List HeadFields) → heads_of node image
    ≡ Ok heads
    → heads_in slots ≡ filter p heads → AreOwn node slots
own_of_some node image heads p slots found left k opened =
    of_all (IsOwnHead node) slots k
    (subst (AllByRecursion (IsOwnHead node)) (sym left) (own_left node p heads (own_heads node image heads found))) opened
