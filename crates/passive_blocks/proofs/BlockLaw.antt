-- The layout of blocks is a layout, where a log is one.
use Rattle.std.proofs.Common.{◌≡◌, ◌⊎◌, ℕ, suc, zero, ◌+◌, ◌≤◌, ◌<◌, ◌^◌, Bool, true, false, List, [], ◌∷◌, ◌++◌, length, take, drop, map}
use Rattle.std.proofs.Common.{refl, sym, subst, inl, inr, arith}
use Rattle.std.specs.Prelude.{◌==◌, ◌&&◌, ◌||◌, not, nat_le, Result, Ok, Err, slice_range, if◌then◌else◌}
use Rattle.std.specs.List.{AllByRecursion, list_all}
use Rattle.std.specs.FinMap as finite
use Rattle.std.specs.Int.{w32, from_be_bytes}
use Rattle.std.proofs.lemmas.Bool.{cases_lt, false≢true}
use Rattle.std.proofs.lemmas.Bool.Decides.{nat_tests}
use Rattle.std.proofs.lemmas.Nat.{be_bytes_4}
use Rattle.capability.specs.declared.Uid.{Uid}
use Rattle.passive_store.specs.Kept.{Kept, IsOwn, reserved_uid, nothing_kept, kept_from}
use Rattle.passive_store.specs.Acts.{Sync, Read}
use Rattle.passive_store.specs.Layout.{IsLayout}
use Rattle.passive_store.specs.Log.{log_map, are_fields}
use Rattle.passive_store.specs.LogLayout.{log_layout}
use Rattle.block_tables.specs.Blocks.{Head, head_place, head_bytes, head_in, is_head, is_data, kind_in, heads_of, is_block_size}
use Rattle.block_tables.specs.Blocks.{kept_in_blocks, chains_of, changes_on, blocks_of}
use Rattle.passive_blocks.specs.Conversion.{old_log, finished, moved_from, moved, moved_change, moved_map, is_too_much}
use Rattle.passive_blocks.specs.BlockLayout.{Format, Blocks, Staged, OldLog, Foreign, Blank, format_of, map_by, block_map, overfull_by}
use Rattle.passive_blocks.specs.BlockLayout.{opening_by, block_layout}
use Rattle.passive_blocks.proofs.Bytes.{AreBytes, are_bytes, all_bytes, taken_bytes, dropped_bytes, part_bytes, joined_bytes}
use Rattle.passive_blocks.proofs.Bytes.{spelled_number}
use Rattle.passive_blocks.proofs.Keeping.{KeepsOnly, Gives, SameKeys, keeps_all, keeps_nothing, same_all, same_nothing}
use Rattle.passive_blocks.proofs.Keeping.{same_found, each_entry}
use Rattle.passive_blocks.proofs.BlocksKept.{HeadGives, blocks_keep}

-- the fields of a head, as numbers
abbrev FieldsPass : ℕ → ℕ → ℕ → ℕ → ℕ → ℕ → Type 0
FieldsPass node size unode epoch serial kind =
    (nat_le size 262144 && (kind == 1 || (kind == 2 && size == 0)) && unode == node &&
    ((epoch == 0 && serial == 0 && kind == 1 && size == 4) || (not (epoch == 0) && not (serial == 0)))) ≡ true

limit_of : (node size unode epoch serial kind : ℕ) → FieldsPass node size unode epoch serial kind → size ≤ 262144
limit_of node size unode epoch serial kind h = grind (arith, nat_tests)

node_of : (node size unode epoch serial kind : ℕ) → FieldsPass node size unode epoch serial kind → unode ≡ node
node_of node size unode epoch serial kind h = grind (arith, nat_tests)

reserved_of : (node size unode epoch serial kind : ℕ) → FieldsPass node size unode epoch serial kind → epoch ≡ 0 → (epoch ≡ 0)
    × (serial ≡ 0) × (size ≡ 4)
reserved_of node size unode epoch serial kind h none = (none, grind (arith, nat_tests), grind (arith, nat_tests))

eject_of : (node size unode epoch serial kind : ℕ) → FieldsPass node size unode epoch serial kind → 1 ≤ epoch → (1 ≤ epoch) × (1 ≤ serial)
eject_of node size unode epoch serial kind h some = (some, grind (arith, nat_tests))

own_of : (node size unode epoch serial kind : ℕ) → FieldsPass node size unode epoch serial kind → ((1 ≤ epoch) × (1 ≤ serial))
    ⊎ ((epoch ≡ 0) × (serial ≡ 0) × (size ≡ 4))
own_of node size unode epoch serial kind h = elim (cases_lt 0 epoch) [
  | inl some ↦ inl (eject_of node size unode epoch serial kind h (omega (arith, some)))
  | inr none ↦ inr (reserved_of node size unode epoch serial kind h (omega (arith, none)))
]

first_of_five : (a b c d e : Bool) → (a && b && c && d && e) ≡ true → a ≡ true
first_of_five true b c d e h = refl
first_of_five false b c d e h = h

-- the test of a head has passed
abbrev IsHeadAt : ℕ → List ℕ → ℕ → Type 0
IsHeadAt node image number = is_head node (length image) (head_bytes image number) (head_in number (head_bytes image number)) ≡ true

fields_pass : (node size : ℕ) (bytes : List ℕ) (h : Head) → is_head node size bytes h ≡ true
    → FieldsPass node h.size h.uid.node h.uid.epoch h.uid.serial (kind_in bytes)
fields_pass node size bytes h good =
    first_of_five (are_fields node h.size h.uid (kind_in bytes)) (if h.removal then h.first == 0 else is_data size h.first)
    (nat_le 1 h.sequence) (nat_le h.sequence (2 ^ 63)) (list_all (λ byte. byte == 0) (slice_range bytes 25 32)) good

-- A head that passes the test is of a uid of the node.
pub own_fields : (node size : ℕ) (bytes : List ℕ) (h : Head) → is_head node size bytes h ≡ true → IsOwn node h.uid h.size
own_fields node size bytes h good =
    let k : ℕ = kind_in bytes in
    let t = fields_pass node size bytes h good in (
      node_of node h.size h.uid.node h.uid.epoch h.uid.serial k t,
      own_of node h.size h.uid.node h.uid.epoch h.uid.serial k t,
    )

-- of a node, within the limit
abbrev IsOwnBody : ℕ → Uid → List ℕ → Type 0
IsOwnBody node uid body = IsOwn node uid (length body) × (length body ≤ 262144)

head_owns : (node : ℕ) (image : List ℕ) (number : ℕ) → IsHeadAt node image number
    → HeadGives (IsOwnBody node) image (head_in number (head_bytes image number))
head_owns node image number good body long bytes =
    let h : Head = head_in number (head_bytes image number) in
    let k : ℕ = kind_in (head_bytes image number) in
    let t = fields_pass node (length image) (head_bytes image number) h good in
    subst (λ n. IsOwn node h.uid n × (n ≤ 262144)) (sym long) (
      (
        node_of node h.size h.uid.node h.uid.epoch h.uid.serial k t,
        own_of node h.size h.uid.node h.uid.epoch h.uid.serial k t,
      ),
      limit_of node h.size h.uid.node h.uid.epoch h.uid.serial k t,
    )

-- of bytes, within 32 bits
abbrev IsByteBody : Uid → List ℕ → Type 0
IsByteBody uid body = (uid.epoch < 2 ^ 32) × (uid.serial < 2 ^ 32) × AreBytes body

head_spells : (node : ℕ) (image : List ℕ) → AreBytes image → (number : ℕ) → IsHeadAt node image number
    → HeadGives IsByteBody image (head_in number (head_bytes image number))
head_spells node image are number good body long bytes =
    let own : AreBytes (head_bytes image number) = part_bytes (head_place number) (head_place number + 32) image are in (
      spelled_number (slice_range (head_bytes image number) 3 7) (part_bytes 3 7 (head_bytes image number) own),
      spelled_number (slice_range (head_bytes image number) 7 11) (part_bytes 7 11 (head_bytes image number) own),
      bytes are,
    )

-- what a log keeps is what its conversion gives
moved_each : (R : Uid → List ℕ → Type 0) (number first : ℕ) (es : List (Uid × List ℕ)) → AllByRecursion (λ (e : Uid × List ℕ). R e.0 e.1) es
    → AllByRecursion (Gives R) (map moved_change (moved_from number first es))
unfolding moved_from
moved_each R number first [] each = tt
moved_each R number first (e ∷ es) each = (
  λ body is. subst (R e.0) (let same : e.1 ≡ body = cc in same) each.0,
  moved_each R (number + 1) (first + blocks_of (length e.1)) es each.1,
)

moved_keeps : (R : Uid → List ℕ → Type 0) (found : Result Kept ℕ) (kept : Kept) → ((k : Kept) → found ≡ Ok k → KeepsOnly R k)
    → moved_map found ≡ Ok kept → KeepsOnly R kept
moved_keeps R (Ok k) kept keeps is =
    let same : kept_from nothing_kept (map moved_change (moved k)) ≡ kept = cc in
    subst (KeepsOnly R) same
    (keeps_all R (map moved_change (moved k)) nothing_kept (moved_each R 0 1024 (finite.entries k.bodies) (each_entry R k (keeps k refl)))
    (keeps_nothing R))
moved_keeps R (Err place) kept keeps is = absurd cc

moved_same : (found : Result Kept ℕ) (kept : Kept) → moved_map found ≡ Ok kept → SameKeys kept
moved_same (Ok k) kept is =
    let same : kept_from nothing_kept (map moved_change (moved k)) ≡ kept = cc in
    subst SameKeys same (same_all (map moved_change (moved k)) nothing_kept same_nothing)
moved_same (Err place) kept is = absurd cc

nothing_is : (R : Uid → List ℕ → Type 0) (kept : Kept) → nothing_kept ≡ kept → KeepsOnly R kept
nothing_is R kept same = subst (KeepsOnly R) same (keeps_nothing R)

-- What each head of each of these images gives, and what a log keeps, is all that an image keeps.
keeps_by : (R : Uid → List ℕ → Type 0) (P : List ℕ → Type 0) (node : ℕ) (image : List ℕ) → P image → (P image → P (finished image))
    → ((xs : List ℕ) → P xs → (number : ℕ) → IsHeadAt node xs number → HeadGives R xs (head_in number (head_bytes xs number))) →
    ((k : Kept) → log_map node (old_log image) ≡ Ok k → KeepsOnly R k) →
    (f : Format) (kept : Kept) → map_by f node image ≡ Ok kept → KeepsOnly R kept
keeps_by R P node image p ends gives log Blocks kept is = blocks_keep R node image (gives image p) kept is
keeps_by R P node image p ends gives log Staged kept is = blocks_keep R node (finished image) (gives (finished image) (ends p)) kept is
keeps_by R P node image p ends gives log OldLog kept is = moved_keeps R (log_map node (old_log image)) kept log is
keeps_by R P node image p ends gives log Foreign kept is = absurd cc
keeps_by R P node image p ends gives log Blank kept is = nothing_is R kept (let same : nothing_kept ≡ kept = cc in same)

when_sized : (C : Kept → Type 0) (sized : Bool) (found : Result Kept ℕ) (kept : Kept) → (found ≡ Ok kept → C kept)
    → (if sized then found else Err 0) ≡ Ok kept → C kept
when_sized C true found kept so is = so is
when_sized C false found kept so is = absurd cc

block_own : (node : ℕ) (image : List ℕ) (kept : Kept) → IsLayout log_layout → block_map node image ≡ Ok kept
    → KeepsOnly (IsOwnBody node) kept
block_own node image kept log is =
    when_sized (KeepsOnly (IsOwnBody node)) (is_block_size (length image)) (map_by (format_of image) node image) kept
    (keeps_by (IsOwnBody node) (λ xs. Unit {0}) node image tt (λ u. u) (λ xs u number good. head_owns node xs number good)
    (λ k there uid body h. log.own node (old_log image) k there uid body h) (format_of image) kept)
    is

-- an image in which the staged heads stand in their places is of bytes, where the image is
finished_bytes : (image : List ℕ) → AreBytes image → AreBytes (finished image)
finished_bytes image are =
    joined_bytes (take 1 image) (235 ∷ (slice_range image 2 1024 ++ (slice_range image 4063232 4194304 ++ drop 132096 image)))
    (taken_bytes 1 image are) behind
  where
    rest : AreBytes (slice_range image 2 1024 ++ (slice_range image 4063232 4194304 ++ drop 132096 image))
    rest = joined_bytes (slice_range image 2 1024) (slice_range image 4063232 4194304 ++ drop 132096 image) (part_bytes 2 1024 image are)
        (joined_bytes (slice_range image 4063232 4194304) (drop 132096 image) (part_bytes 4063232 4194304 image are)
        (dropped_bytes 132096 image are))

    behind : AreBytes (235 ∷ (slice_range image 2 1024 ++ (slice_range image 4063232 4194304 ++ drop 132096 image)))
    behind zero = omega arith
    behind (suc i) = rest i

block_bytes : (node : ℕ) (image : List ℕ) (kept : Kept) → IsLayout log_layout → block_map node image ≡ Ok kept → AreBytes image
    → KeepsOnly IsByteBody kept
block_bytes node image kept log is are =
    when_sized (KeepsOnly IsByteBody) (is_block_size (length image)) (map_by (format_of image) node image) kept
    (keeps_by IsByteBody AreBytes node image are (finished_bytes image) (head_spells node)
    (λ k there uid body h.
    let b = log.bytes node (old_log image) k there (all_bytes (old_log image) (taken_bytes 1048576 image are)) uid body h in
    (b.0, b.1, are_bytes body b.2)) (format_of image) kept)
    is

-- four bytes under the reserved uid
reserved_long : (epoch serial size : ℕ) → epoch ≡ 0 → ((1 ≤ epoch) × (1 ≤ serial)) ⊎ ((epoch ≡ 0) × (serial ≡ 0) × (size ≡ 4)) → size ≡ 4
reserved_long epoch serial size none (inl eject) = absurd (omega (arith, none, eject.0))
reserved_long epoch serial size none (inr reserved) = reserved.2

blocks_same : (image : List ℕ) (found : Result (List Head) ℕ) (kept : Kept) → kept_in_blocks image found ≡ Ok kept → SameKeys kept
blocks_same image (Ok heads) kept is = same_found (changes_on image (chains_of image heads)) kept is
blocks_same image (Err place) kept is = absurd cc

same_by : (node : ℕ) (image : List ℕ) (f : Format) (kept : Kept) → map_by f node image ≡ Ok kept → SameKeys kept
same_by node image Blocks kept is = blocks_same image (heads_of node image) kept is
same_by node image Staged kept is = blocks_same (finished image) (heads_of node (finished image)) kept is
same_by node image OldLog kept is = moved_same (log_map node (old_log image)) kept is
same_by node image Foreign kept is = absurd cc
same_by node image Blank kept is =
    let same : nothing_kept ≡ kept = cc in
    subst SameKeys same same_nothing

-- a log that keeps too much keeps something
too_much : (found : Result Kept ℕ) → is_too_much found ≡ true → (kept : Kept) × (moved_map found ≡ Ok kept)
too_much (Ok k) much = (kept_from nothing_kept (map moved_change (moved k)), refl)
too_much (Err place) much = absurd (false≢true much)

overfull_keeps : (node : ℕ) (image : List ℕ) (f : Format) → overfull_by f node image ≡ true
    → (kept : Kept) × (map_by f node image ≡ Ok kept)
overfull_keeps node image Blocks much = absurd (false≢true much)
overfull_keeps node image Staged much = absurd (false≢true much)
overfull_keeps node image OldLog much = too_much (log_map node (old_log image)) much
overfull_keeps node image Foreign much = absurd (false≢true much)
overfull_keeps node image Blank much = absurd (false≢true much)

when_overfull : (sized much : Bool) (found : Result Kept ℕ) → (sized && much) ≡ true → (much ≡ true → (kept : Kept) × (found ≡ Ok kept))
    → (kept : Kept) × ((if sized then found else Err 0) ≡ Ok kept)
when_overfull true much found is keeps = keeps is
when_overfull false much found is keeps = absurd (false≢true is)

unsized : (sized : Bool) (found : Result Kept ℕ) → sized ≡ false → (if sized then found else Err 0) ≡ Err 0
unsized false found is = refl
unsized true found is = absurd (false≢true (sym is))

-- The layout of blocks is a layout.
pub block_is_layout : IsLayout log_layout → IsLayout block_layout
block_is_layout log = record {
  sized = λ node image small. unsized (is_block_size (length image)) (map_by (format_of image) node image) small;
  own = λ node image kept is uid body h. block_own node image kept log is uid body h;
  bytes = λ node image kept is all uid body h.
      let b = block_bytes node image kept log is (are_bytes image all) uid body h in
      (b.0, b.1, all_bytes body b.2);
  respells = λ node image kept is all body h.
      let own = block_own node image kept log is (reserved_uid node) body h in
      let b = block_bytes node image kept log is (are_bytes image all) (reserved_uid node) body h in
      be_bytes_4 body (from_be_bytes w32 body) (reserved_long 0 0 (length body) refl own.0.1) b.2 refl;
  marks = λ node image kept is.
      when_sized SameKeys (is_block_size (length image)) (map_by (format_of image) node image) kept
      (same_by node image (format_of image) kept) is;
  overfull = λ node image much.
      when_overfull (is_block_size (length image)) (overfull_by (format_of image) node image) (map_by (format_of image) node image) much
      (overfull_keeps node image (format_of image));
  unread = refl;
  opens = λ node image sized. opened (is_block_size (length image)) node image sized;
}
  where
    opened : (sized : Bool) (node : ℕ) (image : List ℕ) → sized ≡ true
        → 1 ≤ length (if sized then (Sync ∷ Read ∷ opening_by (format_of image) node image) else [])
    opened true node image is = omega arith
    opened false node image is = absurd (false≢true is)
