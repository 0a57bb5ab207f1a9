-- What is kept under a uid on an image, by what memory has.
use Rattle.std.proofs.Common.{◌≡◌, ℕ, ◌+◌, ◌*◌, ◌/◌, ◌≤◌, ◌<◌, Bool, true, false, cond, List, [], ◌∷◌, length, map, refl}
use Rattle.std.proofs.Common.{sym, ap, subst, ◌∙◌, arith}
use Rattle.std.specs.Prelude.{◌&&◌, ◌==◌, ◌≢◌, filter, flat_map, is_some, IfSome, Option, None, Some, Result, Ok}
use Rattle.std.specs.Prelude.{if◌then◌else◌}
use Rattle.std.specs.FinMap as finite
use Rattle.std.specs.List.{AllByRecursion}
use Rattle.std.specs.Ordering.{eq_by_cmp}
use Rattle.std.proofs.lemmas.Bool.{or_left, or_right}
use Rattle.std.proofs.Common.{eq-eqb}
use Rattle.std.proofs.lemmas.List.{length-take-le}
use Rattle.capability.specs.declared.Uid.{Uid}
use Rattle.capability.specs.Uids.{uid_cmp}
use Rattle.passive_store.specs.Kept.{StoreChange, Kept, nothing_kept, kept_from, IsNextOf, IsOwn, reserved_uid, body_at, IsNextKept}
use Rattle.passive_store.specs.LogState.{is_eject}
use Rattle.block_tables.specs.declared.heads.HeadFields.{HeadFields}
use Rattle.block_tables.specs.declared.table.Table.{Table}
use Rattle.block_tables.specs.Blocks.{Head, keeping, kept_in_blocks, blocks_of, body_on, has}
use Rattle.block_tables.specs.HeadSeen.{head_of}
use Rattle.block_tables.specs.HeadState.{heads_in, slot_at, IsLatest, kept_slot, entry_at}
use Rattle.block_tables.specs.BlockState.{walk, AreDataIn}
use Rattle.block_tables.specs.TableState.{IsTable, keeper, sequence_of}
use Rattle.passive_blocks.specs.StoreState.{chain_in}
use Rattle.passive_blocks.specs.HeldState.{AreApart, AreOwn}
use Rattle.passive_blocks.specs.KeptState.{HasChains}
use Rattle.passive_blocks.proofs.BlocksKept.{data_on, long_data}
use Rattle.block_tables.proofs.Walks.{on_disk}
use Rattle.passive_blocks.proofs.StageChains.{value_on, kept_by_chains}
use Rattle.passive_blocks.proofs.StageKept.{last_of, body_in, mark_in, bodies_from, marks_from, IsOfUid}
use Rattle.passive_blocks.proofs.HeldSums.{heads_under, uid_is, same_itself}
use Rattle.passive_blocks.proofs.HeldKeepers.{keeper_listed}
use Rattle.passive_blocks.proofs.HeldCounts.{walk_long}
use Rattle.passive_blocks.proofs.HeldFacts.{latest_held}
use Rattle.block_tables.proofs.Ordered.{next_as, own_eject, eject_tests}
use Rattle.block_tables.proofs.OpenHeads.{open_is}

-- what an image keeps then
abbrev pub memory_kept : List ℕ → Table → Kept
memory_kept image t = kept_from nothing_kept (map (value_on image t.blocks.next.items) (keeping (heads_in t.heads.slots.items)))

pub kept_exists : (image : List ℕ) (t : Table) → HasChains image t
    → kept_in_blocks image (Ok (heads_in t.heads.slots.items)) ≡ Ok (memory_kept image t)
kept_exists image t chains = kept_by_chains image t.blocks.next.items (heads_in t.heads.slots.items) chains

pub kept_is : (image : List ℕ) (t : Table) (kept : Kept) → HasChains image t
    → kept_in_blocks image (Ok (heads_in t.heads.slots.items)) ≡ Ok kept → memory_kept image t ≡ kept
kept_is image t kept chains found =
    same (memory_kept image t) kept (sym (kept_exists image t chains) ∙ found)
  where
    same : (a b : Kept) → ◌≡◌ {A = Result Kept ℕ} (Ok a) (Ok b) → a ≡ b
    same a b e = cc

last_listed : (X : Type 0) (f : StoreChange → Option X) (v : Head → StoreChange) → IsOfUid v → (hs : List Head) (q : Uid) (old : Option X)
    → last_of f (map v hs) q old ≡ last_of f (map v (filter (λ (g : Head). eq_by_cmp uid_cmp q g.uid) hs)) q old
last_listed X f v uids [] q old = refl
last_listed X f v uids (h ∷ hs) q old = go (eq_by_cmp uid_cmp q h.uid) refl (last_listed X f v uids hs q)
  where
    go : (b : Bool) → eq_by_cmp uid_cmp q h.uid ≡ b
        → ((o : Option X) → last_of f (map v hs) q o ≡ last_of f (map v (filter (λ (g : Head). eq_by_cmp uid_cmp q g.uid) hs)) q o)
        → last_of f (map v hs) q (cond (eq_by_cmp uid_cmp q (v h).uid) (f (v h)) old)
        ≡ last_of f (map v (if b then h ∷ filter (λ (g : Head). eq_by_cmp uid_cmp q g.uid) hs
        else filter (λ (g : Head). eq_by_cmp uid_cmp q g.uid) hs)) q old
    go true is rest = rest (cond (eq_by_cmp uid_cmp q (v h).uid) (f (v h)) old)
    go false is rest =
        ap (λ b. last_of f (map v hs) q (cond b (f (v h)) old)) (ap (eq_by_cmp uid_cmp q) (uids h) ∙ is) ∙ rest old

-- what the head that keeps a value gives
abbrev given_by : {X : Type 0} → (StoreChange → Option X) → (Head → StoreChange) → Option HeadFields → Option X
given_by f v None = None
given_by f v (Some s) = f (v (head_of s))

kept_uid : (slots : List HeadFields) (uid : Uid) (latest : Option ℕ) → IsLatest slots uid latest
    → IfSome (kept_slot slots latest) (λ (s : HeadFields). s.uid ≡ uid)
kept_uid slots uid None is = tt
kept_uid slots uid (Some m) is = go (slot_at slots m).removal
  where
    go : (b : Bool) → IfSome (if b then None else Some (slot_at slots m)) (λ (s : HeadFields). s.uid ≡ uid)
    go true = tt
    go false = uid_is (slot_at slots m) uid is.0

last_under : (X : Type 0) (f : StoreChange → Option X) (v : Head → StoreChange) → IsOfUid v → (uid : Uid) (o : Option HeadFields)
    → IfSome o (λ (s : HeadFields). s.uid ≡ uid) → last_of f (map v (heads_under o)) uid None ≡ given_by f v o
last_under X f v uids uid None of = refl
last_under X f v uids uid (Some s) of =
    ap (λ b. cond b (f (v (head_of s))) None)
    (ap (eq_by_cmp uid_cmp uid) (uids (head_of s) ∙ of) ∙ same_itself uid)

last_kept : (X : Type 0) (f : StoreChange → Option X) (v : Head → StoreChange) → IsOfUid v
    → (slots : List HeadFields) (uid : Uid) (latest : Option ℕ) → AreApart slots → IsLatest slots uid latest
    → last_of f (map v (keeping (heads_in slots))) uid None ≡ given_by f v (kept_slot slots latest)
last_kept X f v uids slots uid latest apart is =
    last_listed X f v uids (keeping (heads_in slots)) uid None
    ∙ ap (λ hs. last_of f (map v hs) uid None) (keeper_listed slots uid latest apart is)
    ∙ last_under X f v uids uid (kept_slot slots latest) (kept_uid slots uid latest is)

-- the body of a value: the bytes on its chain
abbrev pub body_under : List ℕ → List ℕ → Option HeadFields → Option (List ℕ)
body_under image next None = None
body_under image next (Some s) = Some (body_on image (chain_in next (head_of s)))

mark_given : (image next : List ℕ) (o : Option HeadFields) → given_by mark_in (value_on image next) o ≡ sequence_of o
mark_given image next None = refl
mark_given image next (Some s) = refl

body_given : (image next : List ℕ) (o : Option HeadFields) → given_by body_in (value_on image next) o ≡ body_under image next o
body_given image next None = refl
body_given image next (Some s) = refl

-- The mark of a uid is the sequence of the head that keeps its value.
pub mark_in_memory : (image : List ℕ) (t : Table) (uid : Uid) → IsTable t → AreApart t.heads.slots.items
    → finite.get (memory_kept image t).marks uid ≡ sequence_of (keeper t uid)
mark_in_memory image t uid is apart =
    let slots : List HeadFields = t.heads.slots.items in
    let v : Head → StoreChange = value_on image t.blocks.next.items in
    marks_from (map v (keeping (heads_in slots))) nothing_kept uid
    ∙ ap (last_of mark_in (map v (keeping (heads_in slots))) uid) (finite.get-empty uid_cmp uid)
    ∙ last_kept ℕ mark_in v (λ h. refl) slots uid (entry_at t.heads.index uid).latest apart (latest_held t uid is)
    ∙ mark_given image t.blocks.next.items (keeper t uid)

pub body_in_memory : (image : List ℕ) (t : Table) (uid : Uid) → IsTable t → AreApart t.heads.slots.items
    → finite.get (memory_kept image t).bodies uid ≡ body_under image t.blocks.next.items (keeper t uid)
body_in_memory image t uid is apart =
    let slots : List HeadFields = t.heads.slots.items in
    let v : Head → StoreChange = value_on image t.blocks.next.items in
    bodies_from (map v (keeping (heads_in slots))) nothing_kept uid
    ∙ ap (last_of body_in (map v (keeping (heads_in slots))) uid) (finite.get-empty uid_cmp uid)
    ∙ last_kept (List ℕ) body_in v (λ h. refl) slots uid (entry_at t.heads.index uid).latest apart (latest_held t uid is)
    ∙ body_given image t.blocks.next.items (keeper t uid)

-- What is kept under a uid, on an image that has the chains of memory: its mark, its body, and whether it is kept.
pub mark_kept : (image : List ℕ) (t : Table) (kept : Kept) (uid : Uid) → IsTable t → AreApart t.heads.slots.items → HasChains image t
    → kept_in_blocks image (Ok (heads_in t.heads.slots.items)) ≡ Ok kept → finite.get kept.marks uid ≡ sequence_of (keeper t uid)
mark_kept image t kept uid is apart chains found =
    subst (λ (k : Kept). finite.get k.marks uid ≡ sequence_of (keeper t uid)) (kept_is image t kept chains found)
    (mark_in_memory image t uid is apart)

pub body_kept : (image : List ℕ) (t : Table) (kept : Kept) (uid : Uid) → IsTable t → AreApart t.heads.slots.items → HasChains image t
    → kept_in_blocks image (Ok (heads_in t.heads.slots.items)) ≡ Ok kept
    → finite.get kept.bodies uid ≡ body_under image t.blocks.next.items (keeper t uid)
body_kept image t kept uid is apart chains found =
    subst (λ (k : Kept). finite.get k.bodies uid ≡ body_under image t.blocks.next.items (keeper t uid)) (kept_is image t kept chains found)
    (body_in_memory image t uid is apart)

some_body : (image next : List ℕ) (o : Option HeadFields) → is_some (body_under image next o) ≡ is_some o
some_body image next None = refl
some_body image next (Some s) = refl

pub holds_kept : (image : List ℕ) (t : Table) (kept : Kept) (uid : Uid) → IsTable t → AreApart t.heads.slots.items → HasChains image t
    → kept_in_blocks image (Ok (heads_in t.heads.slots.items)) ≡ Ok kept → is_some (finite.get kept.bodies uid) ≡ is_some (keeper t uid)
holds_kept image t kept uid is apart chains found =
    ap is_some (body_kept image t kept uid is apart chains found) ∙ some_body image t.blocks.next.items (keeper t uid)

pub each_has : (P : ℕ → Type 0) (xs : List ℕ) → ((k : ℕ) → has k xs ≡ true → P k) → AllByRecursion P xs
each_has P [] all = tt
each_has P (x ∷ xs) all = (
  all x (or_left (x == x) (has x xs) (eq-eqb x x refl)),
  each_has P xs (λ k there. all k (or_right (x == k) (has k xs) there)),
)

fills : (n : ℕ) → n ≤ 1022 * blocks_of n
fills n = omega arith

-- A body is as long as its head says, where its chain is of blocks for data.
pub body_long : (image next : List ℕ) (h : Head) → AreDataIn (length image) (walk next h.first (blocks_of h.size))
    → length (body_on image (chain_in next h)) ≡ h.size
body_long image next h inside =
    let blocks : List ℕ = walk next h.first (blocks_of h.size) in
    let within : AllByRecursion (λ (b : ℕ). b * 1024 + 1024 ≤ length image) blocks =
    each_has (λ (b : ℕ). b * 1024 + 1024 ≤ length image) blocks (λ k there. on_image (length image) k (on_disk (length image) k
    (inside k there))) in
    length-take-le h.size (flat_map (data_on image) blocks)
    (omega (arith, long_data image blocks within, walk_long next h.first (blocks_of h.size), fills h.size))
  where
    on_image : (size k : ℕ) → k < size / 1024 → k * 1024 + 1024 ≤ size
    on_image size k less = omega (arith, less)

own_keeps : (node : ℕ) (slots : List HeadFields) (uid : Uid) (latest : Option ℕ) → AreOwn node slots → IsLatest slots uid latest
    → uid ≢ reserved_uid node → is_some (kept_slot slots latest) ≡ (is_some (kept_slot slots latest) && is_eject node uid)
own_keeps node slots uid None own is other = refl
own_keeps node slots uid (Some m) own is other =
    and_true (is_some (kept_slot slots (Some m)))
    (eject_tests node uid (own_eject node uid (slot_at slots m).size
    (subst (λ u. IsOwn node u (slot_at slots m).size) (uid_is (slot_at slots m) uid is.0) (own m (open_is
    (slot_at slots m) uid is.0))) other))
  where
    and_true : (a : Bool) → is_eject node uid ≡ true → a ≡ (a && is_eject node uid)
    and_true true e = sym e
    and_true false e = refl

-- The next uid of an Eject under which the table has a value is the next kept one.
pub next_kept : (node : ℕ) (image : List ℕ) (t : Table) (kept : Kept) (from next : Option Uid) → IsTable t → AreApart t.heads.slots.items
    → AreOwn node t.heads.slots.items → HasChains image t → kept_in_blocks image (Ok (heads_in t.heads.slots.items)) ≡ Ok kept
    → IsNextOf (λ uid. is_some (keeper t uid) && is_eject node uid) (reserved_uid node) from next → IsNextKept node kept from next
next_kept node image t kept from next is apart own chains found there =
    next_as (λ uid. is_some (keeper t uid) && is_eject node uid) (λ uid. is_some (body_at kept uid)) (reserved_uid node) from next
    (λ uid other. holds_kept image t kept uid is apart chains found
    ∙ own_keeps node t.heads.slots.items uid (entry_at t.heads.index uid).latest own (latest_held t uid is) other) there
