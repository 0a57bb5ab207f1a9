-- The loop that copies values from the log to their blocks: what it has made so far, and that the log stays.
use Rattle.std.specs.Prelude.{◌≡◌, ℕ, suc, zero, ◌+◌, ◌-◌, ◌≤◌, ◌<◌, Bool, IsTrue, List, [], ◌∷◌, ◌++◌, length}
use Rattle.std.specs.Prelude.{flat_map, take, drop, slice_range, All, Result, Ok, Err}
use Rattle.std.proofs.Common.{get_or, refl, sym, ap, subst, ◌∙◌, inl, arith}
use Rattle.std.proofs.lemmas.List.{append-nil, append_assoc, drop-take, drop_more, map-append, take_all, take_more, take-append-drop}
use Rattle.std.proofs.lemmas.List.Elements.{All-get_or}
use Rattle.std.proofs.lemmas.Grind.{flat_map-append}
use Rattle.eden_disk.specs.Told.{Told, contents}
use Rattle.eden_disk.specs.declared.disk.DiskRefusal.{DiskRefusal}
use Rattle.eden_disk.specs.Calls.{Fine, end_of}
use Rattle.passive_store.specs.declared.store.StoreRefusal.{StoreRefusal}
use Rattle.passive_store.specs.Acts.{DiskCall, Read, AllTold}
use Rattle.passive_store.specs.Seen.{DiskSeen}
use Rattle.passive_blocks.specs.declared.convert.Moved.{Moved}
use Rattle.block_tables.specs.Blocks.{numbers, blocks_of}
use Rattle.block_tables.specs.Changes.{chain_writes}
use Rattle.passive_blocks.specs.Conversion.{Moved as Value, move_calls, old_log}
use Rattle.block_tables.specs.HeadSeen.{head_of}
use Rattle.passive_blocks.specs.Converting.{IsMovable, moved_in, all_moved_in}
use Rattle.passive_blocks.specs.Making.{Makes, Runs}
use Rattle.passive_blocks.proofs.Making.{makes_join, makes_as}
use Rattle.passive_blocks.proofs.Running.{EndsEarly, runs_none, runs_join, runs_refused, runs_as}
use Rattle.passive_blocks.proofs.SameParts.{same_take}
use Rattle.passive_blocks.proofs.Moving.{take_less}
use Rattle.passive_blocks.proofs.StagedTold.{chain_told}

-- 1. One value is copied

chain_count : (first n : ℕ) (xs ys : List ℕ) → length (chain_writes (numbers first n) xs) ≡ length (chain_writes (numbers first n) ys)
unfolding numbers chain_writes
chain_count first zero xs ys = refl
chain_count first (suc n) xs ys = ap suc (chain_count (first + 1) n (drop 1022 xs) (drop 1022 ys))

-- the writes of what was read
read_writes : (first size place : ℕ) (image body : List ℕ) → length body ≡ size → body ≡ slice_range image place (place + size)
    → chain_writes (numbers first (blocks_of (length body))) body
    ≡ chain_writes (numbers first (blocks_of size)) (slice_range image place (place + size))
read_writes first size place image body long is =
    ap (λ n. chain_writes (numbers first (blocks_of n)) body) long ∙ ap (λ b. chain_writes (numbers first (blocks_of size)) b) is

-- the writes on a disk that has been read
pub written_value : (tells obeys : Bool) (moved : Moved) (image body : List ℕ) (old mid new : DiskSeen)
    (result : Result (Unit {0}) DiskRefusal)
    → length body ≡ moved.head.size
    → (IsTrue tells → body ≡ slice_range image moved.place (moved.place + moved.head.size))
    → Makes tells obeys (Read ∷ []) old mid Fine
    → Makes tells obeys (chain_writes (numbers moved.head.first (blocks_of (length body))) body) mid new (end_of result)
    → Makes tells obeys (move_calls (moved_in image moved)) old new (end_of result)
written_value tells obeys moved image body old mid new result long is read written =
    let part : List ℕ = slice_range image moved.place (moved.place + moved.head.size) in
    let first : ℕ = moved.head.first in
    makes_join tells obeys (Read ∷ []) (chain_writes (numbers first (blocks_of moved.head.size)) part) old mid new (end_of result) read
    (makes_as tells obeys (chain_writes (numbers first (blocks_of (length body))) body)
    (chain_writes (numbers first (blocks_of moved.head.size)) part) mid new (end_of result)
    (ap (λ n. length (chain_writes (numbers first (blocks_of n)) body)) long ∙ chain_count first (blocks_of moved.head.size) body part)
    (λ so. read_writes first moved.head.size moved.place image body long (is so)) written)

-- 2. It leaves the log

part_of_log : (n a b : ℕ) (xs : List ℕ) → a ≤ b → b ≤ n → slice_range (take n xs) a b ≡ slice_range xs a b
part_of_log n a b xs less within =
    ap (λ k. take (b - a) (drop a (take k xs))) count
    ∙ ap (λ ys. take (b - a) ys) (drop-take a (n - a) xs)
    ∙ take_less (b - a) (n - a) (drop a xs) (omega (arith, less, within))
  where
    count : n ≡ a + (n - a)
    count = omega (arith, less, within)

with_body : Moved → List ℕ → Value
with_body moved body = record { head = head_of moved.head; body = body }

-- of two images with the same log the same value is moved
pub same_value : (xs ys : List ℕ) (moved : Moved) → IsMovable moved → old_log xs ≡ old_log ys → moved_in xs moved ≡ moved_in ys moved
unfolding with_body
same_value xs ys moved is same =
    ap (λ b. with_body moved b)
    (sym (part_of_log 1048576 moved.place (moved.place + moved.head.size) xs (omega arith) is.log)
    ∙ ap (λ l. slice_range l moved.place (moved.place + moved.head.size)) same
    ∙ part_of_log 1048576 moved.place (moved.place + moved.head.size) ys (omega arith) is.log)

copied_told : (moved : Moved) (image : List ℕ) (old new : Told) → IsMovable moved → length (contents old).now ≡ 4194304
    → AllTold (move_calls (moved_in image moved)) old new
    → (length (contents new).now ≡ 4194304) × (old_log (contents new).now ≡ old_log (contents old).now)
copied_told moved image old new is long told =
    let same : (contents told.0).now ≡ (contents old).now = ap (λ t. (contents t).now) told.2 in
    let size : length (contents told.0).now ≡ 4194304 = ap (λ xs. length xs) same ∙ long in
    let c = chain_told moved.head.first (blocks_of moved.head.size) (slice_range image moved.place (moved.place + moved.head.size)) told.0
    new
    (omega (arith, is.blocks)) (omega (arith, is.blocks, size)) told.3 in (
      c.long ∙ size,
      same_take 1048576 (contents new).now (contents told.0).now c.long
          (λ k below. c.outside k (inl (omega (arith, below, is.begins))))
          ∙ ap (λ xs. old_log xs) same,
    )

-- 3. So many values are copied

pub record CopyingValues (tells obeys : Bool) (moved : List Moved) (i : ℕ) (start here : DiskSeen) : Type 0 where
  pub size : here.counts.size ≡ 4194304
  pub power : IsTrue here.counts.power
  pub long : IsTrue tells → length (contents here.told).now ≡ 4194304
  pub log : IsTrue tells → old_log (contents here.told).now ≡ old_log (contents start.told).now
  pub made : Runs {T = Unit {0}} tells obeys (flat_map move_calls (all_moved_in (contents start.told).now (take i moved))) start here
      (Ok tt)

pub copying_begun : (tells obeys : Bool) (moved : List Moved) (start : DiskSeen) → start.counts.size ≡ 4194304 → IsTrue start.counts.power
    → (IsTrue tells → length (contents start.told).now ≡ 4194304) → CopyingValues tells obeys moved 0 start start
copying_begun tells obeys moved start size power long = record {
  size = size;
  power = power;
  long = long;
  log = λ so. refl;
  made = runs_none (Unit {0}) tt tells obeys start power;
}

calls_more : (image : List ℕ) (xs ys : List Moved) → flat_map move_calls (all_moved_in image (xs ++ ys))
    ≡ flat_map move_calls (all_moved_in image xs) ++ flat_map move_calls (all_moved_in image ys)
calls_more image xs ys =
    ap (λ vs. flat_map move_calls vs) (map-append (moved_in image) xs ys)
    ∙ flat_map-append move_calls (all_moved_in image xs) (all_moved_in image ys)

-- of all calls those of the first values, those of one, and those behind it
abbrev copy_all : List ℕ → List Moved → List DiskCall
copy_all image moved = flat_map move_calls (all_moved_in image moved)

copied_one : (tells obeys : Bool) (moved : List Moved) (i : ℕ) (m d : Moved) (start here next : DiskSeen) → i < length moved
    → m ≡ get_or moved i d → IsMovable m → CopyingValues tells obeys moved i start here
    → Runs {T = Unit {0}} tells obeys (move_calls (moved_in (contents here.told).now m)) here next (Ok tt)
    → CopyingValues tells obeys moved (i + 1) start next
copied_one tells obeys moved i m d start here next below at movable c more = record {
  size = more.counts.size ∙ c.size;
  power = more.counts.power;
  long = λ so. (copied_told m (contents here.told).now here.told next.told movable (c.long so) (more.order so)).0;
  log = λ so. (copied_told m (contents here.told).now here.told next.told movable (c.long so) (more.order so)).1 ∙ c.log so;
  made = runs_as (Unit {0}) tells obeys (copy_all image (take i moved) ++ move_calls (moved_in (contents here.told).now m))
      (copy_all image (take (i + 1) moved)) start next (Ok tt)
      (λ so. ap (λ v. copy_all image (take i moved) ++ move_calls v)
      (same_value (contents here.told).now image m movable (c.log so))
      ∙ ap (λ calls. copy_all image (take i moved) ++ calls) (sym (append-nil (move_calls (moved_in image m))))
      ∙ sym (calls_more image (take i moved) (m ∷ []))
      ∙ ap (λ ms. copy_all image ms) (sym (take_more moved i d below ∙ ap (λ x. take i moved ++ x ∷ []) (sym at))))
      (runs_join (Unit {0}) (Unit {0}) tt tells obeys (copy_all image (take i moved)) (move_calls (moved_in (contents here.told).now m))
      start
      here next (Ok tt) c.made more);
}
  where
    image : List ℕ
    image = (contents start.told).now

-- one more value was refused
one_refused : (tells obeys : Bool) (moved : List Moved) (i : ℕ) (m d : Moved) (start here next : DiskSeen) (e : StoreRefusal)
    → i < length moved → m ≡ get_or moved i d → IsMovable m → EndsEarly e → CopyingValues tells obeys moved i start here
    → Runs {T = Unit {0}} tells obeys (move_calls (moved_in (contents here.told).now m)) here next (Err e)
    → Runs {T = Unit {0}} tells obeys (flat_map move_calls (all_moved_in (contents start.told).now moved)) start next (Err e)
one_refused tells obeys moved i m d start here next e below at movable early c more =
    runs_as (Unit {0}) tells obeys ((copy_all image (take i moved) ++ move_calls (moved_in (contents here.told).now m))
    ++ copy_all image (drop (i + 1) moved)) (copy_all image moved) start next (Err e)
    (λ so. ap (λ v. (copy_all image (take i moved) ++ move_calls v) ++ copy_all image (drop (i + 1) moved))
    (same_value (contents here.told).now image m movable (c.log so))
    ∙ append_assoc (copy_all image (take i moved)) (move_calls (moved_in image m)) (copy_all image (drop (i + 1) moved))
    ∙ sym (calls_more image (take i moved) (m ∷ drop (i + 1) moved))
    ∙ ap (λ ms. copy_all image ms) (ap (λ x. take i moved ++ x ∷ drop (i + 1) moved) at
    ∙ ap (λ ms. take i moved ++ ms) (sym (drop_more moved i d below)) ∙ take-append-drop i moved))
    (runs_refused (Unit {0}) (Unit {0}) tells obeys (copy_all image (take i moved) ++ move_calls (moved_in (contents here.told).now m))
    (copy_all image (drop (i + 1) moved)) start next e early
    (runs_join (Unit {0}) (Unit {0}) tt tells obeys (copy_all image (take i moved)) (move_calls (moved_in (contents here.told).now m)) start
    here next (Err e) c.made more))
  where
    image : List ℕ
    image = (contents start.told).now

-- the same of the value that the loop is at
pub copied_on : (tells obeys : Bool) (moved slice : List Moved) (i : ℕ) (d : Moved) (start here next : DiskSeen) → slice ≡ moved
    → i < length moved → All IsMovable moved → CopyingValues tells obeys moved i start here
    → Runs {T = Unit {0}} tells obeys (move_calls (moved_in (contents here.told).now (get_or slice i d))) here next (Ok tt)
    → CopyingValues tells obeys moved (i + 1) start next
copied_on tells obeys moved slice i d start here next same below all c more =
    copied_one tells obeys moved i (get_or slice i d) d start here next below (ap (λ ms. get_or ms i d) same)
    (subst (λ ms. IsMovable (get_or ms i d)) (sym same) (All-get_or IsMovable moved i d below all)) c more

pub copy_refused : (tells obeys : Bool) (moved slice : List Moved) (i : ℕ) (d : Moved) (start here next : DiskSeen) (e : StoreRefusal)
    → slice ≡ moved → i < length moved → All IsMovable moved → EndsEarly e → CopyingValues tells obeys moved i start here
    → Runs {T = Unit {0}} tells obeys (move_calls (moved_in (contents here.told).now (get_or slice i d))) here next (Err e)
    → Runs {T = Unit {0}} tells obeys (flat_map move_calls (all_moved_in (contents start.told).now moved)) start next (Err e)
copy_refused tells obeys moved slice i d start here next e same below all early c more =
    one_refused tells obeys moved i (get_or slice i d) d start here next e below (ap (λ ms. get_or ms i d) same)
    (subst (λ ms. IsMovable (get_or ms i d)) (sym same) (All-get_or IsMovable moved i d below all)) early c more

pub copied_whole : (tells obeys : Bool) (moved : List Moved) (i : ℕ) (start here : DiskSeen) → length moved ≤ i
    → CopyingValues tells obeys moved i start here
    → Runs {T = Unit {0}} tells obeys (flat_map move_calls (all_moved_in (contents start.told).now moved)) start here (Ok tt)
copied_whole tells obeys moved i start here past c =
    subst (λ ms. Runs {T = Unit {0}} tells obeys (copy_all (contents start.told).now ms) start here (Ok tt)) (take_all i moved past) c.made
