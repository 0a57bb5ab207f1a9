-- The loop that writes a body on blocks that stand one behind the other: what it has made so far.
use Rattle.std.specs.Prelude.{◌≡◌, ℕ, suc, zero, ◌+◌, ◌-◌, ◌*◌, ◌≤◌, ◌<◌, ◌==◌, min, Bool, true, false, IsTrue, List, [], ◌∷◌, ◌++◌}
use Rattle.std.specs.Prelude.{length, take, drop, slice_range, Err, if◌then◌else◌}
use Rattle.std.specs.Prelude.{◌⊎◌}
use Rattle.std.proofs.Common.{refl, sym, ap, subst, ◌∙◌, inl, inr, arith}
use Rattle.std.proofs.lemmas.Bool.Decides.{nat_tests}
use Rattle.std.proofs.lemmas.List.{append_assoc, append-nil, length-drop, take_min}
use Rattle.std.proofs.Math.ListN.{drop_of_length-le}
use Rattle.std.specs.Int.{w16, to_be_bytes}
use Rattle.eden_disk.specs.declared.disk.DiskRefusal.{DiskRefusal}
use Rattle.eden_disk.specs.Timed.{Timed}
use Rattle.eden_disk.specs.Calls.{End, Fine, DeviceCalls, Obeyed, end_of}
use Rattle.passive_store.specs.Acts.{DiskCall, Write, CallTold}
use Rattle.passive_store.specs.Seen.{DiskSeen}
use Rattle.block_tables.specs.Blocks.{numbers, blocks_of}
use Rattle.block_tables.specs.Changes.{chain_writes, first_or_zero}
use Rattle.passive_blocks.specs.Making.{Makes}
use Rattle.passive_blocks.proofs.Making.{makes_none, makes_call, makes_join, makes_refused}
use Rattle.passive_blocks.proofs.SameParts.{drop_more}

-- the writes of a body on so many blocks from one on
abbrev pub writes_on : ℕ → ℕ → List ℕ → List DiskCall
writes_on first count body = chain_writes (numbers first count) body

-- the blocks up to one are written, and that many bytes stand on them
pub record Chaining (tells obeys : Bool) (first : ℕ) (body : List ℕ) (block from : ℕ) (start here : DiskSeen) : Type 0 where
  pub size : here.counts.size ≡ start.counts.size
  pub power : IsTrue here.counts.power
  pub within : from ≤ length body
  pub begins : first ≤ block
  pub done : List DiskCall
  pub made : Makes tells obeys done start here Fine
  pub all : writes_on first (blocks_of (length body)) body
      ≡ done ++ writes_on block (first + blocks_of (length body) - block) (drop from body)

on_count : (first a b : ℕ) (body : List ℕ) → a ≡ b → writes_on first a body ≡ writes_on first b body
on_count first a b body same = ap (λ n. writes_on first n body) same

pub chaining_begun : (tells obeys : Bool) (first : ℕ) (body : List ℕ) (start : DiskSeen) → start.counts.power ≡ true
    → Chaining tells obeys first body first 0 start start
chaining_begun tells obeys first body start power = record {
  size = refl;
  power = power;
  within = omega arith;
  begins = omega arith;
  done = [];
  made = makes_none tells obeys start power;
  all = on_count first (blocks_of (length body)) (first + blocks_of (length body) - first) body (omega arith);
}

-- the number of the next block, 0 for none
abbrev pub next_of : ℕ → ℕ → ℕ
next_of block end = if block + 1 == end then 0 else block + 1

none_next : (block m : ℕ) → m ≡ 0 → 0 ≡ first_or_zero (numbers block m)
unfolding numbers
none_next block zero is = refl
none_next block (suc m) is = absurd (omega (arith, is))

some_next : (block m : ℕ) → 1 ≤ m → block ≡ first_or_zero (numbers block m)
unfolding numbers
some_next block zero least = absurd (omega (arith, least))
some_next block (suc m) least = refl

last_left : (block end : ℕ) → (block + 1 == end) ≡ true → end - block - 1 ≡ 0
last_left block end is = grind (arith, nat_tests)

more_left : (block end : ℕ) → (block + 1 == end) ≡ false → block < end → 1 ≤ end - block - 1
more_left block end is below = grind (arith, nat_tests)

pub next_or_none : (block end : ℕ) (last : Bool) → (block + 1 == end) ≡ last → block < end
    → (if last then 0 else block + 1) ≡ first_or_zero (numbers (block + 1) (end - block - 1))
next_or_none block end true is below = none_next (block + 1) (end - block - 1) (last_left block end is)
next_or_none block end false is below = some_next (block + 1) (end - block - 1) (more_left block end is below)

-- the next write, and those behind it
chain_step : (block m : ℕ) (body : List ℕ) → writes_on block (suc m) body
    ≡ Write (block * 1024) (to_be_bytes w16 (first_or_zero (numbers (block + 1) m)) ++ take 1022 body) ∷ writes_on (block + 1) m
    (drop 1022 body)
unfolding numbers chain_writes
chain_step block m body = refl

-- the bytes that a block takes are the first 1,022 of those that are left
few : (from to n left : ℕ) → from ≤ n → to ≡ min (from + 1022) n → left ≡ n - from → to - from ≡ min 1022 left
few from to n left within is rest = omega (arith, within, is, rest)

min_or : (a b m : ℕ) → m ≡ min a b → (m ≡ a) ⊎ ((m ≡ b) × (b ≤ a))
min_or a b m is = grind (arith, nat_tests)

part_is : (from to : ℕ) (body : List ℕ) → from ≤ length body → to ≡ min (from + 1022) (length body)
    → slice_range body from to ≡ take 1022 (drop from body)
part_is from to body within is =
    ap (λ n. take n (drop from body)) (few from to (length body) (length (drop from body)) within is (length-drop from body))
    ∙ take_min 1022 (drop from body)

rest_is : (from to : ℕ) (body : List ℕ) → from ≤ length body → to ≡ min (from + 1022) (length body)
    → drop 1022 (drop from body) ≡ drop to body
rest_is from to body within is = go (min_or (from + 1022) (length body) to is)
  where
    go : (to ≡ from + 1022) ⊎ ((to ≡ length body) × (length body ≤ from + 1022)) → drop 1022 (drop from body) ≡ drop to body
    go (inl whole) = drop_more from 1022 body ∙ ap (λ n. drop n body) (sym whole)
    go (inr short) = drop_more from 1022 body ∙ drop_of_length-le body short.1
        ∙ sym (drop_of_length-le body (omega (arith, short.0)))

-- the call that is made at a block
abbrev pub block_call : ℕ → ℕ → List ℕ → DiskCall
block_call block next part = Write (block * 1024) (to_be_bytes w16 next ++ part)

next_call : (block end from to : ℕ) (body : List ℕ) → block < end → from ≤ length body → to ≡ min (from + 1022) (length body)
    → writes_on block (end - block) (drop from body)
    ≡ block_call block (next_of block end) (slice_range body from to) ∷ writes_on (block + 1) (end - (block + 1)) (drop to body)
next_call block end from to body below within is =
    on_count block (end - block) (suc (end - block - 1)) (drop from body) (omega (arith, below))
    ∙ chain_step block (end - block - 1) (drop from body)
    ∙ ap (λ n. block_call block n (take 1022 (drop from body)) ∷ writes_on (block + 1) (end - block - 1) (drop 1022 (drop from body)))
    (sym (next_or_none block end (block + 1 == end) refl below))
    ∙ ap (λ p. block_call block (next_of block end) p ∷ writes_on (block + 1) (end - block - 1) (drop 1022 (drop from body)))
    (sym (part_is from to body within is))
    ∙ ap (λ b. block_call block (next_of block end) (slice_range body from to) ∷ writes_on (block + 1) (end - block - 1) b)
    (rest_is from to body within is)
    ∙ ap (λ ws. block_call block (next_of block end) (slice_range body from to) ∷ ws)
    (on_count (block + 1) (end - block - 1) (end - (block + 1)) (drop to body) (omega arith))

pub block_makes : (tells obeys : Bool) (block next should : ℕ) (part : List ℕ) (old new : DiskSeen) (end : End) → next ≡ should
    → DeviceCalls 1 old.counts new.counts end → (IsTrue obeys → Obeyed old.due new.due old.counts new.counts end)
    → (IsTrue tells → Timed old.counts.clock old.told new.counts.clock new.told)
    → (IsTrue tells → CallTold (block_call block next part) new.counts.clock old.told new.told end)
    → Makes tells obeys (block_call block should part ∷ []) old new end
block_makes tells obeys block next should part old new end same counts obeyed timed told =
    makes_call tells obeys (block_call block should part) old new end counts obeyed timed
    (λ so. subst (λ n. CallTold (block_call block n part) new.counts.clock old.told new.told end) same (told so))

pub chained_more : (tells obeys : Bool) (first : ℕ) (body : List ℕ) (block from to : ℕ) (start here next : DiskSeen)
    → Chaining tells obeys first body block from start here → block < first + blocks_of (length body)
    → to ≡ min (from + 1022) (length body)
    → Makes tells obeys (block_call block (next_of block (first + blocks_of (length body))) (slice_range body from to) ∷ []) here next Fine
    → Chaining tells obeys first body (block + 1) to start next
chained_more tells obeys first body block from to start here next s below is more = record {
  size = more.counts.size ∙ s.size;
  power = more.counts.power;
  within = omega (arith, is);
  begins = omega (arith, s.begins);
  done = s.done ++ block_call block (next_of block (first + blocks_of (length body))) (slice_range body from to) ∷ [];
  made = makes_join tells obeys s.done (block_call block (next_of block (first + blocks_of (length body))) (slice_range body from to) ∷ [])
      start here next Fine s.made more;
  all = s.all
      ∙ ap (λ ws. s.done ++ ws) (next_call block (first + blocks_of (length body)) from to body below s.within is)
      ∙ sym (append_assoc s.done (block_call block (next_of block (first + blocks_of (length body))) (slice_range body from to) ∷ [])
      (writes_on (block + 1) (first + blocks_of (length body) - (block + 1)) (drop to body)));
}

pub chain_refused : (T U : Type 0) (tells obeys : Bool) (first : ℕ) (body : List ℕ) (block from to : ℕ) (start here next : DiskSeen)
    (e : DiskRefusal) → Chaining tells obeys first body block from start here → block < first + blocks_of (length body)
    → to ≡ min (from + 1022) (length body)
    → Makes tells obeys (block_call block (next_of block (first + blocks_of (length body))) (slice_range body from to) ∷ []) here next
    (end_of {T = T} (Err e))
    → Makes tells obeys (writes_on first (blocks_of (length body)) body) start next (end_of {T = U} (Err e))
chain_refused T U tells obeys first body block from to start here next e s below is more =
    let call : List DiskCall = block_call block (next_of block (first + blocks_of (length body))) (slice_range body from to) ∷ [] in
    let rest : List DiskCall = writes_on (block + 1) (first + blocks_of (length body) - (block + 1)) (drop to body) in
    subst (λ calls. Makes tells obeys calls start next (end_of {T = U} (Err e)))
    (sym (s.all ∙ ap (λ ws. s.done ++ ws) (next_call block (first + blocks_of (length body)) from to body below s.within is)
    ∙ sym (append_assoc s.done call rest)))
    (makes_refused T U tells obeys (s.done ++ call) rest start next e
    (makes_join tells obeys s.done call start here next (end_of {T = T} (Err e)) s.made more))

chain_ends : (block m : ℕ) (body : List ℕ) → m ≡ 0 → writes_on block m body ≡ []
unfolding numbers chain_writes
chain_ends block zero body is = refl
chain_ends block (suc m) body is = absurd (omega (arith, is))

pub chained_whole : (tells obeys : Bool) (first : ℕ) (body : List ℕ) (block from : ℕ) (start here : DiskSeen)
    → Chaining tells obeys first body block from start here → first + blocks_of (length body) ≤ block
    → Makes tells obeys (writes_on first (blocks_of (length body)) body) start here Fine
chained_whole tells obeys first body block from start here s past =
    subst (λ calls. Makes tells obeys calls start here Fine)
    (sym (s.all ∙ ap (λ ws. s.done ++ ws) (chain_ends block (first + blocks_of (length body) - block) (drop from body) (omega
    (arith, past)))
    ∙ append-nil s.done))
    s.made
