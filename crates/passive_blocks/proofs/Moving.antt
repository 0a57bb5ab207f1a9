-- The loops that stage heads and move them: what they have made so far.
use Rattle.std.specs.Prelude.{◌≡◌, ℕ, suc, zero, ◌+◌, ◌-◌, ◌*◌, ◌^◌, ◌≤◌, ◌<◌, Bool, IsTrue, List, [], ◌∷◌, ◌++◌, length, map}
use Rattle.std.specs.Prelude.{flat_map}
use Rattle.std.specs.Prelude.{take, drop, slice_range}
use Rattle.std.proofs.Common.{refl, sym, ap, subst, ◌∙◌, inr, arith}
use Rattle.std.proofs.lemmas.List.{append_assoc, drop-take, map-append, length-take-le, length-drop}
use Rattle.std.proofs.lemmas.Grind.{flat_map-append}
use Rattle.eden_disk.specs.Told.{contents, overlay, noted, Wrote}
use Rattle.eden_disk.specs.declared.disk.DiskRefusal.{DiskRefusal}
use Rattle.std.specs.Prelude.{Err}
use Rattle.eden_disk.specs.Calls.{End, Fine, DeviceCall, Obeys, IsSpent, WriteTold, end_of}
use Rattle.eden_disk.proofs.Overlay.{length-overlay, overlay_outside}
use Rattle.passive_store.specs.Acts.{DiskCall, Write, Sync, Read}
use Rattle.passive_store.specs.Seen.{DiskSeen}
use Rattle.block_tables.specs.Blocks.{Head, numbers}
use Rattle.passive_blocks.specs.Conversion.{heads_spelled, part_of, staged_calls, finishing_calls}
use Rattle.passive_blocks.specs.Making.{Makes}
use Rattle.passive_blocks.proofs.Making.{makes_none, makes_write, makes_join, makes_as, makes_refused}
use Rattle.passive_blocks.proofs.SameParts.{same_part, drop_more}

-- numbers from one on, and one more
pub numbers_at : (from a b : ℕ) → a ≡ b → numbers from a ≡ numbers from b
numbers_at from a b same = ap (λ n. numbers from n) same

numbers_from : (a b n : ℕ) → a ≡ b → numbers a n ≡ numbers b n
numbers_from a b n same = ap (λ from. numbers from n) same

from_at : (a b : ℕ) → a ≡ b → a ∷ [] ≡ b ∷ []
from_at a b same = ap (λ n. n ∷ []) same

pub numbers_more : (from n : ℕ) → numbers from (n + 1) ≡ numbers from n ++ (from + n) ∷ []
unfolding numbers
numbers_more from zero = from_at from (from + 0) (omega arith)
numbers_more from (suc n) =
    numbers_at from (suc n + 1) (suc (n + 1)) (omega arith)
    ∙ ap (λ ns. from ∷ ns) (numbers_more (from + 1) n)
    ∙ ap (λ m. from ∷ (numbers (from + 1) n ++ m)) (from_at (from + 1 + n) (from + suc n) (omega arith))

numbers_split : (from m n : ℕ) → numbers from (m + n) ≡ numbers from m ++ numbers (from + m) n
unfolding numbers
numbers_split from zero n = numbers_at from (0 + n) n (omega arith) ∙ numbers_from from (from + 0) n (omega arith)
numbers_split from (suc m) n =
    numbers_at from (suc m + n) (suc (m + n)) (omega arith)
    ∙ ap (λ ns. from ∷ ns) (numbers_split (from + 1) m n)
    ∙ ap (λ ns. from ∷ (numbers (from + 1) m ++ ns)) (numbers_from (from + 1 + m) (from + suc m) n (omega arith))

zeroth : (n : ℕ) → 0 + n ≡ n
zeroth n = omega arith

-- of 128 numbers those before one, that one, and those behind it
numbers_around : (block : ℕ) → block < 128 → numbers 0 128 ≡ (numbers 0 block ++ block ∷ []) ++ numbers (block + 1) (127 - block)
numbers_around block below =
    numbers_at 0 128 (block + 1 + (127 - block)) (omega (arith, below))
    ∙ numbers_split 0 (block + 1) (127 - block)
    ∙ ap (λ ns. ns ++ numbers (0 + (block + 1)) (127 - block)) (numbers_more 0 block ∙ ap (λ n. numbers 0 block ++ n ∷ []) (zeroth block))
    ∙ ap (λ ns. (numbers 0 block ++ block ∷ []) ++ ns) (numbers_from (0 + (block + 1)) (block + 1) (127 - block) (omega arith))

-- the write of a block of staged heads
abbrev pub stage_call : List Head → ℕ → DiskCall
stage_call heads i = Write ((3968 + i) * 1024) (part_of (heads_spelled 4096 heads) i)

-- so many blocks of staged heads are written
pub record Staging (tells obeys : Bool) (heads : List Head) (block : ℕ) (start here : DiskSeen) : Type 0 where
  pub size : here.counts.size ≡ 4194304
  pub power : IsTrue here.counts.power
  pub made : Makes tells obeys (map (stage_call heads) (numbers 0 block)) start here Fine

pub staging_begun : (tells obeys : Bool) (heads : List Head) (start : DiskSeen) → start.counts.size ≡ 4194304 → IsTrue start.counts.power
    → Staging tells obeys heads 0 start start
unfolding numbers
staging_begun tells obeys heads start size power = record { size = size; power = power; made = makes_none tells obeys start power }

pub staged_write : (tells obeys : Bool) (heads : List Head) (block : ℕ) (bytes : List ℕ) (old new : DiskSeen) (end : End)
    → bytes ≡ part_of (heads_spelled 4096 heads) block → DeviceCall old.counts new.counts end
    → (IsTrue obeys → Obeys old.due new.due old.counts new.counts end)
    → (IsTrue tells → 2 ^ 64 - 1 ≤ old.counts.clock → IsSpent old.counts new.counts old.told new.told end)
    → (IsTrue tells → WriteTold new.counts.clock ((3968 + block) * 1024) bytes old.told new.told end)
    → Makes tells obeys (stage_call heads block ∷ []) old new end
staged_write tells obeys heads block bytes old new end same counts due spent told =
    makes_write tells obeys ((3968 + block) * 1024) (part_of (heads_spelled 4096 heads) block) old new end counts due spent
    (λ so. subst (λ b. WriteTold new.counts.clock ((3968 + block) * 1024) b old.told new.told end) same (told so))

staged_more : (tells obeys : Bool) (heads : List Head) (block : ℕ) (start here next : DiskSeen) (end : End)
    → Staging tells obeys heads block start here → Makes tells obeys (stage_call heads block ∷ []) here next end
    → Makes tells obeys (map (stage_call heads) (numbers 0 (block + 1))) start next end
staged_more tells obeys heads block start here next end s more =
    subst (λ calls. Makes tells obeys calls start next end) (sym same)
    (makes_join tells obeys (map (stage_call heads) (numbers 0 block)) (stage_call heads block ∷ []) start here next end s.made more)
  where
    same : map (stage_call heads) (numbers 0 (block + 1)) ≡ map (stage_call heads) (numbers 0 block) ++ stage_call heads block ∷ []
    same = ap (λ ns. map (stage_call heads) ns) (numbers_more 0 block ∙ ap (λ n. numbers 0 block ++ n ∷ []) (zeroth block))
        ∙ map-append (stage_call heads) (numbers 0 block) (block ∷ [])

pub staging_on : (tells obeys : Bool) (heads : List Head) (block : ℕ) (start here next : DiskSeen)
    → Staging tells obeys heads block start here
    → Makes tells obeys (stage_call heads block ∷ []) here next Fine → Staging tells obeys heads (block + 1) start next
staging_on tells obeys heads block start here next s more = record {
  size = more.counts.size ∙ s.size;
  power = more.counts.power;
  made = staged_more tells obeys heads block start here next Fine s more;
}

-- the calls behind all these writes
abbrev pub staging_end : List DiskCall
staging_end = Sync ∷ Write 2 (234 ∷ []) ∷ Sync ∷ []

pub staged_whole : (tells obeys : Bool) (heads : List Head) (block : ℕ) (start here new : DiskSeen) (end : End) → 128 ≤ block → block ≤ 128
    → Staging tells obeys heads block start here → Makes tells obeys staging_end here new end
    → Makes tells obeys (staged_calls (heads_spelled 4096 heads)) start new end
staged_whole tells obeys heads block start here new end from to s more =
    subst (λ calls. Makes tells obeys (calls ++ staging_end) start new end)
    (ap (λ ns. map (stage_call heads) ns) (numbers_at 0 block 128 (omega (arith, from, to))))
    (makes_join tells obeys (map (stage_call heads) (numbers 0 block)) staging_end start here new end s.made more)

pub staging_refused : (T U : Type 0) (tells obeys : Bool) (heads : List Head) (block : ℕ) (start here next : DiskSeen) (e : DiskRefusal)
    → block < 128 → Staging tells obeys heads block start here
    → Makes tells obeys (stage_call heads block ∷ []) here next (end_of {T = T} (Err e))
    → Makes tells obeys (staged_calls (heads_spelled 4096 heads)) start next (end_of {T = U} (Err e))
staging_refused T U tells obeys heads block start here next e below s more =
    let f : ℕ → DiskCall = stage_call heads in
    let front : List ℕ = numbers 0 block ++ block ∷ [] in
    let rest : List ℕ = numbers (block + 1) (127 - block) in
    subst (λ calls. Makes tells obeys calls start next (end_of {T = U} (Err e)))
    (sym (ap (λ ns. map f ns ++ staging_end) (numbers_around block below) ∙ ap (λ calls. calls ++ staging_end) (map-append f front rest)
    ∙ append_assoc (map f front) (map f rest) staging_end))
    (makes_refused T U tells obeys (map f front) (map f rest ++ staging_end) start next e
    (subst (λ calls. Makes tells obeys calls start next (end_of {T = T} (Err e))) (sym (map-append f (numbers 0 block) (block ∷ [])))
    (makes_join tells obeys (map f (numbers 0 block)) (f block ∷ []) start here next (end_of {T = T} (Err e)) s.made more)))

-- the read of a staged block and its write
abbrev pub moving_calls : List ℕ → ℕ → List DiskCall
moving_calls bytes i = Read ∷ Write ((1 + i) * 1024) (part_of bytes i) ∷ []

abbrev pub moving_end : List DiskCall
moving_end = Sync ∷ Write 1 (235 ∷ []) ∷ Sync ∷ []

abbrev pub staged_in : DiskSeen → List ℕ
staged_in s = slice_range (contents s.told).now 4063232 4194304

-- so many blocks of staged heads are moved, and the staged ones stand where they stood
pub record MovingHeads (tells obeys : Bool) (block : ℕ) (start here : DiskSeen) : Type 0 where
  pub size : here.counts.size ≡ 4194304
  pub power : IsTrue here.counts.power
  pub long : IsTrue tells → length (contents here.told).now ≡ 4194304
  pub staged : IsTrue tells → staged_in here ≡ staged_in start
  pub made : Makes tells obeys (flat_map (moving_calls (staged_in start)) (numbers 0 block)) start here Fine

-- the first of the first some
pub take_less : (n m : ℕ) (xs : List ℕ) → n ≤ m → take n (take m xs) ≡ take n xs
take_less zero m xs less = refl
take_less (suc n) zero xs less = absurd (omega (arith, less))
take_less (suc n) (suc m) [] less = refl
take_less (suc n) (suc m) (x ∷ xs) less = ap (λ rest. x ∷ rest) (take_less n m xs (omega (arith, less)))

pub moving_begun : (tells obeys : Bool) (start : DiskSeen) → start.counts.size ≡ 4194304 → IsTrue start.counts.power
    → (IsTrue tells → length (contents start.told).now ≡ 4194304) → MovingHeads tells obeys 0 start start
unfolding numbers
moving_begun tells obeys start size power long = record {
  size = size;
  power = power;
  long = long;
  staged = λ so. refl;
  made = makes_none tells obeys start power;
}

-- a staged block on an image
pub staged_part : (now : List ℕ) (i : ℕ) → i < 128
    → slice_range now ((3968 + i) * 1024) ((3968 + i) * 1024 + 1024) ≡ part_of (slice_range now 4063232 4194304) i
staged_part now i below =
    let n : ℕ = i * 1024 in
    let m : ℕ = 131072 - i * 1024 in
    let count : 131072 ≡ n + m = omega (arith, below) in
    let at : (3968 + i) * 1024 ≡ 4063232 + n = omega arith in
    let size : (3968 + i) * 1024 + 1024 - (3968 + i) * 1024 ≡ 1024 = omega arith in
    let part : i * 1024 + 1024 - i * 1024 ≡ 1024 = omega arith in
    let inner : drop n (take 131072 (drop 4063232 now)) ≡ take m (drop (4063232 + n) now) =
    ap (λ k. drop n (take k (drop 4063232 now))) count ∙ drop-take n m (drop 4063232 now)
    ∙ ap (λ xs. take m xs) (drop_more 4063232 n now) in
    ap (λ k. take k (drop ((3968 + i) * 1024) now)) size
    ∙ ap (λ k. take 1024 (drop k now)) at
    ∙ sym (take_less 1024 m (drop (4063232 + n) now) (omega (arith, below)))
    ∙ sym (ap (λ xs. take 1024 xs) inner)
    ∙ sym (ap (λ k. take k (drop n (take 131072 (drop 4063232 now)))) part)

-- what is read of them
pub read_part : (tells obeys : Bool) (block : ℕ) (start here : DiskSeen) (bytes : List ℕ) → block < 128
    → MovingHeads tells obeys block start here
    → (IsTrue tells → bytes ≡ slice_range (contents here.told).now ((3968 + block) * 1024) ((3968 + block) * 1024 + 1024))
    → IsTrue tells → bytes ≡ part_of (staged_in start) block
read_part tells obeys block start here bytes below s read so =
    read so ∙ staged_part (contents here.told).now block below ∙ ap (λ xs. part_of xs block) (s.staged so)

pub read_long : (tells obeys : Bool) (block : ℕ) (start here : DiskSeen) (bytes : List ℕ) → block < 128
    → MovingHeads tells obeys block start here
    → (IsTrue tells → bytes ≡ slice_range (contents here.told).now ((3968 + block) * 1024) ((3968 + block) * 1024 + 1024))
    → IsTrue tells → length bytes ≡ 1024
read_long tells obeys block start here bytes below s read so =
    let at : ℕ = (3968 + block) * 1024 in
    let count : at + 1024 - at ≡ 1024 = omega arith in
    ap (λ xs. length xs) (read so)
    ∙ length-take-le (at + 1024 - at) (drop at (contents here.told).now)
    (omega (arith, below, s.long so, length-drop at (contents here.told).now))
    ∙ count

-- a write before the staged heads leaves them
pub staged_stay : (at : ℕ) (bytes now : List ℕ) → at + length bytes ≤ 4063232 → length now ≡ 4194304
    → slice_range (overlay at bytes now) 4063232 4194304 ≡ slice_range now 4063232 4194304
staged_stay at bytes now before long =
    same_part 4063232 131072 (overlay at bytes now) now (length-overlay at bytes now (omega (arith, before, long)))
    (λ k from below. overlay_outside at k bytes now (omega (arith, before, long)) (inr (omega (arith, before, from))))

pub moved_more : (tells obeys : Bool) (block : ℕ) (start here mid next : DiskSeen) (bytes : List ℕ) (end : End)
    → MovingHeads tells obeys block start here → Makes tells obeys (Read ∷ []) here mid Fine
    → (IsTrue tells → bytes ≡ part_of (staged_in start) block)
    → Makes tells obeys (Write ((1 + block) * 1024) bytes ∷ []) mid next end
    → Makes tells obeys (flat_map (moving_calls (staged_in start)) (numbers 0 block) ++ moving_calls (staged_in start) block) start next end
moved_more tells obeys block start here mid next bytes end s read same write =
    let w : ℕ = (1 + block) * 1024 in
    makes_join tells obeys (flat_map (moving_calls (staged_in start)) (numbers 0 block)) (moving_calls (staged_in start) block) start here
    next end s.made
    (makes_join tells obeys (Read ∷ []) (Write w (part_of (staged_in start) block) ∷ []) here mid next end read
    (makes_as tells obeys (Write w bytes ∷ []) (Write w (part_of (staged_in start) block) ∷ []) mid next end refl
    (λ so. ap (λ xs. Write w xs ∷ []) (same so)) write))

pub moved_join : (bytes : List ℕ) (block : ℕ)
    → flat_map (moving_calls bytes) (numbers 0 (block + 1)) ≡ flat_map (moving_calls bytes) (numbers 0 block) ++ moving_calls bytes block
moved_join bytes block =
    ap (λ ns. flat_map (moving_calls bytes) ns) (numbers_more 0 block ∙ ap (λ n. numbers 0 block ++ n ∷ []) (zeroth block))
    ∙ flat_map-append (moving_calls bytes) (numbers 0 block) (block ∷ [])

pub moved_on : (tells obeys : Bool) (block clock : ℕ) (start here mid next : DiskSeen) (bytes : List ℕ) → block < 128
    → (IsTrue tells → length bytes ≡ 1024) → MovingHeads tells obeys block start here → Makes tells obeys (Read ∷ []) here mid Fine
    → (IsTrue tells → mid.told ≡ here.told) → (IsTrue tells → bytes ≡ part_of (staged_in start) block)
    → Makes tells obeys (Write ((1 + block) * 1024) bytes ∷ []) mid next Fine
    → (IsTrue tells → next.told ≡ noted (Wrote clock ((1 + block) * 1024) bytes) mid.told)
    → MovingHeads tells obeys (block + 1) start next
moved_on tells obeys block clock start here mid next bytes below long s read unread same write wrote = record {
  size = write.counts.size ∙ read.counts.size ∙ s.size;
  power = write.counts.power;
  long = λ so. ap (λ t. length (contents t).now) (told so)
      ∙ length-overlay ((1 + block) * 1024) bytes (contents here.told).now (omega (arith, below, long so, s.long so)) ∙ s.long so;
  staged = λ so. ap (λ t. slice_range (contents t).now 4063232 4194304) (told so)
      ∙ staged_stay ((1 + block) * 1024) bytes (contents here.told).now (omega (arith, below, long so)) (s.long so) ∙ s.staged so;
  made = subst (λ calls. Makes tells obeys calls start next Fine) (sym (moved_join (staged_in start) block))
      (moved_more tells obeys block start here mid next bytes Fine s read same write);
}
  where
    told : IsTrue tells → next.told ≡ noted (Wrote clock ((1 + block) * 1024) bytes) here.told
    told so = wrote so ∙ ap (λ t. noted (Wrote clock ((1 + block) * 1024) bytes) t) (unread so)

pub moved_whole : (tells obeys : Bool) (block : ℕ) (start here new : DiskSeen) (end : End) → 128 ≤ block → block ≤ 128
    → MovingHeads tells obeys block start here → Makes tells obeys moving_end here new end
    → Makes tells obeys (finishing_calls (staged_in start)) start new end
moved_whole tells obeys block start here new end from to s more =
    subst (λ calls. Makes tells obeys (calls ++ moving_end) start new end)
    (ap (λ ns. flat_map (moving_calls (staged_in start)) ns) (numbers_at 0 block 128 (omega (arith, from, to))))
    (makes_join tells obeys (flat_map (moving_calls (staged_in start)) (numbers 0 block)) moving_end start here new end s.made more)

-- all calls, from those of one block on
all_moving : (bytes : List ℕ) (block : ℕ) → block < 128
    → finishing_calls bytes
    ≡ (flat_map (moving_calls bytes) (numbers 0 block) ++ moving_calls bytes block)
    ++ (flat_map (moving_calls bytes) (numbers (block + 1) (127 - block)) ++ moving_end)
all_moving bytes block below =
    let f : ℕ → List DiskCall = moving_calls bytes in
    let front : List ℕ = numbers 0 block ++ block ∷ [] in
    let rest : List ℕ = numbers (block + 1) (127 - block) in
    ap (λ ns. flat_map f ns ++ moving_end) (numbers_around block below)
    ∙ ap (λ calls. calls ++ moving_end) (flat_map-append f front rest)
    ∙ append_assoc (flat_map f front) (flat_map f rest) moving_end
    ∙ ap (λ calls. calls ++ (flat_map f rest ++ moving_end)) (flat_map-append f (numbers 0 block) (block ∷ []))

pub write_refused : (T U : Type 0) (tells obeys : Bool) (block : ℕ) (start here mid next : DiskSeen) (bytes : List ℕ) (e : DiskRefusal)
    → block < 128 → MovingHeads tells obeys block start here → Makes tells obeys (Read ∷ []) here mid Fine
    → (IsTrue tells → bytes ≡ part_of (staged_in start) block)
    → Makes tells obeys (Write ((1 + block) * 1024) bytes ∷ []) mid next (end_of {T = T} (Err e))
    → Makes tells obeys (finishing_calls (staged_in start)) start next (end_of {T = U} (Err e))
write_refused T U tells obeys block start here mid next bytes e below s read same write =
    subst (λ calls. Makes tells obeys calls start next (end_of {T = U} (Err e))) (sym (all_moving (staged_in start) block below))
    (makes_refused T U tells obeys (flat_map (moving_calls (staged_in start)) (numbers 0 block) ++ moving_calls (staged_in start) block)
    (flat_map (moving_calls (staged_in start)) (numbers (block + 1) (127 - block)) ++ moving_end) start next e
    (moved_more tells obeys block start here mid next bytes (end_of {T = T} (Err e)) s read same write))

pub read_refused : (T U : Type 0) (tells obeys : Bool) (block : ℕ) (start here next : DiskSeen) (e : DiskRefusal) → block < 128
    → MovingHeads tells obeys block start here → Makes tells obeys (Read ∷ []) here next (end_of {T = T} (Err e))
    → Makes tells obeys (finishing_calls (staged_in start)) start next (end_of {T = U} (Err e))
read_refused T U tells obeys block start here next e below s read =
    let before : List DiskCall = flat_map (moving_calls (staged_in start)) (numbers 0 block) in
    let write : List DiskCall = Write ((1 + block) * 1024) (part_of (staged_in start) block) ∷ [] in
    let rest : List DiskCall = flat_map (moving_calls (staged_in start)) (numbers (block + 1) (127 - block)) ++ moving_end in
    subst (λ calls. Makes tells obeys calls start next (end_of {T = U} (Err e)))
    (sym (all_moving (staged_in start) block below
    ∙ ap (λ calls. calls ++ rest) (sym (append_assoc before (Read ∷ []) write)) ∙ append_assoc (before ++ Read ∷ []) write rest))
    (makes_refused T U tells obeys (before ++ Read ∷ []) (write ++ rest) start next e
    (makes_join tells obeys before (Read ∷ []) start here next (end_of {T = T} (Err e)) s.made read))
