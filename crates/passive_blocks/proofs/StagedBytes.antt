-- The bytes of all heads, head by head and block by block.
use Rattle.std.specs.Prelude.{◌≡◌, ℕ, suc, zero, ◌+◌, ◌-◌, ◌*◌, ◌<◌, ◌≤◌, List, [], ◌∷◌, ◌++◌, length, replicate, take, drop}
use Rattle.std.specs.Prelude.{slice_index_or}
use Rattle.std.proofs.Common.{refl, sym, ap, ◌∙◌, arith, length-append}
use Rattle.std.proofs.lemmas.List.{append_assoc, append-nil, take-append-drop, drop-replicate, length-replicate}
use Rattle.std.proofs.lemmas.Slice.{take-put_mid, drop-put_mid}
use borrow.Rule.Slice.PartMut.{put_mid}
use Rattle.passive_blocks.specs.declared.convert.Moved.{Moved}
use Rattle.block_tables.specs.Blocks.{Head}
use Rattle.block_tables.specs.Changes.{spelled_head}
use Rattle.passive_blocks.specs.Conversion.{head_or_blank, heads_spelled, part_of}
use Rattle.block_tables.specs.HeadSeen.{head_of}
use Rattle.passive_blocks.specs.Converting.{heads_planned}
use Rattle.passive_blocks.proofs.SameParts.{drop_more, drop_front, take_front}

-- the head that one of the values is to have
pub spelled_at : (ms : List Moved) (n : ℕ) (m : Moved) → n < length ms → m ≡ slice_index_or ms n m
    → 225 ∷ spelled_head (head_of m.head) ≡ head_or_blank (drop n (heads_planned ms))
spelled_at [] n m below is = absurd (omega (arith, below))
spelled_at (x ∷ xs) zero m below is = ap (λ (y : Moved). 225 ∷ spelled_head (head_of y.head)) is
spelled_at (x ∷ xs) (suc n) m below is = spelled_at xs n m (omega (arith, below)) is

pub head_long : (hs : List Head) → length (head_or_blank hs) ≡ 32
head_long [] = refl
head_long (h ∷ hs) = refl

pub spelled_none : (hs : List Head) → replicate 1024 0 ≡ heads_spelled 0 hs ++ replicate (1024 - 32 * 0) 0
unfolding heads_spelled
spelled_none hs = refl

pub spelled_long : (n : ℕ) (hs : List Head) → length (heads_spelled n hs) ≡ 32 * n
unfolding heads_spelled
spelled_long zero hs = refl
spelled_long (suc n) hs = omega (
  arith,
  length-append (head_or_blank hs) (heads_spelled n (drop 1 hs)),
  head_long hs,
  spelled_long n (drop 1 hs),
)

pub of_count : (a b : ℕ) (hs : List Head) → a ≡ b → heads_spelled a hs ≡ heads_spelled b hs
of_count a b hs same = ap (λ n. heads_spelled n hs) same

behind_one : (m : ℕ) (hs : List Head) → drop m (drop 1 hs) ≡ drop (suc m) hs
behind_one m [] = drop_more 1 m [] ∙ ap (λ (n : ℕ). drop n []) (at m)
  where
    at : (m : ℕ) → 1 + m ≡ suc m
    at m = omega arith
behind_one m (h ∷ hs) = refl

pub spelled_join : (m n : ℕ) (hs : List Head) → heads_spelled (m + n) hs ≡ heads_spelled m hs ++ heads_spelled n (drop m hs)
unfolding heads_spelled
spelled_join zero n hs = of_count (0 + n) n hs (omega arith)
spelled_join (suc m) n hs =
    of_count (suc m + n) (suc (m + n)) hs (omega arith)
    ∙ ap (λ rest. head_or_blank hs ++ rest) (spelled_join m n (drop 1 hs))
    ∙ sym (append_assoc (head_or_blank hs) (heads_spelled m (drop 1 hs)) (heads_spelled n (drop m (drop 1 hs))))
    ∙ ap (λ ds. (head_or_blank hs ++ heads_spelled m (drop 1 hs)) ++ heads_spelled n ds) (behind_one m hs)

pub spelled_one : (hs : List Head) → heads_spelled 1 hs ≡ head_or_blank hs
unfolding heads_spelled
spelled_one hs = append-nil (head_or_blank hs)

spelled_more : (k : ℕ) (hs : List Head) → heads_spelled (k + 1) hs ≡ heads_spelled k hs ++ head_or_blank (drop k hs)
spelled_more k hs = spelled_join k 1 hs ∙ ap (λ part. heads_spelled k hs ++ part) (spelled_one (drop k hs))

-- one more head is written into a block
pub written_more : (k : ℕ) (hs : List Head) (bytes part : List ℕ) → k < 32 → bytes ≡ heads_spelled k hs ++ replicate (1024 - 32 * k) 0
    → part ≡ head_or_blank (drop k hs)
    → put_mid (32 * k) (32 * k + 32 - 32 * k) bytes part ≡ heads_spelled (k + 1) hs ++ replicate (1024 - 32 * (k + 1)) 0
written_more k hs bytes part below is here =
    let at : ℕ = 32 * k in
    let count : ℕ = 32 * k + 32 - 32 * k in
    let blank : List ℕ = replicate (1024 - 32 * k) 0 in
    let long : length part ≡ 32 = ap (λ xs. length xs) here ∙ head_long (drop k hs) in
    let front : length (heads_spelled k hs) ≡ 32 * k = spelled_long k hs in
    let whole : length bytes ≡ 1024 = ap (λ xs. length xs) is ∙ omega
    (arith, below, front, length-append (heads_spelled k hs) blank, length-replicate {A = ℕ} (1024 - 32 * k) 0) in
    let taken : take at bytes ≡ heads_spelled k hs = ap (λ xs. take at xs) is
    ∙ take_front at (heads_spelled k hs) blank (omega (arith, front)) in
    let left : drop at bytes ≡ blank = ap (λ xs. drop at xs) is ∙ drop_front at (heads_spelled k hs) blank (omega (arith, front)) in
    let fewer : 1024 - 32 * k - 32 ≡ 1024 - 32 * (k + 1) = omega (arith, below) in
    let rest : drop (at + 32) bytes ≡ replicate (1024 - 32 * (k + 1)) 0 =
    sym (drop_more at 32 bytes) ∙ ap (λ xs. drop 32 xs) left ∙ drop-replicate 32 (1024 - 32 * k) 0 ∙ ap (λ n. replicate n 0) fewer in
    sym (take-append-drop (at + 32) (put_mid at count bytes part))
    ∙ ap (λ xs. xs ++ drop (at + 32) (put_mid at count bytes part))
    (take-put_mid at count bytes part (at + 32) (omega (arith, long)) (omega (arith, whole, below)) ∙ ap (λ xs. xs ++ part) taken
    ∙ ap (λ p. heads_spelled k hs ++ p) here ∙ sym (spelled_more k hs))
    ∙ ap (λ ys. heads_spelled (k + 1) hs ++ ys)
    (drop-put_mid at count bytes part (at + 32) (omega arith) (omega (arith, whole, below)) (omega (arith, long)) ∙ rest)

-- the heads of a block
pub part_spelled : (i : ℕ) (hs : List Head) → i < 128 → part_of (heads_spelled 4096 hs) i ≡ heads_spelled 32 (drop (32 * i) hs)
part_spelled i hs small =
    let ds : List Head = drop (32 * i) hs in
    let front : List ℕ = heads_spelled (32 * i) hs in
    let here : List ℕ = heads_spelled 32 ds in
    let rest : List ℕ = heads_spelled (4064 - 32 * i) (drop 32 ds) in
    let whole : heads_spelled 4096 hs ≡ front ++ (here ++ rest) =
    of_count 4096 (32 * i + (32 + (4064 - 32 * i))) hs (omega (arith, small)) ∙ spelled_join (32 * i) (32 + (4064 - 32 * i)) hs
    ∙ ap (λ xs. front ++ xs) (spelled_join 32 (4064 - 32 * i) ds) in
    ap (λ xs. part_of xs i) whole
    ∙ ap (λ xs. take (i * 1024 + 1024 - i * 1024) xs)
    (drop_front (i * 1024) front (here ++ rest) (omega (arith, spelled_long (32 * i) hs)))
    ∙ take_front (i * 1024 + 1024 - i * 1024) here rest (omega (arith, spelled_long 32 ds))

-- all heads of a block are written into it
pub block_whole : (block k : ℕ) (hs : List Head) (bytes : List ℕ) → block < 128 → 32 ≤ k → k ≤ 32
    → bytes ≡ heads_spelled k (drop (32 * block) hs) ++ replicate (1024 - 32 * k) 0 → bytes ≡ part_of (heads_spelled 4096 hs) block
block_whole block k hs bytes small from to is =
    let at : k ≡ 32 = omega (arith, from, to) in
    is
    ∙ ap (λ n. heads_spelled n (drop (32 * block) hs) ++ replicate (1024 - 32 * n) 0) at
    ∙ append-nil (heads_spelled 32 (drop (32 * block) hs))
    ∙ sym (part_spelled block hs small)
