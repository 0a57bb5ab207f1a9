-- An image on whose blocks of heads these heads are spelled has these heads.
use Rattle.std.specs.Prelude.{◌≡◌, ℕ, suc, zero, ◌+◌, ◌-◌, ◌*◌, ◌/◌, ◌≤◌, ◌<◌, ◌==◌, Bool, true, false, not, ◌&&◌, ◌||◌, List, [], ◌∷◌}
use Rattle.std.specs.Prelude.{◌++◌}
use Rattle.std.specs.Prelude.{length, take, drop, slice_index, slice_range, Result, Ok, if◌then◌else◌}
use Rattle.std.proofs.Common.{refl, sym, ap, ◌∙◌, arith}
use Rattle.std.proofs.lemmas.Bool.Decides.{nat_tests}
use Rattle.std.proofs.lemmas.List.{drop-take}
use Rattle.std.specs.List.{list_any}
use Rattle.block_tables.specs.Blocks.{Head, numbers, head_bytes, head_in, is_head, joined_head, with_head, heads_among, heads_of}
use Rattle.block_tables.specs.Changes.{spelled_head}
use Rattle.passive_blocks.specs.Conversion.{head_or_blank, heads_spelled}
use Rattle.passive_blocks.proofs.ConvertStages.{IsGoodHead, AreGoodHeads}
use Rattle.passive_blocks.proofs.SameParts.{drop_more, drop_front, take_front}
use Rattle.passive_blocks.proofs.StagedBytes.{spelled_long, spelled_join, spelled_one, of_count, head_long}
use Rattle.passive_blocks.proofs.Moving.{take_less}

-- one step of the reading of heads, by what its bytes say
read_one : ℕ → ℕ → ℕ → List ℕ → List ℕ → (List ℕ → Result (List Head) ℕ) → Result (List Head) ℕ
read_one node size n before bytes rest =
    let h : Head = head_in n bytes in
    joined_head (slice_index bytes 0 == 225) (is_head node size bytes h && not (list_any (λ s. s == h.sequence) before)) h
    (rest (if slice_index bytes 0 == 225 then h.sequence ∷ before else before))

read_step : (node : ℕ) (image before ns : List ℕ) (n : ℕ)
    → heads_among node image before (n ∷ ns) ≡ read_one node (length image) n before (head_bytes image n) (λ b. heads_among node image b ns)
unfolding heads_among read_one
read_step node image before ns n = refl

read_blank : (node size n : ℕ) (before bytes : List ℕ) (rest : List ℕ → Result (List Head) ℕ) → bytes ≡ head_or_blank []
    → read_one node size n before bytes rest ≡ rest before
unfolding read_one
read_blank node size n before bytes rest is = ap (λ b. read_one node size n before b rest) is

opened : ℕ → ℕ → List ℕ → List ℕ → (List ℕ → Result (List Head) ℕ) → Head → Result (List Head) ℕ
opened node size before bytes rest h =
    joined_head true (is_head node size bytes h && not (list_any (λ s. s == h.sequence) before)) h (rest (h.sequence ∷ before))

read_good : (node size n : ℕ) (before : List ℕ) (h : Head) (rest : List ℕ → Result (List Head) ℕ) → IsGoodHead node size n h
    → list_any (λ s. s == h.sequence) before ≡ false
    → read_one node size n before (225 ∷ spelled_head h) rest ≡ with_head h (rest (h.sequence ∷ before))
unfolding read_one opened
read_good node size n before h rest good fresh =
    ap (λ g. opened node size before (225 ∷ spelled_head h) rest g) good.reads
    ∙ ap (λ b. joined_head true (b && not (list_any (λ s. s == h.sequence) before)) h (rest (h.sequence ∷ before))) good.fits
    ∙ ap (λ b. joined_head true (true && not b) h (rest (h.sequence ∷ before))) fresh

-- no sequence past a number came before
abbrev NonePast : ℕ → List ℕ → Type 0
NonePast n before = (q : ℕ) → n < q → list_any (λ s. s == q) before ≡ false

not_same : (s q : ℕ) → s < q → (s == q) ≡ false
not_same s q less = grind (arith, nat_tests)

either_false : (a b : Bool) → a ≡ false → b ≡ false → (a || b) ≡ false
either_false a b x y = ap (λ c. c || b) x ∙ y

none_past_next : (n s : ℕ) (before : List ℕ) → s ≡ n + 1 → NonePast n before → NonePast (n + 1) (s ∷ before)
none_past_next n s before is none q past =
    either_false (s == q) (list_any (λ t. t == q) before) (not_same s q (omega (arith, is, past))) (none q (omega (arith, past)))

none_past_later : (n : ℕ) (before : List ℕ) → NonePast n before → NonePast (n + 1) before
none_past_later n before none q past = none q (omega (arith, past))

bytes_at : (image : List ℕ) (a b : ℕ) → a ≡ b → head_bytes image a ≡ head_bytes image b
bytes_at image a b same = ap (λ n. head_bytes image n) same

read_all : (node : ℕ) (image before : List ℕ) (n count : ℕ) (hs : List Head) → length hs ≤ count
    → ((k : ℕ) → k < count → head_bytes image (n + k) ≡ head_or_blank (drop k hs)) → AreGoodHeads node (length image) n hs
    → NonePast n before → heads_among node image before (numbers n count) ≡ Ok hs
unfolding numbers heads_among
read_all node image before n zero [] few bytes good none = refl
read_all node image before n zero (h ∷ hs) few bytes good none = absurd (omega (arith, few))
read_all node image before n (suc count) [] few bytes good none =
    read_step node image before (numbers (n + 1) count) n
    ∙ read_blank node (length image) n before (head_bytes image n) (λ b. heads_among node image b (numbers (n + 1) count))
    (bytes_at image n (n + 0) (omega arith) ∙ bytes 0 (omega arith))
    ∙ read_all node image before (n + 1) count [] (omega arith)
    (λ k below. bytes_at image (n + 1 + k) (n + suc k) (omega arith) ∙ bytes (suc k) (omega (arith, below)) ∙ blank_behind k)
    tt (none_past_later n before none)
  where
    blank_behind : (k : ℕ) → head_or_blank (drop (suc k) []) ≡ head_or_blank (drop k [])
    blank_behind zero = refl
    blank_behind (suc k) = refl
read_all node image before n (suc count) (h ∷ hs) few bytes good none =
    read_step node image before (numbers (n + 1) count) n
    ∙ ap (λ b. read_one node (length image) n before b (λ c. heads_among node image c (numbers (n + 1) count)))
    (bytes_at image n (n + 0) (omega arith) ∙ bytes 0 (omega arith))
    ∙ read_good node (length image) n before h (λ c. heads_among node image c (numbers (n + 1) count)) good.0
    (none h.sequence (omega (arith, good.0.sequence)))
    ∙ ap (λ r. with_head h r)
    (read_all node image (h.sequence ∷ before) (n + 1) count hs (omega (arith, few))
    (λ k below. bytes_at image (n + 1 + k) (n + suc k) (omega arith) ∙ bytes (suc k) (omega (arith, below)))
    good.1 (none_past_next n h.sequence before good.0.sequence none))

-- the bytes of one head among those of all
head_part : (image : List ℕ) (k : ℕ) → k < 4096 → head_bytes image k ≡ take 32 (drop (32 * k) (slice_range image 1024 132096))
head_part image k below =
    let n : ℕ = 32 * k in
    let m : ℕ = 131072 - 32 * k in
    let count : 131072 ≡ n + m = omega (arith, below) in
    let size : 1024 + 32 * k + 32 - (1024 + 32 * k) ≡ 32 = omega arith in
    let inner : drop n (take 131072 (drop 1024 image)) ≡ take m (drop (1024 + n) image) =
    ap (λ c. drop n (take c (drop 1024 image))) count ∙ drop-take n m (drop 1024 image) ∙ ap (λ xs. take m xs) (drop_more 1024 n image) in
    ap (λ c. take c (drop (1024 + n) image)) size
    ∙ sym (take_less 32 m (drop (1024 + n) image) (omega (arith, below)))
    ∙ sym (ap (λ xs. take 32 xs) inner)

spelled_part : (k : ℕ) (hs : List Head) → k < 4096 → take 32 (drop (32 * k) (heads_spelled 4096 hs)) ≡ head_or_blank (drop k hs)
spelled_part k hs below =
    let ds : List Head = drop k hs in
    let front : List ℕ = heads_spelled k hs in
    let rest : List ℕ = heads_spelled (4095 - k) (drop 1 ds) in
    let whole : heads_spelled 4096 hs ≡ front ++ (head_or_blank ds ++ rest) =
    of_count 4096 (k + (1 + (4095 - k))) hs (omega (arith, below)) ∙ spelled_join k (1 + (4095 - k)) hs
    ∙ ap (λ xs. front ++ xs) (spelled_join 1 (4095 - k) ds ∙ ap (λ xs. xs ++ rest) (spelled_one ds)) in
    ap (λ xs. take 32 (drop (32 * k) xs)) whole
    ∙ ap (λ xs. take 32 xs) (drop_front (32 * k) front (head_or_blank ds ++ rest) (sym (spelled_long k hs)))
    ∙ take_front 32 (head_or_blank ds) rest (sym (head_long ds))

none_before : NonePast 0 []
none_before q past = refl

counted : (size : ℕ) → size ≡ 4194304 → numbers 0 (size / 1024) ≡ numbers 0 4096
counted size long = ap (λ n. numbers 0 (n / 1024)) long

pub heads_stand : (node : ℕ) (image : List ℕ) (hs : List Head) → length image ≡ 4194304 → length hs ≤ 4096
    → AreGoodHeads node (length image) 0 hs → slice_range image 1024 132096 ≡ heads_spelled 4096 hs → heads_of node image ≡ Ok hs
heads_stand node image hs long few good spelled =
    ap (λ ns. heads_among node image [] ns) (counted (length image) long)
    ∙ read_all node image [] 0 4096 hs few
    (λ k below. bytes_at image (0 + k) k (omega arith) ∙ head_part image k below ∙ ap (λ xs. take 32 (drop (32 * k) xs)) spelled
    ∙ spelled_part k hs below)
    good none_before
