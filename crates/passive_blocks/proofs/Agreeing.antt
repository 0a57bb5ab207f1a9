-- What an image keeps depends on its open heads and on the blocks of their chains alone.
use Rattle.std.specs.Prelude.{◌≡◌, ◌⊎◌, ℕ, suc, zero, ◌+◌, ◌*◌, Bool, true, false, not, ◌&&◌, ◌==◌, All, List, [], ◌∷◌, ◌++◌}
use Rattle.std.specs.Prelude.{Some, length, take, flat_map, slice_index, slice_range, Result, Ok, Err, if◌then◌else◌}
use Rattle.std.proofs.Common.{refl, sym, ap, subst, ◌∙◌, inl, inr}
use Rattle.std.specs.List.{list_any}
use Rattle.std.proofs.lemmas.List.Elements.{All-nil, All-cons, All-head, All-tail, All-weaker}
use Rattle.block_tables.specs.Blocks.{Head, Chain, head_bytes, head_in, is_head, joined_head, heads_among, heads_of}
use Rattle.block_tables.specs.Blocks.{head_numbers, chain_from, chain_of, chains_among, chains_of, taken_by, head_place}
use Rattle.block_tables.specs.Blocks.{on_block, has, without, next_block, blocks_of, blocks_map, kept_in_blocks, data_blocks}
use Rattle.block_tables.specs.Blocks.{keeping, changes_on, change_on, body_on}
use Rattle.passive_store.specs.Kept.{kept_by}
use Rattle.passive_store.specs.Log.{with_record}

-- two images have the same head under a number, or none
abbrev pub AgreeAt : List ℕ → List ℕ → ℕ → Type 0
AgreeAt xs ys number = (head_bytes xs number ≡ head_bytes ys number) ⊎ (((slice_index (head_bytes xs number) 0 == 225) ≡ false)
    × ((slice_index (head_bytes ys number) 0 == 225) ≡ false))

-- one step of the reading of heads
abbrev one_head : ℕ → ℕ → ℕ → List ℕ → List ℕ → (List ℕ → Result (List Head) ℕ) → Result (List Head) ℕ
one_head node size number before bytes rest =
    joined_head (slice_index bytes 0 == 225) (is_head node size bytes (head_in number bytes) && not
    (list_any (λ s. s == (head_in number bytes).sequence) before)) (head_in number bytes)
    (rest (if slice_index bytes 0 == 225 then (head_in number bytes).sequence ∷ before else before))

step_is : (node : ℕ) (xs before ns : List ℕ) (n : ℕ) → heads_among node xs before (n ∷ ns) ≡ one_head node (length xs) n before
    (head_bytes xs n) (λ b. heads_among node xs b ns)
unfolding heads_among
step_is node xs before ns n = refl

shut_step : (node size number : ℕ) (before bytes : List ℕ) (rest : List ℕ → Result (List Head) ℕ) → (slice_index bytes 0 == 225) ≡ false
    → one_head node size number before bytes rest ≡ rest before
shut_step node size number before bytes rest shut =
    let h : Head = head_in number bytes in
    ap (λ b. joined_head b (is_head node size bytes h && not (list_any (λ s. s == h.sequence) before)) h
    (rest (if b then h.sequence ∷ before else before))) shut

pub heads_agree : (node : ℕ) (xs ys before ns : List ℕ) → length xs ≡ length ys → All (AgreeAt xs ys) ns → heads_among node xs before ns
    ≡ heads_among node ys before ns
unfolding heads_among
heads_agree node xs ys before [] long all = refl
heads_agree node xs ys before (n ∷ ns) long all = elim (All-head (AgreeAt xs ys) n ns all) [
  | inl same ↦
      ap (λ size. one_head node size n before (head_bytes xs n) (λ b. heads_among node xs b ns)) long
      ∙ ap (λ bytes. one_head node (length ys) n before bytes (λ b. heads_among node xs b ns)) same
      ∙ ap (λ rest. joined_head (slice_index (head_bytes ys n) 0 == 225)
      (is_head node (length ys) (head_bytes ys n) (head_in n (head_bytes ys n)) && not
      (list_any (λ s. s == (head_in n (head_bytes ys n)).sequence) before)) (head_in n (head_bytes ys n)) rest)
      (heads_agree node xs ys (if slice_index (head_bytes ys n) 0 == 225 then (head_in n (head_bytes ys n)).sequence ∷ before else before)
      ns long (All-tail (AgreeAt xs ys) n ns all))
  | inr shut ↦
      shut_step node (length xs) n before (head_bytes xs n) (λ b. heads_among node xs b ns) shut.0
      ∙ heads_agree node xs ys before ns long (All-tail (AgreeAt xs ys) n ns all)
      ∙ sym (shut_step node (length ys) n before (head_bytes ys n) (λ b. heads_among node ys b ns) shut.1)
]

-- on the blocks that a chain was followed over the images name the same next block
abbrev pub SameNext : List ℕ → List ℕ → ℕ → Type 0
SameNext xs ys block = next_block xs block ≡ next_block ys block

followed : Head → List ℕ → List ℕ → ℕ → ℕ → Bool → Chain
followed h xs free block more true = on_block block (chain_from h xs (without (block ∷ []) free) (next_block xs block) more)
followed h xs free block more false = record { head = h; blocks = []; whole = false }

go_on : (h : Head) (xs ys free : List ℕ) (block more : ℕ) (b : Bool) → All (SameNext xs ys) (followed h xs free block more b).blocks →
    ((all : All (SameNext xs ys) (chain_from h xs (without (block ∷ []) free) (next_block xs block) more).blocks) →
    chain_from h xs (without (block ∷ []) free) (next_block xs block) more ≡ chain_from h ys (without (block ∷ []) free)
    (next_block xs block) more) →
    followed h xs free block more b ≡ followed h ys free block more b
unfolding followed
go_on h xs ys free block more false all behind = refl
go_on h xs ys free block more true all behind =
    let rest : List ℕ = (chain_from h xs (without (block ∷ []) free) (next_block xs block) more).blocks in
    ap (on_block block) (behind (All-tail (SameNext xs ys) block rest all) ∙ ap (λ n. chain_from h ys (without (block ∷ []) free) n more)
    (All-head (SameNext xs ys) block rest all))

chain_step : (h : Head) (xs free : List ℕ) (block more : ℕ) → chain_from h xs free block (suc more) ≡ followed h xs free block more
    (has block free)
unfolding chain_from followed
chain_step h xs free block more = split (has block free) refl where
  split : (b : Bool) → has block free ≡ b → chain_from h xs free block (suc more) ≡ followed h xs free block more (has block free)
  split true is = rw is refl
  split false is = rw is refl

pub chain_agrees : (h : Head) (xs ys free : List ℕ) (block count : ℕ) → All (SameNext xs ys) (chain_from h xs free block count).blocks
    → chain_from h xs free block count ≡ chain_from h ys free block count
unfolding chain_from
chain_agrees h xs ys free block zero all = refl
chain_agrees h xs ys free block (suc more) all =
    chain_step h xs free block more
    ∙ go_on h xs ys free block more (has block free) (subst (λ c. All (SameNext xs ys) c.blocks) (chain_step h xs free block more) all)
    (λ behind. chain_agrees h xs ys (without (block ∷ []) free) (next_block xs block) more behind)
    ∙ sym (chain_step h ys free block more)

all_front : {X : Type 0} (P : X → Type 0) (xs ys : List X) → All P (xs ++ ys) → All P xs
all_front P [] ys h = All-nil P
all_front P (x ∷ xs) ys h = All-cons P x xs (All-head P x (xs ++ ys) h) (all_front P xs ys (All-tail P x (xs ++ ys) h))

all_behind : {X : Type 0} (P : X → Type 0) (xs ys : List X) → All P (xs ++ ys) → All P ys
all_behind P [] ys h = h
all_behind P (x ∷ xs) ys h = all_behind P xs ys (All-tail P x (xs ++ ys) h)

-- the bytes of a value on a block
abbrev data_on : List ℕ → ℕ → List ℕ
data_on image block = slice_range image (block * 1024 + 2) (block * 1024 + 1024)

-- two images say the same on a block
abbrev pub SameBlock : List ℕ → List ℕ → ℕ → Type 0
SameBlock xs ys block = (next_block xs block ≡ next_block ys block) × (data_on xs block ≡ data_on ys block)

behind : List ℕ → List ℕ → List Head → Chain → Bool → List Chain
behind image free hs c true = chains_among image (without c.blocks free) hs
behind image free hs c false = []

chains_step : (image free : List ℕ) (h : Head) (hs : List Head) → chains_among image free (h ∷ hs) ≡ chain_of image free h ∷ behind image
    free hs (chain_of image free h) (chain_of image free h).whole
unfolding chains_among behind
chains_step image free h hs = split (chain_of image free h).whole refl where
  split : (b : Bool) → (chain_of image free h).whole ≡ b → chains_among image free (h ∷ hs) ≡ chain_of image free h ∷ behind image free hs
      (chain_of image free h) (chain_of image free h).whole
  split true is = rw is refl
  split false is = rw is refl

go_behind : (xs ys free : List ℕ) (hs : List Head) (c : Chain) (b : Bool) → All (SameNext xs ys) (taken_by (behind xs free hs c b)) →
    (All (SameNext xs ys) (taken_by (chains_among xs (without c.blocks free) hs)) → chains_among xs (without c.blocks free) hs
    ≡ chains_among ys (without c.blocks free) hs) →
    behind xs free hs c b ≡ behind ys free hs c b
unfolding behind
go_behind xs ys free hs c true all rest = rest all
go_behind xs ys free hs c false all rest = refl

pub chains_agree : (xs ys free : List ℕ) (hs : List Head) → All (SameNext xs ys) (taken_by (chains_among xs free hs)) → chains_among xs free
    hs ≡ chains_among ys free hs
unfolding chains_among
chains_agree xs ys free [] all = refl
chains_agree xs ys free (h ∷ hs) all =
    let c : Chain = chain_of xs free h in
    let both : All (SameNext xs ys) (c.blocks ++ taken_by (behind xs free hs c c.whole)) = subst (λ cs. All (SameNext xs ys) (taken_by cs))
    (chains_step xs free h hs) all in
    let same : c ≡ chain_of ys free h = chain_agrees h xs ys free h.first (blocks_of h.size)
    (all_front (SameNext xs ys) c.blocks (taken_by (behind xs free hs c c.whole)) both) in
    chains_step xs free h hs
    ∙ ap (λ cs. c ∷ cs) (go_behind xs ys free hs c c.whole (all_behind (SameNext xs ys) c.blocks (taken_by (behind xs free hs c c.whole))
    both) (λ rest. chains_agree xs ys (without c.blocks free) hs rest))
    ∙ ap (λ d. d ∷ behind ys free hs d d.whole) same
    ∙ sym (chains_step ys free h hs)

pub data_agrees : (xs ys blocks : List ℕ) → All (SameBlock xs ys) blocks → flat_map (data_on xs) blocks ≡ flat_map (data_on ys) blocks
data_agrees xs ys [] all = refl
data_agrees xs ys (b ∷ bs) all =
    ap (λ front. front ++ flat_map (data_on xs) bs) (All-head (SameBlock xs ys) b bs all).1 ∙ ap (λ rest. data_on ys b ++ rest)
    (data_agrees xs ys bs (All-tail (SameBlock xs ys) b bs all))

pub changes_agree : (xs ys : List ℕ) (cs : List Chain) → All (SameBlock xs ys) (taken_by cs) → changes_on xs cs ≡ changes_on ys cs
changes_agree xs ys [] all = refl
changes_agree xs ys (c ∷ cs) all =
    let body : body_on xs c ≡ body_on ys c = ap (take c.head.size) (data_agrees xs ys c.blocks
    (all_front (SameBlock xs ys) c.blocks (taken_by cs) all)) in
    ap (λ b. if c.whole then with_record (record { uid = c.head.uid; body = Some b; mark = c.head.sequence; wrote = [] }) (changes_on xs cs)
    else Err (head_place c.head.number)) body
    ∙ ap (λ rest. if c.whole then with_record (change_on ys c) rest else Err (head_place c.head.number))
    (changes_agree xs ys cs (all_behind (SameBlock xs ys) c.blocks (taken_by cs) all))

-- An image that has the open heads of another, and on the blocks of their chains its bytes, keeps what that keeps.
pub map_agrees : (node : ℕ) (xs ys : List ℕ) (heads : List Head) → length xs ≡ length ys → heads_of node xs ≡ Ok heads → All (AgreeAt xs ys)
    (head_numbers (length xs)) →
    All (SameBlock xs ys) (taken_by (chains_of xs heads)) → blocks_map node xs ≡ blocks_map node ys
map_agrees node xs ys heads long found agree same =
    let there : heads_of node ys ≡ Ok heads = ap (λ size. heads_among node ys [] (head_numbers size)) (sym long) ∙ sym
    (heads_agree node xs ys [] (head_numbers (length xs)) long agree) ∙ found in
    let chains : chains_of xs heads ≡ chains_of ys heads =
    chains_agree xs ys (data_blocks (length xs)) (keeping heads) (All-weaker (SameBlock xs ys) (SameNext xs ys) (λ b s. s.0)
    (taken_by (chains_of xs heads)) same)
    ∙ ap (λ size. chains_among ys (data_blocks size) (keeping heads)) long in
    ap (kept_in_blocks xs) found
    ∙ ap kept_by (changes_agree xs ys (chains_of xs heads) same ∙ ap (changes_on ys) chains)
    ∙ sym (ap (kept_in_blocks ys) there)
