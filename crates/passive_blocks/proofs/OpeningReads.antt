-- All heads of a disk, as an opening reads them one by one.
use Rattle.std.proofs.Common.{◌≡◌, ◌⊎◌, ℕ, suc, zero, ◌+◌, ◌-◌, ◌/◌, ◌≤◌, ◌<◌, Bool, true, false, ◌||◌, ◌&&◌, not, ◌==◌, List, []}
use Rattle.std.proofs.Common.{◌∷◌, ◌++◌}
use Rattle.std.proofs.Common.{length, map, set, drop, IsTrue, refl, sym, ap, subst, ◌∙◌, arith, inl, inr, None, Some, append_assoc}
use Rattle.std.specs.Prelude.{slice_index, filter, if◌then◌else◌, Result, Ok, Err}
use Rattle.std.proofs.lemmas.Bool.{eq-eqb, and_right}
use Rattle.std.proofs.lemmas.List.{get_or-drop, append-nil}
use Rattle.eden_disk.specs.Told.{Told, contents}
use Rattle.eden_disk.specs.Timed.{Timed}
use Rattle.eden_disk.specs.Calls.{Counts, Due, DeviceCalls, Obeyed, Fine}
use Rattle.eden_disk.proofs.Held.{calls_more, obeyed_more}
use Rattle.eden_disk.proofs.Timed.{timed_join}
use Rattle.passive_store.specs.declared.store.StoreRefusal.{StoreRefusal}
use Rattle.passive_store.specs.declared.store.StoreRefusal.TheVariants.{Failed, Stopped, Full, Damaged, OutOfMemory}
use Rattle.passive_store.specs.Kept.{IsDiskRefusal, OpeningMade, end_of_store}
use Rattle.passive_store.proofs.Joining.{timed_still}
use Rattle.block_tables.specs.declared.heads.HeadFields.{HeadFields}
use Rattle.block_tables.specs.declared.table.Table.{Table}
use Rattle.block_tables.specs.declared.block_table.BlockTable.{BlockTable}
use Rattle.block_tables.specs.Blocks.{Head, numbers, has, head_place, head_bytes, head_in, is_head, with_head, joined_head, heads_among}
use Rattle.block_tables.specs.Blocks.{heads_of}
use Rattle.block_tables.specs.HeadSeen.{head_of, IsHeadThere, IsHeadDamaged}
use Rattle.block_tables.specs.HeadState.{slot_at, closed_slot, is_open, heads_in}
use Rattle.block_tables.specs.HeadState.{IsRead}
use Rattle.block_tables.specs.BlockState.{AreAllFree}
use Rattle.passive_blocks.specs.OpeningState.{AreReadTo, heads_read}
use Rattle.passive_blocks.proofs.HeldSums.{heads_with_open, heads_at_shut, front_of, back_of}

-- the heads that were read, before those that are found behind them
abbrev pub with_heads : List Head → Result (List Head) ℕ → Result (List Head) ℕ
with_heads hs (Ok rest) = Ok (hs ++ rest)
with_heads hs (Err place) = Err place

pub numbers_step : (n total : ℕ) → n < total → numbers n (total - n) ≡ n ∷ numbers (n + 1) (total - (n + 1))
unfolding numbers
numbers_step n total below = let m : total - n ≡ suc (total - (n + 1)) = omega (arith, below) in ap (numbers n) m

pub step_shut : (node n : ℕ) (image known rest : List ℕ) → (slice_index (head_bytes image n) 0 == 225) ≡ false
    → heads_among node image known (n ∷ rest) ≡ heads_among node image known rest
unfolding heads_among
step_shut node n image known rest shut =
    let h : Head = head_in n (head_bytes image n) in
    ap (λ b. joined_head b (is_head node (length image) (head_bytes image n) h && not (has h.sequence known)) h
    (heads_among node image (if b then h.sequence ∷ known else known) rest)) shut

step_fits : (node n : ℕ) (image known rest : List ℕ) (b : Bool) → slice_index (head_bytes image n) 0 ≡ 225
    → (is_head node (length image) (head_bytes image n) (head_in n (head_bytes image n))
    && not (has (head_in n (head_bytes image n)).sequence known)) ≡ b
    → heads_among node image known (n ∷ rest)
    ≡ joined_head true b (head_in n (head_bytes image n)) (heads_among node image ((head_in n (head_bytes image n)).sequence ∷ known) rest)
unfolding heads_among
step_fits node n image known rest b gate fits =
    let h : Head = head_in n (head_bytes image n) in
    let opened : (slice_index (head_bytes image n) 0 == 225) ≡ true = eq-eqb (slice_index (head_bytes image n) 0) 225 gate in
    ap (λ c. joined_head c (is_head node (length image) (head_bytes image n) h && not (has h.sequence known)) h
    (heads_among node image (if c then h.sequence ∷ known else known) rest)) opened
    ∙ ap (λ c. joined_head true c h (heads_among node image (h.sequence ∷ known) rest)) fits

step_open : (node n : ℕ) (image known rest : List ℕ) (h : HeadFields) → IsHeadThere node image n (Some h) → has h.sequence known ≡ false
    → heads_among node image known (n ∷ rest) ≡ with_head (head_of h) (heads_among node image (h.sequence ∷ known) rest)
step_open node n image known rest h there fresh =
    let k : Head = head_in n (head_bytes image n) in
    let same : has k.sequence known ≡ false = ap (λ (g : Head). has g.sequence known) (sym there.2) ∙ fresh in
    step_fits node n image known rest true there.0
    (ap (λ b. b && not (has k.sequence known)) there.1 ∙ ap not same)
    ∙ ap (λ (g : Head). with_head g (heads_among node image (g.sequence ∷ known) rest)) (sym there.2)

step_damaged : (node n : ℕ) (image known rest : List ℕ) → IsHeadDamaged node image n
    → heads_among node image known (n ∷ rest) ≡ Err (head_place n)
step_damaged node n image known rest bad =
    step_fits node n image known rest false bad.0
    (ap (λ b. b && not (has (head_in n (head_bytes image n)).sequence known)) bad.1)

step_twice : (node n : ℕ) (image known rest : List ℕ) (h : HeadFields) → IsHeadThere node image n (Some h) → has h.sequence known ≡ true
    → heads_among node image known (n ∷ rest) ≡ Err (head_place n)
step_twice node n image known rest h there before =
    let k : Head = head_in n (head_bytes image n) in
    let same : has k.sequence known ≡ true = ap (λ (g : Head). has g.sequence known) (sym there.2) ∙ before in
    step_fits node n image known rest false there.0
    (and_right (is_head node (length image) (head_bytes image n) k) (not (has k.sequence known)) (ap not same))

-- the sequences that came before matter as a set
more_same : (a b : List ℕ) (gate : Bool) (q : ℕ) → ((s : ℕ) → has s a ≡ has s b)
    → (s : ℕ) → has s (if gate then q ∷ a else a) ≡ has s (if gate then q ∷ b else b)
more_same a b true q same s = ap (λ c. (q == s) || c) (same s)
more_same a b false q same s = same s

same_before : (node : ℕ) (image a b ns : List ℕ) → ((s : ℕ) → has s a ≡ has s b) → heads_among node image a ns ≡ heads_among node image b ns
unfolding heads_among
same_before node image a b [] same = refl
same_before node image a b (n ∷ ns) same =
    let h : Head = head_in n (head_bytes image n) in
    let gate : Bool = slice_index (head_bytes image n) 0 == 225 in
    let good : Bool = is_head node (length image) (head_bytes image n) h in
    ap (λ c. joined_head gate (good && not c) h (heads_among node image (if gate then h.sequence ∷ a else a) ns)) (same h.sequence)
    ∙ ap (λ r. joined_head gate (good && not (has h.sequence b)) h r)
    (same_before node image (if gate then h.sequence ∷ a else a) (if gate then h.sequence ∷ b else b) ns
    (more_same a b gate h.sequence same))

with_more : (hs : List Head) (h : Head) (r : Result (List Head) ℕ) → with_heads hs (with_head h r) ≡ with_heads (hs ++ h ∷ []) r
with_more hs h (Ok rest) = ap Ok (sym (append_assoc hs (h ∷ []) rest))
with_more hs h (Err place) = refl

pub none_open : (slots : List HeadFields) → ((k : ℕ) → is_open (slot_at slots k) ≡ false) → heads_in slots ≡ []
none_open [] shut = refl
none_open (s ∷ slots) shut =
    ap (λ b. map head_of (if b then s ∷ filter is_open slots else filter is_open slots)) (shut zero) ∙ none_open slots (λ k. shut (suc k))

-- one more open head, behind all others
pub heads_more : (slots : List HeadFields) (n : ℕ) (x : HeadFields) → n < length slots → is_open x ≡ true
    → ((k : ℕ) → n ≤ k → is_open (slot_at slots k) ≡ false) → heads_in (set slots n x) ≡ heads_in slots ++ head_of x ∷ []
heads_more slots n x within opened ahead =
    let behind : back_of slots n ≡ [] = none_open (drop (suc n) slots) (λ k.
    ap is_open (get_or-drop (suc n) slots k closed_slot) ∙ ahead (suc n + k) (omega arith)) in
    heads_with_open slots n x within opened
    ∙ ap (λ b. front_of slots n ++ head_of x ∷ b) behind
    ∙ sym (ap (λ hs. hs ++ head_of x ∷ []) (heads_at_shut slots n within (ahead n (omega arith))
    ∙ ap (λ b. front_of slots n ++ b) behind ∙ append-nil (front_of slots n)))

-- So many heads were read, with so many device calls, none of which was refused.
pub record ReadingHeads (tells obeys : Bool) (node size n : ℕ) (start here : Told) (before after : Counts) (due_then due_now : Due)
    (t : Table) (known : List ℕ) : Type 0 where
  pub counts : DeviceCalls n before after Fine
  pub obeyed : IsTrue obeys → Obeyed due_then due_now before after Fine
  pub read : AreReadTo t known n
  pub free : AreAllFree t.blocks
  pub sized : t.blocks.size ≡ size
  pub same : IsTrue tells → here ≡ start
  pub found : IsTrue tells → heads_of node (contents start).now
      ≡ with_heads (heads_in t.heads.slots.items) (heads_among node (contents start).now known (numbers n (size / 1024 - n)))

-- what is found once the gate of the next head is closed
pub found_shut : (node size n : ℕ) (image known : List ℕ) (hs : List Head) → n < size / 1024 → IsHeadThere node image n None
    → heads_of node image ≡ with_heads hs (heads_among node image known (numbers n (size / 1024 - n)))
    → heads_of node image ≡ with_heads hs (heads_among node image known (numbers (n + 1) (size / 1024 - (n + 1))))
found_shut node size n image known hs below shut found =
    found
    ∙ ap (λ ns. with_heads hs (heads_among node image known ns)) (numbers_step n (size / 1024) below)
    ∙ ap (with_heads hs) (step_shut node n image known (numbers (n + 1) (size / 1024 - (n + 1))) shut)

-- or it is open
pub found_open : (node size n : ℕ) (image known more : List ℕ) (slots new : List HeadFields) (h : HeadFields) → n < size / 1024
    → h.number ≡ n → n < length slots → is_open h ≡ true → ((k : ℕ) → n ≤ k → is_open (slot_at slots k) ≡ false)
    → new ≡ set slots h.number h → IsHeadThere node image n (Some h) → has h.sequence known ≡ false
    → ((s : ℕ) → has s more ≡ ((h.sequence == s) || has s known))
    → heads_of node image ≡ with_heads (heads_in slots) (heads_among node image known (numbers n (size / 1024 - n)))
    → heads_of node image ≡ with_heads (heads_in new) (heads_among node image more (numbers (n + 1) (size / 1024 - (n + 1))))
found_open node size n image known more slots new h below own within opened ahead is there fresh joins found =
    let rest : List ℕ = numbers (n + 1) (size / 1024 - (n + 1)) in
    let heads : heads_in new ≡ heads_in slots ++ head_of h ∷ [] =
    ap heads_in (is ∙ ap (λ k. set slots k h) own) ∙ heads_more slots n h within opened ahead in
    found
    ∙ ap (λ ns. with_heads (heads_in slots) (heads_among node image known ns)) (numbers_step n (size / 1024) below)
    ∙ ap (with_heads (heads_in slots)) (step_open node n image known rest h there fresh)
    ∙ with_more (heads_in slots) (head_of h) (heads_among node image (h.sequence ∷ known) rest)
    ∙ ap (λ r. with_heads (heads_in slots ++ head_of h ∷ []) r) (same_before node image (h.sequence ∷ known) more rest (λ s. sym (joins s)))
    ∙ sym (ap (λ hs. with_heads hs (heads_among node image more rest)) heads)

-- or damaged
pub found_damaged : (node size n : ℕ) (image known : List ℕ) (hs : List Head) → n < size / 1024 → IsHeadDamaged node image n
    → heads_of node image ≡ with_heads hs (heads_among node image known (numbers n (size / 1024 - n)))
    → heads_of node image ≡ Err (head_place n)
found_damaged node size n image known hs below bad found =
    found
    ∙ ap (λ ns. with_heads hs (heads_among node image known ns)) (numbers_step n (size / 1024) below)
    ∙ ap (with_heads hs) (step_damaged node n image known (numbers (n + 1) (size / 1024 - (n + 1))) bad)

-- or of a sequence that came before
pub found_twice : (node size n : ℕ) (image known : List ℕ) (hs : List Head) (h : HeadFields) → n < size / 1024
    → IsHeadThere node image n (Some h) → has h.sequence known ≡ true
    → heads_of node image ≡ with_heads hs (heads_among node image known (numbers n (size / 1024 - n)))
    → heads_of node image ≡ Err (head_place n)
found_twice node size n image known hs h below there before found =
    found
    ∙ ap (λ ns. with_heads hs (heads_among node image known ns)) (numbers_step n (size / 1024) below)
    ∙ ap (with_heads hs) (step_twice node n image known (numbers (n + 1) (size / 1024 - (n + 1))) h there before)

-- behind the last head
pub found_all : (node size n : ℕ) (image known : List ℕ) (hs : List Head) → size / 1024 ≤ n
    → heads_of node image ≡ with_heads hs (heads_among node image known (numbers n (size / 1024 - n)))
    → heads_of node image ≡ Ok hs
unfolding heads_among numbers
found_all node size n image known hs all found =
    let none : size / 1024 - n ≡ 0 = omega (arith, all) in
    found ∙ ap (λ m. with_heads hs (heads_among node image known (numbers n m))) none ∙ ap Ok (append-nil hs)

-- how many device calls a refusal was the last of
pub made_by : (S : Type 0) (calls made : ℕ) (e : StoreRefusal) → 1 ≤ made → (e ≡ Full → ⊥)
    → ((place : ℕ) → e ≡ Damaged place → made ≡ calls) → OpeningMade {S = S} calls (Err e) made
made_by S calls made Failed some full damaged = some
made_by S calls made Stopped some full damaged = some
made_by S calls made Full some full damaged = absurd (full refl)
made_by S calls made (Damaged place) some full damaged = damaged place refl
made_by S calls made OutOfMemory some full damaged = tt

pub heads_made : (node count n place : ℕ) (image : List ℕ) → heads_of node image ≡ Err place → place ≡ head_place n
    → n + 1 ≡ heads_read count (heads_of node image)
heads_made node count n place image found at =
    let whole : n + 1 ≡ (place - 1024) / 32 + 1 = omega (arith, at) in
    whole ∙ sym (ap (heads_read count) found)

pub place_is : (e : StoreRefusal) (at place : ℕ) → IsDiskRefusal e ⊎ (e ≡ Damaged at) → e ≡ Damaged place → (e ≡ Damaged at) × (place ≡ at)
place_is e at place (inl (inl f)) is = absurd (let bad : Failed ≡ Damaged place = sym f ∙ is in cc)
place_is e at place (inl (inr s)) is = absurd (let bad : Stopped ≡ Damaged place = sym s ∙ is in cc)
place_is e at place (inr d) is = (d, let same : Damaged place ≡ Damaged at = sym is ∙ d in cc)

pub not_full : (e : StoreRefusal) (at : ℕ) → IsDiskRefusal e ⊎ (e ≡ Damaged at) → e ≡ Full → ⊥
not_full e at (inl (inl f)) is = let bad : Failed ≡ Full = sym f ∙ is in cc
not_full e at (inl (inr s)) is = let bad : Stopped ≡ Full = sym s ∙ is in cc
not_full e at (inr d) is = let bad : Damaged at ≡ Full = sym d ∙ is in cc

-- the same of a head that was read, and could not be taken up
pub place_taken : (e : StoreRefusal) (at place : ℕ) (P : Type 0) → (e ≡ OutOfMemory) ⊎ ((e ≡ Damaged at) × P) → e ≡ Damaged place → P ×
    (place ≡ at)
place_taken e at place P (inl m) is = absurd (let bad : OutOfMemory ≡ Damaged place = sym m ∙ is in cc)
place_taken e at place P (inr d) is = (d.1, let same : Damaged place ≡ Damaged at = sym is ∙ d.0 in cc)

pub not_full_taken : (e : StoreRefusal) (at : ℕ) (P : Type 0) → (e ≡ OutOfMemory) ⊎ ((e ≡ Damaged at) × P) → e ≡ Full → ⊥
not_full_taken e at P (inl m) is = let bad : OutOfMemory ≡ Full = sym m ∙ is in cc
not_full_taken e at P (inr d) is = let bad : Damaged at ≡ Full = sym d.0 ∙ is in cc

-- one more read, however it ended
pub timed_behind : (n : ℕ) (start here next : Told) (before between : Counts) (after : ℕ) → DeviceCalls n before between Fine → here ≡ start
    → Timed between.clock here after next → Timed before.clock start after next
timed_behind n start here next before between after counts same timed =
    timed_join before.clock between.clock after start here next
    (timed_still before.clock between.clock start here (omega (arith, counts.clock)) same) timed

with_none : (r : Result (List Head) ℕ) → with_heads [] r ≡ r
with_none (Ok rest) = refl
with_none (Err place) = refl

-- before the first
pub found_first : (node size : ℕ) (image known : List ℕ) (slots : List HeadFields) → length image ≡ size → known ≡ []
    → ((k : ℕ) → is_open (slot_at slots k) ≡ false)
    → heads_of node image ≡ with_heads (heads_in slots) (heads_among node image known (numbers 0 (size / 1024 - 0)))
found_first node size image known slots long empty shut =
    let count : length image / 1024 ≡ size / 1024 - 0 = omega (arith, long) in
    ap (λ m. heads_among node image [] (numbers 0 m)) count
    ∙ sym (ap (λ k. heads_among node image k (numbers 0 (size / 1024 - 0))) empty)
    ∙ sym (with_none (heads_among node image known (numbers 0 (size / 1024 - 0))))
    ∙ sym (ap (λ hs. with_heads hs (heads_among node image known (numbers 0 (size / 1024 - 0)))) (none_open slots shut))

-- a read that found damage
pub damaged_found : (tells obeys : Bool) (node size n : ℕ) (start here : Told) (before after : Counts) (due_then due_now : Due)
    (t : Table) (known : List ℕ) (e : StoreRefusal) (place : ℕ) → IsTrue tells
    → ReadingHeads tells obeys node size n start here before after due_then due_now t known → n < size / 1024
    → IsDiskRefusal e ⊎ (e ≡ Damaged (head_place n)) → (e ≡ Damaged (head_place n) → IsHeadDamaged node (contents here).now n)
    → e ≡ Damaged place → (heads_of node (contents start).now ≡ Err place) × (place ≡ head_place n)
damaged_found tells obeys node size n start here before after due_then due_now t known e place so r below only bad is =
    let at = place_is e (head_place n) place only is in (
      found_damaged node size n (contents start).now known (heads_in t.heads.slots.items) below
          (subst (λ x. IsHeadDamaged node (contents x).now n) (r.same so) (bad at.0)) (r.found so)
          ∙ ap (λ p. Err p) (sym at.1),
      at.1,
    )

-- a head whose sequence came before
pub twice_found : (tells obeys : Bool) (node size n : ℕ) (start here : Told) (before after : Counts) (due_then due_now : Due)
    (t : Table) (known : List ℕ) (e : StoreRefusal) (place : ℕ) (h : HeadFields) → IsTrue tells
    → ReadingHeads tells obeys node size n start here before after due_then due_now t known → n < size / 1024 → h.number ≡ n
    → IsHeadThere node (contents here).now n (Some h)
    → (e ≡ OutOfMemory) ⊎ ((e ≡ Damaged (head_place h.number)) × (has h.sequence known ≡ true))
    → e ≡ Damaged place → (heads_of node (contents start).now ≡ Err place) × (place ≡ head_place n)
twice_found tells obeys node size n start here before after due_then due_now t known e place h so r below own there only is =
    let at = place_taken e (head_place h.number) place (has h.sequence known ≡ true) only is in
    let here_is : place ≡ head_place n = at.1 ∙ ap head_place own in (
      found_twice node size n (contents start).now known (heads_in t.heads.slots.items) h below
          (subst (λ x. IsHeadThere node (contents x).now n (Some h)) (r.same so) there) at.0 (r.found so)
          ∙ ap (λ p. Err p) (sym here_is),
      here_is,
    )

-- want of memory and damage come behind device calls that were made
pub ended_fine : (T P : Type 0) (e : StoreRefusal) (at : ℕ) → (e ≡ OutOfMemory) ⊎ ((e ≡ Damaged at) × P) → end_of_store {T = T} (Err e)
    ≡ Fine
ended_fine T P e at (inl m) = ap (λ r. end_of_store {T = T} (Err r)) m
ended_fine T P e at (inr d) = ap (λ r. end_of_store {T = T} (Err r)) d.0

-- the next head is closed
pub reading_shut : (tells obeys : Bool) (node size n : ℕ) (start here next : Told) (before between after : Counts)
    (due_then due_now due_next : Due)
    (t : Table) (known : List ℕ) → ReadingHeads tells obeys node size n start here before between due_then due_now t known → n < size / 1024
    → DeviceCalls 1 between after Fine → (IsTrue obeys → Obeyed due_now due_next between after Fine)
    → (IsTrue tells → next ≡ here) → (IsTrue tells → IsHeadThere node (contents here).now n None)
    → ReadingHeads tells obeys node size (n + 1) start next before after due_then due_next t known
reading_shut tells obeys node size n start here next before between after due_then due_now due_next t known r below counts obeyed told
    there = record {
      counts = calls_more n 1 before between after Fine r.counts counts;
      obeyed = λ so. obeyed_more n 1 due_then due_now due_next before between after Fine r.counts counts (r.obeyed so) (obeyed so);
      read = record { counted = r.read.counted; ahead = λ k above. r.read.ahead k (omega (arith, above)); known = r.read.known };
      free = r.free;
      sized = r.sized;
      same = λ so. told so ∙ r.same so;
      found = λ so. found_shut node size n (contents start).now known (heads_in t.heads.slots.items) below
          (subst (λ x. IsHeadThere node (contents x).now n None) (r.same so) (there so)) (r.found so);
    }

-- or it is open, and was taken up
pub reading_open : (tells obeys : Bool) (node size n : ℕ) (start here next : Told) (before between after : Counts)
    (due_then due_now due_next : Due)
    (t new : Table) (known more : List ℕ) (h : HeadFields) → ReadingHeads tells obeys node size n start here before between due_then
    due_now t known
    → n < size / 1024 → DeviceCalls 1 between after Fine → (IsTrue obeys → Obeyed due_now due_next between after Fine)
    → (IsTrue tells → next ≡ here) → (IsTrue tells → IsHeadThere node (contents here).now n (Some h)) → IsRead node n h
    → AreReadTo new more (h.number + 1) → new.heads.slots.items ≡ set t.heads.slots.items h.number h → new.blocks ≡ t.blocks
    → has h.sequence known ≡ false → ((s : ℕ) → has s more ≡ ((h.sequence == s) || has s known))
    → ReadingHeads tells obeys node size (n + 1) start next before after due_then due_next new more
reading_open tells obeys node size n start here next before between after due_then due_now due_next t new known more h r below counts
    obeyed told
    there is read slots blocks fresh joins = record {
      counts = calls_more n 1 before between after Fine r.counts counts;
      obeyed = λ so. obeyed_more n 1 due_then due_now due_next before between after Fine r.counts counts (r.obeyed so) (obeyed so);
      read = subst (λ m. AreReadTo new more (m + 1)) is.numbered read;
      free = subst AreAllFree (sym blocks) r.free;
      sized = ap (λ (b : BlockTable). b.size) blocks ∙ r.sized;
      same = λ so. told so ∙ r.same so;
      found = λ so. found_open node size n (contents start).now known more t.heads.slots.items new.heads.slots.items h below is.numbered
          (omega (arith, r.read.counted.table.count, r.sized, below)) is.opened r.read.ahead slots
          (subst (λ x. IsHeadThere node (contents x).now n (Some h)) (r.same so) (there so)) fresh joins (r.found so);
    }
