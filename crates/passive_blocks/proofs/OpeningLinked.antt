-- What an opening knows of the chains, once it has followed some of them.
use Rattle.std.proofs.Common.{◌≡◌, ℕ, suc, zero, ◌+◌, ◌≤◌, ◌<◌, Bool, true, false, List, [], ◌∷◌}
use Rattle.std.proofs.Common.{◌++◌}
use Rattle.std.proofs.Common.{length, map, take, drop, IsTrue, refl, sym, ap, ◌∙◌, arith, inl, inr, length-append, append_assoc}
use Rattle.std.specs.Prelude.{slice_index, filter, sum_by, Ok, Err}
use Rattle.std.proofs.lemmas.Bool.{cases_eq, both_ways, false_from_ne_true}
use Rattle.std.proofs.lemmas.List.{append-nil, map-append}
use Rattle.std.proofs.lemmas.List.Elements.{filter_agree}
use Rattle.std.proofs.lemmas.List.Sums.{sum_by-cons, sum_by-append}
use Rattle.std.proofs.lemmas.Grind.{flat_map-append}
use Rattle.eden_disk.specs.Told.{Told, contents}
use Rattle.eden_disk.specs.Calls.{Counts, Due, DeviceCalls, Obeyed, Fine}
use Rattle.eden_disk.proofs.Held.{calls_more, obeyed_more}
use Rattle.block_tables.specs.declared.heads.HeadFields.{HeadFields}
use Rattle.block_tables.specs.declared.table.Table.{Table}
use Rattle.block_tables.specs.declared.head_table.HeadTable.{HeadTable}
use Rattle.block_tables.specs.declared.block_table.BlockTable.{BlockTable}
use Rattle.block_tables.specs.Members.{is_member}
use Rattle.block_tables.specs.Blocks.{Head, Chain, numbers, has, head_place, chain_of, chains_among, chains_of, taken_by, keeping}
use Rattle.block_tables.specs.Blocks.{without}
use Rattle.block_tables.specs.Blocks.{blocks_of, is_data, data_blocks, data_count, changes_on}
use Rattle.block_tables.specs.HeadSeen.{head_of}
use Rattle.block_tables.specs.HeadState.{slot_at, heads_in}
use Rattle.block_tables.specs.BlockState.{AreBlocks, walk, free_in}
use Rattle.block_tables.specs.BlockState.{AreAllFree}
use Rattle.passive_blocks.specs.HeldState.{times, one_if, behind_walk, chain_by}
use Rattle.passive_blocks.specs.OpeningState.{AreTaken, IsChainRead, ChainRead, AreCounted, keeps_value, kept_to}
use Rattle.passive_blocks.specs.StoreState.{chain_in}
use Rattle.passive_blocks.specs.OpeningState.{kept_behind, IsLinkedTo}
use Rattle.passive_blocks.proofs.HeldCounts.{some_times, behind_stays, walk_long, count_data, chains_stay}
use Rattle.passive_blocks.proofs.OpeningLinks.{chains_map_stay, one_of_kept, to_skip, to_more, to_all, keeping_is, data_free, chains_more}
use Rattle.passive_blocks.proofs.OpeningLinks.{chains_end, changes_end, chain_head}

-- no chain is known yet
pub none_linked : (t : Table) → AreBlocks t.blocks → AreAllFree t.blocks → IsLinkedTo t 0
none_linked t are free = record {
  blocks = are;
  needed = free.needed;
  places = λ k. omega (arith, ap one_if (free.free k));
  room = omega (arith, free.needed, all_of t are free);
  ends = λ k below is. absurd (omega (arith, below));
}
  where
    all_of : (t : Table) → AreBlocks t.blocks → AreAllFree t.blocks → length (free_in t.blocks) ≡ data_count t.blocks.size
    all_of t are free =
        ap length (filter_agree (is_member t.blocks.free) (is_data t.blocks.size) free.free (numbers 0 (length t.blocks.free)))
        ∙ ap (λ n. length (filter (is_data t.blocks.size) (numbers 0 n))) are.free ∙ count_data t.blocks.size

-- the next head keeps no value
pub linked_skip : (t : Table) (i : ℕ) → IsLinkedTo t i → i < length t.heads.slots.items
    → keeps_value t.heads (slot_at t.heads.slots.items i) ≡ false → IsLinkedTo t (i + 1)
linked_skip t i l within none =
    let same : kept_to t (i + 1) ≡ kept_to t i = (to_skip t i within none).0 in
    record {
      blocks = l.blocks;
      needed = l.needed ∙ sym (ap (sum_by (λ (h : Head). blocks_of h.size)) same);
      places = λ k. ap (λ hs. one_if (is_member t.blocks.free k) + sum_by (λ (h : Head). times k (chain_by t.blocks.next.items h)) hs) same
          ∙ l.places k;
      room = l.room;
      ends = λ k below is. elim (cases_eq k i) [
        | inl e ↦ absurd (both_ways (keeps_value t.heads (slot_at t.heads.slots.items k))
            (ap (λ j. keeps_value t.heads (slot_at t.heads.slots.items j)) e ∙ none) is)
        | inr other ↦ l.ends k (omega (arith, below, other)) is
      ];
    }

-- what is taken now was on no chain
fresh : (b0 b : BlockTable) (first k earlier : ℕ) (taken : List ℕ) → AreTaken b0 b first taken
    → one_if (is_member b0.free k) + earlier ≡ one_if (is_data b0.size k) → 1 ≤ earlier
    → slice_index b.next.items k ≡ slice_index b0.next.items k
fresh b0 b first k earlier taken t placed some =
    t.others k (false_from_ne_true (has k taken) (λ there.
    omega (arith, t.places k, some_times k taken there, placed, some, most (is_data b0.size k))))
  where
    most : (c : Bool) → one_if c ≤ 1
    most true = omega arith
    most false = omega arith

-- The next head keeps one, whose chain was followed.
pub linked_more : (t new : Table) (i made : ℕ) (v : HeadFields) → IsLinkedTo t i → i < length t.heads.slots.items
    → keeps_value t.heads (slot_at t.heads.slots.items i) ≡ true → slot_at t.heads.slots.items i ≡ v → new.heads ≡ t.heads
    → IsChainRead t.blocks new.blocks v made
    → IsLinkedTo new (i + 1)
    × (map (chain_in new.blocks.next.items) (kept_to new (i + 1))
    ≡ map (chain_in t.blocks.next.items) (kept_to t i) ++ chain_in new.blocks.next.items (head_of v) ∷ [])
linked_more t new i made v l within is v_is heads r =
    let b0 : BlockTable = t.blocks in
    let b : BlockTable = new.blocks in
    let old : List ℕ = b0.next.items in
    let next : List ℕ = b.next.items in
    let h : Head = head_of v in
    let before : List Head = kept_to t i in
    let list : kept_to new (i + 1) ≡ before ++ h ∷ [] =
    ap (λ hs. map head_of (filter (keeps_value hs) (take (i + 1) hs.slots.items))) heads ∙ (to_more t i v within is v_is).0 in
    let same : (k : ℕ) → 1 ≤ sum_by (λ (g : Head). times k (chain_by old g)) before → slice_index next k ≡ slice_index old k =
    λ k some. fresh b0 b v.first k (sum_by (λ (g : Head). times k (chain_by old g)) before) r.taken r.are (l.places k) some in
    let own : chain_by next h ≡ r.taken = ap (walk next v.first) (sym r.long) ∙ r.are.chain in (
      record {
        blocks = r.are.blocks;
        needed = r.needed ∙ ap (λ n. n + blocks_of v.size) l.needed
            ∙ sym (ap (sum_by (λ (g : Head). blocks_of g.size)) list ∙ one_more (λ (g : Head). blocks_of g.size) before h);
        places = λ k. omega (
          arith,
          ap (sum_by (λ (g : Head). times k (chain_by next g))) list,
          one_more (λ (g : Head). times k (chain_by next g)) before h,
          chains_stay old next before same k,
          ap (times k) own,
          r.are.places k,
          l.places k,
          ap (λ s. one_if (is_data s k)) r.are.size,
        );
        room = r.room;
        ends = λ k below keeps. elim (cases_eq k i) [
          | inl e ↦
              ap (λ (s : HeadFields). behind_walk next s.first (blocks_of s.size))
              (ap (λ (x : HeadTable). slot_at x.slots.items k) heads ∙ ap (slot_at t.heads.slots.items) e ∙ v_is) ∙ r.ends
          | inr other ↦
              let low : k < i = omega (arith, below, other) in
              let s_is : slot_at new.heads.slots.items k ≡ slot_at t.heads.slots.items k = ap (λ
              (x : HeadTable). slot_at x.slots.items k) heads in
              let was : keeps_value t.heads (slot_at t.heads.slots.items k) ≡ true =
              sym (ap (λ (x : HeadTable). keeps_value x (slot_at x.slots.items k)) heads) ∙ keeps in
              let s : HeadFields = slot_at t.heads.slots.items k in
              ap (λ (x : HeadFields). behind_walk next x.first (blocks_of x.size)) s_is
              ∙ behind_stays old next s.first (blocks_of s.size) (λ j there.
              same j (omega (
                arith,
                some_times j (walk old s.first (blocks_of s.size)) there,
                one_of_kept (λ (g : Head). times j (chain_by old g)) (keeps_value t.heads) t.heads.slots.items i k low refl was,
              )))
              ∙ l.ends k low was
        ];
      },
      ap (map (chain_in next)) list ∙ map-append (chain_in next) before (h ∷ [])
          ∙ ap (λ cs. cs ++ chain_in next h ∷ []) (chains_map_stay old next before same),
    )
  where
    one_more : (w : Head → ℕ) (hs : List Head) (g : Head) → sum_by w (hs ++ g ∷ []) ≡ sum_by w hs + w g
    one_more w hs g = omega (arith, sum_by-append w hs (g ∷ []), sum_by-cons w g [])

-- The chains of the first heads were followed, none of which is damaged, and no device call was refused.
pub record Linking (tells obeys : Bool) (start here : Told) (before after : Counts) (due_then due_now : Due) (heads : List Head) (t : Table)
    (i : ℕ) : Type 0 where
  pub made : ℕ
  pub counts : DeviceCalls made before after Fine
  pub obeyed : IsTrue obeys → Obeyed due_then due_now before after Fine
  pub same : IsTrue tells → here ≡ start
  pub linked : IsLinkedTo t i
  pub chains : IsTrue tells → chains_of (contents start).now heads
      ≡ map (chain_in t.blocks.next.items) (kept_to t i) ++ chains_among (contents start).now (free_in t.blocks) (kept_behind t i)
  pub number : IsTrue tells → made ≡ length (taken_by (map (chain_in t.blocks.next.items) (kept_to t i)))

pub linking_none : (tells obeys : Bool) (start : Told) (before : Counts) (due : Due) (t : Table) (size : ℕ) → AreCounted t
    → AreAllFree t.blocks → t.blocks.size ≡ size → 32768 ≤ size → (IsTrue tells → length (contents start).now ≡ size)
    → DeviceCalls 0 before before Fine → Obeyed due due before before Fine
    → Linking tells obeys start start before before due due (heads_in t.heads.slots.items) t 0
linking_none tells obeys start before due t size counted free is least long counts obeyed = record {
  made = 0;
  counts = counts;
  obeyed = λ so. obeyed;
  same = λ so. refl;
  linked = none_linked t counted.table.blocks free;
  chains = λ so.
      let image : List ℕ = (contents start).now in
      ap (λ fr. chains_among image fr (keeping (heads_in t.heads.slots.items)))
      (ap data_blocks (long so) ∙ sym (data_free t.blocks size counted.table.blocks free is least))
      ∙ ap (chains_among image (free_in t.blocks)) (keeping_is t counted);
  number = λ so. refl;
}

pub linking_skip : (tells obeys : Bool) (start here : Told) (before after : Counts) (due_then due_now : Due) (heads : List Head) (t : Table)
    (i : ℕ) → Linking tells obeys start here before after due_then due_now heads t i → i < length t.heads.slots.items
    → keeps_value t.heads (slot_at t.heads.slots.items i) ≡ false
    → Linking tells obeys start here before after due_then due_now heads t (i + 1)
linking_skip tells obeys start here before after due_then due_now heads t i l within none =
    let both = to_skip t i within none in
    record {
      made = l.made;
      counts = l.counts;
      obeyed = l.obeyed;
      same = l.same;
      linked = linked_skip t i l.linked within none;
      chains = λ so. l.chains so
          ∙ ap (λ hs. map (chain_in t.blocks.next.items) (kept_to t i) ++ chains_among (contents start).now (free_in t.blocks) hs) both.1
          ∙ sym (ap (λ hs. map (chain_in t.blocks.next.items) hs ++ chains_among (contents start).now (free_in t.blocks)
          (kept_behind t (i + 1)))
          both.0);
      number = λ so. l.number so ∙ sym (ap (λ hs. length (taken_by (map (chain_in t.blocks.next.items) hs))) both.0);
    }

pub linking_more : (tells obeys : Bool) (start here there : Told) (before between after : Counts) (due_then due_now due_next : Due)
    (heads : List Head) (t new : Table) (i made : ℕ) (v : HeadFields)
    → Linking tells obeys start here before between due_then due_now heads t i → i < length t.heads.slots.items
    → keeps_value t.heads (slot_at t.heads.slots.items i) ≡ true → slot_at t.heads.slots.items i ≡ v → new.heads ≡ t.heads
    → IsChainRead t.blocks new.blocks v made → DeviceCalls made between after Fine
    → (IsTrue obeys → Obeyed due_now due_next between after Fine) → (IsTrue tells → there ≡ here)
    → (IsTrue tells → ChainRead (contents here).now t.blocks new.blocks v (Ok tt) made)
    → Linking tells obeys start there before after due_then due_next heads new (i + 1)
linking_more tells obeys start here there before between after due_then due_now due_next heads t new i made v l within is v_is same r counts
    obeyed told chain =
    let h : Head = head_of v in
    let next : List ℕ = new.blocks.next.items in
    let done : List Chain = map (chain_in t.blocks.next.items) (kept_to t i) in
    let more = linked_more t new i made v l.linked within is v_is same r in
    let behind : kept_behind t i ≡ h ∷ kept_behind t (i + 1) = (to_more t i v within is v_is).1 in
    let behind_new : kept_behind t (i + 1) ≡ kept_behind new (i + 1) =
    sym (ap (λ hs. map head_of (filter (keeps_value hs) (drop (i + 1) hs.slots.items))) same) in
    let count : made ≡ blocks_of v.size = r.reads ∙ r.long in
    let taken : walk next v.first (blocks_of v.size) ≡ r.taken = ap (walk next v.first) (sym r.long) ∙ r.are.chain in
    record {
      made = l.made + made;
      counts = calls_more l.made made before between after Fine l.counts counts;
      obeyed = λ so. obeyed_more l.made made due_then due_now due_next before between after Fine l.counts counts (l.obeyed so) (obeyed so);
      same = λ so. told so ∙ l.same so;
      linked = more.0;
      chains = λ so.
          let image : List ℕ = (contents start).now in
          let c : chain_of image (free_in t.blocks) h ≡ chain_in next h =
          sym (ap (λ x. chain_of (contents x).now (free_in t.blocks) h) (l.same so)) ∙ chain so
          ∙ ap (λ m. record { head = h; blocks = walk next v.first m; whole = true }) count in
          let left : free_in new.blocks ≡ without (walk next v.first (blocks_of v.size)) (free_in t.blocks) =
          r.are.free ∙ sym (ap (λ bs. without bs (free_in t.blocks)) taken) in
          l.chains so
          ∙ ap (λ hs. done ++ chains_among image (free_in t.blocks) hs) behind
          ∙ ap (λ cs. done ++ cs) (chains_more image (free_in t.blocks) (free_in new.blocks) h (kept_behind t (i + 1))
          (walk next v.first (blocks_of v.size)) c left)
          ∙ sym (append_assoc done (chain_in next h ∷ []) (chains_among image (free_in new.blocks) (kept_behind t (i + 1))))
          ∙ ap (λ hs. (done ++ chain_in next h ∷ []) ++ chains_among image (free_in new.blocks) hs) behind_new
          ∙ sym (ap (λ cs. cs ++ chains_among image (free_in new.blocks) (kept_behind new (i + 1))) more.1);
      number = λ so.
          let sum : length (taken_by (done ++ chain_in next h ∷ [])) ≡ l.made + made = omega (
            arith,
            ap length (flat_map-append (λ (c : Chain). c.blocks) done (chain_in next h ∷ [])),
            length-append (taken_by done) (taken_by (chain_in next h ∷ [])),
            one_chain next h,
            l.number so,
            count,
          ) in
          sym sum ∙ sym (ap (λ cs. length (taken_by cs)) more.1);
    }
  where
    one_chain : (next : List ℕ) (h : Head) → length (taken_by (chain_in next h ∷ [])) ≡ blocks_of h.size
    one_chain next h = ap length (append-nil (walk next h.first (blocks_of h.size))) ∙ walk_long next h.first (blocks_of h.size)

-- the next chain is damaged: where, and how many reads were made in all
pub link_damaged : (tells obeys : Bool) (start here : Told) (before after : Counts) (due_then due_now : Due) (heads : List Head)
    (t : Table) (i made : ℕ) (v : HeadFields) (l : Linking tells obeys start here before after due_then due_now heads t i)
    → i < length t.heads.slots.items → keeps_value t.heads (slot_at t.heads.slots.items i) ≡ true → slot_at t.heads.slots.items i ≡ v
    → IsTrue tells → (chain_of (contents here).now (free_in t.blocks) (head_of v)).whole ≡ false
    → made ≡ length (chain_of (contents here).now (free_in t.blocks) (head_of v)).blocks
    → (changes_on (contents start).now (chains_of (contents start).now heads) ≡ Err (head_place v.number))
    × (l.made + made ≡ length (taken_by (chains_of (contents start).now heads)))
link_damaged tells obeys start here before after due_then due_now heads t i made v l within is v_is so bad count =
    let image : List ℕ = (contents start).now in
    let h : Head = head_of v in
    let c : Chain = chain_of image (free_in t.blocks) h in
    let done : List Chain = map (chain_in t.blocks.next.items) (kept_to t i) in
    let broken : c.whole ≡ false = sym (ap (λ x. (chain_of (contents x).now (free_in t.blocks) h).whole) (l.same so)) ∙ bad in
    let long : made ≡ length c.blocks = count ∙ ap (λ x. length (chain_of (contents x).now (free_in t.blocks) h).blocks) (l.same so) in
    let all : chains_of image heads ≡ done ++ c ∷ [] =
    l.chains so
    ∙ ap (λ hs. done ++ chains_among image (free_in t.blocks) hs) (to_more t i v within is v_is).1
    ∙ ap (λ cs. done ++ cs) (chains_end image (free_in t.blocks) h (kept_behind t (i + 1)) broken) in (
      ap (changes_on image) all ∙ changes_end image t.blocks.next.items (kept_to t i) c broken
          ∙ ap (λ (g : Head). Err (head_place g.number)) (chain_head h image (free_in t.blocks) h.first (blocks_of h.size)),
      (let sum : l.made + made ≡ length (taken_by (done ++ c ∷ [])) = omega (
        arith,
        ap length (flat_map-append (λ (d : Chain). d.blocks) done (c ∷ [])),
        length-append (taken_by done) (taken_by (c ∷ [])),
        ap length (append-nil c.blocks),
        l.number so,
        long,
      ) in sum)
          ∙ sym (ap (λ cs. length (taken_by cs)) all),
    )

no_chains : (image free : List ℕ) (cs : List Chain) → cs ++ chains_among image free [] ≡ cs
unfolding chains_among
no_chains image free cs = append-nil cs

-- all chains were followed
pub linked_all : (tells obeys : Bool) (start here : Told) (before after : Counts) (due_then due_now : Due) (heads : List Head)
    (t : Table) (i : ℕ) (l : Linking tells obeys start here before after due_then due_now heads t i)
    → length t.heads.slots.items ≤ i → IsTrue tells
    → (chains_of (contents start).now heads ≡ map (chain_in t.blocks.next.items) (kept_to t i))
    × (l.made ≡ length (taken_by (chains_of (contents start).now heads)))
linked_all tells obeys start here before after due_then due_now heads t i l all so =
    let image : List ℕ = (contents start).now in
    let done : List Chain = map (chain_in t.blocks.next.items) (kept_to t i) in
    let none : kept_behind t i ≡ [] = ap (λ s. map head_of (filter (keeps_value t.heads) s)) (drop_all i t.heads.slots.items all) in
    let is : chains_of image heads ≡ done =
    l.chains so ∙ ap (λ hs. done ++ chains_among image (free_in t.blocks) hs) none ∙ no_chains image (free_in t.blocks) done in
    (is, l.number so ∙ sym (ap (λ cs. length (taken_by cs)) is))
  where
    drop_all : (n : ℕ) (xs : List HeadFields) → length xs ≤ n → drop n xs ≡ []
    drop_all zero [] long = refl
    drop_all zero (x ∷ xs) long = absurd (omega (arith, long))
    drop_all (suc n) [] long = refl
    drop_all (suc n) (x ∷ xs) long = drop_all n xs (omega (arith, long))

-- the heads that keep values, by all that were passed
pub kept_all : (t0 t1 : Table) (i : ℕ) → AreCounted t0 → t1.heads ≡ t0.heads → length t0.heads.slots.items ≤ i
    → kept_to t1 i ≡ keeping (heads_in t0.heads.slots.items)
kept_all t0 t1 i counted heads all =
    ap (λ (h : HeadTable). map head_of (filter (keeps_value h) (take i h.slots.items))) heads
    ∙ to_all t0 i all
    ∙ sym (keeping_is t0 counted)
