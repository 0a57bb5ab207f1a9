-- A job was begun: the disk is as it was, and stands as it is to stand at its first stage.
use Rattle.std.proofs.Common.{◌≡◌, ◌⊎◌, ℕ, ◌+◌, ◌≤◌, ◌<◌, Bool, true, false, ◌||◌, ◌==◌}
use Rattle.std.proofs.Common.{List, [], ◌∷◌, length, map, refl, sym, ap, subst, ◌∙◌, arith, inl, inr, None, Some, eq-eqb}
use Rattle.std.specs.Prelude.{if◌then◌else◌, filter, slice_index, sum_by}
use Rattle.std.proofs.lemmas.Bool.{false≢true, false_from_ne_true, or_left, or_right, eqb-true, cases_eq, ne_eqb}
use Rattle.std.proofs.lemmas.List.Sums.{sum_by-cons}
use Rattle.eden_disk.specs.Told.{Contents}
use Rattle.eden_disk.specs.Held.{Holds}
use Rattle.eden_disk.specs.Calls.{Counts}
use Rattle.eden_disk.proofs.Held.{holds_at_rest}
use Rattle.block_tables.specs.declared.table.Table.{Table}
use Rattle.block_tables.specs.declared.block_table.BlockTable.{BlockTable}
use Rattle.passive_blocks.specs.declared.block_store.Pending.{Pending}
use Rattle.passive_blocks.specs.declared.block_store.Stage.{Stage}
use Rattle.passive_blocks.specs.declared.block_store.Stage.TheVariants.{Close, Write as WritePart, Head as WriteHead}
use Rattle.block_tables.specs.Members.{is_member}
use Rattle.block_tables.specs.Blocks.{Head, blocks_of, has, is_data, keeping, numbers}
use Rattle.passive_blocks.specs.Fits.{Fits}
use Rattle.block_tables.specs.HeadState.{heads_in, slot_at, is_open}
use Rattle.passive_blocks.specs.StoreState.{IsTableOf, chain_in}
use Rattle.passive_blocks.specs.HeldState.{IsHeld, times, one_if, chain_by, times_kept}
use Rattle.passive_blocks.specs.StageState.{IsEarly, IsOnDisk, IsStageOn, MayStand, behind_closing}
use Rattle.passive_blocks.specs.StageState.{may_close}
use Rattle.block_tables.proofs.Listing.{has_number}
use Rattle.passive_blocks.proofs.HeldSums.{each_open}
use Rattle.passive_blocks.proofs.HeldCounts.{some_times, walk_stays}
use Rattle.passive_blocks.proofs.HeldFacts.{few_one}
use Rattle.passive_blocks.proofs.HeldJob.{closing_members}
use Rattle.passive_blocks.proofs.HeldTold.{all_kept}
use Rattle.passive_blocks.proofs.StageSeen.{gates_of_table}

-- the chains of some heads stay, where nothing behind their blocks has changed
map_stays : (next new : List ℕ) (hs : List Head)
    → ((k : ℕ) → 1 ≤ sum_by (λ (h : Head). times k (chain_by next h)) hs → slice_index new k ≡ slice_index next k)
    → map (chain_in new) hs ≡ map (chain_in next) hs
map_stays next new [] same = refl
map_stays next new (h ∷ hs) same =
    ap (λ bs. record { head = h; blocks = bs; whole = true } ∷ map (chain_in new) hs)
    (walk_stays next new h.first (blocks_of h.size) (λ j there.
    same j (first (sum_by (λ (g : Head). times j (chain_by next g)) (h ∷ hs)) (times j (chain_by next h)) _
    (sum_by-cons (λ (g : Head). times j (chain_by next g)) h hs) (some_times j (chain_by next h) there))))
    ∙ ap (λ cs. chain_in next h ∷ cs)
    (map_stays next new hs (λ j some. same j (last (sum_by (λ (g : Head). times j (chain_by next g)) (h ∷ hs)) (times j (chain_by next h)) _
    (sum_by-cons (λ (g : Head). times j (chain_by next g)) h hs) some)))
  where
    first : (n a b : ℕ) → n ≡ a + b → 1 ≤ a → 1 ≤ n
    first n a b is some = omega (arith, is, some)

    last : (n a b : ℕ) → n ≡ a + b → 1 ≤ b → 1 ≤ n
    last n a b is some = omega (arith, is, some)

has_passing : (q : ℕ → Bool) (k : ℕ) (xs : List ℕ) → has k xs ≡ true → q k ≡ true → has k (filter q xs) ≡ true
has_passing q k [] there passes = absurd (false≢true there)
has_passing q k (x ∷ xs) there passes = elim (cases_eq x k) [
  | inl same ↦
      ap (λ b. has k (if b then x ∷ filter q xs else filter q xs)) (ap q same ∙ passes)
      ∙ or_left (x == k) (has k (filter q xs)) (eq-eqb x k same)
  | inr other ↦ go (q x) (has_passing q k xs (sym (ap (λ b. b || has k xs) (ne_eqb x k other)) ∙ there) passes)
]
  where
    go : (b : Bool) → has k (filter q xs) ≡ true → has k (if b then x ∷ filter q xs else filter q xs) ≡ true
    go true rest = or_right (x == k) (has k (filter q xs)) rest
    go false rest = rest

-- the table of an image goes on being that of it, with a change that is chosen
pub table_begun : (node size : ℕ) (counts : Counts) (t : Table) (b : BlockTable) (image : List ℕ) → IsHeld size counts t None
    → IsTableOf node image t → b.size ≡ t.blocks.size
    → ((k : ℕ) → is_member t.blocks.free k ≡ false → slice_index b.next.items k ≡ slice_index t.blocks.next.items k)
    → IsTableOf node image (record { heads = t.heads; blocks = b })
table_begun node size counts t b image held is sized stays = record {
  format = is.format;
  long = is.long ∙ sym sized;
  heads = is.heads;
  chains = is.chains ∙ sym (map_stays t.blocks.next.items b.next.items (keeping (heads_in t.heads.slots.items)) (λ k some.
      stays k (false_from_ne_true (is_member t.blocks.free k) (λ free.
      too_many (one_if (is_member t.blocks.free k)) (times_kept t.blocks.next.items (heads_in t.heads.slots.items) k) (one_if
      (is_data size k))
      (held.places k) (few_one (is_data size k)) (ap one_if free) some))));
}
  where
    too_many : (free kept whole : ℕ) → free + (kept + 0) ≡ whole → whole ≤ 1 → free ≡ 1 → 1 ≤ kept → ⊥
    too_many free kept whole is few one some = omega (arith, is, few, one, some)

may_stand : (heads : List Head) (image : List ℕ) → slice_index image 1 ≡ 235 → (k : ℕ) → MayStand heads image k (slice_index image k)
may_stand heads image format k = record {
  format = λ same. ap (slice_index image) same ∙ format;
  shut = λ n within same shut. ap (λ j. slice_index image j == 225) same ∙ shut;
  gate = λ n within same opened stays. eqb-true (slice_index image k) 225 (ap (λ j. slice_index image j == 225) same ∙ opened);
  head = λ n o within some most same opened. refl;
  block = λ b o there less same. refl;
}

-- Where nothing waited, a change that is chosen stands at its first stage.
pub begun_on : (node size more less : ℕ) (counts : Counts) (t new : Table) (p : Pending) (c : Contents) (power : Bool)
    → IsHeld size counts t None → ((k : ℕ) → is_member t.heads.lone k ≡ false) → new.heads ≡ t.heads → new.blocks.size ≡ t.blocks.size
    → ((k : ℕ) → is_member t.blocks.free k ≡ false → slice_index new.blocks.next.items k ≡ slice_index t.blocks.next.items k)
    → p.head.number < length t.heads.slots.items → is_open (slot_at t.heads.slots.items p.head.number) ≡ false
    → IsOnDisk node more t None c power → less ≤ more → (p.stage ≡ Close) ⊎ (p.stage ≡ behind_closing p.head)
    → IsOnDisk node less new (Some p) c power
begun_on node size more less counts t new p c power held lone heads sized stays number shut on fewer stage =
    let image : List ℕ = c.now in
    let listed : List Head = heads_in t.heads.slots.items in
    let both : Table = record { heads = t.heads; blocks = new.blocks } in
    let table : IsTableOf node image both = table_begun node size counts t new.blocks image held on.1 sized stays in
    let early : IsEarly node less both p c = record {
      began = image;
      heads = listed;
      begun = record {
        format = table.format;
        long = table.long;
        found = table.heads;
        chains = table.chains;
        left = sym (all_kept (λ (h : Head). is_open (slot_at t.heads.slots.items h.number)) listed
            (each_open (λ (h : Head). is_open (slot_at t.heads.slots.items h.number)) t.heads.slots.items (λ k opened.
            ap (λ n. is_open (slot_at t.heads.slots.items n)) (held.table.heads.numbered k opened) ∙ opened)));
        closed = each_open (λ (h : Head). is_open (slot_at t.heads.slots.items h.number) || may_close listed h) t.heads.slots.items
            (λ k opened.
            or_left (is_open (slot_at t.heads.slots.items (slot_at t.heads.slots.items k).number)) _
            (ap (λ n. is_open (slot_at t.heads.slots.items n)) (held.table.heads.numbered k opened) ∙ opened));
        closing = λ k there. ap (has k) (closing_members size counts t None held lone)
            ∙ has_passing (is_member t.heads.closing) k (numbers 0 (length t.heads.closing))
            (has_number k 0 (length t.heads.closing) (omega arith) (omega (
              arith,
              (held.closing k there).on,
              held.table.heads.closing_long,
            ))) there;
      };
      shut = gates_of_table node size counts image t None held on.1 p.head.number number ∙ shut;
      told = omega (arith, fewer, on.2);
      fits = subst (Holds (Fits (MayStand listed image) (length image))) (sym on.0)
          (holds_at_rest (Fits (MayStand listed image) (length image)) image
          (record { long = refl; bytes = may_stand listed image table.format }));
    } in
    subst (λ h. IsOnDisk node less (record { heads = h; blocks = new.blocks }) (Some p) c power) (sym heads)
    (at_stage both early table p.stage stage)
  where
    none_written : (both : Table) (removal : Bool) → p.head.removal ≡ removal → IsEarly node less both p c → IsTableOf node c.now both
        → IsStageOn node less both p c power (if removal then WriteHead else WritePart p.head.first 0)
    none_written both true removal early table =
        (early, λ so. (table, λ value. absurd (false≢true (sym value ∙ removal))))
    none_written both false removal early table =
        (early, λ so. (table, λ i low. absurd (omega (arith, low))))

    at_stage : (both : Table) → IsEarly node less both p c → IsTableOf node c.now both → (s : Stage)
        → (s ≡ Close) ⊎ (s ≡ behind_closing p.head)
        → IsStageOn node less both p c power s
    at_stage both early table s (inl is) =
        subst (IsStageOn node less both p c power) (sym is) (early, λ so. (table, tt))
    at_stage both early table s (inr is) =
        subst (IsStageOn node less both p c power) (sym is) (none_written both p.head.removal refl early table)
