-- The heads of a disk as an opening reads them.
use Rattle.std.proofs.Common.{◌≡◌, ℕ, ◌+◌, ◌<◌, Bool, true, false, ◌||◌, ◌&&◌, not, ◌==◌, List, [], ◌∷◌, ◌/◌}
use Rattle.std.proofs.Common.{length, set, eq-eqb, refl, sym, ap, subst, ◌∙◌, arith, inl, inr, Option, None, Some}
use Rattle.std.specs.Prelude.{nat_lt, if◌then◌else◌}
use Rattle.std.specs.List.{list_any}
use Rattle.std.specs.Ordering.{nat_cmp, is_eq}
use Rattle.std.specs.BTreeSet as sorted
use Rattle.std.specs.BTreeSet.{BTreeSet}
use Rattle.std.proofs.lemmas.Bool.{cases_eq, or_left, or_right, and_left, ne_eqb, both_ways}
use Rattle.std.proofs.lemmas.Bool.{false_from_ne_true}
use Rattle.std.proofs.lemmas.Bool.Decides.{nat_tests}
use Rattle.std.proofs.lemmas.List.{length-set}
use Rattle.capability.specs.declared.Uid.{Uid}
use Rattle.block_tables.specs.declared.heads.HeadFields.{HeadFields}
use Rattle.block_tables.specs.declared.index.IndexEntry.{IndexEntry}
use Rattle.block_tables.specs.declared.head_table.HeadTable.{HeadTable}
use Rattle.block_tables.specs.declared.table.Table.{Table}
use Rattle.block_tables.specs.declared.block_table.BlockTable.{BlockTable}
use Rattle.block_tables.specs.BlockState.{AreBlocks}
use Rattle.block_tables.specs.Members.{is_member}
use Rattle.block_tables.specs.Blocks.{has}
use Rattle.block_tables.specs.HeadState.{AreHeads, slot_at, entry_at, is_open, is_open_of, is_it, is_late, outdated}
use Rattle.block_tables.specs.HeadState.{IsLatest, IsEntryOf}
use Rattle.block_tables.specs.TableState.{IsTable}
use Rattle.passive_blocks.specs.HeldState.{AreApart}
use Rattle.passive_blocks.specs.OpeningState.{AreReadTo, is_latest}
use Rattle.block_tables.proofs.Slots.{slot_same, slot_other, closed_not, entry_joins, entry_other}
use Rattle.block_tables.proofs.OpenHeads.{open_is}
use Rattle.passive_blocks.proofs.HeldSums.{uid_is, is_of}
use Rattle.passive_blocks.proofs.HeldKeepers.{latest_unique}

-- whether a set of numbers has one
same_number : (s k : ℕ) → is_eq (nat_cmp s k) ≡ (k == s)
same_number s k = grind (arith, nat_tests)

pub in_set : (s : ℕ) (keys : List ℕ) → list_any (λ k. is_eq (nat_cmp s k)) keys ≡ has s keys
in_set s [] = refl
in_set s (k ∷ keys) = ap (λ b. b || list_any (λ j. is_eq (nat_cmp s j)) keys) (same_number s k) ∙ ap (λ b. (k == s) || b) (in_set s keys)

turned : (a b : ℕ) → (a == b) ≡ (b == a)
turned a b = elim (cases_eq a b) [
  | inl same ↦ eq-eqb a b same ∙ sym (eq-eqb b a (sym same))
  | inr other ↦ ne_eqb a b other ∙ sym (ne_eqb b a (λ same. other (sym same)))
]

joined_key : (k s : ℕ) (b c : Bool) → is_eq (nat_cmp k s) ≡ b → (if b then true else c) ≡ ((k == s) || c)
joined_key k s true c is = ap (λ d. d || c) (sym (turned k s ∙ sym (same_number k s) ∙ is))
joined_key k s false c is = ap (λ d. d || c) (sym (turned k s ∙ sym (same_number k s) ∙ is))

pub in_more : (old new : BTreeSet ℕ) (k : ℕ) → sorted.Updates nat_cmp old new k true → (s : ℕ) → has s new.keys ≡
    ((k == s) || has s old.keys)
in_more old new k updates s =
    sym (in_set s new.keys) ∙ updates.0 s ∙ ap (λ b. if is_eq (nat_cmp k s) then true else b) (in_set s old.keys)
    ∙ joined_key k s (is_eq (nat_cmp k s)) (has s old.keys) refl

-- A head that does not count is to be closed: its own, where a later one of its uid is there.
own_closing : (slots : List HeadFields) (x : HeadFields) (latest : Option ℕ) → is_open (slot_at slots x.number) ≡ false
    → IsLatest slots x.uid latest
    → (is_it x.number (outdated slots x latest) || false)
    ≡ not (is_it x.number (if is_late slots x latest then Some x.number else latest))
own_closing slots x None shut is = sym (ap not (eq-eqb x.number x.number refl))
own_closing slots x (Some m) shut is = go (nat_lt x.sequence (slot_at slots m).sequence)
  where
    other : (x.number == m) ≡ false
    other = ne_eqb x.number m (λ same.
        both_ways (is_open (slot_at slots m)) (ap (λ k. is_open (slot_at slots k)) (sym same) ∙ shut) (open_is
        (slot_at slots m) x.uid is.0))

    go : (b : Bool) → (is_it x.number (if b then Some x.number else Some m) || false)
        ≡ not (is_it x.number (if not b then Some x.number else Some m))
    go true = ap (λ b. b || false) (eq-eqb x.number x.number refl) ∙ sym (ap not other)
    go false = ap (λ b. b || false) other ∙ sym (ap not (eq-eqb x.number x.number refl))

-- another one of the same uid
same_closing : (slots : List HeadFields) (x : HeadFields) (latest : Option ℕ) (k : ℕ) → is_open (slot_at slots x.number) ≡ false
    → IsLatest slots x.uid latest → (k ≡ x.number → ⊥) → is_open_of x.uid (slot_at slots k) ≡ true
    → (is_it k (outdated slots x latest) || not (is_it k latest)) ≡ not (is_it k (if is_late slots x latest then Some x.number else latest))
same_closing slots x None k shut is other there = absurd (both_ways (is_open_of x.uid (slot_at slots k)) (is k) there)
same_closing slots x (Some m) k shut is other there = go (nat_lt x.sequence (slot_at slots m).sequence)
  where
    apart : (k == x.number) ≡ false
    apart = ne_eqb k x.number other

    either : (b : Bool) → (b || not b) ≡ true
    either true = refl
    either false = refl

    go : (b : Bool) → (is_it k (if b then Some x.number else Some m) || not (k == m))
        ≡ not (is_it k (if not b then Some x.number else Some m))
    go true = ap (λ b. b || not (k == m)) apart
    go false = either (k == m) ∙ sym (ap not apart)

-- one of another uid
other_closing : (slots : List HeadFields) (x : HeadFields) (latest : Option ℕ) (k : ℕ) → IsLatest slots x.uid latest
    → (k ≡ x.number → ⊥) → is_open_of x.uid (slot_at slots k) ≡ false → is_it k (outdated slots x latest) ≡ false
other_closing slots x None k is other none = refl
other_closing slots x (Some m) k is other none = go (nat_lt x.sequence (slot_at slots m).sequence)
  where
    go : (b : Bool) → is_it k (if b then Some x.number else Some m) ≡ false
    go true = ne_eqb k x.number other
    go false = ne_eqb k m (λ same. both_ways (is_open_of x.uid (slot_at slots m)) (ap (λ j. is_open_of x.uid (slot_at slots j))
        (sym same) ∙ none) is.0)

-- Heads are apart, and so are they with one more whose sequence is new.
apart_more : (slots : List HeadFields) (before : List ℕ) (x : HeadFields) (n : ℕ) → n < length slots → AreApart slots
    → ((k : ℕ) → is_open (slot_at slots k) ≡ true → has (slot_at slots k).sequence before ≡ true) → has x.sequence before ≡ false
    → is_open x ≡ true → AreApart (set slots n x)
apart_more slots before x n within apart known fresh opened = λ j k there same. elim (cases_eq j n) [
  | inl e ↦ elim (cases_eq k n) [
    | inl f ↦ e ∙ sym f
    | inr g ↦ absurd (new_one k g (sym (ap (λ (s : HeadFields). s.sequence) (here j e)) ∙ same
        ∙ ap (λ (s : HeadFields). s.sequence) (slot_other slots n k x g)))
  ]
  | inr d ↦ elim (cases_eq k n) [
    | inl f ↦ absurd (new_one j d (sym (ap (λ (s : HeadFields). s.sequence) (here k f)) ∙ sym same
        ∙ ap (λ (s : HeadFields). s.sequence) (slot_other slots n j x d)))
    | inr g ↦ apart j k (sym (ap is_open (slot_other slots n j x d)) ∙ there)
        (sym (ap (λ (s : HeadFields). s.sequence) (slot_other slots n j x d)) ∙ same
        ∙ ap (λ (s : HeadFields). s.sequence) (slot_other slots n k x g))
  ]
]
  where
    here : (k : ℕ) → k ≡ n → slot_at (set slots n x) k ≡ x
    here k e = ap (slot_at (set slots n x)) e ∙ slot_same slots n x within

    new_one : (k : ℕ) → (k ≡ n → ⊥) → x.sequence ≡ (slot_at slots k).sequence → ⊥
    new_one k d same =
        both_ways (has x.sequence before) fresh
        (ap (λ s. has s before) same ∙ known k (ap (nat_lt 0) (sym same) ∙ opened))

-- whether a head is to be closed, by its parts
closing_at : (slots : List HeadFields) (x : HeadFields) (latest mine now : Option ℕ) (k : ℕ) → is_open (slot_at slots x.number) ≡ false
    → IsLatest slots x.uid latest → (k ≡ x.number → ⊥)
    → (is_open_of x.uid (slot_at slots k) ≡ true → (mine ≡ latest) × (now ≡ (if is_late slots x latest then Some x.number else latest)))
    → (is_open (slot_at slots k) ≡ true → is_open_of x.uid (slot_at slots k) ≡ false → now ≡ mine)
    → (is_it k (outdated slots x latest) || (is_open (slot_at slots k) && not (is_it k mine))) ≡ (is_open (slot_at slots k) && not
    (is_it k now))
closing_at slots x latest mine now k shut is other same apart =
    go (is_open (slot_at slots k)) (is_open_of x.uid (slot_at slots k)) refl refl
  where
    go : (b o : Bool) → is_open (slot_at slots k) ≡ b → is_open_of x.uid (slot_at slots k) ≡ o
        → (is_it k (outdated slots x latest) || (is_open (slot_at slots k) && not (is_it k mine))) ≡ (is_open (slot_at slots k) && not
        (is_it k now))
    go true true opened of =
        ap (λ b. is_it k (outdated slots x latest) || (b && not (is_it k mine))) opened
        ∙ ap (λ m. is_it k (outdated slots x latest) || not (is_it k m)) (same of).0
        ∙ same_closing slots x latest k shut is other of
        ∙ sym (ap (λ m. not (is_it k m)) (same of).1)
        ∙ sym (ap (λ b. b && not (is_it k now)) opened)
    go true false opened of =
        ap (λ b. b || (is_open (slot_at slots k) && not (is_it k mine))) (other_closing slots x latest k is other of)
        ∙ ap (λ m. is_open (slot_at slots k) && not (is_it k m)) (sym (apart opened of))
    go false true opened of = absurd (both_ways (is_open (slot_at slots k)) opened (open_is (slot_at slots k) x.uid of))
    go false false opened of =
        ap (λ b. b || (is_open (slot_at slots k) && not (is_it k mine))) (other_closing slots x latest k is other of)
        ∙ ap (λ b. b && not (is_it k mine)) opened ∙ sym (ap (λ b. b && not (is_it k now)) opened)

-- the entry of another uid stays
other_entry : (old : List HeadFields) (x s : HeadFields) (before after : IndexEntry) → x.number < length old → AreApart (set old x.number x)
    → is_open (slot_at old x.number) ≡ false → is_open s ≡ true → is_open_of x.uid s ≡ false
    → IsEntryOf old s.uid before → IsEntryOf (set old x.number x) s.uid after → after.latest ≡ before.latest
other_entry old x s before after within apart shut opened none was is =
    latest_unique (set old x.number x) s.uid after.latest before.latest apart is.0
    (entry_other old s.uid x.number x before within (closed_not (slot_at old x.number) s.uid shut)
    (false_from_ne_true (is_open_of s.uid x) (λ there. both_ways (is_open_of x.uid s) none (is_of s x.uid opened (sym
    (uid_is x s.uid there)))))
    was).0

-- A head was read and counted.
pub read_more : (t0 t1 : Table) (heads : HeadTable) (before after : List ℕ) (x : HeadFields) → AreReadTo t0 before x.number
    → x.number < length t0.heads.slots.items → is_open x ≡ true → has x.sequence before ≡ false
    → t1.heads.slots ≡ t0.heads.slots → ((q : Uid) → entry_at t1.heads.index q ≡ entry_at t0.heads.index q)
    → t1.heads.closing ≡ t0.heads.closing → t1.heads.lone ≡ t0.heads.lone → t1.blocks ≡ t0.blocks → AreHeads heads
    → heads.slots.items ≡ set t1.heads.slots.items x.number x
    → ((k : ℕ) → is_member heads.closing k
    ≡ (is_it k (outdated t1.heads.slots.items x (entry_at t1.heads.index x.uid).latest) || is_member t1.heads.closing k))
    → heads.lone ≡ t1.heads.lone
    → ((s : ℕ) → has s after ≡ ((x.sequence == s) || has s before))
    → AreReadTo (record { heads = heads; blocks = t1.blocks }) after (x.number + 1)
read_more t0 t1 heads before after x read within opened fresh slots entries closing lone blocks are items closes lone_is more =
    let old : List HeadFields = t0.heads.slots.items in
    let n : ℕ = x.number in
    let new : List HeadFields = set old n x in
    let items_are : heads.slots.items ≡ new = items ∙ ap (λ s. set s.items n x) slots in
    let entry : IndexEntry = entry_at t0.heads.index x.uid in
    let latest : Option ℕ = entry.latest in
    let shut : is_open (slot_at old n) ≡ false = read.ahead n (omega arith) in
    let none : is_open_of x.uid (slot_at old n) ≡ false = closed_not (slot_at old n) x.uid shut in
    let is : IsLatest old x.uid latest = (read.counted.table.heads.entries x.uid).0 in
    let apart : AreApart new = apart_more old before x n within read.counted.apart read.known fresh opened in
    let of_new : (q : Uid) → IsEntryOf new q (entry_at heads.index q) =
    λ q. subst (λ s. IsEntryOf s q (entry_at heads.index q)) items_are (are.entries q) in
    let now : (entry_at heads.index x.uid).latest ≡ (if is_late old x latest then Some n else latest) =
    latest_unique new x.uid (entry_at heads.index x.uid).latest (if is_late old x latest then Some n else latest) apart (of_new x.uid).0
    (entry_joins old x.uid x latest entry.others within none (is_of x x.uid opened refl) (read.counted.table.heads.entries x.uid)).0 in
    let mine : (k : ℕ) → Option ℕ = λ k. (entry_at t0.heads.index (slot_at old k).uid).latest in
    let closed : (k : ℕ) → is_member heads.closing k ≡ (is_it k (outdated old x latest) || (is_open (slot_at old k) && not (is_it k
    (mine k)))) =
    λ k. closes k
    ∙ ap (λ s. is_it k (outdated s.items x (entry_at t1.heads.index x.uid).latest) || is_member t1.heads.closing k) slots
    ∙ ap (λ (e : IndexEntry). is_it k (outdated old x e.latest) || is_member t1.heads.closing k) (entries x.uid)
    ∙ ap (λ c. is_it k (outdated old x latest) || is_member c k) closing
    ∙ ap (λ b. is_it k (outdated old x latest) || b) (read.counted.closing k) in
    let here : (k : ℕ) → k ≡ n → slot_at heads.slots.items k ≡ x =
    λ k e. ap (λ s. slot_at s k) items_are ∙ ap (slot_at new) e ∙ slot_same old n x within in
    let there : (k : ℕ) → (k ≡ n → ⊥) → slot_at heads.slots.items k ≡ slot_at old k =
    λ k d. ap (λ s. slot_at s k) items_are ∙ slot_other old n k x d in
    record {
      counted = record {
        table = record {
          heads = are;
          blocks = subst (λ b. AreBlocks b) (sym blocks) read.counted.table.blocks;
          count = ap length items_are ∙ length-set old n x ∙ read.counted.table.count ∙ sym (ap (λ (b : BlockTable). b.size / 1024) blocks);
        };
        apart = subst AreApart (sym items_are) apart;
        closing = λ k. elim (cases_eq k n) [
          | inl e ↦
              closed k ∙ ap (λ j. is_it j (outdated old x latest) || (is_open (slot_at old j) && not (is_it j (mine j)))) e
              ∙ ap (λ b. is_it n (outdated old x latest) || (b && not (is_it n (mine n)))) shut
              ∙ own_closing old x latest shut is
              ∙ sym (ap (λ m. not (is_it n m)) now)
              ∙ sym (ap (λ b. b && not (is_it n (entry_at heads.index x.uid).latest)) opened)
              ∙ sym (ap (λ j. is_open x && not (is_it j (entry_at heads.index x.uid).latest)) e)
              ∙ sym (ap (λ (s : HeadFields). is_open s && not (is_it k (entry_at heads.index s.uid).latest)) (here k e))
          | inr d ↦
              closed k
              ∙ closing_at old x latest (mine k) (entry_at heads.index (slot_at old k).uid).latest k shut is d
              (λ of. let uid : (slot_at old k).uid ≡ x.uid = uid_is (slot_at old k) x.uid of in
              (ap (λ u. (entry_at t0.heads.index u).latest) uid, ap (λ u. (entry_at heads.index u).latest) uid ∙ now))
              (λ opens not_of. other_entry old x (slot_at old k) (entry_at t0.heads.index (slot_at old k).uid)
              (entry_at heads.index (slot_at old k).uid) within apart shut opens not_of
              (read.counted.table.heads.entries (slot_at old k).uid) (of_new (slot_at old k).uid))
              ∙ sym (ap (λ (s : HeadFields). is_open s && not (is_it k (entry_at heads.index s.uid).latest)) (there k d))
        ];
        lone = λ k. ap (λ l. is_member l k) (lone_is ∙ lone) ∙ read.counted.lone k;
      };
      ahead = λ k above.
          ap is_open (there k (λ same. omega (arith, same, above))) ∙ read.ahead k (omega (arith, above));
      known = λ k opens. elim (cases_eq k n) [
        | inl e ↦
            ap (λ (s : HeadFields). has s.sequence after) (here k e) ∙ more x.sequence
            ∙ or_left (x.sequence == x.sequence) (has x.sequence before) (eq-eqb x.sequence x.sequence refl)
        | inr d ↦
            ap (λ (s : HeadFields). has s.sequence after) (there k d) ∙ more (slot_at old k).sequence
            ∙ or_right (x.sequence == (slot_at old k).sequence) (has (slot_at old k).sequence before)
            (read.known k (sym (ap is_open (there k d)) ∙ opens))
      ];
    }

-- all heads are closed before the first is read
pub none_read : (t : Table) (before : List ℕ) → IsTable t → ((k : ℕ) → is_open (slot_at t.heads.slots.items k) ≡ false)
    → ((k : ℕ) → is_member t.heads.closing k ≡ false) → ((k : ℕ) → is_member t.heads.lone k ≡ false) → AreReadTo t before 0
none_read t before table shut closing lone = record {
  counted = record {
    table = table;
    apart = λ j k there same. absurd (both_ways (is_open (slot_at t.heads.slots.items j)) (shut j) there);
    closing = λ k. closing k ∙ sym (and_left (is_open (slot_at t.heads.slots.items k)) (not (is_latest t k)) (shut k));
    lone = lone;
  };
  ahead = λ k above. shut k;
  known = λ k there. absurd (both_ways (is_open (slot_at t.heads.slots.items k)) (shut k) there);
}
