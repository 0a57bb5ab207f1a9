-- Blocks that are freed one by one along a chain.
use Rattle.std.proofs.Common.{◌≡◌, ◌⊎◌, ℕ, suc, ◌-◌, ◌≤◌, ◌<◌, ◌/◌, Bool, true, false, ◌||◌, ◌==◌, List}
use Rattle.std.proofs.Common.{length, refl, sym, ap, subst, ◌∙◌, arith, eq-eqb, inl, inr}
use Rattle.std.specs.Prelude.{slice_index}
use Rattle.std.proofs.lemmas.Bool.{eqb-true, false≢true}
use Rattle.std.proofs.lemmas.Bool.Decides.{nat_tests}
use Rattle.block_tables.specs.declared.block_table.BlockTable.{BlockTable}
use Rattle.block_tables.specs.Blocks.{has, is_data}
use Rattle.block_tables.specs.Members.{is_member}
use Rattle.block_tables.specs.BlockState.{AreBlocks, AreDataIn, walk}

-- The blocks of a chain up to one are free, and those that are left are for data.
pub record Freeing (t0 t : BlockTable) (first count block left : ℕ) : Type 0 where
  pub blocks : AreBlocks t
  pub size : t.size ≡ t0.size
  pub next : t.next ≡ t0.next
  pub needed : t.needed ≡ t0.needed
  pub inside : AreDataIn t0.size (walk t0.next.items block left)
  pub free : (k : ℕ) → (has k (walk t0.next.items block left) || is_member t.free k)
      ≡ (has k (walk t0.next.items first count) || is_member t0.free k)

or_true : (a b : Bool) → b ≡ true → (a || b) ≡ true
or_true true b h = refl
or_true false b h = h

one_or_other : (a b : Bool) → (a || b) ≡ true → (a ≡ true) ⊎ (b ≡ true)
one_or_other true b h = inl refl
one_or_other false b h = inr h

here : (a b : Bool) → a ≡ true → (a || b) ≡ true
here true b h = refl
here false b h = absurd (false≢true h)

-- the next block of a walk is for data, and so on the disk
pub walked : (size : ℕ) (next : List ℕ) (block m : ℕ) → AreDataIn size (walk next block (suc m)) → is_data size block ≡ true
unfolding walk
walked size next block m inside = inside block (here (block == block) (has block (walk next (slice_index next block) m))
    (eq-eqb block block refl))

pub on_disk : (size block : ℕ) → is_data size block ≡ true → block < size / 1024
on_disk size block inside = grind (arith, nat_tests)

walk_step : (next : List ℕ) (block m k : ℕ) → has k (walk next block (suc m))
    ≡ ((block == k) || has k (walk next (slice_index next block) m))
unfolding walk
walk_step next block m k = refl

turned : (a b : ℕ) → (a == b) ≡ (b == a)
turned a b = grind (arith, nat_tests)

moved : (w a b m : Bool) → a ≡ b → (w || (a || m)) ≡ ((b || w) || m)
moved true true b m e = ap (λ x. (x || true) || m) e
moved true false b m e = ap (λ x. (x || true) || m) e
moved false true b m e = ap (λ x. (x || false) || m) e
moved false false b m e = ap (λ x. (x || false) || m) e

-- a block for data that joins the free ones leaves the blocks in order
pub joins_free : (t : BlockTable) (marks : List ℕ) (block : ℕ) → AreBlocks t → is_data t.size block ≡ true → length marks ≡ length t.free
    → ((k : ℕ) → is_member marks k ≡ (k == block || is_member t.free k)) → AreBlocks (record t { free = marks })
joins_free t marks block are inside long members = record {
  sized = are.sized;
  free = long ∙ are.free;
  next = are.next;
  inside = λ k is. elim (one_or_other (k == block) (is_member t.free k) (sym (members k) ∙ is)) [
    | inl same ↦ subst (λ b. is_data t.size b ≡ true) (sym (eqb-true k block same)) inside
    | inr old ↦ are.inside k old
  ];
  short = are.short;
  needed = are.needed;
}

-- one more block of the chain is freed
pub freed : (t0 t : BlockTable) (marks : List ℕ) (first count block behind m : ℕ) → Freeing t0 t first count block (suc m)
    → length marks ≡ length t.free → ((k : ℕ) → is_member marks k ≡ (k == block || is_member t.free k))
    → behind ≡ slice_index t.next.items block → Freeing t0 (record t { free = marks }) first count behind m
freed t0 t marks first count block behind m f long members is =
    let inside : is_data t.size block ≡ true =
    subst (λ s. is_data s block ≡ true) (sym f.size) (walked t0.size t0.next.items block m f.inside) in
    let at : behind ≡ slice_index t0.next.items block = is ∙ ap (λ v. slice_index v.items block) f.next in
    record {
      blocks = joins_free t marks block f.blocks inside long members;
      size = f.size;
      next = f.next;
      needed = f.needed;
      inside = λ k in_rest. f.inside k (walk_step t0.next.items block m k ∙ or_true (block == k)
          (has k (walk t0.next.items (slice_index t0.next.items block) m))
          (subst (λ b. has k (walk t0.next.items b m) ≡ true) at in_rest));
      free = λ k.
          ap (λ b. has k (walk t0.next.items b m) || is_member marks k) at
          ∙ ap (λ x. has k (walk t0.next.items (slice_index t0.next.items block) m) || x) (members k)
          ∙ moved (has k (walk t0.next.items (slice_index t0.next.items block) m)) (k == block) (block == k) (is_member t.free k)
          (turned k block)
          ∙ ap (λ x. x || is_member t.free k) (sym (walk_step t0.next.items block m k))
          ∙ f.free k;
    }

pub none_freed : (t : BlockTable) (first count : ℕ) → AreBlocks t → AreDataIn t.size (walk t.next.items first count)
    → Freeing t t first count first count
none_freed t first count are inside = record {
  blocks = are;
  size = refl;
  next = refl;
  needed = refl;
  inside = inside;
  free = λ k. refl;
}

pub all_freed : (t0 t : BlockTable) (first count block left k : ℕ) → Freeing t0 t first count block left → left ≡ 0
    → is_member t.free k ≡ (has k (walk t0.next.items first count) || is_member t0.free k)
unfolding walk
all_freed t0 t first count block left k f none = ap (λ n. has k (walk t0.next.items block n) || is_member t.free k) (sym none) ∙ f.free k

-- while some are left, the next one is for data
pub next_is_data : (t0 t : BlockTable) (first count block left : ℕ) → Freeing t0 t first count block left → 1 ≤ left → is_data t.size block
    ≡ true
next_is_data t0 t first count block left f some =
    let more : left ≡ suc (left - 1) = omega (arith, some) in
    subst (λ s. is_data s block ≡ true) (sym f.size)
    (walked t0.size t0.next.items block (left - 1) (subst (λ n. AreDataIn t0.size (walk t0.next.items block n)) more f.inside))
