-- The heads of a conversion read as what they say, and are of the format.
use Rattle.std.specs.Prelude.{◌≡◌, ◌⊎◌, ℕ, ◌+◌, ◌^◌, ◌≤◌, ◌<◌, ◌==◌, Bool, true, false, not, ◌&&◌, ◌||◌, nat_le}
use Rattle.std.specs.Prelude.{List, [], ◌∷◌, length, map}
use Rattle.std.specs.List.{AllByRecursion}
use Rattle.std.proofs.Common.{refl, ap, ◌∙◌, inl, inr, arith}
use Rattle.std.proofs.lemmas.Bool.Decides.{nat_tests}
use Rattle.std.proofs.lemmas.Nat.{from_be_bytes-to_be_bytes_2, from_be_bytes-to_be_bytes_4, from_be_bytes-to_be_bytes_8}
use Rattle.std.specs.Int.{w16, w32, w64, from_be_bytes, to_be_bytes}
use Rattle.capability.specs.declared.Uid.{Uid}
use Rattle.block_tables.specs.Blocks.{Head, blocks_of, is_data, is_head, head_in, are_fields}
use Rattle.block_tables.specs.Changes.{spelled_head}
use Rattle.passive_blocks.specs.Conversion.{Moved, moved_from}
use Rattle.passive_blocks.specs.Converting.{IsGoodEntry}
use Rattle.passive_blocks.proofs.ConvertStages.{AreGoodHeads, blocks_for_all}

value_head : ℕ → Uid → ℕ → ℕ → Head
value_head number uid size first =
    record { number = number; uid = uid; removal = false; sequence = number + 1; size = size; first = first }

read_as : ℕ → ℕ → ℕ → ℕ → ℕ → ℕ → ℕ → Head
read_as number node epoch serial sequence size first = record {
  number = number;
  uid = record { node = node; epoch = epoch; serial = serial };
  removal = false;
  sequence = sequence;
  size = size;
  first = first;
}

reads_back : (number : ℕ) (uid : Uid) (size first : ℕ) → number < 4096 → uid.epoch < 2 ^ 32 → uid.serial < 2 ^ 32 → size ≤ 262144
    → first < 4096 → head_in number (225 ∷ spelled_head (value_head number uid size first)) ≡ value_head number uid size first
unfolding value_head read_as
reads_back number uid size first few epoch serial limit on =
    let e : ℕ = from_be_bytes w32 (to_be_bytes w32 uid.epoch) in
    let s : ℕ = from_be_bytes w32 (to_be_bytes w32 uid.serial) in
    let q : ℕ = from_be_bytes w64 (to_be_bytes w64 (number + 1)) in
    let n : ℕ = from_be_bytes w32 (to_be_bytes w32 size) in
    let f : ℕ = from_be_bytes w16 (to_be_bytes w16 first) in
    ap (λ x. read_as number uid.node x s q n f) (from_be_bytes-to_be_bytes_4 uid.epoch epoch)
    ∙ ap (λ x. read_as number uid.node uid.epoch x q n f) (from_be_bytes-to_be_bytes_4 uid.serial serial)
    ∙ ap (λ x. read_as number uid.node uid.epoch uid.serial x n f) (from_be_bytes-to_be_bytes_8 (number + 1) (omega (arith, few)))
    ∙ ap (λ x. read_as number uid.node uid.epoch uid.serial (number + 1) x f) (from_be_bytes-to_be_bytes_4 size (omega (arith, limit)))
    ∙ ap (λ x. read_as number uid.node uid.epoch uid.serial (number + 1) size x) (from_be_bytes-to_be_bytes_2 first (omega (arith, on)))

own_test : (epoch serial size : ℕ) → ((1 ≤ epoch) × (1 ≤ serial)) ⊎ ((epoch ≡ 0) × (serial ≡ 0) × (size ≡ 4))
    → ((epoch == 0 && serial == 0 && true && size == 4) || (not (epoch == 0) && not (serial == 0))) ≡ true
own_test epoch serial size (inl eject) = grind (arith, nat_tests)
own_test epoch serial size (inr reserved) = grind (arith, nat_tests)

all_four : (a b c d : Bool) → a ≡ true → b ≡ true → c ≡ true → d ≡ true → (a && b && c && d) ≡ true
all_four a b c d w x y z = ap (λ t. t && b && c && d) w ∙ ap (λ t. t && c && d) x ∙ ap (λ t. t && d) y ∙ z

all_five : (a b c d e : Bool) → a ≡ true → b ≡ true → c ≡ true → d ≡ true → e ≡ true → (a && b && c && d && e) ≡ true
all_five a b c d e v w x y z = ap (λ t. t && e) (all_four a b c d v w x y) ∙ z

at_most : (a b : ℕ) → a ≤ b → nat_le a b ≡ true
at_most a b less = grind (arith, nat_tests)

same_node : (a b : ℕ) → a ≡ b → (a == b) ≡ true
same_node a b same = grind (arith, nat_tests)

in_data : (first : ℕ) → 129 ≤ first → first < 4096 → is_data 4194304 first ≡ true
in_data first from below = grind (arith, nat_tests)

fits_format : (node number : ℕ) (uid : Uid) (size first : ℕ) → number < 4096 → IsGoodEntry node uid size → 129 ≤ first → first < 4096
    → is_head node 4194304 (225 ∷ spelled_head (value_head number uid size first)) (value_head number uid size first) ≡ true
unfolding value_head
fits_format node number uid size first few good from below =
    all_five (are_fields node size uid 1) (is_data 4194304 first) (nat_le 1 (number + 1)) (nat_le (number + 1) (2 ^ 63)) true
    (all_four (nat_le size 262144) true (uid.node == node)
    ((uid.epoch == 0 && uid.serial == 0 && true && size == 4) || (not (uid.epoch == 0) && not (uid.serial == 0)))
    (at_most size 262144 good.limit) refl (same_node uid.node node good.node_is) (own_test uid.epoch uid.serial size good.own))
    (in_data first from below) (at_most 1 (number + 1) (omega arith)) (at_most (number + 1) (2 ^ 63) (omega (arith, few))) refl

block_least : (n : ℕ) → 1 ≤ blocks_of n
block_least n = omega arith

pub good_heads : (node number first : ℕ) (es : List (Uid × List ℕ))
    → AllByRecursion (λ (e : Uid × List ℕ). IsGoodEntry node e.0 (length e.1)) es → number + blocks_for_all es ≤ 4096 → 129 ≤ first
    → first + blocks_for_all es ≤ 4096 → AreGoodHeads node 4194304 number (map (λ (m : Moved). m.head) (moved_from number first es))
unfolding moved_from value_head
good_heads node number first [] good few from fits = tt
good_heads node number first (e ∷ es) good few from fits =
    let least : 1 ≤ blocks_of (length e.1) = block_least (length e.1) in (
      record {
        sequence = refl;
        reads = reads_back number e.0 (length e.1) first (omega (arith, few, least)) good.0.epoch good.0.serial good.0.limit
            (omega (arith, fits, least));
        fits = fits_format node number e.0 (length e.1) first (omega (arith, few, least)) good.0 from (omega (arith, fits, least));
      },
      good_heads node (number + 1) (first + blocks_of (length e.1)) es good.1 (omega (arith, few, least)) (omega (arith, from))
          (omega (arith, fits)),
    )
