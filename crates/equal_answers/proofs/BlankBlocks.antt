-- What blocks keep in an image of zeros.
use Rattle.std.specs.Prelude.{◌≡◌, ℕ, Bool, true, false, List, replicate, length, Ok, Err, if◌then◌else◌}
use Rattle.std.proofs.Common.{refl, ap}
use Rattle.std.specs.FinMap as map
use Rattle.passive_store.specs.Kept.{Kept}
use Rattle.block_tables.specs.Blocks.{is_block_size}
use Rattle.passive_blocks.specs.BlockLayout.{Format, Blank, format_of, map_by, block_layout}
use Rattle.equal_answers.specs.Alike.{KeepsNothingInZeros}
use Rattle.equal_answers.proofs.Blank.{zero_at, nothing_in}

zeros_are_blank : (size : ℕ) → format_of (replicate size 0) ≡ Blank
zeros_are_blank size = rw (zero_at size 1, zero_at size 0) refl

where_blank : (sized : Bool) (format : Format) (node : ℕ) (image : List ℕ) (kept : Kept) → format ≡ Blank
    → (if sized then map_by format node image else Err 0) ≡ Ok kept → kept.bodies ≡ map.empty
where_blank true format node image kept blank some =
    nothing_in (map_by format node image) kept (ap (λ f. map_by f node image) blank) some
where_blank false format node image kept blank some = absurd (cc some)

pub blocks_of_zeros : KeepsNothingInZeros block_layout
blocks_of_zeros node size kept is = where_blank (is_block_size (length (replicate {A = ℕ} size 0))) (format_of (replicate size 0)) node
    (replicate size 0) kept (zeros_are_blank size) is
