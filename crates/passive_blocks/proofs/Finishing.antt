-- What stands on a disk once its staged heads were moved to their places.
use Rattle.std.specs.Prelude.{◌≡◌, ◌⊎◌, ℕ, suc, zero, ◌+◌, ◌≤◌, ◌<◌, List, [], ◌∷◌, length, flat_map, slice_index, slice_range}
use Rattle.std.proofs.Common.{refl, sym, ap, ◌∙◌, inl, inr, arith}
use Rattle.eden_disk.specs.Told.{Told, Contents, contents, at_rest, overlay}
use Rattle.eden_disk.specs.Held.{Passes}
use Rattle.eden_disk.proofs.Overlay.{length-overlay, overlay_outside, overlay_inside}
use Rattle.passive_store.specs.Acts.{DiskCall, AllTold}
use Rattle.block_tables.specs.Blocks.{numbers}
use Rattle.passive_blocks.specs.Conversion.{finished, finishing_calls}
use Rattle.passive_blocks.specs.Fits.{Fits}
use Rattle.passive_blocks.specs.Converting.{IsStagedLog}
use Rattle.passive_blocks.proofs.ConvertStages.{may_move}
use Rattle.passive_blocks.proofs.Moving.{moving_calls, moving_end}
use Rattle.passive_blocks.proofs.Converting.{same_finished, finished_is, same_moved}
use Rattle.passive_blocks.proofs.ConvertMoments.{all_parted, all_pass, rest_fits, all_may, staged_long, AreMoved, moved_all, IsMovedFrom}
use Rattle.passive_blocks.proofs.ConvertMoments.{moved_from_is}

beside_one : (k : ℕ) → (k ≡ 1 → ⊥) → (k < 1) ⊎ (2 ≤ k)
beside_one zero other = inl (omega arith)
beside_one (suc zero) other = absurd (other refl)
beside_one (suc (suc k)) other = inr (omega arith)

low_place : (k : ℕ) → (k < 1) ⊎ ((2 ≤ k) × (k < 1024)) → k < 1024
low_place k (inl below) = omega (arith, below)
low_place k (inr within) = within.1

low_other : (k : ℕ) → (k < 1) ⊎ ((2 ≤ k) × (k < 1024)) → (k < 1) ⊎ (2 ≤ k)
low_other k (inl below) = inl below
low_other k (inr within) = inr within.0

end_is : (start now : List ℕ) → IsStagedLog start → Fits (may_move start) 4194304 now → IsMovedFrom start now
    → overlay 1 (235 ∷ []) now ≡ finished start
end_is start now is fits m =
    let image : List ℕ = overlay 1 (235 ∷ []) now in
    let room : 1 + 1 ≤ length now = omega (arith, fits.long) in
    let long : length image ≡ length now = length-overlay 1 (235 ∷ []) now room in
    let same : (k : ℕ) → (k ≡ 1 → ⊥) → slice_index image k ≡ slice_index now k =
    λ k other. overlay_outside 1 k (235 ∷ []) now room (beside_one k other) in
    sym (finished_is image (long ∙ fits.long) (overlay_inside 1 1 (235 ∷ []) now room (omega arith) (omega arith))
    (same_moved now image long m.moved same))
    ∙ same_finished image now long (λ k low. overlay_outside 1 k (235 ∷ []) now room (low_other k low))
    (λ k high. overlay_outside 1 k (235 ∷ []) now room (inr (omega (arith, high))))
    ∙ same_finished now start (fits.long ∙ sym is.long) (λ k low. fits.bytes k (inl (low_place k low))) (λ k high. fits.bytes k (inr high))

pub finished_told : (start : List ℕ) (old new : Told) → contents old ≡ at_rest start → IsStagedLog start
    → AllTold (finishing_calls (slice_range start 4063232 4194304)) old new → contents new ≡ at_rest (finished start)
finished_told start old new rest is told =
    let bytes : List ℕ = slice_range start 4063232 4194304 in
    let moves : List DiskCall = flat_map (moving_calls bytes) (numbers 0 128) in
    let two = all_parted moves moving_end old new told in
    let size : length (contents old).now ≡ 4194304 = ap (λ (c : Contents). length c.now) rest ∙ is.long in
    let first : Passes (Fits (may_move start) 4194304) old two.0 = all_pass (may_move start) 4194304 moves old two.0
    (all_may start bytes 128 (omega arith) (staged_long start is.long))
    (rest_fits (may_move start) 4194304 start old rest (record { long = is.long; bytes = λ k outside. refl })) two.1 in
    let there : AreMoved bytes 128 (contents two.0).now =
    moved_all bytes 128 old two.0 (omega arith) (staged_long start is.long) size two.1 in
    let e = two.2 in
    ap (λ t. contents t) (e.3.3.3 ∙ e.3.3.2)
    ∙ ap (λ t. at_rest (contents t).now) e.3.2
    ∙ ap (λ t. at_rest (overlay 1 (235 ∷ []) (contents t).now)) e.2
    ∙ ap (λ xs. at_rest xs) (end_is start (contents two.0).now is first.after.now
    (moved_from_is start (contents two.0).now is first.after.now there))

pub finished_byte : (start : List ℕ) → length start ≡ 4194304 → slice_index (finished start) 1 ≡ 235
finished_byte start long = by_list start (omega (arith, long))
  where
    by_list : (xs : List ℕ) → 1 ≤ length xs → slice_index (finished xs) 1 ≡ 235
    by_list [] least = absurd (omega (arith, least))
    by_list (x ∷ xs) least = refl
