-- A write where any byte may stand leaves only images that fit.
use Rattle.std.specs.Prelude.{◌≡◌, ◌⊎◌, ℕ, ◌+◌, ◌-◌, ◌≤◌, ◌<◌, true, false, ◌||◌, List, [], ◌∷◌, length, slice_index}
use Rattle.std.proofs.Common.{get_or, refl, sym, ap, subst, ◌∙◌, inl, inr, arith}
use Rattle.std.proofs.lemmas.Bool.{false≢true}
use Rattle.std.proofs.lemmas.Bool.Decides.{nat_tests}
use Rattle.std.proofs.lemmas.List.{get_or_past}
use Rattle.eden_disk.specs.Told.{Contents, Range, Told, overlay, contents, in_range, is_unsynced, Left}
use Rattle.eden_disk.specs.Calls.{End, WriteTold}
use Rattle.eden_disk.specs.Held.{Holds, Passes}
use Rattle.eden_disk.proofs.Held.{passes_write}
use Rattle.eden_disk.proofs.Overlay.{length-overlay, overlay_outside, overlay_inside}
use Rattle.passive_blocks.specs.Fits.{Fits}

apart : (j k : ℕ) (rs : List Range) → is_unsynced j rs ≡ false → is_unsynced k rs ≡ true → j ≡ k → ⊥
apart j k rs free marked same = false≢true (sym free ∙ ap (λ i. is_unsynced i rs) same ∙ marked)

beside : (j k : ℕ) → (j ≡ k) ⊎ ((j < k) ⊎ (k + 1 ≤ j))
beside j k = grind (arith, nat_tests)

beside_marked : (j k : ℕ) (rs : List Range) → is_unsynced j rs ≡ false → is_unsynced k rs ≡ true → (j < k) ⊎ (k + 1 ≤ j)
beside_marked j k rs free marked = elim (beside j k) [
  | inl same ↦ absurd (apart j k rs free marked same)
  | inr other ↦ other
]

marked_or_not : (k : ℕ) (rs : List Range) → (is_unsynced k rs ≡ true) ⊎ (is_unsynced k rs ≡ false)
marked_or_not k rs = elim (is_unsynced k rs) as (λ b. (b ≡ true) ⊎ (b ≡ false)) [ true ↦ inl refl | false ↦ inr refl ]

within_or_not : (k n : ℕ) → (k < n) ⊎ (n ≤ k)
within_or_not k n = grind (arith, nat_tests)

-- what is stable is left by a crash, and so is each other byte at an unsynced place
stable_left : (c : Contents) → Left c c.stable
stable_left c = record { size = refl; outside = λ j free. refl }

changed_left : (c : Contents) (k b : ℕ) → k < length c.stable → is_unsynced k c.unsynced ≡ true → Left c (overlay k (b ∷ []) c.stable)
changed_left c k b within marked = record {
  size = length-overlay k (b ∷ []) c.stable (omega (arith, within));
  outside = λ j free. overlay_outside k j (b ∷ []) c.stable (omega (arith, within)) (beside_marked j k c.unsynced free marked);
}

-- At an unsynced place any byte may stand.
unsynced_may : (may : ℕ → ℕ → Type 0) (size : ℕ) (c : Contents) (k b : ℕ) → Holds (Fits may size) c → k < length c.stable → is_unsynced k
    c.unsynced ≡ true → may k b
unsynced_may may size c k b h within marked =
    let zeroth : k - k ≡ 0 = omega arith in
    subst (may k) (overlay_inside k k (b ∷ []) c.stable (omega (arith, within)) (omega arith) (omega arith) ∙ ap (λ i. get_or (b ∷ []) i 0)
    zeroth)
    ((h.left (overlay k (b ∷ []) c.stable) (changed_left c k b within marked)).bytes k)

in_or_out : (k : ℕ) (r : Range) → ((r.at ≤ k) × (k < r.at + r.len)) ⊎ (in_range k r ≡ false)
in_or_out k r = grind (arith, nat_tests)

past_end : (k : ℕ) (xs ys : List ℕ) → length xs ≡ length ys → length ys ≤ k → slice_index xs k ≡ slice_index ys k
past_end k xs ys same past = get_or_past xs k 0 (omega (arith, same, past)) ∙ sym (get_or_past ys k 0 past)

-- each image that a crash leaves fits, where it may at each written place
left_may : (may : ℕ → ℕ → Type 0) (size at len : ℕ) (c : Contents) (image : List ℕ) → Holds (Fits may size) c
    → ((k : ℕ) (b : ℕ) → at ≤ k → k < at + len → may k b) →
    length image ≡ length c.stable → ((k : ℕ) → (in_range k (record { at = at; len = len }) || is_unsynced k c.unsynced) ≡ false
    → slice_index image k ≡ slice_index c.stable k) →
    at + len ≤ size → (k : ℕ) → may k (slice_index image k)
left_may may size at len c image h any same outside fits k =
    let long : length c.stable ≡ size = (h.left c.stable (stable_left c)).long in
    elim (in_or_out k (record { at = at; len = len })) [
      | inl inside ↦ any k (slice_index image k) inside.0 inside.1
      | inr out ↦ elim (marked_or_not k c.unsynced) [
        | inl marked ↦ elim (within_or_not k (length c.stable)) [
          | inl within ↦ unsynced_may may size c k (slice_index image k) h within marked
          | inr past ↦ subst (may k) (sym (past_end k image c.stable same past)) ((h.left c.stable (stable_left c)).bytes k)
        ]
        | inr free ↦ subst (may k) (sym (outside k (ap (λ b. b || is_unsynced k c.unsynced) out ∙ free)))
            ((h.left c.stable (stable_left c)).bytes k)
      ]
    ]

in_or_beside : (k at len : ℕ) → ((at ≤ k) × (k < at + len)) ⊎ ((k < at) ⊎ (at + len ≤ k))
in_or_beside k at len = grind (arith, nat_tests)

now_may : (may : ℕ → ℕ → Type 0) (size at : ℕ) (bytes now : List ℕ) → Fits may size now
    → ((k : ℕ) (b : ℕ) → at ≤ k → k < at + length bytes → may k b) → at + length bytes ≤ length now →
    (k : ℕ) → may k (slice_index (overlay at bytes now) k)
now_may may size at bytes now h any fits k = elim (in_or_beside k at (length bytes)) [
  | inl inside ↦ any k (slice_index (overlay at bytes now) k) inside.0 inside.1
  | inr out ↦ subst (may k) (sym (overlay_outside at k bytes now fits out)) (h.bytes k)
]

-- A write, however it ends, leaves at each moment only images that fit, where any byte may stand at the places that it writes.
pub fits_write : (may : ℕ → ℕ → Type 0) (size clock at : ℕ) (bytes : List ℕ) (old new : Told) (end : End) → Holds (Fits may size)
    (contents old) →
    ((k : ℕ) (b : ℕ) → at ≤ k → k < at + length bytes → may k b) → at + length bytes ≤ size → WriteTold clock at bytes old new end → Passes
    (Fits may size) old new
fits_write may size clock at bytes old new end h any fits told =
    let c = contents old in
    passes_write (Fits may size) clock at bytes old new end h (λ left same. record {
      now = record {
        long = length-overlay at left c.now (omega (arith, same, fits, h.now.long)) ∙ h.now.long;
        bytes = now_may may size at left c.now h.now (λ k b from below. any k b from (omega (arith, below, same)))
            (omega (arith, same, fits, h.now.long));
      };
      left = λ image l. record {
        long = l.size ∙ (h.left c.stable (stable_left c)).long;
        bytes = left_may may size at (length left) c image h (λ k b from below. any k b from (omega (arith, below, same))) l.size l.outside
            (omega (arith, same, fits));
      };
    }) told
