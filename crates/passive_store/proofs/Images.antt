-- What a write leaves of a list of bytes, and what it may leave where it is cut short.
use Rattle.std.proofs.Common.{◌≡◌, ◌⊎◌, ℕ, ◌+◌, ◌-◌, suc, ◌≤◌, ◌<◌, false, List, [], ◌∷◌, ◌++◌, length, take, drop, get_or, refl, sym}
use Rattle.std.proofs.Common.{ap, subst, ◌∙◌, inl, inr, arith, append_assoc, length-append}
use Rattle.std.specs.Prelude.{◌==◌}
use Rattle.std.proofs.lemmas.List.{ext_get_or, take-append-drop, take_at, drop_at, length-take-le, get_or-take, length-drop, drop-drop}
use Rattle.std.proofs.lemmas.List.{get_or_append_left, get_or_at, get_or-append_right}
use Rattle.std.proofs.lemmas.Bool.Decides.{nat_tests, eqb_tells}
use Rattle.std.proofs.lemmas.Bool.{cases_lt}
use Rattle.eden_disk.specs.Told.{at_rest, after_act, Wrote, overlay, is_unsynced}
use Rattle.eden_disk.specs.Held.{Holds}
use Rattle.passive_store.specs.Log.{HalfWritten, Unwritten}

-- two lists that agree up to a place
pub same_front : (n : ℕ) (xs ys : List ℕ) → n ≤ length xs → n ≤ length ys → ((k : ℕ) → k < n → get_or xs k 0 ≡ get_or ys k 0)
    → take n xs ≡ take n ys
same_front n xs ys a b same = ext_get_or 0 (take n xs) (take n ys) (length-take-le n xs a ∙ sym (length-take-le n ys b))
    (λ k h. let below : k < n = omega (arith, h, length-take-le n xs a) in
    get_or-take n xs k 0 below ∙ same k below ∙ sym (get_or-take n ys k 0 below))

-- a write over what stands behind a front
pub overlay_behind : (front rest bytes : List ℕ) (at : ℕ) → length front ≡ at
    → overlay at bytes (front ++ rest) ≡ front ++ (bytes ++ drop (length bytes) rest)
overlay_behind front rest bytes at e =
    ap (λ l. l ++ bytes ++ drop (at + length bytes) (front ++ rest)) (take_at front rest at e)
    ∙ append_assoc front bytes (drop (at + length bytes) (front ++ rest))
    ∙ ap (λ l. front ++ (bytes ++ l)) (sym (drop-drop (length bytes) at (front ++ rest)) ∙ ap (drop (length bytes))
    (drop_at front rest at e))

-- an image that agrees with another below a place
pub with_front : (front rest image : List ℕ) → length image ≡ length (front ++ rest)
    → ((k : ℕ) → k < length front → get_or image k 0 ≡ get_or (front ++ rest) k 0) → image ≡ front ++ drop (length front) image
with_front front rest image size same =
    let longer : length front ≤ length (front ++ rest) = omega (arith, length-append front rest) in
    let shorter : length front ≤ length image = omega (arith, size) in
    let fronts : take (length front) image ≡ front = same_front (length front) image (front ++ rest) shorter longer same
    ∙ take_at front rest (length front) refl in
    sym (take-append-drop (length front) image) ∙ ap (λ l. l ++ drop (length front) image) fronts

pub outside_range : (k at len : ℕ) → (k < at) ⊎ (at + len ≤ k) → is_unsynced k (record { at = at; len = len } ∷ []) ≡ false
outside_range k at len h = grind (arith, nat_tests)

behind : (front : List ℕ) (a b : ℕ) (rest : List ℕ) (k : ℕ) → length front < k
    → get_or (front ++ a ∷ rest) k 0 ≡ get_or (front ++ b ∷ rest) k 0
behind front a b rest k past =
    let over : length front ≤ k = omega arith in
    let gap : k - length front ≡ suc (k - length front - 1) = omega arith in
    get_or-append_right front (a ∷ rest) (length front) k 0 refl over
    ∙ ap (λ n. get_or (a ∷ rest) n 0) gap ∙ sym (ap (λ n. get_or (b ∷ rest) n 0) gap)
    ∙ sym (get_or-append_right front (b ∷ rest) (length front) k 0 refl over)

-- an image that agrees with another but at one place
pub but_one : (front rest image : List ℕ) (gate : ℕ) → length image ≡ length (front ++ gate ∷ rest)
    → ((k : ℕ) → (k < length front) ⊎ (length front + 1 ≤ k) → get_or image k 0 ≡ get_or (front ++ gate ∷ rest) k 0)
    → image ≡ front ++ get_or image (length front) 0 ∷ rest
but_one front rest image gate size same =
    let total : length (front ++ gate ∷ rest) ≡ length front + (length rest + 1) = omega (arith, length-append front (gate ∷ rest)) in
    ext_get_or 0 image (front ++ get_or image (length front) 0 ∷ rest)
    (omega (arith, size, total, length-append front (get_or image (length front) 0 ∷ rest)))
    (λ k h. elim (cases_lt k (length front)) [
      | inl below ↦ same k (inl below) ∙ get_or_append_left front (gate ∷ rest) 0 k below ∙ sym
          (get_or_append_left front (get_or image (length front) 0 ∷ rest) 0 k below)
      | inr above ↦ elim (cases_lt (length front) k) [
        | inl past ↦ same k (inr (omega (arith, past))) ∙ behind front gate (get_or image (length front) 0) rest k past
        | inr level ↦ let at : k ≡ length front = omega arith in
            ap (λ n. get_or image n 0) at ∙ sym (get_or_at front (get_or image (length front) 0) rest 0 k (sym at))
      ]
    ])

-- While a record is written behind a closed gate, the gate stays closed, whatever is left of the record.
pub written_behind : (size clock gate : ℕ) (front rest left : List ℕ) → (gate == 225) ≡ false → length (front ++ gate ∷ rest) ≡ size
    → length left ≤ length rest →
    Holds (Unwritten size front) (after_act (Wrote clock (length front + 1) left) (at_rest (front ++ gate ∷ rest)))
written_behind size clock gate front rest left shut whole fits =
    let whole_front : List ℕ = front ++ gate ∷ [] in
    let at : length whole_front ≡ length front + 1 = omega (arith, length-append front (gate ∷ [])) in
    let split : whole_front ++ rest ≡ front ++ gate ∷ rest = append_assoc front (gate ∷ []) rest in
    let is_now : overlay (length front + 1) left (front ++ gate ∷ rest) ≡ front ++ gate ∷ (left ++ drop (length left) rest) =
    ap (overlay (length front + 1) left) (sym split) ∙ overlay_behind whole_front rest left (length front + 1) at ∙ append_assoc front
    (gate ∷ []) (left ++ drop (length left) rest) in
    record {
      now = (
        ap length is_now ∙ omega (
          arith,
          whole,
          fits,
          length-append front (gate ∷ (left ++ drop (length left) rest)),
          length-append left (drop (length left) rest),
          length-drop (length left) rest,
          length-append front (gate ∷ rest),
        ),
        (gate, left ++ drop (length left) rest, shut, is_now),
      );
      left = λ image l. (
        l.size ∙ whole,
        (
          gate,
          drop (length whole_front) image,
          shut,
          with_front whole_front rest image (l.size ∙ ap length (sym split))
              (λ k h. l.outside k (outside_range k (length front + 1) (length left) (inl (omega (arith, h, at)))) ∙ ap
              (λ xs. get_or xs k 0) (sym split))
              ∙ append_assoc front (gate ∷ []) (drop (length whole_front) image),
        ),
      );
    }

open_or_closed : (size x : ℕ) (front bytes rest image : List ℕ) → length image ≡ size → image ≡ front ++ x ∷ (bytes ++ rest)
    → HalfWritten size front bytes image
open_or_closed size x front bytes rest image whole is =
    elim (eqb_tells x 225) [
      | inl e ↦ (whole, inr (rest, is ∙ ap (λ g. front ++ g ∷ (bytes ++ rest)) e.1))
      | inr e ↦ (whole, inl (x, bytes ++ rest, e.0, is))
    ]

one_byte : (left : List ℕ) → length left ≡ 1 → (x : ℕ) × (left ≡ x ∷ [])
one_byte [] e = absurd (omega arith)
one_byte (x ∷ []) e = (x, refl)
one_byte (x ∷ (y ∷ left)) e = absurd (omega arith)

-- While the gate is written, it is open or closed, and the record stands behind it.
pub gate_written : (size clock gate : ℕ) (front bytes rest left : List ℕ) → length (front ++ gate ∷ (bytes ++ rest)) ≡ size
    → length left ≡ 1 →
    Holds (HalfWritten size front bytes) (after_act (Wrote clock (length front) left) (at_rest (front ++ gate ∷ (bytes ++ rest))))
gate_written size clock gate front bytes rest left whole one =
    let x = one_byte left one in
    let is_now : overlay (length front) left (front ++ gate ∷ (bytes ++ rest)) ≡ front ++ x.0 ∷ (bytes ++ rest) =
    ap (λ l. overlay (length front) l (front ++ gate ∷ (bytes ++ rest))) x.1 ∙ overlay_behind front (gate ∷ (bytes ++ rest)) (x.0 ∷ [])
    (length front) refl in
    record {
      now = open_or_closed size x.0 front bytes rest _
          (ap length is_now ∙ omega (
            arith,
            whole,
            length-append front (x.0 ∷ (bytes ++ rest)),
            length-append front (gate ∷ (bytes ++ rest)),
          )) is_now;
      left = λ image l. open_or_closed size (get_or image (length front) 0) front bytes rest image (l.size ∙ whole)
          (but_one front (bytes ++ rest) image gate l.size
          (λ k h. l.outside k (subst (λ n. is_unsynced k (record { at = length front; len = n } ∷ []) ≡ false) (sym one)
          (outside_range k (length front) 1 h))));
    }
