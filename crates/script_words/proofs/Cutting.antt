-- How the bytes of a script are cut.
use Rattle.std.proofs.Common.{◌≡◌, ◌∙◌, ap, sym, refl, ℕ, suc, ◌+◌, ◌-◌, ◌<◌, ◌≤◌, true, not, ◌==◌, List, []}
use Rattle.std.proofs.Common.{◌∷◌, ◌++◌, length, take, drop, inl, inr, arith, add-one}
use Rattle.std.proofs.Common.{drop_of_length-le}
use Rattle.std.specs.List.{list_all}
use Rattle.std.proofs.lemmas.Bool.{cases_Bool, and_from, eqb-true}
use Rattle.std.proofs.lemmas.List.{take_all}
use Rattle.script_words.specs.Form.{is_no_feed}
use Rattle.script_words.specs.Lines.{IsFirstLine}
use Rattle.script_words.proofs.Lines.{front, front_feed, front_more, rest_whole, front_taken}

-- ## The first line

no_feeds : (bytes : List ℕ) → list_all is_no_feed (front bytes) ≡ true
no_feeds [] = refl
no_feeds (b ∷ bytes) =
    elim (cases_Bool (b == 10)) [
      | inl h ↦ ap (list_all is_no_feed) (front_feed b bytes h)
      | inr h ↦ ap (list_all is_no_feed) (front_more b bytes h) ∙ and_from _ _ (ap not h) (no_feeds bytes)
    ]

front_split : (bytes : List ℕ) → length (front bytes) < length bytes → bytes ≡ front bytes ++ 10 ∷ drop (suc (length (front bytes))) bytes
front_split [] h = absurd (omega (arith, h))
front_split (b ∷ bytes) h =
    elim (cases_Bool (b == 10)) [
      | inl e ↦ rw (front_feed b bytes e) (ap (λ (c : ℕ). c ∷ bytes) (eqb-true b 10 e))
      | inr e ↦
          (let k : length (front (b ∷ bytes)) ≡ suc (length (front bytes)) = ap (λ (l : List ℕ). length l) (front_more b bytes e) in
          rw (front_more b bytes e) (ap (λ (l : List ℕ). b ∷ l) (front_split bytes (omega (arith, h, k)))))
    ]

pub first_taken : (bytes : List ℕ) (n : ℕ) → n ≡ length (front bytes) → n < length bytes
    → IsFirstLine bytes (take n bytes) (take (length bytes - (n + 1)) (drop (n + 1) bytes))
first_taken bytes n e h =
    rw (e, front_taken bytes, rest_whole (length (front bytes) + 1) bytes)
    (record {
      clean = no_feeds bytes;
      split = inl
          (front_split bytes (omega (arith, e, h)) ∙ ap (λ (k : ℕ). front bytes ++ 10 ∷ drop k bytes)
          (sym (add-one (length (front bytes)))));
    })

pub first_last : (bytes : List ℕ) (n : ℕ) → n ≡ length (front bytes) → length bytes ≤ n
    → IsFirstLine bytes bytes (take (length bytes - n) (drop n bytes))
first_last bytes n e h =
    let w : front bytes ≡ bytes = sym (front_taken bytes) ∙ take_all (length (front bytes)) bytes (omega (arith, e, h)) in
    record { clean = ap (list_all is_no_feed) (sym w) ∙ no_feeds bytes; split = inr (refl, rest_whole n bytes ∙ drop_of_length-le bytes h) }

pub no_bytes : (bytes : List ℕ) → length bytes ≡ 0 → bytes ≡ []
no_bytes [] h = refl
no_bytes (b ∷ bytes) h = absurd (omega (arith, h))
