-- What is kept in an image of zeros.
use Rattle.std.specs.Prelude.{◌≡◌, ◌==◌, ℕ, zero, suc, Bool, true, false, List, replicate, length, nat_lt, slice_index, Result, Ok, Err}
use Rattle.std.specs.Prelude.{if◌then◌else◌}
use Rattle.std.proofs.Common.{refl, sym, ap, ◌∙◌}
use Rattle.std.specs.FinMap as map
use Rattle.std.specs.FinMap.{FinMap}
use Rattle.capability.specs.Uids.{uid_cmp}
use Rattle.passive_store.specs.Kept.{Kept, nothing_kept, kept_by}
use Rattle.passive_store.specs.Log.{records_of}
use Rattle.passive_store.specs.LogLayout.{log_layout}
use Rattle.equal_answers.specs.Alike.{KeepsNothingInZeros}

abbrev pub bodies_in : Result Kept ℕ → FinMap uid_cmp (List ℕ)
bodies_in (Ok kept) = kept.bodies
bodies_in (Err place) = map.empty

pub nothing_in : (found : Result Kept ℕ) (kept : Kept) → found ≡ Ok nothing_kept → found ≡ Ok kept → kept.bodies ≡ map.empty
nothing_in found kept none some = ap bodies_in (sym some ∙ none)

pub zero_at : (n k : ℕ) → slice_index (replicate n 0) k ≡ 0
zero_at zero k = refl
zero_at (suc n) zero = refl
zero_at (suc n) (suc k) = zero_at n k

where_no_log : (short is_log : Bool) (found : Result Kept ℕ) (kept : Kept) → is_log ≡ false
    → (if short then Err 0 else (if is_log then found else Ok nothing_kept)) ≡ Ok kept → kept.bodies ≡ map.empty
where_no_log true is_log found kept none some = absurd (cc some)
where_no_log false true found kept none some = absurd (cc none)
where_no_log false false found kept none some = ap bodies_in (sym some)

pub log_of_zeros : KeepsNothingInZeros log_layout
log_of_zeros node size kept is = where_no_log (nat_lt (length (replicate {A = ℕ} size 0)) 17) (slice_index (replicate size 0) 0 == 237)
    (kept_by (records_of node (replicate size 0))) kept (ap (λ byte. byte == 237) (zero_at size 0)) is
