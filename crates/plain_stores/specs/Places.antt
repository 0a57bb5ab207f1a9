-- Where an item with a uid stands in a list, or would stand.
use Rattle.std.specs.Prelude.{◌≡◌, ◌<◌, ℕ, Bool, true, false, List, Option, None, Some, slice_get}
use Rattle.std.specs.Ordering.{is_lt}
use Rattle.capability.specs.declared.Uid.{Uid}
use Rattle.eden_model.specs.Map.{with_item, same_uid, uid_cmp}

-- whether an item with this uid stands at this place
abbrev pub stands_at : {E : Type 0} → (E → Uid) → Uid → List E → ℕ → Bool
stands_at uid_of u es k = with_item (slice_get es k) (λ e. same_uid u (uid_of e)) false

-- the first place where an item with this uid stands, or none
abbrev pub IsFirstWith : {E : Type 0} → (E → Uid) → Uid → List E → Option ℕ → Type 0
IsFirstWith uid_of u es None = (k : ℕ) → stands_at uid_of u es k ≡ false
IsFirstWith uid_of u es (Some i) = (stands_at uid_of u es i ≡ true) × ((k : ℕ) → k < i → stands_at uid_of u es k ≡ false)

-- whether an item with a lesser uid stands at this place
abbrev pub lesser_at : {E : Type 0} → (E → Uid) → Uid → List E → ℕ → Bool
lesser_at uid_of u es k = with_item (slice_get es k) (λ e. is_lt (uid_cmp (uid_of e) u)) false

-- items with lesser uids stand before this place, and none stands there
abbrev pub IsBehindLesser : {E : Type 0} → (E → Uid) → Uid → List E → ℕ → Type 0
IsBehindLesser uid_of u es i = ((k : ℕ) → k < i → lesser_at uid_of u es k ≡ true) × (lesser_at uid_of u es i ≡ false)
