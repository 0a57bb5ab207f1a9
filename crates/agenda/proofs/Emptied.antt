-- What an index with no entries says.
use Rattle.std.proofs.Common.{◌≡◌, Bool, true, false, cond, List, [], ◌∷◌, map, length, None, refl, ap}
use Rattle.std.proofs.lemmas.List.{nil_from_length}
use Rattle.std.specs.Ordering.{eq_by_cmp}
use Rattle.std.specs.List.Sorted.{IsStrictlySortedBy}
use Rattle.capability.specs.declared.Uid.{Uid}
use Rattle.eden_model.specs.Map.{value_at, uid_cmp}
use Rattle.agenda.specs.Indexed.{entry_if}

pub no-uids : (es : List (Uid × Bool)) → length es ≡ 0 → map (λ e. e.0) es ≡ []
no-uids es is = ap (map (λ (e : Uid × Bool). e.0)) (nil_from_length es is)

pub no-entries : (es : List (Uid × Bool)) → map (λ e. e.0) es ≡ [] → length es ≡ 0
no-entries [] is = refl
no-entries (e ∷ es) is = absurd (cc)

-- one that was to go is not there, and all else is as it was
pub empty-at : (among : Bool) (es : List (Uid × Bool)) → among ≡ false → map (λ e. e.0) es ≡ [] → (u q : Uid)
    → value_at uid_cmp q es ≡ cond (eq_by_cmp uid_cmp u q) (entry_if among) (value_at uid_cmp q es)
empty-at true es not is u q = absurd (cc)
empty-at false (e ∷ es) not is u q = absurd (cc)
empty-at false [] not is u q = go (eq_by_cmp uid_cmp u q)
  where
    go : (b : Bool) → None ≡ cond b (entry_if false) None
    go true = refl
    go false = refl

pub empty-ascends : (us : List Uid) → us ≡ [] → IsStrictlySortedBy uid_cmp us
unfolding IsStrictlySortedBy
empty-ascends [] is = tt
empty-ascends (u ∷ us) is = absurd (cc)
