-- What a pick found stands before it too.
use Rattle.std.proofs.Common.{ℕ, List, [], ◌∷◌, subst, inl, inr}
use Rattle.capability.specs.declared.Uid.{Uid}
use Rattle.passive_store.specs.declared.store.Pick.{Pick}
use Rattle.passive_store.specs.declared.store.Pick.TheVariants as pick
use Rattle.passive_store.specs.Kept.{Layout, Kept}
use Rattle.passive_store.specs.Kept.{StoreChange}
use Rattle.journal.specs.EjectChange.{EjectChange}
use Rattle.journal.specs.Opening.{found_in}
use Rattle.journal.specs.Standing.{Stands, IsAnyOf, with_changes}
use Rattle.checkpoint.specs.Found.{standing_of}
use Rattle.checkpoint.proofs.Found.{entries-after}
use Rattle.checkpoint.proofs.Changed.{picked_kept}

-- what stands behind the pick stands before it
pub picked-back : (layout : Layout) (n : ℕ) (k : Pick) (c : StoreChange) (kept : Kept) (put : List (Uid × EjectChange)) (image : List ℕ)
    → Stands layout n (with_changes put (standing_of (picked_kept k c kept) [])) image
    → Stands layout n (with_changes put (standing_of kept (c ∷ []))) image
picked-back layout n pick.Old c kept put image is = inl is
picked-back layout n pick.New c kept put image is =
    inr (subst (λ l. IsAnyOf l put (found_in layout n image)) (entries-after c.uid c.body kept.bodies) is)
