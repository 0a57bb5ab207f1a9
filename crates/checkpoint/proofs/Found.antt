-- What stands for what a store keeps stands for the same in a world.
use Rattle.std.proofs.Common.{◌≡◌, ℕ, Bool, true, false, cond, not, List, [], ◌∷◌, Option, None, Some, Result, refl, sym, ap, subst, ◌∙◌}
use Rattle.std.proofs.Common.{inl, inr}
use Rattle.std.specs.FinMap as finite
use Rattle.std.specs.FinMap.{FinMap}
use Rattle.std.specs.FinMap.Entries.{is_sorted-where_key, find-where_key, same_entries}
use Rattle.std.specs.declared.cmp.Ordering.TheVariants.{Equal}
use Rattle.capability.specs.declared.Uid.{Uid}
use Rattle.capability.specs.Uids.{uid_cmp}
use Rattle.capability.proofs.Uids.{uid_cmp_total, uid_cmp-IsAntisymmetric}
use Rattle.eden_model.specs.Map.{where_key, same_uid}
use Rattle.eden_disk.specs.Told.{Told, EachMoment, LeavesOnly, contents}
use Rattle.eden_disk.proofs.Held.{moments_weaker}
use Rattle.passive_store.specs.Kept.{Layout, Kept, bodies_after, kept_after}
use Rattle.passive_store.specs.Kept.{StoreChange, IsAnyOf as IsAnyKept, Stands as StandsKept}
use Rattle.journal.specs.Opening.{entries_of}
use Rattle.journal.specs.Standing.{Stands, IsAnyOf, changed_map}
use Rattle.checkpoint.specs.Found.{change_of, all_of, standing_of}

-- 1. The entries of a map after a change

unless : {A : Type 0} (b : Bool) (x y : A) → cond (not b) x y ≡ cond b y x
unless true x y = refl
unless false x y = refl

pub entries-remove : {X : Type 0} (m : FinMap uid_cmp X) (u : Uid)
    → finite.entries (finite.remove m u) ≡ where_key uid_cmp (λ v. not (same_uid v u)) (finite.entries m)
entries-remove {X = X} m u = same_entries uid_cmp uid_cmp_total uid_cmp-IsAntisymmetric _ _ (finite.entries_sorted (finite.remove m u))
    (is_sorted-where_key uid_cmp (λ v. not (same_uid v u)) (finite.entries m) (finite.entries_sorted m))
    (λ q. sym (finite.get-entries (finite.remove m u) q) ∙ finite.get-remove uid_cmp_total m u q
    ∙ sym (find-where_key uid_cmp (λ v. not (same_uid v u)) q (alike q) (finite.entries m) ∙ unless (same_uid q u) _ _
    ∙ ap (cond (same_uid q u) None) (sym (finite.get-entries m q))))
  where
    alike : (q x : Uid) → uid_cmp q x ≡ Equal → not (same_uid x u) ≡ not (same_uid q u)
    alike q x t = ap (λ v. not (same_uid v u)) (sym (uid_cmp-IsAntisymmetric q x t))

pub entries-after : (u : Uid) (new : Option (List ℕ)) (m : FinMap uid_cmp (List ℕ))
    → finite.entries (bodies_after u new m) ≡ changed_map (u, change_of new) (finite.entries m)
entries-after u None m = entries-remove m u
entries-after u (Some bytes) m = finite.entries-insert uid_cmp_total m u bytes

-- 2. An image that stands for what a store keeps stands for the same in a world

any-of : (kept : Kept) (cs : List StoreChange) (found : Result Kept ℕ) → IsAnyKept kept cs found
    → IsAnyOf (finite.entries kept.bodies) (all_of cs) (entries_of found)
any-of kept [] found is = ap entries_of is
any-of kept (c ∷ cs) found (inl old) = inl (any-of kept cs found old)
any-of kept (c ∷ cs) found (inr new) = inr
    (subst (λ l. IsAnyOf l (all_of cs) (entries_of found)) (entries-after c.uid c.body kept.bodies)
    (any-of (kept_after c kept) cs found new.1))

pub kept-stands : (layout : Layout) (n more : ℕ) (kept : Kept) (cs : List StoreChange) (image : List ℕ)
    → StandsKept layout n more kept cs image → Stands layout n (standing_of kept cs) image
kept-stands layout n more kept cs image is = any-of kept cs (layout.map_of n image) is.found

-- at each moment, and of each image that is left
pub kept-moments : (layout : Layout) (n more : ℕ) (kept : Kept) (cs : List StoreChange) (old new : Told)
    → EachMoment (StandsKept layout n more kept cs) old new → EachMoment (Stands layout n (standing_of kept cs)) old new
kept-moments layout n more kept cs old new each =
    moments_weaker (StandsKept layout n more kept cs) (Stands layout n (standing_of kept cs)) old new
    (kept-stands layout n more kept cs) each

pub kept-left : (layout : Layout) (n more : ℕ) (kept : Kept) (cs : List StoreChange) (told : Told)
    → LeavesOnly (StandsKept layout n more kept cs) (contents told) → LeavesOnly (Stands layout n (standing_of kept cs)) (contents told)
kept-left layout n more kept cs told each image left = kept-stands layout n more kept cs image (each image left)
