-- Laws of the definitions of specs/Marks.
use Rattle.std.specs.Prelude.{◌≡◌, ◌≢◌, ℕ, List, [], ◌∷◌, Option, None, Some, Result, Bool, true, false}
use Rattle.std.proofs.Common.{refl, ap, ◌∙◌, inl, inr, cond}
use Rattle.std.specs.FinMap as map
use Rattle.std.specs.FinMap.{FinMap}
use Rattle.std.specs.Ordering.{eq_by_cmp, is_eq}
use Rattle.std.specs.declared.cmp.Ordering.{Ordering}
use Rattle.std.specs.declared.cmp.Ordering.TheVariants.{Less, Equal, Greater}
use Rattle.std.specs.Cmp.{eq_by_cmp_equiv}
use Rattle.std.proofs.lemmas.Bool.{false≢true}
use Rattle.capability.specs.declared.Uid.{Uid}
use Rattle.capability.specs.Uids.{uid_cmp}
use Rattle.capability.proofs.Uids.{uid_cmp_total, uid_cmp-IsAntisymmetric}
use Rattle.passive_store.specs.declared.store.Pick.{Pick}
use Rattle.passive_store.specs.declared.store.Pick.TheVariants.{Old, New}
use Rattle.passive_store.specs.Kept.{Kept, StoreChange, IsAnyOf, IsFresh, bodies_after, marks_after, kept_after}
use Rattle.passive_store.specs.Marks.{IsOldOrNew, PickTellsMark}

old_is_not_new : Option.Some Old ≡ Some New → ⊥
old_is_not_new e = cc

none_is_not_new : Option.None ≡ Some New → ⊥
none_is_not_new e = cc

pub pick_tells_mark : (pick : Option Pick) (c : StoreChange) (synced : Bool) (s : Kept) → IsFresh c s → PickTellsMark pick c synced s
pick_tells_mark None c synced s fresh = (λ e. absurd (none_is_not_new e), λ other. absurd (other refl))
pick_tells_mark (Some Old) c synced s fresh = (λ e. absurd (old_is_not_new e), λ other. absurd (other refl))
pick_tells_mark (Some New) c synced s fresh = (λ e. fresh, λ other. refl)

tied : (o : Ordering) → is_eq o ≡ true → o ≡ Equal
tied Less h = absurd (false≢true h)
tied Equal h = refl
tied Greater h = absurd (false≢true h)

unless_true : (b : Bool) → (b ≡ true → ⊥) → b ≡ false
unless_true true wrong = absurd (wrong refl)
unless_true false wrong = refl

other_uid : (uid other : Uid) → uid ≢ other → eq_by_cmp uid_cmp uid other ≡ false
other_uid uid other apart =
    unless_true (eq_by_cmp uid_cmp uid other) (λ same. apart (uid_cmp-IsAntisymmetric uid other (tied (uid_cmp uid other) same)))

new_body : (uid : Uid) (body : Option (List ℕ)) (m : FinMap uid_cmp (List ℕ)) → map.get (bodies_after uid body m) uid ≡ body
new_body uid None m = map.get-remove uid_cmp_total m uid uid
    ∙ ap (λ b. cond b None (map.get m uid)) ((eq_by_cmp_equiv uid_cmp_total).refl uid)
new_body uid (Some body) m = map.get-insert uid_cmp_total m uid body uid
    ∙ ap (λ b. cond b (Some body) (map.get m uid)) ((eq_by_cmp_equiv uid_cmp_total).refl uid)

other_body : (uid q : Uid) (body : Option (List ℕ)) (m : FinMap uid_cmp (List ℕ)) → q ≢ uid
    → map.get (bodies_after uid body m) q ≡ map.get m q
other_body uid q None m apart = map.get-remove uid_cmp_total m uid q ∙ ap (λ b. cond b None (map.get m q)) (other_uid q uid apart)
other_body uid q (Some body) m apart = map.get-insert uid_cmp_total m uid body q
    ∙ ap (λ b. cond b (Some body) (map.get m q)) (other_uid q uid apart)

other_mark : (uid q : Uid) (body : Option (List ℕ)) (mark : ℕ) (m : FinMap uid_cmp ℕ) → q ≢ uid
    → map.get (marks_after uid body mark m) q ≡ map.get m q
other_mark uid q None mark m apart = map.get-remove uid_cmp_total m uid q ∙ ap (λ b. cond b None (map.get m q)) (other_uid q uid apart)
other_mark uid q (Some body) mark m apart = map.get-insert uid_cmp_total m uid mark q
    ∙ ap (λ b. cond b (Some mark) (map.get m q)) (other_uid q uid apart)

pub old_or_new : (kept : Kept) (c : StoreChange) (found : Result Kept ℕ) → IsAnyOf kept (c ∷ []) found → IsOldOrNew kept c found
old_or_new kept c found (inl old) =
    record { there = kept; is = old; state = inl (refl, refl); marks = λ uid apart. refl; bodies = λ uid apart. refl }
old_or_new kept c found (inr new) = record {
  there = kept_after c kept;
  is = new.1;
  state = inr (new.0, new_body c.uid c.body kept.bodies);
  marks = λ uid apart. other_mark c.uid uid c.body c.mark kept.marks apart;
  bodies = λ uid apart. other_body c.uid uid c.body kept.bodies apart;
}
