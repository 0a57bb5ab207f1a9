-- A place of memory that is made.
use Rattle.std.proofs.Common.{◌≡◌, false, Option, None, Some, is_some, cond, refl, sym, ◌∙◌, ap}
use Rattle.std.specs.declared.cmp.Ordering.{Ordering}
use Rattle.std.specs.declared.cmp.Ordering.TheVariants.{Less, Equal, Greater}
use Rattle.std.specs.Ordering.{is_eq}
use Rattle.capability.specs.declared.Uid.{Uid}
use Rattle.capability.specs.Uids.{uid_cmp}
use Rattle.capability.proofs.Uids.{uid_cmp-IsAntisymmetric}
use Rattle.eden_move.specs.declared.mind.Known.{Known}
use Rattle.eden_move.specs.Minds.{in_place}

no-place : (o : Option (Option Known)) → is_some o ≡ false → o ≡ None
no-place None e = refl
no-place (Some k) e = absurd (cc e)

-- an empty place of an Eject that had none changes nothing of what is known
pub place-same : (u q : Uid) (place : Uid → Option (Option Known)) (new : Option (Option Known)) → is_some (place u) ≡ false
    → new ≡ cond (is_eq (uid_cmp u q)) (Some None) (place q) → in_place new ≡ in_place (place q)
place-same u q place new none is = go (uid_cmp u q) refl is
  where
    go : (o : Ordering) → uid_cmp u q ≡ o → new ≡ cond (is_eq o) (Some None) (place q) → in_place new ≡ in_place (place q)
    go Less e is = ap in_place is
    go Greater e is = ap in_place is
    go Equal e is = ap in_place is ∙ sym (ap in_place (ap place (sym (uid_cmp-IsAntisymmetric u q e)) ∙ no-place (place u) none))
