-- Laws of the definitions of specs/Uids.
use Rattle.std.specs.Prelude.{◌≡◌, refl}
use Rattle.std.specs.declared.cmp.Ordering.{Ordering}
use Rattle.std.specs.declared.cmp.Ordering.TheVariants.{Less, Equal, Greater}
use Rattle.std.specs.Ordering.{nat_cmp, ordering_then}
use Rattle.std.specs.Cmp.{IsTotalOrder, on_total, then_total, nat_cmp_total}
use Rattle.std.specs.FinMap.{IsAntisymmetric, nat_cmp-IsAntisymmetric}
use Rattle.capability.specs.declared.Uid.{Uid}
use Rattle.capability.specs.Uids.{uid_cmp}

pub uid_cmp_total : IsTotalOrder uid_cmp
uid_cmp_total = then_total (on_total (λ (u : Uid). u.node) nat_cmp_total)
    (then_total (on_total (λ (u : Uid). u.epoch) nat_cmp_total) (on_total (λ (u : Uid). u.serial) nat_cmp_total))

both_equal : (a b : Ordering) → ordering_then a b ≡ Equal → (a ≡ Equal) × (b ≡ Equal)
both_equal Less b e = absurd (let bad : Less ≡ Equal = e in cc)
both_equal Equal b e = (refl, e)
both_equal Greater b e = absurd (let bad : Greater ≡ Equal = e in cc)

-- uids that tie are one
pub uid_cmp-IsAntisymmetric : IsAntisymmetric uid_cmp
uid_cmp-IsAntisymmetric u v e =
    let p = both_equal (nat_cmp u.node v.node) (ordering_then (nat_cmp u.epoch v.epoch) (nat_cmp u.serial v.serial)) e in
    let q = both_equal (nat_cmp u.epoch v.epoch) (nat_cmp u.serial v.serial) p.1 in
    λ i. record {
      node = nat_cmp-IsAntisymmetric u.node v.node p.0 i;
      epoch = nat_cmp-IsAntisymmetric u.epoch v.epoch q.0 i;
      serial = nat_cmp-IsAntisymmetric u.serial v.serial q.1 i;
    }
