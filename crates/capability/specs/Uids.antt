-- The order of uids: by node, then by epoch, then by serial.
use Rattle.std.specs.Prelude.{ℕ, Bool, ◌&&◌, ◌==◌, refl}
use Rattle.std.specs.declared.cmp.Ordering.{Ordering}
use Rattle.std.specs.Ordering.{nat_cmp, ordering_then}
use Rattle.std.specs.Coded.{Coded, code_by, coded×, coded_ℕ}
use Rattle.capability.specs.declared.Uid.{Uid}

-- uids in ascending order: by node, then by epoch, then by serial
abbrev pub uid_cmp : Uid → Uid → Ordering
uid_cmp a b = ordering_then (nat_cmp a.node b.node) (ordering_then (nat_cmp a.epoch b.epoch) (nat_cmp a.serial b.serial))

-- whether both name one Eject
abbrev pub uid_eq : Uid → Uid → Bool
uid_eq a b = (a.node == b.node) && ((a.epoch == b.epoch) && (a.serial == b.serial))

-- a uid as three numbers, for types that hold one
abbrev pub coded_uid : Coded Uid
coded_uid =
    code_by (ℕ × (ℕ × ℕ)) (coded× coded_ℕ (coded× coded_ℕ coded_ℕ)) (λ u. (u.node, (u.epoch, u.serial)))
    (λ p. record { node = p.0; epoch = p.1.0; serial = p.1.1 }) (λ _. refl)
