-- The next kept uid behind one is determined by what is kept.
use Rattle.std.specs.Prelude.{◌≡◌, Bool, is_some, Option, None, Some, ℕ}
use Rattle.std.proofs.Common.{refl, sym, subst, ap, ◌∙◌, inl, inr}
use Rattle.std.specs.FinMap as map
use Rattle.std.specs.declared.cmp.Ordering.{Ordering}
use Rattle.std.specs.declared.cmp.Ordering.TheVariants.{Less, Equal, Greater}
use Rattle.std.specs.Ordering.{ordering_reverse}
use Rattle.capability.specs.declared.Uid.{Uid}
use Rattle.capability.specs.Uids.{uid_cmp}
use Rattle.capability.proofs.Uids.{uid_cmp_total}
use Rattle.passive_store.specs.Kept.{IsNextOf, IsNextKept, Kept, reserved_uid}

not_less : (o : Ordering) → o ≡ Less → ordering_reverse o ≡ Less → ⊥
not_less Less e f = absurd (let bad : Greater ≡ Less = f in cc)
not_less Equal e f = absurd (let bad : Equal ≡ Less = e in cc)
not_less Greater e f = absurd (let bad : Greater ≡ Less = e in cc)

both_less : (u v : Uid) → uid_cmp u v ≡ Less → uid_cmp v u ≡ Less → ⊥
both_less u v less more = not_less (uid_cmp u v) less (sym (uid_cmp_total.antisymm v u) ∙ more)

pub one_next : (is_one : Uid → Bool) (reserved : Uid) (from u v : Option Uid) → IsNextOf is_one reserved from u
    → IsNextOf is_one reserved from v → u ≡ v
one_next is_one reserved from None None h k = refl
one_next is_one reserved from None (Some v) h k = absurd (h v k.0 k.1 k.2)
one_next is_one reserved from (Some u) None h k = absurd (k u h.0 h.1 h.2)
one_next is_one reserved from (Some u) (Some v) h k = elim (h.3 v k.0 k.1 k.2) [
  | inl same ↦ ap Some (sym same)
  | inr less ↦ elim (k.3 u h.0 h.1 h.2) [ inl same ↦ ap Some same | inr more ↦ absurd (both_less u v less more) ]
]

pub same_next : (node other : ℕ) (k j : Kept) (from u v : Option Uid) → node ≡ other → k.bodies ≡ j.bodies → IsNextKept node k from u
    → IsNextKept other j from v → u ≡ v
same_next node other k j from u v nodes bodies h i = one_next (λ uid. is_some (map.get k.bodies uid)) (reserved_uid node) from u v h
    (subst (λ n. IsNextOf (λ uid. is_some (map.get k.bodies uid)) (reserved_uid n) from v) (sym nodes)
    (subst (λ m. IsNextOf (λ uid. is_some (map.get m uid)) (reserved_uid other) from v) (sym bodies) i))
