-- A walk over the uids of Ejects, in their order.
use Rattle.std.specs.Prelude.{◌≡◌, ◌≢◌, ◌⊎◌, ℕ, Bool, true, false, IsTrue, is_some, List, Option, None, Some, IfSome}
use Rattle.std.proofs.Common.{refl, sym, ap, subst, ◌∙◌, inl, inr, ◌<◌, ◌-◌, ◌≤◌, arith}
use Rattle.std.specs.FinMap as map
use Rattle.std.specs.Option.{option_map_or}
use Rattle.std.specs.Ordering.{ordering_reverse}
use Rattle.std.specs.declared.cmp.Ordering.{Ordering}
use Rattle.std.specs.declared.cmp.Ordering.TheVariants.{Less, Equal, Greater}
use Rattle.std.proofs.lemmas.Bool.{false≢true}
use Rattle.capability.specs.declared.Uid.{Uid}
use Rattle.capability.specs.Uids.{uid_cmp}
use Rattle.capability.proofs.Uids.{uid_cmp_total, uid_cmp-IsAntisymmetric}
use Rattle.passive_store.specs.Kept.{IsEject, IsNextOf, reserved_uid}
use Rattle.twin_store.specs.Ranks.{rank_of, IsLater, IsBefore}
use Rattle.twin_store.specs.Sides.{SideSeen, bodies_on, IsNextOn}

not_both : (u v : Uid) → uid_cmp u v ≡ Less → uid_cmp v u ≡ Less → ⊥
not_both u v a b = let bad : Less ≡ Greater = sym a ∙ uid_cmp_total.antisymm u v ∙ ap ordering_reverse b in cc bad

less_equal : Less ≡ Equal → ⊥
less_equal e = cc

pub behind : (u v : Uid) → uid_cmp u v ≡ Greater → uid_cmp v u ≡ Less
behind u v h = uid_cmp_total.antisymm v u ∙ ap ordering_reverse h

-- the reserved uid is that of no Eject
not_reserved : (node : ℕ) (uid : Uid) → IsEject node uid → uid ≢ reserved_uid node
not_reserved node uid own e = let bad : 1 ≤ 0 = subst (λ (u : Uid). 1 ≤ u.epoch) e own.1 in omega (arith, bad)

-- 1. Between two of a walk nothing is kept

module _ (node : ℕ) (is_one : Uid → Bool) where
  -- none is kept before the first
  pub before_first : (next : Option Uid) (uid : Uid) → IsNextOf is_one (reserved_uid node) None next → IsBefore next uid → IsEject node uid
      → is_one uid ≡ false
  before_first None uid h before own = go (is_one uid) refl
    where
      go : (b : Bool) → is_one uid ≡ b → b ≡ false
      go true is = absurd (h uid tt is (not_reserved node uid own))
      go false is = refl
  before_first (Some next) uid h before own = go (is_one uid) refl
    where
      none : (uid ≡ next) ⊎ (uid_cmp next uid ≡ Less) → ⊥
      none (inl same) = not_both next next (subst (λ u. uid_cmp u next ≡ Less) same before) (subst (λ u. uid_cmp u next ≡ Less) same before)
      none (inr less) = not_both uid next before less

      go : (b : Bool) → is_one uid ≡ b → b ≡ false
      go true is = absurd (none (h.3 uid tt is (not_reserved node uid own)))
      go false is = refl

  -- nor between one and the next
  pub between : (at : Uid) (next : Option Uid) (uid : Uid) → IsNextOf is_one (reserved_uid node) (Some at) next → IsBefore next uid
      → IsEject node uid
      → uid_cmp at uid ≡ Less → is_one uid ≡ false
  between at None uid h before own late = go (is_one uid) refl
    where
      go : (b : Bool) → is_one uid ≡ b → b ≡ false
      go true is = absurd (h uid late is (not_reserved node uid own))
      go false is = refl
  between at (Some next) uid h before own late = go (is_one uid) refl
    where
      none : (uid ≡ next) ⊎ (uid_cmp next uid ≡ Less) → ⊥
      none (inl same) = not_both next next (subst (λ u. uid_cmp u next ≡ Less) same before) (subst (λ u. uid_cmp u next ≡ Less) same before)
      none (inr less) = not_both uid next before less

      go : (b : Bool) → is_one uid ≡ b → b ≡ false
      go true is = absurd (none (h.3 uid late is (not_reserved node uid own)))
      go false is = refl

-- 2. What holds of all uids before one

-- of each uid of an Eject before this one R holds
abbrev pub AllBefore : ℕ → Option Uid → (Uid → Type 0) → Type 0
AllBefore node next R = (uid : Uid) → IsEject node uid → IsBefore next uid → R uid

pub none_there : (body : Option (List ℕ)) → is_some body ≡ false → body ≡ None
none_there None e = refl
none_there (Some bytes) e = absurd (false≢true (sym e))

pub walk_first : (node : ℕ) (side : SideSeen) (next : Option Uid) (R : Uid → Type 0) → IsNextOn node side None next
    → ((uid : Uid) → IsEject node uid → map.get (bodies_on side) uid ≡ None → R uid) → AllBefore node next R
walk_first node side next R h f uid own before =
    f uid own (none_there (map.get (bodies_on side) uid)
    (before_first node (λ u. is_some (map.get (bodies_on side) u)) next uid h before own))

pub walk_more : (node : ℕ) (side : SideSeen) (at : Uid) (next : Option Uid) (R : Uid → Type 0) → IsNextOn node side (Some at) next
    → AllBefore node (Some at) R → R at → ((uid : Uid) → IsEject node uid → map.get (bodies_on side) uid ≡ None → R uid)
    → AllBefore node next R
walk_more node side at next R h done here f uid own before = go (uid_cmp uid at) refl
  where
    go : (o : Ordering) → uid_cmp uid at ≡ o → R uid
    go Less is = done uid own is
    go Equal is = subst R (sym (uid_cmp-IsAntisymmetric uid at is)) here
    go Greater is = f uid own (none_there (map.get (bodies_on side) uid)
        (between node (λ u. is_some (map.get (bodies_on side) u)) at next uid h before own (behind uid at is)))

-- what a walk gives is kept
pub next_is_kept : (node : ℕ) (side : SideSeen) (from : Option Uid) (uid : Uid) → IsNextOn node side from (Some uid)
    → IsTrue (is_some (map.get (bodies_on side) uid))
next_is_kept node side from uid h = h.1

-- 3. It ends

pub rank_falls : (u : Uid) (next : Option Uid) → rank_of u < 18446744073709551616 → IfSome next (IsLater (Some u))
    → IfSome next (λ v. rank_of v < 18446744073709551616)
    → option_map_or (λ u. 18446744073709551616 - rank_of u) next 0 < 18446744073709551616 - rank_of u
rank_falls u None small h fits = omega (arith, small)
rank_falls u (Some v) small h fits = omega (arith, small, h, fits)
