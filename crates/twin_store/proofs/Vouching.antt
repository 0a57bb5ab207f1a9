-- Of two disks that vouch: what is mixed of both, which is right, and what is left where one is lost.
use Rattle.std.specs.Prelude.{◌≡◌, ◌⊎◌, ℕ, ◌+◌, ◌≤◌, ◌<◌, Bool, true, false, List, Option, None, Some, IsTrue}
use Rattle.std.specs.Prelude.{◌||◌}
use Rattle.std.proofs.Common.{refl, sym, ap, subst, ◌∙◌, inl, inr, cond, arith, zero, suc}
use Rattle.std.specs.FinMap as map
use Rattle.std.specs.Ordering.{eq_by_cmp, is_eq}
use Rattle.std.specs.declared.cmp.Ordering.{Ordering}
use Rattle.std.specs.declared.cmp.Ordering.TheVariants.{Less, Equal, Greater}
use Rattle.std.proofs.lemmas.Bool.{false≢true}
use Rattle.capability.specs.declared.Uid.{Uid}
use Rattle.capability.specs.Uids.{uid_cmp}
use Rattle.capability.proofs.Uids.{uid_cmp_total, uid_cmp-IsAntisymmetric}
use Rattle.passive_store.specs.Kept.{Layout, IsEject, reserved_uid, bodies_after}
use Rattle.passive_store.specs.Seen.{Asked}
use Rattle.twin_store.specs.Vouched.{Bodies, SameEjects, changed_by, generation_in, generation_by, Vow, IsHeld, IsNew, IsOwnChange, Vouches}
use Rattle.twin_store.specs.Vouched.{IsBare, VouchBy}
use Rattle.twin_store.specs.Vouched.{FirstGivesWay, SecondGivesWay, generation_of}
use Rattle.twin_store.specs.Footings.{Footing, Standing, Damaged, TooMuch, MayFind, IsOn}
use Rattle.twin_store.specs.VouchedLaws.{IsMixed, MixedIsHeld, GreaterIsRight, FaultLeavesOther, BlankLeavesOther, SecondMayBeBrought}
use Rattle.twin_store.specs.VouchedLaws.{LesserMayBeRefilled, IsPartOf, LesserMayBeRaised, SecondMayBegin, OneMayBeRaised, ImagesAreVouched}
use Rattle.twin_store.specs.VouchedLaws.{without_first, without_second}

tied : (o : Ordering) → is_eq o ≡ true → o ≡ Equal
tied Less h = absurd (false≢true h)
tied Equal h = refl
tied Greater h = absurd (false≢true h)

-- two uids are the same, or do not tie
pub same_or_not : (a b : Uid) → (a ≡ b) ⊎ (eq_by_cmp uid_cmp a b ≡ false)
same_or_not a b = elim (eq_by_cmp uid_cmp a b) as (λ r. eq_by_cmp uid_cmp a b ≡ r → (a ≡ b) ⊎ (eq_by_cmp uid_cmp a b ≡ false)) [
  | true ↦ λ e. inl (uid_cmp-IsAntisymmetric a b (tied (uid_cmp a b) e))
  | false ↦ λ e. inr e
] refl

-- what is under another uid stays behind a change
pub other : (uid : Uid) (body : Option (List ℕ)) (m : Bodies) (q : Uid) → eq_by_cmp uid_cmp q uid ≡ false
    → map.get (bodies_after uid body m) q ≡ map.get m q
other uid None m q e = map.get-remove uid_cmp_total m uid q ∙ ap (λ b. cond b None (map.get m q)) e
other uid (Some body) m q e = map.get-insert uid_cmp_total m uid body q ∙ ap (λ b. cond b (Some body) (map.get m q)) e

-- 1. What is mixed

either : {A : Type 0} → A ⊎ A → A
either (inl a) = a
either (inr a) = a

swapped : {A B : Type 0} → A ⊎ B → B ⊎ A
swapped (inl a) = inr a
swapped (inr b) = inl b

-- one of two, each of which leads to the same end
pub one_of : {A B C : Type 0} → A ⊎ B → (A → C) → (B → C) → C
one_of (inl a) f g = f a
one_of (inr b) f g = g b

-- what is under a uid, where it is that of the change and where it is not
under : (c : Asked) (q : Uid) (P : Uid → Type 0) → P c.uid → (eq_by_cmp uid_cmp q c.uid ≡ false → P q) → P q
under c q P same apart = one_of (same_or_not q c.uid) (λ e. subst P (sym e) same) apart

mixed_both : (node : ℕ) (m n x to : Bodies) → SameEjects node m to → SameEjects node n to → IsMixed node m n x → SameEjects node x to
mixed_both node m n x to a b mix uid own = one_of (mix uid own) (λ e. e ∙ a uid own) (λ e. e ∙ b uid own)

-- m has what is held, n what is held behind the change
mixed_old : (node : ℕ) (held : Bodies) (c : Asked) (m n x : Bodies) → SameEjects node m held
    → SameEjects node n (bodies_after c.uid c.body held) → IsMixed node m n x → map.get x c.uid ≡ map.get m c.uid → IsEject node c.uid
    → SameEjects node x held
mixed_old node held c m n x a b mix at is uid own =
    under c uid (λ q. IsEject node q → map.get x q ≡ map.get held q) (λ o. at ∙ a c.uid o)
    (λ apart o. one_of (mix uid o) (λ e. e ∙ a uid o) (λ e. e ∙ (b uid o ∙ other c.uid c.body held uid apart))) own

mixed_new : (node : ℕ) (held : Bodies) (c : Asked) (m n x : Bodies) → SameEjects node m held
    → SameEjects node n (bodies_after c.uid c.body held) → IsMixed node m n x → map.get x c.uid ≡ map.get n c.uid → IsEject node c.uid
    → SameEjects node x (bodies_after c.uid c.body held)
mixed_new node held c m n x a b mix at is uid own =
    under c uid (λ q. IsEject node q → map.get x q ≡ map.get (bodies_after c.uid c.body held) q) (λ o. at ∙ b c.uid o)
    (λ apart o. one_of (mix uid o) (λ e. e ∙ (a uid o ∙ sym (other c.uid c.body held uid apart))) (λ e. e ∙ b uid o)) own

mixed_apart : (node : ℕ) (held : Bodies) (c : Asked) (m n x : Bodies) → IsEject node c.uid → SameEjects node m held
    → SameEjects node n (bodies_after c.uid c.body held) → IsMixed node m n x
    → SameEjects node x held ⊎ SameEjects node x (bodies_after c.uid c.body held)
mixed_apart node held c m n x is a b mix =
    one_of (mix c.uid is) (λ e. inl (mixed_old node held c m n x a b mix e is)) (λ e. inr (mixed_new node held c m n x a b mix e is))

mixed_by : (node : ℕ) (held : Bodies) (begun : Option Asked) (m n x : Bodies) → IsOwnChange node begun
    → SameEjects node m held ⊎ SameEjects node m (changed_by begun held)
    → SameEjects node n held ⊎ SameEjects node n (changed_by begun held) → IsMixed node m n x
    → SameEjects node x held ⊎ SameEjects node x (changed_by begun held)
mixed_by node held None m n x is a b mix = inl (mixed_both node m n x held (either a) (either b) mix)
mixed_by node held (Some c) m n x is (inl a) (inl b) mix = inl (mixed_both node m n x held a b mix)
mixed_by node held (Some c) m n x is (inr a) (inr b) mix = inr (mixed_both node m n x (changed_by (Some c) held) a b mix)
mixed_by node held (Some c) m n x is (inl a) (inr b) mix = mixed_apart node held c m n x is a b mix
mixed_by node held (Some c) m n x is (inr a) (inl b) mix = mixed_apart node held c n m x is b a (λ uid own. swapped (mix uid own))

pub mixed_is_held : MixedIsHeld
mixed_is_held v m n x is a b mix = mixed_by v.node v.held v.begun m n x is a b mix

-- 2. Where nothing is held

held_of_bare : (v : Vow) (m : Bodies) → IsBare v m → IsHeld v m
held_of_bare v m bare = inl (λ uid own. bare.1 uid own ∙ sym (bare.0.0 uid own))

bare_of_held : (v : Vow) (m : Bodies) → IsNew v → IsHeld v m → IsBare v m
bare_of_held v m new (inl a) = (new, λ uid own. a uid own ∙ new.0 uid own)
bare_of_held v m new (inr a) =
    (new, λ uid own. a uid own ∙ (ap (λ begun. map.get (changed_by begun v.held) uid) new.1 ∙ new.0 uid own))

none_in_empty : (uid : Uid) → map.get {X = List ℕ} {R = uid_cmp} map.empty uid ≡ None
none_in_empty uid = map.get-empty uid_cmp uid

part_of_bare : (v : Vow) (m n x : Bodies) → IsBare v m → IsBare v n → IsPartOf v.node m n x → IsBare v x
part_of_bare v m n x a b part = (
  a.0,
  λ uid own. one_of (part uid own) (λ e. e ∙ a.1 uid own)
      (λ rest. one_of rest (λ e. e ∙ b.1 uid own) (λ e. e ∙ sym (none_in_empty uid))),
)

no_generation : (node : ℕ) → generation_in node map.empty ≡ 0
no_generation node = ap generation_by (none_in_empty (reserved_uid node))

-- what has the same under the uids of Ejects is held where that is
pub held_alike : (v : Vow) (m n : Bodies) → SameEjects v.node n m → IsHeld v m → IsHeld v n
held_alike v m n same (inl a) = inl (λ uid own. same uid own ∙ a uid own)
held_alike v m n same (inr a) = inr (λ uid own. same uid own ∙ a uid own)

pub bare_alike : (v : Vow) (m n : Bodies) → SameEjects v.node n m → IsBare v m → IsBare v n
bare_alike v m n same bare = (bare.0, λ uid own. same uid own ∙ bare.1 uid own)

-- 3. Numbers

not_below : (a b : ℕ) → a ≤ b → b < a → ⊥
not_below a b le lt = omega arith

not_same : (a b : ℕ) → a ≡ b → b < a → ⊥
not_same a b e lt = omega arith

not_next : (a b : ℕ) → b ≡ a + 1 → b < a → ⊥
not_next a b e lt = omega arith

same_is_within : (a b : ℕ) → a ≡ b → b ≤ a
same_is_within a b e = omega arith

next_is_greater : (a b : ℕ) → b ≡ a + 1 → a < b
next_is_greater a b e = omega arith

same_within : (a b c : ℕ) → a ≡ b → c ≡ b → c ≤ a
same_within a b c e f = omega arith

none_within : (a b : ℕ) → a ≡ 0 → a ≤ b
none_within a b e = omega arith

none_below : (a b : ℕ) → a ≡ 0 → 1 ≤ b → a < b
none_below a b e h = omega arith

none_is : (a b : ℕ) → a ≡ 0 → b ≡ 0 → a ≡ b
none_is a b e h = omega arith

none_or_some : (n : ℕ) → (n ≡ 0) ⊎ (1 ≤ n)
none_or_some zero = inl refl
none_or_some (suc n) = inr (omega arith)

lesser_within : (a b c : ℕ) → b < a → c ≡ b → c ≤ a
lesser_within a b c h e = omega arith

lesser_below : (a b c : ℕ) → a < b → c ≡ a → c < b
lesser_below a b c h e = omega arith

next_again : (a b c : ℕ) → b ≡ a + 1 → c ≡ a → b ≡ c + 1
next_again a b c h e = omega arith

first_next : (a b c : ℕ) → a ≡ 0 → c ≡ 1 → c ≡ a + 1
first_next a b c e f = omega arith

first_above : (a c : ℕ) → a ≡ 0 → c ≡ 1 → a < c
first_above a c e f = omega arith

first_some : (c : ℕ) → c ≡ 1 → 1 ≤ c
first_some c f = omega arith

not_none : (a : ℕ) → a ≡ 0 → 1 ≤ a → ⊥
not_none a e f = omega arith

above_within : (a b c : ℕ) → a ≤ b → b < c → a ≤ c
above_within a b c h e = omega arith

above_next : (a b c : ℕ) → a ≡ b + 1 → b < c → a ≤ c
above_next a b c h e = omega arith

above_same : (a b c : ℕ) → a ≡ b → b < c → a < c
above_same a b c h e = omega arith

above_below : (a b c : ℕ) → a < b → b < c → a < c
above_below a b c h e = omega arith

above_some : (a b : ℕ) → a < b → 1 ≤ b
above_some a b h = omega arith

-- 4. Which is right

right_by : (v : Vow) (a b : Bool) (k l : Bodies) → IsTrue (a || b) → VouchBy a b v (Some k) (Some l)
    → ((generation_in v.node l ≤ generation_in v.node k) → IsHeld v k)
    × ((generation_in v.node k < generation_in v.node l) → IsHeld v l)
right_by v true true k l some h = (λ le. h.0.0, λ lt. h.1.0)
right_by v true false k l some h = (
  λ le. h.0.0,
  λ lt. one_of h.1 (λ le. absurd (not_below (generation_in v.node l) (generation_in v.node k) le lt))
      (λ bare. held_of_bare v l bare.0),
)
right_by v false true k l some h =
    (λ le. one_of h.1 (λ lt. absurd (not_below (generation_in v.node l) (generation_in v.node k) le lt)) (λ same. same.1), λ lt. h.0.0)
right_by v false false k l some h = absurd (false≢true some)

pub greater_is_right : GreaterIsRight
greater_is_right v k l some h = right_by v v.first v.second k l some h

-- 5. A fault, and a blank disk

pub fault_by : (v : Vow) (a b : Bool) (one two : Option Bodies) → VouchBy a b v one two
    → VouchBy false b (without_first v) one two × VouchBy a false (without_second v) one two
fault_by v true true (Some k) (Some l) h = (
  (h.1, one_of h.2 (λ e. inr (e, h.0.0)) (λ new. inl (next_is_greater (generation_in v.node k) (generation_in v.node l) new.1))),
  (
    h.0,
    one_of h.2 (λ e. inl (same_is_within (generation_in v.node k) (generation_in v.node l) e))
        (λ new. inr (bare_of_held v l new.0 h.1.0, new.1)),
  ),
)
fault_by v true true None two h = absurd h.0
fault_by v true true (Some k) None h = absurd h.1
fault_by v true false one two h = (tt, h)
fault_by v false true one two h = (h, tt)
fault_by v false false one two h = (tt, tt)

pub fault_leaves_other : FaultLeavesOther
fault_leaves_other v one two h = fault_by v v.first v.second one two h

held_when_new : (v : Vow) → IsNew v → IsHeld v map.empty
held_when_new v new = held_of_bare v map.empty (new, λ uid own. refl)

blank_gives_way : (v : Vow) (two : Option Bodies) → Vouches v two → FirstGivesWay v (Some map.empty) (generation_of v.node two)
blank_gives_way v (Some l) h =
    one_of (none_or_some (generation_in v.node l))
    (λ none. one_of h.1 (λ some. absurd (not_none (generation_in v.node l) none some))
    (λ new. inr (none_is (generation_in v.node map.empty) (generation_in v.node l) (no_generation v.node) none, held_when_new v new)))
    (λ some. inl (none_below (generation_in v.node map.empty) (generation_in v.node l) (no_generation v.node) some))
blank_gives_way v None h = absurd h

blank_is_less : (v : Vow) (n : ℕ) → SecondGivesWay v (Some map.empty) n
blank_is_less v n = inl (none_within (generation_in v.node map.empty) n (no_generation v.node))

blank_by : (v : Vow) (a b : Bool) (one two : Option Bodies) → VouchBy a b v one two
    → VouchBy false b (without_first v) (Some map.empty) two × VouchBy a false (without_second v) one (Some map.empty)
blank_by v true true one two h =
    ((h.1, blank_gives_way v two h.1), (h.0, blank_is_less v (generation_of v.node one)))
blank_by v true false one two h = (tt, (h.0, blank_is_less v (generation_of v.node one)))
blank_by v false true one two h = ((h.0, blank_gives_way v two h.0), tt)
blank_by v false false one two h = (tt, tt)

pub blank_leaves_other : BlankLeavesOther
blank_leaves_other v one two h = blank_by v v.first v.second one two h

-- 6. A copy

-- what vouches goes on vouching with another map of the same generation that is held
vouches_by : (v : Vow) (l x : Bodies) → Vouches v (Some l) → generation_in v.node x ≡ generation_in v.node l
    → IsHeld v x → Vouches v (Some x)
vouches_by v l x h e held = (held, one_of h.1 (λ some. inl (subst (λ n. 1 ≤ n) (sym e) some)) (λ new. inr new))

brought_by : (v : Vow) (a b : Bool) (k l x : Bodies) → IsOwnChange v.node v.begun → VouchBy a b v (Some k) (Some l)
    → generation_in v.node k ≡ generation_in v.node l → generation_in v.node x ≡ generation_in v.node l
    → IsMixed v.node k l x → VouchBy a b v (Some k) (Some x)
brought_by v true true k l x own h same e mix =
    (h.0, vouches_by v l x h.1 e (mixed_is_held v k l x own h.0.0 h.1.0 mix), inl (same ∙ sym e))
brought_by v true false k l x own h same e mix =
    (h.0, inl (same_within (generation_in v.node k) (generation_in v.node l) (generation_in v.node x) same e))
brought_by v false true k l x own h same e mix =
    let held : IsHeld v k = (right_by v false true k l refl h).0 (same_is_within (generation_in v.node k) (generation_in v.node l) same) in
    (vouches_by v l x h.0 e (mixed_is_held v k l x own held h.0.0 mix), inr (same ∙ sym e, held))
brought_by v false false k l x own h same e mix = tt

pub second_brought : SecondMayBeBrought
second_brought v k l x own h same e mix = brought_by v v.first v.second k l x own h same e mix

bare_vouches : (v : Vow) (x : Bodies) → IsBare v x → Vouches v (Some x)
bare_vouches v x bare = (held_of_bare v x bare, inr bare.0)

-- the second is of a lesser generation: it does not vouch, and gives way by its generation
second_lesser : (v : Vow) (a b : Bool) (k l x : Bodies) → VouchBy a b v (Some k) (Some l)
    → generation_in v.node l < generation_in v.node k → generation_in v.node x ≤ generation_in v.node k → VouchBy a b v (Some k) (Some x)
second_lesser v true true k l x h less within =
    absurd (one_of h.2 (λ same. not_same (generation_in v.node k) (generation_in v.node l) same less)
    (λ new. not_next (generation_in v.node k) (generation_in v.node l) new.1 less))
second_lesser v true false k l x h less within = (h.0, inl within)
second_lesser v false true k l x h less within =
    absurd (one_of h.1 (λ lt. not_below (generation_in v.node k) (generation_in v.node l) (omega arith) less)
    (λ same. not_same (generation_in v.node k) (generation_in v.node l) same.0 less))
second_lesser v false false k l x h less within = tt

first_refilled : (v : Vow) (a b : Bool) (k l x : Bodies) → VouchBy a b v (Some k) (Some l)
    → generation_in v.node k < generation_in v.node l → generation_in v.node x ≡ generation_in v.node k
    → IsPartOf v.node k l x → VouchBy a b v (Some x) (Some l)
first_refilled v true true k l x h less e part =
    one_of h.2 (λ same. absurd (not_same (generation_in v.node l) (generation_in v.node k) (sym same) less))
    (λ new. (
      bare_vouches v x (part_of_bare v k l x (bare_of_held v k new.0 h.0.0)
          (bare_of_held v l new.0 h.1.0) part),
      h.1,
      inr
          (new.0, next_again (generation_in v.node k) (generation_in v.node l) (generation_in v.node x) new.1 e),
    ))
first_refilled v true false k l x h less e part =
    one_of h.1 (λ le. absurd (not_below (generation_in v.node l) (generation_in v.node k) le less))
    (λ bare. (
      bare_vouches v x (part_of_bare v k l x (bare_of_held v k bare.0.0 h.0.0) bare.0 part),
      inr (bare.0, next_again (generation_in v.node k) (generation_in v.node l) (generation_in v.node x) bare.1 e),
    ))
first_refilled v false true k l x h less e part =
    (h.0, inl (lesser_below (generation_in v.node k) (generation_in v.node l) (generation_in v.node x) less e))
first_refilled v false false k l x h less e part = tt

pub lesser_refilled : LesserMayBeRefilled
lesser_refilled v k l x h = (
  λ less e part. second_lesser v v.first v.second k l x h less
      (lesser_within (generation_in v.node k) (generation_in v.node l) (generation_in v.node x) less e),
  λ less e part. first_refilled v v.first v.second k l x h less e part,
)

-- 7. Generations

first_raised : (v : Vow) (a b : Bool) (k l x : Bodies) → VouchBy a b v (Some k) (Some l)
    → generation_in v.node k < generation_in v.node l → generation_in v.node x ≡ generation_in v.node l
    → SameEjects v.node x l → VouchBy a b v (Some x) (Some l)
first_raised v true true k l x h less e same = (
  (held_alike v l x same h.1.0, inl (subst (λ n. 1 ≤ n) (sym e) (above_some (generation_in v.node k) (generation_in v.node l) less))),
  h.1,
  inl e,
)
first_raised v true false k l x h less e same =
    one_of h.1 (λ le. absurd (not_below (generation_in v.node l) (generation_in v.node k) le less))
    (λ bare. (bare_vouches v x (bare_alike v l x same bare.0), inl (same_is_within (generation_in v.node x) (generation_in v.node l) e)))
first_raised v false true k l x h less e same = (h.0, inr (e, held_alike v l x same h.0.0))
first_raised v false false k l x h less e same = tt

pub lesser_raised : LesserMayBeRaised
lesser_raised v k l x h = (
  λ less e same. second_lesser v v.first v.second k l x h less
      (same_is_within (generation_in v.node k) (generation_in v.node x) (sym e)),
  λ less e same. first_raised v v.first v.second k l x h less e same,
)

-- a map without a generation vouches only where nothing is held
new_by : (v : Vow) (k : Bodies) → Vouches v (Some k) → generation_in v.node k ≡ 0 → IsNew v
new_by v k h none = one_of h.1 (λ some. absurd (not_none (generation_in v.node k) none some)) (λ new. new)

begun_by : (v : Vow) (a b : Bool) (k l x : Bodies) → VouchBy a b v (Some k) (Some l) → SameEjects v.node l k
    → generation_in v.node k ≡ 0 → generation_in v.node l ≡ 0 → generation_in v.node x ≡ 1
    → SameEjects v.node x l → VouchBy a b v (Some k) (Some x)
begun_by v true true k l x h alike none none_too one same = (
  h.0,
  (held_alike v l x same h.1.0, inl (first_some (generation_in v.node x) one)),
  inr (new_by v k h.0 none, first_next (generation_in v.node k) 0 (generation_in v.node x) none one),
)
begun_by v true false k l x h alike none none_too one same =
    let new : IsNew v = new_by v k h.0 none in (
      h.0,
      inr (
        bare_alike v l x same (bare_alike v k l alike (bare_of_held v k new h.0.0)),
        first_next (generation_in v.node k) 0
            (generation_in v.node x) none one,
      ),
    )
begun_by v false true k l x h alike none none_too one same = (
  (held_alike v l x same h.0.0, inl (first_some (generation_in v.node x) one)),
  inl
      (first_above (generation_in v.node k) (generation_in v.node x) none one),
)
begun_by v false false k l x h alike none none_too one same = tt

pub second_begins : SecondMayBegin
second_begins v k l x h alike none none_too one same = begun_by v v.first v.second k l x h alike none none_too one same

raised_vouches : (v : Vow) (m x : Bodies) → generation_in v.node m < generation_in v.node x → SameEjects v.node x m → Vouches v (Some m)
    → Vouches v (Some x)
raised_vouches v m x less same h = (held_alike v m x same h.0, inl (above_some (generation_in v.node m) (generation_in v.node x) less))

first_alone : (v : Vow) (a b : Bool) (one : Option Bodies) (m x : Bodies) → b ≡ false
    → generation_in v.node m < generation_in v.node x → SameEjects v.node x m → VouchBy a b v (Some m) one → VouchBy a b v (Some x) one
first_alone v a true one m x e less same h = absurd (false≢true (sym e))
first_alone v true false (Some n) m x e less same h = (
  raised_vouches v m x less same h.0,
  inl (one_of h.1
      (λ le. above_within (generation_in v.node n) (generation_in v.node m) (generation_in v.node x) le less)
      (λ bare. above_next (generation_in v.node n) (generation_in v.node m) (generation_in v.node x) bare.1 less)),
)
first_alone v true false None m x e less same h = (raised_vouches v m x less same h.0, tt)
first_alone v false false one m x e less same h = tt

second_alone : (v : Vow) (a b : Bool) (one : Option Bodies) (m x : Bodies) → a ≡ false
    → generation_in v.node m < generation_in v.node x → SameEjects v.node x m → VouchBy a b v one (Some m) → VouchBy a b v one (Some x)
second_alone v true b one m x e less same h = absurd (false≢true (sym e))
second_alone v false true (Some n) m x e less same h = (
  raised_vouches v m x less same h.0,
  inl (one_of h.1
      (λ lt. above_below (generation_in v.node n) (generation_in v.node m) (generation_in v.node x) lt less)
      (λ is. above_same (generation_in v.node n) (generation_in v.node m) (generation_in v.node x) is.0 less)),
)
second_alone v false true None m x e less same h = (raised_vouches v m x less same h.0, tt)
second_alone v false false one m x e less same h = tt

pub one_raised : OneMayBeRaised
one_raised v one m x less same =
    (λ e h. first_alone v v.first v.second one m x e less same h, λ e h. second_alone v v.first v.second one m x e less same h)

-- 8. Images

pub found_in : (layout : Layout) (node : ℕ) (f : Footing) (image : List ℕ) → IsOn layout node f image → MayFind f (layout.map_of node image)
found_in layout node (Standing kept changes) image h = h.found
found_in layout node (Damaged place) image h = h
found_in layout node (TooMuch kept) image h = h.0

pub images_are_vouched : ImagesAreVouched
images_are_vouched layout v one two a b h p q =
    h.vouched (layout.map_of v.node a) (layout.map_of v.node b)
    (found_in layout v.node h.first a (h.first_is a p)) (found_in layout v.node h.second b (h.second_is b q))
