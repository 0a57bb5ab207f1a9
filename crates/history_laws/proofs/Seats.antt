-- Where each process of a crew is: it holds the monitor that it is inside of, or waits to enter it, or waits on a condition of it.
-- First of functions alone: what each process waits for (waiting), who holds each monitor, counted from 0 (holding), of which monitor
-- each condition
-- is (guards), and inside of which monitor each process is (seat).
use Rattle.std.proofs.Common.{◌≡◌, ◌+◌, ◌-◌, ◌≤◌, ℕ, Bool, true, false, Option, None, Some, refl, sym, ◌∙◌, ap, subst, arith}
use Rattle.std.specs.Prelude.{IsSomeAnd}
use Rattle.std.specs.Ordering.{nat_cmp, eq_by_cmp}
use Rattle.eden_model.proofs.Numbers.{same-true, same-self}
use Rattle.eden_model.specs.Crew.{Waiting, nothing, outside, entry, condition}

-- it waits in no queue
abbrev pub IsOpen : Waiting → Type 0
IsOpen nothing = Unit {0}
IsOpen outside = Unit {0}
IsOpen _ = ⊥

abbrev pub IsOpenAt : Option Waiting → Type 0
IsOpenAt o = IsSomeAnd o IsOpen

pub record Seated (waiting : ℕ → Option Waiting) (holding : ℕ → Option (Option ℕ)) (guards : ℕ → Option ℕ)
    (seat : ℕ → Option ℕ) : Type 0 where
  pub held : (i p : ℕ) → holding i ≡ Some (Some p) → (seat p ≡ Some (i + 1)) × IsOpenAt (waiting p)
  pub holds : (p m : ℕ) → IsOpenAt (waiting p) → seat p ≡ Some m → (1 ≤ m) × (holding (m - 1) ≡ Some (Some p))
  pub enters : (p m : ℕ) → waiting p ≡ Some (entry m) → seat p ≡ Some m
  pub waits : (p c : ℕ) → waiting p ≡ Some (condition c) → seat p ≡ guards c

-- a function is another but at one place
pub record OnlyAt {X : Type 0} (p : ℕ) (f g : ℕ → X) : Type 0 where
  pub others : (q : ℕ) → eq_by_cmp nat_cmp q p ≡ false → g q ≡ f q

clash : {A : Type 0} {v : Waiting} {o : Option Waiting} → o ≡ Some v → (IsOpen v → ⊥) → IsOpenAt o → A
clash {v = v} is shut opened = absurd (shut (subst IsOpenAt is opened))

module _ (waiting waiting_after : ℕ → Option Waiting) (holding holding_after : ℕ → Option (Option ℕ)) (guards : ℕ → Option ℕ)
    (seat seat_after : ℕ → Option ℕ) (p : ℕ) where
  -- 1. A process waits for nothing, or for what is outside, before and after
  pub seated-opened : Seated waiting holding guards seat → OnlyAt p waiting waiting_after → IsOpenAt (waiting p)
      → IsOpenAt (waiting_after p) → Seated waiting_after holding guards seat
  seated-opened s w was is = record {
    held = λ i q at. let x = s.held i q at in (x.0, opened q x.1 (eq_by_cmp nat_cmp q p) refl);
    holds = λ q m o at. s.holds q m (back q o (eq_by_cmp nat_cmp q p) refl) at;
    enters = λ q m at. s.enters q m (still q (entry m) (λ x. x) at (eq_by_cmp nat_cmp q p) refl);
    waits = λ q c at. s.waits q c (still q (condition c) (λ x. x) at (eq_by_cmp nat_cmp q p) refl);
  }
    where
      opened : (q : ℕ) → IsOpenAt (waiting q) → (b : Bool) → eq_by_cmp nat_cmp q p ≡ b → IsOpenAt (waiting_after q)
      opened q o true same = subst (λ n. IsOpenAt (waiting_after n)) (sym (same-true q p same)) is
      opened q o false same = subst IsOpenAt (sym (w.others q same)) o

      back : (q : ℕ) → IsOpenAt (waiting_after q) → (b : Bool) → eq_by_cmp nat_cmp q p ≡ b → IsOpenAt (waiting q)
      back q o true same = subst (λ n. IsOpenAt (waiting n)) (sym (same-true q p same)) was
      back q o false same = subst IsOpenAt (w.others q same) o

      still : (q : ℕ) (v : Waiting) → (IsOpen v → ⊥) → waiting_after q ≡ Some v → (b : Bool) → eq_by_cmp nat_cmp q p ≡ b
          → waiting q ≡ Some v
      still q v shut at true same = clash (ap waiting_after (sym (same-true q p same)) ∙ at) shut is
      still q v shut at false same = sym (w.others q same) ∙ at

  -- 2. A process that is inside of none holds none
  pub holds-none : Seated waiting holding guards seat → seat p ≡ None → (i : ℕ) → holding i ≡ Some (Some p) → ⊥
  holds-none s none i at = let bad : None ≡ Some (i + 1) = sym none ∙ (s.held i p at).0 in cc bad

  -- 3. It locks a monitor that is free
  pub seated-locked : (m : ℕ) → Seated waiting holding guards seat → 1 ≤ m → IsOpenAt (waiting p) → seat p ≡ None → seat_after p ≡ Some m
      → OnlyAt p seat seat_after
      → holding (m - 1) ≡ Some None → holding_after (m - 1) ≡ Some (Some p) → OnlyAt (m - 1) holding holding_after
      → Seated waiting holding_after guards seat_after
  seated-locked m s from opened none now others free holder rest_of = record {
    held = λ i q at. held i q at (eq_by_cmp nat_cmp i (m - 1)) refl;
    holds = λ q n o at. holds q n o at (eq_by_cmp nat_cmp q p) refl;
    enters = λ q n at. (others.others q (apart q (λ o. clash at (λ x. x) o) (eq_by_cmp nat_cmp q p) refl)) ∙ s.enters q n at;
    waits = λ q c at. (others.others q (apart q (λ o. clash at (λ x. x) o) (eq_by_cmp nat_cmp q p) refl)) ∙ s.waits q c at;
  }
    where
      apart : (q : ℕ) → (IsOpenAt (waiting q) → ⊥) → (b : Bool) → eq_by_cmp nat_cmp q p ≡ b → eq_by_cmp nat_cmp q p ≡ false
      apart q shut true same = absurd (shut (subst (λ n. IsOpenAt (waiting n)) (sym (same-true q p same)) opened))
      apart q shut false same = same

      held : (i q : ℕ) → holding_after i ≡ Some (Some q) → (b : Bool) → eq_by_cmp nat_cmp i (m - 1) ≡ b → (seat_after q ≡ Some (i + 1))
          × IsOpenAt (waiting q)
      held i q at true same =
          let here : i ≡ m - 1 = same-true i (m - 1) same in
          let is : q ≡ p = (let e : Some (Some q) ≡ Some (Some p) = sym at ∙ ap holding_after here ∙ holder in cc e) in
          (ap seat_after is ∙ now ∙ ap Some (omega (arith, here, from)), subst (λ n. IsOpenAt (waiting n)) (sym is) opened)
      held i q at false same =
          let was : holding i ≡ Some (Some q) = sym (rest_of.others i same) ∙ at in
          let x = s.held i q was in
          (other i q was (eq_by_cmp nat_cmp q p) refl ∙ x.0, x.1)
        where
          other : (i q : ℕ) → holding i ≡ Some (Some q) → (b : Bool) → eq_by_cmp nat_cmp q p ≡ b → seat_after q ≡ seat q
          other i q was true same = absurd (holds-none s none i (was ∙ ap (λ n. Some (Some n)) (same-true q p same)))
          other i q was false same = others.others q same

      holds : (q n : ℕ) → IsOpenAt (waiting q) → seat_after q ≡ Some n → (b : Bool) → eq_by_cmp nat_cmp q p ≡ b → (1 ≤ n)
          × (holding_after (n - 1) ≡ Some (Some q))
      holds q n o at true same =
          let is : q ≡ p = same-true q p same in
          let n_is : n ≡ m = (let e : Some n ≡ Some m = sym at ∙ ap seat_after is ∙ now in cc e) in
          (omega (arith, n_is, from), ap (λ k. holding_after (k - 1)) n_is ∙ holder ∙ ap (λ k. Some (Some k)) (sym is))
      holds q n o at false same =
          let x = s.holds q n o (sym (others.others q same) ∙ at) in
          (x.0, kept (n - 1) q x.1 (eq_by_cmp nat_cmp (n - 1) (m - 1)) refl)
        where
          kept : (i q : ℕ) → holding i ≡ Some (Some q) → (b : Bool) → eq_by_cmp nat_cmp i (m - 1) ≡ b → holding_after i ≡ Some (Some q)
          kept i q was true same =
              absurd (let bad : Some None ≡ Some (Some q) = sym free ∙ ap holding (sym (same-true i (m - 1) same)) ∙ was in cc bad)
          kept i q was false same = rest_of.others i same ∙ was

  -- 4. It goes to a queue, where it is inside of none so far: that of a monitor, or that of a condition
  pub seated-queued : (v : Waiting) → Seated waiting holding guards seat → (IsOpen v → ⊥) → seat p ≡ None → IsOpenAt (waiting p)
      → waiting_after p ≡ Some v → OnlyAt p waiting waiting_after
      → OnlyAt p seat seat_after → ((m : ℕ) → v ≡ entry m → seat_after p ≡ Some m) → ((c : ℕ) → v ≡ condition c → seat_after p ≡ guards c)
      → Seated waiting_after holding guards seat_after
  seated-queued v s shut none was now w others enter wait = record {
    held = λ i q at. let x = s.held i q at in held i q at x (eq_by_cmp nat_cmp q p) refl;
    holds = λ q m o at. holds q m o at (eq_by_cmp nat_cmp q p) refl;
    enters = λ q m at. enters q m at (eq_by_cmp nat_cmp q p) refl;
    waits = λ q c at. waits q c at (eq_by_cmp nat_cmp q p) refl;
  }
    where
      held : (i q : ℕ) → holding i ≡ Some (Some q) → (seat q ≡ Some (i + 1)) × IsOpenAt (waiting q) → (b : Bool) → eq_by_cmp nat_cmp q p ≡ b
          → (seat_after q ≡ Some (i + 1)) × IsOpenAt (waiting_after q)
      held i q at x true same = absurd (holds-none s none i (at ∙ ap (λ n. Some (Some n)) (same-true q p same)))
      held i q at x false same = (others.others q same ∙ x.0, subst IsOpenAt (sym (w.others q same)) x.1)

      holds : (q m : ℕ) → IsOpenAt (waiting_after q) → seat_after q ≡ Some m → (b : Bool) → eq_by_cmp nat_cmp q p ≡ b → (1 ≤ m)
          × (holding (m - 1) ≡ Some (Some q))
      holds q m o at true same = clash (ap waiting_after (same-true q p same) ∙ now) shut o
      holds q m o at false same = s.holds q m (subst IsOpenAt (w.others q same) o) (sym (others.others q same) ∙ at)

      enters : (q m : ℕ) → waiting_after q ≡ Some (entry m) → (b : Bool) → eq_by_cmp nat_cmp q p ≡ b → seat_after q ≡ Some m
      enters q m at true same = let is : q ≡ p = same-true q p same in
          ap seat_after is ∙ enter m (let e : Some v ≡ Some (entry m) = sym now ∙ ap waiting_after (sym is) ∙ at in cc e)
      enters q m at false same = others.others q same ∙ s.enters q m (sym (w.others q same) ∙ at)

      waits : (q c : ℕ) → waiting_after q ≡ Some (condition c) → (b : Bool) → eq_by_cmp nat_cmp q p ≡ b → seat_after q ≡ guards c
      waits q c at true same = let is : q ≡ p = same-true q p same in
          ap seat_after is ∙ wait c (let e : Some v ≡ Some (condition c) = sym now ∙ ap waiting_after (sym is) ∙ at in cc e)
      waits q c at false same = others.others q same ∙ s.waits q c (sym (w.others q same) ∙ at)

  -- 5. It leaves the monitor that it is inside of, and nobody enters
  pub seated-left : (m : ℕ) → Seated waiting holding guards seat → 1 ≤ m → holding (m - 1) ≡ Some (Some p)
      → holding_after (m - 1) ≡ Some None → OnlyAt (m - 1) holding holding_after
      → seat_after p ≡ None → OnlyAt p seat seat_after → Seated waiting holding_after guards seat_after
  seated-left m s from holder free rest_of none others = record {
    held = λ i q at. held i q at (eq_by_cmp nat_cmp i (m - 1)) refl;
    holds = λ q n o at. holds q n o at (eq_by_cmp nat_cmp q p) refl;
    enters = λ q n at. others.others q (apart q (λ o. clash at (λ x. x) o) (eq_by_cmp nat_cmp q p) refl) ∙ s.enters q n at;
    waits = λ q c at. others.others q (apart q (λ o. clash at (λ x. x) o) (eq_by_cmp nat_cmp q p) refl) ∙ s.waits q c at;
  }
    where
      mine : (seat p ≡ Some (m - 1 + 1)) × IsOpenAt (waiting p)
      mine = s.held (m - 1) p holder

      apart : (q : ℕ) → (IsOpenAt (waiting q) → ⊥) → (b : Bool) → eq_by_cmp nat_cmp q p ≡ b → eq_by_cmp nat_cmp q p ≡ false
      apart q shut true same = absurd (shut (subst (λ n. IsOpenAt (waiting n)) (sym (same-true q p same)) mine.1))
      apart q shut false same = same

      held : (i q : ℕ) → holding_after i ≡ Some (Some q) → (b : Bool) → eq_by_cmp nat_cmp i (m - 1) ≡ b → (seat_after q ≡ Some (i + 1))
          × IsOpenAt (waiting q)
      held i q at true same =
          absurd (let bad : Some None ≡ Some (Some q) = sym free ∙ ap holding_after (sym (same-true i (m - 1) same)) ∙ at in cc bad)
      held i q at false same =
          let was : holding i ≡ Some (Some q) = sym (rest_of.others i same) ∙ at in
          let x = s.held i q was in
          (other i q x.0 same (eq_by_cmp nat_cmp q p) refl ∙ x.0, x.1)
        where
          other : (i q : ℕ) → seat q ≡ Some (i + 1) → eq_by_cmp nat_cmp i (m - 1) ≡ false → (b : Bool) → eq_by_cmp nat_cmp q p ≡ b
              → seat_after q ≡ seat q
          other i q at away true same =
              let e : i + 1 ≡ m - 1 + 1 = (let f : Some (i + 1) ≡ Some (m - 1 + 1) = sym at ∙ ap seat (same-true q p same) ∙ mine.0 in
              cc f) in
              let here : i ≡ m - 1 = omega (arith, e) in
              absurd (let bad : true ≡ false = sym (same-self i) ∙ ap (eq_by_cmp nat_cmp i) here ∙ away in cc bad)
          other i q at away false same = others.others q same

      holds : (q n : ℕ) → IsOpenAt (waiting q) → seat_after q ≡ Some n → (b : Bool) → eq_by_cmp nat_cmp q p ≡ b → (1 ≤ n)
          × (holding_after (n - 1) ≡ Some (Some q))
      holds q n o at true same = absurd (let bad : None ≡ Some n = sym none ∙ ap seat_after (sym (same-true q p same)) ∙ at in cc bad)
      holds q n o at false same =
          let x = s.holds q n o (sym (others.others q same) ∙ at) in
          (x.0, kept (n - 1) q same x.1 (eq_by_cmp nat_cmp (n - 1) (m - 1)) refl)
        where
          kept : (i q : ℕ) → eq_by_cmp nat_cmp q p ≡ false → holding i ≡ Some (Some q) → (b : Bool) → eq_by_cmp nat_cmp i (m - 1) ≡ b
              → holding_after i ≡ Some (Some q)
          kept i q away was true same =
              let e : Some (Some q) ≡ Some (Some p) = sym was ∙ ap holding (same-true i (m - 1) same) ∙ holder in
              let is : q ≡ p = cc e in
              absurd (let bad : true ≡ false = sym (same-self q) ∙ ap (eq_by_cmp nat_cmp q) is ∙ away in cc bad)
          kept i q away was false same = rest_of.others i same ∙ was

  -- 6. A process starts, or goes, that is inside of none
  pub seated-started : Seated waiting holding guards seat → waiting p ≡ None → OnlyAt p waiting waiting_after → IsOpenAt (waiting_after p)
      → seat_after p ≡ None → OnlyAt p seat seat_after → Seated waiting_after holding guards seat_after
  seated-started s absent w opened none others = record {
    held = λ i q at. let x = s.held i q at in held i q x (eq_by_cmp nat_cmp q p) refl;
    holds = λ q m o at. holds q m o at (eq_by_cmp nat_cmp q p) refl;
    enters = λ q m at. enters q m at (eq_by_cmp nat_cmp q p) refl;
    waits = λ q c at. waits q c at (eq_by_cmp nat_cmp q p) refl;
  }
    where
      held : (i q : ℕ) → (seat q ≡ Some (i + 1)) × IsOpenAt (waiting q) → (b : Bool) → eq_by_cmp nat_cmp q p ≡ b
          → (seat_after q ≡ Some (i + 1)) × IsOpenAt (waiting_after q)
      held i q x true same = absurd (subst IsOpenAt (ap waiting (same-true q p same) ∙ absent) x.1)
      held i q x false same = (others.others q same ∙ x.0, subst IsOpenAt (sym (w.others q same)) x.1)

      holds : (q m : ℕ) → IsOpenAt (waiting_after q) → seat_after q ≡ Some m → (b : Bool) → eq_by_cmp nat_cmp q p ≡ b → (1 ≤ m)
          × (holding (m - 1) ≡ Some (Some q))
      holds q m o at true same = absurd (let bad : None ≡ Some m = sym none ∙ ap seat_after (sym (same-true q p same)) ∙ at in cc bad)
      holds q m o at false same = s.holds q m (subst IsOpenAt (w.others q same) o) (sym (others.others q same) ∙ at)

      enters : (q m : ℕ) → waiting_after q ≡ Some (entry m) → (b : Bool) → eq_by_cmp nat_cmp q p ≡ b → seat_after q ≡ Some m
      enters q m at true same = clash (ap waiting_after (sym (same-true q p same)) ∙ at) (λ x. x) opened
      enters q m at false same = others.others q same ∙ s.enters q m (sym (w.others q same) ∙ at)

      waits : (q c : ℕ) → waiting_after q ≡ Some (condition c) → (b : Bool) → eq_by_cmp nat_cmp q p ≡ b → seat_after q ≡ guards c
      waits q c at true same = clash (ap waiting_after (sym (same-true q p same)) ∙ at) (λ x. x) opened
      waits q c at false same = others.others q same ∙ s.waits q c (sym (w.others q same) ∙ at)

  pub seated-gone : Seated waiting holding guards seat → seat p ≡ None → OnlyAt p waiting waiting_after → waiting_after p ≡ None
      → OnlyAt p seat seat_after → Seated waiting_after holding guards seat_after
  seated-gone s none w gone others = record {
    held = λ i q at. let x = s.held i q at in held i q at x (eq_by_cmp nat_cmp q p) refl;
    holds = λ q m o at. holds q m o at (eq_by_cmp nat_cmp q p) refl;
    enters = λ q m at. enters q m at (eq_by_cmp nat_cmp q p) refl;
    waits = λ q c at. waits q c at (eq_by_cmp nat_cmp q p) refl;
  }
    where
      held : (i q : ℕ) → holding i ≡ Some (Some q) → (seat q ≡ Some (i + 1)) × IsOpenAt (waiting q) → (b : Bool) → eq_by_cmp nat_cmp q p ≡ b
          → (seat_after q ≡ Some (i + 1)) × IsOpenAt (waiting_after q)
      held i q at x true same = absurd (holds-none s none i (at ∙ ap (λ n. Some (Some n)) (same-true q p same)))
      held i q at x false same = (others.others q same ∙ x.0, subst IsOpenAt (sym (w.others q same)) x.1)

      holds : (q m : ℕ) → IsOpenAt (waiting_after q) → seat_after q ≡ Some m → (b : Bool) → eq_by_cmp nat_cmp q p ≡ b → (1 ≤ m)
          × (holding (m - 1) ≡ Some (Some q))
      holds q m o at true same = absurd (subst IsOpenAt (ap waiting_after (same-true q p same) ∙ gone) o)
      holds q m o at false same = s.holds q m (subst IsOpenAt (w.others q same) o) (sym (others.others q same) ∙ at)

      enters : (q m : ℕ) → waiting_after q ≡ Some (entry m) → (b : Bool) → eq_by_cmp nat_cmp q p ≡ b → seat_after q ≡ Some m
      enters q m at true same = absurd (let bad : None ≡ Some (entry m) = sym gone ∙ ap waiting_after (sym (same-true q p same)) ∙ at in
          cc bad)
      enters q m at false same = others.others q same ∙ s.enters q m (sym (w.others q same) ∙ at)

      waits : (q c : ℕ) → waiting_after q ≡ Some (condition c) → (b : Bool) → eq_by_cmp nat_cmp q p ≡ b → seat_after q ≡ guards c
      waits q c at true same = absurd (let bad : None ≡ Some (condition c) =
          sym gone ∙ ap waiting_after (sym (same-true q p same)) ∙ at in cc bad)
      waits q c at false same = others.others q same ∙ s.waits q c (sym (w.others q same) ∙ at)

-- 7. The head of a queue enters a monitor that is free
module _ (waiting waiting_after : ℕ → Option Waiting) (holding holding_after : ℕ → Option (Option ℕ)) (guards : ℕ → Option ℕ)
    (seat : ℕ → Option ℕ) (q : ℕ) where
  pub seated-entered : (m : ℕ) → Seated waiting holding guards seat → 1 ≤ m → waiting q ≡ Some (entry m) → IsOpenAt (waiting_after q)
      → OnlyAt q waiting waiting_after → holding (m - 1) ≡ Some None
      → holding_after (m - 1) ≡ Some (Some q) → OnlyAt (m - 1) holding holding_after → Seated waiting_after holding_after guards seat
  seated-entered m s from was opened w free holder rest_of = record {
    held = λ i p at. held i p at (eq_by_cmp nat_cmp i (m - 1)) refl;
    holds = λ p n o at. holds p n o at (eq_by_cmp nat_cmp p q) refl;
    enters = λ p n at. s.enters p n (still p (entry n) (λ x. x) at (eq_by_cmp nat_cmp p q) refl);
    waits = λ p c at. s.waits p c (still p (condition c) (λ x. x) at (eq_by_cmp nat_cmp p q) refl);
  }
    where
      still : (p : ℕ) (v : Waiting) → (IsOpen v → ⊥) → waiting_after p ≡ Some v → (b : Bool) → eq_by_cmp nat_cmp p q ≡ b
          → waiting p ≡ Some v
      still p v shut at true same = clash (ap waiting_after (sym (same-true p q same)) ∙ at) shut opened
      still p v shut at false same = sym (w.others p same) ∙ at

      held : (i p : ℕ) → holding_after i ≡ Some (Some p) → (b : Bool) → eq_by_cmp nat_cmp i (m - 1) ≡ b → (seat p ≡ Some (i + 1))
          × IsOpenAt (waiting_after p)
      held i p at true same =
          let here : i ≡ m - 1 = same-true i (m - 1) same in
          let is : p ≡ q = (let e : Some (Some p) ≡ Some (Some q) = sym at ∙ ap holding_after here ∙ holder in cc e) in
          (ap seat is ∙ s.enters q m was ∙ ap Some (omega (arith, here, from)), subst (λ n. IsOpenAt (waiting_after n)) (sym is) opened)
      held i p at false same = let x = s.held i p (sym (rest_of.others i same) ∙ at) in (x.0, later p x.1 (eq_by_cmp nat_cmp p q) refl)
        where
          later : (p : ℕ) → IsOpenAt (waiting p) → (b : Bool) → eq_by_cmp nat_cmp p q ≡ b → IsOpenAt (waiting_after p)
          later p o true same = clash (ap waiting (same-true p q same) ∙ was) (λ x. x) o
          later p o false same = subst IsOpenAt (sym (w.others p same)) o

      holds : (p n : ℕ) → IsOpenAt (waiting_after p) → seat p ≡ Some n → (b : Bool) → eq_by_cmp nat_cmp p q ≡ b → (1 ≤ n)
          × (holding_after (n - 1) ≡ Some (Some p))
      holds p n o at true same =
          let is : p ≡ q = same-true p q same in
          let n_is : n ≡ m = (let e : Some n ≡ Some m = sym at ∙ ap seat is ∙ s.enters q m was in cc e) in
          (omega (arith, n_is, from), ap (λ k. holding_after (k - 1)) n_is ∙ holder ∙ ap (λ k. Some (Some k)) (sym is))
      holds p n o at false same = let x = s.holds p n (subst IsOpenAt (w.others p same) o) at in
          (x.0, kept (n - 1) p x.1 (eq_by_cmp nat_cmp (n - 1) (m - 1)) refl)
        where
          kept : (i p : ℕ) → holding i ≡ Some (Some p) → (b : Bool) → eq_by_cmp nat_cmp i (m - 1) ≡ b → holding_after i ≡ Some (Some p)
          kept i p was true same =
              absurd (let bad : Some None ≡ Some (Some p) = sym free ∙ ap holding (sym (same-true i (m - 1) same)) ∙ was in cc bad)
          kept i p was false same = rest_of.others i same ∙ was

  -- 8. The head of a condition's queue goes to the entry queue of its monitor
  pub seated-signalled : (c m : ℕ) → Seated waiting holding guards seat → waiting q ≡ Some (condition c) → guards c ≡ Some m
      → waiting_after q ≡ Some (entry m) → OnlyAt q waiting waiting_after
      → Seated waiting_after holding guards seat
  seated-signalled c m s was of_c now w = record {
    held = λ i p at. let x = s.held i p at in (x.0, later p x.1 (eq_by_cmp nat_cmp p q) refl);
    holds = λ p n o at. holds p n o at (eq_by_cmp nat_cmp p q) refl;
    enters = λ p n at. enters p n at (eq_by_cmp nat_cmp p q) refl;
    waits = λ p d at. waits p d at (eq_by_cmp nat_cmp p q) refl;
  }
    where
      later : (p : ℕ) → IsOpenAt (waiting p) → (b : Bool) → eq_by_cmp nat_cmp p q ≡ b → IsOpenAt (waiting_after p)
      later p o true same = clash (ap waiting (same-true p q same) ∙ was) (λ x. x) o
      later p o false same = subst IsOpenAt (sym (w.others p same)) o

      holds : (p n : ℕ) → IsOpenAt (waiting_after p) → seat p ≡ Some n → (b : Bool) → eq_by_cmp nat_cmp p q ≡ b → (1 ≤ n)
          × (holding (n - 1) ≡ Some (Some p))
      holds p n o at true same = clash (ap waiting_after (same-true p q same) ∙ now) (λ x. x) o
      holds p n o at false same = s.holds p n (subst IsOpenAt (w.others p same) o) at

      enters : (p n : ℕ) → waiting_after p ≡ Some (entry n) → (b : Bool) → eq_by_cmp nat_cmp p q ≡ b → seat p ≡ Some n
      enters p n at true same =
          let is : p ≡ q = same-true p q same in
          let m_is : entry m ≡ entry n = (let e : Some (entry m) ≡ Some (entry n) = sym now ∙ ap waiting_after (sym is) ∙ at in cc e) in
          let number : m ≡ n = cc m_is in
          ap seat is ∙ s.waits q c was ∙ of_c ∙ ap Some number
      enters p n at false same = s.enters p n (sym (w.others p same) ∙ at)

      waits : (p d : ℕ) → waiting_after p ≡ Some (condition d) → (b : Bool) → eq_by_cmp nat_cmp p q ≡ b → seat p ≡ guards d
      waits p d at true same =
          absurd (let bad : Some (entry m) ≡ Some (condition d) = sym now ∙ ap waiting_after (sym (same-true p q same)) ∙ at in cc bad)
      waits p d at false same = s.waits p d (sym (w.others p same) ∙ at)
