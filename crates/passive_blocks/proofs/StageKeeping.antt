-- The heads that keep a value are the same while those that a change closes are closed.
use Rattle.std.specs.Prelude.{◌≡◌, ◌⊎◌, ◌≤◌, ◌<◌, Bool, true, false, not, ◌&&◌, ◌||◌, ◌==◌, nat_le, List, [], ◌∷◌, filter}
use Rattle.std.proofs.Common.{refl, sym, ap, subst, ◌∙◌, inl, inr, arith}
use Rattle.std.specs.List.{list_all}
use Rattle.std.specs.Ordering.{eq_by_cmp}
use Rattle.std.specs.Cmp.{eq_by_cmp_equiv}
use Rattle.std.proofs.lemmas.Bool.{false≢true, eqb-true, cases_lt}
use Rattle.std.proofs.lemmas.Bool.Decides.{nat_tests}
use Rattle.capability.specs.Uids.{uid_cmp}
use Rattle.capability.proofs.Uids.{uid_cmp_total}
use Rattle.block_tables.specs.Blocks.{Head, same_uid, counts, is_alone, keeping}
use Rattle.passive_blocks.specs.StageState.{may_close}
use Rattle.block_tables.proofs.Slots.{same_uids}
use Rattle.block_tables.proofs.Closing.{lets}
use Rattle.passive_blocks.proofs.Among.{In, as_true, all_in, in_all, in_filter, of_filter, filter_alike, filter_twice, left_true}
use Rattle.passive_blocks.proofs.Among.{right_true, both_true}

pub uid_itself : (h : Head) → same_uid h h ≡ true
uid_itself h = (eq_by_cmp_equiv uid_cmp_total).refl h.uid

pub uids_same : (g h : Head) → g.uid ≡ h.uid → same_uid g h ≡ true
uids_same g h e = ap (λ u. eq_by_cmp uid_cmp u h.uid) e ∙ uid_itself h

-- a head lets another count where that is of another uid or not earlier
pub lets_by : (g x : Head) → (x.uid ≡ g.uid → x.sequence ≤ g.sequence) → lets g x ≡ true
lets_by g x less = go (same_uid x g) refl
  where
    go : (b : Bool) → same_uid x g ≡ b → (not b || nat_le x.sequence g.sequence) ≡ true
    go false is = refl
    go true is =
        let within : x.sequence ≤ g.sequence = less (same_uids x.uid g.uid is) in
        grind (arith, nat_tests, within)

pub lets_not_later : (g x : Head) → lets g x ≡ true → x.uid ≡ g.uid → x.sequence ≤ g.sequence
lets_not_later g x is same =
    let test : nat_le x.sequence g.sequence ≡ true =
    sym (ap (λ b. not b || nat_le x.sequence g.sequence) (uids_same x g same)) ∙ is in
    grind (arith, nat_tests, test)

-- the head of its uid with the greatest sequence
pub record Latest (hs : List Head) (g x : Head) : Type 0 where
  pub among : (x ≡ g) ⊎ In x hs
  pub same : x.uid ≡ g.uid
  pub late : g.sequence ≤ x.sequence
  pub others : (y : Head) → In y hs → y.uid ≡ g.uid → y.sequence ≤ x.sequence

by_uid : (x g : Head) → (x.uid ≡ g.uid) ⊎ (x.uid ≡ g.uid → ⊥)
by_uid x g = go (same_uid x g) refl
  where
    go : (b : Bool) → same_uid x g ≡ b → (x.uid ≡ g.uid) ⊎ (x.uid ≡ g.uid → ⊥)
    go true is = inl (same_uids x.uid g.uid is)
    go false is = inr (λ same. false≢true (sym is ∙ uids_same x g same))

pub latest_of : (hs : List Head) (g : Head) → (x : Head) × Latest hs g x
latest_of [] g = (g, record { among = inl refl; same = refl; late = omega arith; others = λ y there. absurd there })
latest_of (h ∷ hs) g =
    let rest = latest_of hs g in
    let x : Head = rest.0 in
    let l : Latest hs g x = rest.1 in
    elim (by_uid h g) [
      | inr other ↦ (
        x,
        record {
          among = elim l.among [ inl is ↦ inl is | inr there ↦ inr (inr there) ];
          same = l.same;
          late = l.late;
          others = λ y there same. elim there [
            | inl is ↦ absurd (other (ap (λ (z : Head). z.uid) (sym is) ∙ same))
            | inr behind ↦ l.others y behind same
          ];
        },
      )
      | inl same_uid ↦ elim (cases_lt x.sequence h.sequence) [
        | inl later ↦ (
          h,
          record {
            among = inr (inl refl);
            same = same_uid;
            late = omega (arith, later, l.late);
            others = λ y there same. elim there [
              | inl is ↦ omega (arith, ap (λ (z : Head). z.sequence) is)
              | inr behind ↦ omega (arith, later, l.others y behind same)
            ];
          },
        )
        | inr not_later ↦ (
          x,
          record {
            among = elim l.among [ inl is ↦ inl is | inr there ↦ inr (inr there) ];
            same = l.same;
            late = l.late;
            others = λ y there same. elim there [
              | inl is ↦ omega (arith, not_later, ap (λ (z : Head). z.sequence) is)
              | inr behind ↦ l.others y behind same
            ];
          },
        )
      ]
    ]

-- no two of these have one number
abbrev pub AreNumbered : List Head → Type 0
AreNumbered hs = (g h : Head) → In g hs → In h hs → g.number ≡ h.number → g ≡ h

latest_in : (hs : List Head) (g x : Head) → In g hs → (x ≡ g) ⊎ In x hs → In x hs
latest_in hs g x there (inl is) = subst (λ y. In y hs) (sym is) there
latest_in hs g x there (inr other) = other

latest_counts : (hs : List Head) (g x : Head) → Latest hs g x → counts hs x ≡ true
latest_counts hs g x l = in_all (λ y. lets x y) hs (λ y there. lets_by x y (λ same. l.others y there (same ∙ l.same)))

-- where a head does not count, a later one of its uid does
pub later_counts : (hs : List Head) (g : Head) → In g hs → counts hs g ≡ false
    → (x : Head) × In x hs × (x.uid ≡ g.uid) × (counts hs x ≡ true) × (g.sequence < x.sequence)
later_counts hs g there none =
    let found = latest_of hs g in
    let x : Head = found.0 in
    let l : Latest hs g x = found.1 in (
      x,
      latest_in hs g x there l.among,
      l.same,
      latest_counts hs g x l,
      elim (cases_lt g.sequence x.sequence) [
        | inl later ↦ later
        | inr not_later ↦ absurd (false≢true (sym none
            ∙ in_all (λ y. lets g y) hs (λ y at. lets_by g y (λ same. omega (arith, not_later, l.others y at same)))))
      ],
    )

or_else : (a b : Bool) → (a || b) ≡ true → b ≡ false → a ≡ true
or_else true b h none = refl
or_else false b h none = absurd (false≢true (sym none ∙ h))

shut_none : (c r a : Bool) → c ≡ true → r ≡ false → (not c || (r && a)) ≡ false
shut_none true false a p q = refl
shut_none true true a p q = absurd (false≢true (sym q))
shut_none false r a p q = absurd (false≢true p)

shut_alone : (c r a : Bool) → c ≡ true → a ≡ false → (not c || (r && a)) ≡ false
shut_alone true true false p q = refl
shut_alone true false a p q = refl
shut_alone true true true p q = q
shut_alone false r a p q = absurd (false≢true p)

false_not : (b : Bool) → (b ≡ true → ⊥) → b ≡ false
false_not true never = absurd (never refl)
false_not false never = refl

not_true : (b : Bool) → not b ≡ true → b ≡ false
not_true true h = sym h
not_true false h = refl

-- a head that counts beside an earlier one of its uid is not closed
pub stays : (hs : List Head) (g x : Head) → AreNumbered hs → In g hs → In x hs → x.uid ≡ g.uid → counts hs x ≡ true
    → g.sequence < x.sequence → may_close hs x ≡ false
stays hs g x numbered at there same is later =
    shut_alone (counts hs x) x.removal (is_alone hs x) is (false_not (is_alone hs x) (λ alone.
    let here : (not (same_uid g x) || (g.number == x.number)) ≡ true =
    all_in (λ y. not (same_uid y x) || (y.number == x.number)) hs g alone at in
    let one : (g.number == x.number) ≡ true = sym (ap (λ b. not b || (g.number == x.number)) (uids_same g x (sym same))) ∙ here in
    let e : g ≡ x = numbered g x at there (eqb-true g.number x.number one) in
    absurd (let bad : ⊥ = omega (arith, later, ap (λ (z : Head). z.sequence) e) in bad)))

-- Some of the heads that a change closes are closed: the others keep what all of them kept.
pub keeping_left : (p : Head → Bool) (hs : List Head) → AreNumbered hs → list_all (λ h. p h || may_close hs h) hs ≡ true
    → keeping (filter p hs) ≡ keeping hs
keeping_left p hs numbered all =
    filter_twice p (λ h. counts (filter p hs) h && not h.removal) hs
    ∙ filter_alike (λ h. p h && (counts (filter p hs) h && not h.removal)) (λ h. counts hs h && not h.removal) hs
    (λ g at. as_true (p g && (counts (filter p hs) g && not g.removal)) (counts hs g && not g.removal)
    (λ is. both_true (counts hs g) (not g.removal)
    (count g at (left_true (counts (filter p hs) g) (not g.removal)
    (right_true (p g) (counts (filter p hs) g && not g.removal) is)))
    (right_true (counts (filter p hs) g) (not g.removal) (right_true (p g) (counts (filter p hs) g && not g.removal) is)))
    (λ is. both_true (p g) (counts (filter p hs) g && not g.removal)
    (or_else (p g) (may_close hs g) (all_in (λ h. p h || may_close hs h) hs g all at)
    (shut_none (counts hs g) g.removal (is_alone hs g) (left_true (counts hs g) (not g.removal) is)
    (not_true g.removal (right_true (counts hs g) (not g.removal) is))))
    (both_true (counts (filter p hs) g) (not g.removal)
    (in_all (λ x. lets g x) (filter p hs) (λ x there.
    all_in (λ x. lets g x) hs x (left_true (counts hs g) (not g.removal) is) (of_filter p hs x there).0))
    (right_true (counts hs g) (not g.removal) is))))
  where
    count : (g : Head) → In g hs → counts (filter p hs) g ≡ true → counts hs g ≡ true
    count g at is = go (counts hs g) refl
      where
        go : (b : Bool) → counts hs g ≡ b → b ≡ true
        go true none = refl
        go false none =
            let later = later_counts hs g at none in
            let x : Head = later.0 in
            let open_x : p x ≡ true = or_else (p x) (may_close hs x) (all_in (λ h. p h || may_close hs h) hs x all later.1)
            (stays hs g x numbered at later.1 later.2 later.3 later.4) in
            let not_later : x.sequence ≤ g.sequence =
            lets_not_later g x (all_in (λ y. lets g y) (filter p hs) x is (in_filter p hs x later.1 open_x)) later.2 in
            absurd (let bad : ⊥ = omega (arith, not_later, later.4) in bad)
