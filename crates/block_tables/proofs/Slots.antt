-- Heads in memory when one of them is opened or closed.
use Rattle.std.proofs.Common.{◌≡◌, ℕ, suc, zero, ◌+◌, ◌-◌, ◌≤◌, ◌<◌, Bool, true, false, ◌||◌, ◌&&◌, not, ◌==◌, List, [], ◌∷◌}
use Rattle.std.proofs.Common.{length, map, set, replicate, eq-eqb, refl, sym, ap, subst, ◌∙◌, arith, inl, inr, Option, None, Some, cond}
use Rattle.std.specs.BTreeMap as tree
use Rattle.std.specs.Prelude.{IsSome, nat_lt, if◌then◌else◌, filter}
use Rattle.std.proofs.lemmas.Bool.{false≢true, cases_eq, and_from, and_right, ne_eqb, ltb-true, ltb-false, lt-ltb}
use Rattle.std.proofs.lemmas.Bool.{le-ltb, both_ways, eqb-false, false_from_ne_true}
use Rattle.std.proofs.lemmas.List.{get_or-set_same, get_or-set_other, length-set, length-replicate, map-set}
use Rattle.std.specs.Ordering.{eq_by_cmp, is_eq}
use Rattle.std.specs.Cmp.{eq_by_cmp_equiv}
use Rattle.std.specs.declared.cmp.Ordering.{Ordering}
use Rattle.std.specs.declared.cmp.Ordering.TheVariants.{Less, Equal, Greater}
use Rattle.capability.specs.declared.Uid.{Uid}
use Rattle.capability.specs.Uids.{uid_cmp}
use Rattle.capability.proofs.Uids.{uid_cmp_total, uid_cmp-IsAntisymmetric}
use Rattle.block_tables.specs.declared.heads.HeadFields.{HeadFields}
use Rattle.block_tables.specs.declared.index.IndexEntry.{IndexEntry}
use Rattle.block_tables.specs.declared.head_table.HeadTable.{HeadTable}
use Rattle.block_tables.specs.Members.{is_member}
use Rattle.block_tables.specs.HeadState.{AreHeads, SetsEntry, entry_at, slot_at, closed_slot, is_open, is_open_of, count_of, IsLatest}
use Rattle.block_tables.specs.HeadState.{IsEntryOf, one_if_some, is_late}
use Rattle.block_tables.specs.HeadState.{joined_entry, closed_entry, is_it, no_entry, entry_or_none, kept_slot}

abbrev pub one : Bool → ℕ
one true = 1
one false = 0

counted : (b : Bool) (x : HeadFields) (xs : List HeadFields) → length (if b then x ∷ xs else xs) ≡ length xs + one b
counted true x xs = omega arith
counted false x xs = omega arith

-- how many pass a test once one is another
pub count_set : (p : HeadFields → Bool) (slots : List HeadFields) (n : ℕ) (x : HeadFields) → n < length slots
    → length (filter p (set slots n x)) + one (p (slot_at slots n)) ≡ length (filter p slots) + one (p x)
count_set p [] n x within = absurd (omega (arith, within))
count_set p (s ∷ slots) zero x within =
    omega (arith, counted (p x) x (filter p slots), counted (p s) s (filter p slots))
count_set p (s ∷ slots) (suc n) x within =
    omega (
      arith,
      counted (p s) s (filter p (set slots n x)),
      counted (p s) s (filter p slots),
      count_set p slots n x (omega (arith, within)),
    )

pub slot_same : (slots : List HeadFields) (n : ℕ) (x : HeadFields) → n < length slots → slot_at (set slots n x) n ≡ x
slot_same slots n x within = get_or-set_same slots n x closed_slot within

pub slot_other : (slots : List HeadFields) (n k : ℕ) (x : HeadFields) → (k ≡ n → ⊥) → slot_at (set slots n x) k ≡ slot_at slots k
slot_other slots n k x other = get_or-set_other slots n k x closed_slot other

apart : (slots : List HeadFields) (uid : Uid) (n k : ℕ) → is_open_of uid (slot_at slots k) ≡ true → is_open_of uid (slot_at slots n) ≡ false
    → k ≡ n → ⊥
apart slots uid n k there none same = false≢true (sym none ∙ ap (λ i. is_open_of uid (slot_at slots i)) (sym same) ∙ there)

-- where neither is of a uid, the same of its heads counts
pub latest_other : (slots : List HeadFields) (uid : Uid) (n : ℕ) (x : HeadFields) (latest : Option ℕ) → n < length slots
    → is_open_of uid (slot_at slots n) ≡ false → is_open_of uid x ≡ false → IsLatest slots uid latest → IsLatest (set slots n x) uid latest
latest_other slots uid n x None within none not_it is = λ k. elim (cases_eq k n) [
  | inl same ↦ ap (λ i. is_open_of uid (slot_at (set slots n x) i)) same ∙ ap (is_open_of uid) (slot_same slots n x within) ∙ not_it
  | inr other ↦ ap (is_open_of uid) (slot_other slots n k x other) ∙ is k
]
latest_other slots uid n x (Some m) within none not_it is =
    let at : slot_at (set slots n x) m ≡ slot_at slots m = slot_other slots n m x (apart slots uid n m is.0 none) in (
      ap (is_open_of uid) at ∙ is.0,
      λ k there. elim (cases_eq k n) [
        | inl same ↦ absurd (both_ways (is_open_of uid x) not_it
            (sym (ap (is_open_of uid) (slot_same slots n x within)) ∙ ap (λ i. is_open_of uid (slot_at (set slots n x) i)) (sym same)
            ∙ there))
        | inr other ↦
            let here : slot_at (set slots n x) k ≡ slot_at slots k = slot_other slots n k x other in
            subst (λ (s : HeadFields). s.sequence ≤ (slot_at (set slots n x) m).sequence) (sym here)
            (subst (λ (s : HeadFields). (slot_at slots k).sequence ≤ s.sequence) (sym at) (is.1 k (sym (ap (is_open_of uid) here) ∙ there)))
      ],
    )

-- a head that is later than all others of its uid counts
pub latest_late : (slots : List HeadFields) (uid : Uid) (n : ℕ) (x : HeadFields) → n < length slots → is_open_of uid x ≡ true
    → ((k : ℕ) → is_open_of uid (slot_at slots k) ≡ true → (slot_at slots k).sequence ≤ x.sequence) → IsLatest (set slots n x) uid (Some n)
latest_late slots uid n x within it late =
    let at : slot_at (set slots n x) n ≡ x = slot_same slots n x within in (
      ap (is_open_of uid) at ∙ it,
      λ k there. elim (cases_eq k n) [
        | inl same ↦ omega (arith, ap (λ i. (slot_at (set slots n x) i).sequence) same)
        | inr other ↦
            let here : slot_at (set slots n x) k ≡ slot_at slots k = slot_other slots n k x other in
            subst (λ (s : HeadFields). s.sequence ≤ (slot_at (set slots n x) n).sequence) (sym here)
            (subst (λ (s : HeadFields). (slot_at slots k).sequence ≤ s.sequence) (sym at) (late k (sym (ap (is_open_of uid) here) ∙ there)))
      ],
    )

-- and one that is not leaves the one that counts
pub latest_early : (slots : List HeadFields) (uid : Uid) (n m : ℕ) (x : HeadFields) → n < length slots
    → is_open_of uid (slot_at slots n) ≡ false → x.sequence ≤ (slot_at slots m).sequence → IsLatest slots uid (Some m)
    → IsLatest (set slots n x) uid (Some m)
latest_early slots uid n m x within none early is =
    let at : slot_at (set slots n x) m ≡ slot_at slots m = slot_other slots n m x (apart slots uid n m is.0 none) in (
      ap (is_open_of uid) at ∙ is.0,
      λ k there. elim (cases_eq k n) [
        | inl same ↦
            let here : slot_at (set slots n x) k ≡ x = ap (slot_at (set slots n x)) same ∙ slot_same slots n x within in
            subst (λ (s : HeadFields). s.sequence ≤ (slot_at (set slots n x) m).sequence) (sym here)
            (subst (λ (s : HeadFields). x.sequence ≤ s.sequence) (sym at) early)
        | inr other ↦
            let here : slot_at (set slots n x) k ≡ slot_at slots k = slot_other slots n k x other in
            subst (λ (s : HeadFields). s.sequence ≤ (slot_at (set slots n x) m).sequence) (sym here)
            (subst (λ (s : HeadFields). (slot_at slots k).sequence ≤ s.sequence) (sym at) (is.1 k (sym (ap (is_open_of uid) here) ∙ there)))
      ],
    )

pub closed_not : (slot : HeadFields) (uid : Uid) → is_open slot ≡ false → is_open_of uid slot ≡ false
closed_not slot uid is = ap (λ b. b && eq_by_cmp uid_cmp slot.uid uid) is

-- the entry of a uid of which neither is
pub entry_other : (slots : List HeadFields) (uid : Uid) (n : ℕ) (x : HeadFields) (entry : IndexEntry) → n < length slots
    → is_open_of uid (slot_at slots n) ≡ false → is_open_of uid x ≡ false → IsEntryOf slots uid entry → IsEntryOf (set slots n x) uid entry
entry_other slots uid n x entry within none not_it is = (
  latest_other slots uid n x entry.latest within none not_it is.0,
  is.1 ∙ (let count : length (filter (is_open_of uid) slots) ≡ length (filter (is_open_of uid) (set slots n x)) =
      omega (arith, count_set (is_open_of uid) slots n x within, ap one none, ap one not_it) in count),
)

more_of : (slots : List HeadFields) (uid : Uid) (n : ℕ) (x : HeadFields) → n < length slots
    → is_open_of uid (slot_at slots n) ≡ false → is_open_of uid x ≡ true → count_of (set slots n x) uid ≡ count_of slots uid + 1
more_of slots uid n x within none it = omega (arith, count_set (is_open_of uid) slots n x within, ap one none, ap one it)

-- the entry of the uid whose head is opened
pub entry_joins : (slots : List HeadFields) (uid : Uid) (x : HeadFields) (latest : Option ℕ) (others : ℕ) → x.number < length slots
    → is_open_of uid (slot_at slots x.number) ≡ false → is_open_of uid x ≡ true
    → IsEntryOf slots uid (record { latest = latest; others = others })
    → IsEntryOf (set slots x.number x) uid (joined_entry slots x (record { latest = latest; others = others }))
entry_joins slots uid x None others within none it is = (
  latest_late slots uid x.number x within it (λ k there. absurd (both_ways (is_open_of uid (slot_at slots k)) (is.0 k) there)),
  omega (arith, is.1, more_of slots uid x.number x within none it),
)
entry_joins slots uid x (Some m) others within none it is = go (nat_lt x.sequence (slot_at slots m).sequence) refl
  where
    go : (b : Bool) → nat_lt x.sequence (slot_at slots m).sequence ≡ b
        → IsEntryOf (set slots x.number x) uid (record { latest = if not b then Some x.number else Some m; others = others + 1 })
    go true early = (
      latest_early slots uid x.number m x within none (omega (arith, ltb-true x.sequence (slot_at slots m).sequence early)) is.0,
      omega (arith, is.1, more_of slots uid x.number x within none it),
    )
    go false late = (
      latest_late slots uid x.number x within it (λ k there.
          omega (arith, is.0.1 k there, ltb-false x.sequence (slot_at slots m).sequence late)),
      omega (arith, is.1, more_of slots uid x.number x within none it),
    )

few : (p : HeadFields → Bool) (slots : List HeadFields) → length (filter p slots) ≤ length slots
few p [] = omega arith
few p (s ∷ slots) = least (p s) (few p slots)
  where
    least : (b : Bool) → length (filter p slots) ≤ length slots → length (if b then s ∷ filter p slots else filter p slots) ≤ suc
        (length slots)
    least true fewer = omega (arith, fewer)
    least false fewer = omega (arith, fewer)

-- no uid has more open heads than there are heads
pub few_others : (h : HeadTable) (uid : Uid) → AreHeads h → (entry_at h.index uid).others ≤ 65536
few_others h uid are = omega (arith, (are.entries uid).1, few (is_open_of uid) h.slots.items, are.long)

tied : (o : Ordering) → is_eq o ≡ true → o ≡ Equal
tied Less h = absurd (false≢true h)
tied Equal h = refl
tied Greater h = absurd (false≢true h)

pub same_uids : (a b : Uid) → eq_by_cmp uid_cmp a b ≡ true → a ≡ b
same_uids a b same = uid_cmp-IsAntisymmetric a b (tied (uid_cmp a b) same)

pub own_uid : (x : HeadFields) → is_open x ≡ true → is_open_of x.uid x ≡ true
own_uid x opened = and_from (is_open x) (eq_by_cmp uid_cmp x.uid x.uid) opened ((eq_by_cmp_equiv uid_cmp_total).refl x.uid)

pub not_of : (x : HeadFields) (uid : Uid) → eq_by_cmp uid_cmp uid x.uid ≡ false → is_open_of uid x ≡ false
not_of x uid other = and_right (is_open x) (eq_by_cmp uid_cmp x.uid uid) ((eq_by_cmp_equiv uid_cmp_total).symm x.uid uid ∙ other)

-- one of two, by whether two uids are the same
entry_by : (slots : List HeadFields) (uid : Uid) (b : Bool) (new old : IndexEntry) (own : Uid) → eq_by_cmp uid_cmp uid own ≡ b
    → (uid ≡ own → IsEntryOf slots uid new) → (eq_by_cmp uid_cmp uid own ≡ false → IsEntryOf slots uid old)
    → IsEntryOf slots uid (cond b new old)
entry_by slots uid true new old own is here there = here (same_uids uid own is)
entry_by slots uid false new old own is here there = there is

-- A new head is open: the heads are in order, where the parts are what they are to be.
pub heads_join : (h new : HeadTable) (x : HeadFields) → AreHeads h → x.number < length h.slots.items
    → is_open (slot_at h.slots.items x.number) ≡ false → is_open x ≡ true
    → new.slots.items ≡ set h.slots.items x.number x → new.sequences ≡ set h.sequences x.number x.sequence
    → length new.free ≡ length h.free → ((k : ℕ) → is_member new.free k ≡ (not (k == x.number) && is_member h.free k))
    → length new.closing ≡ length h.slots.items → length new.lone ≡ length h.slots.items
    → SetsEntry h.index new.index x.uid (joined_entry h.slots.items x (entry_at h.index x.uid)) → AreHeads new
heads_join h new x are within shut opened items sequences free_long free closing_long lone_long sets =
    let same_long : length new.slots.items ≡ length h.slots.items = ap length items ∙ length-set h.slots.items x.number x in
    record {
      long = omega (arith, same_long, are.long);
      sequences = sequences ∙ ap (λ s. set s x.number x.sequence) are.sequences
          ∙ sym (map-set (λ (slot : HeadFields). slot.sequence) h.slots.items x.number x)
          ∙ sym (ap (map (λ (slot : HeadFields). slot.sequence)) items);
      free_long = free_long ∙ are.free_long ∙ sym same_long;
      closing_long = closing_long ∙ sym same_long;
      lone_long = lone_long ∙ sym same_long;
      free = λ k on. elim (cases_eq k x.number) [
        | inl same ↦
            free k ∙ ap (λ b. not b && is_member h.free k) (eq-eqb k x.number same)
            ∙ sym (ap (λ b. not b) (ap is_open (ap (λ s. slot_at s k) items ∙ ap (slot_at (set h.slots.items x.number x)) same
            ∙ slot_same h.slots.items x.number x within) ∙ opened))
        | inr other ↦
            free k ∙ ap (λ b. not b && is_member h.free k) (ne_eqb k x.number other)
            ∙ are.free k (omega (arith, on, same_long))
            ∙ sym (ap (λ s. not (is_open s)) (ap (λ s. slot_at s k) items ∙ slot_other h.slots.items x.number k x other))
      ];
      numbered = λ k there. elim (cases_eq k x.number) [
        | inl same ↦
            ap (λ (s : HeadFields). s.number) (ap (λ s. slot_at s k) items ∙ ap (slot_at (set h.slots.items x.number x)) same
            ∙ slot_same h.slots.items x.number x within) ∙ sym same
        | inr other ↦
            let at : slot_at new.slots.items k ≡ slot_at h.slots.items k =
            ap (λ s. slot_at s k) items ∙ slot_other h.slots.items x.number k x other in
            ap (λ (s : HeadFields). s.number) at ∙ are.numbered k (sym (ap is_open at) ∙ there)
      ];
      entries = λ uid.
          subst (λ s. IsEntryOf s uid (entry_at new.index uid)) (sym items)
          (subst (IsEntryOf (set h.slots.items x.number x) uid) (sym (sets uid))
          (entry_by (set h.slots.items x.number x) uid (eq_by_cmp uid_cmp uid x.uid)
          (joined_entry h.slots.items x (entry_at h.index x.uid)) (entry_at h.index uid) x.uid refl
          (λ same. subst (λ u. IsEntryOf (set h.slots.items x.number x) u (joined_entry h.slots.items x (entry_at h.index x.uid)))
          (sym same)
          (entry_joins h.slots.items x.uid x (entry_at h.index x.uid).latest (entry_at h.index x.uid).others within
          (closed_not (slot_at h.slots.items x.number) x.uid shut) (own_uid x opened) (are.entries x.uid)))
          (λ other. entry_other h.slots.items uid x.number x (entry_at h.index uid) within
          (closed_not (slot_at h.slots.items x.number) uid shut) (not_of x uid other) (are.entries uid))));
    }

-- the same behind a call that changed neither the slots nor the index
pub heads_join_from : (h mid new : HeadTable) (x : HeadFields) (late : Bool) (entry joined : IndexEntry) → AreHeads mid
    → mid.slots ≡ h.slots
    → mid.index ≡ h.index → x.number < length h.slots.items → is_open (slot_at h.slots.items x.number) ≡ false → is_open x ≡ true
    → new.slots.items ≡ set mid.slots.items x.number x → new.sequences ≡ set mid.sequences x.number x.sequence
    → length new.free ≡ length mid.free → ((k : ℕ) → is_member new.free k ≡ (not (k == x.number) && is_member mid.free k))
    → new.closing ≡ mid.closing → new.lone ≡ mid.lone
    → entry ≡ entry_at h.index x.uid → late ≡ is_late h.slots.items x entry.latest
    → joined ≡ record { latest = if late then Some x.number else entry.latest; others = entry.others + one_if_some entry.latest }
    → SetsEntry mid.index new.index x.uid joined → AreHeads new
heads_join_from h mid new x late entry joined are slots index within shut opened items sequences free_long free closing lone entry_is
    late_is
    joined_is sets =
    let all : joined ≡ joined_entry mid.slots.items x (entry_at mid.index x.uid) =
    joined_is
    ∙ ap (λ b. record { latest = if b then Some x.number else entry.latest; others = entry.others + one_if_some entry.latest }) late_is
    ∙ ap (joined_entry h.slots.items x) entry_is
    ∙ ap (λ v. joined_entry v.items x (entry_at h.index x.uid)) (sym slots)
    ∙ ap (λ i. joined_entry mid.slots.items x (entry_at i x.uid)) (sym index) in
    heads_join mid new x are (subst (λ v. x.number < length v.items) (sym slots) within)
    (ap (λ v. is_open (slot_at v.items x.number)) slots ∙ shut) opened items sequences free_long free
    (ap length closing ∙ are.closing_long) (ap length lone ∙ are.lone_long)
    (subst (SetsEntry mid.index new.index x.uid) all sets)

none_closed : (uid : Uid) → is_open_of uid closed_slot ≡ false
none_closed uid = refl

some_passes : (p : HeadFields → Bool) (slots : List HeadFields) (k : ℕ) → p closed_slot ≡ false → p (slot_at slots k) ≡ true
    → 1 ≤ length (filter p slots)
some_passes p [] k none is = absurd (both_ways (p closed_slot) none is)
some_passes p (s ∷ slots) zero none is = omega (arith, counted (p s) s (filter p slots), ap one is)
some_passes p (s ∷ slots) (suc k) none is = omega (arith, counted (p s) s (filter p slots), some_passes p slots k none is)

pub fewer_of : (slots : List HeadFields) (uid : Uid) (n : ℕ) → n < length slots → is_open_of uid (slot_at slots n) ≡ true
    → count_of (set slots n closed_slot) uid + 1 ≡ count_of slots uid
fewer_of slots uid n within there = omega (arith, count_set (is_open_of uid) slots n closed_slot within, ap one there)

-- the head that counts goes on counting, where another of its uid is closed
latest_stays : (slots : List HeadFields) (uid : Uid) (n m : ℕ) → n < length slots → (m ≡ n → ⊥) → IsLatest slots uid (Some m)
    → IsLatest (set slots n closed_slot) uid (Some m)
latest_stays slots uid n m within not_it is =
    let at : slot_at (set slots n closed_slot) m ≡ slot_at slots m = slot_other slots n m closed_slot not_it in (
      ap (is_open_of uid) at ∙ is.0,
      λ k there. elim (cases_eq k n) [
        | inl same ↦ absurd (false≢true (sym (ap (is_open_of uid) (ap (slot_at (set slots n closed_slot)) same
            ∙ slot_same slots n closed_slot within)) ∙ there))
        | inr other ↦
            let here : slot_at (set slots n closed_slot) k ≡ slot_at slots k = slot_other slots n k closed_slot other in
            subst (λ (s : HeadFields). s.sequence ≤ (slot_at (set slots n closed_slot) m).sequence) (sym here)
            (subst (λ (s : HeadFields). (slot_at slots k).sequence ≤ s.sequence) (sym at) (is.1 k (sym (ap (is_open_of uid) here) ∙ there)))
      ],
    )

-- two open heads of a uid are two
pub two_of : (slots : List HeadFields) (uid : Uid) (n m : ℕ) → n < length slots → is_open_of uid (slot_at slots n) ≡ true → (m ≡ n → ⊥)
    → is_open_of uid (slot_at slots m) ≡ true → 2 ≤ count_of slots uid
two_of slots uid n m within there other also =
    omega (
      arith,
      fewer_of slots uid n within there,
      some_passes (is_open_of uid) (set slots n closed_slot) m refl (ap (is_open_of uid) (slot_other slots n m closed_slot other) ∙ also),
    )

-- beside the head that counts there is one, where another is open
pub other_open : (slots : List HeadFields) (uid : Uid) (n : ℕ) (latest : Option ℕ) (others : ℕ) → n < length slots
    → is_open_of uid (slot_at slots n) ≡ true → IsEntryOf slots uid (record { latest = latest; others = others }) → is_it n latest ≡ false
    → 1 ≤ others
other_open slots uid n None others within there is not_it = absurd (both_ways (is_open_of uid (slot_at slots n)) (is.0 n) there)
other_open slots uid n (Some m) others within there is not_it =
    omega (arith, is.1, two_of slots uid n m within there (λ same. eqb-false n m not_it (sym same)) is.0.0)

-- the entry of the uid whose head is closed
pub entry_closes : (slots : List HeadFields) (uid : Uid) (n : ℕ) (latest : Option ℕ) (others : ℕ) → n < length slots
    → is_open_of uid (slot_at slots n) ≡ true → (is_it n latest ≡ true → others ≡ 0)
    → IsEntryOf slots uid (record { latest = latest; others = others })
    → IsEntryOf (set slots n closed_slot) uid (closed_entry n (record { latest = latest; others = others }))
entry_closes slots uid n None others within there alone is = absurd (both_ways (is_open_of uid (slot_at slots n)) (is.0 n) there)
entry_closes slots uid n (Some m) others within there alone is = go (n == m) refl
  where
    go : (b : Bool) → (n == m) ≡ b
        → IsEntryOf (set slots n closed_slot) uid (if b then no_entry else record { latest = Some m; others = others - 1 })
    go true same =
        let none : count_of (set slots n closed_slot) uid ≡ 0 = omega (arith, fewer_of slots uid n within there, is.1, alone same) in (
          λ k. false_from_ne_true (is_open_of uid (slot_at (set slots n closed_slot) k)) (λ open_there.
              omega (arith, none, some_passes (is_open_of uid) (set slots n closed_slot) k refl open_there)),
          omega (arith, none),
        )
    go false other =
        let apart : m ≡ n → ⊥ = λ same. eqb-false n m other (sym same) in (
          latest_stays slots uid n m within apart is.0,
          omega (arith, fewer_of slots uid n within there, is.1, two_of slots uid n m within there apart is.0.0),
        )

-- an open head has an entry
pub open_has_entry : (h : HeadTable) (n : ℕ) → AreHeads h → is_open (slot_at h.slots.items n) ≡ true
    → IsSome (tree.get uid_cmp h.index (slot_at h.slots.items n).uid)
open_has_entry h n are there = go (tree.get uid_cmp h.index (slot_at h.slots.items n).uid) refl
  where
    go : (found : Option IndexEntry) → tree.get uid_cmp h.index (slot_at h.slots.items n).uid ≡ found → IsSome found
    go (Some entry) is = refl
    go None is =
        let uid = (slot_at h.slots.items n).uid in
        let none : IsEntryOf h.slots.items uid no_entry = subst (λ found. IsEntryOf h.slots.items uid (entry_or_none found)) is
        (are.entries uid) in
        absurd (both_ways (is_open_of uid (slot_at h.slots.items n)) (none.0 n) (own_uid (slot_at h.slots.items n) there))

-- A head is closed: the heads are in order, where the parts are what they are to be.
pub heads_close : (h new : HeadTable) (n : ℕ) → AreHeads h → n < length h.slots.items
    → is_open (slot_at h.slots.items n) ≡ true
    → (is_it n (entry_at h.index (slot_at h.slots.items n).uid).latest ≡ true → (entry_at h.index (slot_at h.slots.items n).uid).others ≡ 0)
    → new.slots.items ≡ set h.slots.items n closed_slot → new.sequences ≡ set h.sequences n 0
    → length new.free ≡ length h.free → ((k : ℕ) → is_member new.free k ≡ (k == n || is_member h.free k))
    → length new.closing ≡ length h.closing → length new.lone ≡ length h.slots.items
    → SetsEntry h.index new.index (slot_at h.slots.items n).uid (closed_entry n (entry_at h.index (slot_at h.slots.items n).uid))
    → AreHeads new
heads_close h new n are within opened alone items sequences free_long free closing_long lone_long sets =
    let same_long : length new.slots.items ≡ length h.slots.items = ap length items ∙ length-set h.slots.items n closed_slot in
    let own : Uid = (slot_at h.slots.items n).uid in
    record {
      long = omega (arith, same_long, are.long);
      sequences = sequences ∙ ap (λ s. set s n 0) are.sequences
          ∙ sym (map-set (λ (slot : HeadFields). slot.sequence) h.slots.items n closed_slot)
          ∙ sym (ap (map (λ (slot : HeadFields). slot.sequence)) items);
      free_long = free_long ∙ are.free_long ∙ sym same_long;
      closing_long = closing_long ∙ are.closing_long ∙ sym same_long;
      lone_long = lone_long ∙ sym same_long;
      free = λ k on. elim (cases_eq k n) [
        | inl same ↦
            free k ∙ ap (λ b. b || is_member h.free k) (eq-eqb k n same)
            ∙ sym (ap (λ s. not (is_open s)) (ap (λ s. slot_at s k) items ∙ ap (slot_at (set h.slots.items n closed_slot)) same
            ∙ slot_same h.slots.items n closed_slot within))
        | inr other ↦
            free k ∙ ap (λ b. b || is_member h.free k) (ne_eqb k n other)
            ∙ are.free k (omega (arith, on, same_long))
            ∙ sym (ap (λ s. not (is_open s)) (ap (λ s. slot_at s k) items ∙ slot_other h.slots.items n k closed_slot other))
      ];
      numbered = λ k there. elim (cases_eq k n) [
        | inl same ↦
            absurd (false≢true (sym (ap is_open (ap (λ s. slot_at s k) items ∙ ap (slot_at (set h.slots.items n closed_slot)) same
            ∙ slot_same h.slots.items n closed_slot within)) ∙ there))
        | inr other ↦
            let at : slot_at new.slots.items k ≡ slot_at h.slots.items k =
            ap (λ s. slot_at s k) items ∙ slot_other h.slots.items n k closed_slot other in
            ap (λ (s : HeadFields). s.number) at ∙ are.numbered k (sym (ap is_open at) ∙ there)
      ];
      entries = λ uid.
          subst (λ s. IsEntryOf s uid (entry_at new.index uid)) (sym items)
          (subst (IsEntryOf (set h.slots.items n closed_slot) uid) (sym (sets uid))
          (entry_by (set h.slots.items n closed_slot) uid (eq_by_cmp uid_cmp uid own)
          (closed_entry n (entry_at h.index own)) (entry_at h.index uid) own refl
          (λ same. subst (λ u. IsEntryOf (set h.slots.items n closed_slot) u (closed_entry n (entry_at h.index own))) (sym same)
          (entry_closes h.slots.items own n (entry_at h.index own).latest (entry_at h.index own).others within
          (own_uid (slot_at h.slots.items n) opened) alone (are.entries own)))
          (λ other. entry_other h.slots.items uid n closed_slot (entry_at h.index uid) within
          (not_of (slot_at h.slots.items n) uid other) refl (are.entries uid))));
    }

-- the same behind a call that changed neither the slots nor the index
pub heads_close_from : (h mid new : HeadTable) (n : ℕ) (slot shut : HeadFields) (entry closed : IndexEntry) → AreHeads mid
    → mid.slots ≡ h.slots → mid.index ≡ h.index → n < length h.slots.items → is_open (slot_at h.slots.items n) ≡ true
    → (is_it n (entry_at h.index (slot_at h.slots.items n).uid).latest ≡ true → (entry_at h.index (slot_at h.slots.items n).uid).others ≡ 0)
    → shut ≡ closed_slot → new.slots.items ≡ set mid.slots.items n shut → new.sequences ≡ set mid.sequences n 0
    → length new.free ≡ length mid.free → ((k : ℕ) → is_member new.free k ≡ (k == n || is_member mid.free k))
    → length new.closing ≡ length mid.closing → new.lone ≡ mid.lone → slot ≡ slot_at h.slots.items n → entry ≡ entry_at h.index slot.uid
    → closed ≡ closed_entry n entry → SetsEntry mid.index new.index slot.uid closed → AreHeads new
heads_close_from h mid new n slot shut entry closed are slots index within opened alone shut_is items sequences free_long free closing_long
    lone slot_is entry_is closed_is sets =
    let same : slot ≡ slot_at mid.slots.items n = slot_is ∙ ap (λ v. slot_at v.items n) (sym slots) in
    let all : closed ≡ closed_entry n (entry_at mid.index (slot_at mid.slots.items n).uid) =
    closed_is ∙ ap (closed_entry n) (entry_is ∙ ap (λ i. entry_at i slot.uid) (sym index)
    ∙ ap (λ (s : HeadFields). entry_at mid.index s.uid) same) in
    heads_close mid new n are (subst (λ v. n < length v.items) (sym slots) within)
    (ap (λ v. is_open (slot_at v.items n)) slots ∙ opened)
    (subst (λ i. is_it n (entry_at i (slot_at mid.slots.items n).uid).latest ≡ true → (entry_at i (slot_at mid.slots.items n).uid).others
    ≡ 0)
    (sym index)
    (subst (λ v. is_it n (entry_at h.index (slot_at v.items n).uid).latest ≡ true → (entry_at h.index (slot_at v.items n).uid).others ≡ 0)
    (sym slots) alone))
    (items ∙ ap (set mid.slots.items n) shut_is) sequences free_long free closing_long (ap length lone ∙ are.lone_long)
    (subst (λ (s : HeadFields). SetsEntry mid.index new.index s.uid (closed_entry n (entry_at mid.index (slot_at mid.slots.items n).uid)))
    same
    (subst (SetsEntry mid.index new.index slot.uid) all sets))

-- beside the head that counts there is one, where a head is closed that does not
pub closes_another : (h : HeadTable) (n : ℕ) (slot : HeadFields) (entry : IndexEntry) → AreHeads h → n < length h.slots.items
    → is_open (slot_at h.slots.items n) ≡ true → slot ≡ slot_at h.slots.items n → entry ≡ entry_at h.index slot.uid
    → is_it n entry.latest ≡ false → 1 ≤ entry.others
closes_another h n slot entry are within opened slot_is entry_is not_it =
    let uid : Uid = (slot_at h.slots.items n).uid in
    let all : entry ≡ entry_at h.index uid = entry_is ∙ ap (λ (s : HeadFields). entry_at h.index s.uid) slot_is in
    subst (λ (e : IndexEntry). 1 ≤ e.others) (sym all)
    (other_open h.slots.items uid n (entry_at h.index uid).latest (entry_at h.index uid).others within
    (own_uid (slot_at h.slots.items n) opened) (are.entries uid) (ap (λ (e : IndexEntry). is_it n e.latest) (sym all) ∙ not_it))

-- the entry of an open head is there
pub closes_entry : (h mid : HeadTable) (n : ℕ) (slot : HeadFields) → AreHeads h → mid.index ≡ h.index
    → is_open (slot_at h.slots.items n) ≡ true → slot ≡ slot_at h.slots.items n → IsSome (tree.get uid_cmp mid.index slot.uid)
closes_entry h mid n slot are index opened slot_is =
    subst (λ i. IsSome (tree.get uid_cmp i slot.uid)) (sym index)
    (subst (λ (s : HeadFields). IsSome (tree.get uid_cmp h.index s.uid)) (sym slot_is) (open_has_entry h n are opened))

all_closed : (count k : ℕ) → slot_at (replicate count closed_slot) k ≡ closed_slot
all_closed zero k = refl
all_closed (suc n) zero = refl
all_closed (suc n) (suc k) = all_closed n k

none_open : (uid : Uid) (count : ℕ) → count_of (replicate count closed_slot) uid ≡ 0
none_open uid zero = refl
none_open uid (suc n) = none_open uid n

no_sequences : (count : ℕ) → map (λ (slot : HeadFields). slot.sequence) (replicate count closed_slot) ≡ replicate count 0
no_sequences zero = refl
no_sequences (suc n) = ap (λ s. 0 ∷ s) (no_sequences n)

-- where all heads are closed the heads are in order
pub heads_fresh : (h : HeadTable) (count : ℕ) → count ≤ 65536 → h.slots.items ≡ replicate count closed_slot → h.sequences ≡ replicate count
    0
    → length h.free ≡ count → ((k : ℕ) → is_member h.free k ≡ nat_lt k count) → h.closing ≡ replicate count 0 → h.lone ≡ replicate count 0
    → ((uid : Uid) → entry_at h.index uid ≡ no_entry) → AreHeads h
heads_fresh h count few items sequences free_long free closing lone empty =
    let long : length h.slots.items ≡ count = ap length items ∙ length-replicate {A = HeadFields} count closed_slot in
    record {
      long = omega (arith, long, few);
      sequences = sequences ∙ sym (ap (map (λ (slot : HeadFields). slot.sequence)) items ∙ no_sequences count);
      free_long = free_long ∙ sym long;
      closing_long = ap length closing ∙ length-replicate {A = ℕ} count 0 ∙ sym long;
      lone_long = ap length lone ∙ length-replicate {A = ℕ} count 0 ∙ sym long;
      free = λ k on. free k ∙ lt-ltb k count (omega (arith, on, long))
          ∙ sym (ap (λ s. not (is_open s)) (ap (λ s. slot_at s k) items ∙ all_closed count k));
      numbered = λ k there. absurd (false≢true (sym (ap is_open (ap (λ s. slot_at s k) items ∙ all_closed count k)) ∙ there));
      entries = λ uid. subst (λ s. IsEntryOf s uid (entry_at h.index uid)) (sym items)
          (subst (IsEntryOf (replicate count closed_slot) uid) (sym (empty uid))
          (λ k. ap (is_open_of uid) (all_closed count k), sym (none_open uid count)));
    }

-- The value that was kept under a uid is still there to be freed, once a later head of it is open.
pub keeper_same : (slots : List HeadFields) (head : HeadFields) (uid : Uid) (latest before : Option ℕ) → IsLatest slots uid latest
    → is_open (slot_at slots head.number) ≡ false → ((k : ℕ) → (slot_at slots k).sequence < head.sequence)
    → before ≡ (if is_late slots head latest then latest else None)
    → kept_slot (set slots head.number head) before ≡ kept_slot slots latest
keeper_same slots head uid None before is shut later before_is = ap (kept_slot (set slots head.number head)) before_is
keeper_same slots head uid (Some n) before is shut later before_is =
    let late : nat_lt head.sequence (slot_at slots n).sequence ≡ false = le-ltb head.sequence (slot_at slots n).sequence
    (omega (arith, later n)) in
    let at : slot_at (set slots head.number head) n ≡ slot_at slots n =
    slot_other slots head.number n head (apart slots uid head.number n is.0 (closed_not (slot_at slots head.number) uid shut)) in
    ap (kept_slot (set slots head.number head)) (before_is ∙ ap (λ b. if not b then Some n else None) late)
    ∙ ap (λ (s : HeadFields). if s.removal then None else Some s) at
