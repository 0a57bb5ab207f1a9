-- Of each uid the head that keeps its value, when a head is opened or closed.
use Rattle.std.proofs.Common.{◌≡◌, ℕ, ◌≤◌, ◌<◌, Bool, true, false, ◌&&◌, not, ◌==◌, List, [], ◌∷◌, ◌++◌}
use Rattle.std.proofs.Common.{length, set, refl, sym, ap, subst, ◌∙◌, arith, inl, inr, Option, None, Some}
use Rattle.std.specs.Prelude.{if◌then◌else◌, filter, nat_lt, sum_by}
use Rattle.std.specs.List.{list_all}
use Rattle.std.specs.Ordering.{eq_by_cmp}
use Rattle.std.proofs.lemmas.Bool.{false≢true, cases_eq, and_from, and_parts, and_left, both_ways, false_from_ne_true, lt-ltb}
use Rattle.std.proofs.lemmas.Bool.{eqb-false}
use Rattle.capability.specs.declared.Uid.{Uid}
use Rattle.capability.specs.Uids.{uid_cmp}
use Rattle.block_tables.specs.declared.heads.HeadFields.{HeadFields}
use Rattle.block_tables.specs.declared.index.IndexEntry.{IndexEntry}
use Rattle.block_tables.specs.declared.head_table.HeadTable.{HeadTable}
use Rattle.block_tables.specs.Blocks.{Head, same_uid, counts, keeping}
use Rattle.block_tables.specs.HeadSeen.{head_of}
use Rattle.block_tables.specs.HeadState.{AreHeads, heads_in, slot_at, closed_slot, is_open, is_open_of, IsLatest, IsEntryOf, kept_slot}
use Rattle.block_tables.specs.HeadState.{entry_at, one_if_some}
use Rattle.block_tables.specs.HeadState.{is_it, closed_entry}
use Rattle.passive_blocks.specs.HeldState.{AreApart}
use Rattle.block_tables.proofs.Closing.{keeping_without, keeping_without_lone, superseded_lies}
use Rattle.block_tables.proofs.Slots.{same_uids, slot_same, slot_other, latest_late, entry_other, entry_closes, two_of}
use Rattle.block_tables.proofs.Slots.{own_uid, not_of, closed_not}
use Rattle.block_tables.proofs.OpenHeads.{open_is}
use Rattle.passive_blocks.proofs.HeldSums.{front_of, back_of, heads_with_shut, heads_at_open, each_open, of_open, uid_is, is_of}
use Rattle.passive_blocks.proofs.HeldSums.{same_itself}
use Rattle.passive_blocks.proofs.HeldSums.{other_counts_not, keeps_under, heads_under, kept_one, weight_of, sum_parts, sum_under}

-- One head of a uid counts.
pub latest_unique : (slots : List HeadFields) (uid : Uid) (a b : Option ℕ) → AreApart slots → IsLatest slots uid a
    → IsLatest slots uid b → a ≡ b
latest_unique slots uid None None apart p q = refl
latest_unique slots uid None (Some m) apart p q = absurd (both_ways (is_open_of uid (slot_at slots m)) (p m) q.0)
latest_unique slots uid (Some m) None apart p q = absurd (both_ways (is_open_of uid (slot_at slots m)) (q m) p.0)
latest_unique slots uid (Some m) (Some n) apart p q =
    ap Some (apart m n (open_is (slot_at slots m) uid p.0) (omega (arith, p.1 n q.0, q.1 m p.0)))

-- So the entry of a uid is known by the heads.
pub entry_unique : (slots : List HeadFields) (uid : Uid) (a b : IndexEntry) → AreApart slots → IsEntryOf slots uid a → IsEntryOf slots uid b
    → a ≡ b
entry_unique slots uid a b apart p q =
    let latest : a.latest ≡ b.latest = latest_unique slots uid a.latest b.latest apart p.0 q.0 in
    let others : a.others ≡ b.others = omega (arith, p.1, q.1, ap one_if_some latest) in
    λ i. record { latest = latest i; others = others i }

-- no more is summed of the head that keeps the value of a uid than of all
pub kept_within : (w : Head → ℕ) (slots : List HeadFields) (uid : Uid) (latest : Option ℕ) → AreApart slots → IsLatest slots uid latest
    → weight_of w (kept_slot slots latest) ≤ sum_by w (keeping (heads_in slots))
kept_within w slots uid latest apart is =
    let heads : List Head = heads_in slots in
    let parts = sum_parts w (λ g. counts heads g && not g.removal) (λ g. eq_by_cmp uid_cmp uid g.uid) heads in
    let under : sum_by w (filter (keeps_under heads uid) heads) ≡ weight_of w (kept_slot slots latest) =
    ap (sum_by w) (kept_one slots uid latest apart is) ∙ sum_under w (kept_slot slots latest) in
    omega (arith, parts, under)

filter_twice : (p q : Head → Bool) (hs : List Head) → filter (λ g. p g && q g) hs ≡ filter q (filter p hs)
filter_twice p q [] = refl
filter_twice p q (h ∷ hs) = go (p h) (filter_twice p q hs)
  where
    go : (b : Bool) → filter (λ g. p g && q g) hs ≡ filter q (filter p hs)
        → (if b && q h then h ∷ filter (λ g. p g && q g) hs else filter (λ g. p g && q g) hs)
        ≡ filter q (if b then h ∷ filter p hs else filter p hs)
    go true rest = ap (λ hs2. if q h then h ∷ hs2 else hs2) rest
    go false rest = rest

-- It is found among the heads that keep a value.
pub keeper_listed : (slots : List HeadFields) (uid : Uid) (latest : Option ℕ) → AreApart slots → IsLatest slots uid latest
    → filter (λ (g : Head). eq_by_cmp uid_cmp uid g.uid) (keeping (heads_in slots)) ≡ heads_under (kept_slot slots latest)
keeper_listed slots uid latest apart is =
    let heads : List Head = heads_in slots in
    sym (filter_twice (λ g. counts heads g && not g.removal) (λ g. eq_by_cmp uid_cmp uid g.uid) heads) ∙ kept_one slots uid latest apart is

fields_of : Head → HeadFields
fields_of h = record { number = h.number; uid = h.uid; removal = h.removal; sequence = h.sequence; size = h.size; first = h.first }

first_of : List Head → HeadFields
first_of [] = closed_slot
first_of (h ∷ hs) = fields_of h

same_value : (a b : Option HeadFields) → heads_under a ≡ heads_under b → a ≡ b
unfolding fields_of first_of
same_value None None same = refl
same_value None (Some s) same = absurd (let long : 0 ≡ 1 = ap length same in omega (arith, long))
same_value (Some s) None same = absurd (let long : 1 ≡ 0 = ap length same in omega (arith, long))
same_value (Some s) (Some t) same = ap Some (let one : s ≡ t = ap first_of same in one)

-- So it is the same where the same heads keep a value.
pub keeper_known : (old new : List HeadFields) (uid : Uid) (before after : Option ℕ) → AreApart old → AreApart new → IsLatest old uid before
    → IsLatest new uid after → keeping (heads_in new) ≡ keeping (heads_in old) → kept_slot new after ≡ kept_slot old before
keeper_known old new uid before after apart_old apart_new is_old is_new same =
    same_value (kept_slot new after) (kept_slot old before)
    (sym (keeper_listed new uid after apart_new is_new)
    ∙ ap (filter (λ (g : Head). eq_by_cmp uid_cmp uid g.uid)) same
    ∙ keeper_listed old uid before apart_old is_old)

-- no two have one sequence, once a head is closed, or one is opened that is later than all
pub apart_closed : (slots : List HeadFields) (n : ℕ) → AreApart slots → n < length slots → AreApart (set slots n closed_slot)
apart_closed slots n apart within = λ j k opened same.
    let not_j : j ≡ n → ⊥ = λ e. false≢true (sym (ap is_open (ap (slot_at (set slots n closed_slot)) e
    ∙ slot_same slots n closed_slot within)) ∙ opened) in
    let at_j : slot_at (set slots n closed_slot) j ≡ slot_at slots j = slot_other slots n j closed_slot not_j in
    let opened_j : is_open (slot_at slots j) ≡ true = sym (ap is_open at_j) ∙ opened in
    elim (cases_eq k n) [
      | inl e ↦ absurd (let at_k : (slot_at (set slots n closed_slot) k).sequence ≡ 0 =
          ap (λ (s : HeadFields). s.sequence) (ap (slot_at (set slots n closed_slot)) e ∙ slot_same slots n closed_slot within) in
          false≢true (sym (ap (λ m. nat_lt 0 m) (same ∙ at_k)) ∙ opened))
      | inr other ↦ apart j k opened_j (ap (λ (s : HeadFields). s.sequence) (sym at_j) ∙ same
          ∙ ap (λ (s : HeadFields). s.sequence) (slot_other slots n k closed_slot other))
    ]

pub apart_joined : (slots : List HeadFields) (n : ℕ) (x : HeadFields) → AreApart slots → n < length slots
    → ((k : ℕ) → (slot_at slots k).sequence < x.sequence) → AreApart (set slots n x)
apart_joined slots n x apart within later = λ j k opened same. elim (cases_eq j n) [
  | inl e ↦ elim (cases_eq k n) [
    | inl f ↦ e ∙ sym f
    | inr g ↦ absurd (let at_j : (slot_at (set slots n x) j).sequence ≡ x.sequence =
        ap (λ (s : HeadFields). s.sequence) (ap (slot_at (set slots n x)) e ∙ slot_same slots n x within) in
        let at_k : (slot_at (set slots n x) k).sequence ≡ (slot_at slots k).sequence =
        ap (λ (s : HeadFields). s.sequence) (slot_other slots n k x g) in
        omega (arith, at_j, at_k, same, later k))
  ]
  | inr d ↦
      let at_j : slot_at (set slots n x) j ≡ slot_at slots j = slot_other slots n j x d in
      elim (cases_eq k n) [
        | inl f ↦ absurd (let at_k : (slot_at (set slots n x) k).sequence ≡ x.sequence =
            ap (λ (s : HeadFields). s.sequence) (ap (slot_at (set slots n x)) f ∙ slot_same slots n x within) in
            omega (arith, ap (λ (s : HeadFields). s.sequence) at_j, at_k, same, later j))
        | inr g ↦ apart j k (sym (ap is_open at_j) ∙ opened) (ap (λ (s : HeadFields). s.sequence) (sym at_j) ∙ same
            ∙ ap (λ (s : HeadFields). s.sequence) (slot_other slots n k x g))
      ]
]

-- A head that may be closed is closed: the same heads keep a value.
pub keeping_when_closed : (slots : List HeadFields) (n : ℕ) (latest : Option ℕ) (others : ℕ) → AreApart slots → n < length slots
    → is_open (slot_at slots n) ≡ true → IsEntryOf slots (slot_at slots n).uid (record { latest = latest; others = others })
    → (is_it n latest ≡ true → others ≡ 0) → (is_it n latest ≡ true → (slot_at slots n).removal ≡ true)
    → keeping (heads_in (set slots n closed_slot)) ≡ keeping (heads_in slots)
keeping_when_closed slots n None others apart within opened is alone removal =
    absurd (both_ways (is_open_of (slot_at slots n).uid (slot_at slots n)) (is.0 n) (own_uid (slot_at slots n) opened))
keeping_when_closed slots n (Some m) others apart within opened is alone removal = go (n == m) refl
  where
    x : HeadFields
    x = slot_at slots n

    without : heads_in (set slots n closed_slot) ≡ front_of slots n ++ back_of slots n
    without = heads_with_shut slots n closed_slot within refl

    whole : heads_in slots ≡ front_of slots n ++ head_of (slot_at slots n) ∷ back_of slots n
    whole = heads_at_open slots n within opened

    go : (b : Bool) → (n == m) ≡ b → keeping (heads_in (set slots n closed_slot)) ≡ keeping (heads_in slots)
    go true same =
        ap keeping without
        ∙ sym (keeping_without_lone (front_of slots n) (back_of slots n) (head_of (slot_at slots n)) (removal same)
        (subst (λ hs. list_all (λ g. not (same_uid (head_of (slot_at slots n)) g)) hs ≡ true) without
        (each_open (λ g. not (same_uid (head_of (slot_at slots n)) g)) (set slots n closed_slot) (λ k there.
        let other : k ≡ n → ⊥ = λ e. false≢true (sym (ap is_open (ap (slot_at (set slots n closed_slot)) e
        ∙ slot_same slots n closed_slot within)) ∙ there) in
        let at : slot_at (set slots n closed_slot) k ≡ slot_at slots k = slot_other slots n k closed_slot other in
        ap not (false_from_ne_true (eq_by_cmp uid_cmp (slot_at slots n).uid (slot_at (set slots n closed_slot) k).uid) (λ equal.
        let of : is_open_of (slot_at slots n).uid (slot_at slots k) ≡ true =
        is_of (slot_at slots k) (slot_at slots n).uid (sym (ap is_open at) ∙ there)
        (ap (λ (s : HeadFields). s.uid) (sym at)
        ∙ sym (same_uids (slot_at slots n).uid (slot_at (set slots n closed_slot) k).uid equal)) in
        omega (
          arith,
          is.1,
          alone same,
          two_of slots (slot_at slots n).uid n k within (own_uid (slot_at slots n) opened) other of,
        )))))))
        ∙ ap keeping (sym whole)
    go false other =
        let apart_n : n ≡ m → ⊥ = eqb-false n m other in
        let own : is_open_of (slot_at slots n).uid (slot_at slots n) ≡ true = own_uid (slot_at slots n) opened in
        let h : Head = head_of (slot_at slots n) in
        let front : List Head = front_of slots n in
        let back : List Head = back_of slots n in
        let not_counting : counts (front ++ h ∷ back) h ≡ false =
        subst (λ hs. counts hs h ≡ false) whole (other_counts_not slots (slot_at slots n).uid m n apart is.0 own apart_n) in
        let stays : slot_at (set slots n closed_slot) m ≡ slot_at slots m = slot_other slots n m closed_slot (λ e. apart_n (sym e)) in
        let less : (slot_at slots n).sequence ≤ (slot_at slots m).sequence = is.0.1 n own in
        ap keeping without
        ∙ sym (keeping_without front back h (and_left (counts (front ++ h ∷ back) h) (not h.removal) not_counting)
        (superseded_lies front back (head_of (slot_at slots m)) h
        (ap (λ u. eq_by_cmp uid_cmp u (slot_at slots n).uid) (uid_is (slot_at slots m) (slot_at slots n).uid is.0.0)
        ∙ same_itself (slot_at slots n).uid)
        (lt-ltb (slot_at slots n).sequence (slot_at slots m).sequence
        (omega (arith, less, λ (e : (slot_at slots n).sequence ≡ (slot_at slots m).sequence). apart_n (apart n m opened e))))
        (λ p before behind.
        subst (λ (s : HeadFields). p (head_of s) ≡ true) stays
        (of_open p (set slots n closed_slot) m
        (ap (list_all p) without ∙ all_of p front back before behind)
        (ap is_open stays ∙ open_is (slot_at slots m) (slot_at slots n).uid is.0.0)))))
        ∙ ap keeping (sym whole)
      where
        all_of : (p : Head → Bool) (front back : List Head) → list_all p front ≡ true → list_all p back ≡ true
            → list_all p (front ++ back) ≡ true
        all_of p [] back before behind = behind
        all_of p (g ∷ front) back before behind =
            let parts = and_parts (p g) (list_all p front) before in
            and_from (p g) (list_all p (front ++ back)) parts.0 (all_of p front back parts.1 behind)

-- The entry of the uid whose head is closed, and those of all others.
pub entry_when_closed : (old new : HeadTable) (n : ℕ) (uid : Uid) → AreHeads old → AreHeads new → AreApart old.slots.items
    → n < length old.slots.items → is_open (slot_at old.slots.items n) ≡ true
    → (is_it n (entry_at old.index (slot_at old.slots.items n).uid).latest ≡ true
    → (entry_at old.index (slot_at old.slots.items n).uid).others ≡ 0)
    → new.slots.items ≡ set old.slots.items n closed_slot → uid ≡ (slot_at old.slots.items n).uid
    → entry_at new.index uid ≡ closed_entry n (entry_at old.index uid)
entry_when_closed old new n uid are_old are_new apart within opened alone items same =
    let slots : List HeadFields = old.slots.items in
    let own : Uid = (slot_at slots n).uid in
    let all : IsEntryOf (set slots n closed_slot) own (entry_at new.index own) =
    subst (λ s. IsEntryOf s own (entry_at new.index own)) items (are_new.entries own) in
    let is : entry_at new.index own ≡ closed_entry n (entry_at old.index own) =
    entry_unique (set slots n closed_slot) own (entry_at new.index own) (closed_entry n (entry_at old.index own))
    (apart_closed slots n apart within) all
    (entry_closes slots own n (entry_at old.index own).latest (entry_at old.index own).others within (own_uid
    (slot_at slots n) opened) alone
    (are_old.entries own)) in
    subst (λ u. entry_at new.index u ≡ closed_entry n (entry_at old.index u)) (sym same) is

pub entry_beside_closed : (old new : HeadTable) (n : ℕ) (uid : Uid) → AreHeads old → AreHeads new → AreApart old.slots.items
    → n < length old.slots.items → new.slots.items ≡ set old.slots.items n closed_slot
    → eq_by_cmp uid_cmp uid (slot_at old.slots.items n).uid ≡ false → entry_at new.index uid ≡ entry_at old.index uid
entry_beside_closed old new n uid are_old are_new apart within items other =
    let slots : List HeadFields = old.slots.items in
    entry_unique (set slots n closed_slot) uid (entry_at new.index uid) (entry_at old.index uid) (apart_closed slots n apart within)
    (subst (λ s. IsEntryOf s uid (entry_at new.index uid)) items (are_new.entries uid))
    (entry_other slots uid n closed_slot (entry_at old.index uid) within (not_of (slot_at slots n) uid other) refl (are_old.entries uid))

-- The entry of the uid whose head is opened, and those of all others.
pub latest_when_joined : (old new : HeadTable) (x : HeadFields) (uid : Uid) → AreHeads new → AreApart old.slots.items
    → x.number < length old.slots.items → is_open x ≡ true → ((k : ℕ) → (slot_at old.slots.items k).sequence < x.sequence)
    → new.slots.items ≡ set old.slots.items x.number x → uid ≡ x.uid → (entry_at new.index uid).latest ≡ Some x.number
latest_when_joined old new x uid are_new apart within opened later items same =
    let slots : List HeadFields = old.slots.items in
    let own : Uid = x.uid in
    let is : (entry_at new.index own).latest ≡ Some x.number =
    latest_unique (set slots x.number x) own (entry_at new.index own).latest (Some x.number)
    (apart_joined slots x.number x apart within later)
    (subst (λ s. IsEntryOf s own (entry_at new.index own)) items (are_new.entries own)).0
    (latest_late slots own x.number x within (own_uid x opened) (λ k there. omega (arith, later k))) in
    subst (λ u. (entry_at new.index u).latest ≡ Some x.number) (sym same) is

pub entry_beside_joined : (old new : HeadTable) (x : HeadFields) (uid : Uid) → AreHeads old → AreHeads new → AreApart old.slots.items
    → x.number < length old.slots.items → is_open (slot_at old.slots.items x.number) ≡ false
    → ((k : ℕ) → (slot_at old.slots.items k).sequence < x.sequence)
    → new.slots.items ≡ set old.slots.items x.number x → eq_by_cmp uid_cmp uid x.uid ≡ false
    → entry_at new.index uid ≡ entry_at old.index uid
entry_beside_joined old new x uid are_old are_new apart within shut later items other =
    let slots : List HeadFields = old.slots.items in
    entry_unique (set slots x.number x) uid (entry_at new.index uid) (entry_at old.index uid)
    (apart_joined slots x.number x apart within later)
    (subst (λ s. IsEntryOf s uid (entry_at new.index uid)) items (are_new.entries uid))
    (entry_other slots uid x.number x (entry_at old.index uid) within (closed_not (slot_at slots x.number) uid shut) (not_of x uid other)
    (are_old.entries uid))

-- a head under another number goes on keeping its value
pub kept_beside : (slots : List HeadFields) (x : HeadFields) (n : ℕ) (uid : Uid) (latest : Option ℕ) → IsLatest slots uid latest
    → is_open (slot_at slots n) ≡ false → kept_slot (set slots n x) latest ≡ kept_slot slots latest
kept_beside slots x n uid None is shut = refl
kept_beside slots x n uid (Some m) is shut =
    ap (λ (s : HeadFields). if s.removal then None else Some s)
    (slot_other slots n m x (λ same. both_ways (is_open (slot_at slots n)) shut
    (ap (λ j. is_open (slot_at slots j)) (sym same) ∙ open_is (slot_at slots m) uid is.0)))

pub kept_joined : (slots : List HeadFields) (x : HeadFields) (n : ℕ) → n < length slots
    → kept_slot (set slots n x) (Some n) ≡ (if x.removal then None else Some x)
kept_joined slots x n within = ap (λ (s : HeadFields). if s.removal then None else Some s) (slot_same slots n x within)
