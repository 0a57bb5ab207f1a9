-- Heads that join those that are closed next.
use Rattle.std.proofs.Common.{◌≡◌, ℕ, ◌+◌, ◌≤◌, Bool, true, false, ◌||◌, ◌&&◌, not, ◌==◌, List}
use Rattle.std.proofs.Common.{length, eq-eqb, refl, sym, ap, ◌∙◌, arith, inl, inr}
use Rattle.std.specs.Prelude.{nat_lt}
use Rattle.std.proofs.lemmas.Bool.{false≢true, cases_eq, ne_eqb, eqb-true, lt-ltb, le-ltb, and_right, cases_lt}
use Rattle.std.proofs.lemmas.List.{get_or_past}
use Rattle.block_tables.specs.declared.heads.HeadFields.{HeadFields}
use Rattle.block_tables.specs.declared.head_table.HeadTable.{HeadTable}
use Rattle.block_tables.specs.Members.{is_member}
use Rattle.block_tables.specs.HeadState.{AreHeads, entry_at, slot_at, is_lone, is_open, is_it, closed_slot}

-- other heads wait to be closed
pub heads_with : (h : HeadTable) (closing lone : List ℕ) → AreHeads h → length closing ≡ length h.closing → length lone ≡ length h.lone
    → AreHeads (record h { closing = closing; lone = lone })
heads_with h closing lone are closing_long lone_long = record {
  long = are.long;
  sequences = are.sequences;
  free_long = are.free_long;
  closing_long = closing_long ∙ are.closing_long;
  lone_long = lone_long ∙ are.lone_long;
  free = are.free;
  numbered = are.numbered;
  entries = are.entries;
}

-- Some of those that came to stand alone have joined those that are closed next.
pub record Ending (h0 h : HeadTable) : Type 0 where
  pub heads : AreHeads h
  pub index : h.index ≡ h0.index
  pub slots : h.slots ≡ h0.slots
  pub both : (k : ℕ) → (is_member h.lone k || is_member h.closing k) ≡ (is_member h0.lone k || is_member h0.closing k)

pub none_ended : (h : HeadTable) → AreHeads h → Ending h h
none_ended h are = record { heads = are; index = refl; slots = refl; both = λ k. refl }

move_one : (e l c : Bool) → (e ≡ true → l ≡ true) → ((not e && l) || (e || c)) ≡ (l || c)
move_one true l c is = sym (ap (λ b. b || c) (is refl))
move_one false l c is = refl

pub one_ended : (h0 h : HeadTable) (closing lone : List ℕ) (n : ℕ) → Ending h0 h → is_member h.lone n ≡ true
    → length lone ≡ length h.lone → ((k : ℕ) → is_member lone k ≡ (not (k == n) && is_member h.lone k))
    → length closing ≡ length h.closing → ((k : ℕ) → is_member closing k ≡ (k == n || is_member h.closing k))
    → Ending h0 (record h { closing = closing; lone = lone })
one_ended h0 h closing lone n e there lone_long lone_members closing_long closing_members = record {
  heads = heads_with h closing lone e.heads closing_long lone_long;
  index = e.index;
  slots = e.slots;
  both = λ k.
      ap (λ b. b || is_member closing k) (lone_members k)
      ∙ ap (λ b. (not (k == n) && is_member h.lone k) || b) (closing_members k)
      ∙ move_one (k == n) (is_member h.lone k) (is_member h.closing k) (λ same. ap (is_member h.lone) (eqb-true k n same) ∙ there)
      ∙ e.both k;
}

none_or : (a b c : Bool) → a ≡ false → (a || b) ≡ c → b ≡ c
none_or true b c none is = absurd (false≢true (sym none))
none_or false b c none is = is

pub all_ended : (h0 h : HeadTable) (k : ℕ) → Ending h0 h → is_member h.lone k ≡ false
    → is_member h.closing k ≡ (is_member h0.lone k || is_member h0.closing k)
all_ended h0 h k e none = none_or (is_member h.lone k) (is_member h.closing k) (is_member h0.lone k || is_member h0.closing k) none
    (e.both k)

abbrev pub stands_alone : HeadTable → ℕ → Bool
stands_alone h k = is_lone h.slots.items k (entry_at h.index (slot_at h.slots.items k).uid)

-- The removals that stand alone, up to a number, have joined those that are closed next.
pub record Joining (h0 h : HeadTable) (number : ℕ) : Type 0 where
  pub heads : AreHeads h
  pub index : h.index ≡ h0.index
  pub slots : h.slots ≡ h0.slots
  pub lone : h.lone ≡ h0.lone
  pub closing : (k : ℕ) → is_member h.closing k ≡ ((nat_lt k number && stands_alone h0 k) || is_member h0.closing k)

pub none_joined : (h : HeadTable) → AreHeads h → Joining h h 0
none_joined h are = record {
  heads = are;
  index = refl;
  slots = refl;
  lone = refl;
  closing = λ k. sym (ap (λ b. (b && stands_alone h k) || is_member h.closing k) (le-ltb k 0 (omega arith)));
}

further : (k n : ℕ) → (k ≡ n → ⊥) → nat_lt k n ≡ nat_lt k (n + 1)
further k n other = elim (cases_lt k n) [
  | inl less ↦ lt-ltb k n less ∙ sym (lt-ltb k (n + 1) (omega (arith, less)))
  | inr more ↦ le-ltb k n more ∙ sym (le-ltb k (n + 1) (omega (arith, more, other)))
]

pub one_joined : (h0 h : HeadTable) (closing : List ℕ) (n : ℕ) → Joining h0 h n → stands_alone h n ≡ true
    → length closing ≡ length h.closing → ((k : ℕ) → is_member closing k ≡ (k == n || is_member h.closing k))
    → Joining h0 (record h { closing = closing }) (n + 1)
one_joined h0 h closing n j alone long members =
    let alone_there : stands_alone h0 n ≡ true =
    ap (λ v. is_lone v.items n (entry_at h0.index (slot_at v.items n).uid)) (sym j.slots)
    ∙ ap (λ i. is_lone h.slots.items n (entry_at i (slot_at h.slots.items n).uid)) (sym j.index) ∙ alone in
    record {
      heads = heads_with h closing h.lone j.heads long refl;
      index = j.index;
      slots = j.slots;
      lone = j.lone;
      closing = λ k. members k ∙ elim (cases_eq k n) [
        | inl same ↦
            ap (λ b. b || is_member h.closing k) (eq-eqb k n same)
            ∙ sym (ap (λ b. b || is_member h0.closing k) (ap (λ b. b && stands_alone h0 k) (lt-ltb k (n + 1) (omega (arith, same)))
            ∙ ap (stands_alone h0) same ∙ alone_there))
        | inr other ↦
            ap (λ b. b || is_member h.closing k) (ne_eqb k n other) ∙ j.closing k
            ∙ ap (λ b. (b && stands_alone h0 k) || is_member h0.closing k) (further k n other)
      ];
    }

pub not_joined : (h0 h : HeadTable) (n : ℕ) → Joining h0 h n → stands_alone h n ≡ false → Joining h0 h (n + 1)
not_joined h0 h n j alone =
    let alone_there : stands_alone h0 n ≡ false =
    ap (λ v. is_lone v.items n (entry_at h0.index (slot_at v.items n).uid)) (sym j.slots)
    ∙ ap (λ i. is_lone h.slots.items n (entry_at i (slot_at h.slots.items n).uid)) (sym j.index) ∙ alone in
    record {
      heads = j.heads;
      index = j.index;
      slots = j.slots;
      lone = j.lone;
      closing = λ k. j.closing k ∙ elim (cases_eq k n) [
        | inl same ↦
            ap (λ b. b || is_member h0.closing k) (ap (λ b. b && stands_alone h0 k) (le-ltb k n (omega (arith, same)))
            ∙ sym (and_right (nat_lt k (n + 1)) (stands_alone h0 k) (ap (stands_alone h0) same ∙ alone_there)))
        | inr other ↦ ap (λ b. (b && stands_alone h0 k) || is_member h0.closing k) (further k n other)
      ];
    }

pub all_joined : (h0 h : HeadTable) (n k : ℕ) → Joining h0 h n → length h0.slots.items ≤ n
    → is_member h.closing k ≡ (stands_alone h0 k || is_member h0.closing k)
all_joined h0 h n k j all = j.closing k ∙ ap (λ b. b || is_member h0.closing k) (elim (cases_lt k n) [
  | inl less ↦ ap (λ b. b && stands_alone h0 k) (lt-ltb k n less)
  | inr more ↦
      and_right (nat_lt k n) (stands_alone h0 k) (past k (omega (arith, all, more)))
      ∙ sym (past k (omega (arith, all, more)))
])
  where
    past : (i : ℕ) → length h0.slots.items ≤ i → stands_alone h0 i ≡ false
    past i over = ap (λ (s : HeadFields). is_open s && (is_it i (entry_at h0.index (slot_at h0.slots.items i).uid).latest
        && (s.removal && (entry_at h0.index (slot_at h0.slots.items i).uid).others == 0))) (get_or_past h0.slots.items i closed_slot over)
