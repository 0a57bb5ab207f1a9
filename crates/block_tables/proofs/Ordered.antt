-- The first entry of the index, in the order of uids, under which a value is kept.
use Rattle.std.proofs.Common.{◌≡◌, ◌⊎◌, ◌≤◌, arith, ℕ, Bool, true, false, cond, IsTrue, length, List, [], ◌∷◌, ◌++◌, Option, None, Some}
use Rattle.std.proofs.Common.{refl, sym, ap, subst, ◌∙◌, inl, inr}
use Rattle.std.specs.Prelude.{◌==◌, ◌≢◌, ◌&&◌, not, is_some, IfSome}
use Rattle.std.specs.List.{find, filter, AllByRecursion}
use Rattle.std.specs.List.Sorted.{IsStrictlySortedBy}
use Rattle.std.specs.Map.{lookup, keys_of}
use Rattle.std.specs.Option.{option_map}
use Rattle.std.specs.Ordering.{is_eq, is_lt}
use Rattle.std.specs.declared.cmp.Ordering.{Ordering}
use Rattle.std.specs.declared.cmp.Ordering.TheVariants.{Less, Equal, Greater}
use Rattle.std.specs.declared.ops.Bound.{Bound}
use Rattle.std.specs.declared.ops.Bound.TheVariants.{Excluded, Unbounded}
use Rattle.std.specs.BTreeMap.{BTreeMap, is_at}
use Rattle.std.specs.BTreeMap.Range.{range_contains}
use Rattle.std.proofs.lemmas.Bool.{false≢true}
use Rattle.std.proofs.lemmas.Bool.Decides.{nat_tests}
use Rattle.std.proofs.lemmas.Cmp.{tied_itself}
use Rattle.std.proofs.lemmas.Map.Entries.{lookup_head, lookup_tail}
use Rattle.std.proofs.lemmas.Map.Keys.{sorted_head, sorted_tail}
use Rattle.capability.specs.declared.Uid.{Uid}
use Rattle.capability.specs.Uids.{uid_cmp}
use Rattle.capability.proofs.Uids.{uid_cmp_total, uid_cmp-IsAntisymmetric}
use Rattle.block_tables.specs.declared.heads.HeadFields.{HeadFields}
use Rattle.block_tables.specs.declared.index.IndexEntry.{IndexEntry}
use Rattle.passive_store.specs.Kept.{IsBehind, IsNextOf, IsEject, IsOwn, reserved_uid}
use Rattle.passive_store.specs.LogState.{is_eject}
use Rattle.block_tables.specs.HeadState.{entry_at, entry_or_none, kept_slot}

either : (b : Bool) → (b ≡ true) ⊎ (b ≡ false)
either true = inl refl
either false = inr refl

tied : (o : Ordering) → is_eq o ≡ true → o ≡ Equal
tied Less h = absurd (false≢true h)
tied Equal h = refl
tied Greater h = absurd (false≢true h)

-- uids at one place are one
pub one_uid : (a b : Uid) → is_at (uid_cmp a) b ≡ true → a ≡ b
one_uid a b h = uid_cmp-IsAntisymmetric a b (tied (uid_cmp a b) h)

at_itself : (a : Uid) → is_at (uid_cmp a) a ≡ true
at_itself a = ap is_eq (tied_itself uid_cmp_total a)

chosen : (b : Bool) (x : IndexEntry) (y : Option IndexEntry) (z : IndexEntry) → cond b (Some x) y ≡ Some z
    → ((b ≡ true) × (x ≡ z)) ⊎ ((b ≡ false) × (y ≡ Some z))
chosen true x y z e = inl (refl, cc)
chosen false x y z e = inr (refl, e)

hit : (uid : Uid) (e : Uid × IndexEntry) (es : List (Uid × IndexEntry)) (entry : IndexEntry)
    → lookup (is_at (uid_cmp uid)) (e ∷ es) ≡ Some entry →
    ((uid ≡ e.0) × (e.1 ≡ entry)) ⊎ (lookup (is_at (uid_cmp uid)) es ≡ Some entry)
hit uid e es entry h = elim (chosen (is_at (uid_cmp uid) e.0) e.1 (lookup (is_at (uid_cmp uid)) es) entry h) [
  | inl here ↦ inl (one_uid uid e.0 here.0, here.1)
  | inr there ↦ inr there.1
]

-- what stands in an ordered list is behind all that is before it
above : (key uid : Uid) (es : List (Uid × IndexEntry)) (entry : IndexEntry) → AllByRecursion (λ y. uid_cmp key y ≡ Less) (keys_of es)
    → lookup (is_at (uid_cmp uid)) es ≡ Some entry → uid_cmp key uid ≡ Less
above key uid [] entry all h = absurd cc
above key uid (e ∷ es) entry all h = elim (hit uid e es entry h) [
  | inl here ↦ subst (λ u. uid_cmp key u ≡ Less) (sym here.0) all.0
  | inr there ↦ above key uid es entry all.1 there
]

-- of the entries that p lets in, the first that passes a test
abbrev pub IsFirstOf : (Uid → Bool) → (Uid × IndexEntry → Bool) → List (Uid × IndexEntry) → Option (Uid × IndexEntry) → Type 0
IsFirstOf p test es None = (uid : Uid) (entry : IndexEntry) → p uid ≡ true → lookup (is_at (uid_cmp uid)) es ≡ Some entry
    → test (uid, entry) ≡ true → ⊥
IsFirstOf p test es (Some f) =
    (p f.0 ≡ true) × (test f ≡ true) × (lookup (is_at (uid_cmp f.0)) es ≡ Some f.1)
    × ((uid : Uid) (entry : IndexEntry) → p uid ≡ true → lookup (is_at (uid_cmp uid)) es ≡ Some entry → test (uid, entry) ≡ true
    → (uid ≡ f.0) ⊎ (uid_cmp f.0 uid ≡ Less))

-- an entry that is not let in, or does not pass, changes nothing
passed_by : (p : Uid → Bool) (test : Uid × IndexEntry → Bool) (e : Uid × IndexEntry) (es : List (Uid × IndexEntry))
    (found : Option (Uid × IndexEntry)) → (p e.0 ≡ true → test e ≡ true → ⊥) →
    IsStrictlySortedBy uid_cmp (keys_of (e ∷ es)) → IsFirstOf p test es found → IsFirstOf p test (e ∷ es) found
passed_by p test e es None not_it sorted first = λ uid entry let_in h passes. elim (hit uid e es entry h) [
  | inl here ↦ not_it (ap p (sym here.0) ∙ let_in)
      (subst (λ u. test (u, e.1) ≡ true) here.0 (subst (λ s. test (uid, s) ≡ true) (sym here.1) passes))
  | inr there ↦ first uid entry let_in there passes
]
passed_by p test e es (Some f) not_it sorted first = (
  first.0,
  first.1,
  elim (either (is_at (uid_cmp f.0) e.0)) [
    | inl same ↦ absurd (let one : f.0 ≡ e.0 = one_uid f.0 e.0 same in
        let less : uid_cmp e.0 f.0 ≡ Less = above e.0 f.0 es f.1 (sorted_head uid_cmp e.0 (keys_of es) sorted) first.2 in
        let level : uid_cmp e.0 f.0 ≡ Equal = ap (uid_cmp e.0) one ∙ tied_itself uid_cmp_total e.0 in
        let bad : Less ≡ Equal = sym less ∙ level in cc)
    | inr other ↦ lookup_tail (is_at (uid_cmp f.0)) e es other ∙ first.2
  ],
  λ uid entry let_in h passes. elim (hit uid e es entry h) [
    | inl here ↦ absurd (not_it (ap p (sym here.0) ∙ let_in)
        (subst (λ u. test (u, e.1) ≡ true) here.0 (subst (λ s. test (uid, s) ≡ true) (sym here.1) passes)))
    | inr there ↦ first.3 uid entry let_in there passes
  ],
)

found_at : (p : Uid → Bool) (test : Uid × IndexEntry → Bool) (e : Uid × IndexEntry) (es : List (Uid × IndexEntry)) → p e.0 ≡ true
    → test e ≡ true →
    IsStrictlySortedBy uid_cmp (keys_of (e ∷ es)) → IsFirstOf p test (e ∷ es) (Some e)
found_at p test e es let_in passes sorted = (
  let_in,
  passes,
  lookup_head (is_at (uid_cmp e.0)) e es (at_itself e.0),
  λ uid entry inside h good. elim (hit uid e es entry h) [
    | inl here ↦ inl here.0
    | inr there ↦ inr (above e.0 uid es entry (sorted_head uid_cmp e.0 (keys_of es) sorted) there)
  ],
)

by_tests : (p : Uid → Bool) (test : Uid × IndexEntry → Bool) (e : Uid × IndexEntry) (es : List (Uid × IndexEntry)) (a b : Bool)
    → p e.0 ≡ a → test e ≡ b →
    IsStrictlySortedBy uid_cmp (keys_of (e ∷ es)) → IsFirstOf p test es (find test (filter (λ (x : Uid × IndexEntry). p x.0) es)) →
    IsFirstOf p test (e ∷ es) (find test (cond a (e ∷ filter (λ (x : Uid × IndexEntry). p x.0) es)
    (filter (λ (x : Uid × IndexEntry). p x.0) es)))
by_tests p test e es false b inside passes sorted first = passed_by p test e es _ (λ q r. false≢true (sym inside ∙ q)) sorted first
by_tests p test e es true true inside passes sorted first = subst
    (λ c. IsFirstOf p test (e ∷ es) (cond c (Some e) (find test (filter (λ (x : Uid × IndexEntry). p x.0) es)))) (sym passes)
    (found_at p test e es inside passes sorted)
by_tests p test e es true false inside passes sorted first = subst
    (λ c. IsFirstOf p test (e ∷ es) (cond c (Some e) (find test (filter (λ (x : Uid × IndexEntry). p x.0) es)))) (sym passes)
    (passed_by p test e es _ (λ q r. false≢true (sym passes ∙ r)) sorted first)

pub first_of_all : (p : Uid → Bool) (test : Uid × IndexEntry → Bool) (es : List (Uid × IndexEntry))
    → IsStrictlySortedBy uid_cmp (keys_of es) → IsFirstOf p test es (find test (filter (λ (x : Uid × IndexEntry). p x.0) es))
first_of_all p test [] sorted = λ uid entry let_in h passes. absurd cc
first_of_all p test (e ∷ es) sorted =
    by_tests p test e es (p e.0) (test e) refl refl sorted (first_of_all p test es (sorted_tail uid_cmp e.0 (keys_of es) sorted))

both : (a b : Bool) → (a && b) ≡ true → (a ≡ true) × (b ≡ true)
both true b e = (refl, e)
both false b e = absurd (false≢true e)

joined : (a b : Bool) → a ≡ true → b ≡ true → (a && b) ≡ true
joined true b p q = q
joined false b p q = absurd (false≢true p)

abbrev pub bound_of : Option Uid → Bound Uid
bound_of None = Unbounded
bound_of (Some uid) = Excluded uid

-- the uid is that of an Eject of the node, and a value is kept by the head that counts
abbrev pub keeps_eject : List HeadFields → ℕ → Uid × IndexEntry → Bool
keeps_eject slots node e = is_some (kept_slot slots e.1.latest) && is_eject node e.0

number_tests : (n node epoch serial : ℕ) → (n == node && (not (epoch == 0) && not (serial == 0))) ≡ true → (n ≡ node) × (1 ≤ epoch)
    × (1 ≤ serial)
number_tests n node epoch serial h = (grind (arith, nat_tests), grind (arith, nat_tests), grind (arith, nat_tests))

pub eject_told : (node : ℕ) (uid : Uid) → is_eject node uid ≡ true → IsEject node uid
eject_told node uid h = number_tests uid.node node uid.epoch uid.serial h

tests_number : (n node epoch serial : ℕ) → n ≡ node → 1 ≤ epoch → 1 ≤ serial → (n == node && (not (epoch == 0) && not (serial == 0))) ≡ true
tests_number n node epoch serial same e s = grind (arith, nat_tests)

pub eject_tests : (node : ℕ) (uid : Uid) → IsEject node uid → is_eject node uid ≡ true
eject_tests node uid own = tests_number uid.node node uid.epoch uid.serial own.0 own.1 own.2

not_reserved : (node : ℕ) (uid : Uid) → is_eject node uid ≡ true → uid ≢ reserved_uid node
not_reserved node uid h e = omega (arith, (eject_told node uid h).1, ap (λ (u : Uid). u.epoch) e)

is_less : (o : Ordering) → (is_lt o && true) ≡ true → o ≡ Less
is_less Less h = refl
is_less Equal h = absurd (false≢true h)
is_less Greater h = absurd (false≢true h)

behind_of : (from : Option Uid) (uid : Uid) → range_contains uid_cmp (bound_of from) Unbounded uid ≡ true → IsBehind from uid
behind_of None uid h = tt
behind_of (Some a) uid h = is_less (uid_cmp a uid) h

of_behind : (from : Option Uid) (uid : Uid) → IsBehind from uid → range_contains uid_cmp (bound_of from) Unbounded uid ≡ true
of_behind None uid h = refl
of_behind (Some a) uid h = ap (λ o. is_lt o && true) h

entry_is : (slots : List HeadFields) (found : Option IndexEntry) → IsTrue (is_some (kept_slot slots (entry_or_none found).latest))
    → (entry : IndexEntry)
    × (found ≡ Some entry) × (is_some (kept_slot slots entry.latest) ≡ true)
entry_is slots None h = absurd (false≢true h)
entry_is slots (Some entry) h = (entry, refl, h)

pub next_of : (slots : List HeadFields) (index : BTreeMap Uid IndexEntry) (from : Option Uid) (node : ℕ) (found : Option (Uid × IndexEntry))
    → IsFirstOf (λ uid. range_contains uid_cmp (bound_of from) Unbounded uid) (keeps_eject slots node) index.entries found →
    IsNextOf (λ uid. is_some (kept_slot slots (entry_at index uid).latest) && is_eject node uid) (reserved_uid node) from
    (option_map (λ (e : Uid × IndexEntry). e.0) found)
next_of slots index from node None first = λ uid behind one other.
    let t = both (is_some (kept_slot slots (entry_at index uid).latest)) (is_eject node uid) one in
    let s = entry_is slots (lookup (is_at (uid_cmp uid)) index.entries) t.0 in
    first uid s.0 (of_behind from uid behind) s.1 (joined (is_some (kept_slot slots s.0.latest)) (is_eject node uid) s.2 t.1)
next_of slots index from node (Some f) first =
    let t = both (is_some (kept_slot slots f.1.latest)) (is_eject node f.0) first.1 in (
      behind_of from f.0 first.0,
      joined (is_some (kept_slot slots (entry_at index f.0).latest)) (is_eject node f.0)
          (ap (λ x. is_some (kept_slot slots (entry_or_none x).latest)) first.2 ∙ t.0) t.1,
      not_reserved node f.0 t.1,
      λ uid behind one other.
          let u = both (is_some (kept_slot slots (entry_at index uid).latest)) (is_eject node uid) one in
          let s = entry_is slots (lookup (is_at (uid_cmp uid)) index.entries) u.0 in
          first.3 uid s.0 (of_behind from uid behind) s.1 (joined (is_some (kept_slot slots s.0.latest)) (is_eject node uid) s.2 u.1),
    )

-- of the same kind, the reserved uid apart, is the same next
pub next_as : (p q : Uid → Bool) (reserved : Uid) (from next : Option Uid) → ((uid : Uid) → uid ≢ reserved → q uid ≡ p uid)
    → IsNextOf p reserved from next → IsNextOf q reserved from next
next_as p q reserved from None same next = λ uid behind one other. next uid behind (subst IsTrue (same uid other) one) other
next_as p q reserved from (Some x) same next = (
  next.0,
  subst IsTrue (sym (same x next.2)) next.1,
  next.2,
  λ uid behind one other. next.3 uid behind (subst IsTrue (same uid other) one) other,
)

-- an own uid that is not the reserved one is that of an Eject
pub own_eject : (node : ℕ) (uid : Uid) (size : ℕ) → IsOwn node uid size → uid ≢ reserved_uid node → IsEject node uid
own_eject node uid size (at, inl some) other = (at, some.0, some.1)
own_eject node uid size (at, inr none) other = absurd (other (λ i. record { node = at i; epoch = none.0 i; serial = none.1 i }))

kept_or_not : (node : ℕ) (uid : Uid) (body : Option (List ℕ)) → ((b : List ℕ) → body ≡ Some b → IsOwn node uid (length b))
    → uid ≢ reserved_uid node → is_some body ≡ (is_some body && is_eject node uid)
kept_or_not node uid None own other = refl
kept_or_not node uid (Some b) own other = sym (eject_tests node uid (own_eject node uid (length b) (own b refl) other))

-- of what is kept under own uids, all but what the reserved one has is that of Ejects
pub only_ejects : (node : ℕ) (uid : Uid) (body : Option (List ℕ)) (slot : Bool) → is_some body ≡ slot
    → ((b : List ℕ) → body ≡ Some b → IsOwn node uid (length b)) → uid ≢ reserved_uid node → is_some body ≡ (slot && is_eject node uid)
only_ejects node uid body slot same own other = kept_or_not node uid body own other ∙ ap (λ b. b && is_eject node uid) same

-- what comes next is an Eject
pub next_eject : (is_one : Uid → Bool) (node : ℕ) (reserved : Uid) (from found : Option Uid)
    → IsNextOf (λ uid. is_one uid && is_eject node uid) reserved from found → IfSome found (λ uid. IsEject node uid)
next_eject is_one node reserved from None next = tt
next_eject is_one node reserved from (Some uid) next = eject_told node uid (both (is_one uid) (is_eject node uid) next.1).1

-- none of these entries passes a test
abbrev pub NonePasses : (Uid × IndexEntry → Bool) → List (Uid × IndexEntry) → Type 0
NonePasses test [] = Unit {0}
NonePasses test (e ∷ es) = (test e ≡ false) × NonePasses test es

pub none_more : (test : Uid × IndexEntry → Bool) (es : List (Uid × IndexEntry)) (e : Uid × IndexEntry) → NonePasses test es
    → test e ≡ false → NonePasses test (es ++ e ∷ [])
none_more test [] e none fails = (fails, tt)
none_more test (x ∷ es) e none fails = (none.0, none_more test es e none.1 fails)

-- the first of a list that passes, behind those that do not
pub found_behind : (test : Uid × IndexEntry → Bool) (es rest : List (Uid × IndexEntry)) (e : Uid × IndexEntry) → NonePasses test es
    → test e ≡ true → find test (es ++ e ∷ rest) ≡ Some e
found_behind test [] rest e none passes = ap (λ b. cond b (Some e) (find test rest)) passes
found_behind test (x ∷ es) rest e none passes = ap (λ b. cond b (Some x) (find test (es ++ e ∷ rest))) none.0
    ∙ found_behind test es rest e none.1 passes

pub found_none : (test : Uid × IndexEntry → Bool) (es : List (Uid × IndexEntry)) → NonePasses test es → find test es ≡ None
found_none test [] none = refl
found_none test (x ∷ es) none = ap (λ b. cond b (Some x) (find test es)) none.0 ∙ found_none test es none.1

-- an entry that is let in stands under its uid
pub in_index : (p : Uid → Bool) (es before behind : List (Uid × IndexEntry)) (e : Uid × IndexEntry)
    → IsStrictlySortedBy uid_cmp (keys_of es)
    → filter (λ (x : Uid × IndexEntry). p x.0) es ≡ before ++ e ∷ behind → lookup (is_at (uid_cmp e.0)) es ≡ Some e.1
in_index p [] [] behind e sorted is = absurd cc
in_index p [] (b ∷ before) behind e sorted is = absurd cc
in_index p (x ∷ es) before behind e sorted is =
    go (p x.0) before is (λ fs rest. in_index p es fs behind e (sorted_tail uid_cmp x.0 (keys_of es) sorted) rest)
  where
    later : lookup (is_at (uid_cmp e.0)) es ≡ Some e.1 → lookup (is_at (uid_cmp e.0)) (x ∷ es) ≡ Some e.1
    later there = elim (either (is_at (uid_cmp e.0) x.0)) [
      | inl same ↦ absurd (let one : e.0 ≡ x.0 = one_uid e.0 x.0 same in
          let less : uid_cmp x.0 e.0 ≡ Less = above x.0 e.0 es e.1 (sorted_head uid_cmp x.0 (keys_of es) sorted) there in
          let level : uid_cmp x.0 e.0 ≡ Equal = ap (uid_cmp x.0) one ∙ tied_itself uid_cmp_total x.0 in
          let bad : Less ≡ Equal = sym less ∙ level in cc)
      | inr other ↦ lookup_tail (is_at (uid_cmp e.0)) x es other ∙ there
    ]

    go : (b : Bool) (before : List (Uid × IndexEntry)) → cond b (x ∷ filter (λ (y : Uid × IndexEntry). p y.0) es) (filter (λ
        (y : Uid × IndexEntry). p y.0) es)
        ≡ before ++ e ∷ behind
        → ((fs : List (Uid × IndexEntry)) → filter (λ (y : Uid × IndexEntry). p y.0) es ≡ fs ++ e ∷ behind → lookup (is_at (uid_cmp e.0)) es
        ≡ Some e.1)
        → lookup (is_at (uid_cmp e.0)) (x ∷ es) ≡ Some e.1
    go false fs is rest = later (rest fs is)
    go true [] is rest =
        let same : x ≡ e = cc in
        subst (λ (y : Uid × IndexEntry). lookup (is_at (uid_cmp y.0)) (x ∷ es) ≡ Some y.1) same (lookup_head (is_at (uid_cmp x.0)) x es
        (at_itself x.0))
    go true (f ∷ fs) is rest = later (rest fs (let same : filter (λ (y : Uid × IndexEntry). p y.0) es ≡ fs ++ e ∷ behind = cc in same))
