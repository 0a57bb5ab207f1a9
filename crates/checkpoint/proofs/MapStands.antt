-- What stands uid by uid stands as the lists of a node's state.
use Rattle.std.proofs.Common.{◌≡◌, ◌≢◌, ◌⊎◌, inl, inr, ℕ, ◌<◌, Bool, true, false, cond, ◌&&◌, T, List, [], ◌∷◌, ◌++◌, Option, None, Some}
use Rattle.std.proofs.Common.{is_some, refl, sym, ap, subst, ◌∙◌, arith}
use Rattle.std.proofs.lemmas.Cmp.{tied_itself, ranked}
use Rattle.std.specs.FinMap as finite
use Rattle.std.specs.FinMap.Entries.{is_sorted, below_all, same_entries}
use Rattle.std.specs.List.{filter_map, cons_option}
use Rattle.std.specs.Ordering.{nat_cmp, eq_by_cmp, is_lt, is_eq, ordering_then}
use Rattle.std.specs.Cmp.{nat_cmp_total}
use Rattle.std.specs.declared.cmp.Ordering.{Ordering}
use Rattle.std.specs.declared.cmp.Ordering.TheVariants.{Less, Equal, Greater}
use Rattle.capability.specs.declared.Uid.{Uid}
use Rattle.capability.proofs.Uids.{uid_cmp_total, uid_cmp-IsAntisymmetric}
use Rattle.eden_model.specs.Map.{with_item, value_at, uid_cmp}
use Rattle.eden_model.proofs.Laws.{eq-same}
use Rattle.passive_store.specs.Kept.{Kept, changes_in}
use Rattle.passive_store.specs.Kept.{StoreChange}
use Rattle.journal.specs.World.{Node, Site, Eject}
use Rattle.journal.specs.Settling.{epoch_uid, epoch_doubts, epoch_entries, doubt_entry, kept_entry, doubts, kept_map}
use Rattle.journal.specs.Standing.{kept_of_node}
use Rattle.checkpoint.specs.Changes.{Facts, facts_of}
use Rattle.checkpoint.specs.Found.{all_of, standing_of}
use Rattle.checkpoint.specs.StoreStands.{state_of, doubt_of, bytes_of_epoch, change_of_epoch, IsOrdered, MapStands}

-- 1. A list of what some Ejects have, in their order

abbrev listed : {X : Type 0} → (Eject → Option X) → Uid × Eject → Option (Uid × X)
listed g e = with_item (g e.1) (λ x. Some (e.0, x)) None

both : (a b : Bool) → T a → T b → T (a && b)
both true b p q = q
both false b p q = p

first : (a b : Bool) → T (a && b) → T a
first true b p = tt
first false b p = p

second : (a b : Bool) → T (a && b) → T b
second true b p = p
second false b p = absurd p

less : (o : Ordering) → T (is_lt o) → o ≡ Less
less Less p = refl
less Equal p = absurd p
less Greater p = absurd p

below-cons : {X : Type 0} (x u : Uid) (o : Option X) (l : List (Uid × X)) → T (is_lt (uid_cmp x u)) → T (below_all uid_cmp x l)
    → T (below_all uid_cmp x (cons_option (with_item o (λ y. Some (u, y)) None) l))
below-cons x u None l h below = below
below-cons x u (Some y) l h below = both _ _ h below

below-listed : {X : Type 0} (g : Eject → Option X) (x : Uid) (es : List (Uid × Eject)) → T (below_all uid_cmp x es)
    → T (below_all uid_cmp x (filter_map (listed g) es))
below-listed g x [] h = tt
below-listed g x (e ∷ es) h = below-cons x e.0 (g e.1) (filter_map (listed g) es) (first _ _ h) (below-listed g x es (second _ _ h))

sorted-cons : {X : Type 0} (u : Uid) (o : Option X) (l : List (Uid × X)) → T (below_all uid_cmp u l) → T (is_sorted uid_cmp l)
    → T (is_sorted uid_cmp (cons_option (with_item o (λ y. Some (u, y)) None) l))
sorted-cons u None l below h = h
sorted-cons u (Some y) l below h = both _ _ below h

sorted-listed : {X : Type 0} (g : Eject → Option X) (es : List (Uid × Eject)) → T (is_sorted uid_cmp es)
    → T (is_sorted uid_cmp (filter_map (listed g) es))
sorted-listed g [] h = tt
sorted-listed g (e ∷ es) h = sorted-cons e.0 (g e.1) (filter_map (listed g) es) (below-listed g e.0 es (first _ _ h))
    (sorted-listed g es (second _ _ h))

none-below : {X : Type 0} (q : Uid) (es : List (Uid × X)) → T (below_all uid_cmp q es) → value_at uid_cmp q es ≡ None
none-below q [] h = refl
none-below q (e ∷ es) h = ap (λ r. cond (is_eq r) (Some e.1) (value_at uid_cmp q es)) (less _ (first _ _ h))
    ∙ none-below q es (second _ _ h)

value-cons : {X : Type 0} (q u : Uid) (o : Option X) (l : List (Uid × X)) (b : Bool) → eq_by_cmp uid_cmp q u ≡ b
    → (b ≡ true → value_at uid_cmp q l ≡ None)
    → value_at uid_cmp q (cons_option (with_item o (λ y. Some (u, y)) None) l) ≡ cond b o (value_at uid_cmp q l)
value-cons q u None l true is none = none refl
value-cons q u None l false is none = refl
value-cons q u (Some y) l b is none = ap (λ x. cond x (Some y) (value_at uid_cmp q l)) is

value-listed : {X : Type 0} (g : Eject → Option X) (q : Uid) (es : List (Uid × Eject)) → T (is_sorted uid_cmp es)
    → value_at uid_cmp q (filter_map (listed g) es) ≡ with_item (value_at uid_cmp q es) g None
value-listed g q [] h = refl
value-listed {X = X} g q (e ∷ es) h = go (eq_by_cmp uid_cmp q e.0) refl (value-listed g q es (second _ _ h))
  where
    go : (b : Bool) → eq_by_cmp uid_cmp q e.0 ≡ b → value_at uid_cmp q (filter_map (listed g) es) ≡ with_item (value_at uid_cmp q es) g None
        → value_at uid_cmp q (filter_map (listed g) (e ∷ es)) ≡ with_item (value_at uid_cmp q (e ∷ es)) g None
    go true is later =
        let same : q ≡ e.0 = eq-same uid_cmp uid_cmp-IsAntisymmetric q e.0 is in
        let none : value_at uid_cmp q (filter_map (listed g) es) ≡ None = subst (λ x. value_at uid_cmp x (filter_map (listed g) es) ≡ None)
        (sym same) (none-below e.0 (filter_map (listed g) es) (below-listed g e.0 es (first _ _ h))) in
        value-cons q e.0 (g e.1) (filter_map (listed g) es) true is (λ t. none)
        ∙ sym (ap (λ b. with_item (cond b (Some e.1) (value_at uid_cmp q es)) g None) is)
    go false is later = value-cons q e.0 (g e.1) (filter_map (listed g) es) false is (λ t. absurd (cc t)) ∙ later
        ∙ sym (ap (λ b. with_item (cond b (Some e.1) (value_at uid_cmp q es)) g None) is)

-- 2. The reserved uid stands before all of them

not-above-zero : (m : ℕ) → nat_cmp 0 m ≡ Greater → ⊥
not-above-zero m e = let below : m < 0 = ranked 0 m Greater (sym e) in omega arith

then-greater : (a b : Ordering) → ordering_then a b ≡ Greater → (a ≡ Greater) ⊎ (b ≡ Greater)
then-greater Less b e = absurd (cc e)
then-greater Equal b e = inr e
then-greater Greater b e = inl refl

reserved-less : (n : ℕ) (u : Uid) → u.node ≡ n → u ≢ epoch_uid n → uid_cmp (epoch_uid n) u ≡ Less
reserved-less n u same apart = go (uid_cmp (epoch_uid n) u) refl
  where
    level : uid_cmp (epoch_uid n) u ≡ ordering_then (nat_cmp 0 u.epoch) (nat_cmp 0 u.serial)
    level = ap (λ o. ordering_then o (ordering_then (nat_cmp 0 u.epoch) (nat_cmp 0 u.serial)))
        (ap (nat_cmp n) same ∙ tied_itself nat_cmp_total n)

    go : (o : Ordering) → uid_cmp (epoch_uid n) u ≡ o → o ≡ Less
    go Less is = refl
    go Equal is = absurd (apart (sym (uid_cmp-IsAntisymmetric (epoch_uid n) u is)))
    go Greater is = absurd (elim (then-greater (nat_cmp 0 u.epoch) (nat_cmp 0 u.serial) (sym level ∙ is))
        [ inl e ↦ not-above-zero u.epoch e | inr e ↦ not-above-zero u.serial e ])

reserved-below : (n : ℕ) (es : List (Uid × Eject)) → ((u : Uid) → is_some (value_at uid_cmp u es) ≡ true → uid_cmp (epoch_uid n) u ≡ Less)
    → T (below_all uid_cmp (epoch_uid n) es)
reserved-below n [] each = tt
reserved-below n (e ∷ es) each = both _ _
    (subst (λ o. T (is_lt o)) (sym (each e.0 (ap (λ r. is_some (cond (is_eq r) (Some e.1) (value_at uid_cmp e.0 es)))
    (tied_itself uid_cmp_total e.0)))) tt)
    (reserved-below n es (λ u is. each u (more (eq_by_cmp uid_cmp u e.0) (value_at uid_cmp u es) is)))
  where
    more : (b : Bool) (o : Option Eject) → is_some o ≡ true → is_some (cond b (Some e.1) o) ≡ true
    more true o is = refl
    more false o is = is

ordered-below : (n : ℕ) (es : List (Uid × Eject)) → IsOrdered n es → T (below_all uid_cmp (epoch_uid n) es)
ordered-below n es o = reserved-below n es (λ u is. reserved-less n u (o.of_node u is) (o.not_reserved u is))

-- 3. A list with the reserved uid before it

abbrev with_first : {X : Type 0} → ℕ → Option X → List (Uid × X) → List (Uid × X)
with_first n None l = l
with_first n (Some x) l = (epoch_uid n, x) ∷ l

sorted-first : {X : Type 0} (n : ℕ) (o : Option X) (l : List (Uid × X)) → T (below_all uid_cmp (epoch_uid n) l) → T (is_sorted uid_cmp l)
    → T (is_sorted uid_cmp (with_first n o l))
sorted-first n None l below h = h
sorted-first n (Some x) l below h = both _ _ below h

value-first : {X : Type 0} (n : ℕ) (o : Option X) (l : List (Uid × X)) (q : Uid) → q ≢ epoch_uid n
    → value_at uid_cmp q (with_first n o l) ≡ value_at uid_cmp q l
value-first n None l q apart = refl
value-first n (Some x) l q apart = go (eq_by_cmp uid_cmp q (epoch_uid n)) refl
  where
    go : (b : Bool) → eq_by_cmp uid_cmp q (epoch_uid n) ≡ b → cond b (Some x) (value_at uid_cmp q l) ≡ value_at uid_cmp q l
    go true is = absurd (apart (eq-same uid_cmp uid_cmp-IsAntisymmetric q (epoch_uid n) is))
    go false is = refl

value-reserved : {X : Type 0} (n : ℕ) (o : Option X) (l : List (Uid × X)) → T (below_all uid_cmp (epoch_uid n) l)
    → value_at uid_cmp (epoch_uid n) (with_first n o l) ≡ o
value-reserved n None l below = none-below (epoch_uid n) l below
value-reserved n (Some x) l below = ap (λ r. cond (is_eq r) (Some x) (value_at uid_cmp (epoch_uid n) l))
    (tied_itself uid_cmp_total (epoch_uid n))

kept-first : (n : ℕ) (it : Node) → kept_map n it ≡ with_first n (bytes_of_epoch it.epoch) (filter_map (listed (λ e. e.kept)) it.ejects)
kept-first n it = go it.epoch
  where
    go : (o : Option ℕ) → epoch_entries n o ++ filter_map kept_entry it.ejects ≡ with_first n (bytes_of_epoch o)
        (filter_map (listed (λ e. e.kept)) it.ejects)
    go None = refl
    go (Some e) = refl

doubts-first : (n : ℕ) (it : Node)
    → doubts n it ≡ with_first n (change_of_epoch it.epoch_doubt) (filter_map (listed (λ e. e.doubt)) it.ejects)
doubts-first n it = go it.epoch_doubt
  where
    go : (o : Option ℕ) → epoch_doubts n o ++ filter_map doubt_entry it.ejects ≡ with_first n (change_of_epoch o)
        (filter_map (listed (λ e. e.doubt)) it.ejects)
    go None = refl
    go (Some e) = refl

-- 4. The lists of a node are those that the store shows

whether : (q u : Uid) → (q ≡ u) ⊎ (q ≢ u)
whether q u = go (uid_cmp q u) refl
  where
    go : (o : Ordering) → uid_cmp q u ≡ o → (q ≡ u) ⊎ (q ≢ u)
    go Equal is = inl (uid_cmp-IsAntisymmetric q u is)
    go Less is = inr (λ same. let bad : Less ≡ Equal = sym is ∙ (ap (uid_cmp q) (sym same) ∙ tied_itself uid_cmp_total q) in cc)
    go Greater is = inr (λ same. let bad : Greater ≡ Equal = sym is ∙ (ap (uid_cmp q) (sym same) ∙ tied_itself uid_cmp_total q) in cc)

with-facts : (o : Option Eject) → with_item o (λ e. e.kept) None ≡ (facts_of o).0
with-facts None = refl
with-facts (Some e) = refl

with-doubts : (o : Option Eject) → with_item o (λ e. e.doubt) None ≡ (facts_of o).1
with-doubts None = refl
with-doubts (Some e) = refl

-- a list in order, by what it has under each uid
by-value : {X : Type 0} (n : ℕ) (o : Option X) (g : Eject → Option X) (es : List (Uid × Eject)) (l : List (Uid × X)) → IsOrdered n es
    → T (is_sorted uid_cmp l)
    → o ≡ value_at uid_cmp (epoch_uid n) l → ((q : Uid) → q ≢ epoch_uid n → with_item (value_at uid_cmp q es) g None ≡ value_at uid_cmp q l)
    → with_first n o (filter_map (listed g) es) ≡ l
by-value n o g es l ordered sorted here each =
    let below = below-listed g (epoch_uid n) es (ordered-below n es ordered) in
    same_entries uid_cmp uid_cmp_total uid_cmp-IsAntisymmetric _ l
    (sorted-first n o (filter_map (listed g) es) below (sorted-listed g es ordered.in_order)) sorted
    (λ q. elim (whether q (epoch_uid n)) [
      | inl same ↦ subst (λ x. value_at uid_cmp x (with_first n o (filter_map (listed g) es)) ≡ value_at uid_cmp x l) (sym same)
          (value-reserved n o (filter_map (listed g) es) below ∙ here)
      | inr apart ↦ value-first n o (filter_map (listed g) es) q apart ∙ value-listed g q es ordered.in_order ∙ each q apart
    ])

value-all : (c : Option StoreChange) (q : Uid) → value_at uid_cmp q (all_of (changes_in c)) ≡ doubt_of c q
value-all None q = refl
value-all (Some c) q = refl

sorted-all : (c : Option StoreChange) → T (is_sorted uid_cmp (all_of (changes_in c)))
sorted-all None = tt
sorted-all (Some c) = tt

pub kept-is : (n : ℕ) (s : Site) (kept : Kept) (c : Option StoreChange) → MapStands n s kept c
    → kept_map n s.node ≡ finite.entries kept.bodies
kept-is n s kept c m = kept-first n s.node
    ∙ by-value n (bytes_of_epoch s.node.epoch) (λ e. e.kept) s.node.ejects (finite.entries kept.bodies) m.ordered
    (finite.entries_sorted kept.bodies)
    (sym m.epoch ∙ finite.get-entries kept.bodies (epoch_uid n))
    (λ q apart. with-facts (value_at uid_cmp q s.node.ejects) ∙ ap (λ (f : Facts). f.0) (m.facts q apart)
    ∙ finite.get-entries kept.bodies q)

pub doubts-are : (n : ℕ) (s : Site) (kept : Kept) (c : Option StoreChange) → MapStands n s kept c → doubts n s.node ≡ all_of (changes_in c)
doubts-are n s kept c m = doubts-first n s.node
    ∙ by-value n (change_of_epoch s.node.epoch_doubt) (λ e. e.doubt) s.node.ejects (all_of (changes_in c)) m.ordered (sorted-all c)
    (sym m.epoch_doubt ∙ sym (value-all c (epoch_uid n)))
    (λ q apart. with-doubts (value_at uid_cmp q s.node.ejects) ∙ ap (λ (f : Facts). f.1) (m.facts q apart) ∙ sym (value-all c q))

-- the state of the node is what the store shows, with the change in doubt
pub state-is : (n : ℕ) (s : Site) (kept : Kept) (c : Option StoreChange) → MapStands n s kept c
    → state_of n s.node ≡ standing_of kept (changes_in c)
state-is n s kept c m =
    let whole : kept_of_node n s.node ≡ Some
    (finite.entries kept.bodies) = ap (λ o. cond (is_some o) None (Some (kept_map n s.node))) m.undamaged
    ∙ ap (λ l. Some l) (kept-is n s kept c m) in
    λ i. record { kept = whole i; changes = doubts-are n s kept c m i }
