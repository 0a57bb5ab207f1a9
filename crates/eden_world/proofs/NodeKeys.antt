-- The nodes of a world are numbered from 1 on, and a change of a node keeps their numbers.
use Rattle.std.proofs.Common.{◌≡◌, ◌==◌, ◌≤◌, ◌<◌, ℕ, zero, suc, ◌+◌, Bool, true, false, cond, List, [], ◌∷◌, map, length, Option, None, Some, refl}
use Rattle.std.proofs.Common.{sym}
use Rattle.std.proofs.Common.{◌∙◌, ap, arith}
use Rattle.std.specs.Prelude.{is_some}
use Rattle.std.specs.declared.cmp.Ordering.{Ordering}
use Rattle.std.specs.declared.cmp.Ordering.TheVariants.{Less, Equal, Greater}
use Rattle.std.specs.Ordering.{nat_cmp, eq_by_cmp, is_eq}
use Rattle.std.specs.FinMap.Entries.{by_order}
use Rattle.std.proofs.lemmas.Bool.Decides.{nat_tests}
use Rattle.std.proofs.lemmas.List.{length-map}
use Rattle.eden_model.specs.Map.{with_item, value_at, put_at, changed_at}
use Rattle.eden_model.proofs.Numbers.{same-true, same-self}
use Rattle.journal.specs.declared.event.Key.{Key}
use Rattle.journal.specs.World.{World, Node, Site, node_at, at_node, is_up}
use Rattle.journal.specs.Step.{clocked}
use Rattle.eden_world.specs.Worlds.{AreNumbers, IsNumber, numbers_from}
use Rattle.eden_world.specs.Told.{marked}

-- 1. Entries whose numbers rise by one

abbrev pub NumberedFrom : {X : Type 0} → ℕ → List (ℕ × X) → Type 0
NumberedFrom n [] = Unit {0}
NumberedFrom n (e ∷ es) = (e.0 ≡ n) × NumberedFrom (n + 1) es

abbrev pub RisesFrom : ℕ → List ℕ → Type 0
RisesFrom n [] = Unit {0}
RisesFrom n (k ∷ ks) = (k ≡ n) × RisesFrom (n + 1) ks

numbered-by : {X : Type 0} (n : ℕ) (ks : List ℕ) (es : List (ℕ × X)) → map (λ e. e.0) es ≡ ks → RisesFrom n ks → NumberedFrom n es
numbered-by n ks [] same rises = tt
numbered-by n [] (e ∷ es) same rises = absurd (cc same)
numbered-by n (k ∷ ks) (e ∷ es) same rises =
    let head : e.0 ≡ k = cc same in
    let tail : map (λ e. e.0) es ≡ ks = cc same in
    (head ∙ rises.0, numbered-by (n + 1) ks es tail rises.1)

they-rise : (k c : ℕ) → RisesFrom k (numbers_from k c)
they-rise k zero = tt
they-rise k (suc c) = (refl, they-rise (k + 1) c)

pub numbers-count : (k c : ℕ) → length (numbers_from k c) ≡ c
numbers-count k zero = refl
numbers-count k (suc c) = ap suc (numbers-count (k + 1) c)

pub numbered : (w : World) → AreNumbers (map (λ e. e.0) w.nodes) → NumberedFrom 1 w.nodes
numbered w same = numbered-by 1 (numbers_from 1 same.count) w.nodes same.are (they-rise 1 same.count)

-- there are as many nodes as numbers
as-many : (w : World) → (same : AreNumbers (map (λ (e : ℕ × Node). e.0) w.nodes)) → length w.nodes ≡ same.count
as-many w same = sym (length-map w.nodes (λ (e : ℕ × Node). e.0)) ∙ ap length same.are ∙ numbers-count 1 same.count

pub found-within : {X : Type 0} (n m : ℕ) (x : X) (es : List (ℕ × X)) → NumberedFrom m es → value_at nat_cmp n es ≡ Some x
    → (m ≤ n) × (n < m + length es)
found-within n m x [] row is = absurd (cc is)
found-within {X} n m x (e ∷ es) row is = go (eq_by_cmp nat_cmp n e.0) refl is (found-within n (m + 1) x es row.1)
  where
    go : (b : Bool) → eq_by_cmp nat_cmp n e.0 ≡ b → cond b (Some e.1) (value_at nat_cmp n es) ≡ Some x
        → (value_at nat_cmp n es ≡ Some x → (m + 1 ≤ n) × (n < m + 1 + length es)) → (m ≤ n) × (n < m + length (e ∷ es))
    go true same at later = let here : n ≡ e.0 = same-true n e.0 same in (omega (arith, here, row.0), omega (arith, here, row.0))
    go false other at later = let r = later at in (omega (arith, r.0), omega (arith, r.1))

pub present-within : {X : Type 0} (n m : ℕ) (es : List (ℕ × X)) → NumberedFrom m es → m ≤ n → n < m + length es
    → is_some (value_at nat_cmp n es) ≡ true
present-within n m [] row from to = absurd (omega (arith, from, to))
present-within {X} n m (e ∷ es) row from to = go (eq_by_cmp nat_cmp n e.0) refl
    (λ past. present-within n (m + 1) es row.1 past (omega (arith, to)))
  where
    other : eq_by_cmp nat_cmp n e.0 ≡ false → n ≡ m → ⊥
    other is same = let itself : eq_by_cmp nat_cmp n e.0 ≡ true = ap (eq_by_cmp nat_cmp n) (row.0 ∙ sym same) ∙ same-self n in
        let bad : true ≡ false = sym itself ∙ is in cc bad

    past-first : (n ≡ m → ⊥) → m + 1 ≤ n
    past-first apart = omega (arith, from, apart)

    go : (b : Bool) → eq_by_cmp nat_cmp n e.0 ≡ b → (m + 1 ≤ n → is_some (value_at nat_cmp n es) ≡ true)
        → is_some (cond (eq_by_cmp nat_cmp n e.0) (Some e.1) (value_at nat_cmp n es)) ≡ true
    go true same later = rw same refl
    go false is later = rw is (later (past-first (other is)))

less-is : (a b : ℕ) → nat_cmp a b ≡ Less → a < b
less-is a b h = grind (arith, nat_tests)

-- an entry that is there is put in its place
pub keys-put : {X : Type 0} (n m : ℕ) (x y : X) (es : List (ℕ × X)) → NumberedFrom m es → value_at nat_cmp n es ≡ Some x
    → map (λ e. e.0) (put_at nat_cmp n y es) ≡ map (λ e. e.0) es
keys-put n m x y [] row is = absurd (cc is)
keys-put {X} n m x y (e ∷ es) row is = go (nat_cmp n e.0) refl is (keys-put n (m + 1) x y es row.1)
  where
    go : (o : Ordering) → nat_cmp n e.0 ≡ o → cond (is_eq o) (Some e.1) (value_at nat_cmp n es) ≡ Some x
        → (value_at nat_cmp n es ≡ Some x → map (λ e. e.0) (put_at nat_cmp n y es) ≡ map (λ e. e.0) es)
        → map (λ e. e.0) (by_order o ((n, y) ∷ e ∷ es) ((e.0, y) ∷ es) (e ∷ put_at nat_cmp n y es)) ≡ map (λ e. e.0) (e ∷ es)
    go Less less at later = absurd (omega (arith, less-is n e.0 less, row.0, (found-within n (m + 1) x es row.1 at).0))
    go Equal same at later = refl
    go Greater more at later = ap (λ ks. e.0 ∷ ks) (later at)

keys-changed : {X : Type 0} (n m : ℕ) (f : X → X) (es : List (ℕ × X)) → NumberedFrom m es
    → map (λ e. e.0) (changed_at nat_cmp n f es) ≡ map (λ e. e.0) es
keys-changed {X} n m f es row = go (value_at nat_cmp n es) refl
  where
    go : (o : Option X) → value_at nat_cmp n es ≡ o
        → map (λ e. e.0) (with_item (value_at nat_cmp n es) (λ x. put_at nat_cmp n (f x) es) es) ≡ map (λ e. e.0) es
    go None is = rw is refl
    go (Some x) is = rw is (keys-put n m x (f x) es row is)

-- 2. The nodes of a world

-- who has a node has a number
pub number-of : (w : World) (n : ℕ) (it : Node) → AreNumbers (map (λ e. e.0) w.nodes) → node_at w n ≡ Some it → IsNumber n
number-of w n it same is =
    let r = found-within n 1 it w.nodes (numbered w same) is in
    record { first = r.0; last = omega (arith, r.1, as-many w same, same.few) }

-- a number up to their count has a node
pub node-there : (w : World) (n : ℕ) → (same : AreNumbers (map (λ (e : ℕ × Node). e.0) w.nodes)) → 1 ≤ n → n ≤ same.count
    → is_some (node_at w n) ≡ true
node-there w n same first last = present-within n 1 w.nodes (numbered w same) first (omega (arith, last, as-many w same))

-- and none past it
pub node-within : (w : World) (n : ℕ) (it : Node) → (same : AreNumbers (map (λ (e : ℕ × Node). e.0) w.nodes)) → node_at w n ≡ Some it
    → n ≤ same.count
node-within w n it same is =
    let r = found-within n 1 it w.nodes (numbered w same) is in
    omega (arith, r.1, as-many w same)

pub up-number : (w : World) (n : ℕ) → AreNumbers (map (λ e. e.0) w.nodes) → is_up w n ≡ true → IsNumber n
up-number w n same up = go (node_at w n) refl
  where
    go : (o : Option Node) → node_at w n ≡ o → IsNumber n
    go None is = absurd (let bad : false ≡ true = sym (ap (λ o. with_item o (λ (it : Node). it.up) false) is) ∙ up in cc bad)
    go (Some it) is = number-of w n it same is

pub keys-at_node : (n : ℕ) (f : Site → Site) (w : World) → AreNumbers (map (λ e. e.0) w.nodes)
    → map (λ e. e.0) (at_node n f w).nodes ≡ map (λ e. e.0) w.nodes
unfolding at_node
keys-at_node n f w same = go (node_at w n) refl
  where
    go : (o : Option Node) → node_at w n ≡ o → map (λ e. e.0) (at_node n f w).nodes ≡ map (λ e. e.0) w.nodes
    go None is = rw is refl
    go (Some it) is = rw is (keys-put n 1 it _ w.nodes (numbered w same) is)

pub keys-marked : (key : Option Key) (n c : ℕ) (w : World) → AreNumbers (map (λ e. e.0) w.nodes)
    → map (λ e. e.0) (marked key n c w).nodes ≡ map (λ e. e.0) w.nodes
keys-marked key n c w same = by_key key
  where
    here : map (λ e. e.0) (clocked n c w).nodes ≡ map (λ e. e.0) w.nodes
    here = go (n == 0)
      where
        go : (b : Bool) → map (λ e. e.0) (cond b w.nodes (changed_at nat_cmp n (λ (it : Node). record it { clock = Some c }) w.nodes))
            ≡ map (λ e. e.0) w.nodes
        go true = refl
        go false = keys-changed n 1 (λ (it : Node). record it { clock = Some c }) w.nodes (numbered w same)

    by_key : (key : Option Key) → map (λ e. e.0) (marked key n c w).nodes ≡ map (λ e. e.0) w.nodes
    by_key None = here
    by_key (Some k) = here

-- 3. The same numbers

pub same-numbers : (ms ns : List ℕ) → ms ≡ ns → AreNumbers ns → AreNumbers ms
same-numbers ms ns same is = record { count = is.count; some = is.some; few = is.few; are = same ∙ is.are }

pub numbers-at_node : (n : ℕ) (f : Site → Site) (w : World) → AreNumbers (map (λ e. e.0) w.nodes)
    → AreNumbers (map (λ e. e.0) (at_node n f w).nodes)
numbers-at_node n f w is = same-numbers _ _ (keys-at_node n f w is) is
