-- The node of an event, in the world behind it.
use Rattle.std.proofs.Common.{◌≡◌, ◌==◌, ℕ, Bool, true, false, cond, Option, None, Some, sym, ◌∙◌, ap, subst}
use Rattle.std.specs.Prelude.{IsSomeAnd}
use Rattle.std.specs.Option.{option_map}
use Rattle.std.specs.Ordering.{nat_cmp, eq_by_cmp}
use Rattle.std.specs.Cmp.{nat_cmp_total}
use Rattle.std.specs.FinMap.{nat_cmp-IsAntisymmetric}
use Rattle.capability.specs.declared.Uid.{Uid}
use Rattle.eden_model.specs.Map.{with_item, value_at, changed_at, uid_cmp}
use Rattle.eden_model.proofs.Laws.{value-changed}
use Rattle.journal.specs.declared.event.Key.{Key}
use Rattle.journal.specs.World.{World, Node, Active, Site, node_at, site_of, at_node}
use Rattle.journal.specs.Step.{counted, clocked}
use Rattle.journal.specs.Monitors.{active_at}
use Rattle.journal.specs.Sites.{active_in}
use Rattle.history_laws.proofs.Frame.{node-at_same, after_at}
use Rattle.history_laws.proofs.NoneRolledBack.{with_clock}

-- P holds of the node whatever its clock is
abbrev pub IsTimeless : (Node → Type 0) → Type 0
IsTimeless P = (c : ℕ) (it : Node) → P it → P (with_clock c it)

some-clocked : (P : Node → Type 0) → IsTimeless P → (c : ℕ) (b : Bool) (o : Option Node) → IsSomeAnd o P
    → IsSomeAnd (cond b (option_map (with_clock c) o) o) P
some-clocked P kept c true None h = absurd h
some-clocked P kept c true (Some it) h = kept c it h
some-clocked P kept c false o h = h

some-timed : (P : Node → Type 0) → IsTimeless P → (n c m : ℕ) (w : World) → IsSomeAnd (node_at w m) P
    → IsSomeAnd (node_at (clocked n c w) m) P
some-timed P kept n c m w h = elim (n == 0) as
    (λ b. IsSomeAnd (value_at nat_cmp m (cond b w.nodes (changed_at nat_cmp n (with_clock c) w.nodes))) P) [
      | true ↦ h
      | false ↦ subst (λ o. IsSomeAnd o P)
          (sym (value-changed nat_cmp nat_cmp_total nat_cmp-IsAntisymmetric m n (with_clock c) w.nodes))
          (some-clocked P kept c (eq_by_cmp nat_cmp m n) (node_at w m) h)
    ]

some-counted : (P : Node → Type 0) (k : Option Key) (m : ℕ) (w : World) → IsSomeAnd (node_at w m) P → IsSomeAnd (node_at (counted k w) m) P
some-counted P None m w h = h
some-counted P (Some k) m w h = h

-- what holds of the node behind a change of its site holds of it behind the entry
pub at-later : (P : Node → Type 0) → IsTimeless P → (k : Option Key) (touched c n : ℕ) (f : Site → Site) (w : World) (it : Node)
    → node_at w n ≡ Some it → P (f (site_of w n it)).node → IsSomeAnd (node_at (counted k (clocked touched c (at_node n f w))) n) P
at-later P kept k touched c n f w it at h = some-counted P k n (clocked touched c (at_node n f w))
    (some-timed P kept touched c n (at_node n f w)
    (subst (λ o. IsSomeAnd o P) (sym (node-at_same n f w ∙ ap (option_map (after_at n f w)) at))
    h))

-- the active part of an Eject there
abbrev pub HasActive : Uid → Option Active → Node → Type 0
HasActive u o it = active_in (value_at uid_cmp u it.ejects) ≡ o

pub has-active : (u : Uid) (o : Option Active) (w : World) → IsSomeAnd (node_at w u.node) (HasActive u o) → active_at w u ≡ o
has-active u o w h = go (node_at w u.node) h
  where
    go : (n : Option Node) → IsSomeAnd n (HasActive u o) → active_in (with_item n (λ it. value_at uid_cmp u it.ejects) None) ≡ o
    go None h = absurd h
    go (Some it) h = h
