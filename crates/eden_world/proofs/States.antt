-- A process that is told leaves what is kept on its node, and what is in doubt there.
use Rattle.std.proofs.Common.{◌≡◌, ◌&&◌, ◌++◌, ℕ, Bool, true, false, cond, T, List, [], ◌∷◌, Option, None, Some, is_some, refl, sym}
use Rattle.std.proofs.Common.{◌∙◌, ap, subst}
use Rattle.std.specs.List.{filter_map, cons_option}
use Rattle.std.specs.Option.{option_map}
use Rattle.std.specs.Ordering.{nat_cmp, eq_by_cmp, is_eq, is_lt}
use Rattle.std.specs.declared.cmp.Ordering.{Ordering}
use Rattle.std.specs.declared.cmp.Ordering.TheVariants.{Less, Equal, Greater}
use Rattle.std.specs.FinMap.Entries.{by_order, is_sorted, below_all, is_sorted-put}
use Rattle.capability.specs.declared.Uid.{Uid}
use Rattle.capability.proofs.Uids.{uid_cmp_total}
use Rattle.eden_value.specs.declared.status.Status.TheVariants as status
use Rattle.eden_model.specs.Map.{with_item, value_at, put_at, changed_at, uid_cmp}
use Rattle.epl_syntax.specs.declared.effect.Answer.{Answer}
use Rattle.epl_syntax.specs.declared.effect.Answer.TheVariants.{Reply as Answered}
use Rattle.journal.specs.World.{World, Node, Site, Eject, Active, node_at, site_of, at_node, on_eject}
use Rattle.journal.specs.Ejects.{tells, told, on_active, with_active}
use Rattle.journal.specs.Crashes.{tells_each}
use Rattle.journal.specs.Settling.{kept_entry, doubt_entry, epoch_entries, epoch_doubts}
use Rattle.journal.specs.Sites.{InOrder}
use Rattle.journal.specs.Standing.{Standing, state, nothing_stands}
use Rattle.history_laws.proofs.Frame.{node-at_node, after_at}
use Rattle.checkpoint.specs.StoreStands.{state_of}

is-less : (o : Ordering) → T (is_lt o) → o ≡ Less
is-less Less h = refl
is-less Equal h = absurd h
is-less Greater h = absurd h

left-of : (a b : Bool) → T (a && b) → T a
left-of true b h = tt
left-of false b h = absurd h

right-of : (a b : Bool) → T (a && b) → T b
right-of true b h = h
right-of false b h = absurd h

-- 1. What is picked out of a list in order stays, where a change of one leaves what is picked of it

module _ {X Y : Type 0} (h : Uid × X → Option Y) (f : X → X) (same : (k : Uid) (x : X) → h (k, f x) ≡ h (k, x)) where
  below-none : (u x : Uid) (es : List (Uid × X)) → uid_cmp u x ≡ Less → T (below_all uid_cmp x es) → value_at uid_cmp u es ≡ None
  below-none u x [] less below = refl
  below-none u x (e ∷ es) less below =
      let before : uid_cmp u e.0 ≡ Less = uid_cmp_total.trans u x e.0 less
      (is-less (uid_cmp x e.0) (left-of (is_lt (uid_cmp x e.0)) (below_all uid_cmp x es) below)) in
      rw before (below-none u x es less (right-of (is_lt (uid_cmp x e.0)) (below_all uid_cmp x es) below))

  picked-put : (u : Uid) (x : X) (es : List (Uid × X)) → T (is_sorted uid_cmp es) → value_at uid_cmp u es ≡ Some x
      → filter_map h (put_at uid_cmp u (f x) es) ≡ filter_map h es
  picked-put u x [] sorted is = absurd (cc is)
  picked-put u x (e ∷ es) sorted is = go (uid_cmp u e.0) refl is
      (picked-put u x es (right-of (below_all uid_cmp e.0 es) (is_sorted uid_cmp es) sorted))
    where
      go : (o : Ordering) → uid_cmp u e.0 ≡ o → cond (is_eq o) (Some e.1) (value_at uid_cmp u es) ≡ Some x
          → (value_at uid_cmp u es ≡ Some x → filter_map h (put_at uid_cmp u (f x) es) ≡ filter_map h es)
          → filter_map h (by_order o ((u, f x) ∷ e ∷ es) ((e.0, f x) ∷ es) (e ∷ put_at uid_cmp u (f x) es)) ≡ filter_map h (e ∷ es)
      go Less less at later = absurd (let none : value_at uid_cmp u es ≡ None = below-none u e.0 es less
          (left-of (below_all uid_cmp e.0 es) (is_sorted uid_cmp es) sorted) in
          let bad : None ≡ Some x = sym none ∙ at in cc bad)
      go Equal tied at later = let found : e.1 ≡ x = cc at in
          ap (λ o. cons_option o (filter_map h es)) (same e.0 x ∙ ap (λ y. h (e.0, y)) (sym found))
      go Greater more at later = ap (λ l. cons_option (h e) l) (later at)

  pub picked-changed : (u : Uid) (es : List (Uid × X)) → T (is_sorted uid_cmp es) → filter_map h (changed_at uid_cmp u f es) ≡ filter_map h
      es
  picked-changed u es sorted = go (value_at uid_cmp u es) refl
    where
      go : (o : Option X) → value_at uid_cmp u es ≡ o
          → filter_map h (with_item (value_at uid_cmp u es) (λ x. put_at uid_cmp u (f x) es) es) ≡ filter_map h es
      go None is = rw is refl
      go (Some x) is = rw is (picked-put u x es sorted is)

pub sorted-changed : {X : Type 0} (u : Uid) (f : X → X) (es : List (Uid × X)) → T (is_sorted uid_cmp es)
    → T (is_sorted uid_cmp (changed_at uid_cmp u f es))
sorted-changed {X} u f es sorted = go (value_at uid_cmp u es)
  where
    go : (o : Option X) → T (is_sorted uid_cmp (with_item o (λ x. put_at uid_cmp u (f x) es) es))
    go None = sorted
    go (Some x) = is_sorted-put uid_cmp uid_cmp_total u (f x) es sorted

-- 2. A node

kept-active : (g : Active → Active) (k : Uid) (e : Eject) → kept_entry (k, on_active g e) ≡ kept_entry (k, e)
kept-active g k e = go e.active
  where
    go : (o : Option Active) → kept_entry (k, with_item o (λ it. with_active (Some (g it)) e) e) ≡ kept_entry (k, e)
    go None = refl
    go (Some it) = refl

doubt-active : (g : Active → Active) (k : Uid) (e : Eject) → doubt_entry (k, on_active g e) ≡ doubt_entry (k, e)
doubt-active g k e = go e.active
  where
    go : (o : Option Active) → doubt_entry (k, with_item o (λ it. with_active (Some (g it)) e) e) ≡ doubt_entry (k, e)
    go None = refl
    go (Some it) = refl

state-tells_node : (n : ℕ) (u : Uid) (p : ℕ) (a : Answer) (s : Site) → InOrder s.node.ejects → state_of n (tells u p a s).node ≡ state_of n
    s.node
unfolding on_eject
state-tells_node n u p a s ordered = λ i. record {
  kept = cond (is_some s.node.damaged) None (Some (epoch_entries n s.node.epoch
      ++ picked-changed kept_entry (on_active (told p a)) (kept-active (told p a)) u s.node.ejects ordered i));
  changes = epoch_doubts n s.node.epoch_doubt
      ++ picked-changed doubt_entry (on_active (told p a)) (doubt-active (told p a)) u s.node.ejects ordered i;
}

ordered-tells : (u : Uid) (p : ℕ) (a : Answer) (s : Site) → InOrder s.node.ejects → InOrder (tells u p a s).node.ejects
unfolding on_eject
ordered-tells u p a s ordered = sorted-changed u (on_active (told p a)) s.node.ejects ordered

-- 3. A world

-- the Ejects of each node are in order
abbrev pub IsOrderly : World → Type 0
IsOrderly w = (n : ℕ) (it : Node) → node_at w n ≡ Some it → InOrder it.ejects

abbrev shown-of : ℕ → Option Node → Standing
shown-of n o = with_item o (λ it. state_of n it) nothing_stands

pub state-shown : (w v : World) (n : ℕ) → node_at v n ≡ node_at w n → state v n ≡ state w n
state-shown w v n same = ap (shown-of n) same

module _ (q : Uid × ℕ) (a : Answer) (w : World) (orderly : IsOrderly w) where
  orderly-tells : IsOrderly (at_node q.0.node (tells q.0 q.1 a) w)
  orderly-tells n it at = go (eq_by_cmp nat_cmp n q.0.node) (node_at w n) refl (sym (node-at_node n q.0.node (tells q.0 q.1 a) w) ∙ at)
    where
      go : (b : Bool) (o : Option Node) → node_at w n ≡ o → cond b (option_map (after_at q.0.node (tells q.0 q.1 a) w) o) o ≡ Some it
          → InOrder it.ejects
      go false o is found = orderly n it (is ∙ found)
      go true None is found = absurd (cc found)
      go true (Some jt) is found = let node_is : after_at q.0.node (tells q.0 q.1 a) w jt ≡ it = cc found in
          subst (λ (x : Node). InOrder x.ejects) node_is (ordered-tells q.0 q.1 a (site_of w q.0.node jt) (orderly n jt is))

  state-tells : (n : ℕ) → state (at_node q.0.node (tells q.0 q.1 a) w) n ≡ state w n
  state-tells n = ap (shown-of n) (node-at_node n q.0.node (tells q.0 q.1 a) w) ∙ go (eq_by_cmp nat_cmp n q.0.node) (node_at w n) refl
    where
      go : (b : Bool) (o : Option Node) → node_at w n ≡ o
          → shown-of n (cond b (option_map (after_at q.0.node (tells q.0 q.1 a) w) o) o) ≡ shown-of n o
      go false o is = refl
      go true None is = refl
      go true (Some jt) is = state-tells_node n q.0 q.1 a (site_of w q.0.node jt) (orderly n jt is)

-- the processes that are told leave the state of every node
pub states-told : (qs : List (Uid × ℕ)) (w : World) → IsOrderly w → (n : ℕ) → state (tells_each qs w) n ≡ state w n
states-told [] w orderly n = refl
states-told (q ∷ qs) w orderly n = states-told qs (at_node q.0.node (tells q.0 q.1 (Answered status.Broken [])) w)
    (orderly-tells q (Answered status.Broken []) w orderly) n ∙ state-tells q (Answered status.Broken []) w orderly n
