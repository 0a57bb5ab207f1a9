-- An event at a node changes that node and the messages, and nothing elsewhere.
use Rattle.std.proofs.Common.{◌≡◌, ◌==◌, ℕ, Bool, true, false, cond, Option, None, Some, refl, sym, ◌∙◌, ap}
use Rattle.std.proofs.lemmas.Bool.{eq-eqb}
use Rattle.std.specs.Option.{option_map}
use Rattle.std.specs.Ordering.{nat_cmp, eq_by_cmp}
use Rattle.std.specs.Cmp.{nat_cmp_total}
use Rattle.std.specs.FinMap.{nat_cmp-IsAntisymmetric}
use Rattle.std.specs.FinMap.Entries.{find-put}
use Rattle.std.proofs.lemmas.Cmp.{tied_itself}
use Rattle.capability.specs.declared.Uid.{Uid}
use Rattle.eden_model.specs.Map.{uid_cmp}
use Rattle.eden_model.specs.Traffic.{Traffic}
use Rattle.capability.proofs.Uids.{uid_cmp_total, uid_cmp-IsAntisymmetric}
use Rattle.eden_model.proofs.Laws.{value-changed, changed-changed, eq-same}
use Rattle.journal.specs.World.{World, Site, Node, Eject, node_at, eject_at, site_of, at_node, eject_in, on_eject, on_node, on_traffic}

-- the site with which f leaves a node, numbered as it was
abbrev pub after_at : ℕ → (Site → Site) → World → Node → Node
after_at n f w it = (f (site_of w n it)).node

-- 1. Nodes after a change of one

pub node-at_node : (m n : ℕ) (f : Site → Site) (w : World)
    → node_at (at_node n f w) m ≡ cond (eq_by_cmp nat_cmp m n) (option_map (after_at n f w) (node_at w m)) (node_at w m)
unfolding at_node
node-at_node m n f w = go (node_at w n) refl (eq_by_cmp nat_cmp m n) refl
  where
    go : (o : Option Node) → node_at w n ≡ o → (b : Bool) → eq_by_cmp nat_cmp m n ≡ b
        → node_at (at_node n f w) m ≡ cond (eq_by_cmp nat_cmp m n) (option_map (after_at n f w) (node_at w m)) (node_at w m)
    go None is true b = rw (is, b) (let e : m ≡ n = eq-same nat_cmp nat_cmp-IsAntisymmetric m n b in rw (e, is) refl)
    go None is false b = rw (is, b) refl
    go (Some it) is true b = rw (is, find-put nat_cmp nat_cmp_total m n (after_at n f w it) w.nodes, b)
        (let e : m ≡ n = eq-same nat_cmp nat_cmp-IsAntisymmetric m n b in rw (e, is) refl)
    go (Some it) is false b = rw (is, find-put nat_cmp nat_cmp_total m n (after_at n f w it) w.nodes, b) refl

pub other-node : (m n : ℕ) → (m == n) ≡ false → eq_by_cmp nat_cmp m n ≡ false
other-node m n h = go (eq_by_cmp nat_cmp m n) refl
  where
    go : (b : Bool) → eq_by_cmp nat_cmp m n ≡ b → b ≡ false
    go true is = let e : m ≡ n = eq-same nat_cmp nat_cmp-IsAntisymmetric m n is in
        let bad : true ≡ false = sym (eq-eqb m n e) ∙ h in cc
    go false is = refl

pub node-at_same : (n : ℕ) (f : Site → Site) (w : World) → node_at (at_node n f w) n ≡ option_map (after_at n f w) (node_at w n)
node-at_same n f w = node-at_node n n f w ∙ rw (tied_itself nat_cmp_total n) refl

pub node-at_other : (m n : ℕ) (f : Site → Site) (w : World) → (m == n) ≡ false → node_at (at_node n f w) m ≡ node_at w m
node-at_other m n f w h = node-at_node m n f w ∙ rw (other-node m n h) refl

-- 2. Nothing elsewhere changes: one law for each event at a node

pub record OnlyNode (n : ℕ) (old new : World) : Type 0 where
  pub nodes : (m : ℕ) → (m == n) ≡ false → node_at new m ≡ node_at old m
  pub ejects : (u : Uid) → (u.node == n) ≡ false → eject_at new u ≡ eject_at old u
  pub cuts : new.cuts ≡ old.cuts
  pub names : new.names ≡ old.names

cuts-at_node : (n : ℕ) (f : Site → Site) (w : World) → (at_node n f w).cuts ≡ w.cuts
unfolding at_node
cuts-at_node n f w = go (node_at w n) refl
  where
    go : (o : Option Node) → node_at w n ≡ o → (at_node n f w).cuts ≡ w.cuts
    go None is = rw is refl
    go (Some it) is = rw is refl

names-at_node : (n : ℕ) (f : Site → Site) (w : World) → (at_node n f w).names ≡ w.names
unfolding at_node
names-at_node n f w = go (node_at w n) refl
  where
    go : (o : Option Node) → node_at w n ≡ o → (at_node n f w).names ≡ w.names
    go None is = rw is refl
    go (Some it) is = rw is refl

pub only-at_node : (n : ℕ) (f : Site → Site) (w : World) → OnlyNode n w (at_node n f w)
only-at_node n f w = record {
  nodes = λ m h. node-at_other m n f w h;
  ejects = λ u h. rw (node-at_other u.node n f w h) refl;
  cuts = cuts-at_node n f w;
  names = names-at_node n f w;
}

-- 3. Ejects at a site after a change of one

pub eject-on_eject : (u v : Uid) (f : Eject → Eject) (s : Site)
    → eject_in (on_eject u f s) v ≡ cond (eq_by_cmp uid_cmp v u) (option_map f (eject_in s v)) (eject_in s v)
unfolding on_eject
eject-on_eject u v f s = value-changed uid_cmp uid_cmp_total uid_cmp-IsAntisymmetric v u f s.node.ejects

pub on_eject-twice : (u : Uid) (f g : Eject → Eject) (s : Site) → on_eject u g (on_eject u f s) ≡ on_eject u (λ e. g (f e)) s
unfolding on_eject
on_eject-twice u f g s = ap (λ es. record s { node = record s.node { ejects = es } })
    (changed-changed uid_cmp uid_cmp_total u f g s.node.ejects)

-- what one change leaves alone
pub eject-on_node : (v : Uid) (f : Node → Node) (s : Site) → eject_in (on_node f s) v ≡ eject_in (record s { node = f s.node }) v
unfolding on_node
eject-on_node v f s = refl

pub eject-on_traffic : (v : Uid) (f : Traffic → Traffic) (s : Site) → eject_in (on_traffic f s) v ≡ eject_in s v
unfolding on_traffic
eject-on_traffic v f s = refl

pub traffic-on_eject : (u : Uid) (f : Eject → Eject) (s : Site) → (on_eject u f s).traffic ≡ s.traffic
unfolding on_eject
traffic-on_eject u f s = refl

pub traffic-on_traffic : (f : Traffic → Traffic) (s : Site) → (on_traffic f s).traffic ≡ f s.traffic
unfolding on_traffic
traffic-on_traffic f s = refl
