-- The site after an event, and that in the world after its entry.
use Rattle.std.proofs.Common.{◌≡◌, inl, inr, ℕ, ◌==◌, false, cond, Some, refl, sym, ◌∙◌, ap}
use Rattle.std.specs.Ordering.{nat_cmp}
use Rattle.std.specs.Cmp.{nat_cmp_total}
use Rattle.std.specs.FinMap.Entries.{find-put}
use Rattle.eden_model.specs.Map.{with_item, value_at, put_at, changed_at}
use Rattle.eden_model.specs.Traffic.{Traffic}
use Rattle.eden_model.proofs.Laws.{put-put}
use Rattle.eden_model.proofs.Numbers.{same-self}
use Rattle.journal.specs.declared.event.Entry.{Entry}
use Rattle.journal.specs.World.{World, Site, Node, node_at, site_of, at_node, with_site, on_node}
use Rattle.journal.specs.Step.{clocked}
use Rattle.checkpoint.specs.Turns.{with_clock}
use Rattle.eden_world.specs.Steps.{Shows}
use Rattle.eden_world.proofs.Messages.{carrying}
use Rattle.eden_world.proofs.InWorld.{with_node}

-- it is of the same node, in a world with the same types and layout
pub record SamePlace (s new : Site) : Type 0 where
  pub number : new.number ≡ s.number
  pub types : new.types ≡ s.types
  pub layout : new.layout ≡ s.layout

-- so it is that of its node and its messages in the world
pub site-is : (w : World) (n : ℕ) (it : Node) (new : Site) → SamePlace (site_of w n it) new
    → new ≡ carrying new.traffic (site_of w n new.node)
site-is w n it new same =
    ap (λ x. record { types = x; layout = new.layout; number = new.number; node = new.node; traffic = new.traffic }) same.types
    ∙ ap (λ x. record { types = w.types; layout = x; number = new.number; node = new.node; traffic = new.traffic }) same.layout
    ∙ ap (λ x. record { types = w.types; layout = w.layout; number = x; node = new.node; traffic = new.traffic }) same.number

-- the world after a change at a site
pub at-node-is : (n : ℕ) (f : Site → Site) (w : World) (it : Node) → node_at w n ≡ Some it
    → at_node n f w ≡ with_node n (f (site_of w n it)).node (f (site_of w n it)).traffic w
unfolding at_node
at-node-is n f w it at = ap (λ o. with_item o (λ it. with_site (record (f (site_of w n it)) { number = n }) w) w) at

abbrev pub clocked_as : ℕ → Node → Node
clocked_as c it = record it { clock = Some c }

pub clock-is : (c : ℕ) (s : Site) → with_clock c s ≡ record s { node = clocked_as c s.node }
unfolding on_node
clock-is c s = refl

-- behind its entry
clocked-with : (n c : ℕ) (x : Node) (t : Traffic) (w : World) → (n == 0) ≡ false
    → clocked n c (with_node n x t w) ≡ with_node n (clocked_as c x) t w
clocked-with n c x t w some = ap (λ ns. record w { nodes = ns; traffic = t }) (
    ap (λ b. cond b (put_at nat_cmp n x w.nodes) (changed_at nat_cmp n (clocked_as c) (put_at nat_cmp n x w.nodes))) some
    ∙ ap (λ o. with_item o (λ y. put_at nat_cmp n (clocked_as c y) (put_at nat_cmp n x w.nodes)) (put_at nat_cmp n x w.nodes)) here
    ∙ put-put nat_cmp nat_cmp_total n x (clocked_as c x) w.nodes)
  where
    here : value_at nat_cmp n (put_at nat_cmp n x w.nodes) ≡ Some x
    here = find-put nat_cmp nat_cmp_total n n x w.nodes ∙ ap (λ b. cond b (Some x) (value_at nat_cmp n w.nodes)) (same-self n)

-- a node whose clock is so already
pub clocked-already : (c : ℕ) (x : Node) → x.clock ≡ Some c → clocked_as c x ≡ x
clocked-already c x is = ap (λ o. record x { clock = o }) (sym is)

-- an entry on its disk
pub clocked-here : (e : Entry) (n clock : ℕ) (x : Node) (t : Traffic) (w : World) → (n == 0) ≡ false → e.node ≡ n → e.clock ≡ clock
    → clocked e.node e.clock (with_node n x t w) ≡ with_node n (clocked_as clock x) t w
clocked-here e n clock x t w some here shown =
    ap (λ m. clocked m e.clock (with_node n x t w)) here ∙ clocked-with n e.clock x t w some
    ∙ ap (λ c. with_node n (clocked_as c x) t w) shown

-- or on none
pub clocked-is : (e : Entry) (n before after : ℕ) (x : Node) (t : Traffic) (w : World) → (n == 0) ≡ false → Shows e n before after
    → (after ≡ before → x.clock ≡ Some after)
    → clocked e.node e.clock (with_node n x t w) ≡ with_node n (clocked_as after x) t w
clocked-is e n before after x t w some (inl (here, shown)) same = clocked-here e n after x t w some here shown
clocked-is e n before after x t w some (inr (none, zero, level)) same =
    ap (λ m. clocked m e.clock (with_node n x t w)) none ∙ sym (ap (λ y. with_node n y t w) (clocked-already after x (same level)))
