-- How what is proved of a node's turn at its site is carried to the world.
use Rattle.std.proofs.Common.{◌≡◌, ℕ, Some, refl}
use Rattle.std.specs.Prelude.{IsSomeAnd}
use Rattle.journal.specs.World.{World, Node, Site, node_at, site_of, site_at, at_node}
use Rattle.history_laws.proofs.Frame.{node-at_same, after_at}

-- what holds of a node's site is what the world asks
pub holds-at_site : (w : World) (n : ℕ) (it : Node) (P : Site → Type 0) → node_at w n ≡ Some it → P (site_of w n it)
    → IsSomeAnd (site_at w n) P
holds-at_site w n it P is p = rw is p

-- the node and the messages after the event are those with which the turn leaves its site
pub node-after : (w : World) (n : ℕ) (it : Node) (f : Site → Site) → node_at w n ≡ Some it
    → node_at (at_node n f w) n ≡ Some (after_at n f w it)
node-after w n it f is = rw (node-at_same n f w, is) refl

pub traffic-after : (w : World) (n : ℕ) (it : Node) (f : Site → Site) → node_at w n ≡ Some it
    → (at_node n f w).traffic ≡ (f (site_of w n it)).traffic
unfolding at_node
traffic-after w n it f is = rw is refl
