-- The disk that is handed in for a node: what has to be known of it for the node to stand for it.
use Rattle.std.specs.Prelude.{◌≡◌, ℕ, ◌<◌, ◌≤◌, false, [], Ok}
use Rattle.std.specs.List.{All}
use Rattle.eden_disk.specs.Told.{Told, contents}
use Rattle.passive_store.specs.Kept.{Layout, Kept}
use Rattle.journal.specs.World.{Site}
use Rattle.journal.specs.Opening.{node_of}

-- a disk at rest, with a map that is not too much for it, whose room is told for a change; and the site of its node before the first event
pub record IsAtHand (layout : Layout) (n : ℕ) (s : Site) (kept : Kept) (told : Told) : Type 0 where
  pub number : s.number ≡ n
  pub its_layout : s.layout ≡ layout
  pub node : s.node ≡ node_of layout (n, (contents told).now)
  pub nothing_unsynced : (contents told).unsynced ≡ []
  pub same : (contents told).stable ≡ (contents told).now
  pub of_bytes : All (λ byte. byte < 256) (contents told).now
  pub map : layout.map_of n (contents told).now ≡ Ok kept
  pub small : layout.is_overfull n (contents told).now ≡ false
  pub is_told : 1 ≤ layout.changes_told n (contents told).now
