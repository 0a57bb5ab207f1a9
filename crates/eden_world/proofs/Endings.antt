-- What is in hand stands for a world, so a crash leaves of each disk only what stands for the state of its node there.
use Rattle.std.proofs.Common.{◌≡◌, inl, inr, ℕ, cond, List, None, Some, is_some, sym, ap, subst}
use Rattle.std.specs.Prelude.{IsSomeAnd}
use Rattle.eden_model.specs.Map.{with_item}
use Rattle.eden_disk.specs.Told.{LeavesOnly, contents}
use Rattle.passive_store.specs.Kept.{Layout, doubt_in, changes_in}
use Rattle.journal.specs.World.{World, Node, Site, site_of}
use Rattle.journal.specs.Opening.{found_in, entries_of}
use Rattle.journal.specs.Settling.{kept_map, doubts}
use Rattle.journal.specs.Standing.{Standing, Stands, StandsFor, state, nothing_stands}
use Rattle.checkpoint.specs.BarredBoots.{Bar, damaged, overfull, IsBarred, KnowsBar}
use Rattle.checkpoint.specs.StoreStands.{state_of}
use Rattle.checkpoint.proofs.Found.{kept-left}
use Rattle.checkpoint.proofs.MapStands.{state-is}
use Rattle.eden_world.specs.Worlds.{Seat, up, down, InHand, IsNumber, WorldStands, SeatStands}
use Rattle.eden_world.specs.Steps.{disk_of}
use Rattle.eden_world.proofs.Falls.{node-of, its-node}

-- an image with a bar stands for a node that knows it
barred-image : (layout : Layout) (n : ℕ) (s : Site) (bar : Bar) (image : List ℕ) → KnowsBar bar n s → IsBarred bar layout n image
    → Stands layout n (state_of n s.node) image
barred-image layout n s (damaged place) image known is =
    subst (λ o. StandsFor (cond (is_some o) None (Some (kept_map n s.node))) (doubts n s.node) (found_in layout n image)) (sym known)
    (subst (λ r. StandsFor None (doubts n s.node) (entries_of r)) (sym is) tt)
barred-image layout n s (overfull kept) image known is =
    subst (λ (x : Standing). Stands layout n x image) (sym (state-is n s kept None known.1)) (ap entries_of is.0)

seat-leaves : (layout : Layout) (more : ℕ) (h : InHand) (w : World) (n : ℕ) (it : Node) (seat : Seat)
    → SeatStands layout h.types h.mail more (site_of w n it) seat
    → LeavesOnly (Stands layout n (state_of n it)) (contents (disk_of seat).told)
seat-leaves layout more h w n it (up a) x image left =
    subst (λ k. Stands layout k (state_of k it) image) (its-node layout more n h w it a x)
    (subst (λ (z : Standing). Stands layout a.seen.node z image)
    (sym (state-is a.seen.node (site_of w n it) a.seen.kept (doubt_in a.seen.work) x.stands.disk.keeps))
    (kept-left layout a.seen.node a.seen.more a.seen.kept (changes_in (doubt_in a.seen.work)) a.seen.disk.told
    x.stands.disk.stands image left))
seat-leaves layout more h w n it (down noted d) x image left = elim x.disk [
  | inl r ↦ subst (λ (z : Standing). Stands layout n z image) (sym (state-is n (site_of w n it) r.2.kept r.2.doubt r.2.keeps))
      (kept-left layout n r.0 r.2.kept (changes_in r.2.doubt) d.told r.2.stands image left)
  | inr b ↦ barred-image layout n (site_of w n it) b.0 image b.2.known (b.2.stands image left)
]

pub leaves-its-state : (layout : Layout) (more : ℕ) (h : InHand) (w : World) (n : ℕ) (seat : Seat)
    → WorldStands layout more h w → IsNumber n
    → h.seats n ≡ Some seat → LeavesOnly (Stands layout n (state w n)) (contents (disk_of seat).told)
leaves-its-state layout more h w n seat is number sits image left =
    let x = node-of layout more h w n is sits in
    subst (λ (z : Standing). Stands layout n z image) (sym (ap (λ o. with_item o (λ it. state_of n it) nothing_stands) x.1))
    (seat-leaves layout more h w n x.0 seat
    (subst (λ o. IsSomeAnd o (SeatStands layout h.types h.mail more (site_of w n x.0))) sits (is.nodes n x.0 x.1)) image left)
