-- The room of the disk of a place: what a crash may leave there has its room told for as many changes as the place stands with.
use Rattle.std.proofs.Common.{◌≡◌, inl, inr, ◌≤◌, ◌+◌, ℕ, true, false, List, Option, None, Some, sym, ◌∙◌, subst, arith}
use Rattle.std.specs.Prelude.{IsSomeAnd}
use Rattle.std.specs.Option.{option_map}
use Rattle.eden_disk.specs.Told.{Told, contents, LeavesOnly}
use Rattle.epl_syntax.specs.Rules.OfTypes.{TypeList}
use Rattle.invocation.specs.Mail.{Mail}
use Rattle.passive_store.specs.Kept.{Layout}
use Rattle.passive_store.specs.Seen.{DiskSeen}
use Rattle.journal.specs.World.{World, Site, Node, node_at, site_of}
use Rattle.journal.specs.Opening.{IsToldFor}
use Rattle.checkpoint.specs.Room.{KeepsRoom}
use Rattle.checkpoint.specs.BarredBoots.{Bar, IsBarred, damaged, overfull}
use Rattle.eden_world.specs.Steps.{disk_of}
use Rattle.eden_world.specs.Worlds.{Seat, up, down, InHand, SeatStands, WorldStands}

-- 1. One place

pub barred-room : (layout : Layout) (n more : ℕ) (bar : Bar) (image : List ℕ) → IsBarred bar layout n image → IsToldFor layout n more image
barred-room layout n more (damaged place) image is kept map opens = absurd (cc (sym map ∙ is))
barred-room layout n more (overfull found) image is kept map opens =
    absurd (let bad : true ≡ false = sym is.1 ∙ opens in cc bad)

pub seat-room : (layout : Layout) (ts : TypeList) (m : Mail) (more : ℕ) (s : Site) (seat : Seat) → SeatStands layout ts m more s seat
    → LeavesOnly (IsToldFor layout s.number more) (contents (disk_of seat).told)
seat-room layout ts m more s (up h) x image left = subst (λ n. IsToldFor layout n more image) (sym x.stands.disk.number)
    (λ kept map opens. let enough : more ≤ h.seen.more = x.told in omega (arith, enough, (x.stands.disk.stands image left).told))
seat-room layout ts m more s (down noted d) x image left = elim x.disk [
  | inl r ↦ λ kept map opens. omega (arith, r.1, (r.2.stands image left).told)
  | inr b ↦ barred-room layout s.number more b.0 image (b.2.stands image left)
]

pub world-room : (layout : Layout) (more : ℕ) (h : InHand) (w : World) (n : ℕ) (it : Node) (y : DiskSeen) → WorldStands layout more h w
    → node_at w n ≡ Some it → option_map disk_of (h.seats n) ≡ Some y → LeavesOnly (IsToldFor layout n more) (contents y.told)
world-room layout more h w n it y is at there = go (h.seats n) (is.nodes n it at) there
  where
    go : (o : Option Seat) → IsSomeAnd o (SeatStands layout h.types h.mail more (site_of w n it)) → option_map disk_of o ≡ Some y
        → LeavesOnly (IsToldFor layout n more) (contents y.told)
    go None x there = absurd x
    go (Some seat) x there = let same : disk_of seat ≡ y = cc there in
        subst (λ (z : DiskSeen). LeavesOnly (IsToldFor layout n more) (contents z.told)) same
        (seat-room layout h.types h.mail more (site_of w n it) seat x)

-- 2. For fewer

pub told-less : (layout : Layout) (n more least : ℕ) (told : Told) → least ≤ more → LeavesOnly (IsToldFor layout n more) (contents told)
    → LeavesOnly (IsToldFor layout n least) (contents told)
told-less layout n more least told less leaves image left kept map opens =
    let enough : more ≤ layout.changes_told n image = leaves image left kept map opens in omega (arith, less, enough)

-- by what is kept of the room
pub kept-less : (layout : Layout) (n more least : ℕ) (told : Told) → least + 1 ≤ more → KeepsRoom layout n more told
    → LeavesOnly (IsToldFor layout n least) (contents told)
kept-less layout n more least told less room = told-less layout n room.0 least told (omega (arith, less, room.1)) room.2
