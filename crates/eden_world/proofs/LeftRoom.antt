-- The room of the disk at each place: what a crash may leave there has its room told for as many changes as the program stands with.
use Rattle.std.proofs.Common.{is_some, true, false}
use Rattle.std.proofs.Common.{◌≡◌, inl, inr, ◌≤◌, ℕ, Bool, List, length, Option, None, Some, sym, ◌∙◌, ap, subst, arith}
use Rattle.std.specs.Option.{option_map}
use Rattle.eden_disk.specs.Told.{contents, Left, LeavesOnly}
use Rattle.epl_syntax.specs.Rules.OfTypes.{TypeList}
use Rattle.passive_store.specs.Kept.{Layout}
use Rattle.passive_store.specs.Seen.{Seen, DiskSeen}
use Rattle.journal.specs.World.{World}
use Rattle.journal.specs.LegalRun.{EachDisk}
use Rattle.journal.specs.Opening.{IsToldFor}
use Rattle.journal.specs.Standing.{DiskRun}
use Rattle.runs.specs.Machines.{Failed, StandsWith}
use Rattle.eden_world.specs.InHand.{Ends, Stands, in_hand, place_at, seen_at}
use Rattle.eden_world.specs.Legal.{disk_runs}
use Rattle.eden_world.specs.Seated.{AreGiven, Begins}
use Rattle.eden_world.specs.Steps.{SeatEnds, disk_of}
use Rattle.eden_world.specs.Worlds.{Seat, IsNumber}
use Rattle.eden_world.specs.declared.World.{World as Program}
use Rattle.eden_world.proofs.Falls.{node-of_disk}
use Rattle.eden_world.proofs.LegalDisks.{IsAtPlace, at-place, disk_at}
use Rattle.eden_world.proofs.SeatRoom.{told-less, world-room}

-- 1. A run that came to its end: all of them, as they are given back

pub leave-room : {T D : Type 0} (tells obeys : Bool) (layout : Layout) (seen : T → Seen) (look : D → DiskSeen) (types : TypeList)
    (before after : List D) (first last : Program T D) (w : World) (least more : ℕ) → length before ≤ 8 → Begins types before first
    → AreGiven seen look last after → least ≤ more → Stands tells layout seen look last more w
    → EachDisk (disk_runs obeys look before after) (λ n d. LeavesOnly (IsToldFor layout n least) (contents d.after))
leave-room tells obeys layout seen look types before after first last w least more few begins given enough stands n d there image left =
    let x = at-place obeys seen look types before after first last n d few begins given there in
    let it = node-of_disk layout more (in_hand seen look last) w n stands.world x.is in
    let room : IsToldFor layout n more image = world-room layout more (in_hand seen look last) w n it.0 x.new stands.world it.1 x.is image
    (subst (λ (z : DiskRun). Left (contents z.after) image) x.run left) in
    λ kept map opens. omega (arith, enough, room kept map opens)

-- 2. One that want of memory ended

seat-left-room : (layout : Layout) (more n : ℕ) (w : World) (o p : Option Seat) (y : DiskSeen)
    → is_some (option_map disk_of o) ≡ true → SeatEnds layout more n w o p → option_map disk_of p ≡ Some y → LeavesOnly (IsToldFor layout n more) (contents y.told)
seat-left-room layout more n w None p y had ends there = absurd (let bad : false ≡ true = had in cc bad)
seat-left-room layout more n w (Some a) None y had ends there = absurd ends
seat-left-room layout more n w (Some a) (Some b) y had ends there =
    let same : disk_of b ≡ y = cc there in
    subst (λ (z : DiskSeen). LeavesOnly (IsToldFor layout n more) (contents z.told)) same ends.room

pub leave-room-part : {T D : Type 0} (tells obeys : Bool) (layout : Layout) (seen : T → Seen) (look : D → DiskSeen) (types : TypeList)
    (before after : List D) (first between last : Program T D) (w : World) (least : ℕ) → length before ≤ 8 → Begins types before first
    → AreGiven seen look last after → StandsWith (Stands tells layout seen look) between least w
    → Failed (Ends layout seen look) least between last w
    → ((m : ℕ) → IsNumber m → is_some (disk_at seen look m first) ≡ true → is_some (disk_at seen look m between) ≡ true)
    → EachDisk (disk_runs obeys look before after) (λ n d. LeavesOnly (IsToldFor layout n least) (contents d.after))
leave-room-part tells obeys layout seen look types before after first between last w least few begins given stood failed still n d there =
    subst (λ (z : DiskRun). LeavesOnly (IsToldFor layout n least) (contents z.after)) (sym x.run) (elim failed [
      | inl begun ↦ told-less layout n begun.0 least x.new.told begun.1
          (seat-left-room layout begun.0 n w (seen_at seen look (place_at between n)) (seen_at seen look (place_at last n)) x.new
          (still n x.number (ap is_some x.was)) (begun.2 n x.number) x.is)
      | inr same ↦ let it = node-of_disk layout stood.0 (in_hand seen look between) w n stood.2.world
          (ap (disk_at seen look n) (sym same) ∙ x.is) in
          told-less layout n stood.0 least x.new.told stood.1
          (world-room layout stood.0 (in_hand seen look between) w n it.0 x.new stood.2.world it.1 (ap (disk_at seen look n) (sym same) ∙ x.is))
    ])
  where
    x : IsAtPlace obeys seen look first last n d
    x = at-place obeys seen look types before after first last n d few begins given there
