-- The disks of a run are seen as they were handed in, so the program that began over them is opened.
use Rattle.std.proofs.Common.{◌≡◌, ◌≤◌, Bool, List, [], ◌∷◌, length, map, Option, None, Some, refl, sym, ap, subst}
use Rattle.std.proofs.Common.{arith}
use Rattle.std.specs.Prelude.{IfSome, slice_get}
use Rattle.std.specs.Option.{option_map}
use Rattle.eden_disk.specs.Told.{contents}
use Rattle.passive_store.specs.Kept.{Layout}
use Rattle.passive_store.specs.Layout.{IsLayout}
use Rattle.passive_store.specs.Seen.{DiskSeen}
use Rattle.journal.specs.LegalRun.{AreHandedIn, EachDisk}
use Rattle.journal.specs.Standing.{DiskRun}
use Rattle.checkpoint.specs.Touches.{ReadsByCalls}
use Rattle.eden_world.specs.Legal.{AreSized, IsSized, disk_runs}
use Rattle.eden_world.specs.Opened.{IsOpened}
use Rattle.eden_world.specs.Openings.{first_seen}
use Rattle.eden_world.proofs.DiskPairs.{paired, runs-length}

as-seen : {D : Type 0} (obeys : Bool) (look : D → DiskSeen) (before after : List D) → length after ≡ length before
    → map look before ≡ map first_seen (disk_runs obeys look before after)
as-seen obeys look [] after same = refl
as-seen obeys look (b ∷ before) [] same = absurd (omega (arith, same))
as-seen obeys look (b ∷ before) (a ∷ after) same =
    let more : length after ≡ length before = omega (arith, same) in ap (λ ds. look b ∷ ds) (as-seen obeys look before after more)

sized-at : {D : Type 0} (look : D → DiskSeen) (o : Option D) (d : DiskSeen) → IfSome o (λ x. IsSized (look x))
    → option_map look o ≡ Some d → IsSized d
sized-at look None d sized is = absurd (cc is)
sized-at look (Some x) d sized is = let same : look x ≡ d = cc is in subst IsSized same sized

each-sized : {D : Type 0} (obeys : Bool) (look : D → DiskSeen) (before after : List D) → AreSized look before
    → EachDisk (disk_runs obeys look before after) (λ n d. length (contents d.before).now ≡ d.first.size)
each-sized obeys look before after sized n d there =
    let r = paired obeys look before after 1 n d there in
    subst (λ (z : DiskRun). length (contents z.before).now ≡ z.first.size) (sym r.run)
    (sized-at look (slice_get before r.index) r.old (sized r.index) r.was)

pub opened-runs : {D : Type 0} (obeys : Bool) (layout : Layout) (look : D → DiskSeen) (before after : List D) → IsLayout layout
    → ReadsByCalls layout → AreHandedIn layout (disk_runs obeys look before after) → 1 ≤ length before → length before ≤ 8
    → length after ≡ length before → AreSized look before → IsOpened layout look before (disk_runs obeys look before after)
opened-runs obeys layout look before after lays reads handed some few given sized = record {
  its_layout = lays;
  reads = reads;
  handed_in = handed;
  some = subst (λ m. 1 ≤ m) (sym (runs-length obeys look before after given)) some;
  few = subst (λ m. m ≤ 8) (sym (runs-length obeys look before after given)) few;
  seen = as-seen obeys look before after given;
  sized = each-sized obeys look before after sized;
}
