-- In every world that a history reaches, the uid of each Eject of a node names that node, an epoch from 1 on and a serial from 1 on.
use Rattle.std.proofs.Common.{◌≡◌, true, List, is_some}
use Rattle.capability.specs.declared.Uid.{Uid}
use Rattle.eden_model.specs.Map.{uid_cmp, value_at}
use Rattle.passive_store.specs.Kept.{Layout, IsEject}
use Rattle.passive_store.specs.Layout.{IsLayout}
use Rattle.journal.specs.declared.command.Script.{Script}
use Rattle.journal.specs.declared.event.Entry.{Entry}
use Rattle.journal.specs.World.{node_at}
use Rattle.journal.specs.Ejects.{epoch_or_zero}
use Rattle.journal.specs.Standing.{DiskRun}
use Rattle.journal.specs.LegalRun.{AreHandedIn, opening_world, last_world}
use Rattle.journal.specs.Laws.{Begins}
use Rattle.journal.specs.Sites.{Everywhere}
use Rattle.history_laws.proofs.Uids.{IsBehind}
use Rattle.history_laws.proofs.SiteRuns.{KnownWorld, worlds-are-known}

pub own-uids : (layout : Layout) (script : Script) (disks : List DiskRun) (history : List Entry) → IsLayout layout
    → AreHandedIn layout disks → Begins layout script disks history
    → Everywhere (λ n it. (u : Uid) → is_some (value_at uid_cmp u it.ejects) ≡ true → IsEject n u)
    (last_world (opening_world layout script disks) script history)
own-uids layout script disks history lays fits begins n it at u there =
    let known : KnownWorld (λ m. is_some (node_at (opening_world layout script disks) m))
    (last_world (opening_world layout script disks) script history) =
    worlds-are-known layout script disks history lays fits begins in
    let behind : IsBehind u (epoch_or_zero it.epoch) it.last_serial = (known.fit n it at).behind u there in
    ((known.sound.nodes n it at).of_node u there, behind.epoch_counts, behind.serial_counts)
