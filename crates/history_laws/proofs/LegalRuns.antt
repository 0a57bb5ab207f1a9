-- A run is legal once its history follows and its disks stand: the rest are laws.
use Rattle.std.proofs.Common.{◌≡◌, ℕ, ◌≤◌, true, List, [], Some, Ok, is_some}
use Rattle.capability.specs.declared.Uid.{Uid}
use Rattle.eden_model.specs.Map.{uid_cmp, value_at}
use Rattle.eden_disk.specs.Told.{contents, Left}
use Rattle.passive_store.specs.Kept.{Layout}
use Rattle.passive_store.specs.Layout.{IsLayout}
use Rattle.journal.specs.declared.command.Script.{Script}
use Rattle.journal.specs.declared.event.Entry.{Entry}
use Rattle.journal.specs.Ejects.{epoch_or_zero}
use Rattle.journal.specs.Opening.{epoch_in, found_in}
use Rattle.journal.specs.Sites.{AllThere}
use Rattle.journal.specs.World.{World, Node, node_at}
use Rattle.journal.specs.Standing.{DiskRun, Added, StandsThroughout, nothing_added, unfinished}
use Rattle.journal.specs.LegalRun.{IsSafeRun, numbered, AreHandedIn, opening_world, last_world, run_of}
use Rattle.journal.specs.Laws.{Begins, WriteNone, EachDiskStands, RunsAreLegal, RunsAreLegalSoFar}
use Rattle.history_laws.proofs.AtTheEnd.{left-stands-with}
use Rattle.history_laws.proofs.EpochBounds.{epochs-are-bounded}
use Rattle.history_laws.proofs.LeftFit.{AllWithin, added-within, epochs-left}
use Rattle.history_laws.proofs.SiteRuns.{KnownWorld, worlds-are-known}
use Rattle.history_laws.proofs.Uids.{CreatedIn, Fit, OfNode}
use Rattle.history_laws.proofs.SafeRuns.{each-none-rolled-back}
use Rattle.history_laws.proofs.StartsWholeLaw.{starts-are-whole}
use Rattle.history_laws.proofs.NoUidTwice.{no-uid-twice}
use Rattle.history_laws.proofs.GrantedRuns.{only-granted}

is-safe : (layout : Layout) (script : Script) (disks : List DiskRun) (history : List Entry) (added : Added) → IsLayout layout
    → AreHandedIn layout disks → WriteNone script.commands → Begins layout script disks history
    → EachDiskStands layout (last_world (opening_world layout script disks) script history)
    (run_of (opening_world layout script disks) script history) added disks
    → IsSafeRun layout (opening_world layout script disks) (last_world (opening_world layout script disks) script history)
    (run_of (opening_world layout script disks) script history) added (numbered disks)
is-safe layout script disks history added lays fits none begins stands = record {
  starts_are_whole = starts-are-whole layout script disks history begins;
  none_rolled_back = each-none-rolled-back (opening_world layout script disks) script.nodes script.commands history begins;
  only_granted = only-granted layout script disks history none begins;
  no_uid_twice = no-uid-twice layout script disks history lays fits begins;
  each_disk_stands = stands;
}

-- nothing past the kept epoch is left, with what is added under way at the end
left-epochs : (layout : Layout) (script : Script) (disks : List DiskRun) (history : List Entry) (added : Added) (n : ℕ) (d : DiskRun)
    → IsLayout layout → AreHandedIn layout disks → Begins layout script disks history
    → StandsThroughout layout (last_world (opening_world layout script disks) script history)
    (run_of (opening_world layout script disks) script history) added n d
    → ((it : Node) → node_at (last_world (opening_world layout script disks) script history) n ≡ Some it → Fit (OfNode (CreatedIn []) n) it
    → AllThere it.requests it.ejects → AllWithin n (epoch_or_zero it.epoch) (added n d.last.clock))
    → (image : List ℕ) → Left (contents d.after) image
    → (kept : List (Uid × List ℕ)) → found_in layout n image ≡ Ok kept → (u : Uid) → is_some (value_at uid_cmp u kept) ≡ true
    → u.epoch ≤ epoch_or_zero (epoch_in n kept)
left-epochs layout script disks history added n d lays fits begins stands within image left =
    epochs-left (OfNode (CreatedIn []) n) layout n last (added n d.last.clock) image
    (λ it at. let fit = known.fit n it at in
    (fit, epochs-are-bounded layout script disks history lays fits begins n it at, within it at fit (known.sound.nodes n it at).there))
    (left-stands-with layout last (run_of (opening_world layout script disks) script history) added n d stands image left)
  where
    last : World
    last = last_world (opening_world layout script disks) script history

    known : KnownWorld (λ m. is_some (node_at (opening_world layout script disks) m)) last
    known = worlds-are-known layout script disks history lays fits begins

pub runs-are-legal : RunsAreLegal
runs-are-legal layout script disks history lays fits none follows stands ends faults commands counted armed room = record {
  follows = follows;
  safe = is-safe layout script disks history nothing_added lays fits none follows.leads stands;
  ends = ends;
  faults = faults;
  commands = commands;
  counted = counted;
  armed = armed;
  fit = λ more told n d there image left. record {
    epochs = left-epochs layout script disks history nothing_added n d lays fits follows.leads (stands n d there)
        (λ it at fit all. tt) image left;
    room_is_told = room more told n d there image left;
  };
}

pub runs-are-legal-so-far : RunsAreLegalSoFar
runs-are-legal-so-far layout script disks history lays fits none begins stands faults commands counted armed room = record {
  begins = begins;
  safe = is-safe layout script disks history (unfinished last) lays fits none begins stands;
  faults = faults;
  commands = commands;
  counted = counted;
  armed = armed;
  fit = λ more told n d there image left. record {
    epochs = left-epochs layout script disks history (unfinished last) n d lays fits begins (stands n d there)
        (added-within (OfNode (CreatedIn []) n) n d.last.clock last) image left;
    room_is_told = room more told n d there image left;
  };
}
  where
    last : World
    last = last_world (opening_world layout script disks) script history
