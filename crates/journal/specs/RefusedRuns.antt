-- Runs that are not legal: for each thing that a program could say wrong of its disks, a history that says it.
use Rattle.std.specs.Prelude.{◌≡◌, ℕ, ◌≤◌, ◌<◌, List, [], ◌∷◌, replicate, true, false, None, Some, codes, pos}
use Rattle.capability.specs.declared.Uid.{Uid}
use Rattle.eden_value.specs.declared.status.Status.TheVariants as status
use Rattle.eden_value.specs.Datum.{Datum, number}
use Rattle.eden_disk.specs.declared.disk.ImageMode.TheVariants.{Lose as lose}
use Rattle.eden_disk.specs.Told.{Told}
use Rattle.passive_store.specs.Kept.{Layout}
use Rattle.passive_store.specs.LogLayout.{log_layout}
use Rattle.epl_syntax.specs.Rules.OfTypes.{TypeList, native_only}
use Rattle.journal.specs.Argument.{plain as given}
use Rattle.journal.specs.declared.command.Command.{Command}
use Rattle.journal.specs.declared.command.Command.TheVariants as command
use Rattle.journal.specs.declared.command.Script.{Script}
use Rattle.journal.specs.declared.command.Ref.{Ref}
use Rattle.journal.specs.declared.event.Event.{Event}
use Rattle.journal.specs.declared.event.Event.TheVariants as event
use Rattle.journal.specs.declared.event.Entry.{Entry}
use Rattle.journal.specs.declared.event.BootEnd.TheVariants as boot_end
use Rattle.journal.specs.declared.event.StartEnd.TheVariants as start_end
use Rattle.journal.specs.declared.event.RequestEnd.TheVariants as request_end
use Rattle.journal.specs.declared.event.Shown.TheVariants as shown
use Rattle.journal.specs.Standing.{DiskRun}
use Rattle.journal.specs.Faults.{IsObedient}
use Rattle.journal.specs.LegalRun.{IsHandedIn, IsLegalRun}

-- 1. Words for them

-- an entry that touches no disk
abbrev pub plain : Event → Entry
plain e = record { event = e; node = 0; clock = 0; broken = [] }

-- an entry on the disk of this node, at this clock
abbrev pub on_disk : ℕ → ℕ → Event → Entry
on_disk n c e = record { event = e; node = n; clock = c; broken = [] }

-- 1.1.1, the uid of the first Eject that node 1 creates in its first epoch
abbrev pub c_uid : Uid
c_uid = record { node = 1; epoch = 1; serial = 1 }

-- the name c as a reference: what it stands for alone
abbrev pub ref_c : Ref
ref_c = record { name = codes "c"; result = 0 }

-- a natural number as a value
abbrev pub int : ℕ → Datum
int n = number (pos n)

-- a script of so many nodes with these types and these commands
abbrev pub script_with : TypeList → ℕ → List Command → Script
script_with types n cs = record { types = types; nodes = n; commands = cs }

-- a script of so many nodes with these commands, whose types are the native ones alone
abbrev pub script_of : ℕ → List Command → Script
script_of n cs = script_with native_only n cs

-- the bytes of a blank disk of this size
abbrev pub zeros : ℕ → List ℕ
zeros size = replicate size 0

-- a disk of so many zeros, on which nothing was ever written
abbrev pub blank_told : ℕ → Told
blank_told size = record { image = zeros size; acts = [] }

-- 2. A save is acknowledged, a crash loses what is unsynced, and the value is found; but the disk was never written.

-- a Cell is set to 5 and saves; behind a crash, which loses what is unsynced, and a restart its value is asked for
unfoldable pub saving : List Command
saving = command.Create (codes "c") 1 (codes "Cell")
    ∷ command.Call (codes "a") ref_c (codes "Set") (given (int 5) ∷ [])
    ∷ command.Go 100
    ∷ command.Call (codes "b") ref_c (codes "Save") []
    ∷ command.Go 100
    ∷ command.Crash 1 lose
    ∷ command.Restart 1
    ∷ command.Call (codes "e") ref_c (codes "Get") []
    ∷ command.Go 100
    ∷ command.End
    ∷ []

-- a history of `saving` in which the save is acknowledged, and the value 5 is found behind the crash
unfoldable pub saved : List Entry
saved = on_disk 1 11 (event.Boot 1 1 boot_end.Up None true)
    ∷ plain (event.Made (codes "c") status.Ok (Some c_uid))
    ∷ plain (event.Asked 1 (codes "a") None)
    ∷ plain (event.Request 1 0 1 None)
    ∷ plain (event.Start 1 c_uid 1)
    ∷ plain (event.Process c_uid 1 (shown.Return 1))
    ∷ plain (event.Reply 1 1 0 (Some (codes "a")) status.Ok [])
    ∷ plain event.Quiet
    ∷ plain (event.Asked 2 (codes "b") None)
    ∷ plain (event.Request 2 0 1 None)
    ∷ plain (event.Start 2 c_uid 1)
    ∷ plain (event.Process c_uid 1 shown.Checkpoint)
    ∷ on_disk 1 12 (event.Store c_uid 12 request_end.Part None)
    ∷ on_disk 1 13 (event.Store c_uid 13 request_end.Part None)
    ∷ on_disk 1 14 (event.Store c_uid 14 request_end.Part None)
    ∷ on_disk 1 15 (event.Store c_uid 15 request_end.Done None)
    ∷ plain (event.Process c_uid 1 (shown.Return 2))
    ∷ plain (event.Reply 2 1 0 (Some (codes "b")) status.Ok (int 0 ∷ []))
    ∷ plain event.Quiet
    ∷ on_disk 1 15 (event.Crash 1)
    ∷ on_disk 1 25 (event.Boot 1 2 boot_end.Up None true)
    ∷ plain (event.Asked 3 (codes "e") None)
    ∷ plain (event.Request 3 0 1 None)
    ∷ on_disk 1 26 (event.Activate c_uid start_end.Ok None)
    ∷ plain (event.Start 3 c_uid 1)
    ∷ plain (event.Process c_uid 1 (shown.Return 3))
    ∷ plain (event.Reply 3 1 0 (Some (codes "e")) status.Ok (int 5 ∷ []))
    ∷ plain event.Quiet
    ∷ plain (event.Left [])
    ∷ []

-- over a blank disk of 1,048,576 bytes that is given back blank, with a log as its layout, `saved` is no legal history
abbrev pub UnwrittenDiskIsRefused : Type 0
UnwrittenDiskIsRefused = (d : DiskRun) → d.before ≡ blank_told 1048576 → d.after ≡ blank_told 1048576
    → IsLegalRun log_layout (script_of 1 saving) (d ∷ []) saved → ⊥

-- 3. Two disks are given back in each other's place.

-- blank disks of 65,536 and of 1,048,576 bytes, each given back as the other was handed in, have no legal history
abbrev pub ExchangedDisksAreRefused : Type 0
ExchangedDisksAreRefused =
    (layout : Layout) (script : Script) (history : List Entry) (d e : DiskRun) → d.before ≡ blank_told 65536 → e.before ≡ blank_told 1048576
    → d.after ≡ e.before → e.after ≡ d.before → IsLegalRun layout script (d ∷ e ∷ []) history → ⊥

-- 4. Each boot fails, on a disk that counted no fault.

-- the boot of node 1 ends in a disk fault at the clock 1, with no epoch begun
abbrev pub failed_boot : Entry
failed_boot = on_disk 1 1 (event.Boot 1 0 boot_end.DiskFault None false)

-- a history of `saving` in which node 1 does not come up in either of its boots, so that each call is void
unfoldable pub faults : List Entry
faults = failed_boot
    ∷ plain (event.Made (codes "c") status.Unreachable None)
    ∷ plain (event.Void (codes "a"))
    ∷ plain event.Quiet
    ∷ plain (event.Void (codes "b"))
    ∷ plain event.Quiet
    ∷ plain (event.Still 1 false)
    ∷ failed_boot
    ∷ plain (event.Void (codes "e"))
    ∷ plain event.Quiet
    ∷ plain (event.Left [])
    ∷ []

-- over a disk whose count of faults is 0 as it is handed in and as it is given back, `faults` is no legal history
abbrev pub InventedFaultsAreRefused : Type 0
InventedFaultsAreRefused =
    (layout : Layout) (d : DiskRun) → d.first.faults ≡ 0 → d.last.faults ≡ 0 → IsLegalRun layout (script_of 1 saving) (d ∷ []) faults → ⊥

-- 5. A disk that does what is asked of it stops in its first boot, and nothing asked for that.

-- a history of `end` alone in which the boot of node 1 ends in a stop at the clock 1
abbrev pub stopped : List Entry
stopped = on_disk 1 1 (event.Boot 1 0 boot_end.Stop None false) ∷ plain (event.Left []) ∷ []

-- over an obedient disk `stopped` is no legal history of `end` alone, which arms no stop
abbrev pub UnaskedStopIsRefused : Type 0
UnaskedStopIsRefused =
    (layout : Layout) (d : DiskRun) → IsObedient d → IsLegalRun layout (script_of 1 (command.End ∷ [])) (d ∷ []) stopped → ⊥

-- 6. A boot shows a clock that its disk has not reached.

-- a history of `end` alone in which node 1 comes up with the epoch 1 at the clock 11
abbrev pub booted : List Entry
booted = on_disk 1 11 (event.Boot 1 1 boot_end.Up None true) ∷ plain (event.Left []) ∷ []

-- over a disk that is given back with a clock below 11, `booted` is no legal history
abbrev pub OtherClockIsRefused : Type 0
OtherClockIsRefused =
    (layout : Layout) (d : DiskRun) → d.last.clock < 11 → IsLegalRun layout (script_of 1 (command.End ∷ [])) (d ∷ []) booted → ⊥

-- 7. None of them is refused for the disks that were handed in: a disk of zeros, on which nothing was ever written, is handed in
-- as it has to be, wherever the layout of a log allows its size.

-- a blank disk of 17 bytes or more is handed in as it has to be, for any node, with a log as its layout
abbrev pub BlankLogsMayBeHandedIn : Type 0
BlankLogsMayBeHandedIn = (n size : ℕ) (d : DiskRun) → 17 ≤ size → d.before ≡ blank_told size → IsHandedIn log_layout n d
