-- A cell that was never saved is gone after a crash, and its uid is not given again.
use Rattle.std.proofs.Common.{◌≡◌, List, [], ◌∷◌, None, Some, true, refl, codes}
use Rattle.eden_value.specs.declared.status.Status.TheVariants as status
use Rattle.eden_disk.specs.declared.disk.ImageMode.TheVariants.{Lose as lose}
use Rattle.journal.specs.declared.command.Command.{Command}
use Rattle.journal.specs.declared.command.Command.TheVariants as command
use Rattle.journal.specs.declared.event.Event.TheVariants as event
use Rattle.journal.specs.declared.event.Entry.{Entry}
use Rattle.journal.specs.declared.event.BootEnd.TheVariants as boot_end
use Rattle.eden_model.specs.Crew.{least_number}
use Rattle.journal.specs.World.{at_node, on_eject, on_node, on_traffic}
use Rattle.journal.specs.declared.event.Mode.TheVariants as mode
use Rattle.journal.specs.Lines.{text_of, entry_text, trace_text, shown_text}
use Rattle.journal.proofs.Blank.{FollowsOverBlank, follows-over-blank}
use Rattle.journal.proofs.Scenes.{plain, on_disk, c_uid, ref_c}
use Rattle.journal.proofs.Decimals.{d1, d2, d4}

unfoldable pub commands : List Command
commands = command.Create (codes "c") 1 (codes "Cell")
    ∷ command.Crash 1 lose
    ∷ command.Restart 1
    ∷ command.Call (codes "a") ref_c (codes "Get") []
    ∷ command.Go 100
    ∷ command.Create (codes "d") 1 (codes "Cell")
    ∷ command.End
    ∷ []

unfoldable pub history : List Entry
history = on_disk 1 11 (event.Boot 1 1 boot_end.Up None true)
    ∷ plain (event.Made (codes "c") status.Ok (Some c_uid))
    ∷ on_disk 1 11 (event.Crash 1)
    ∷ on_disk 1 20 (event.Boot 1 2 boot_end.Up None true)
    ∷ plain (event.Asked 1 (codes "a") None)
    ∷ plain (event.Request 1 0 1 (Some status.Gone))
    ∷ plain (event.Reply 1 1 0 (Some (codes "a")) status.Gone [])
    ∷ plain event.Quiet
    ∷ plain (event.Made (codes "d") status.Ok (Some (record { node = 1; epoch = 2; serial = 1 })))
    ∷ plain (event.Left [])
    ∷ []

pub follows : FollowsOverBlank 1 commands history
unfolding commands history at_node on_eject on_node on_traffic least_number
follows = follows-over-blank 1 commands history refl

plain_text : text_of mode.Plain history ≡ codes
    "node 1 up epoch 1\nc is 1.1.1\nnode 1 down crash\nnode 1 up epoch 2\na refused 4 gone\nquiet\nd is 1.2.1\n"
unfolding history entry_text trace_text shown_text
plain_text = rw (d1, d2, d4) refl
