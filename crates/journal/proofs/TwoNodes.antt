-- Two nodes: one crashes with an invocation queued, is reached again after a restart, and is cut off.
use Rattle.std.proofs.Common.{◌≡◌, List, [], ◌∷◌, None, Some, true, false, refl, codes}
use Rattle.eden_value.specs.declared.status.Status.TheVariants as status
use Rattle.eden_disk.specs.declared.disk.ImageMode.TheVariants.{Lose as lose}
use Rattle.journal.specs.Argument.{plain as given}
use Rattle.journal.specs.declared.command.Command.{Command}
use Rattle.journal.specs.declared.command.Command.TheVariants as command
use Rattle.journal.specs.declared.event.Event.TheVariants as event
use Rattle.journal.specs.declared.event.Entry.{Entry}
use Rattle.journal.specs.declared.event.Shown.TheVariants as shown
use Rattle.journal.specs.declared.event.BootEnd.TheVariants as boot_end
use Rattle.eden_model.specs.Crew.{least_number}
use Rattle.journal.specs.World.{at_node, on_eject, on_node, on_traffic}
use Rattle.journal.specs.declared.event.Mode.TheVariants as mode
use Rattle.journal.specs.Lines.{text_of, entry_text, trace_text, shown_text}
use Rattle.journal.proofs.Blank.{FollowsOverBlank, follows-over-blank}
use Rattle.journal.proofs.Scenes.{plain, on_disk, breaking, c_uid, ref_c, int}
use Rattle.journal.proofs.Decimals.{d0, d1, d2, d4, d5}

unfoldable pub commands : List Command
commands = command.Create (codes "c") 1 (codes "Cell")
    ∷ command.Create (codes "d") 2 (codes "Cell")
    ∷ command.Call (codes "a") (record { name = (codes "d"); result = 0 }) (codes "Set") (given (int 3) ∷ [])
    ∷ command.Turn 0
    ∷ command.Crash 2 lose
    ∷ command.Call (codes "b") ref_c (codes "Get") []
    ∷ command.Go 100
    ∷ command.Restart 2
    ∷ command.Call (codes "e") (record { name = (codes "d"); result = 0 }) (codes "Get") []
    ∷ command.Go 100
    ∷ command.Cut 0 2
    ∷ command.Call (codes "f") (record { name = (codes "d"); result = 0 }) (codes "Get") []
    ∷ command.End
    ∷ []

unfoldable pub history : List Entry
history = on_disk 1 11 (event.Boot 1 1 boot_end.Up None true)
    ∷ on_disk 2 11 (event.Boot 2 1 boot_end.Up None true)
    ∷ plain (event.Made (codes "c") status.Ok (Some c_uid))
    ∷ plain (event.Made (codes "d") status.Ok (Some (record { node = 2; epoch = 1; serial = 1 })))
    ∷ plain (event.Asked 1 (codes "a") None)
    ∷ plain (event.Request 1 0 2 None)
    ∷ breaking ((codes "a") ∷ []) (on_disk 2 11 (event.Crash 2))
    ∷ plain (event.Asked 2 (codes "b") None)
    ∷ plain (event.Request 2 0 1 None)
    ∷ plain (event.Start 2 c_uid 1)
    ∷ plain (event.Process c_uid 1 (shown.Return 2))
    ∷ plain (event.Reply 2 1 0 (Some (codes "b")) status.Ok (int 0 ∷ []))
    ∷ plain event.Quiet
    ∷ on_disk 2 20 (event.Boot 2 2 boot_end.Up None true)
    ∷ plain (event.Asked 3 (codes "e") None)
    ∷ plain (event.Request 3 0 2 (Some status.Gone))
    ∷ plain (event.Reply 3 2 0 (Some (codes "e")) status.Gone [])
    ∷ plain event.Quiet
    ∷ plain (event.Link 0 2 false)
    ∷ plain (event.Asked 4 (codes "f") (Some status.Unreachable))
    ∷ plain (event.Left [])
    ∷ []

pub follows : FollowsOverBlank 2 commands history
unfolding commands history at_node on_eject on_node on_traffic least_number
follows = follows-over-blank 2 commands history refl

plain_text : text_of mode.Plain history ≡ codes
    "node 1 up epoch 1\nnode 2 up epoch 1\nc is 1.1.1\nd is 2.1.1\nnode 2 down crash\na refused 6 broken\nb ok (0)\nquiet\nnode 2 up epoch 2\ne refused 4 gone\nquiet\nf refused 5 unreachable\n"
unfolding history entry_text trace_text shown_text
plain_text = rw (d0, d1, d2, d4, d5) refl
