-- Too few rights, no operation, other arguments, and an Eject that never was.
use Rattle.std.proofs.Common.{◌≡◌, List, [], ◌∷◌, None, Some, true, false, refl, codes}
use Rattle.eden_value.specs.declared.status.Status.TheVariants as status
use Rattle.journal.specs.Argument.{plain as given}
use Rattle.eden_value.specs.Datum.{text}
use Rattle.journal.specs.declared.command.Command.{Command}
use Rattle.journal.specs.declared.command.Command.TheVariants as command
use Rattle.journal.specs.declared.event.Event.TheVariants as event
use Rattle.journal.specs.declared.event.Entry.{Entry}
use Rattle.journal.specs.declared.event.Shown.TheVariants as shown
use Rattle.journal.specs.declared.event.BootEnd.TheVariants as boot_end
use Rattle.eden_model.specs.Crew.{least_number}
use Rattle.journal.specs.World.{at_node, on_eject, on_node, on_traffic}
use Rattle.journal.specs.declared.event.Mode.TheVariants as mode
use Rattle.journal.specs.Lines.{text_of, entry_text, trace_text, shown_text}
use Rattle.journal.proofs.Blank.{FollowsOverBlank, follows-over-blank}
use Rattle.journal.proofs.Scenes.{plain, on_disk, c_uid, ref_c, int}
use Rattle.journal.proofs.Decimals.{d0, d1, d2, d3, d4}

unfoldable pub commands : List Command
commands = command.Create (codes "c") 1 (codes "Cell")
    ∷ command.Restrict (codes "r") ref_c (record { bits = 2 })
    ∷ command.Call (codes "a") (record { name = (codes "r"); result = 0 }) (codes "Set") (given (int 1) ∷ [])
    ∷ command.Go 100
    ∷ command.Call (codes "b") (record { name = (codes "r"); result = 0 }) (codes "Get") []
    ∷ command.Go 100
    ∷ command.Call (codes "d") (record { name = (codes "c"); result = 0 }) (codes "Foo") []
    ∷ command.Go 100
    ∷ command.Call (codes "e") (record { name = (codes "c"); result = 0 }) (codes "Set") (given (text (codes "x")) ∷ [])
    ∷ command.Go 100
    ∷ command.Hold (codes "h") (record { node = 1; epoch = 1; serial = 9 })
    ∷ command.Call (codes "f") (record { name = (codes "h"); result = 0 }) (codes "Get") []
    ∷ command.Go 100
    ∷ command.End
    ∷ []

unfoldable pub history : List Entry
history = on_disk 1 11 (event.Boot 1 1 boot_end.Up None true)
    ∷ plain (event.Made (codes "c") status.Ok (Some c_uid))
    ∷ plain (event.Bound (codes "r") false)
    ∷ plain (event.Asked 1 (codes "a") None)
    ∷ plain (event.Request 1 0 1 (Some status.NoRight))
    ∷ plain (event.Reply 1 1 0 (Some (codes "a")) status.NoRight [])
    ∷ plain event.Quiet
    ∷ plain (event.Asked 2 (codes "b") None)
    ∷ plain (event.Request 2 0 1 None)
    ∷ plain (event.Start 2 c_uid 1)
    ∷ plain (event.Process c_uid 1 (shown.Return 2))
    ∷ plain (event.Reply 2 1 0 (Some (codes "b")) status.Ok (int 0 ∷ []))
    ∷ plain event.Quiet
    ∷ plain (event.Asked 3 (codes "d") None)
    ∷ plain (event.Request 3 0 1 (Some status.NoOperation))
    ∷ plain (event.Reply 3 1 0 (Some (codes "d")) status.NoOperation [])
    ∷ plain event.Quiet
    ∷ plain (event.Asked 4 (codes "e") None)
    ∷ plain (event.Request 4 0 1 (Some status.BadArguments))
    ∷ plain (event.Reply 4 1 0 (Some (codes "e")) status.BadArguments [])
    ∷ plain event.Quiet
    ∷ plain (event.Bound (codes "h") true)
    ∷ plain (event.Asked 5 (codes "f") None)
    ∷ plain (event.Request 5 0 1 (Some status.Gone))
    ∷ plain (event.Reply 5 1 0 (Some (codes "f")) status.Gone [])
    ∷ plain event.Quiet
    ∷ plain (event.Left [])
    ∷ []

pub follows : FollowsOverBlank 1 commands history
unfolding commands history at_node on_eject on_node on_traffic least_number
follows = follows-over-blank 1 commands history refl

plain_text : text_of mode.Plain history ≡ codes
    "node 1 up epoch 1\nc is 1.1.1\na refused 1 no right\nquiet\nb ok (0)\nquiet\nd refused 2 no operation\nquiet\ne refused 3 bad arguments\nquiet\nf refused 4 gone\nquiet\n"
unfolding history entry_text trace_text shown_text
plain_text = rw (d0, d1, d2, d3, d4) refl
