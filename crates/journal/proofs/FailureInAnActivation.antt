-- A fault in an activation; the next one succeeds.
use Rattle.std.proofs.Common.{◌≡◌, List, [], ◌∷◌, None, Some, true, refl, codes}
use Rattle.eden_value.specs.declared.status.Status.TheVariants as status
use Rattle.eden_disk.specs.declared.disk.Arm.TheVariants as arm
use Rattle.eden_disk.specs.declared.disk.ImageMode.TheVariants.{Lose as lose}
use Rattle.journal.specs.Argument.{plain as given}
use Rattle.journal.specs.declared.command.Command.{Command}
use Rattle.journal.specs.declared.command.Command.TheVariants as command
use Rattle.journal.specs.declared.event.Event.TheVariants as event
use Rattle.journal.specs.declared.event.Entry.{Entry}
use Rattle.journal.specs.declared.event.Shown.TheVariants as shown
use Rattle.journal.specs.declared.event.BootEnd.TheVariants as boot_end
use Rattle.journal.specs.declared.event.StartEnd.TheVariants as start_end
use Rattle.journal.specs.declared.event.RequestEnd.TheVariants as request_end
use Rattle.eden_model.specs.Crew.{least_number}
use Rattle.journal.specs.World.{at_node, on_eject, on_node, on_traffic}
use Rattle.journal.specs.declared.event.Mode.TheVariants as mode
use Rattle.journal.specs.Lines.{text_of, entry_text, trace_text, shown_text}
use Rattle.journal.proofs.Blank.{FollowsOverBlank, follows-over-blank}
use Rattle.journal.proofs.Scenes.{plain, on_disk, c_uid, ref_c, int}
use Rattle.journal.proofs.Decimals.{d0, d1, d2, d5, d7}

unfoldable pub commands : List Command
commands = command.Create (codes "c") 1 (codes "Cell")
    ∷ command.Call (codes "a") ref_c (codes "Set") (given (int 5) ∷ [])
    ∷ command.Go 100
    ∷ command.Call (codes "b") ref_c (codes "Save") []
    ∷ command.Go 100
    ∷ command.Call (codes "d") ref_c (codes "Set") (given (int 9) ∷ [])
    ∷ command.Go 100
    ∷ command.Crash 1 lose
    ∷ command.Restart 1
    ∷ command.Fail 1 1
    ∷ command.Call (codes "e") ref_c (codes "Get") []
    ∷ command.Go 100
    ∷ command.Call (codes "f") ref_c (codes "Get") []
    ∷ command.Go 100
    ∷ command.End
    ∷ []

unfoldable pub history : List Entry
history = on_disk 1 11 (event.Boot 1 1 boot_end.Up None true)
    ∷ plain (event.Made (codes "c") status.Ok (Some c_uid))
    ∷ plain (event.Asked 1 (codes "a") None)
    ∷ plain (event.Request 1 0 1 None)
    ∷ plain (event.Start 1 c_uid 1)
    ∷ plain (event.Process c_uid 1 (shown.Return 1))
    ∷ plain (event.Reply 1 1 0 (Some (codes "a")) status.Ok [])
    ∷ plain event.Quiet
    ∷ plain (event.Asked 2 (codes "b") None)
    ∷ plain (event.Request 2 0 1 None)
    ∷ plain (event.Start 2 c_uid 1)
    ∷ plain (event.Process c_uid 1 shown.Checkpoint)
    ∷ on_disk 1 12 (event.Store c_uid 12 request_end.Part None)
    ∷ on_disk 1 13 (event.Store c_uid 13 request_end.Part None)
    ∷ on_disk 1 14 (event.Store c_uid 14 request_end.Part None)
    ∷ on_disk 1 15 (event.Store c_uid 15 request_end.Done None)
    ∷ plain (event.Process c_uid 1 (shown.Return 2))
    ∷ plain (event.Reply 2 1 0 (Some (codes "b")) status.Ok (int 0 ∷ []))
    ∷ plain event.Quiet
    ∷ plain (event.Asked 3 (codes "d") None)
    ∷ plain (event.Request 3 0 1 None)
    ∷ plain (event.Start 3 c_uid 1)
    ∷ plain (event.Process c_uid 1 (shown.Return 3))
    ∷ plain (event.Reply 3 1 0 (Some (codes "d")) status.Ok [])
    ∷ plain event.Quiet
    ∷ on_disk 1 15 (event.Crash 1)
    ∷ on_disk 1 25 (event.Boot 1 2 boot_end.Up None true)
    ∷ on_disk 1 25 (event.Armed 1 (arm.Fail 1))
    ∷ plain (event.Asked 4 (codes "e") None)
    ∷ plain (event.Request 4 0 1 None)
    ∷ on_disk 1 26 (event.Activate c_uid start_end.Fault None)
    ∷ plain (event.Reply 4 1 0 (Some (codes "e")) status.StoreFault [])
    ∷ plain event.Quiet
    ∷ plain (event.Asked 5 (codes "f") None)
    ∷ plain (event.Request 5 0 1 None)
    ∷ on_disk 1 27 (event.Activate c_uid start_end.Ok None)
    ∷ plain (event.Start 5 c_uid 1)
    ∷ plain (event.Process c_uid 1 (shown.Return 5))
    ∷ plain (event.Reply 5 1 0 (Some (codes "f")) status.Ok (int 5 ∷ []))
    ∷ plain event.Quiet
    ∷ plain (event.Left [])
    ∷ []

pub follows : FollowsOverBlank 1 commands history
unfolding commands history at_node on_eject on_node on_traffic least_number
follows = follows-over-blank 1 commands history refl

plain_text : text_of mode.Plain history ≡ codes
    "node 1 up epoch 1\nc is 1.1.1\na ok ()\nquiet\nb ok (0)\nquiet\nd ok ()\nquiet\nnode 1 down crash\nnode 1 up epoch 2\ne refused 7 store fault\nquiet\nf ok (5)\nquiet\n"
unfolding history entry_text trace_text shown_text
plain_text = rw (d0, d1, d2, d5, d7) refl
