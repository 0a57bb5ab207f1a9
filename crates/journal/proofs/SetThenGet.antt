-- A cell is created, set and read.
use Rattle.std.proofs.Common.{◌≡◌, List, [], ◌∷◌, None, Some, true, take, drop, refl, codes}
use Rattle.eden_value.specs.declared.status.Status.TheVariants as status
use Rattle.journal.specs.Argument.{plain as given}
use Rattle.journal.specs.declared.command.Command.{Command}
use Rattle.journal.specs.declared.command.Command.TheVariants as command
use Rattle.journal.specs.declared.event.Event.TheVariants as event
use Rattle.journal.specs.declared.event.Entry.{Entry}
use Rattle.journal.specs.declared.event.Shown.TheVariants as shown
use Rattle.journal.specs.declared.event.BootEnd.TheVariants as boot_end
use Rattle.eden_model.specs.Crew.{least_number}
use Rattle.journal.specs.World.{at_node, on_eject, on_node, on_traffic}
use Rattle.journal.specs.declared.event.Mode.TheVariants as mode
use Rattle.journal.specs.Lines.{text_of, entry_text, trace_text, shown_text}
use Rattle.journal.proofs.Blank.{FollowsOverBlank, follows-over-blank}
use Rattle.journal.proofs.Scenes.{plain, on_disk, c_uid, ref_c, int}
use Rattle.journal.proofs.Decimals.{d0, d1, d2, d5, d8}

unfoldable pub commands : List Command
commands = command.Create (codes "c") 1 (codes "Cell")
    ∷ command.Call (codes "a") ref_c (codes "Set") (given (int 5) ∷ [])
    ∷ command.Go 100
    ∷ command.Call (codes "b") ref_c (codes "Get") []
    ∷ command.Go 100
    ∷ command.End
    ∷ []

unfoldable pub history : List Entry
history = on_disk 1 11 (event.Boot 1 1 boot_end.Up None true)
    ∷ plain (event.Made (codes "c") status.Ok (Some c_uid))
    ∷ plain (event.Asked 1 (codes "a") None)
    ∷ plain (event.Request 1 0 1 None)
    ∷ plain (event.Start 1 c_uid 1)
    ∷ plain (event.Process c_uid 1 (shown.Return 1))
    ∷ plain (event.Reply 1 1 0 (Some (codes "a")) status.Ok [])
    ∷ plain event.Quiet
    ∷ plain (event.Asked 2 (codes "b") None)
    ∷ plain (event.Request 2 0 1 None)
    ∷ plain (event.Start 2 c_uid 1)
    ∷ plain (event.Process c_uid 1 (shown.Return 2))
    ∷ plain (event.Reply 2 1 0 (Some (codes "b")) status.Ok (int 5 ∷ []))
    ∷ plain event.Quiet
    ∷ plain (event.Left [])
    ∷ []

pub follows : FollowsOverBlank 1 commands history
unfolding commands history at_node on_eject on_node on_traffic least_number
follows = follows-over-blank 1 commands history refl

plain_text : text_of mode.Plain history ≡ codes "node 1 up epoch 1\nc is 1.1.1\na ok ()\nquiet\nb ok (5)\nquiet\n"
unfolding history entry_text trace_text shown_text
plain_text = rw (d1, d5) refl

traced_text : text_of mode.Trace (take 6 (drop 2 history))
    ≡ codes "+ call 1 a\n+ request 1 0 1\n+ start 1 1.1.1 1\n+ process 1.1.1 1 return 1\n+ reply 1 1 0\na ok ()\nquiet\n"
unfolding history entry_text trace_text shown_text
traced_text = rw (d0, d1) refl

summary_text : text_of mode.Summary history ≡ codes "calls 2 ok 2 refused 0 open 0 turns 8\n"
unfolding history entry_text trace_text shown_text
summary_text = rw (d0, d2, d8) refl
