-- A walk in an empty directory finds the absent capability, and a call by it is void.
use Rattle.std.proofs.Common.{◌≡◌, List, [], ◌∷◌, None, take, refl, codes}
use Rattle.std.specs.Fmt.{digits}
use Rattle.capability.specs.declared.Uid.{Uid}
use Rattle.eden_value.specs.Datum.{cap}
use Rattle.eden_value.specs.declared.status.Status.TheVariants as status
use Rattle.eden_model.specs.Traffic.{answered}
use Rattle.eden_model.specs.Crew.{least_number}
use Rattle.journal.specs.declared.command.Command.{Command}
use Rattle.journal.specs.declared.command.Command.TheVariants as command
use Rattle.journal.specs.declared.event.Event.TheVariants as event
use Rattle.journal.specs.declared.event.Entry.{Entry}
use Rattle.journal.specs.declared.event.Shown.TheVariants as shown
use Rattle.journal.specs.World.{World, at_node, on_eject, on_node, on_traffic}
use Rattle.journal.specs.declared.event.Mode.TheVariants as mode
use Rattle.journal.specs.Lines.{text_of, entry_text, trace_text, shown_text}
use Rattle.journal.proofs.Blank.{FollowsOverBlank, follows-over-blank}
use Rattle.journal.proofs.Scenes.{plain, int, blank_world, eject, result_of, ref, boots, made, asks, comes, starts, turn, answers, left}
use Rattle.journal.proofs.Scenes.{printed}
use Rattle.journal.proofs.Wrong.{NotFollowed, not-followed}

abbrev d : Uid
d = eject 1 1

unfoldable pub commands : List Command
commands = command.Create (codes "d") 1 (codes "Directory")
    ∷ command.Walk (codes "w") (ref (codes "d")) (codes "a")
    ∷ command.Call (codes "b") (result_of (codes "w") 2) (codes "Get") []
    ∷ command.End
    ∷ []

unfoldable pub history : List Entry
history = boots 1 1 11
    ∷ made (codes "d") d
    ∷ asks 1 (codes "w")
    ∷ comes 1 0 1
    ∷ starts 1 d 1
    ∷ turn d 1 (shown.Return 1)
    ∷ answers 1 1 (codes "w") status.Ok (int 1 ∷ cap None ∷ [])
    ∷ plain (event.Void (codes "b"))
    ∷ left []
    ∷ []

abbrev opening : World
opening = blank_world 1

pub follows : FollowsOverBlank 1 commands history
unfolding commands history at_node on_eject on_node on_traffic least_number
follows = follows-over-blank 1 commands history refl

plain_text : text_of mode.Plain history ≡ printed
    (codes "node 1 up epoch 1" ∷ codes "d is 1.1.1" ∷ codes "w ok (1, <none>)" ∷ codes "b void" ∷ [])
unfolding history entry_text trace_text shown_text digits
plain_text = refl

-- it finds what is not there
one-zero : answered status.Ok (int 1 ∷ cap None ∷ []) ≡ answered status.Ok (int 0 ∷ cap None ∷ []) → ⊥
one-zero e = absurd (cc)

another_code : NotFollowed opening 1 commands (take 6 history) (answers 1 1 (codes "w") status.Ok (int 0 ∷ cap None ∷ []))
unfolding commands history at_node on_eject on_node on_traffic least_number
another_code = not-followed opening 1 commands (take 6 history) (answers 1 1 (codes "w") status.Ok (int 0 ∷ cap None ∷ []))
    (λ d. one-zero d.allowed.event.delivered.0)
