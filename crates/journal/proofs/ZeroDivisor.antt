-- A process divides by zero: its Eject, of which nothing is kept, is gone.
use Rattle.std.proofs.Common.{◌≡◌, List, [], ◌∷◌, Some, take, refl, codes}
use Rattle.std.specs.Fmt.{digits}
use Rattle.capability.specs.declared.Uid.{Uid}
use Rattle.eden_value.specs.declared.status.Status.TheVariants as status
use Rattle.eden_model.specs.Crew.{least_number}
use Rattle.epl_syntax.specs.Edentype.{Edentype}
use Rattle.epl_syntax.specs.declared.effect.FaultCause.TheVariants as cause
use Rattle.epl_syntax.specs.Turns.{run}
use Rattle.journal.specs.Argument.{plain as given}
use Rattle.journal.specs.declared.command.Command.{Command}
use Rattle.journal.specs.declared.command.Command.TheVariants as command
use Rattle.journal.specs.declared.event.Event.TheVariants as event
use Rattle.journal.specs.declared.event.Entry.{Entry}
use Rattle.journal.specs.declared.event.Shown.TheVariants as shown
use Rattle.journal.specs.World.{World, at_node, on_eject, on_node, on_traffic}
use Rattle.journal.specs.declared.event.Mode.TheVariants as mode
use Rattle.journal.specs.Lines.{text_of, entry_text, trace_text, shown_text}
use Rattle.journal.proofs.Blank.{FollowsOverBlankOf, follows-over-blank-of}
use Rattle.journal.proofs.Scenes.{plain, int, with_trees, blank_world_of, eject, ref, boots, made, asks, comes, starts, turn, answers}
use Rattle.journal.proofs.Scenes.{quiet, left, printed}
use Rattle.journal.proofs.TypeTexts.{half}
use Rattle.journal.proofs.Wrong.{NotFollowed, not-followed, none-some}

abbrev types : List Edentype
types = with_trees (half ∷ [])

abbrev x : Uid
x = eject 1 1

unfoldable pub commands : List Command
commands = command.Create (codes "x") 1 (codes "Half")
    ∷ command.Call (codes "a") (ref (codes "x")) (codes "Part") (given (int 0) ∷ [])
    ∷ command.Go 100
    ∷ command.Call (codes "b") (ref (codes "x")) (codes "Part") (given (int 2) ∷ [])
    ∷ command.Go 100
    ∷ command.End
    ∷ []

unfoldable pub history : List Entry
history = boots 1 1 11
    ∷ made (codes "x") x
    ∷ asks 1 (codes "a")
    ∷ comes 1 0 1
    ∷ starts 1 x 1
    ∷ turn x 1 (shown.Fault cause.ZeroDivisor)
    ∷ answers 1 1 (codes "a") status.Dropped []
    ∷ quiet
    ∷ asks 2 (codes "b")
    ∷ plain (event.Request 2 0 1 (Some status.Gone))
    ∷ answers 2 1 (codes "b") status.Gone []
    ∷ quiet
    ∷ left []
    ∷ []

abbrev opening : World
opening = blank_world_of types 1

pub follows : FollowsOverBlankOf types 1 commands history
unfolding commands history run at_node on_eject on_node on_traffic least_number
follows = follows-over-blank-of types 1 commands history refl

plain_text : text_of mode.Plain history ≡ printed
    (codes "node 1 up epoch 1" ∷ codes "x is 1.1.1" ∷ codes "eject 1.1.1 fault zero divisor" ∷ codes "a refused 9 dropped" ∷
    codes "quiet" ∷ codes "b refused 4 gone" ∷ codes "quiet" ∷ [])
unfolding history entry_text trace_text shown_text digits
plain_text = refl

-- it returns
return-fault : shown.Return 1 ≡ shown.Fault cause.ZeroDivisor → ⊥
return-fault e = absurd (cc)

returns : NotFollowed opening 1 commands (take 5 history) (turn x 1 (shown.Return 1))
unfolding commands history run at_node on_eject on_node on_traffic least_number
returns = not-followed opening 1 commands (take 5 history) (turn x 1 (shown.Return 1))
    (λ d. return-fault d.allowed.event.shows)

-- the Eject stays active
stays_active : NotFollowed opening 1 commands (take 9 history) (comes 2 0 1)
unfolding commands history run at_node on_eject on_node on_traffic least_number
stays_active = not-followed opening 1 commands (take 9 history) (comes 2 0 1)
    (λ d. none-some d.allowed.event.delivered.1)
