-- A turn that would make one step more faults.
use Rattle.std.proofs.Common.{◌≡◌, List, [], ◌∷◌, take, refl, codes}
use Rattle.std.specs.Fmt.{digits}
use Rattle.capability.specs.declared.Uid.{Uid}
use Rattle.eden_value.specs.declared.status.Status.TheVariants as status
use Rattle.eden_model.specs.Crew.{least_number}
use Rattle.epl_syntax.specs.Edentype.{Edentype}
use Rattle.epl_syntax.specs.declared.effect.FaultCause.TheVariants as cause
use Rattle.epl_syntax.specs.Turns.{run}
use Rattle.journal.specs.Argument.{plain as given}
use Rattle.journal.specs.declared.command.Command.{Command}
use Rattle.journal.specs.declared.command.Command.TheVariants as command
use Rattle.journal.specs.declared.event.Entry.{Entry}
use Rattle.journal.specs.declared.event.Shown.TheVariants as shown
use Rattle.journal.specs.World.{World, at_node, on_eject, on_node, on_traffic}
use Rattle.journal.specs.declared.event.Mode.TheVariants as mode
use Rattle.journal.specs.Lines.{text_of, entry_text, trace_text, shown_text}
use Rattle.journal.proofs.Blank.{FollowsOverBlankOf, follows-over-blank-of}
use Rattle.journal.proofs.Scenes.{int, with_trees, blank_world_of, eject, ref, boots, made, asks, comes, starts, turn, answers, quiet}
use Rattle.journal.proofs.Scenes.{left, printed}
use Rattle.journal.proofs.TypeTexts.{spin}
use Rattle.journal.proofs.Wrong.{NotFollowed, not-followed}

abbrev types : List Edentype
types = with_trees (spin ∷ [])

abbrev s : Uid
s = eject 1 1

unfoldable pub commands : List Command
commands = command.Create (codes "s") 1 (codes "Spin")
    ∷ command.Call (codes "a") (ref (codes "s")) (codes "Run") (given (int 5000) ∷ [])
    ∷ command.Go 100
    ∷ command.End
    ∷ []

unfoldable pub history : List Entry
history = boots 1 1 11
    ∷ made (codes "s") s
    ∷ asks 1 (codes "a")
    ∷ comes 1 0 1
    ∷ starts 1 s 1
    ∷ turn s 1 (shown.Fault cause.Budget)
    ∷ answers 1 1 (codes "a") status.Dropped []
    ∷ quiet
    ∷ left []
    ∷ []

abbrev opening : World
opening = blank_world_of types 1

pub follows : FollowsOverBlankOf types 1 commands history
unfolding commands history run at_node on_eject on_node on_traffic least_number
follows = follows-over-blank-of types 1 commands history refl

plain_text : text_of mode.Plain history ≡ printed
    (codes "node 1 up epoch 1" ∷ codes "s is 1.1.1" ∷ codes "eject 1.1.1 fault budget" ∷ codes "a refused 9 dropped" ∷ codes "quiet" ∷ [])
unfolding history entry_text trace_text shown_text digits
plain_text = refl

-- it returns
return-fault : shown.Return 1 ≡ shown.Fault cause.Budget → ⊥
return-fault e = absurd (cc)

returns : NotFollowed opening 1 commands (take 5 history) (turn s 1 (shown.Return 1))
unfolding commands history run at_node on_eject on_node on_traffic least_number
returns = not-followed opening 1 commands (take 5 history) (turn s 1 (shown.Return 1))
    (λ d. return-fault d.allowed.event.shows)
