-- A sum is kept by the first version of a type.
use Rattle.std.proofs.Common.{◌≡◌, List, [], ◌∷◌, ◌++◌, take, refl, arith, codes, ap}
use Rattle.std.specs.Fmt.{digits}
use Rattle.capability.specs.declared.Uid.{Uid}
use Rattle.eden_value.specs.declared.status.Status.TheVariants as status
use Rattle.eden_model.specs.Crew.{least_number}
use Rattle.epl_syntax.specs.Edentype.{Edentype}
use Rattle.epl_syntax.specs.Turns.{run}
use Rattle.journal.specs.Argument.{plain as given}
use Rattle.journal.specs.declared.command.Command.{Command}
use Rattle.journal.specs.declared.command.Command.TheVariants as command
use Rattle.journal.specs.declared.event.Entry.{Entry}
use Rattle.journal.specs.declared.event.Shown.TheVariants as shown
use Rattle.journal.specs.World.{World, at_node, on_eject, on_node, on_traffic}
use Rattle.journal.specs.declared.event.Mode.TheVariants as mode
use Rattle.journal.specs.Lines.{text_of, entry_text, trace_text, shown_text}
use Rattle.journal.proofs.Blank.{FollowsOverBlankOf, follows-over-blank-of}
use Rattle.journal.proofs.Scenes.{int, with_trees, blank_world_of, eject, ref, boots, made, asks, comes, starts, turn, answers, saves}
use Rattle.journal.proofs.Scenes.{quiet, left, printed}
use Rattle.journal.proofs.TypeTexts.{tally}
use Rattle.journal.proofs.Wrong.{NotFollowed, not-followed, kind_of}

abbrev pub types : List Edentype
types = with_trees (tally ∷ [])

abbrev t : Uid
t = eject 1 1

unfoldable pub commands : List Command
commands = command.Create (codes "t") 1 (codes "Tally")
    ∷ command.Call (codes "a") (ref (codes "t")) (codes "Add") (given (int 6) ∷ [])
    ∷ command.Go 100
    ∷ command.End
    ∷ []

unfoldable pub history : List Entry
history = boots 1 1 11
    ∷ made (codes "t") t
    ∷ asks 1 (codes "a")
    ∷ comes 1 0 1
    ∷ starts 1 t 1
    ∷ turn t 1 shown.Checkpoint
    ∷ saves t 12
    ++ turn t 1 (shown.Return 1)
    ∷ answers 1 1 (codes "a") status.Ok (int 0 ∷ [])
    ∷ quiet
    ∷ left []
    ∷ []

abbrev opening : World
opening = blank_world_of types 1

pub follows : FollowsOverBlankOf types 1 commands history
unfolding commands history run at_node on_eject on_node on_traffic least_number
follows = follows-over-blank-of types 1 commands history refl

plain_text : text_of mode.Plain history ≡ printed
    (codes "node 1 up epoch 1" ∷ codes "t is 1.1.1" ∷ codes "a ok (0)" ∷ codes "quiet" ∷ [])
unfolding history entry_text trace_text shown_text digits
plain_text = refl

-- it returns before the sum is kept
returns_before : NotFollowed opening 1 commands (take 6 history) (turn t 1 (shown.Return 1))
unfolding commands history run at_node on_eject on_node on_traffic least_number
returns_before = not-followed opening 1 commands (take 6 history) (turn t 1 (shown.Return 1))
    (λ d. let h : 4 ≡ 5 = ap kind_of d.key in omega (arith, h))
