-- A declared process runs as its Eject begins, and ends.
use Rattle.std.proofs.Common.{◌≡◌, List, [], ◌∷◌, take, refl, codes}
use Rattle.std.specs.Fmt.{digits}
use Rattle.capability.specs.declared.Uid.{Uid}
use Rattle.eden_value.specs.declared.status.Status.TheVariants as status
use Rattle.eden_model.specs.Traffic.{answered}
use Rattle.eden_model.specs.Crew.{least_number}
use Rattle.epl_syntax.specs.Edentype.{Edentype}
use Rattle.epl_syntax.specs.Turns.{run}
use Rattle.journal.specs.declared.command.Command.{Command}
use Rattle.journal.specs.declared.command.Command.TheVariants as command
use Rattle.journal.specs.declared.event.Entry.{Entry}
use Rattle.journal.specs.declared.event.Shown.TheVariants as shown
use Rattle.journal.specs.World.{World, at_node, on_eject, on_node, on_traffic}
use Rattle.journal.specs.declared.event.Mode.TheVariants as mode
use Rattle.journal.specs.Lines.{text_of, entry_text, trace_text, shown_text}
use Rattle.journal.proofs.Blank.{FollowsOverBlankOf, follows-over-blank-of}
use Rattle.journal.proofs.Scenes.{int, with_trees, blank_world_of, eject, ref, boots, made, asks, comes, starts, turn, answers, quiet}
use Rattle.journal.proofs.Scenes.{left, printed}
use Rattle.journal.proofs.TypeTexts.{once}
use Rattle.journal.proofs.Wrong.{NotFollowed, not-followed, none-some}

abbrev types : List Edentype
types = with_trees (once ∷ [])

abbrev o : Uid
o = eject 1 1

unfoldable pub commands : List Command
commands = command.Create (codes "o") 1 (codes "Once")
    ∷ command.Go 100
    ∷ command.Call (codes "a") (ref (codes "o")) (codes "Read") []
    ∷ command.Go 100
    ∷ command.End
    ∷ []

unfoldable pub history : List Entry
history = boots 1 1 11
    ∷ made (codes "o") o
    ∷ turn o 1 shown.Lock
    ∷ turn o 1 shown.Leave
    ∷ turn o 1 shown.End
    ∷ quiet
    ∷ asks 1 (codes "a")
    ∷ comes 1 0 1
    ∷ starts 1 o 1
    ∷ turn o 1 shown.Lock
    ∷ turn o 1 shown.Leave
    ∷ turn o 1 (shown.Return 1)
    ∷ answers 1 1 (codes "a") status.Ok (int 7 ∷ [])
    ∷ quiet
    ∷ left []
    ∷ []

abbrev opening : World
opening = blank_world_of types 1

pub follows : FollowsOverBlankOf types 1 commands history
unfolding commands history run at_node on_eject on_node on_traffic least_number
follows = follows-over-blank-of types 1 commands history refl

plain_text : text_of mode.Plain history ≡ printed
    (codes "node 1 up epoch 1" ∷ codes "o is 1.1.1" ∷ codes "quiet" ∷ codes "a ok (7)" ∷ codes "quiet" ∷ [])
unfolding history entry_text trace_text shown_text digits
plain_text = refl

-- the value that it wrote is not read
seven-zero : answered status.Ok (int 7 ∷ []) ≡ answered status.Ok (int 0 ∷ []) → ⊥
seven-zero e = absurd (cc)

not_written : NotFollowed opening 1 commands (take 12 history) (answers 1 1 (codes "a") status.Ok (int 0 ∷ []))
unfolding commands history run at_node on_eject on_node on_traffic least_number
not_written = not-followed opening 1 commands (take 12 history) (answers 1 1 (codes "a") status.Ok (int 0 ∷ []))
    (λ d. seven-zero d.allowed.event.delivered.0)

-- it does not end
does_not_end : NotFollowed opening 1 commands (take 4 history) quiet
unfolding commands history run at_node on_eject on_node on_traffic least_number
does_not_end = not-followed opening 1 commands (take 4 history) quiet
    (λ d. none-some d.key)
