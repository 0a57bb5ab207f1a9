-- A caller of a gate waits in its monitor until another opens it.
use Rattle.std.proofs.Common.{◌≡◌, List, [], ◌∷◌, take, refl, arith, codes, ap}
use Rattle.std.specs.Fmt.{digits}
use Rattle.capability.specs.declared.Uid.{Uid}
use Rattle.eden_value.specs.declared.status.Status.TheVariants as status
use Rattle.eden_model.specs.Traffic.{answered}
use Rattle.eden_model.specs.Crew.{least_number}
use Rattle.epl_syntax.specs.Edentype.{Edentype}
use Rattle.epl_syntax.specs.Turns.{run}
use Rattle.journal.specs.declared.command.Command.{Command}
use Rattle.journal.specs.declared.command.Command.TheVariants as command
use Rattle.journal.specs.declared.event.Entry.{Entry}
use Rattle.journal.specs.declared.event.Shown.TheVariants as shown
use Rattle.journal.specs.World.{World, at_node, on_eject, on_node, on_traffic}
use Rattle.journal.specs.declared.event.Mode.TheVariants as mode
use Rattle.journal.specs.Lines.{text_of, entry_text, trace_text, shown_text}
use Rattle.journal.proofs.Blank.{FollowsOverBlankOf, follows-over-blank-of}
use Rattle.journal.proofs.Scenes.{int, with_trees, blank_world_of, eject, ref, boots, made, asks, comes, starts, turn, answers, quiet}
use Rattle.journal.proofs.Scenes.{left, printed}
use Rattle.journal.proofs.TypeTexts.{gate}
use Rattle.journal.proofs.Wrong.{NotFollowed, not-followed, process_of}

abbrev types : List Edentype
types = with_trees (gate ∷ [])

abbrev g : Uid
g = eject 1 1

unfoldable pub commands : List Command
commands = command.Create (codes "g") 1 (codes "Gate")
    ∷ command.Call (codes "a") (ref (codes "g")) (codes "Pass") []
    ∷ command.Go 100
    ∷ command.Call (codes "b") (ref (codes "g")) (codes "Open") []
    ∷ command.Go 100
    ∷ command.End
    ∷ []

unfoldable pub history : List Entry
history = boots 1 1 11
    ∷ made (codes "g") g
    ∷ asks 1 (codes "a")
    ∷ comes 1 0 1
    ∷ starts 1 g 1
    ∷ turn g 1 shown.Lock
    ∷ turn g 1 shown.Wait
    ∷ quiet
    ∷ asks 2 (codes "b")
    ∷ comes 2 0 1
    ∷ starts 2 g 2
    ∷ turn g 2 shown.Lock
    ∷ turn g 2 shown.Signal
    ∷ turn g 2 shown.Leave
    ∷ turn g 1 shown.Leave
    ∷ turn g 2 (shown.Return 2)
    ∷ answers 2 1 (codes "b") status.Ok []
    ∷ turn g 1 (shown.Return 1)
    ∷ answers 1 1 (codes "a") status.Ok (int 1 ∷ [])
    ∷ quiet
    ∷ left []
    ∷ []

abbrev opening : World
opening = blank_world_of types 1

pub follows : FollowsOverBlankOf types 1 commands history
unfolding commands history run at_node on_eject on_node on_traffic least_number
follows = follows-over-blank-of types 1 commands history refl

plain_text : text_of mode.Plain history ≡ printed
    (codes "node 1 up epoch 1" ∷ codes "g is 1.1.1" ∷ codes "quiet" ∷ codes "b ok ()" ∷ codes "a ok (1)" ∷ codes "quiet" ∷ [])
unfolding history entry_text trace_text shown_text digits
plain_text = refl

-- the one that was signalled goes on before the holder has left the monitor
beside_the_holder : NotFollowed opening 1 commands (take 13 history) (turn g 1 shown.Leave)
unfolding commands history run at_node on_eject on_node on_traffic least_number
beside_the_holder = not-followed opening 1 commands (take 13 history) (turn g 1 shown.Leave)
    (λ d. let h : 1 ≡ 2 = ap process_of d.key in omega (arith, h))

-- Pass returns 0
zero-one : answered status.Ok (int 1 ∷ []) ≡ answered status.Ok (int 0 ∷ []) → ⊥
zero-one e = absurd (cc)

other_result : NotFollowed opening 1 commands (take 18 history) (answers 1 1 (codes "a") status.Ok (int 0 ∷ []))
unfolding commands history run at_node on_eject on_node on_traffic least_number
other_result = not-followed opening 1 commands (take 18 history) (answers 1 1 (codes "a") status.Ok (int 0 ∷ []))
    (λ d. zero-one d.allowed.event.delivered.0)
