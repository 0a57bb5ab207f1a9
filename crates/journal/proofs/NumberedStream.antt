-- Two items are pumped through a filter that numbers them.
use Rattle.std.proofs.Common.{◌≡◌, ◌+◌, ◌*◌, List, [], ◌∷◌, ◌++◌, take, refl, codes}
use Rattle.std.specs.Fmt.{digits}
use Rattle.capability.specs.declared.Uid.{Uid}
use Rattle.eden_value.specs.Datum.{list, data_of}
use Rattle.eden_value.specs.declared.status.Status.TheVariants as status
use Rattle.eden_model.specs.Traffic.{answered}
use Rattle.eden_model.specs.Crew.{least_number}
use Rattle.journal.specs.Argument.{plain as given, named}
use Rattle.journal.specs.declared.command.Command.{Command}
use Rattle.journal.specs.declared.command.Command.TheVariants as command
use Rattle.journal.specs.declared.event.Entry.{Entry}
use Rattle.journal.specs.declared.event.Shown.TheVariants as shown
use Rattle.journal.specs.World.{World, at_node, on_eject, on_node, on_traffic}
use Rattle.journal.specs.declared.event.Mode.TheVariants as mode
use Rattle.journal.specs.Lines.{text_of, entry_text, trace_text, shown_text}
use Rattle.journal.proofs.Blank.{FollowsOverBlank, follows-over-blank}
use Rattle.journal.proofs.Scenes.{int, blank_world, eject, ref, word, boots, made, asks, comes, starts, turn, answers, replies, saves}
use Rattle.journal.proofs.Scenes.{quiet, left, printed, words, invocations}
use Rattle.journal.proofs.Wrong.{NotFollowed, not-followed}

abbrev l : Uid
l = eject 1 1

abbrev n : Uid
n = eject 1 2

abbrev k : Uid
k = eject 1 3

unfoldable pub commands : List Command
commands = command.Create (codes "l") 1 (codes "Lines")
    ∷ command.Create (codes "n") 1 (codes "Number")
    ∷ command.Create (codes "k") 1 (codes "Sink")
    ∷ command.Call (codes "a") (ref (codes "l")) (codes "Fill") (words (codes "x" ∷ codes "y" ∷ codes "z" ∷ []) ∷ [])
    ∷ command.Go 1000
    ∷ command.Call (codes "b") (ref (codes "n")) (codes "Open") (named (codes "l") 0 ∷ [])
    ∷ command.Go 1000
    ∷ command.Call (codes "d") (ref (codes "k")) (codes "Open") (named (codes "n") 0 ∷ [])
    ∷ command.Go 1000
    ∷ command.Call (codes "e") (ref (codes "k")) (codes "Pump") (given (int 2) ∷ [])
    ∷ command.Go 1000
    ∷ command.Call (codes "f") (ref (codes "k")) (codes "Read") []
    ∷ command.Go 1000
    ∷ command.Call (codes "g") (ref (codes "n")) (codes "Transfer") (given (int 5) ∷ [])
    ∷ command.Go 1000
    ∷ command.End
    ∷ []

unfoldable pub history : List Entry
history = boots 1 1 11
    ∷ made (codes "l") l
    ∷ made (codes "n") n
    ∷ made (codes "k") k
    ∷ asks 1 (codes "a")
    ∷ comes 1 0 1
    ∷ starts 1 l 1
    ∷ turn l 1 shown.Checkpoint
    ∷ saves l 12
    ++ turn l 1 (shown.Return 1)
    ∷ answers 1 1 (codes "a") status.Ok (int 0 ∷ [])
    ∷ quiet
    ∷ asks 2 (codes "b")
    ∷ comes 2 0 1
    ∷ starts 2 n 1
    ∷ turn n 1 shown.Checkpoint
    ∷ saves n 16
    ++ turn n 1 (shown.Return 2)
    ∷ answers 2 1 (codes "b") status.Ok (int 0 ∷ [])
    ∷ quiet
    ∷ asks 3 (codes "d")
    ∷ comes 3 0 1
    ∷ starts 3 k 1
    ∷ turn k 1 shown.Checkpoint
    ∷ saves k 20
    ++ turn k 1 (shown.Return 3)
    ∷ answers 3 1 (codes "d") status.Ok (int 0 ∷ [])
    ∷ quiet
    ∷ asks 4 (codes "e")
    ∷ comes 4 0 1
    ∷ starts 4 k 1
    ∷ turn k 1 (shown.Invoke 5)
    ∷ comes 5 1 1
    ∷ starts 5 n 1
    ∷ turn n 1 (shown.Invoke 6)
    ∷ comes 6 1 1
    ∷ starts 6 l 1
    ∷ turn l 1 (shown.Return 6)
    ∷ replies 6 1 1 (int 0 ∷ word (codes "x") ∷ [])
    ∷ turn n 1 shown.Checkpoint
    ∷ saves n 24
    ++ turn n 1 (shown.Return 5)
    ∷ replies 5 1 1 (int 0 ∷ word (codes "1: x") ∷ [])
    ∷ turn k 1 shown.Checkpoint
    ∷ saves k 28
    ++ turn k 1 (shown.Invoke 7)
    ∷ comes 7 1 1
    ∷ starts 7 n 1
    ∷ turn n 1 (shown.Invoke 8)
    ∷ comes 8 1 1
    ∷ starts 8 l 1
    ∷ turn l 1 (shown.Return 8)
    ∷ replies 8 1 1 (int 0 ∷ word (codes "y") ∷ [])
    ∷ turn n 1 shown.Checkpoint
    ∷ saves n 32
    ++ turn n 1 (shown.Return 7)
    ∷ replies 7 1 1 (int 0 ∷ word (codes "2: y") ∷ [])
    ∷ turn k 1 shown.Checkpoint
    ∷ saves k 36
    ++ turn k 1 (shown.Return 4)
    ∷ answers 4 1 (codes "e") status.Ok (int 0 ∷ int 2 ∷ [])
    ∷ quiet
    ∷ asks 9 (codes "f")
    ∷ comes 9 0 1
    ∷ starts 9 k 1
    ∷ turn k 1 (shown.Return 9)
    ∷ answers 9 1 (codes "f") status.Ok (list (data_of (word (codes "1: x") ∷ word (codes "2: y") ∷ [])) ∷ [])
    ∷ quiet
    ∷ asks 10 (codes "g")
    ∷ comes 10 0 1
    ∷ starts 10 n 1
    ∷ turn n 1 (shown.Return 10)
    ∷ answers 10 1 (codes "g") status.Ok (int 2 ∷ word (codes "") ∷ [])
    ∷ quiet
    ∷ left []
    ∷ []

abbrev opening : World
opening = blank_world 1

pub follows : FollowsOverBlank 1 commands history
unfolding commands history digits at_node on_eject on_node on_traffic least_number
follows = follows-over-blank 1 commands history refl

plain_text : text_of mode.Plain history ≡ printed
    (codes "node 1 up epoch 1" ∷ codes "l is 1.1.1" ∷ codes "n is 1.1.2" ∷ codes "k is 1.1.3" ∷ codes "a ok (0)" ∷ codes "quiet" ∷
    codes "b ok (0)" ∷ codes "quiet" ∷ codes "d ok (0)" ∷ codes "quiet" ∷ codes "e ok (0, 2)" ∷ codes "quiet" ∷
    codes "f ok ([\"1: x\", \"2: y\"])" ∷ codes "quiet" ∷ codes "g ok (2, \"\")" ∷ codes "quiet" ∷ [])
unfolding history entry_text trace_text shown_text digits
plain_text = refl

-- Per item one by the sink and one by each filter: k items through n filters take (n + 1) * k Transfers.
transfers : invocations history ≡ (1 + 1) * 2
unfolding history
transfers = refl

-- an item comes without its number
other-item : answered status.Ok (int 0 ∷ word (codes "1: x") ∷ []) ≡ answered status.Ok (int 0 ∷ word (codes "x") ∷ []) → ⊥
other-item e = absurd (cc)

no_number : NotFollowed opening 1 commands (take 54 history) (replies 5 1 1 (int 0 ∷ word (codes "x") ∷ []))
unfolding commands history digits at_node on_eject on_node on_traffic least_number
no_number = not-followed opening 1 commands (take 54 history) (replies 5 1 1 (int 0 ∷ word (codes "x") ∷ []))
    (λ d. other-item d.allowed.event.delivered.0)
