-- A directory keeps a capability with one right, and a walk behind a crash finds it with that one right.
use Rattle.std.proofs.Common.{◌≡◌, List, [], ◌∷◌, ◌++◌, None, Some, false, take, refl, arith, codes, ap}
use Rattle.std.specs.Fmt.{digits}
use Rattle.capability.specs.declared.Uid.{Uid}
use Rattle.eden_value.specs.declared.status.Status.TheVariants as status
use Rattle.eden_disk.specs.declared.disk.ImageMode.TheVariants.{Lose as lose}
use Rattle.eden_model.specs.Traffic.{answered}
use Rattle.eden_model.specs.Crew.{least_number}
use Rattle.journal.specs.Argument.{plain as given, named}
use Rattle.journal.specs.declared.command.Command.{Command}
use Rattle.journal.specs.declared.command.Command.TheVariants as command
use Rattle.journal.specs.declared.event.Event.TheVariants as event
use Rattle.journal.specs.declared.event.Entry.{Entry}
use Rattle.journal.specs.declared.event.Shown.TheVariants as shown
use Rattle.journal.specs.declared.event.StartEnd.TheVariants as start_end
use Rattle.journal.specs.World.{World, at_node, on_eject, on_node, on_traffic}
use Rattle.journal.specs.declared.event.Mode.TheVariants as mode
use Rattle.journal.specs.Lines.{text_of, entry_text, trace_text, shown_text}
use Rattle.journal.proofs.Blank.{FollowsOverBlank, follows-over-blank}
use Rattle.journal.proofs.Scenes.{plain, on_disk, int, blank_world, eject, result_of, ref, word, right_on, boots, made, asks, comes}
use Rattle.journal.proofs.Scenes.{starts, turn, answers, saves, quiet, left, printed}
use Rattle.journal.proofs.Wrong.{NotFollowed, not-followed, answered_rights}

abbrev d : Uid
d = eject 1 1

abbrev c : Uid
c = eject 2 1

unfoldable pub commands : List Command
commands = command.Create (codes "d") 1 (codes "Directory")
    ∷ command.Create (codes "c") 2 (codes "Cell")
    ∷ command.Restrict (codes "r") (ref (codes "c")) (record { bits = 2 })
    ∷ command.Call (codes "a") (ref (codes "d")) (codes "AddEntry") (given (word (codes "cell")) ∷ named (codes "r") 0 ∷ [])
    ∷ command.Go 100
    ∷ command.Crash 1 lose
    ∷ command.Restart 1
    ∷ command.Walk (codes "w") (ref (codes "d")) (codes "cell")
    ∷ command.Call (codes "b") (result_of (codes "w") 2) (codes "Get") []
    ∷ command.Go 100
    ∷ command.Call (codes "e") (result_of (codes "w") 2) (codes "Set") (given (int 7) ∷ [])
    ∷ command.Go 100
    ∷ command.End
    ∷ []

unfoldable pub history : List Entry
history = boots 1 1 11
    ∷ boots 2 1 11
    ∷ made (codes "d") d
    ∷ made (codes "c") c
    ∷ plain (event.Bound (codes "r") false)
    ∷ asks 1 (codes "a")
    ∷ comes 1 0 1
    ∷ starts 1 d 1
    ∷ turn d 1 shown.Checkpoint
    ∷ saves d 12
    ++ turn d 1 (shown.Return 1)
    ∷ answers 1 1 (codes "a") status.Ok (int 0 ∷ [])
    ∷ quiet
    ∷ on_disk 1 15 (event.Crash 1)
    ∷ boots 1 2 25
    ∷ asks 2 (codes "w")
    ∷ comes 2 0 1
    ∷ on_disk 1 26 (event.Activate d start_end.Ok None)
    ∷ starts 2 d 1
    ∷ turn d 1 (shown.Return 2)
    ∷ answers 2 1 (codes "w") status.Ok (int 0 ∷ right_on c 2 ∷ [])
    ∷ asks 3 (codes "b")
    ∷ comes 3 0 2
    ∷ starts 3 c 1
    ∷ turn c 1 (shown.Return 3)
    ∷ answers 3 2 (codes "b") status.Ok (int 0 ∷ [])
    ∷ quiet
    ∷ asks 4 (codes "e")
    ∷ plain (event.Request 4 0 2 (Some status.NoRight))
    ∷ answers 4 2 (codes "e") status.NoRight []
    ∷ quiet
    ∷ left []
    ∷ []

abbrev opening : World
opening = blank_world 2

pub follows : FollowsOverBlank 2 commands history
unfolding commands history at_node on_eject on_node on_traffic least_number
follows = follows-over-blank 2 commands history refl

plain_text : text_of mode.Plain history ≡ printed
    (codes "node 1 up epoch 1" ∷ codes "node 2 up epoch 1" ∷ codes "d is 1.1.1" ∷ codes "c is 2.1.1" ∷ codes "a ok (0)" ∷ codes "quiet" ∷
    codes "node 1 down crash" ∷ codes "node 1 up epoch 2" ∷ codes "w ok (0, <2.1.1:0002>)" ∷ codes "b ok (0)" ∷ codes "quiet" ∷
    codes "e refused 1 no right" ∷ codes "quiet" ∷ [])
unfolding history entry_text trace_text shown_text digits
plain_text = refl

-- it is found with all rights
other-rights : answered status.Ok (int 0 ∷ right_on c 2 ∷ []) ≡ answered status.Ok (int 0 ∷ right_on c 65535 ∷ []) → ⊥
other-rights e = let h : 2 ≡ 65535 = ap answered_rights e in omega (arith, h)

own_rights : NotFollowed opening 2 commands (take 23 history) (answers 2 1 (codes "w") status.Ok (int 0 ∷ right_on c 65535 ∷ []))
unfolding commands history at_node on_eject on_node on_traffic least_number
own_rights = not-followed opening 2 commands (take 23 history) (answers 2 1 (codes "w") status.Ok (int 0 ∷ right_on c 65535 ∷ []))
    (λ d. other-rights d.allowed.event.delivered.0)
