-- The node stops in the save of the sink, and the save is found undone: the item is pumped again, and comes once.
use Rattle.std.proofs.Common.{◌≡◌, List, [], ◌∷◌, ◌++◌, None, Some, true, take, refl, codes}
use Rattle.std.specs.Fmt.{digits}
use Rattle.capability.specs.declared.Uid.{Uid}
use Rattle.eden_value.specs.Datum.{list, data_of}
use Rattle.eden_value.specs.declared.status.Status.TheVariants as status
use Rattle.eden_disk.specs.declared.disk.ImageMode.TheVariants.{Lose as lose}
use Rattle.eden_disk.specs.declared.disk.Arm.TheVariants as arm
use Rattle.eden_disk.specs.declared.disk.ImageMode.TheVariants as image
use Rattle.eden_model.specs.Crew.{least_number}
use Rattle.passive_store.specs.declared.store.Pick.TheVariants as pick
use Rattle.journal.specs.Argument.{plain as given, named}
use Rattle.journal.specs.declared.command.Command.{Command}
use Rattle.journal.specs.declared.command.Command.TheVariants as command
use Rattle.journal.specs.declared.event.Event.TheVariants as event
use Rattle.journal.specs.declared.event.Entry.{Entry}
use Rattle.journal.specs.declared.event.Shown.TheVariants as shown
use Rattle.journal.specs.declared.event.BootEnd.TheVariants as boot_end
use Rattle.journal.specs.declared.event.StartEnd.TheVariants as start_end
use Rattle.journal.specs.declared.event.RequestEnd.TheVariants as request_end
use Rattle.journal.specs.World.{World, at_node, on_eject, on_node, on_traffic}
use Rattle.journal.specs.declared.event.Mode.TheVariants as mode
use Rattle.journal.specs.Lines.{text_of, entry_text, trace_text, shown_text}
use Rattle.journal.proofs.Blank.{FollowsOverBlank, follows-over-blank}
use Rattle.journal.proofs.Scenes.{on_disk, int, breaking, blank_world, eject, ref, word, boots, made, asks, comes, starts, turn, answers}
use Rattle.journal.proofs.Scenes.{replies, part, saves, quiet, left, printed, words}
use Rattle.journal.proofs.Wrong.{NotFollowed, not-followed}

abbrev l : Uid
l = eject 1 1

abbrev o : Uid
o = eject 1 2

abbrev n : Uid
n = eject 1 3

abbrev k : Uid
k = eject 1 4

unfoldable pub commands : List Command
commands = command.Create (codes "l") 1 (codes "Lines")
    ∷ command.Create (codes "o") 1 (codes "Only")
    ∷ command.Create (codes "n") 1 (codes "Number")
    ∷ command.Create (codes "k") 1 (codes "Sink")
    ∷ command.Call (codes "a") (ref (codes "l")) (codes "Fill") (words (codes "ab" ∷ codes "b" ∷ codes "ac" ∷ []) ∷ [])
    ∷ command.Go 1000
    ∷ command.Call (codes "b") (ref (codes "o")) (codes "Open") (named (codes "l") 0 ∷ given (word (codes "a")) ∷ [])
    ∷ command.Go 1000
    ∷ command.Call (codes "c") (ref (codes "n")) (codes "Open") (named (codes "o") 0 ∷ [])
    ∷ command.Go 1000
    ∷ command.Call (codes "d") (ref (codes "k")) (codes "Open") (named (codes "n") 0 ∷ [])
    ∷ command.Go 1000
    ∷ command.Call (codes "e") (ref (codes "k")) (codes "Pump") (given (int 10) ∷ [])
    ∷ command.Stop 1 11 lose
    ∷ command.Go 1000
    ∷ command.Restart 1
    ∷ command.Call (codes "g") (ref (codes "k")) (codes "Pump") (given (int 10) ∷ [])
    ∷ command.Go 1000
    ∷ command.Call (codes "f") (ref (codes "k")) (codes "Read") []
    ∷ command.Go 1000
    ∷ command.End
    ∷ []

unfoldable pub history : List Entry
history = boots 1 1 11
    ∷ made (codes "l") l
    ∷ made (codes "o") o
    ∷ made (codes "n") n
    ∷ made (codes "k") k
    ∷ asks 1 (codes "a")
    ∷ comes 1 0 1
    ∷ starts 1 l 1
    ∷ turn l 1 shown.Checkpoint
    ∷ saves l 12
    ++ turn l 1 (shown.Return 1)
    ∷ answers 1 1 (codes "a") status.Ok (int 0 ∷ [])
    ∷ quiet
    ∷ asks 2 (codes "b")
    ∷ comes 2 0 1
    ∷ starts 2 o 1
    ∷ turn o 1 shown.Checkpoint
    ∷ saves o 16
    ++ turn o 1 (shown.Return 2)
    ∷ answers 2 1 (codes "b") status.Ok (int 0 ∷ [])
    ∷ quiet
    ∷ asks 3 (codes "c")
    ∷ comes 3 0 1
    ∷ starts 3 n 1
    ∷ turn n 1 shown.Checkpoint
    ∷ saves n 20
    ++ turn n 1 (shown.Return 3)
    ∷ answers 3 1 (codes "c") status.Ok (int 0 ∷ [])
    ∷ quiet
    ∷ asks 4 (codes "d")
    ∷ comes 4 0 1
    ∷ starts 4 k 1
    ∷ turn k 1 shown.Checkpoint
    ∷ saves k 24
    ++ turn k 1 (shown.Return 4)
    ∷ answers 4 1 (codes "d") status.Ok (int 0 ∷ [])
    ∷ quiet
    ∷ asks 5 (codes "e")
    ∷ on_disk 1 27 (event.Armed 1 (arm.Stop 11 image.Lose))
    ∷ comes 5 0 1
    ∷ starts 5 k 1
    ∷ turn k 1 (shown.Invoke 6)
    ∷ comes 6 1 1
    ∷ starts 6 n 1
    ∷ turn n 1 (shown.Invoke 7)
    ∷ comes 7 1 1
    ∷ starts 7 o 1
    ∷ turn o 1 (shown.Invoke 8)
    ∷ comes 8 1 1
    ∷ starts 8 l 1
    ∷ turn l 1 (shown.Return 8)
    ∷ replies 8 1 1 (int 0 ∷ word (codes "ab") ∷ [])
    ∷ turn o 1 shown.Checkpoint
    ∷ saves o 28
    ++ turn o 1 (shown.Return 7)
    ∷ replies 7 1 1 (int 0 ∷ word (codes "ab") ∷ [])
    ∷ turn n 1 shown.Checkpoint
    ∷ saves n 32
    ++ turn n 1 (shown.Return 6)
    ∷ replies 6 1 1 (int 0 ∷ word (codes "1: ab") ∷ [])
    ∷ turn k 1 shown.Checkpoint
    ∷ part k 36
    ∷ part k 37
    ∷ breaking (codes "e" ∷ []) (on_disk 1 38 (event.Store k 38 request_end.Stop None))
    ∷ quiet
    ∷ on_disk 1 48 (event.Boot 1 2 boot_end.Up (Some pick.Old) true)
    ∷ asks 9 (codes "g")
    ∷ comes 9 0 1
    ∷ on_disk 1 49 (event.Activate k start_end.Ok None)
    ∷ starts 9 k 1
    ∷ turn k 1 (shown.Invoke 10)
    ∷ comes 10 1 1
    ∷ on_disk 1 50 (event.Activate n start_end.Ok None)
    ∷ starts 10 n 1
    ∷ turn n 1 (shown.Return 10)
    ∷ replies 10 1 1 (int 0 ∷ word (codes "1: ab") ∷ [])
    ∷ turn k 1 shown.Checkpoint
    ∷ saves k 51
    ++ turn k 1 (shown.Invoke 11)
    ∷ comes 11 1 1
    ∷ starts 11 n 1
    ∷ turn n 1 (shown.Invoke 12)
    ∷ comes 12 1 1
    ∷ on_disk 1 55 (event.Activate o start_end.Ok None)
    ∷ starts 12 o 1
    ∷ turn o 1 (shown.Invoke 13)
    ∷ comes 13 1 1
    ∷ on_disk 1 56 (event.Activate l start_end.Ok None)
    ∷ starts 13 l 1
    ∷ turn l 1 (shown.Return 13)
    ∷ replies 13 1 1 (int 0 ∷ word (codes "b") ∷ [])
    ∷ turn o 1 shown.Checkpoint
    ∷ saves o 57
    ++ turn o 1 (shown.Invoke 14)
    ∷ comes 14 1 1
    ∷ starts 14 l 1
    ∷ turn l 1 (shown.Return 14)
    ∷ replies 14 1 1 (int 0 ∷ word (codes "ac") ∷ [])
    ∷ turn o 1 shown.Checkpoint
    ∷ saves o 61
    ++ turn o 1 (shown.Return 12)
    ∷ replies 12 1 1 (int 0 ∷ word (codes "ac") ∷ [])
    ∷ turn n 1 shown.Checkpoint
    ∷ saves n 65
    ++ turn n 1 (shown.Return 11)
    ∷ replies 11 1 1 (int 0 ∷ word (codes "2: ac") ∷ [])
    ∷ turn k 1 shown.Checkpoint
    ∷ saves k 69
    ++ turn k 1 (shown.Invoke 15)
    ∷ comes 15 1 1
    ∷ starts 15 n 1
    ∷ turn n 1 (shown.Invoke 16)
    ∷ comes 16 1 1
    ∷ starts 16 o 1
    ∷ turn o 1 (shown.Invoke 17)
    ∷ comes 17 1 1
    ∷ starts 17 l 1
    ∷ turn l 1 (shown.Return 17)
    ∷ replies 17 1 1 (int 1 ∷ word (codes "") ∷ [])
    ∷ turn o 1 (shown.Return 16)
    ∷ replies 16 1 1 (int 1 ∷ word (codes "") ∷ [])
    ∷ turn n 1 (shown.Return 15)
    ∷ replies 15 1 1 (int 1 ∷ word (codes "") ∷ [])
    ∷ turn k 1 (shown.Return 9)
    ∷ answers 9 1 (codes "g") status.Ok (int 1 ∷ int 2 ∷ [])
    ∷ quiet
    ∷ asks 18 (codes "f")
    ∷ comes 18 0 1
    ∷ starts 18 k 1
    ∷ turn k 1 (shown.Return 18)
    ∷ answers 18 1 (codes "f") status.Ok (list (data_of (word (codes "1: ab") ∷ word (codes "2: ac") ∷ [])) ∷ [])
    ∷ quiet
    ∷ left []
    ∷ []

abbrev opening : World
opening = blank_world 1

pub follows : FollowsOverBlank 1 commands history
unfolding commands history digits at_node on_eject on_node on_traffic least_number
follows = follows-over-blank 1 commands history refl

plain_text : text_of mode.Plain history ≡ printed
    (codes "node 1 up epoch 1" ∷ codes "l is 1.1.1" ∷ codes "o is 1.1.2" ∷ codes "n is 1.1.3" ∷ codes "k is 1.1.4" ∷ codes "a ok (0)" ∷
    codes "quiet" ∷ codes "b ok (0)" ∷ codes "quiet" ∷ codes "c ok (0)" ∷ codes "quiet" ∷ codes "d ok (0)" ∷ codes "quiet" ∷
    codes "node 1 down stop" ∷ codes "e refused 6 broken" ∷ codes "quiet" ∷ codes "node 1 up epoch 2" ∷ codes "g ok (1, 2)" ∷
    codes "quiet" ∷ codes "f ok ([\"1: ab\", \"2: ac\"])" ∷ codes "quiet" ∷ [])
unfolding history entry_text trace_text shown_text digits
plain_text = refl

-- the filter asks for an item that it has made
invoke-return : shown.Invoke 11 ≡ shown.Return 10 → ⊥
invoke-return e = absurd (cc)

asks_again : NotFollowed opening 1 commands (take 92 history) (turn n 1 (shown.Invoke 11))
unfolding commands history digits at_node on_eject on_node on_traffic least_number
asks_again = not-followed opening 1 commands (take 92 history) (turn n 1 (shown.Invoke 11))
    (λ d. invoke-return d.allowed.event.shows)
