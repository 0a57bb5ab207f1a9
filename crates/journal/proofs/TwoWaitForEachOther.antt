-- Of two Ejects each waits for the other: nothing is left to do, and the call stays open.
use Rattle.std.proofs.Common.{◌≡◌, List, [], ◌∷◌, take, refl, codes}
use Rattle.std.specs.Fmt.{digits}
use Rattle.capability.specs.declared.Uid.{Uid}
use Rattle.eden_model.specs.Crew.{least_number}
use Rattle.epl_syntax.specs.Edentype.{Edentype}
use Rattle.epl_syntax.specs.Turns.{run}
use Rattle.journal.specs.Argument.{named}
use Rattle.journal.specs.declared.command.Command.{Command}
use Rattle.journal.specs.declared.command.Command.TheVariants as command
use Rattle.journal.specs.declared.event.Entry.{Entry}
use Rattle.journal.specs.declared.event.Shown.TheVariants as shown
use Rattle.journal.specs.World.{World, at_node, on_eject, on_node, on_traffic}
use Rattle.journal.specs.declared.event.Mode.TheVariants as mode
use Rattle.journal.specs.Lines.{text_of, entry_text, trace_text, shown_text}
use Rattle.journal.proofs.Blank.{FollowsOverBlankOf, follows-over-blank-of}
use Rattle.journal.proofs.Scenes.{with_trees, blank_world_of, eject, ref, boots, made, asks, comes, starts, turn, quiet, left, printed}
use Rattle.journal.proofs.TypeTexts.{peer}
use Rattle.journal.proofs.Wrong.{NotFollowed, not-followed, some-none}

abbrev types : List Edentype
types = with_trees (peer ∷ [])

abbrev p : Uid
p = eject 1 1

abbrev q : Uid
q = eject 1 2

unfoldable pub commands : List Command
commands = command.Create (codes "p") 1 (codes "Peer")
    ∷ command.Create (codes "q") 1 (codes "Peer")
    ∷ command.Call (codes "a") (ref (codes "p")) (codes "Poke") (named (codes "q") 0 ∷ named (codes "p") 0 ∷ [])
    ∷ command.Go 100
    ∷ command.End
    ∷ []

unfoldable pub history : List Entry
history = boots 1 1 11
    ∷ made (codes "p") p
    ∷ made (codes "q") q
    ∷ asks 1 (codes "a")
    ∷ comes 1 0 1
    ∷ starts 1 p 1
    ∷ turn p 1 (shown.Invoke 2)
    ∷ comes 2 1 1
    ∷ starts 2 q 1
    ∷ turn q 1 (shown.Invoke 3)
    ∷ comes 3 1 1
    ∷ quiet
    ∷ left (codes "a" ∷ [])
    ∷ []

abbrev opening : World
opening = blank_world_of types 1

pub follows : FollowsOverBlankOf types 1 commands history
unfolding commands history run at_node on_eject on_node on_traffic least_number
follows = follows-over-blank-of types 1 commands history refl

plain_text : text_of mode.Plain history ≡ printed
    (codes "node 1 up epoch 1" ∷ codes "p is 1.1.1" ∷ codes "q is 1.1.2" ∷ codes "quiet" ∷ codes "open a" ∷ [])
unfolding history entry_text trace_text shown_text digits
plain_text = refl

-- a second invocation of the class starts, whose limit is one
starts_at_the_limit : NotFollowed opening 1 commands (take 11 history) (starts 3 p 2)
unfolding commands history run at_node on_eject on_node on_traffic least_number
starts_at_the_limit = not-followed opening 1 commands (take 11 history) (starts 3 p 2)
    (λ d. some-none d.key)
