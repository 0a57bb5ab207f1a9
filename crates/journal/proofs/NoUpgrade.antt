-- Without an upgrade from the version that is kept, nothing is started.
use Rattle.std.proofs.Common.{◌≡◌, ℕ, List, [], ◌∷◌, None, true, take, refl, codes, map}
use Rattle.std.specs.Fmt.{digits}
use Rattle.capability.specs.declared.Uid.{Uid}
use Rattle.eden_value.specs.declared.status.Status.TheVariants as status
use Rattle.eden_model.specs.Crew.{least_number}
use Rattle.epl_syntax.specs.Edentype.{Edentype}
use Rattle.epl_syntax.specs.Turns.{run}
use Rattle.journal.specs.declared.command.Command.{Command}
use Rattle.journal.specs.declared.command.Command.TheVariants as command
use Rattle.journal.specs.declared.event.Event.TheVariants as event
use Rattle.journal.specs.declared.event.Entry.{Entry}
use Rattle.journal.specs.declared.event.StartEnd.TheVariants as start_end
use Rattle.journal.specs.World.{World, Node, at_node, on_eject, on_node, on_traffic}
use Rattle.journal.specs.Run.{world_after}
use Rattle.journal.specs.declared.event.Mode.TheVariants as mode
use Rattle.journal.specs.Lines.{text_of, entry_text, trace_text, shown_text}
use Rattle.journal.proofs.Blank.{FollowsOver, follows-over}
use Rattle.journal.proofs.Scenes.{asleep, plain, on_disk, with_trees, blank_world_of, eject, ref, boots, asks, comes, answers, quiet}
use Rattle.journal.proofs.Scenes.{left, printed}
use Rattle.journal.proofs.TypeTexts.{later_tally}
use Rattle.journal.proofs.Wrong.{NotFollowed, not-followed, false-true}
use Rattle.passive_store.specs.LogLayout.{log_layout}
use Rattle.journal.specs.Opening.{opening_of}
use Rattle.journal.proofs.TallyKeeps as first

abbrev types : List Edentype
types = with_trees (later_tally [] ∷ [])

abbrev t : Uid
t = eject 1 1

-- as which the disks open that the first script leaves
abbrev nodes : List (ℕ × Node)
nodes = map asleep (world_after (blank_world_of first.types 1) 1 first.commands first.history).nodes

unfoldable pub commands : List Command
commands = command.Hold (codes "t") t
    ∷ command.Call (codes "a") (ref (codes "t")) (codes "Both") []
    ∷ command.Go 100
    ∷ command.End
    ∷ []

unfoldable pub history : List Entry
history = boots 1 2 25
    ∷ plain (event.Bound (codes "t") true)
    ∷ asks 1 (codes "a")
    ∷ comes 1 0 1
    ∷ on_disk 1 26 (event.Activate t start_end.Damaged None)
    ∷ answers 1 1 (codes "a") status.Damaged []
    ∷ quiet
    ∷ left []
    ∷ []

pub follows : FollowsOver types nodes 1 commands history
unfolding first.commands first.history commands history run at_node on_eject on_node on_traffic least_number
follows = follows-over types nodes 1 commands history refl

plain_text : text_of mode.Plain history ≡ printed
    (codes "node 1 up epoch 2" ∷ codes "a refused 8 damaged" ∷ codes "quiet" ∷ [])
unfolding history entry_text trace_text shown_text digits
plain_text = refl

abbrev opening : World
opening = opening_of types log_layout nodes

-- the Eject starts
starts_all_the_same : NotFollowed opening 1 commands (take 4 history) (on_disk 1 26 (event.Activate t start_end.Ok None))
unfolding first.commands first.history commands history run at_node on_eject on_node on_traffic least_number
starts_all_the_same = not-followed opening 1 commands (take 4 history) (on_disk 1 26 (event.Activate t start_end.Ok None))
    (λ d. false-true d.allowed.event.starts.1)
