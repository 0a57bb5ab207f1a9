-- A run on its way through a script.
use Rattle.std.specs.Prelude.{◌≡◌, ◌≤◌, ℕ, zero, suc, ◌+◌, ◌-◌, Bool, true, false, List, [], ◌∷◌, ◌++◌, Option, None, Some}
use Rattle.std.specs.Prelude.{is_some, IsTrue}
use Rattle.std.specs.List.{All}
use Rattle.capability.specs.declared.Uid.{Uid}
use Rattle.journal.specs.declared.command.Command.{Command}
use Rattle.journal.specs.declared.event.Entry.{Entry}
use Rattle.journal.specs.declared.event.Event.TheVariants as event
use Rattle.journal.specs.declared.event.Shown.TheVariants.{Yield}
use Rattle.journal.specs.declared.event.Key.{Key}
use Rattle.journal.specs.World.{World}
use Rattle.journal.specs.Enabled.{following, item, enabled}
use Rattle.journal.specs.Fit.{IsFitCommand}
use Rattle.journal.specs.Step.{Allows, next, key_of}
use Rattle.journal.specs.Run.{Position, Due, turns, Leads, end_of, steps, at_commands, IsTurn, beginning, Follows, FollowsSoFar}
use Rattle.journal.specs.Run.{most_turns, world_after}
use Rattle.runs.specs.Reached.{IsReached, Offers}
use Rattle.runs.specs.Machines.{Stands, Did, Starved, Shows, Whole, Leaves}
use Rattle.runs.specs.Machines.{step, Failed, StandsWith, DidStep, DidAll, DidPart, ShowsAll, ShowsPart}
use Rattle.runs.specs.Room.{entries_of, most_calls, most_entries}
use Rattle.runs.specs.declared.run.Run.{Run}
use Rattle.runs.specs.declared.run.Choice.{Choice}
use Rattle.runs.specs.declared.run.Choice.TheVariants.{Following, Item}

-- 1. Where a run stands

-- Each world to which entries lead from a position is as machines take it, and offers these types and so many nodes.
pub record AreReachedFrom (types : List (List ℕ)) (nodes : ℕ) (start : Position) : Type 0 where
  pub few : nodes ≤ 8
  pub reached : (h : List Entry) → Leads start h → IsReached (end_of start h).world
  pub offers : (h : List Entry) → Leads start h → Offers types nodes (end_of start h).world

-- Where a run began: with which machine and at which position, and which types and nodes its commands name.
pub record Origin (M : Type 0) : Type 0 where
  pub first : M
  pub start : Position
  pub types : List (List ℕ)
  pub nodes : ℕ

-- room for the turns that are left, and for so many other entries
abbrev pub room : {M : Type 0} → Run M → ℕ → ℕ
room run others = (most_turns - run.turns) + others

-- the key that was taken last follows itself
abbrev pub Repeats : World → Type 0
Repeats w = following w.last (enabled w) ≡ w.last

-- a process let others go on
abbrev pub IsYield : Entry → Type 0
IsYield e = (u : Uid) × (p : ℕ) × (e.event ≡ event.Process u p Yield)

-- its history leads to a position, for whose world the machine stands, and by whose steps it came to what it is
pub record IsOn {M : Type 0} (stands : Stands M) (did : Did M) (o : Origin M) (others : ℕ) (run : Run M) (p : Position) : Type 0 where
  pub reached : AreReachedFrom o.types o.nodes o.start
  pub leads : Leads o.start run.history.items
  pub at : end_of o.start run.history.items ≡ p
  pub machine : StandsWith stands run.machine (room run others) p.world
  pub came : DidAll did o.first (steps o.start run.history.items) run.machine
  pub turns : p.world.turns ≡ run.turns
  pub last : p.world.last ≡ run.last
  pub again : IsTrue run.again → Repeats p.world

-- the position in this world at which this is due, with these commands behind it
abbrev pub due_in : World → Due → List Command → Position
due_in w due cs = record { world = w; due = due; commands = cs }

-- 2. One turn, and one command

-- which of these keys a turn takes, if any: the one that follows the last, or the one at a place
abbrev pub chosen_by : Choice → World → List Key → Option Key
chosen_by Following w = following w.last
chosen_by (Item i) w = item i

-- the run took a turn of a world by an entry; went tells whether it took a key
pub record Took {M : Type 0} (stands : Stands M) (did : Did M) (others : ℕ) (old new : Run M) (w : World)
    (choose : List Key → Option Key) (went : Bool) (e : Entry) : Type 0 where
  pub grew : new.history.items ≡ old.history.items ++ e ∷ []
  pub turn : IsTurn w choose e
  pub told : is_some (key_of e.event) ≡ went
  pub stays : StandsWith stands new.machine (room new others) (next w None e)
  pub does : DidStep did old.machine (step w e (next w None e)) new.machine
  pub turns : (next w None e).turns ≡ new.turns
  pub last : (next w None e).last ≡ new.last
  pub again : IsTrue new.again → Repeats (next w None e)

-- wherever the old run stands, the new one came of a turn that chose its key so; went tells whether there was one
abbrev pub TakesTurn : {M : Type 0} → Stands M → Did M → Run M → Run M → Choice → Bool → Type 0
TakesTurn stands did old new choice went = (o : Origin _) (others : ℕ) (p : Position) → IsOn stands did o others old p
    → (e : Entry) × Took stands did others old new p.world (chosen_by choice p.world) went e

-- the run carried a command out by an entry
pub record TookCommand {M : Type 0} (stands : Stands M) (did : Did M) (others : ℕ) (old new : Run M) (w : World) (c : Command)
    (e : Entry) : Type 0 where
  pub grew : new.history.items ≡ old.history.items ++ e ∷ []
  pub allowed : Allows w (Some c) e
  pub stays : StandsWith stands new.machine (room new others) (next w (Some c) e)
  pub does : DidStep did old.machine (step w e (next w (Some c) e)) new.machine
  pub turns : (next w (Some c) e).turns ≡ new.turns
  pub last : (next w (Some c) e).last ≡ new.last
  pub again : new.again ≡ false

-- wherever the old run stands with room for one entry more, and this command is fit, the new one came of carrying it out
abbrev pub TakesCommand : {M : Type 0} → Stands M → Did M → Run M → Run M → Command → Type 0
TakesCommand stands did old new c = (o : Origin _) (others : ℕ) (p : Position) → IsFitCommand o.types o.nodes c
    → IsOn stands did o (suc others) old p → (e : Entry) × TookCommand stands did others old new p.world c e

-- memory was wanting in a turn: wherever the old run stands, nothing became of its machine but what was begun
abbrev pub TurnFails : {M : Type 0} → Stands M → Did M → Starved M → Run M → Run M → Type 0
TurnFails stands did starved old new = (o : Origin _) (others : ℕ) (p : Position) → IsOn stands did o others old p
    → Failed starved others old.machine new.machine p.world

-- the same of this command where it is fit, and the old run stands with room for one entry more
abbrev pub CommandFails : {M : Type 0} → Stands M → Did M → Starved M → Run M → Run M → Command → Type 0
CommandFails stands did starved old new c = (o : Origin _) (others : ℕ) (p : Position) → IsFitCommand o.types o.nodes c
    → IsOn stands did o (suc others) old p → Failed starved others old.machine new.machine p.world

-- 3. What is due

-- what is due behind a turn of a `go`: the turns that are left, where it took a key and there are any, else the next command
abbrev pub gone_on : Bool → ℕ → World → List Command → Position
gone_on true zero w cs = at_commands w cs
gone_on true (suc n) w cs = due_in w (turns (suc n)) cs
gone_on false n w cs = at_commands w cs

-- where memory was wanting the history leads on from the start, and the machine came to what it is by its steps and what was begun, with
-- room for so many other entries
pub record EndsShort {M : Type 0} (stands : Stands M) (did : Did M) (starved : Starved M) (o : Origin M) (others : ℕ) (run : Run M)
    : Type 0 where
  pub leads : Leads o.start run.history.items
  pub came : DidPart stands did starved others o.first (steps o.start run.history.items) (end_of o.start run.history.items).world
      run.machine

-- all that is due here was carried out, and the next command is to be begun
abbrev pub DoesDue : {M : Type 0} → Stands M → Did M → Run M → Run M → Due → Type 0
DoesDue stands did old new due = (o : Origin _) (others : ℕ) (w : World) (cs : List Command)
    → IsOn stands did o others old (due_in w due cs)
    → (later : World) × IsOn stands did o others new (at_commands later cs)

-- what is due here was carried out up to where memory was wanting
abbrev pub PartOfDue : {M : Type 0} → Stands M → Did M → Starved M → Run M → Run M → Due → Type 0
PartOfDue stands did starved old new due = (o : Origin _) (others : ℕ) (w : World) (cs : List Command)
    → IsOn stands did o others old (due_in w due cs) → EndsShort stands did starved o others new

-- 4. Commands

-- the next command, where it is fit, was carried out with its turns, and the one behind it is to be begun
abbrev pub CarriesCommand : {M : Type 0} → Stands M → Did M → Run M → Run M → Command → Type 0
CarriesCommand stands did old new c = (o : Origin _) (others : ℕ) (w : World) (cs : List Command) → IsFitCommand o.types o.nodes c
    → IsOn stands did o (entries_of c + others) old (at_commands w (c ∷ cs))
    → (later : World) × IsOn stands did o others new (at_commands later cs)

-- the next command, where it is fit, was carried out up to where memory was wanting
abbrev pub PartOfCommand : {M : Type 0} → Stands M → Did M → Starved M → Run M → Run M → Command → Type 0
PartOfCommand stands did starved old new c = (o : Origin _) (others : ℕ) (w : World) (cs : List Command) → IsFitCommand o.types o.nodes c
    → IsOn stands did o (entries_of c + others) old (at_commands w (c ∷ cs)) → EndsShort stands did starved o others new

-- 5. What entries show, whatever world the machine stands for

-- where the old history shows how the old machine came of a first one, the new history shows so of the new machine
abbrev pub KeepsShown : {M : Type 0} → Shows M → Run M → Run M → Type 0
KeepsShown shows old new = (first : _) → ShowsAll shows first old.history.items old.machine
    → ShowsAll shows first new.history.items new.machine

-- the same, but of the new machine up to where no memory was found
abbrev pub KeepsShownSoFar : {M : Type 0} → Shows M → Whole M → Leaves M → Run M → Run M → Type 0
KeepsShownSoFar shows whole leaves old new = (first : _) → ShowsAll shows first old.history.items old.machine
    → ShowsPart shows whole leaves first new.history.items new.machine

-- 6. Numbers of calls

-- how many calls there are at most once the turns that are left, and so many other entries, have asked one each
abbrev pub calls_by : {M : Type 0} → (M → ℕ) → Run M → ℕ → ℕ
calls_by asked run others = asked run.machine + room run others

-- there is a number for each of them
abbrev pub HasNumbers : {M : Type 0} → (M → ℕ) → Run M → ℕ → Type 0
HasNumbers asked run others = calls_by asked run others ≤ most_calls

-- there are no more of them than before, where so many other entries were left, and so many are
abbrev pub SparesNumbers : {M : Type 0} → (M → ℕ) → Run M → ℕ → Run M → ℕ → Type 0
SparesNumbers asked old others new left = calls_by asked new left ≤ calls_by asked old others

-- 7. The whole

-- Nothing has happened, and the machine stands for the opening world with room for all that a script gives, and for so many entries to
-- spare. Its commands are fit, and the worlds on its way are as machines take them.
pub record MayBegin {M : Type 0} (stands : Stands M) (run : Run M) (opening : World) (types : List (List ℕ)) (nodes : ℕ)
    (cs : List Command) (spare : ℕ) : Type 0 where
  pub history : run.history.items ≡ []
  pub turns : (run.turns ≡ 0) × (opening.turns ≡ 0)
  pub last : (run.last ≡ None) × (opening.last ≡ None)
  pub again : run.again ≡ false
  pub machine : StandsWith stands run.machine (most_entries nodes cs + spare) opening
  pub commands : All (IsFitCommand types nodes) cs
  pub reached : AreReachedFrom types nodes (beginning opening nodes cs)

-- The history follows the script. The machine came to what it is by its steps, and stands for the last world, with room for what was to
-- spare.
pub record IsDone {M : Type 0} (stands : Stands M) (did : Did M) (first : M) (run : Run M) (opening : World) (nodes : ℕ)
    (cs : List Command) (spare : ℕ) : Type 0 where
  pub follows : Follows opening nodes cs run.history.items
  pub came : DidAll did first (steps (beginning opening nodes cs) run.history.items) run.machine
  pub stays : StandsWith stands run.machine spare (world_after opening nodes cs run.history.items)

-- The history follows the script so far. The machine came to what it is by its steps, and what was begun when memory was wanting, with room
-- for what was to spare.
pub record IsCutShort {M : Type 0} (stands : Stands M) (did : Did M) (starved : Starved M) (first : M) (run : Run M) (opening : World)
    (nodes : ℕ) (cs : List Command) (spare : ℕ) : Type 0 where
  pub begins : FollowsSoFar opening nodes cs run.history.items
  pub came : DidPart stands did starved spare first (steps (beginning opening nodes cs) run.history.items)
      (world_after opening nodes cs run.history.items) run.machine

-- over whatever opening world the old run may begin with these commands, the new one is done with them
abbrev pub CarriesAll : {M : Type 0} → Stands M → Did M → Run M → Run M → ℕ → List Command → Type 0
CarriesAll stands did old new nodes cs = (opening : World) (types : List (List ℕ)) (spare : ℕ)
    → MayBegin stands old opening types nodes cs spare → IsDone stands did old.machine new opening nodes cs spare

-- over whatever opening world the old run may begin with these commands, the new one was cut short for want of memory
abbrev pub CarriesPart : {M : Type 0} → Stands M → Did M → Starved M → Run M → Run M → ℕ → List Command → Type 0
CarriesPart stands did starved old new nodes cs = (opening : World) (types : List (List ℕ)) (spare : ℕ)
    → MayBegin stands old opening types nodes cs spare → IsCutShort stands did starved old.machine new opening nodes cs spare
