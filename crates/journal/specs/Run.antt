-- Which histories follow a script: a position says what is due next, and each entry leads to one position.
use Rattle.std.specs.Prelude.{◌≡◌, ℕ, zero, suc, ◌+◌, ◌-◌, ◌==◌, pos, nat_le, Bool, true, false, cond, List, [], ◌∷◌, Option, None, Some}
use Rattle.std.specs.Prelude.{codes}
use Rattle.capability.specs.declared.Cap.{Cap}
use Rattle.eden_value.specs.Datum.{Datum, text, number}
use Rattle.eden_model.specs.Map.{with_item}
use Rattle.eden_model.specs.Traffic.{call_at}
use Rattle.journal.specs.declared.command.Command.{Command}
use Rattle.journal.specs.declared.command.Command.TheVariants as command
use Rattle.journal.specs.declared.event.Key.{Key}
use Rattle.journal.specs.declared.event.Event.{Event}
use Rattle.journal.specs.declared.event.Event.TheVariants as event
use Rattle.journal.specs.declared.event.Entry.{Entry}
use Rattle.journal.specs.World.{World}
use Rattle.journal.specs.References.{value_at_name, present_cap, cap_at}
use Rattle.journal.specs.Commands.{AllowsAsked, asked}
use Rattle.journal.specs.Enabled.{enabled, item, following}
use Rattle.journal.specs.Step.{Allows, next, key_of}

-- 1. Turns

-- how many turns are taken in a run at most
abbrev pub most_turns : ℕ
most_turns = 100000

-- whether the run has taken as many turns as it may
abbrev pub is_spent : World → Bool
is_spent w = nat_le most_turns w.turns

-- the key that a turn takes, if it takes one
abbrev pub taken_key : World → (List Key → Option Key) → Option Key
taken_key w choose = cond (is_spent w) None (choose (enabled w))

-- the event of a turn that takes no key
abbrev pub idle : World → Event
idle w = cond (is_spent w) event.Spent event.Quiet

-- where a turn takes no key, its event is the idle one; where it takes one, nothing is said of the event
abbrev pub IdleIf : Option Key → Event → World → Type 0
IdleIf (Some k) e w = Unit {0}
IdleIf None e w = e ≡ idle w

-- an entry is the turn of the key that `choose` gives of the enabled ones, or an idle turn where none is taken
pub record IsTurn (w : World) (choose : List Key → Option Key) (e : Entry) : Type 0 where
  -- its event has the key that is taken, or none where none is
  pub key : key_of e.event ≡ taken_key w choose
  -- where none is taken, it is `quiet`, or `spent` once all turns were taken
  pub none_taken : IdleIf (taken_key w choose) e.event w
  -- the world allows it in a turn
  pub allowed : Allows w None e

-- 2. What is due

-- what may be due next on the way through a script
pub data Due : Type 0 where
  -- this node is booted, and so many after it
  boots : ℕ → ℕ → Due
  -- a command that gives one entry
  command_is : Command → Due
  -- `turn i`
  turn_is : ℕ → Due
  -- a `go` has so many turns left to take
  turns : ℕ → Due
  -- a walk under this name asks this directory, if it is one, for the first of these components
  looks_up : List ℕ → Option Cap → List (List ℕ) → Due
  -- a walk under this name takes turns until this call is answered, and then goes on with these components
  waits_for : List ℕ → ℕ → List (List ℕ) → Due
  -- the script is over
  over : Due

-- a world on the way through a script, what is due, and the commands behind it
pub record Position : Type 0 where
  -- the world as the entries so far left it
  pub world : World
  -- what is due next: a boot, a command, a turn, a part of a walk, or nothing
  pub due : Due
  -- the commands that come behind what is due, in order
  pub commands : List Command

-- the components of a path with a byte in front of the first of them; where there is none, the byte is one by itself
abbrev pub joined_to : ℕ → List (List ℕ) → List (List ℕ)
joined_to b [] = (b ∷ []) ∷ []
joined_to b (c ∷ cs) = (b ∷ c) ∷ cs

-- the parts of a path between its slashes, in order; an empty path has one, which is empty
abbrev pub components : List ℕ → List (List ℕ)
components [] = [] ∷ []
components (b ∷ bs) = cond (b == 47) ([] ∷ components bs) (joined_to b (components bs))

-- what is due as this command begins
abbrev pub due_by : World → Command → Due
due_by w (command.Turn i) = turn_is i
due_by w (command.Go n) = turns n
due_by w (command.Walk name target path) = looks_up name (cap_at w target) (components path)
due_by w c = command_is c

-- the position where the next command is to be begun; where none is left, the script is over
abbrev pub at_commands : World → List Command → Position
at_commands w [] = record { world = w; due = over; commands = [] }
at_commands w (c ∷ cs) = record { world = w; due = due_by w c; commands = cs }

-- 3. Which entry is due

-- the arguments of a walk's call: the first of these components as a text, or none where there is no component
abbrev pub lookup_args : List (List ℕ) → List Datum
lookup_args [] = []
lookup_args (c ∷ cs) = text c ∷ []

-- the world after the event with which a walk asks: its call is made, where it has a directory to ask
abbrev pub looked_up : World → List ℕ → Option Cap → List (List ℕ) → Event → World
looked_up w name (Some target) cs (event.Asked k said at_once) = asked name target (codes "LookUp") (lookup_args cs) k at_once w
looked_up w name target cs e = w

-- which event a walk may have as it asks: the call under its name, or `void` where it has no directory to ask
abbrev pub AllowsLookUp : World → List ℕ → Option Cap → List (List ℕ) → Event → Type 0
AllowsLookUp w name (Some target) cs (event.Asked k said at_once) = (said ≡ name) × AllowsAsked w k at_once target (lookup_args cs)
AllowsLookUp w name None cs (event.Void said) = said ≡ name
AllowsLookUp w name target cs _ = ⊥

-- an entry that touches no disk and breaks no call
pub record IsPlain (e : Entry) : Type 0 where
  -- no disk is touched
  pub disk : e.node ≡ 0
  -- its clock is 0, which stands for none
  pub clock : e.clock ≡ 0
  -- no call of the shell is answered `broken`
  pub broken : e.broken ≡ []

-- an entry that may come in this world where this is due
abbrev pub IsDueBy : World → Due → Entry → Type 0
IsDueBy w (boots n more) e = Allows w (Some (command.Restart n)) e
IsDueBy w (command_is c) e = Allows w (Some c) e
IsDueBy w (turn_is i) e = IsTurn w (item i) e
IsDueBy w (turns n) e = IsTurn w (following w.last) e
IsDueBy w (looks_up name target cs) e = AllowsLookUp w name target cs e.event × IsPlain e
IsDueBy w (waits_for name k cs) e = IsTurn w (following w.last) e
IsDueBy w over e = ⊥

-- an entry that may come next at this position
abbrev pub IsDue : Position → Entry → Type 0
IsDue p e = IsDueBy p.world p.due e

-- 4. Where an entry leads

-- the boot of node n comes next, while so many nodes are left to boot; where none is left, the commands begin
abbrev pub booting : ℕ → ℕ → World → List Command → Position
booting n zero w cs = at_commands w cs
booting n (suc more) w cs = record { world = w; due = boots n more; commands = cs }

-- the position after a turn of a `go` that has n more to take: where the turn took no key, or n is 0, the `go` is at its end
abbrev pub going : Option Key → ℕ → World → List Command → Position
going None n w cs = at_commands w cs
going (Some k) zero w cs = at_commands w cs
going (Some k) (suc n) w cs = record { world = w; due = turns (suc n); commands = cs }

-- whether a value is the number 0
abbrev pub is_zero : Datum → Bool
is_zero (number (pos zero)) = true
is_zero _ = false

-- the capability that a walk's last call gave as its second result, if it gave one
abbrev pub next_directory : World → List ℕ → Option Cap
next_directory w name = with_item (value_at_name w name 2) present_cap None

-- whether the first result of a walk's last call is 0
abbrev pub is_found : World → List ℕ → Bool
is_found w name = with_item (value_at_name w name 1) is_zero false

-- the call of a walk was answered: where components are left and the call gave 0 first, the walk goes on, else it ends
abbrev pub walked : World → List ℕ → List (List ℕ) → List Command → Position
walked w name [] cs = at_commands w cs
walked w name (c ∷ more) cs =
    cond (is_found w name) (record { world = w; due = looks_up name (next_directory w name) (c ∷ more); commands = cs }) (at_commands w cs)

-- whether the call is still open; false where there is none of this number
abbrev pub is_open_call : World → ℕ → Bool
is_open_call w k = with_item (call_at w.traffic k) (λ c. c.open_) false

-- the position after a turn of a walk: it waits on while its call is open, and then goes on; a turn that takes no key ends it
abbrev pub walking : Option Key → List ℕ → ℕ → List (List ℕ) → World → List Command → Position
walking None name k more w cs = at_commands w cs
walking (Some key) name k more w cs = cond (is_open_call w k) (record { world = w; due = waits_for name k more; commands = cs })
    (walked w name more cs)

-- the components behind the first of them
abbrev pub after_first : List (List ℕ) → List (List ℕ)
after_first [] = []
after_first (c ∷ cs) = cs

-- the position once a walk has asked: it waits for its call; where that was answered at once, or the walk is void, it ends
abbrev pub sent_look_up : List ℕ → List (List ℕ) → Event → World → List Command → Position
sent_look_up name more (event.Asked k said None) w cs = record { world = w; due = waits_for name k more; commands = cs }
sent_look_up name more e w cs = at_commands w cs

-- the position to which an entry leads where this was due
abbrev pub led : Position → Due → Entry → Position
led p (boots n more) e = booting (n + 1) more (next p.world (Some (command.Restart n)) e) p.commands
led p (command_is c) e = at_commands (next p.world (Some c) e) p.commands
led p (turn_is i) e = at_commands (next p.world None e) p.commands
led p (turns n) e = going (key_of e.event) (n - 1) (next p.world None e) p.commands
led p (looks_up name target cs) e = sent_look_up name (after_first cs) e.event (looked_up p.world name target cs e.event) p.commands
led p (waits_for name k cs) e = walking (key_of e.event) name k cs (next p.world None e) p.commands
led p over e = p

-- the position after an entry
abbrev pub lead : Position → Entry → Position
lead p e = led p p.due e

-- 5. Histories

-- the position after a history
abbrev pub end_of : Position → List Entry → Position
end_of p [] = p
end_of p (e ∷ es) = end_of (lead p e) es

-- each entry is due at its position
abbrev pub Leads : Position → List Entry → Type 0
Leads p [] = Unit {0}
Leads p (e ∷ es) = IsDue p e × Leads (lead p e) es

-- the position before the first entry: nodes 1 to n are to be booted
abbrev pub beginning : World → ℕ → List Command → Position
beginning w n cs = booting 1 n w cs

-- the entries are those that the script gives, up to its end
pub record Follows (opening : World) (nodes : ℕ) (cs : List Command) (history : List Entry) : Type 0 where
  -- each entry is due, from the first boot on
  pub leads : Leads (beginning opening nodes cs) history
  -- nothing of the script is left behind the last entry
  pub whole : (end_of (beginning opening nodes cs) history).due ≡ over

-- the entries are those with which the script begins: each is due, whether or not something is left behind the last
abbrev pub FollowsSoFar : World → ℕ → List Command → List Entry → Type 0
FollowsSoFar opening nodes cs history = Leads (beginning opening nodes cs) history

-- the world after a history that begins in this opening world
abbrev pub world_after : World → ℕ → List Command → List Entry → World
world_after opening nodes cs history = (end_of (beginning opening nodes cs) history).world

-- an entry with the worlds before and after it
pub record Step : Type 0 where
  -- the world in which the entry came
  pub world : World
  -- what happened, with the disk that it touched and the shell's calls that it broke
  pub entry : Entry
  -- the world as the entry left it
  pub later : World

-- the steps of these entries, in order, from a position on
abbrev pub steps : Position → List Entry → List Step
steps p [] = []
steps p (e ∷ es) = record { world = p.world; entry = e; later = (lead p e).world } ∷ steps (lead p e) es

-- P holds of each step, with the steps before it, the newest first
abbrev pub EachStep : (List Step → Step → Type 0) → List Step → List Step → Type 0
EachStep P past [] = Unit {0}
EachStep P past (s ∷ later) = P past s × EachStep P (s ∷ past) later
