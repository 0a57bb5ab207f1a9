-- Every step of every history: what is shown of each entry that is allowed, and of each look-up of a walk, holds of all steps.
use Rattle.std.proofs.Common.{◌≡◌, ◌+◌, ◌-◌, ℕ, zero, suc, Bool, true, false, cond, List, [], ◌∷◌, Option, None, Some, is_some, refl}
use Rattle.std.proofs.Common.{sym, subst}
use Rattle.std.specs.Prelude.{IfSome}
use Rattle.capability.specs.declared.Cap.{Cap}
use Rattle.eden_model.specs.Map.{with_item}
use Rattle.journal.specs.References.{value_at_name, present_cap, cap_at}
use Rattle.journal.specs.declared.command.Command.{Command}
use Rattle.journal.specs.declared.command.Command.TheVariants as command
use Rattle.journal.specs.declared.event.Key.{Key}
use Rattle.journal.specs.declared.event.Event.{Event}
use Rattle.journal.specs.declared.event.Event.TheVariants as event
use Rattle.journal.specs.declared.event.Entry.{Entry}
use Rattle.journal.specs.World.{World}
use Rattle.journal.specs.Commands.{AllowsCommand}
use Rattle.journal.specs.Step.{Allows, next, key_of}
use Rattle.journal.specs.Run.{Due, boots, command_is, turn_is, turns, looks_up, waits_for, over, Position, Step, IsDue, IsPlain}
use Rattle.journal.specs.Run.{AllowsLookUp, at_commands, booting, going, walking, walked, sent_look_up, is_open_call, is_found}
use Rattle.journal.specs.Run.{next_directory, looked_up, lead, end_of, Leads, EachStep, steps}

-- 1. Where a position leads: to the world after its entry

pub world-at_commands : (w : World) (cs : List Command) → (at_commands w cs).world ≡ w
world-at_commands w [] = refl
world-at_commands w (c ∷ cs) = refl

pub world-booting : (n more : ℕ) (w : World) (cs : List Command) → (booting n more w cs).world ≡ w
world-booting n zero w cs = world-at_commands w cs
world-booting n (suc more) w cs = refl

world-going : (k : Option Key) (n : ℕ) (w : World) (cs : List Command) → (going k n w cs).world ≡ w
world-going None n w cs = world-at_commands w cs
world-going (Some k) zero w cs = world-at_commands w cs
world-going (Some k) (suc n) w cs = refl

world-walked : (w : World) (name : List ℕ) (more : List (List ℕ)) (cs : List Command) → (walked w name more cs).world ≡ w
world-walked w name [] cs = world-at_commands w cs
world-walked w name (c ∷ more) cs = elim (is_found w name) as
    (λ b. (cond b (record { world = w; due = looks_up name (next_directory w name) (c ∷ more); commands = cs }) (at_commands w cs)).world
    ≡ w)
    [ true ↦ refl | false ↦ world-at_commands w cs ]

world-walking : (k : Option Key) (name : List ℕ) (call : ℕ) (more : List (List ℕ)) (w : World) (cs : List Command)
    → (walking k name call more w cs).world ≡ w
world-walking None name call more w cs = world-at_commands w cs
world-walking (Some key) name call more w cs = elim (is_open_call w call) as
    (λ b. (cond b (record { world = w; due = waits_for name call more; commands = cs }) (walked w name more cs)).world ≡ w)
    [ true ↦ refl | false ↦ world-walked w name more cs ]

world-sent : (name : List ℕ) (more : List (List ℕ)) (e : Event) (w : World) (cs : List Command) → (sent_look_up name more e w cs).world ≡ w
world-sent name more (event.Asked k said None) w cs = refl
world-sent name more _ w cs = world-at_commands w cs

-- 2. What a command is no event of

-- an event of a turn
abbrev pub is_turn : Event → Bool
is_turn e = is_some (key_of e)

pub no-turn : (w : World) (c : Command) (e : Event) → is_turn e ≡ true → AllowsCommand w c e → ⊥
no-turn w (command.Create name n type_name) (event.Made said s u) is allowed = cc
no-turn w (command.Hold name u) (event.Bound said held) is allowed = cc
no-turn w (command.Restrict name target mask) (event.Bound said held) is allowed = cc
no-turn w (command.Restrict name target mask) (event.Void said) is allowed = cc
no-turn w (command.Call name target operation args) (event.Asked k said at_once) is allowed = cc
no-turn w (command.Call name target operation args) (event.Void said) is allowed = cc
no-turn w (command.Crash n mode) (event.Crash m) is allowed = cc
no-turn w (command.Crash n mode) (event.Still m up) is allowed = cc
no-turn w (command.Restart n) (event.Still m up) is allowed = cc
no-turn w (command.Restart n) (event.Boot m e how p began) is allowed = cc
no-turn w (command.Cut a b) (event.Link c d joined) is allowed = cc
no-turn w (command.Join a b) (event.Link c d joined) is allowed = cc
no-turn w (command.Fail n after) (event.Armed m what) is allowed = cc
no-turn w (command.Stop n after mode) (event.Armed m what) is allowed = cc
no-turn w command.End (event.Left names) is allowed = cc
no-turn w _ _ is allowed = allowed

-- 3. Steps

abbrev pub step : World → Entry → World → Step
step w e later = record { world = w; entry = e; later = later }

-- P holds of a step, and I of the world and the past behind it
abbrev pub Shows : (List Step → World → Type 0) → (List Step → Step → Type 0) → List Step → World → Entry → World → Type 0
Shows I P past w e later = P past (step w e later) × I (step w e later ∷ past) later

-- the capability is what a name of the script stands for
abbrev pub IsNamed : World → Cap → Type 0
IsNamed w c = (name : List ℕ) × (k : ℕ) × (with_item (value_at_name w name k) present_cap None ≡ Some c)

-- I is kept by every entry, and where it holds, P holds of the step; C holds of the commands
pub record IsKept (C : Command → Type 0) (I : List Step → World → Type 0) (P : List Step → Step → Type 0) : Type 0 where
  pub entries : (past : List Step) (w : World) (c : Option Command) (e : Entry) → IfSome c C → Allows w c e → I past w
      → Shows I P past w e (next w c e)
  pub look_ups : (past : List Step) (w : World) (name : List ℕ) (target : Option Cap) (path : List (List ℕ)) (e : Entry)
      → IfSome target (IsNamed w)
      → AllowsLookUp w name target path e.event → IsPlain e → I past w → Shows I P past w e (looked_up w name target path e.event)

-- C holds of the commands that are due and left
abbrev pub EachOf : (Command → Type 0) → List Command → Type 0
EachOf C [] = Unit {0}
EachOf C (c ∷ cs) = C c × EachOf C cs

abbrev pub DueOf : (Command → Type 0) → World → Due → Type 0
DueOf C w (boots n more) = (m : ℕ) → C (command.Restart m)
DueOf C w (command_is c) = C c
DueOf C w (looks_up name target path) = IfSome target (IsNamed w)
DueOf C w _ = Unit {0}

pub record IsOf (C : Command → Type 0) (p : Position) : Type 0 where
  pub due : DueOf C p.world p.due
  pub left : EachOf C p.commands

named-cap : (w : World) (name : List ℕ) (k : ℕ) (o : Option Cap) → with_item (value_at_name w name k) present_cap None ≡ o
    → IfSome o (IsNamed w)
named-cap w name k None is = tt
named-cap w name k (Some c) is = (name, k, is)

of-commands : (C : Command → Type 0) (w : World) (cs : List Command) → EachOf C cs → IsOf C (at_commands w cs)
of-commands C w [] all = record { due = tt; left = tt }
of-commands C w (command.Create name n type_name ∷ cs) all = record { due = all.0; left = all.1 }
of-commands C w (command.Hold name u ∷ cs) all = record { due = all.0; left = all.1 }
of-commands C w (command.Restrict name target mask ∷ cs) all = record { due = all.0; left = all.1 }
of-commands C w (command.Call name target operation args ∷ cs) all = record { due = all.0; left = all.1 }
of-commands C w (command.Walk name target path ∷ cs) all =
    record { due = named-cap w target.name target.result (cap_at w target) refl; left = all.1 }
of-commands C w (command.Turn i ∷ cs) all = record { due = tt; left = all.1 }
of-commands C w (command.Go n ∷ cs) all = record { due = tt; left = all.1 }
of-commands C w (command.Crash n mode ∷ cs) all = record { due = all.0; left = all.1 }
of-commands C w (command.Restart n ∷ cs) all = record { due = all.0; left = all.1 }
of-commands C w (command.Cut a b ∷ cs) all = record { due = all.0; left = all.1 }
of-commands C w (command.Join a b ∷ cs) all = record { due = all.0; left = all.1 }
of-commands C w (command.Fail n after ∷ cs) all = record { due = all.0; left = all.1 }
of-commands C w (command.Stop n after mode ∷ cs) all = record { due = all.0; left = all.1 }
of-commands C w (command.End ∷ cs) all = record { due = all.0; left = all.1 }

pub of-booting : (C : Command → Type 0) → ((m : ℕ) → C (command.Restart m)) → (n more : ℕ) (w : World) (cs : List Command) → EachOf C cs
    → IsOf C (booting n more w cs)
of-booting C restarts n zero w cs all = of-commands C w cs all
of-booting C restarts n (suc more) w cs all = record { due = restarts; left = all }

of-going : (C : Command → Type 0) (k : Option Key) (n : ℕ) (w : World) (cs : List Command) → EachOf C cs → IsOf C (going k n w cs)
of-going C None n w cs all = of-commands C w cs all
of-going C (Some k) zero w cs all = of-commands C w cs all
of-going C (Some k) (suc n) w cs all = record { due = tt; left = all }

of-walked : (C : Command → Type 0) (w : World) (name : List ℕ) (more : List (List ℕ)) (cs : List Command) → EachOf C cs
    → IsOf C (walked w name more cs)
of-walked C w name [] cs all = of-commands C w cs all
of-walked C w name (c ∷ more) cs all = elim (is_found w name) as
    (λ b. IsOf C (cond b (record { world = w; due = looks_up name (next_directory w name) (c ∷ more); commands = cs }) (at_commands w cs)))
    [ true ↦ record { due = named-cap w name 2 (next_directory w name) refl; left = all } | false ↦ of-commands C w cs all ]

of-walking : (C : Command → Type 0) (k : Option Key) (name : List ℕ) (call : ℕ) (more : List (List ℕ)) (w : World) (cs : List Command)
    → EachOf C cs → IsOf C (walking k name call more w cs)
of-walking C None name call more w cs all = of-commands C w cs all
of-walking C (Some key) name call more w cs all = elim (is_open_call w call) as
    (λ b. IsOf C (cond b (record { world = w; due = waits_for name call more; commands = cs }) (walked w name more cs)))
    [ true ↦ record { due = tt; left = all } | false ↦ of-walked C w name more cs all ]

of-sent : (C : Command → Type 0) (name : List ℕ) (more : List (List ℕ)) (e : Event) (w : World) (cs : List Command) → EachOf C cs
    → IsOf C (sent_look_up name more e w cs)
of-sent C name more (event.Asked k said None) w cs all = record { due = tt; left = all }
of-sent C name more _ w cs all = of-commands C w cs all

of-led : (C : Command → Type 0) (w : World) (due : Due) (cs : List Command) (e : Entry)
    → IsDue (record { world = w; due = due; commands = cs }) e → DueOf C w due → EachOf C cs
    → IsOf C (lead (record { world = w; due = due; commands = cs }) e)
of-led C w (boots n more) cs e is due all = of-booting C due (n + 1) more (next w (Some (command.Restart n)) e) cs all
of-led C w (command_is c) cs e is due all = of-commands C (next w (Some c) e) cs all
of-led C w (turn_is i) cs e is due all = of-commands C (next w None e) cs all
of-led C w (turns n) cs e is due all = of-going C (key_of e.event) (n - 1) (next w None e) cs all
of-led C w (looks_up name target path) cs e is due all = of-sent C name _ e.event (looked_up w name target path e.event) cs all
of-led C w (waits_for name k path) cs e is due all = of-walking C (key_of e.event) name k path (next w None e) cs all
of-led C w over cs e is due all = absurd is

shows-led : (C : Command → Type 0) (I : List Step → World → Type 0) (P : List Step → Step → Type 0) → IsKept C I P
    → (past : List Step) (w : World) (due : Due) (cs : List Command) (e : Entry)
    → IsDue (record { world = w; due = due; commands = cs }) e → DueOf C w due → I past w
    → Shows I P past w e (lead (record { world = w; due = due; commands = cs }) e).world
shows-led C I P kept past w due cs e is of i = go due is of
  where
    at : (later led : World) → led ≡ later → Shows I P past w e later → Shows I P past w e led
    at later led same x = subst (Shows I P past w e) (sym same) x

    go : (due : Due) → IsDue (record { world = w; due = due; commands = cs }) e → DueOf C w due
        → Shows I P past w e (lead (record { world = w; due = due; commands = cs }) e).world
    go (boots n more) d of = at (next w (Some (command.Restart n)) e) _
        (world-booting (n + 1) more (next w (Some (command.Restart n)) e) cs) (kept.entries past w (Some (command.Restart n)) e (of n) d i)
    go (command_is c) d of = at (next w (Some c) e) _ (world-at_commands (next w (Some c) e) cs) (kept.entries past w (Some c) e of d i)
    go (turn_is k) d of = at (next w None e) _ (world-at_commands (next w None e) cs) (kept.entries past w None e tt d.allowed i)
    go (turns n) d of = at (next w None e) _ (world-going (key_of e.event) (n - 1) (next w None e) cs)
        (kept.entries past w None e tt d.allowed i)
    go (looks_up name target path) d of = at (looked_up w name target path e.event) _
        (world-sent name _ e.event (looked_up w name target path e.event) cs) (kept.look_ups past w name target path e of d.0 d.1 i)
    go (waits_for name k path) d of = at (next w None e) _ (world-walking (key_of e.event) name k path (next w None e) cs)
        (kept.entries past w None e tt d.allowed i)
    go over d of = absurd d

pub each-step : (C : Command → Type 0) (I : List Step → World → Type 0) (P : List Step → Step → Type 0) → IsKept C I P
    → (p : Position) (past : List Step) (history : List Entry) → IsOf C p → I past p.world → Leads p history
    → EachStep P past (steps p history)
each-step C I P kept p past [] of i leads = tt
each-step C I P kept p past (e ∷ es) of i leads = let x = shows-led C I P kept past p.world p.due p.commands e leads.0 of.due i in (
  x.0,
  each-step C I P kept (lead p e) (step p.world e (lead p e).world ∷ past) es
      (of-led C p.world p.due p.commands e leads.0 of.due of.left) x.1 leads.1,
)

-- what every entry keeps holds at the end
pub end-keeps : (C : Command → Type 0) (I : World → Type 0) → IsKept C (λ past w. I w) (λ past s. Unit {0})
    → (p : Position) (past : List Step) (history : List Entry) → IsOf C p → I p.world → Leads p history → I (end_of p history).world
end-keeps C I kept p past [] of i leads = i
end-keeps C I kept p past (e ∷ es) of i leads = end-keeps C I kept (lead p e) (step p.world e (lead p e).world ∷ past) es
    (of-led C p.world p.due p.commands e leads.0 of.due of.left)
    (shows-led C (λ past w. I w) (λ past s. Unit {0}) kept past p.world p.due p.commands e leads.0 of.due i).1 leads.1

-- any commands
abbrev pub Any : Command → Type 0
Any c = Unit {0}

each-any : (cs : List Command) → EachOf Any cs
each-any [] = tt
each-any (c ∷ cs) = (tt, each-any cs)

pub of-any : (n more : ℕ) (w : World) (cs : List Command) → IsOf Any (booting n more w cs)
of-any n more w cs = of-booting Any (λ m. tt) n more w cs (each-any cs)

-- 4. A look-up of a walk changes no node

pub nodes-looked_up : (w : World) (name : List ℕ) (target : Option Cap) (path : List (List ℕ)) (e : Event)
    → (looked_up w name target path e).nodes ≡ w.nodes
nodes-looked_up w name (Some target) path (event.Asked k said at_once) = refl
nodes-looked_up w name target path _ = refl
