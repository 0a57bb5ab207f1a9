-- What the shell asks is within the limits: the arguments of each `call` of a fit script, and what is left of the path of each walk.
use Rattle.std.proofs.Common.{◌≡◌, ◌+◌, ◌-◌, ℕ, zero, suc, Bool, true, false, cond, List, [], ◌∷◌, Option, None, Some, refl, sym, ◌∙◌, ap}
use Rattle.std.proofs.Common.{subst}
use Rattle.std.specs.Prelude.{IsSomeAnd}
use Rattle.std.specs.Cmp.{nat_cmp_total, eq_by_cmp_equiv}
use Rattle.std.specs.FinMap.Entries.{find-put}
use Rattle.std.specs.List.{All}
use Rattle.std.specs.Ordering.{nat_cmp}
use Rattle.std.proofs.lemmas.List.Elements.{All-head, All-tail}
use Rattle.capability.specs.declared.Cap.{Cap}
use Rattle.eden_value.specs.Datum.{Datum, cap}
use Rattle.eden_value.specs.Limits.{IsText}
use Rattle.eden_value.specs.declared.status.Status.{Status}
use Rattle.eden_model.specs.Map.{with_item}
use Rattle.eden_model.specs.Traffic.{Call, call_at, new_call}
use Rattle.eden_model.specs.declared.Asker.{Asker}
use Rattle.eden_model.specs.declared.Asker.TheVariants.{Shell}
use Rattle.journal.specs.Commands.{AllowsCommand, AllowsAsked, asked, asked_by, ready_call}
use Rattle.journal.specs.Fit.{ArgumentsFit, PathFits}
use Rattle.journal.specs.References.{cap_at, args_of}
use Rattle.journal.specs.Run.{Due, boots, command_is, turn_is, turns, looks_up, waits_for, over, Position, Step, IsDue, EachStep, Leads}
use Rattle.journal.specs.Run.{steps, at_commands, booting, going, walking, walked, AllowsLookUp, sent_look_up, due_by, lead, is_found}
use Rattle.journal.specs.Run.{is_open_call, lookup_args, looked_up, after_first}
use Rattle.journal.specs.Step.{Allows, AllowsInTurn, next, after_command, key_of}
use Rattle.journal.specs.World.{World}
use Rattle.journal.specs.declared.command.Command.{Command}
use Rattle.journal.specs.declared.command.Command.TheVariants as command
use Rattle.journal.specs.declared.event.Entry.{Entry}
use Rattle.journal.specs.declared.event.Event.{Event}
use Rattle.journal.specs.declared.event.Event.TheVariants as event
use Rattle.journal.specs.declared.event.Key.{Key}
use Rattle.journal.proofs.FitValues.{arguments-are-values, components-are-texts}
use Rattle.history_laws.proofs.CutOff.{traffic-counted}
use Rattle.history_laws.proofs.Runs.{step, EachOf, world-at_commands, world-booting}
use Rattle.value_laws.specs.Limited.{IsLimited, AreLimited}
use Rattle.value_laws.proofs.Calls.{Answered, Asked}
use Rattle.value_laws.proofs.Names.{NamesLimited, names-are-values, cap-limited}
use Rattle.value_laws.proofs.Values.{values_limited}
use Rattle.value_laws.proofs.WorldCalls.{ShellAsks}

-- 1. A command

pub shell-asks : (w : World) (c : Command) → ArgumentsFit c → NamesLimited w.names → ShellAsks Answered Asked w c
shell-asks w (command.Call said target operation args) fit names = λ k x is. go (cap_at w target) refl (args_of w args) refl x is
  where
    go : (t : Option Cap) → cap_at w target ≡ t → (a : Option (List Datum)) → args_of w args ≡ a → (x : Cap × List Datum)
        → with_item t (λ c. with_item a (λ ds. Some (c, ds)) None) None ≡ Some x → IsLimited (cap (Some x.0)) × AreLimited x.1
    go None at a is x e = absurd (cc e)
    go (Some c) at None is x e = absurd (cc e)
    go (Some c) at (Some ds) is x e =
        let same : (c, ds) ≡ x = cc e in
        let values = arguments-are-values w args ds (names-are-values w names) fit is in
        subst (λ (y : Cap × List Datum). IsLimited (cap (Some y.0)) × AreLimited y.1) same
        (cap-limited w names target c at, values_limited ds values.0 values.1)
shell-asks w _ fit names = tt

-- 2. Steps

-- the arguments of the call that the shell asks in this step, if it asks one, are within the limits where its names are
abbrev pub AsksLimited : Step → Type 0
AsksLimited s = (k : ℕ) (said : List ℕ) (at_once : Option Status) → s.entry.event ≡ event.Asked k said at_once → NamesLimited s.world.names
    → (c : Call) → call_at s.later.traffic k ≡ Some c → AreLimited c.args

-- a call that was just asked is there
pub asked-there : (name : List ℕ) (target : Cap) (operation : List ℕ) (args : List Datum) (k : ℕ) (at_once : Option Status) (w : World)
    → call_at (asked name target operation args k at_once w).traffic k ≡ Some (new_call (Shell name) target operation args at_once)
asked-there name target operation args k at_once w = find-put nat_cmp nat_cmp_total k k new w.traffic.calls
    ∙ ap (λ b. cond b (Some new) (call_at w.traffic k)) ((eq_by_cmp_equiv nat_cmp_total).refl k)
  where
    new : Call
    new = new_call (Shell name) target operation args at_once

pub new-args : (a : Asker) (target : Cap) (operation : List ℕ) (args : List Datum) (o : Option Status)
    → (new_call a target operation args o).args ≡ args
new-args a target operation args None = refl
new-args a target operation args (Some s) = refl

-- its arguments are those with which it was asked
just-asked : (name : List ℕ) (target : Cap) (operation : List ℕ) (args : List Datum) (k : ℕ) (at_once : Option Status) (w : World)
    (c : Call) → call_at (asked name target operation args k at_once w).traffic k ≡ Some c → AreLimited args → AreLimited c.args
just-asked name target operation args k at_once w c is h =
    let both : Some (new_call (Shell name) target operation args at_once) ≡ Some c =
    sym (asked-there name target operation args k at_once w) ∙ is in
    let same : new_call (Shell name) target operation args at_once ≡ c = cc both in
    subst AreLimited (sym (new-args (Shell name) target operation args at_once) ∙ ap (λ (x : Call). x.args) same) h

command-asks : (w : World) (c : Command) (e : Entry) → ArgumentsFit c → Allows w (Some c) e → AsksLimited (step w e (next w (Some c) e))
command-asks w c e fit allowed k said at_once is names d at = go c fit (subst (AllowsCommand w c) is allowed.event)
    (sym (ap (λ t. call_at t k) (traffic-counted (key_of e.event) e.node e.clock (after_command w c e.event)
    ∙ ap (λ x. (after_command w c x).traffic) is)) ∙ at)
  where
    go : (c : Command) → ArgumentsFit c → AllowsCommand w c (event.Asked k said at_once)
        → call_at (asked_by c k at_once w).traffic k ≡ Some d → AreLimited d.args
    go (command.Call name target operation args) fit a found = by (ready_call w (command.Call name target operation args)) refl a.1 found
      where
        by : (o : Option (Cap × List Datum)) → ready_call w (command.Call name target operation args) ≡ o
            → IsSomeAnd o (λ c. AllowsAsked w k at_once c.0 c.1)
            → call_at (with_item o (λ c. asked name c.0 operation c.1 k at_once w) w).traffic k ≡ Some d → AreLimited d.args
        by None ready x found = absurd x
        by (Some c) ready x found = just-asked name c.0 operation c.1 k at_once w d found
            (shell-asks w (command.Call name target operation args) fit names k c ready).1
    go _ fit a found = absurd a

-- no turn asks for the shell
turn-asks : (w : World) (e : Entry) (later : World) → Allows w None e → AsksLimited (step w e later)
turn-asks w e later allowed k said at_once is = absurd (subst (AllowsInTurn w) is allowed.event)

-- 3. What is due

-- the arguments of a command that is due, and what is left of the path of a walk
abbrev DueFits : Due → Type 0
DueFits (command_is c) = ArgumentsFit c
DueFits (looks_up name target path) = All IsText path
DueFits (waits_for name k path) = All IsText path
DueFits _ = Unit {0}

abbrev pub AsksFitly : Command → Type 0
AsksFitly c = ArgumentsFit c × PathFits c

record IsFitPosition (p : Position) : Type 0 where
  due : DueFits p.due
  left : EachOf AsksFitly p.commands

due-fits : (w : World) (c : Command) → AsksFitly c → DueFits (due_by w c)
due-fits w (command.Turn i) h = tt
due-fits w (command.Go n) h = tt
due-fits w (command.Walk name target path) h = components-are-texts path h.1
due-fits w _ h = h.0

fits-at_commands : (w : World) (cs : List Command) → EachOf AsksFitly cs → IsFitPosition (at_commands w cs)
fits-at_commands w [] h = record { due = tt; left = tt }
fits-at_commands w (c ∷ cs) h = record { due = due-fits w c h.0; left = h.1 }

fits-booting : (n more : ℕ) (w : World) (cs : List Command) → EachOf AsksFitly cs → IsFitPosition (booting n more w cs)
fits-booting n zero w cs h = fits-at_commands w cs h
fits-booting n (suc more) w cs h = record { due = tt; left = h }

fits-going : (k : Option Key) (n : ℕ) (w : World) (cs : List Command) → EachOf AsksFitly cs → IsFitPosition (going k n w cs)
fits-going None n w cs h = fits-at_commands w cs h
fits-going (Some k) zero w cs h = fits-at_commands w cs h
fits-going (Some k) (suc n) w cs h = record { due = tt; left = h }

fits-either : (b : Bool) (p q : Position) → IsFitPosition p → IsFitPosition q → IsFitPosition (cond b p q)
fits-either true p q x y = x
fits-either false p q x y = y

fits-walked : (w : World) (name : List ℕ) (more : List (List ℕ)) (cs : List Command) → All IsText more → EachOf AsksFitly cs
    → IsFitPosition (walked w name more cs)
fits-walked w name [] cs path h = fits-at_commands w cs h
fits-walked w name (c ∷ more) cs path h = fits-either (is_found w name) _ (at_commands w cs) (record { due = path; left = h })
    (fits-at_commands w cs h)

fits-walking : (k : Option Key) (name : List ℕ) (call : ℕ) (more : List (List ℕ)) (w : World) (cs : List Command) → All IsText more
    → EachOf AsksFitly cs → IsFitPosition (walking k name call more w cs)
fits-walking None name call more w cs path h = fits-at_commands w cs h
fits-walking (Some key) name call more w cs path h = fits-either (is_open_call w call) _ (walked w name more cs)
    (record { due = path; left = h }) (fits-walked w name more cs path h)

fits-sent : (name : List ℕ) (more : List (List ℕ)) (e : Event) (w : World) (cs : List Command) → All IsText more → EachOf AsksFitly cs
    → IsFitPosition (sent_look_up name more e w cs)
fits-sent name more (event.Asked k said None) w cs path h = record { due = path; left = h }
fits-sent name more _ w cs path h = fits-at_commands w cs h

behind-first : (path : List (List ℕ)) → All IsText path → All IsText (after_first path)
behind-first [] h = h
behind-first (c ∷ cs) h = All-tail IsText c cs h

fits-led : (w : World) (due : Due) (cs : List Command) (e : Entry) → IsDue (record { world = w; due = due; commands = cs }) e → DueFits due
    → EachOf AsksFitly cs → IsFitPosition (lead (record { world = w; due = due; commands = cs }) e)
fits-led w (boots n more) cs e is due h = fits-booting (n + 1) more (next w (Some (command.Restart n)) e) cs h
fits-led w (command_is c) cs e is due h = fits-at_commands (next w (Some c) e) cs h
fits-led w (turn_is i) cs e is due h = fits-at_commands (next w None e) cs h
fits-led w (turns n) cs e is due h = fits-going (key_of e.event) (n - 1) (next w None e) cs h
fits-led w (looks_up name target path) cs e is due h = fits-sent name (after_first path) e.event (looked_up w name target path e.event) cs
    (behind-first path due) h
fits-led w (waits_for name k path) cs e is due h = fits-walking (key_of e.event) name k path (next w None e) cs due h
fits-led w over cs e is due h = absurd is

first-limited : (path : List (List ℕ)) → All IsText path → AreLimited (lookup_args path)
first-limited [] h = tt
first-limited (c ∷ cs) h = ((All-head IsText c cs h, tt), tt)

-- the look-up of a walk
look-up-asks : (w : World) (name : List ℕ) (target : Option Cap) (path : List (List ℕ)) (cs : List Command) (e : Entry)
    → AllowsLookUp w name target path e.event → All IsText path
    → AsksLimited (step w e (sent_look_up name (after_first path) e.event (looked_up w name target path e.event) cs).world)
look-up-asks w name target path cs e allowed fit k said at_once is names c at =
    go target (subst (AllowsLookUp w name target path) is allowed) (sym (ap (λ v. call_at v.traffic k) world) ∙ at)
  where
    sent : (o : Option Status) (v : World) → (sent_look_up name (after_first path) (event.Asked k said o) v cs).world ≡ v
    sent None v = refl
    sent (Some s) v = world-at_commands v cs

    world : (sent_look_up name (after_first path) e.event (looked_up w name target path e.event) cs).world
        ≡ looked_up w name target path (event.Asked k said at_once)
    world = ap (λ x. (sent_look_up name (after_first path) x (looked_up w name target path x) cs).world) is
        ∙ sent at_once (looked_up w name target path (event.Asked k said at_once))

    go : (target : Option Cap) → AllowsLookUp w name target path (event.Asked k said at_once)
        → call_at (looked_up w name target path (event.Asked k said at_once)).traffic k ≡ Some c → AreLimited c.args
    go (Some d) a found = just-asked name d _ (lookup_args path) k at_once w c found (first-limited path fit)
    go None a found = absurd a

asks-led : (w : World) (due : Due) (cs : List Command) (e : Entry) → IsDue (record { world = w; due = due; commands = cs }) e → DueFits due
    → AsksLimited (step w e (lead (record { world = w; due = due; commands = cs }) e).world)
asks-led w (boots n more) cs e is due = subst (λ v. AsksLimited (step w e v))
    (sym (world-booting (n + 1) more (next w (Some (command.Restart n)) e) cs)) (command-asks w (command.Restart n) e tt is)
asks-led w (command_is c) cs e is due = subst (λ v. AsksLimited (step w e v)) (sym (world-at_commands (next w (Some c) e) cs))
    (command-asks w c e due is)
asks-led w (turn_is i) cs e is due = turn-asks w e (lead (record { world = w; due = turn_is i; commands = cs }) e).world is.allowed
asks-led w (turns n) cs e is due = turn-asks w e (lead (record { world = w; due = turns n; commands = cs }) e).world is.allowed
asks-led w (looks_up name target path) cs e is due = look-up-asks w name target path cs e is.0 due
asks-led w (waits_for name k path) cs e is due = turn-asks w e
    (lead (record { world = w; due = waits_for name k path; commands = cs }) e).world is.allowed
asks-led w over cs e is due = absurd is

-- 4. Every step

each-asks : (p : Position) (past : List Step) (history : List Entry) → IsFitPosition p → Leads p history
    → EachStep (λ past s. AsksLimited s) past (steps p history)
each-asks p past [] fit leads = tt
each-asks p past (e ∷ es) fit leads = (
  asks-led p.world p.due p.commands e leads.0 fit.due,
  each-asks (lead p e) (step p.world e (lead p e).world ∷ past) es (fits-led p.world p.due p.commands e leads.0 fit.due fit.left) leads.1,
)

-- in every history of commands that ask fitly
pub each-step-asks : (w : World) (nodes : ℕ) (cs : List Command) (history : List Entry) → EachOf AsksFitly cs
    → Leads (booting 1 nodes w cs) history → EachStep (λ past s. AsksLimited s) [] (steps (booting 1 nodes w cs) history)
each-step-asks w nodes cs history fit leads = each-asks (booting 1 nodes w cs) [] history (fits-booting 1 nodes w cs fit) leads
