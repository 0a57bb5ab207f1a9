-- Where each position that is not the last has an entry that is due, every beginning comes to an end of the script.
use Rattle.std.proofs.Common.{◌≡◌, ℕ, zero, suc, ◌+◌, ◌-◌, ◌≤◌, List, [], ◌∷◌, Option, None, Some, refl, ap, sym, subst, ◌∙◌, arith, Bool}
use Rattle.std.proofs.Common.{true, false, cond}
use Rattle.std.specs.List.{AllByRecursion}
use Rattle.capability.specs.declared.Cap.{Cap}
use Rattle.journal.specs.declared.command.Command.{Command}
use Rattle.journal.specs.declared.event.Key.{Key}
use Rattle.journal.specs.declared.event.Event.{Event}
use Rattle.journal.specs.declared.event.Event.TheVariants as event
use Rattle.journal.specs.declared.event.Entry.{Entry}
use Rattle.journal.specs.World.{World}
use Rattle.journal.specs.Enabled.{following, enabled}
use Rattle.journal.specs.Step.{next, key_of}
use Rattle.journal.specs.Run.{Position, Due, boots, command_is, turn_is, turns, looks_up, waits_for, over, IsDue, IsTurn, Leads, lead}
use Rattle.journal.specs.Run.{end_of, at_commands, going}
use Rattle.journal.specs.Run.{walked, walking, sent_look_up, after_first, is_open_call, is_found, next_directory, looked_up, most_turns}
use Rattle.journal.specs.Run.{is_spent, due_by}
use Rattle.journal.specs.declared.command.Command.TheVariants as command
use Rattle.trace_laws.specs.Determined.{HasClocks}

abbrev pub at : World → Due → List Command → Position
at w d cs = record { world = w; due = d; commands = cs }

-- an entry that is due, with clocks of 64 bits, behind which the same holds
abbrev pub HasNext : (Position → Type 0) → Position → Type 0
HasNext I p = (e : Entry) × IsDue p e × HasClocks e × I (lead p e)

pub record GoesOn (I : Position → Type 0) : Type 0 where
  pub has : (p : Position) → I p → (p.due ≡ over → ⊥) → HasNext I p
  pub counts : (w : World) (e : Entry) (k : Key) → key_of e.event ≡ Some k → (next w None e).turns ≡ w.turns + 1

-- the entries that are left
abbrev pub CanEnd : Position → Type 0
CanEnd p = (more : List Entry) × Leads p more × ((end_of p more).due ≡ over) × AllByRecursion HasClocks more

step : (I : Position → Type 0) → GoesOn I → (p : Position) → I p → (p.due ≡ over → ⊥)
    → ((e : Entry) → IsDue p e → I (lead p e) → CanEnd (lead p e)) → CanEnd p
step I g p i left k = let n = g.has p i left in let r = k n.0 n.1 n.3 in (n.0 ∷ r.0, (n.1, r.1), r.2, (n.2, r.3))

-- what is left of the commands can end
abbrev Rest : (Position → Type 0) → List Command → Type 0
Rest I cs = (w : World) → I (at_commands w cs) → CanEnd (at_commands w cs)

boots-end : (I : Position → Type 0) → GoesOn I → (cs : List Command) → Rest I cs → (more n : ℕ) (w : World) → I (at w (boots n more) cs)
    → CanEnd (at w (boots n more) cs)
boots-end I g cs rest zero n w i = step I g (at w (boots n zero) cs) i (λ e. cc e) (λ e is j. rest (next w (Some (command.Restart n)) e) j)
boots-end I g cs rest (suc more) n w i = step I g (at w (boots n (suc more)) cs) i (λ e. cc e)
    (λ e is j. boots-end I g cs rest more (n + 1) (next w (Some (command.Restart n)) e) j)

going-zero : (I : Position → Type 0) (cs : List Command) → Rest I cs → (k : Option Key) (w : World) → I (going k 0 w cs)
    → CanEnd (going k 0 w cs)
going-zero I cs rest None w i = rest w i
going-zero I cs rest (Some k) w i = rest w i

going-end : (I : Position → Type 0) (cs : List Command) → Rest I cs → (n : ℕ)
    → ((w : World) → I (at w (turns n) cs) → CanEnd (at w (turns n) cs)) → (k : Option Key) (w : World) → I (going k n w cs)
    → CanEnd (going k n w cs)
going-end I cs rest n later None w i = rest w i
going-end I cs rest zero later (Some k) w i = rest w i
going-end I cs rest (suc n) later (Some k) w i = later w i

turns-end : (I : Position → Type 0) → GoesOn I → (cs : List Command) → Rest I cs → (n : ℕ) (w : World) → I (at w (turns n) cs)
    → CanEnd (at w (turns n) cs)
turns-end I g cs rest zero w i =
    step I g (at w (turns zero) cs) i (λ e. cc e) (λ e is j. going-zero I cs rest (key_of e.event) (next w None e) j)
turns-end I g cs rest (suc n) w i = step I g (at w (turns (suc n)) cs) i (λ e. cc e) (λ e is j.
    let less : suc n - 1 ≡ n = omega arith in
    subst (λ m. CanEnd (going (key_of e.event) m (next w None e) cs)) (sym less)
    (going-end I cs rest n (turns-end I g cs rest n) (key_of e.event) (next w None e)
    (subst (λ m. I (going (key_of e.event) m (next w None e) cs)) less j)))

-- a walk that waits: each turn counts, and a run takes so many at most
spent : (w : World) → most_turns ≤ w.turns → is_spent w ≡ true
spent w most = grind (arith, most)

none-taken : (w : World) (e : Entry) → IsTurn w (following w.last) e → most_turns ≤ w.turns → (k : Key) → key_of e.event ≡ Some k → ⊥
none-taken w e is full k taken = let none : key_of e.event ≡ None = is.key
    ∙ ap (λ b. cond b None (following w.last (enabled w))) (spent w full) in
    let bad : None ≡ Some k = sym none ∙ taken in absurd (cc bad)

walking-end : (I : Position → Type 0) (cs : List Command) → Rest I cs → (name : List ℕ) (call : ℕ) (path : List (List ℕ))
    → ((w : World) → I (walked w name path cs) → CanEnd (walked w name path cs)) → (k : Option Key) (w : World)
    → ((key : Key) → k ≡ Some key → I (at w (waits_for name call path) cs) → CanEnd (at w (waits_for name call path) cs))
    → I (walking k name call path w cs) → CanEnd (walking k name call path w cs)
walking-end I cs rest name call path found None w later i = rest w i
walking-end I cs rest name call path found (Some key) w later i = go (is_open_call w call) i
  where
    go : (b : Bool) → I (cond b (at w (waits_for name call path) cs) (walked w name path cs))
        → CanEnd (cond b (at w (waits_for name call path) cs) (walked w name path cs))
    go true i = later key refl i
    go false i = found w i

waits-end : (I : Position → Type 0) → GoesOn I → (cs : List Command) → Rest I cs → (name : List ℕ) (call : ℕ) (path : List (List ℕ))
    → ((w : World) → I (walked w name path cs) → CanEnd (walked w name path cs)) → (fuel : ℕ) (w : World) → most_turns ≤ w.turns + fuel
    → I (at w (waits_for name call path) cs) → CanEnd (at w (waits_for name call path) cs)
waits-end I g cs rest name call path found zero w most i = step I g (at w (waits_for name call path) cs) i (λ e. cc e)
    (λ e is j. walking-end I cs rest name call path found (key_of e.event) (next w None e)
    (λ key taken later. absurd (none-taken w e is (omega (arith, most)) key taken)) j)
waits-end I g cs rest name call path found (suc fuel) w most i = step I g (at w (waits_for name call path) cs) i (λ e. cc e)
    (λ e is j. walking-end I cs rest name call path found (key_of e.event) (next w None e)
    (λ key taken later. waits-end I g cs rest name call path found fuel (next w None e) (omega (arith, most, g.counts w e key taken)) later)
    j)

-- a walk that asks
sent-end : (I : Position → Type 0) → GoesOn I → (cs : List Command) → Rest I cs → (name : List ℕ) (path : List (List ℕ))
    → ((w : World) → I (walked w name path cs) → CanEnd (walked w name path cs)) → (e : Event) (w : World)
    → I (sent_look_up name path e w cs) → CanEnd (sent_look_up name path e w cs)
sent-end I g cs rest name path found (event.Asked k said None) w i = waits-end I g cs rest name k path found most_turns w (omega arith) i
sent-end I g cs rest name path found (event.Asked k said (Some s)) w i = rest w i
sent-end I g cs rest name path found (event.Boot n x how p b) w i = rest w i
sent-end I g cs rest name path found (event.Crash n) w i = rest w i
sent-end I g cs rest name path found (event.Still n up) w i = rest w i
sent-end I g cs rest name path found (event.Link a b joined) w i = rest w i
sent-end I g cs rest name path found (event.Armed n what) w i = rest w i
sent-end I g cs rest name path found (event.Made said s u) w i = rest w i
sent-end I g cs rest name path found (event.Bound said held) w i = rest w i
sent-end I g cs rest name path found (event.Void said) w i = rest w i
sent-end I g cs rest name path found (event.Request k a b refused) w i = rest w i
sent-end I g cs rest name path found (event.Reply k a b said s values) w i = rest w i
sent-end I g cs rest name path found (event.Activate u how p) w i = rest w i
sent-end I g cs rest name path found (event.Start k u p) w i = rest w i
sent-end I g cs rest name path found (event.Process u p said) w i = rest w i
sent-end I g cs rest name path found (event.Store u c how p) w i = rest w i
sent-end I g cs rest name path found event.Quiet w i = rest w i
sent-end I g cs rest name path found event.Spent w i = rest w i
sent-end I g cs rest name path found (event.Left names) w i = rest w i

looks-end : (I : Position → Type 0) → GoesOn I → (cs : List Command) → Rest I cs
    → (name : List ℕ) (target : Option Cap) (path : List (List ℕ))
    → ((w : World) → I (walked w name (after_first path) cs) → CanEnd (walked w name (after_first path) cs)) → (w : World)
    → I (at w (looks_up name target path) cs) → CanEnd (at w (looks_up name target path) cs)
looks-end I g cs rest name target path found w i = step I g (at w (looks_up name target path) cs) i (λ e. cc e)
    (λ e is j. sent-end I g cs rest name (after_first path) found e.event (looked_up w name target path e.event) j)

walked-end : (I : Position → Type 0) → GoesOn I → (cs : List Command) → Rest I cs → (name : List ℕ) (path : List (List ℕ)) (w : World)
    → I (walked w name path cs) → CanEnd (walked w name path cs)
walked-end I g cs rest name [] w i = rest w i
walked-end I g cs rest name (c ∷ more) w i =
    go (is_found w name) (looks-end I g cs rest name (next_directory w name) (c ∷ more) (walked-end I g cs rest name more) w) i
  where
    go : (b : Bool) → (I (at w (looks_up name (next_directory w name) (c ∷ more)) cs)
        → CanEnd (at w (looks_up name (next_directory w name) (c ∷ more)) cs))
        → I (cond b (at w (looks_up name (next_directory w name) (c ∷ more)) cs) (at_commands w cs))
        → CanEnd (cond b (at w (looks_up name (next_directory w name) (c ∷ more)) cs) (at_commands w cs))
    go true looks i = looks i
    go false looks i = rest w i

-- whatever is due
due-end : (I : Position → Type 0) → GoesOn I → (cs : List Command) → Rest I cs → (d : Due) (w : World) → I (at w d cs) → CanEnd (at w d cs)
due-end I g cs rest (boots n more) w i = boots-end I g cs rest more n w i
due-end I g cs rest (command_is c) w i = step I g (at w (command_is c) cs) i (λ e. cc e) (λ e is j. rest (next w (Some c) e) j)
due-end I g cs rest (turn_is k) w i = step I g (at w (turn_is k) cs) i (λ e. cc e) (λ e is j. rest (next w None e) j)
due-end I g cs rest (turns n) w i = turns-end I g cs rest n w i
due-end I g cs rest (looks_up name target path) w i =
    looks-end I g cs rest name target path (walked-end I g cs rest name (after_first path)) w i
due-end I g cs rest (waits_for name call path) w i =
    waits-end I g cs rest name call path (walked-end I g cs rest name path) most_turns w (omega arith) i
due-end I g cs rest over w i = ([], tt, refl, tt)

commands-end : (I : Position → Type 0) → GoesOn I → (cs : List Command) → Rest I cs
commands-end I g [] w i = ([], tt, refl, tt)
commands-end I g (c ∷ cs) w i = due-end I g cs (commands-end I g cs) (due_by w c) w i

pub can-end : (I : Position → Type 0) → GoesOn I → (p : Position) → I p → CanEnd p
can-end I g p i = due-end I g p.commands (commands-end I g p.commands) p.due p.world i
