-- A turn that takes no key touches no disk, and leaves the state of each node.
use Rattle.std.proofs.Common.{◌≡◌, ℕ, true, false, List, [], Option, None, Some, refl, ◌∙◌, ap}
use Rattle.capability.specs.declared.Cap.{Cap}
use Rattle.std.specs.Ordering.{nat_cmp}
use Rattle.eden_model.specs.Map.{with_item, value_at}
use Rattle.journal.specs.declared.command.Command.{Command}
use Rattle.journal.specs.declared.event.Event.{Event}
use Rattle.journal.specs.declared.event.Event.TheVariants as event
use Rattle.journal.specs.declared.event.Entry.{Entry}
use Rattle.journal.specs.World.{World, Node}
use Rattle.journal.specs.Faults.{shows_fault, shows_stop}
use Rattle.journal.specs.Settling.{doubts}
use Rattle.journal.specs.Standing.{Standing, state, kept_of_node, nothing_stands}
use Rattle.journal.specs.Step.{Allows, touched, next, counted, clocked, happened, key_of}
use Rattle.journal.specs.Run.{Position, Step, Leads, EachStep, IsPlain, looked_up, steps}
use Rattle.history_laws.proofs.Runs.{Any, IsKept, IsOf, each-step, nodes-looked_up}
use Rattle.disk_faults.specs.Elsewhere.{shown_of}
use Rattle.runs.specs.Machines.{is_idle}

-- 1. The event of such a turn shows nothing of any disk

pub idle-shows_none : (v : Event) → is_idle v ≡ true → shown_of v ≡ 0
idle-shows_none event.Quiet idle = refl
idle-shows_none event.Spent idle = refl
idle-shows_none _ idle = absurd (let bad : false ≡ true = idle in cc bad)

pub idle-no_fault : (n : ℕ) (v : Event) → is_idle v ≡ true → shows_fault n v ≡ false
idle-no_fault n event.Quiet idle = refl
idle-no_fault n event.Spent idle = refl
idle-no_fault n _ idle = absurd (let bad : false ≡ true = idle in cc bad)

pub idle-no_stop : (n : ℕ) (v : Event) → is_idle v ≡ true → shows_stop n v ≡ false
idle-no_stop n event.Quiet idle = refl
idle-no_stop n event.Spent idle = refl
idle-no_stop n _ idle = absurd (let bad : false ≡ true = idle in cc bad)

idle-touches : (w : World) (v : Event) → is_idle v ≡ true → touched w v ≡ 0
idle-touches w event.Quiet idle = refl
idle-touches w event.Spent idle = refl
idle-touches w _ idle = absurd (let bad : false ≡ true = idle in cc bad)

-- 2. Its step

pub record IsStill (s : Step) : Type 0 where
  pub disk : s.entry.node ≡ 0
  pub states : (n : ℕ) → state s.later n ≡ state s.world n

abbrev pub StillIfIdle : Step → Type 0
StillIfIdle s = is_idle s.entry.event ≡ true → IsStill s

-- the state of a node, by the nodes of a world
abbrev state-by : ℕ → List (ℕ × Node) → Standing
state-by n nodes =
    with_item (value_at nat_cmp n nodes) (λ it. record { kept = kept_of_node n it; changes = doubts n it }) nothing_stands

still-nodes : (w : World) (c : Option Command) (v : Event) (clock : ℕ) → is_idle v ≡ true
    → (counted (key_of v) (clocked 0 clock (happened w c v))).nodes ≡ w.nodes
still-nodes w None event.Quiet clock idle = refl
still-nodes w (Some c) event.Quiet clock idle = refl
still-nodes w None event.Spent clock idle = refl
still-nodes w (Some c) event.Spent clock idle = refl
still-nodes w c _ clock idle = absurd (let bad : false ≡ true = idle in cc bad)

still-entry : (w : World) (c : Option Command) (e : Entry) → Allows w c e
    → StillIfIdle (record { world = w; entry = e; later = next w c e })
still-entry w c e allowed idle = record {
  disk = none;
  states = λ n. ap (state-by n)
      (ap (λ m. (counted (key_of e.event) (clocked m e.clock (happened w c e.event))).nodes) none ∙ still-nodes w c e.event e.clock idle);
}
  where
    none : e.node ≡ 0
    none = allowed.disk ∙ idle-touches w e.event idle

still-look : (w : World) (name : List ℕ) (target : Option Cap) (path : List (List ℕ)) (e : Entry) → IsPlain e
    → StillIfIdle (record { world = w; entry = e; later = looked_up w name target path e.event })
still-look w name target path e plain idle = record {
  disk = plain.disk;
  states = λ n. ap (state-by n) (nodes-looked_up w name target path e.event);
}

-- 3. Each step of a history

still-kept : IsKept Any (λ past w. Unit {0}) (λ past s. StillIfIdle s)
still-kept = record {
  entries = λ past w c e any allowed i. (still-entry w c e allowed, tt);
  look_ups = λ past w name target path e named allowed plain i. (still-look w name target path e plain, tt);
}

pub still-steps : (p : Position) (history : List Entry) → IsOf Any p → Leads p history
    → EachStep (λ past s. StillIfIdle s) [] (steps p history)
still-steps p history of leads = each-step Any (λ past w. Unit {0}) (λ past s. StillIfIdle s) still-kept p [] history of tt leads
