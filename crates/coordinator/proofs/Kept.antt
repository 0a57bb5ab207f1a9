-- A coordinator goes on to be whole where its queues do.
use Rattle.std.proofs.Common.{◌≡◌, ◌≤◌, ◌<◌, ℕ, ◌+◌, false, List, [], ◌∷◌, length, map, Option, None, Some, refl, ◌∙◌, ap, arith}
use Rattle.std.proofs.lemmas.List.{length-map}
use Rattle.std.specs.Prelude.{slice_get, IfSome}
use Rattle.std.specs.Option.{option_map}
use Rattle.eden_model.specs.Crew.{Condition, Monitor, Waiting, nothing, entry, condition, Runs, Waits as WaitsFor}
use Rattle.eden_model.specs.Map.{first, rest}
use Rattle.eden_model.specs.Lines.{AreLines, IsLine, has}
use Rattle.eden_model.proofs.LineLaws.{line-room}
use Rattle.eden_model.proofs.CrewLaws.{out-runs, condition-left}
use Rattle.coordinator.specs.declared.monitors.Monitor.{Monitor as MonitorParts}
use Rattle.coordinator.specs.declared.monitors.Condition.{Condition as ConditionParts}
use Rattle.coordinator.specs.Fields.{EntryRoom}
use Rattle.coordinator.proofs.Crews.{get-map}
use Rattle.coordinator.specs.declared.Coordinator.TheInside.{Inside}
use Rattle.coordinator.specs.View.{view_of, process_of, monitor_of, condition_of}
use Rattle.coordinator.specs.Whole.{IsWhole}
use Rattle.coordinator.specs.Ready.{AscendPast}

abbrev pub MonitorsAre : Inside → Inside → Type 0
MonitorsAre a b = (c : ℕ) (it : Condition) → slice_get (map condition_of b.conditions.items) c ≡ Some it
    → (1 ≤ it.monitor) × (it.monitor ≤ length a.monitors.items)

pub kept-fewer : (a b : Inside) → IsWhole a → b.queued ≡ a.queued → length b.slots.items ≤ length a.slots.items
    → length b.monitors.items ≡ length a.monitors.items → MonitorsAre a b → AreLines (view_of b).crew
    → AscendPast 0 (view_of b).crew.processes → IsWhole b
kept-fewer a b w queued slots count monitors lines ascend = record {
  lines = lines;
  monitors = λ c it h. ((monitors c it h).0, rw count (monitors c it h).1);
  few_monitors = rw count w.few_monitors;
  few_slots = omega (arith, slots, w.few_slots);
  few_queued = rw queued w.few_queued;
  ascend = ascend;
}

pub kept : (a b : Inside) → IsWhole a → b.queued ≡ a.queued → length b.slots.items ≡ length a.slots.items
    → length b.monitors.items ≡ length a.monitors.items → MonitorsAre a b → AreLines (view_of b).crew
    → AscendPast 0 (view_of b).crew.processes → IsWhole b
kept a b w queued slots count monitors lines ascend = kept-fewer a b w queued (omega (arith, slots)) count monitors lines ascend

-- 1. Room in the queues

pub entry-room : (a : Inside) → IsWhole a → (p : ℕ) (v : Waiting)
    → ((j : ℕ) (it : Monitor) → slice_get (view_of a).crew.monitors j ≡ Some it → has p it.entering ≡ false) → WaitsFor (view_of a).crew p v
    → (i : ℕ) → EntryRoom a.monitors.items i
entry-room a w p v out is i = go (slice_get a.monitors.items i) refl
  where
    go : (o : Option MonitorParts) → slice_get a.monitors.items i ≡ o → IfSome o (λ g. length g.entering < 16)
    go None e = tt
    go (Some g) e =
        let at : slice_get (view_of a).crew.monitors i ≡ Some (monitor_of g) = get-map monitor_of a.monitors.items i
        ∙ ap (option_map monitor_of) e in
        let room : length g.entering < length (view_of a).crew.processes =
        line-room (view_of a).crew.processes p v (entry (i + 1)) g.entering (w.lines.entering i (monitor_of g) at)
        (out i (monitor_of g) at) is in
        omega (arith, room, w.few_slots, length-map a.slots.items process_of)

pub waiters-room : (a : Inside) → IsWhole a → (p : ℕ) → Runs (view_of a).crew p → (c : ℕ) (b : ConditionParts)
    → slice_get a.conditions.items c ≡ Some b → length b.waiters < 16
waiters-room a w p runs c b e =
    let at : slice_get (view_of a).crew.conditions c ≡ Some (condition_of b) = get-map condition_of a.conditions.items c
    ∙ ap (option_map condition_of) e in
    let out = out-runs (view_of a).crew w.lines p runs in
    let room : length b.waiters < length (view_of a).crew.processes =
    line-room (view_of a).crew.processes p nothing (condition c) b.waiters (w.lines.waiting c (condition_of b) at)
    (out.waiting c (condition_of b) at) runs in
    omega (arith, room, w.few_slots, length-map a.slots.items process_of)

first-rest : (xs : List ℕ) (q : ℕ) → first xs ≡ Some q → xs ≡ q ∷ rest xs
first-rest [] q e = cc
first-rest (x ∷ xs) q e = let same : x ≡ q = cc in ap (λ y. y ∷ xs) same

-- the process that has waited longest on a condition is in no entry queue
pub signalled-out : (a : Inside) → IsWhole a → (c q : ℕ) (b : ConditionParts) → slice_get a.conditions.items c ≡ Some b
    → first b.waiters ≡ Some q
    → ((j : ℕ) (it : Monitor) → slice_get (view_of a).crew.monitors j ≡ Some it
    → has q it.entering ≡ false) × WaitsFor (view_of a).crew q (condition c)
signalled-out a w c q b e head =
    let at : slice_get (view_of a).crew.conditions c ≡ Some (condition_of b) = get-map condition_of a.conditions.items c
    ∙ ap (option_map condition_of) e in
    let queue : b.waiters ≡ q ∷ rest b.waiters = first-rest b.waiters q head in
    let line : IsLine (view_of a).crew.processes (condition c) (q ∷ rest b.waiters) =
    rw queue at (w.lines.waiting c (condition_of b) at) in (
      (condition-left (view_of a).crew w.lines c (record { monitor = b.monitor; waiters = rest b.waiters }) (condition_of b) q
          (rest b.waiters) at queue refl).1.entering,
      line.wait.0,
    )
