-- What the use of monitors and conditions leaves of a crew: the calls that run, those who wait for what is outside, and the order
-- of its queues.
use Rattle.std.proofs.Common.{◌≡◌, ◌-◌, ◌≤◌, ℕ, Bool, true, false, List, [], ◌∷◌, ◌++◌, Option, None, Some, refl, sym, ◌∙◌, ap}
use Rattle.std.specs.Prelude.{slice_get, slice_set}
use Rattle.std.specs.Ordering.{nat_cmp, eq_by_cmp}
use Rattle.eden_model.specs.Map.{with_item, first, rest}
use Rattle.eden_model.proofs.Numbers.{same-true}
use Rattle.eden_model.specs.Crew.{Crew, Monitor, Condition, outside, entry, condition, waits_at, Waits, Runs, set_waits, set_monitor}
use Rattle.eden_model.specs.Crew.{set_condition, match_holder, locked_by, locked, left, waited, queued_at, signalled, running}
use Rattle.eden_model.specs.Lines.{AreLines, IsLine}
use Rattle.eden_model.proofs.LineLaws.{set-other}
use Rattle.eden_model.proofs.CrewLaws.{changed-at, left-conditions, locked-lines, waited-lines, signalled-lines}
use Rattle.journal.specs.Sites.{IsLaid}
use Rattle.history_laws.proofs.SiteCrews.{runs-set, runs-left, waits-left, apart-runs}

abbrev HaveMonitors : List Condition → Type 0
HaveMonitors cs = (i : ℕ) (it : Condition) → slice_get cs i ≡ Some it → 1 ≤ it.monitor

-- 1. A monitor is locked

pub runs-locked : (p m : ℕ) (crew : Crew) → running (locked p m crew) ≡ running crew
runs-locked p m crew = go (slice_get crew.monitors (m - 1))
  where
    one : (it : Monitor) (o : Option ℕ) → running (match_holder o (set_monitor m (record it { holder = Some p }) crew)
        (set_waits p (entry m) (set_monitor m (record it { entering = it.entering ++ p ∷ [] }) crew))) ≡ running crew
    one it None = refl
    one it (Some q) = runs-set p (entry m) (set_monitor m (record it { entering = it.entering ++ p ∷ [] }) crew)

    go : (o : Option Monitor) → running (with_item o (λ it. locked_by p m it crew) crew) ≡ running crew
    go None = refl
    go (Some it) = one it it.holder

pub waits-locked : (p q m : ℕ) (crew : Crew) → Runs crew p → Waits crew q outside → Waits (locked p m crew) q outside
waits-locked p q m crew ready w = go (slice_get crew.monitors (m - 1))
  where
    one : (it : Monitor) (o : Option ℕ) → Waits (match_holder o (set_monitor m (record it { holder = Some p }) crew)
        (set_waits p (entry m) (set_monitor m (record it { entering = it.entering ++ p ∷ [] }) crew))) q outside
    one it None = w
    one it (Some h) = set-other p q (entry m) crew.processes (apart-runs p q crew ready w) ∙ w

    go : (o : Option Monitor) → Waits (with_item o (λ it. locked_by p m it crew) crew) q outside
    go None = w
    go (Some it) = one it it.holder

pub laid-locked : (p m : ℕ) (crew : Crew) → Runs crew p → 1 ≤ m → IsLaid crew → IsLaid (locked p m crew)
laid-locked p m crew ready from h = record {
  lines = locked-lines crew h.lines p m ready from;
  monitors =
      go (slice_get crew.monitors (m - 1));
}
  where
    one : (it : Monitor) (o : Option ℕ) → HaveMonitors (match_holder o (set_monitor m (record it { holder = Some p }) crew)
        (set_waits p (entry m) (set_monitor m (record it { entering = it.entering ++ p ∷ [] }) crew))).conditions
    one it None = h.monitors
    one it (Some q) = h.monitors

    go : (o : Option Monitor) → HaveMonitors (with_item o (λ it. locked_by p m it crew) crew).conditions
    go None = h.monitors
    go (Some it) = one it it.holder

-- 2. A process waits at a condition

set-monitors : (cs : List Condition) (c : ℕ) (it : Condition) (ns : List ℕ) → slice_get cs c ≡ Some it → HaveMonitors cs
    → HaveMonitors (slice_set cs c (record it { waiters = ns }))
set-monitors cs c it ns at h = changed-at (λ i x. 1 ≤ x.monitor) cs c (record it { waiters = ns }) it at (h c it at) (λ j z other is.
    h j z is)

pub runs-waited : (p c : ℕ) (crew : Crew) → running (waited p c crew) ≡ running crew
runs-waited p c crew = go (slice_get crew.conditions c)
  where
    go : (o : Option Condition) → running (with_item o (λ it. set_waits p (condition c)
        (set_condition c (record it { waiters = it.waiters ++ p ∷ [] }) (left it.monitor crew))) crew) ≡ running crew
    go None = refl
    go (Some it) = runs-set p (condition c) (set_condition c (record it { waiters = it.waiters ++ p ∷ [] }) (left it.monitor crew))
        ∙ runs-left it.monitor crew

pub waits-waited : (p q c : ℕ) (crew : Crew) → AreLines crew → Runs crew p → Waits crew q outside → Waits (waited p c crew) q outside
waits-waited p q c crew lines ready w = go (slice_get crew.conditions c)
  where
    go : (o : Option Condition) → Waits (with_item o (λ it. set_waits p (condition c)
        (set_condition c (record it { waiters = it.waiters ++ p ∷ [] }) (left it.monitor crew))) crew) q outside
    go None = w
    go (Some it) = set-other p q (condition c) (left it.monitor crew).processes (apart-runs p q crew ready w)
        ∙ waits-left it.monitor q crew lines w

pub laid-waited : (p c : ℕ) (crew : Crew) → Runs crew p → IsLaid crew → IsLaid (waited p c crew)
laid-waited p c crew ready h = record { lines = waited-lines crew h.lines p c ready; monitors = go (slice_get crew.conditions c) refl }
  where
    go : (o : Option Condition) → slice_get crew.conditions c ≡ o
        → HaveMonitors (with_item o (λ it. set_waits p (condition c)
        (set_condition c (record it { waiters = it.waiters ++ p ∷ [] }) (left it.monitor crew))) crew).conditions
    go None at = h.monitors
    go (Some it) at = set-monitors (left it.monitor crew).conditions c it (it.waiters ++ p ∷ [])
        (ap (λ cs. slice_get cs c) (left-conditions crew it.monitor) ∙ at)
        (λ i x is. h.monitors i x (ap (λ cs. slice_get cs i) (sym (left-conditions crew it.monitor)) ∙ is))

-- 3. A condition is signalled

pub runs-signalled : (c : ℕ) (crew : Crew) → running (signalled c crew) ≡ running crew
runs-signalled c crew = go (slice_get crew.conditions c)
  where
    last : (x m : ℕ) (mid : Crew) (o : Option Monitor) → running
        (with_item o (λ it. set_waits x (entry m) (set_monitor m (record it { entering = it.entering ++ x ∷ [] }) mid)) mid) ≡ running mid
    last x m mid None = refl
    last x m mid (Some it) = runs-set x (entry m) (set_monitor m (record it { entering = it.entering ++ x ∷ [] }) mid)

    inner : (it : Condition) (ns : List ℕ) → running (queued_at (first ns) it.monitor
        (set_condition c (record it { waiters = rest ns }) crew)) ≡ running crew
    inner it [] = refl
    inner it (x ∷ ns) = last x it.monitor (set_condition c (record it { waiters = ns }) crew) (slice_get crew.monitors (it.monitor - 1))

    go : (o : Option Condition) → running (with_item o (λ it. queued_at (first it.waiters) it.monitor
        (set_condition c (record it { waiters = rest it.waiters }) crew)) crew) ≡ running crew
    go None = refl
    go (Some it) = inner it it.waiters

pub waits-signalled : (q c : ℕ) (crew : Crew) → AreLines crew → Waits crew q outside → Waits (signalled c crew) q outside
waits-signalled q c crew lines w = go (slice_get crew.conditions c) refl
  where
    apart : (x : ℕ) → Waits crew x (condition c) → (b : Bool) → eq_by_cmp nat_cmp q x ≡ b → b ≡ false
    apart x is true same = absurd (let bad : Some outside ≡ Some (condition c) =
        sym w ∙ ap (λ y. waits_at y crew.processes) (same-true q x same) ∙ is in cc bad)
    apart x is false same = refl

    last : (x m : ℕ) (mid : Crew) → eq_by_cmp nat_cmp q x ≡ false → Waits mid q outside → (o : Option Monitor)
        → Waits (with_item o (λ it. set_waits x (entry m) (set_monitor m (record it { entering = it.entering ++ x ∷ [] }) mid)) mid) q
        outside
    last x m mid other on None = on
    last x m mid other on (Some it) = set-other x q (entry m) mid.processes other ∙ on

    inner : (it : Condition) (ns : List ℕ) → IsLine crew.processes (condition c) ns
        → Waits (queued_at (first ns) it.monitor (set_condition c (record it { waiters = rest ns }) crew)) q outside
    inner it [] line = w
    inner it (x ∷ ns) line = last x it.monitor (set_condition c (record it { waiters = ns }) crew)
        (apart x line.wait.0 (eq_by_cmp nat_cmp q x) refl) w (slice_get crew.monitors (it.monitor - 1))

    go : (o : Option Condition) → slice_get crew.conditions c ≡ o
        → Waits (with_item o (λ it. queued_at (first it.waiters) it.monitor
        (set_condition c (record it { waiters = rest it.waiters }) crew)) crew) q outside
    go None at = w
    go (Some it) at = inner it it.waiters (lines.waiting c it at)

pub laid-signalled : (c : ℕ) (crew : Crew) → IsLaid crew → IsLaid (signalled c crew)
laid-signalled c crew h = record {
  lines = signalled-lines crew h.lines c (λ it at. h.monitors c it at);
  monitors =
      go (slice_get crew.conditions c) refl;
}
  where
    last : (x m : ℕ) (mid : Crew) → HaveMonitors mid.conditions → (o : Option Monitor)
        → HaveMonitors (with_item o (λ it. set_waits x (entry m) (set_monitor m (record it { entering = it.entering ++ x ∷ [] }) mid))
        mid).conditions
    last x m mid on None = on
    last x m mid on (Some it) = on

    inner : (it : Condition) → slice_get crew.conditions c ≡ Some it → (ns : List ℕ)
        → HaveMonitors (queued_at (first ns) it.monitor (set_condition c (record it { waiters = rest ns }) crew)).conditions
    inner it at [] = set-monitors crew.conditions c it [] at h.monitors
    inner it at (x ∷ ns) = last x it.monitor (set_condition c (record it { waiters = ns }) crew)
        (set-monitors crew.conditions c it ns at h.monitors) (slice_get crew.monitors (it.monitor - 1))

    go : (o : Option Condition) → slice_get crew.conditions c ≡ o
        → HaveMonitors (with_item o (λ it. queued_at (first it.waiters) it.monitor
        (set_condition c (record it { waiters = rest it.waiters }) crew)) crew).conditions
    go None at = h.monitors
    go (Some it) at = inner it at it.waiters
