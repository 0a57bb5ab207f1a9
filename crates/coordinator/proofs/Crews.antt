-- What a change of a monitor and of the slots is to the crew.
use Rattle.std.proofs.Common.{◌≡◌, ◌≢◌, ◌<◌, ◌≤◌, ℕ, zero, suc, ◌+◌, ◌-◌, ◌==◌, Bool, true, false, cond, not, List, [], ◌∷◌, ◌++◌, map}
use Rattle.std.proofs.Common.{length, Option, None, Some, refl, sym, ◌∙◌, ap, arith}
use Rattle.std.proofs.lemmas.List.{map-set, length-map}
use Rattle.std.proofs.lemmas.Option.{slice_get-get_or}
use Rattle.std.specs.Prelude.{slice_get, slice_set, slice_index_or}
use Rattle.std.specs.Option.{option_map, is_some}
use Rattle.eden_model.specs.Map.{with_item, where_key}
use Rattle.std.specs.List.{filter}
use Rattle.std.specs.Ordering.{nat_cmp}
use Rattle.eden_model.specs.Crew.{Crew, Monitor, Condition, condition, locked, left, waited, signalled, set_waits, set_condition, left_free}
use Rattle.eden_model.specs.Crew.{queued_at, leave_held, ended, is_held_by, set_waits_of, set_monitor, nothing, is_free}
use Rattle.eden_model.specs.Map.{first, rest, is_none}
use Rattle.eden_model.proofs.CrewLaws.{get-set_other, changed-at}
use Rattle.coordinator.specs.declared.slots.Slot.{Slot}
use Rattle.coordinator.specs.declared.slots.Waits.TheVariants as waits
use Rattle.coordinator.specs.declared.monitors.Monitor.{Monitor as MonitorParts}
use Rattle.coordinator.specs.declared.monitors.Condition.{Condition as ConditionParts}
use Rattle.coordinator.specs.Fields.{with_slot}
use Rattle.coordinator.specs.View.{crew_of, monitor_of, condition_of}
use Rattle.coordinator.proofs.Table.{slots-wait, slots-removed}

pub get-map : {X Y : Type 0} (f : X → Y) (xs : List X) (i : ℕ) → slice_get (map f xs) i ≡ option_map f (slice_get xs i)
get-map f [] i = refl
get-map f (x ∷ xs) zero = refl
get-map f (x ∷ xs) (suc i) = get-map f xs i

pub found : {X : Type 0} (xs : List X) (i : ℕ) (x : X) → i < length xs → x ≡ slice_index_or xs i x → slice_get xs i ≡ Some x
found xs i x h is = slice_get-get_or xs i x h ∙ ap Some (sym is)

module _ (ls : List ℕ) (cs : List Condition) (slots : List Slot) (monitors : List MonitorParts) where
  at-monitor : (g : MonitorParts) (i : ℕ) → slice_get monitors i ≡ Some g → slice_get (map monitor_of monitors) i ≡ Some (monitor_of g)
  at-monitor g i is = get-map monitor_of monitors i ∙ ap (option_map monitor_of) is

  pub pass-none : (g h : MonitorParts) (m : ℕ) → slice_get monitors (m - 1) ≡ Some g → first g.entering ≡ None
      → h ≡ record { holder = first g.entering; entering = rest g.entering }
      → crew_of ls cs slots (slice_set monitors (m - 1) h) ≡ left m (crew_of ls cs slots monitors)
  pass-none g h m is none at = rw (at, at-monitor g (m - 1) is, none, map-set) refl

  pub pass-some : (g h : MonitorParts) (m q : ℕ) (ss : List Slot) → slice_get monitors (m - 1) ≡ Some g → first g.entering ≡ Some q
      → h ≡ record { holder = first g.entering; entering = rest g.entering } → ss ≡ map (with_slot q waits.Nothing) slots
      → crew_of ls cs ss (slice_set monitors (m - 1) h) ≡ left m (crew_of ls cs slots monitors)
  pass-some g h m q ss is some at now = rw (at, now, at-monitor g (m - 1) is, some, map-set, slots-wait q waits.Nothing slots) refl

  pub joined : (g h : MonitorParts) (p m : ℕ) (ss : List Slot) → slice_get monitors (m - 1) ≡ Some g
      → h ≡ record { holder = g.holder; entering = g.entering ++ p ∷ [] } → ss ≡ map (with_slot p (waits.Entry m)) slots
      → crew_of ls cs ss (slice_set monitors (m - 1) h) ≡ queued_at (Some p) m (crew_of ls cs slots monitors)
  joined g h p m ss is at now = rw (at, now, at-monitor g (m - 1) is, map-set, slots-wait p (waits.Entry m) slots) refl

  pub free-is : (g : MonitorParts) (m : ℕ) → slice_get monitors (m - 1) ≡ Some g
      → is_none g.holder ≡ is_free (crew_of ls cs slots monitors) m
  free-is g m is = rw (at-monitor g (m - 1) is) refl

  pub entered-free : (g : MonitorParts) (p m : ℕ) → slice_get monitors (m - 1) ≡ Some g → is_none g.holder ≡ true
      → crew_of ls cs slots (slice_set monitors (m - 1) (record g { holder = Some p })) ≡ locked p m (crew_of ls cs slots monitors)
  entered-free g p m is free = go g.holder refl free
    where
      go : (o : Option ℕ) → g.holder ≡ o → is_none o ≡ true
          → crew_of ls cs slots (slice_set monitors (m - 1) (record g { holder = Some p })) ≡ locked p m (crew_of ls cs slots monitors)
      go None e t = rw (at-monitor g (m - 1) is, e, map-set) refl
      go (Some h) e t = cc

  pub entered-held : (g : MonitorParts) (p m : ℕ) → slice_get monitors (m - 1) ≡ Some g → is_none g.holder ≡ false
      → queued_at (Some p) m (crew_of ls cs slots monitors) ≡ locked p m (crew_of ls cs slots monitors)
  entered-held g p m is held = go g.holder refl held
    where
      go : (o : Option ℕ) → g.holder ≡ o → is_none o ≡ false
          → queued_at (Some p) m (crew_of ls cs slots monitors) ≡ locked p m (crew_of ls cs slots monitors)
      go None e t = cc
      go (Some h) e t = rw (at-monitor g (m - 1) is, e) refl

-- 1. Conditions

module _ (ls : List ℕ) (slots : List Slot) (monitors : List MonitorParts) (conditions : List ConditionParts) where
  pub at-condition : (b : ConditionParts) (c : ℕ) → slice_get conditions c ≡ Some b
      → slice_get (map condition_of conditions) c ≡ Some (condition_of b)
  at-condition b c is = get-map condition_of conditions c ∙ ap (option_map condition_of) is

  pub waits-done : (b d : ConditionParts) (p c : ℕ) (ss ts : List Slot) (gs : List MonitorParts) → slice_get conditions c ≡ Some b
      → d ≡ record { monitor = b.monitor; waiters = b.waiters ++ p ∷ [] }
      → crew_of ls (map condition_of conditions) ss gs ≡ left b.monitor (crew_of ls (map condition_of conditions) slots monitors)
      → ts ≡ map (with_slot p (waits.Condition c)) ss
      → crew_of ls (map condition_of (slice_set conditions c d)) ts gs ≡ waited p c
      (crew_of ls (map condition_of conditions) slots monitors)
  waits-done b d p c ss ts gs is same passed now =
      let step : crew_of ls (map condition_of (slice_set conditions c d)) ts gs ≡ set_waits p (condition c)
      (set_condition c (condition_of d) (crew_of ls (map condition_of conditions) ss gs)) =
      rw (now, map-set, slots-wait p (waits.Condition c) ss) refl in
      step ∙ ap (λ crew. set_waits p (condition c) (set_condition c (condition_of d) crew)) passed ∙ rw (same, at-condition b c is) refl

  pub signals-none : (b d : ConditionParts) (c : ℕ) → slice_get conditions c ≡ Some b → first b.waiters ≡ None
      → d ≡ record { monitor = b.monitor; waiters = rest b.waiters }
      → crew_of ls (map condition_of (slice_set conditions c d)) slots monitors ≡ signalled c
      (crew_of ls (map condition_of conditions) slots monitors)
  signals-none b d c is none same = rw (same, at-condition b c is, none, map-set) refl

  pub signals-some : (b d : ConditionParts) (c q : ℕ) → slice_get conditions c ≡ Some b → first b.waiters ≡ Some q
      → d ≡ record { monitor = b.monitor; waiters = rest b.waiters }
      → queued_at (Some q) b.monitor (crew_of ls (map condition_of (slice_set conditions c d)) slots monitors) ≡ signalled c
      (crew_of ls (map condition_of conditions) slots monitors)
  signals-some b d c q is some same = rw (same, at-condition b c is, some, map-set) refl

  pub condition-within : (c : ℕ) → c < length (map condition_of conditions) → c < length conditions
  condition-within c h = omega (arith, length-map conditions condition_of)

  -- the monitors of the conditions stay
  pub conditions-kept : (P : ℕ → Type 0) (b d : ConditionParts) (c : ℕ) → slice_get conditions c ≡ Some b → d.monitor ≡ b.monitor
      → ((i : ℕ) (it : Condition) → slice_get (map condition_of conditions) i ≡ Some it → P it.monitor)
      → (i : ℕ) (it : Condition) → slice_get (map condition_of (slice_set conditions c d)) i ≡ Some it → P it.monitor
  conditions-kept P b d c is same all i it at = changed-at (λ j (x : Condition). P x.monitor) (map condition_of conditions) c
      (condition_of d) (condition_of b) (at-condition b c is)
      (rw same (all c (condition_of b) (at-condition b c is))) (λ j z other h. all j z h) i it (rw map-set at at)

-- 2. All monitors that a process holds

left-other : (crew : Crew) (m j : ℕ) → j ≢ m - 1 → slice_get (left m crew).monitors j ≡ slice_get crew.monitors j
left-other crew m j other = go (slice_get crew.monitors (m - 1))
  where
    inner : (it : Monitor) (o : Option ℕ)
        → slice_get (set_waits_of o nothing (set_monitor m it crew)).monitors j ≡ slice_get crew.monitors j
    inner it None = get-set_other crew.monitors (m - 1) j it other
    inner it (Some q) = get-set_other crew.monitors (m - 1) j it other

    go : (o : Option Monitor) → slice_get (with_item o (λ it. left_free m it crew) crew).monitors j ≡ slice_get crew.monitors j
    go None = refl
    go (Some it) = inner (record { holder = first it.entering; entering = rest it.entering }) (first it.entering)

pub held-other : (crew : Crew) (p n j : ℕ) → n ≤ j → slice_get (leave_held p n crew).monitors j ≡ slice_get crew.monitors j
held-other crew p zero j h = refl
held-other crew p (suc n) j h = go (slice_get crew.monitors n) (held-other crew p n j (omega arith))
    (left-other (leave_held p n crew) (n + 1) j (λ e. absurd (omega arith)))
  where
    inner : (b : Bool) → slice_get (leave_held p n crew).monitors j ≡ slice_get crew.monitors j
        → slice_get (left (n + 1) (leave_held p n crew)).monitors j ≡ slice_get (leave_held p n crew).monitors j
        → slice_get (cond b (left (n + 1) (leave_held p n crew)) (leave_held p n crew)).monitors j ≡ slice_get crew.monitors j
    inner true ih step = step ∙ ih
    inner false ih step = ih

    go : (o : Option Monitor) → slice_get (leave_held p n crew).monitors j ≡ slice_get crew.monitors j
        → slice_get (left (n + 1) (leave_held p n crew)).monitors j ≡ slice_get (leave_held p n crew).monitors j
        → slice_get (with_item o (λ it. cond (is_held_by p it.holder) (left (n + 1) (leave_held p n crew)) (leave_held p n crew))
        (leave_held p n crew)).monitors j ≡ slice_get crew.monitors j
    go None ih step = ih
    go (Some it) ih step = inner (is_held_by p it.holder) ih step

-- a step of the loop over the monitors
pub held-more : (crew now : Crew) (p i : ℕ) (it : Monitor) → now ≡ leave_held p i crew → slice_get now.monitors i ≡ Some it
    → leave_held p (i + 1) crew ≡ cond (is_held_by p it.holder) (left (i + 1) now) now
held-more crew now p i it same at =
    let here : slice_get crew.monitors i ≡ Some it = sym (held-other crew p i i (omega arith))
    ∙ ap (λ (c : Crew). slice_get c.monitors i) (sym same) ∙ at in
    let e : i + 1 ≡ suc i = omega arith in
    let step : leave_held p (suc i) crew ≡ cond (is_held_by p it.holder) (left (i + 1) now) now = rw (here, same) refl in
    ap (λ k. leave_held p k crew) e ∙ step

-- the process leaves what it holds, and is gone
pub ended-done : (ls : List ℕ) (cs : List Condition) (slots : List Slot) (monitors : List MonitorParts) (p : ℕ) (ss ts : List Slot)
    (gs : List MonitorParts)
    → crew_of ls cs ss gs ≡ leave_held p (length monitors) (crew_of ls cs slots monitors) → ts ≡ filter (λ s. not (s.number == p)) ss
    → crew_of ls cs ts gs ≡ ended p (crew_of ls cs slots monitors)
ended-done ls cs slots monitors p ss ts gs passed now =
    let step : crew_of ls cs ts gs ≡ record (crew_of ls cs ss gs) {
      processes =
          where_key nat_cmp (λ k. not (k == p)) (crew_of ls cs ss gs).processes;
    } = rw (now, slots-removed p ss) refl in
    step ∙ ap (λ (crew : Crew). record crew { processes = where_key nat_cmp (λ k. not (k == p)) crew.processes }) passed
    ∙ ap (λ n. record (leave_held p n (crew_of ls cs slots monitors)) {
      processes =
          where_key nat_cmp (λ k. not (k == p)) (leave_held p n (crew_of ls cs slots monitors)).processes;
    })
    (sym (length-map monitors monitor_of))

pub none-is : (o : Option ℕ) → is_some o ≡ true → is_none o ≡ false
none-is None h = cc
none-is (Some x) h = refl

pub none-free : (o : Option ℕ) → is_some o ≡ false → is_none o ≡ true
none-free None h = refl
none-free (Some x) h = cc
