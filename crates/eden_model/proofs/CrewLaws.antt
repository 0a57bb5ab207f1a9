-- What each change of a crew does to its queues.
use Rattle.std.proofs.Common.{◌≡◌, ◌≢◌, ◌≤◌, ℕ, zero, suc, ◌+◌, ◌-◌, ◌==◌, Bool, true, false, cond, List, [], ◌∷◌, ◌++◌, map, Option}
use Rattle.std.proofs.Common.{None, Some, refl, sym, ◌∙◌, ap, arith}
use Rattle.std.specs.Prelude.{slice_get, slice_set}
use Rattle.eden_model.specs.Map.{with_item, first, rest}
use Rattle.eden_model.specs.Crew.{Crew, Monitor, Condition, Waiting, nothing, outside, entry, condition, Waits, Runs, waits_at}
use Rattle.eden_model.specs.Crew.{with_waits, set_waits, set_waits_of, set_monitor, set_condition, locked, locked_by, match_holder, left}
use Rattle.eden_model.specs.Crew.{left_free, waited, signalled, queued_at, leave_held, is_held_by}
use Rattle.eden_model.specs.Lines.{has, IsLine, AreLines, IsOut}
use Rattle.eden_model.proofs.LineLaws.{line-kept, line-rest, line-push, line-apart, set-same, set-free}

pub get-set_same : {X : Type 0} (xs : List X) (i : ℕ) (x y : X) → slice_get xs i ≡ Some y → slice_get (slice_set xs i x) i ≡ Some x
get-set_same [] i x y h = cc
get-set_same (z ∷ xs) zero x y h = refl
get-set_same (z ∷ xs) (suc i) x y h = get-set_same xs i x y h

pub get-set_other : {X : Type 0} (xs : List X) (i j : ℕ) (x : X) → j ≢ i → slice_get (slice_set xs i x) j ≡ slice_get xs j
get-set_other [] i j x h = refl
get-set_other (z ∷ xs) zero zero x h = absurd (h refl)
get-set_other (z ∷ xs) zero (suc j) x h = refl
get-set_other (z ∷ xs) (suc i) zero x h = refl
get-set_other (z ∷ xs) (suc i) (suc j) x h = get-set_other xs i j x (λ e. h (ap suc e))

-- at each place of a changed list
pub changed-at : {X : Type 0} (P : ℕ → X → Type 0) (xs : List X) (i : ℕ) (x y : X) → slice_get xs i ≡ Some y → P i x
    → ((j : ℕ) (z : X) → j ≢ i → slice_get xs j ≡ Some z → P j z)
    → (j : ℕ) (z : X) → slice_get (slice_set xs i x) j ≡ Some z → P j z
changed-at {X} P xs i x y is here others j z at = go (j == i) refl
  where
    go : (b : Bool) → (j == i) ≡ b → P j z
    go true h = let e : j ≡ i = grind arith in
        let same : x ≡ z = (let s : Some x ≡ Some z = sym (get-set_same xs i x y is) ∙ ap (slice_get (slice_set xs i x)) (sym e) ∙ at in
        cc) in rw (e, ← same) here
    go false h = let other : j ≢ i = grind arith in others j z other (sym (get-set_other xs i j x other) ∙ at)

module _ (crew : Crew) where
  abbrev pub with_monitor : ℕ → Monitor → Crew
  with_monitor i it = record crew { monitors = slice_set crew.monitors i it }

  abbrev pub with_condition : ℕ → Condition → Crew
  with_condition i it = record crew { conditions = slice_set crew.conditions i it }

  pub monitor-changed : AreLines crew → (i : ℕ) (it was : Monitor) → slice_get crew.monitors i ≡ Some was
      → IsLine crew.processes (entry (i + 1)) it.entering → AreLines (with_monitor i it)
  monitor-changed lines i it was at line = record {
    entering = changed-at (λ j m. IsLine crew.processes (entry (j + 1)) m.entering) crew.monitors i it was at line
        (λ j z other h. lines.entering j z h);
    waiting = lines.waiting;
  }

  pub condition-changed : AreLines crew → (i : ℕ) (it was : Condition) → slice_get crew.conditions i ≡ Some was
      → IsLine crew.processes (condition i) it.waiters → AreLines (with_condition i it)
  condition-changed lines i it was at line = record {
    entering = lines.entering;
    waiting = changed-at (λ j c. IsLine crew.processes (condition j) c.waiters) crew.conditions i it was at line
        (λ j z other h. lines.waiting j z h);
  }

  -- who is in no queue may wait for something else
  pub waits-changed : AreLines crew → (p : ℕ) (w : Waiting) → IsOut crew p → AreLines (set_waits p w crew)
  waits-changed lines p w out = record {
    entering = λ i it at. line-kept crew.processes p w (entry (i + 1)) it.entering (lines.entering i it at) (out.entering i it at);
    waiting = λ i it at. line-kept crew.processes p w (condition i) it.waiters (lines.waiting i it at) (out.waiting i it at);
  }

  pub out-still : (p q : ℕ) (w : Waiting) → IsOut crew p → IsOut (set_waits q w crew) p
  out-still p q w out = record { entering = out.entering; waiting = out.waiting }

  -- who waits for no queue is in none
  pub out-free : AreLines crew → (p : ℕ) (v : Waiting) → Waits crew p v → ((m : ℕ) → v ≡ entry m → ⊥) → ((c : ℕ) → v ≡ condition c → ⊥)
      → IsOut crew p
  out-free lines p v is no_entry no_condition = record {
    entering = λ i it at. line-apart crew.processes p v (entry (i + 1)) it.entering (lines.entering i it at) is (no_entry (i + 1));
    waiting = λ i it at. line-apart crew.processes p v (condition i) it.waiters (lines.waiting i it at) is (no_condition i);
  }

  pub out-runs : AreLines crew → (p : ℕ) → Runs crew p → IsOut crew p
  out-runs lines p runs = out-free lines p nothing runs (λ m e. cc) (λ c e. cc)

  pub out-outside : AreLines crew → (p : ℕ) → Waits crew p outside → IsOut crew p
  out-outside lines p is = out-free lines p outside is (λ m e. cc) (λ c e. cc)

  same-entry : (i j : ℕ) → entry (i + 1) ≡ entry (j + 1) → j ≡ i
  same-entry i j e = let n : i + 1 ≡ j + 1 = cc in omega arith

  -- the head of an entry queue leaves it
  pub entry-left : AreLines crew → (i : ℕ) (it was : Monitor) (q : ℕ) (ns : List ℕ) → slice_get crew.monitors i ≡ Some was
      → was.entering ≡ q ∷ ns → it.entering ≡ ns → AreLines (with_monitor i it) × IsOut (with_monitor i it) q
  entry-left lines i it was q ns at queue next =
      let line : IsLine crew.processes (entry (i + 1)) (q ∷ ns) = rw queue at (lines.entering i was at) in (
        monitor-changed lines i it was at (rw next (line-rest crew.processes q (entry (i + 1)) ns line)),
        record {
          entering = changed-at (λ j m. has q m.entering ≡ false) crew.monitors i it was at (rw next line.once.0)
              (λ j z other h. line-apart crew.processes q (entry (i + 1)) (entry (j + 1)) z.entering (lines.entering j z h) line.wait.0
              (λ e. other (same-entry i j e)));
          waiting = λ j z h. line-apart crew.processes q (entry (i + 1)) (condition j) z.waiters (lines.waiting j z h) line.wait.0
              (λ e. cc);
        },
      )

  pub condition-left : AreLines crew → (i : ℕ) (it was : Condition) (q : ℕ) (ns : List ℕ) → slice_get crew.conditions i ≡ Some was
      → was.waiters ≡ q ∷ ns → it.waiters ≡ ns → AreLines (with_condition i it) × IsOut (with_condition i it) q
  condition-left lines i it was q ns at queue next =
      let line : IsLine crew.processes (condition i) (q ∷ ns) = rw queue at (lines.waiting i was at) in (
        condition-changed lines i it was at (rw next (line-rest crew.processes q (condition i) ns line)),
        record {
          entering = λ j z h. line-apart crew.processes q (condition i) (entry (j + 1)) z.entering (lines.entering j z h) line.wait.0
              (λ e. cc);
          waiting = changed-at (λ j m. has q m.waiters ≡ false) crew.conditions i it was at (rw next line.once.0)
              (λ j z other h. line-apart crew.processes q (condition i) (condition j) z.waiters (lines.waiting j z h) line.wait.0
              (λ e. other (let s : i ≡ j = cc in sym s)));
        },
      )

-- 1. The process goes to the back of an entry queue, or of a condition's queue

pub entry-joined : (crew : Crew) → AreLines crew → (p : ℕ) (v : Waiting) (m : ℕ) (it : Monitor) → IsOut crew p → Waits crew p v → 1 ≤ m
    → slice_get crew.monitors (m - 1) ≡ Some it
    → AreLines (set_waits p (entry m) (set_monitor m (record it { entering = it.entering ++ p ∷ [] }) crew))
entry-joined crew lines p v m it out is from at =
    let e : m - 1 + 1 ≡ m = omega arith in
    let changed : AreLines (set_waits p (entry m) crew) = waits-changed crew lines p (entry m) out in
    let line : IsLine (map (with_waits p (entry m)) crew.processes) (entry (m - 1 + 1)) it.entering = changed.entering (m - 1) it at in
    let now : waits_at p (map (with_waits p (entry m)) crew.processes) ≡ Some (entry (m - 1 + 1)) = set-same p v
    (entry m) crew.processes is ∙ ap (λ n. Some (entry n)) (sym e) in
    monitor-changed (set_waits p (entry m) crew) changed (m - 1) (record it { entering = it.entering ++ p ∷ [] }) it at
    (line-push _ p (entry (m - 1 + 1)) it.entering line (out.entering (m - 1) it at) now)

pub condition-joined : (crew : Crew) → AreLines crew → (p : ℕ) (v : Waiting) (c : ℕ) (it : Condition) → IsOut crew p → Waits crew p v
    → slice_get crew.conditions c ≡ Some it
    → AreLines (set_waits p (condition c) (set_condition c (record it { waiters = it.waiters ++ p ∷ [] }) crew))
condition-joined crew lines p v c it out is at =
    let changed : AreLines (set_waits p (condition c) crew) = waits-changed crew lines p (condition c) out in
    condition-changed (set_waits p (condition c) crew) changed c (record it { waiters = it.waiters ++ p ∷ [] }) it at
    (line-push _ p (condition c) it.waiters (changed.waiting c it at) (out.waiting c it at) (set-same p v (condition c) crew.processes is))

-- 2. The changes of a crew

pub locked-lines : (crew : Crew) → AreLines crew → (p m : ℕ) → Runs crew p → 1 ≤ m → AreLines (locked p m crew)
locked-lines crew lines p m runs from = go (slice_get crew.monitors (m - 1)) refl
  where
    held : (it : Monitor) → slice_get crew.monitors (m - 1) ≡ Some it → (h : Option ℕ)
        → AreLines (match_holder h (set_monitor m (record it { holder = Some p }) crew)
        (set_waits p (entry m) (set_monitor m (record it { entering = it.entering ++ p ∷ [] }) crew)))
    held it at None = monitor-changed crew lines (m - 1) (record it { holder = Some p }) it at (lines.entering (m - 1) it at)
    held it at (Some h) = entry-joined crew lines p nothing m it (out-runs crew lines p runs) runs from at

    go : (o : Option Monitor) → slice_get crew.monitors (m - 1) ≡ o → AreLines (with_item o (λ it. locked_by p m it crew) crew)
    go None e = lines
    go (Some it) e = held it e it.holder

left-free-lines : (crew : Crew) → AreLines crew → (m : ℕ) (it : Monitor) → slice_get crew.monitors (m - 1) ≡ Some it
    → AreLines (left_free m it crew)
left-free-lines crew lines m it at = go it.entering refl
  where
    go : (ns : List ℕ) → it.entering ≡ ns → AreLines
        (set_waits_of (first ns) nothing (set_monitor m (record { holder = first ns; entering = rest ns }) crew))
    go [] e = monitor-changed crew lines (m - 1) (record { holder = None; entering = [] }) it at (rw e at (lines.entering (m - 1) it at))
    go (q ∷ ns) e =
        let next : Monitor = record { holder = Some q; entering = ns } in
        let two = entry-left crew lines (m - 1) next it q ns at e refl in
        waits-changed (with_monitor crew (m - 1) next) two.0 q nothing two.1

pub left-lines : (crew : Crew) → AreLines crew → (m : ℕ) → AreLines (left m crew)
left-lines crew lines m = go (slice_get crew.monitors (m - 1)) refl
  where
    go : (o : Option Monitor) → slice_get crew.monitors (m - 1) ≡ o → AreLines (with_item o (λ it. left_free m it crew) crew)
    go None e = lines
    go (Some it) e = left-free-lines crew lines m it e

pub left-runs : (crew : Crew) (m p : ℕ) → Runs crew p → Runs (left m crew) p
left-runs crew m p runs = go (slice_get crew.monitors (m - 1))
  where
    inner : (it : Monitor) (o : Option ℕ) → Runs (set_waits_of o nothing (set_monitor m it crew)) p
    inner it None = runs
    inner it (Some q) = set-free p q nothing crew.processes runs

    go : (o : Option Monitor) → Runs (with_item o (λ it. left_free m it crew) crew) p
    go None = runs
    go (Some it) = inner (record { holder = first it.entering; entering = rest it.entering }) (first it.entering)

pub left-conditions : (crew : Crew) (m : ℕ) → (left m crew).conditions ≡ crew.conditions
left-conditions crew m = go (slice_get crew.monitors (m - 1))
  where
    inner : (it : Monitor) (o : Option ℕ) → (set_waits_of o nothing (set_monitor m it crew)).conditions ≡ crew.conditions
    inner it None = refl
    inner it (Some q) = refl

    go : (o : Option Monitor) → (with_item o (λ it. left_free m it crew) crew).conditions ≡ crew.conditions
    go None = refl
    go (Some it) = inner (record { holder = first it.entering; entering = rest it.entering }) (first it.entering)

pub waited-lines : (crew : Crew) → AreLines crew → (p c : ℕ) → Runs crew p → AreLines (waited p c crew)
waited-lines crew lines p c runs = go (slice_get crew.conditions c) refl
  where
    go : (o : Option Condition) → slice_get crew.conditions c ≡ o
        → AreLines (with_item o (λ it. set_waits p (condition c)
        (set_condition c (record it { waiters = it.waiters ++ p ∷ [] }) (left it.monitor crew))) crew)
    go None e = lines
    go (Some it) e =
        let after = left-lines crew lines it.monitor in
        let still = left-runs crew it.monitor p runs in
        condition-joined (left it.monitor crew) after p nothing c it (out-runs (left it.monitor crew) after p still) still
        (ap (λ cs. slice_get cs c) (left-conditions crew it.monitor) ∙ e)

pub signalled-lines : (crew : Crew) → AreLines crew → (c : ℕ)
    → ((it : Condition) → slice_get crew.conditions c ≡ Some it → 1 ≤ it.monitor) → AreLines (signalled c crew)
signalled-lines crew lines c from = go (slice_get crew.conditions c) refl
  where
    inner : (it : Condition) → slice_get crew.conditions c ≡ Some it → (ns : List ℕ) → it.waiters ≡ ns
        → AreLines (queued_at (first ns) it.monitor (set_condition c (record it { waiters = rest ns }) crew))
    inner it e [] w = condition-changed crew lines c (record it { waiters = [] }) it e (rw w at (lines.waiting c it e))
    inner it e (q ∷ ns) w = last (slice_get crew.monitors (it.monitor - 1)) refl
      where
        two : AreLines (set_condition c (record it { waiters = ns }) crew) × IsOut (set_condition c (record it { waiters = ns }) crew) q
        two = condition-left crew lines c (record it { waiters = ns }) it q ns e w refl

        is : Waits crew q (condition c)
        is = let line : IsLine crew.processes (condition c) (q ∷ ns) = rw w at (lines.waiting c it e) in line.wait.0

        last : (o : Option Monitor) → slice_get crew.monitors (it.monitor - 1) ≡ o
            → AreLines (with_item o (λ m. set_waits q (entry it.monitor)
            (set_monitor it.monitor (record m { entering = m.entering ++ q ∷ [] })
            (set_condition c (record it { waiters = ns }) crew))) (set_condition c (record it { waiters = ns }) crew))
        last None h = two.0
        last (Some m) h = entry-joined (set_condition c (record it { waiters = ns }) crew) two.0 q (condition c) it.monitor m two.1 is
            (from it e) h

    go : (o : Option Condition) → slice_get crew.conditions c ≡ o
        → AreLines (with_item o (λ it. queued_at (first it.waiters) it.monitor
        (set_condition c (record it { waiters = rest it.waiters }) crew)) crew)
    go None e = lines
    go (Some it) e = inner it e it.waiters refl

held-left : (crew : Crew) (n p : ℕ) → AreLines crew × Runs crew p → AreLines (leave_held p n crew) × Runs (leave_held p n crew) p
held-left crew zero p h = h
held-left crew (suc n) p h = go (slice_get crew.monitors n) (held-left crew n p h)
  where
    inner : (b : Bool) → AreLines (leave_held p n crew) × Runs (leave_held p n crew) p
        → AreLines (cond b (left (n + 1) (leave_held p n crew)) (leave_held p n crew))
        × Runs (cond b (left (n + 1) (leave_held p n crew)) (leave_held p n crew)) p
    inner true ih = (left-lines (leave_held p n crew) ih.0 (n + 1), left-runs (leave_held p n crew) (n + 1) p ih.1)
    inner false ih = ih

    go : (o : Option Monitor) → AreLines (leave_held p n crew) × Runs (leave_held p n crew) p
        → AreLines (with_item o (λ it. cond (is_held_by p it.holder) (left (n + 1) (leave_held p n crew)) (leave_held p n crew))
        (leave_held p n crew))
        × Runs (with_item o (λ it. cond (is_held_by p it.holder) (left (n + 1) (leave_held p n crew)) (leave_held p n crew))
        (leave_held p n crew)) p
    go None ih = ih
    go (Some it) ih = inner (is_held_by p it.holder) ih

pub leave_held-lines : (crew : Crew) (n p : ℕ) → AreLines crew → Runs crew p → AreLines (leave_held p n crew) × Runs (leave_held p n crew) p
leave_held-lines crew n p lines runs = held-left crew n p (lines, runs)
