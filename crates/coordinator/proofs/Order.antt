-- The numbers of the processes ascend, and go on to do so.
use Rattle.std.proofs.Common.{◌≡◌, ◌≤◌, ◌<◌, ℕ, zero, suc, ◌+◌, ◌-◌, ◌==◌, Bool, true, false, cond, not, List, [], ◌∷◌, ◌++◌, map, length}
use Rattle.std.proofs.Common.{Option, None, Some, refl, sym, subst, ◌∙◌, ap, arith, nat_cmp}
use Rattle.std.proofs.lemmas.Bool.Decides.{nat_tests}
use Rattle.std.specs.declared.cmp.Ordering.{Ordering}
use Rattle.std.specs.declared.cmp.Ordering.TheVariants.{Less, Equal, Greater}
use Rattle.std.specs.FinMap.Entries.{by_order}
use Rattle.std.proofs.lemmas.Bool.{eqb-true}
use Rattle.std.proofs.lemmas.List.{length-map}
use Rattle.std.specs.Prelude.{◌||◌, nat_lt, slice_get}
use Rattle.std.specs.Ordering.{eq_by_cmp}
use Rattle.eden_model.specs.Map.{put_at, where_key, with_item, first, rest}
use Rattle.eden_model.specs.Crew.{Crew, Process, Monitor, Condition, Invocation, Waiting, nothing, entry, condition, declared_from}
use Rattle.eden_model.specs.Crew.{with_waits, set_waits, set_waits_of, set_monitor, set_condition, locked, locked_by, match_holder, left}
use Rattle.eden_model.specs.Crew.{left_free, queued_at, waited, signalled, leave_held, ended, is_held_by, is_taken, free_from, least_number}
use Rattle.eden_model.specs.Crew.{least_free, started}
use Rattle.eden_model.specs.Lines.{has, Distinct}
use Rattle.eden_model.proofs.LineLaws.{keys_of}
use Rattle.eden_model.proofs.Numbers.{same-self, no-more, AllIn}
use Rattle.coordinator.specs.Ready.{AscendPast}

pub ascend-declared : (d n : ℕ) → n + d ≤ 16 → AscendPast n (declared_from (n + 1) d)
ascend-declared zero n h = tt
ascend-declared (suc d) n h = (omega arith, omega (arith, h), ascend-declared d (n + 1) (omega (arith, h)))

pub ascend-waits : (p : ℕ) (w : Waiting) (n : ℕ) (es : List (ℕ × Process)) → AscendPast n es → AscendPast n (map (with_waits p w) es)
ascend-waits p w n [] h = tt
ascend-waits p w n (e ∷ es) h = (h.0, h.1, ascend-waits p w e.0 es h.2)

ascend-lower : (m n : ℕ) (es : List (ℕ × Process)) → m ≤ n → AscendPast n es → AscendPast m es
ascend-lower m n [] le h = tt
ascend-lower m n (e ∷ es) le h = (omega (arith, h.0), h.1, h.2)

pub ascend-where : (f : ℕ → Bool) (n : ℕ) (es : List (ℕ × Process)) → AscendPast n es → AscendPast n (where_key nat_cmp f es)
ascend-where f n [] h = tt
ascend-where f n (e ∷ es) h = go (f e.0) (ascend-where f e.0 es h.2)
  where
    go : (b : Bool) → AscendPast e.0 (where_key nat_cmp f es) → AscendPast n (cond b (e ∷ where_key nat_cmp f es) (where_key nat_cmp f es))
    go true ih = (h.0, h.1, ih)
    go false ih = ascend-lower n e.0 (where_key nat_cmp f es) (omega (arith, h.0)) ih

less-is : (a b : ℕ) → nat_cmp a b ≡ Less → a < b
less-is a b h = grind (arith, nat_tests)

greater-is : (a b : ℕ) → nat_cmp a b ≡ Greater → b < a
greater-is a b h = grind (arith, nat_tests)

pub ascend-put : (k : ℕ) (x : Process) (n : ℕ) (es : List (ℕ × Process)) → n < k → k ≤ 16 → AscendPast n es
    → AscendPast n (put_at nat_cmp k x es)
ascend-put k x n [] past most h = (past, most, tt)
ascend-put k x n (e ∷ es) past most h = go (nat_cmp k e.0) refl (λ greater. ascend-put k x e.0 es greater most h.2)
  where
    go : (o : Ordering) → nat_cmp k e.0 ≡ o → (e.0 < k → AscendPast e.0 (put_at nat_cmp k x es))
        → AscendPast n (by_order o ((k, x) ∷ e ∷ es) ((e.0, x) ∷ es) (e ∷ put_at nat_cmp k x es))
    go Less is ih = (past, most, (less-is k e.0 is, h.1, h.2))
    go Equal is ih = (h.0, h.1, h.2)
    go Greater is ih = (h.0, h.1, ih (greater-is k e.0 is))

-- 1. The changes of a crew

pub ascend-as : (x y : Crew) → x ≡ y → AscendPast 0 y.processes → AscendPast 0 x.processes
ascend-as x y same h = subst (λ (crew : Crew). AscendPast 0 crew.processes) (sym same) h

module _ (n : ℕ) where
  abbrev Ascends : Crew → Type 0
  Ascends crew = AscendPast n crew.processes

  ascend-of : (o : Option ℕ) (w : Waiting) (crew : Crew) → Ascends crew → Ascends (set_waits_of o w crew)
  ascend-of None w crew h = h
  ascend-of (Some p) w crew h = ascend-waits p w n crew.processes h

  pub ascend-left : (m : ℕ) (crew : Crew) → Ascends crew → Ascends (left m crew)
  ascend-left m crew h = go (slice_get crew.monitors (m - 1))
    where
      go : (o : Option Monitor) → Ascends (with_item o (λ it. left_free m it crew) crew)
      go None = h
      go (Some it) = ascend-of (first it.entering) nothing
          (set_monitor m (record { holder = first it.entering; entering = rest it.entering }) crew) h

  pub ascend-locked : (p m : ℕ) (crew : Crew) → Ascends crew → Ascends (locked p m crew)
  ascend-locked p m crew h = go (slice_get crew.monitors (m - 1))
    where
      by : (it : Monitor) (o : Option ℕ)
          → Ascends (match_holder o (set_monitor m (record it { holder = Some p }) crew)
          (set_waits p (entry m) (set_monitor m (record it { entering = it.entering ++ p ∷ [] }) crew)))
      by it None = h
      by it (Some q) = ascend-waits p (entry m) n crew.processes h

      go : (o : Option Monitor) → Ascends (with_item o (λ it. locked_by p m it crew) crew)
      go None = h
      go (Some it) = by it it.holder

  ascend-queued : (o : Option ℕ) (m : ℕ) (crew : Crew) → Ascends crew → Ascends (queued_at o m crew)
  ascend-queued None m crew h = h
  ascend-queued (Some p) m crew h = go (slice_get crew.monitors (m - 1))
    where
      go : (o : Option Monitor)
          → Ascends (with_item o (λ it. set_waits p (entry m) (set_monitor m (record it { entering = it.entering ++ p ∷ [] }) crew)) crew)
      go None = h
      go (Some it) = ascend-waits p (entry m) n crew.processes h

  pub ascend-waited : (p c : ℕ) (crew : Crew) → Ascends crew → Ascends (waited p c crew)
  ascend-waited p c crew h = go (slice_get crew.conditions c)
    where
      go : (o : Option Condition)
          → Ascends (with_item o (λ it. set_waits p (condition c)
          (set_condition c (record it { waiters = it.waiters ++ p ∷ [] }) (left it.monitor crew))) crew)
      go None = h
      go (Some it) = ascend-waits p (condition c) n (left it.monitor crew).processes (ascend-left it.monitor crew h)

  pub ascend-signalled : (c : ℕ) (crew : Crew) → Ascends crew → Ascends (signalled c crew)
  ascend-signalled c crew h = go (slice_get crew.conditions c)
    where
      go : (o : Option Condition)
          → Ascends (with_item o (λ it. queued_at (first it.waiters) it.monitor
          (set_condition c (record it { waiters = rest it.waiters }) crew)) crew)
      go None = h
      go (Some it) = ascend-queued (first it.waiters) it.monitor (set_condition c (record it { waiters = rest it.waiters }) crew) h

  ascend-held : (p m : ℕ) (crew : Crew) → Ascends crew → Ascends (leave_held p m crew)
  ascend-held p zero crew h = h
  ascend-held p (suc m) crew h = go (slice_get crew.monitors m) (ascend-held p m crew h)
    where
      by : (b : Bool) → Ascends (leave_held p m crew) → Ascends (cond b (left (m + 1) (leave_held p m crew)) (leave_held p m crew))
      by true ih = ascend-left (m + 1) (leave_held p m crew) ih
      by false ih = ih

      go : (o : Option Monitor) → Ascends (leave_held p m crew)
          → Ascends (with_item o (λ it. cond (is_held_by p it.holder) (left (m + 1) (leave_held p m crew)) (leave_held p m crew))
          (leave_held p m crew))
      go None ih = ih
      go (Some it) ih = by (is_held_by p it.holder) ih

  pub ascend-ended : (p : ℕ) (crew : Crew) → Ascends crew → Ascends (ended p crew)
  ascend-ended p crew h = ascend-where (λ k. not (k == p)) n (leave_held p (length crew.monitors) crew).processes
      (ascend-held p (length crew.monitors) crew h)

-- 2. A process that starts

taken-has : (n : ℕ) (es : List (ℕ × Process)) → is_taken n es ≡ true → has n (keys_of es) ≡ true
taken-has n [] h = cc
taken-has n (e ∷ es) h = go (eq_by_cmp nat_cmp n e.0) refl (e.0 == n) refl (taken-has n es)
  where
    go : (a : Bool) → eq_by_cmp nat_cmp n e.0 ≡ a → (b : Bool) → (e.0 == n) ≡ b → (is_taken n es ≡ true → has n (keys_of es) ≡ true)
        → (eq_by_cmp nat_cmp n e.0 || has n (keys_of es)) ≡ true
    go true a b c ih = rw a refl
    go false a true b ih = let x : e.0 ≡ n = eqb-true e.0 n b in
        let bad : true ≡ false = sym (same-self n) ∙ ap (λ k. eq_by_cmp nat_cmp n k) (sym x) ∙ a in cc
    go false a false b ih = let k : is_taken n (e ∷ es) ≡ true = h in rw a (ih (rw b at k))

abbrev count_from : ℕ → ℕ → List ℕ
count_from zero n = []
count_from (suc more) n = n ∷ count_from more (n + 1)

-- where no number is free, all that were tried are taken
none-free : (more n : ℕ) (es : List (ℕ × Process)) → n + more ≤ free_from more n es → AllIn (count_from more n) (keys_of es)
none-free zero n es h = tt
none-free (suc more) n es h = go (is_taken n es) refl h (none-free more (n + 1) es)
  where
    go : (b : Bool) → is_taken n es ≡ b → n + suc more ≤ elim b [ true ↦ free_from more (n + 1) es | false ↦ n ]
        → (n + 1 + more ≤ free_from more (n + 1) es → AllIn (count_from more (n + 1)) (keys_of es))
        → (has n (keys_of es) ≡ true) × AllIn (count_from more (n + 1)) (keys_of es)
    go true is le ih = (taken-has n es is, ih (omega (arith, le)))
    go false is le ih = absurd (omega (arith, le))

free-from : (more n : ℕ) (es : List (ℕ × Process)) → n ≤ free_from more n es
free-from zero n es = omega arith
free-from (suc more) n es = go (is_taken n es) (free-from more (n + 1) es)
  where
    go : (b : Bool) → n + 1 ≤ free_from more (n + 1) es → n ≤ elim b [ true ↦ free_from more (n + 1) es | false ↦ n ]
    go true ih = omega arith
    go false ih = omega arith

sixteen-distinct : Distinct (count_from 16 1)
sixteen-distinct = (
  refl,
  (refl, (refl, (refl, (refl, (refl, (refl, (refl, (refl, (refl, (refl, (refl, (refl, (refl, (refl, (refl, tt))))))))))))))),
)

-- among fewer than 16 processes the least free number is at most 16
least-most : (crew : Crew) → length crew.processes < 16 → least_free crew ≤ 16
unfolding least_number
least-most crew few = go (nat_lt (free_from 16 1 crew.processes) 17) refl
  where
    many : 17 ≤ free_from 16 1 crew.processes → 16 ≤ length (keys_of crew.processes)
    many all = no-more (count_from 16 1) (keys_of crew.processes) sixteen-distinct (none-free 16 1 crew.processes all)

    go : (b : Bool) → nat_lt (free_from 16 1 crew.processes) 17 ≡ b → free_from 16 1 crew.processes ≤ 16
    go true is = grind (arith, nat_tests, is)
    go false is =
        let all : 17 ≤ free_from 16 1 crew.processes = grind (arith, nat_tests, is) in
        absurd (omega (arith, many all, few, length-map crew.processes (λ (e : ℕ × Process). e.0)))

least-past : (crew : Crew) → 0 < least_free crew
unfolding least_number
least-past crew = omega (arith, free-from 16 1 crew.processes)

pub ascend-started : (i : Invocation) (crew : Crew) → length crew.processes < 16 → AscendPast 0 crew.processes
    → AscendPast 0 (started i crew).processes
ascend-started i crew few h = ascend-put (least_free crew) (record { serves = Some i; waits = nothing }) 0 crew.processes (least-past crew)
    (least-most crew few) h
