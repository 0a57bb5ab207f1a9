-- The least free number of a process, and what the coming and going of a process does to the queues.
use Rattle.std.proofs.Common.{◌≡◌, ◌≤◌, ◌<◌, ℕ, zero, suc, ◌+◌, ◌-◌, ◌==◌, Bool, true, false, cond, not, List, [], ◌∷◌, length, None}
use Rattle.std.proofs.Common.{Some, refl, sym, ◌∙◌, ap, arith}
use Rattle.std.proofs.lemmas.Bool.{eqb-true}
use Rattle.std.proofs.lemmas.List.{length-map}
use Rattle.std.specs.Prelude.{◌||◌}
use Rattle.std.specs.Option.{option_map}
use Rattle.std.specs.Ordering.{nat_cmp, eq_by_cmp}
use Rattle.std.specs.Cmp.{nat_cmp_total}
use Rattle.std.specs.FinMap.{nat_cmp-IsAntisymmetric}
use Rattle.std.specs.FinMap.Entries.{find-put, find-where_key}
use Rattle.eden_model.specs.Map.{value_at, put_at, where_key}
use Rattle.eden_model.specs.Crew.{Crew, Process, Waiting, Runs, entry, condition, waits_at, is_taken, free_from, least_number}
use Rattle.eden_model.specs.Crew.{least_free, Invocation, started, ended, leave_held}
use Rattle.eden_model.specs.Lines.{has, Distinct, AllWait, AreLines, IsOut}
use Rattle.eden_model.proofs.Numbers.{same-true, same-self, no-more, AllIn}
use Rattle.eden_model.proofs.LineLaws.{keys_of, line-by}
use Rattle.eden_model.proofs.CrewLaws.{out-runs, leave_held-lines}

-- 1. Free numbers

taken-has : (n : ℕ) (es : List (ℕ × Process)) → is_taken n es ≡ true → has n (keys_of es) ≡ true
taken-has n [] h = cc
taken-has n (e ∷ es) h = go (eq_by_cmp nat_cmp n e.0) refl (e.0 == n) refl (taken-has n es)
  where
    go : (a : Bool) → eq_by_cmp nat_cmp n e.0 ≡ a → (b : Bool) → (e.0 == n) ≡ b → (is_taken n es ≡ true → has n (keys_of es) ≡ true)
        → (eq_by_cmp nat_cmp n e.0 || has n (keys_of es)) ≡ true
    go true a b c ih = rw a refl
    go false a true b ih = let x : e.0 ≡ n = eqb-true e.0 n b in
        let bad : true ≡ false = sym (same-self n) ∙ ap (λ k. eq_by_cmp nat_cmp n k) (sym x) ∙ a in cc
    go false a false b ih = let k : is_taken n (e ∷ es) ≡ true = h in rw a (ih (rw b at k))

pub free-none : (n : ℕ) (es : List (ℕ × Process)) → is_taken n es ≡ false → value_at nat_cmp n es ≡ None
free-none n [] h = refl
free-none n (e ∷ es) h = go (eq_by_cmp nat_cmp n e.0) refl (e.0 == n) refl (free-none n es)
  where
    k : is_taken n (e ∷ es) ≡ false
    k = h

    go : (a : Bool) → eq_by_cmp nat_cmp n e.0 ≡ a → (b : Bool) → (e.0 == n) ≡ b → (is_taken n es ≡ false → value_at nat_cmp n es ≡ None)
        → cond (eq_by_cmp nat_cmp n e.0) (Some e.1) (value_at nat_cmp n es) ≡ None
    go true a true b ih = let bad : true ≡ false = rw b at k in cc
    go true a false b ih = let x : n ≡ e.0 = same-true n e.0 a in absurd (let bad : true ≡ false = sym (grind (arith, x)) ∙ b in cc)
    go false a true b ih = let bad : true ≡ false = rw b at k in cc
    go false a false b ih = rw a (ih (rw b at k))

abbrev numbers : ℕ → ℕ → List ℕ
numbers zero n = []
numbers (suc more) n = n ∷ numbers more (n + 1)

-- where the number found is taken, so are all that were tried
all-taken : (more n : ℕ) (es : List (ℕ × Process)) → is_taken (free_from more n es) es ≡ true → AllIn (numbers more n) (keys_of es)
all-taken zero n es h = tt
all-taken (suc more) n es h = go (is_taken n es) refl h (all-taken more (n + 1) es)
  where
    go : (b : Bool) → is_taken n es ≡ b → is_taken (elim b [ true ↦ free_from more (n + 1) es | false ↦ n ]) es ≡ true
        → (is_taken (free_from more (n + 1) es) es ≡ true → AllIn (numbers more (n + 1)) (keys_of es)) → (has n (keys_of es) ≡ true)
        × AllIn (numbers more (n + 1)) (keys_of es)
    go true is t ih = (taken-has n es is, ih t)
    go false is t ih = let bad : true ≡ false = sym t ∙ is in cc

sixteen-distinct : Distinct (numbers 16 1)
sixteen-distinct = (
  refl,
  (
    refl,
    (
      refl,
      (
        refl,
        (refl, (refl, (refl, (refl, (refl, (refl, (refl, (refl, (refl, (refl, (refl, (refl, tt)))))))))))),
      ),
    ),
  ),
)

-- among fewer than 16 processes there is a free number
pub least_free-free : (crew : Crew) → length crew.processes < 16 → is_taken (least_free crew) crew.processes ≡ false
unfolding least_number
least_free-free crew few = go (is_taken (free_from 16 1 crew.processes) crew.processes) refl
  where
    go : (b : Bool) → is_taken (free_from 16 1 crew.processes) crew.processes ≡ b → b ≡ false
    go true is = absurd (let n : length (numbers 16 1) ≤ length (keys_of crew.processes) = no-more (numbers 16 1)
        (keys_of crew.processes) sixteen-distinct (all-taken 16 1 crew.processes is) in
        let m : 16 ≤ length (keys_of crew.processes) = n in omega (arith, length-map crew.processes (λ (e : ℕ × Process). e.0)))
    go false is = refl

-- a loop that looks for it
pub free-more : (n : ℕ) (es : List (ℕ × Process)) → n < 17 → is_taken n es ≡ true
    → free_from (17 - n) n es ≡ free_from (17 - (n + 1)) (n + 1) es
free-more n es h t = let e : 17 - n ≡ suc (17 - (n + 1)) = omega arith in rw e (go (is_taken n es) t)
  where
    go : (b : Bool) → b ≡ true → elim b [ true ↦ free_from (17 - (n + 1)) (n + 1) es | false ↦ n ] ≡ free_from (17 - (n + 1)) (n + 1) es
    go true e = refl
    go false e = cc

pub free-here : (n : ℕ) (es : List (ℕ × Process)) → n < 17 → is_taken n es ≡ false → free_from (17 - n) n es ≡ n
free-here n es h t = let e : 17 - n ≡ suc (17 - (n + 1)) = omega arith in rw e (go (is_taken n es) t)
  where
    go : (b : Bool) → b ≡ false → elim b [ true ↦ free_from (17 - (n + 1)) (n + 1) es | false ↦ n ] ≡ n
    go true e = cc
    go false e = refl

pub free-end : (n : ℕ) (es : List (ℕ × Process)) → 17 ≤ n → free_from (17 - n) n es ≡ n
free-end n es h = let e : 17 - n ≡ 0 = omega arith in rw e refl

pub free_from-least : (more n : ℕ) (es : List (ℕ × Process)) → free_from more n es ≤ n + more
free_from-least zero n es = omega arith
free_from-least (suc more) n es = go (is_taken n es) (free_from-least more (n + 1) es)
  where
    go : (b : Bool) → free_from more (n + 1) es ≤ n + 1 + more → elim b [ true ↦ free_from more (n + 1) es | false ↦ n ] ≤ n + suc more
    go true ih = omega arith
    go false ih = omega arith

-- 2. Queues where processes come and go

absent : (ps : List (ℕ × Process)) (p : ℕ) (w : Waiting) (ns : List ℕ) → AllWait ps w ns → waits_at p ps ≡ None → has p ns ≡ false
absent ps p w [] all none = refl
absent ps p w (n ∷ ns) all none = go (eq_by_cmp nat_cmp p n) refl (absent ps p w ns all.1 none)
  where
    go : (b : Bool) → eq_by_cmp nat_cmp p n ≡ b → has p ns ≡ false → (eq_by_cmp nat_cmp p n || has p ns) ≡ false
    go true h rest = let e : p ≡ n = same-true p n h in let bad : Some w ≡ None = sym all.0 ∙ ap (λ k. waits_at k ps) (sym e) ∙ none in cc
    go false h rest = rw h rest

pub out-absent : (crew : Crew) → AreLines crew → (p : ℕ) → waits_at p crew.processes ≡ None → IsOut crew p
out-absent crew lines p none = record {
  entering = λ i it at. absent crew.processes p (entry (i + 1)) it.entering (lines.entering i it at).wait none;
  waiting = λ i it at. absent crew.processes p (condition i) it.waiters (lines.waiting i it at).wait none;
}

other-than : (p q : ℕ) (ns : List ℕ) → has p ns ≡ false → has q ns ≡ true → eq_by_cmp nat_cmp q p ≡ false
other-than p q ns out there = go (eq_by_cmp nat_cmp q p) refl
  where
    go : (b : Bool) → eq_by_cmp nat_cmp q p ≡ b → b ≡ false
    go true h = let e : q ≡ p = same-true q p h in let bad : true ≡ false = sym there ∙ ap (λ k. has k ns) e ∙ out in cc
    go false h = refl

pub processes-changed : (crew : Crew) → AreLines crew → (p : ℕ) → IsOut crew p → (qs : List (ℕ × Process))
    → ((q : ℕ) (w : Waiting) → eq_by_cmp nat_cmp q p ≡ false → waits_at q crew.processes ≡ Some w → waits_at q qs ≡ Some w)
    → AreLines (record crew { processes = qs })
processes-changed crew lines p out qs same = record {
  entering = λ i it at. line-by crew.processes qs (entry (i + 1)) it.entering
      (λ q is there. same q (entry (i + 1)) (other-than p q it.entering (out.entering i it at) there) is) (lines.entering i it at);
  waiting = λ i it at. line-by crew.processes qs (condition i) it.waiters
      (λ q is there. same q (condition i) (other-than p q it.waiters (out.waiting i it at) there) is) (lines.waiting i it at);
}

pub put-other : (p q : ℕ) (x : Process) (es : List (ℕ × Process)) → eq_by_cmp nat_cmp q p ≡ false
    → waits_at q (put_at nat_cmp p x es) ≡ waits_at q es
put-other p q x es other = rw (find-put nat_cmp nat_cmp_total q p x es, other) refl

pub gone-other : (p q : ℕ) (es : List (ℕ × Process)) → eq_by_cmp nat_cmp q p ≡ false
    → waits_at q (where_key nat_cmp (λ k. not (k == p)) es) ≡ waits_at q es
gone-other p q es other =
    rw (find-where_key nat_cmp (λ k. not (k == p)) q (λ x tie. let e : q ≡ x = nat_cmp-IsAntisymmetric q x tie in rw e refl) es)
    (go (q == p) refl)
  where
    go : (b : Bool) → (q == p) ≡ b → option_map (λ (it : Process). it.waits) (cond (not b) (value_at nat_cmp q es) None) ≡ waits_at q es
    go true h = let e : q ≡ p = eqb-true q p h in
        let bad : true ≡ false = sym (same-self q) ∙ ap (λ k. eq_by_cmp nat_cmp q k) e ∙ other in cc
    go false h = refl

pub started-lines : (crew : Crew) → AreLines crew → (i : Invocation) → length crew.processes < 16 → AreLines (started i crew)
started-lines crew lines i few =
    let free : value_at nat_cmp (least_free crew) crew.processes ≡ None = free-none (least_free crew) crew.processes
    (least_free-free crew few) in
    let none : waits_at (least_free crew) crew.processes ≡ None = ap (option_map (λ (it : Process). it.waits)) free in
    processes-changed crew lines (least_free crew) (out-absent crew lines (least_free crew) none) _
    (λ q w other is. put-other (least_free crew) q _ crew.processes other ∙ is)

pub ended-lines : (crew : Crew) → AreLines crew → (p : ℕ) → Runs crew p → AreLines (ended p crew)
ended-lines crew lines p runs =
    let two = leave_held-lines crew (length crew.monitors) p lines runs in
    let after : Crew = leave_held p (length crew.monitors) crew in
    processes-changed (leave_held p (length crew.monitors) crew) two.0 p
    (out-runs (leave_held p (length crew.monitors) crew) two.0 p two.1) _
    (λ q w other is. gone-other p q (leave_held p (length crew.monitors) crew).processes other ∙ is)
