-- From where device calls were made to the node and the clock of an entry.
use Rattle.std.proofs.Common.{◌≡◌, inl, inr, ℕ, zero, suc, ◌+◌, ◌-◌, ◌^◌, ◌==◌, ◌≤◌, ◌<◌, nat_lt, min, Bool, true, false, cond, not}
use Rattle.std.proofs.Common.{Option, None, Some}
use Rattle.std.proofs.Common.{refl, sym, ap, subst, ◌∙◌, arith}
use Rattle.std.proofs.lemmas.Bool.{eq-eqb}
use Rattle.std.proofs.lemmas.Bool.Decides.{nat_tests}
use Rattle.std.specs.Prelude.{IsTrue}
use Rattle.eden_disk.specs.Calls.{Counts, End, Fine, AtFault, AtStop}
use Rattle.journal.specs.declared.event.Entry.{Entry}
use Rattle.journal.specs.World.{World}
use Rattle.journal.specs.Step.{node_if, last_clock, one_more, NotBefore, clock_before, ClockFits, StoreClockFits}
use Rattle.checkpoint.specs.Turns.{ClockStands}
use Rattle.checkpoint.specs.Touches.{Touches, TouchesOnce}
use Rattle.checkpoint.proofs.WorldTurns.{Placed}

-- 1. One device call is some

pub once-touches : (touches : Bool) (before after : Counts) (end : End) → TouchesOnce touches before after end
    → Touches touches before after end
once-touches true before after end t = record {
  made = 1;
  exactly = (λ is. omega arith, λ some. refl);
  refused = t.refused;
  counts = t.counts;
}
once-touches false before after end t = record {
  made = 0;
  exactly = (λ bad. absurd (let worse : false ≡ true = bad in cc worse), λ some. absurd (omega (arith, some)));
  refused = t.refused;
  counts = t.counts;
}

-- 2. A program tells by the clock and by how the calls ended whether there was one

abbrev pub is_called : ℕ → ℕ → End → Bool
is_called before after Fine = not (after == before)
is_called before after AtFault = true
is_called before after AtStop = true

unmade-of : (touches : Bool) (made : ℕ) → (1 ≤ made → IsTrue touches) → touches ≡ false → made ≡ 0
unmade-of touches zero some is = refl
unmade-of touches (suc made) some is = absurd (let bad : false ≡ true = sym is ∙ some (omega arith) in cc bad)

pub called-is : (touches : Bool) (before after : Counts) (end : End) → Touches touches before after end
    → touches ≡ is_called before.clock after.clock end
called-is true before after Fine t =
    let some : 1 ≤ t.made = t.exactly.0 refl in
    let rose : before.clock < after.clock = omega (arith, some, t.counts.clock, t.counts.counted) in
    grind (arith, nat_tests, rose)
called-is false before after Fine t =
    let none : t.made ≡ 0 = unmade-of false t.made t.exactly.1 refl in
    let same : after.clock ≡ before.clock = omega (arith, none, t.counts.clock) in
    sym (ap not (eq-eqb after.clock before.clock same))
called-is touches before after AtFault t = t.exactly.1 t.refused
called-is touches before after AtStop t = t.exactly.1 t.refused

-- 3. The entry

pub clock-same : (before after : Counts) (end : End) → Touches false before after end → after.clock ≡ before.clock
clock-same before after end t = let none : t.made ≡ 0 = unmade-of false t.made t.exactly.1 refl in omega (arith, none, t.counts.clock)

pub placed-by : (touches : Bool) (e : Entry) (n : ℕ) (before after : Counts) (end : End) → Touches touches before after end
    → e.node ≡ node_if touches n → e.clock ≡ cond touches after.clock 0 → Placed e n before.clock after.clock
placed-by true e n before after end t node clock = inl (node, clock)
placed-by false e n before after end t node clock = inr (node, clock-same before after end t)

-- its clock fits, where the node of the world has that which the disk showed before
pub fits-by : (touches : Bool) (w : World) (n : ℕ) (before after : Counts) (end : End) → Touches touches before after end → 1 ≤ n
    → clock_before w n ≡ Some before.clock → ClockFits w (node_if touches n) (cond touches after.clock 0)
fits-by touches w zero before after end t some is = absurd (omega (arith, some))
fits-by false w (suc n) before after end t some is = refl
fits-by true w (suc n) before after end t some is = subst (NotBefore after.clock) (sym is) (omega (arith, t.counts.clock))

-- that of a boot, a crash or an arming, which are always on the disk
pub fits-at : (w : World) (n before after : ℕ) → 1 ≤ n → ClockStands (clock_before w n) before → before ≤ after → ClockFits w n after
fits-at w zero before after some is more = absurd (omega (arith, some))
fits-at w (suc n) before after some is more = go (clock_before w (suc n)) is
  where
    go : (o : Option ℕ) → ClockStands o before → NotBefore after o
    go None is = tt
    go (Some c) is = omega (arith, is, more)

-- that of a turn of the store, which shows it
one-more-is : (c : ℕ) → c + min 1 (2 ^ 64 - 1 - c) ≡ one_more c
one-more-is c = go (nat_lt c last_clock) refl
  where
    go : (b : Bool) → nat_lt c last_clock ≡ b → c + min 1 (2 ^ 64 - 1 - c) ≡ cond (nat_lt c last_clock) (c + 1) c
    go true is =
        let below : c < 2 ^ 64 - 1 = grind (arith, nat_tests, is) in
        let more : c + min 1 (2 ^ 64 - 1 - c) ≡ c + 1 = omega (arith, below) in
        more ∙ ap (λ b. cond b (c + 1) c) (sym is)
    go false is =
        let above : 2 ^ 64 - 1 ≤ c = grind (arith, nat_tests, is) in
        let same : c + min 1 (2 ^ 64 - 1 - c) ≡ c = omega (arith, above) in
        same ∙ ap (λ b. cond b (c + 1) c) (sym is)

pub store-fits-by : (touches : Bool) (n : ℕ) (before after : Counts) (end : End) (shown : ℕ) → TouchesOnce touches before after end → 1 ≤ n
    → shown ≡ after.clock → StoreClockFits (node_if touches n) (Some before.clock) shown (cond touches after.clock 0)
store-fits-by touches zero before after end shown t some is = absurd (omega (arith, some))
store-fits-by true (suc n) before after end shown t some is = (is, t.counts.clock ∙ one-more-is before.clock)
store-fits-by false (suc n) before after end shown t some is = is ∙ clock-same before after end (once-touches false before after end t)
