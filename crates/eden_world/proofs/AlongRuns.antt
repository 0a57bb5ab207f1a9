-- A disk along a whole run of whatever has it in hand: from what each step does to it, to how it stands at every moment.
use Rattle.std.proofs.Common.{◌≡◌, inl, inr, ◌==◌, ℕ, Bool, true, false, cond, List, [], ◌∷◌, Option, None, Some, is_some, refl}
use Rattle.std.proofs.Common.{sym, ◌∙◌, ap, subst}
use Rattle.std.specs.Prelude.{IsSomeAnd}
use Rattle.passive_store.specs.Kept.{Layout}
use Rattle.passive_store.specs.Seen.{DiskSeen}
use Rattle.journal.specs.declared.event.Entry.{Entry}
use Rattle.journal.specs.World.{World}
use Rattle.journal.specs.Run.{Position, Step, EachStep, end_of, steps}
use Rattle.journal.specs.Standing.{StandsThroughout, nothing_added, unfinished}
use Rattle.checkpoint.specs.Throughout.{EndsOnDisk, RunOnDisk, StandsFirst, StepOnDisk}
use Rattle.checkpoint.proofs.Lifts.{ends-whole, lift-elsewhere}
use Rattle.checkpoint.proofs.Throughout.{runs-stand}
use Rattle.runs.specs.Machines.{Did, DidAll, DidPart, Stands, Starved, is_idle}
use Rattle.eden_world.specs.Legal.{disk_run}
use Rattle.eden_world.proofs.IdleSteps.{IsStill, StillIfIdle}

-- 1. What is seen of the disk of node n before it and behind it, where it is there

abbrev pub StepOn : Layout → ℕ → Step → Option DiskSeen → Option DiskSeen → Type 0
StepOn layout n s old new = IsSomeAnd old (λ a. IsSomeAnd new (λ b. StepOnDisk layout n s a.told a.counts.clock b.told b.counts.clock))

abbrev pub RunOn : Layout → ℕ → List Step → Option DiskSeen → Option DiskSeen → Type 0
RunOn layout n run old new = IsSomeAnd old (λ a. IsSomeAnd new (λ b. RunOnDisk layout n run a.told a.counts.clock b.told b.counts.clock))

abbrev pub EndsOn : Layout → ℕ → World → Option DiskSeen → Option DiskSeen → Type 0
EndsOn layout n last old new =
    IsSomeAnd old (λ a. IsSomeAnd new (λ b. EndsOnDisk layout n last (unfinished last) a.told a.counts.clock b.told b.counts.clock))

-- 2. One step

-- one that leaves the disk
still-on : (layout : Layout) (n : ℕ) (s : Step) (o : Option DiskSeen) → (0 == n) ≡ false → is_some o ≡ true → IsStill s
    → StepOn layout n s o o
still-on layout n s None some there still = absurd (let bad : false ≡ true = there in cc bad)
still-on layout n s (Some d) some there still =
    lift-elsewhere layout n s d.told d.counts.clock (ap (λ m. m == n) still.disk ∙ some) (still.states n)

behind-on : (layout : Layout) (n : ℕ) (s : Step) (o p : Option DiskSeen) → StepOn layout n s o p → is_some p ≡ true
behind-on layout n s None p one = absurd one
behind-on layout n s (Some a) None one = absurd one
behind-on layout n s (Some a) (Some b) one = refl

more-on : (layout : Layout) (n : ℕ) (s : Step) (run : List Step) (o m p : Option DiskSeen) → StepOn layout n s o m
    → RunOn layout n run m p → RunOn layout n (s ∷ run) o p
more-on layout n s run None m p one more = absurd one
more-on layout n s run (Some a) None p one more = absurd one
more-on layout n s run (Some a) (Some b) None one more = absurd more
more-on layout n s run (Some a) (Some b) (Some c) one more = (b.told, b.counts.clock, one, more)

none-on : (layout : Layout) (n : ℕ) (o : Option DiskSeen) → is_some o ≡ true → RunOn layout n [] o o
none-on layout n None there = absurd (let bad : false ≡ true = there in cc bad)
none-on layout n (Some d) there = (refl, refl)

-- 3. All steps of a run

-- each step of it does this to the disk, where it is there
abbrev pub EachOn : {M : Type 0} → Layout → ℕ → Did M → (M → Option DiskSeen) → Type 0
EachOn layout n did disk =
    (old new : _) (s : Step) → is_some (disk old) ≡ true → did old s new → StepOn layout n s (disk old) (disk new)

pub run-on : {M : Type 0} (layout : Layout) (n : ℕ) (did : Did M) (disk : M → Option DiskSeen) → (0 == n) ≡ false
    → EachOn layout n did disk → (run past : List Step) (first last : M) → is_some (disk first) ≡ true
    → EachStep (λ past s. StillIfIdle s) past run → DidAll did first run last → RunOn layout n run (disk first) (disk last)
run-on layout n did disk some each [] past first last there still same =
    subst (λ m. RunOn layout n [] (disk first) (disk m)) (sym same) (none-on layout n (disk first) there)
run-on layout n did disk some each (s ∷ run) past first last there still (between, one, more) =
    more-on layout n s run (disk first) (disk between) (disk last) step
    (run-on layout n did disk some each run (s ∷ past) between last (behind-on layout n s (disk first) (disk between) step) still.1 more)
  where
    go : (b : Bool) → is_idle s.entry.event ≡ b → cond b (between ≡ first) (did first s between)
        → StepOn layout n s (disk first) (disk between)
    go true idle same = subst (λ m. StepOn layout n s (disk first) (disk m)) (sym same)
        (still-on layout n s (disk first) some there (still.0 idle))
    go false busy did_so = each first between s there did_so

    step : StepOn layout n s (disk first) (disk between)
    step = go (is_idle s.entry.event) refl one

-- 4. So the disk stands for the run throughout

pub throughout : (layout : Layout) (n : ℕ) (p : Position) (history : List Entry) (obeys : Bool) (x y : DiskSeen)
    → StandsFirst layout n p.world x.told → RunOn layout n (steps p history) (Some x) (Some y)
    → StandsThroughout layout (end_of p history).world (steps p history) nothing_added n (disk_run obeys x y)
throughout layout n p history obeys x y first run =
    runs-stand layout n p history nothing_added (disk_run obeys x y) y.told y.counts.clock first run
    (ends-whole layout n (end_of p history).world nothing_added y.told y.counts.clock)

-- and where something was done behind the last entry
throughout-ends : (layout : Layout) (n : ℕ) (p : Position) (history : List Entry) (obeys : Bool) (x y : DiskSeen) (o : Option DiskSeen)
    → StandsFirst layout n p.world x.told → RunOn layout n (steps p history) (Some x) o
    → EndsOn layout n (end_of p history).world o (Some y)
    → StandsThroughout layout (end_of p history).world (steps p history) (unfinished (end_of p history).world) n (disk_run obeys x y)
throughout-ends layout n p history obeys x y None first run ends = absurd run
throughout-ends layout n p history obeys x y (Some m) first run ends =
    runs-stand layout n p history (unfinished (end_of p history).world) (disk_run obeys x y) m.told m.counts.clock first run ends

ends-level : (layout : Layout) (n : ℕ) (last : World) (o p : Option DiskSeen) → is_some o ≡ true → p ≡ o → EndsOn layout n last o p
ends-level layout n last None p there same = absurd (let bad : false ≡ true = there in cc bad)
ends-level layout n last (Some d) p there same = subst (EndsOn layout n last (Some d)) (sym same)
    (ends-whole layout n last (unfinished last) d.told d.counts.clock)

pub run-there : (layout : Layout) (n : ℕ) (run : List Step) (o p : Option DiskSeen) → RunOn layout n run o p → is_some p ≡ true
run-there layout n run None p on = absurd on
run-there layout n run (Some a) None on = absurd on
run-there layout n run (Some a) (Some b) on = refl

-- want of memory ended the run
abbrev pub EachEndsOn : {M : Type 0} → Layout → ℕ → Starved M → (M → Option DiskSeen) → Type 0
EachEndsOn layout n starved disk = (old new : _) (more : ℕ) (w : World) → is_some (disk old) ≡ true → starved old more w new
    → EndsOn layout n w (disk old) (disk new)

pub throughout-part : {M : Type 0} (layout : Layout) (n least : ℕ) (stands : Stands M) (did : Did M) (starved : Starved M)
    (disk : M → Option DiskSeen)
    (p : Position) (history : List Entry) (first last : M) (obeys : Bool) (x y : DiskSeen) → (0 == n) ≡ false
    → EachOn layout n did disk → EachEndsOn layout n starved disk → EachStep (λ past s. StillIfIdle s) [] (steps p history)
    → StandsFirst layout n p.world x.told → disk first ≡ Some x → disk last ≡ Some y
    → DidPart stands did starved least first (steps p history) (end_of p history).world last
    → StandsThroughout layout (end_of p history).world (steps p history) (unfinished (end_of p history).world) n (disk_run obeys x y)
throughout-part layout n least stood did starved disk p history first last obeys x y some each ends still stands was is
    (between, all, stays, rest) =
    throughout-ends layout n p history obeys x y (disk between) stands
    (subst (λ o. RunOn layout n (steps p history) o (disk between)) was on)
    (subst (λ o. EndsOn layout n (end_of p history).world (disk between) o) is (elim rest [
      | inl begun ↦ ends between last begun.0 (end_of p history).world
          (run-there layout n (steps p history) (disk first) (disk between) on) begun.2
      | inr same ↦ ends-level layout n (end_of p history).world (disk between) (disk last)
          (run-there layout n (steps p history) (disk first) (disk between) on) (ap disk same)
    ]))
  where
    on : RunOn layout n (steps p history) (disk first) (disk between)
    on = run-on layout n did disk some each (steps p history) [] first between (ap is_some was) still all
