-- Where the counts of a disk did not rise, no entry shows a fault or a stop of it.
use Rattle.std.proofs.Common.{◌≡◌, ◌<◌, ◌≤◌, ◌-◌, ◌^◌, ℕ, ◌+◌, Bool, true, false, cond, List, [], ◌∷◌, refl, arith}
use Rattle.journal.specs.declared.event.Entry.{Entry}
use Rattle.journal.specs.Run.{Position, Step, EachStep, lead, steps}
use Rattle.journal.specs.Standing.{DiskRun}
use Rattle.journal.specs.Faults.{shows_fault, shows_stop, number_of, RoseBy, RoseByAtLeast, ShowsEach, ShowsNoMore}
use Rattle.undisturbed_runs.specs.Runs.{IsUndisturbedRun}

-- no entry of a history shows one of node n
pub record NoneShown (n : ℕ) (history : List Entry) : Type 0 where
  pub faults : number_of (shows_fault n) history ≡ 0
  pub stops : number_of (shows_stop n) history ≡ 0

none-risen : (shown before after : ℕ) → RoseBy shown before after → after ≡ before → after < 2 ^ 64 - 1 → shown ≡ 0
none-risen shown before after rose same below = let by : after ≡ before + shown = rose below in omega (arith, by, same)

none-less : (shown before after : ℕ) → RoseByAtLeast shown before after → after ≡ before → after < 2 ^ 64 - 1 → shown ≡ 0
none-less shown before after rose same below = let by : before + shown ≤ after = rose below in omega (arith, by, same)

pub none-in-whole : (n : ℕ) (d : DiskRun) (history : List Entry) → ShowsEach history n d → IsUndisturbedRun d → NoneShown n history
none-in-whole n d history each still = record {
  faults = none-risen _ d.first.faults d.last.faults each.faults still.no_fault still.faults_told;
  stops = none-risen _ d.first.stops d.last.stops each.stops still.no_stop still.stops_told;
}

pub none-in-part : (n : ℕ) (d : DiskRun) (history : List Entry) → ShowsNoMore history n d → IsUndisturbedRun d → NoneShown n history
none-in-part n d history each still = record {
  faults = none-less _ d.first.faults d.last.faults each.faults still.no_fault still.faults_told;
  stops = none-less _ d.first.stops d.last.stops each.stops still.no_stop still.stops_told;
}

none-first : (b : Bool) (k : ℕ) → cond b 1 0 + k ≡ 0 → (b ≡ false) × (k ≡ 0)
none-first true k is = absurd (omega (arith, is))
none-first false k is = (refl, omega (arith, is))

-- what holds of each step that shows none holds of each step of such a history
pub each-quiet : (n : ℕ) (P : List Step → Step → Type 0) (p : Position) (past : List Step) (history : List Entry) → NoneShown n history
    → EachStep (λ past s. shows_fault n s.entry.event ≡ false → shows_stop n s.entry.event ≡ false → P past s) past (steps p history)
    → EachStep P past (steps p history)
each-quiet n P p past [] none each = tt
each-quiet n P p past (e ∷ es) none each =
    let fault = none-first (shows_fault n e.event) (number_of (shows_fault n) es) none.faults in
    let stop = none-first (shows_stop n e.event) (number_of (shows_stop n) es) none.stops in (
      each.0 fault.0 stop.0,
      each-quiet n P (lead p e) (record { world = p.world; entry = e; later = (lead p e).world } ∷ past) es
          (record { faults = fault.1; stops = stop.1 }) each.1,
    )
