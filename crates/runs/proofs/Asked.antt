-- Calls have numbers: what is asked in a turn or by another entry was reckoned before.
use Rattle.std.proofs.Common.{◌≡◌, ◌<◌, ◌≤◌, ℕ, suc, ◌+◌, ◌-◌, List, true, get_or, drop, drop-cons}
use Rattle.std.proofs.Common.{length, refl, sym, ◌∙◌, ap, add-one, arith}
use Rattle.journal.specs.declared.command.Command.{Command}
use Rattle.journal.specs.declared.command.Command.TheVariants as command
use Rattle.journal.specs.Run.{most_turns}
use Rattle.runs.specs.Room.{is_single, entries_of, entries_in, most_calls}

-- 1. Of a machine that asked so many calls, behind so many turns

-- there is a number for a turn that is left
pub number-of-turn : (asked turns : ℕ) → asked + ((most_turns - turns) + 0) ≤ most_calls → turns < most_turns → asked < most_calls
number-of-turn asked turns few left = omega (arith, few, left)

-- and for another entry
pub number-of-entry : (asked left : ℕ) → asked + (left + 1) ≤ most_calls → asked < most_calls
number-of-entry asked left few = omega (arith, few)

-- a turn spares what others need
pub turn-spares : (old new turns : ℕ) → turns < most_turns → new ≤ suc old
    → new + ((most_turns - (turns + 1)) + 0) ≤ old + ((most_turns - turns) + 0)
turn-spares old new turns left one = omega (arith, left, one)

-- and so does another entry
pub entry-spares : (old new left : ℕ) → new ≤ suc old → new + (left + 0) ≤ old + (left + 1)
entry-spares old new left one = omega (arith, one)

-- 2. Of several, one behind the other

-- by an entry of i of n
pub number-of-part : (first mid left rest n i : ℕ) → i < n → mid + (left + (n - i)) ≤ first + (rest + n) → first + (rest + n) ≤ most_calls
    → mid + (left + 1) ≤ most_calls
number-of-part first mid left rest n i here so few = omega (arith, here, so, few)

-- behind it
pub part-spares : (first mid new left rest later n i : ℕ) → i < n → mid + (left + (n - i)) ≤ first + (rest + n)
    → new + (later + 0) ≤ mid + (left + 1) → new + (later + (n - (i + 1))) ≤ first + (rest + n)
part-spares first mid new left rest later n i here so one = omega (arith, here, so, one)

-- and behind the turns that follow it
pub part-waits : (first mid new last left rest later end n i : ℕ) → i < n → mid + (left + (n - i)) ≤ first + (rest + n)
    → new + (later + 0) ≤ mid + (left + 1) → last + (end + 0) ≤ new + (later + 0) → last + (end + (n - (i + 1))) ≤ first + (rest + n)
part-waits first mid new last left rest later end n i here so one waits = omega (arith, here, so, one, waits)

-- where the others are left away
pub spares-less : (first mid left rest n more : ℕ) → mid + (left + more) ≤ first + (rest + n) → mid + (left + 0) ≤ first + (rest + n)
spares-less first mid left rest n more so = omega (arith, so)

-- behind all boots
pub all-left : (first mid left rest nodes node more : ℕ) → node ≡ nodes
    → mid + (left + ((nodes - node) + more)) ≤ first + (rest + (nodes + more))
    → mid + (left + more) ≤ first + (rest + (nodes + more))
all-left first mid left rest nodes node more end so = omega (arith, end, so)

-- 3. Commands

pub single-one : (c : Command) → is_single c ≡ true → entries_of c ≡ 1
single-one (command.Go n) is = absurd (cc is)
single-one (command.Turn i) is = absurd (cc is)
single-one (command.Walk name target path) is = absurd (cc is)
single-one _ is = refl

-- those of the commands from one on
pub entries-at : (cs : List Command) (i : ℕ) (c : Command) → i < length cs → c ≡ get_or cs i c
    → entries_in (drop i cs) ≡ entries_of c + entries_in (drop (i + 1) cs)
entries-at cs i c here is = rw add-one
    (ap entries_in (drop-cons cs i c here) ∙ ap (λ x. entries_of x + entries_in (drop (suc i) cs)) (sym is))
