-- What the words of the command line ask for.
use Rattle.std.specs.Prelude.{◌≡◌, ◌≢◌, ◌⊎◌, ◌≤◌, ◌<◌, ◌^◌, ◌+◌, ◌-◌, ◌*◌, ℕ, List, [], ◌∷◌, length, codes}
use Rattle.std.specs.List.{All}
use Rattle.journal.specs.declared.event.Mode.{Mode}
use Rattle.journal.specs.declared.event.Mode.TheVariants as mode
use Rattle.shell_answers.specs.declared.words.Job.{Job}
use Rattle.shell_answers.specs.declared.words.Job.TheVariants.{Run, Gen}
use Rattle.shell_answers.specs.declared.words.Task.{Task}
use Rattle.shell_answers.specs.declared.words.Task.TheVariants.{History, Wire, Move, Twin}

-- a directory: some bytes that do not begin with `-`
abbrev pub IsDirectory : List ℕ → Type 0
IsDirectory [] = ⊥
IsDirectory (first ∷ more) = first ≢ 45

-- a byte is a decimal digit, `0` to `9`
abbrev pub IsDigit : ℕ → Type 0
IsDigit byte = (48 ≤ byte) × (byte ≤ 57)

-- the number that these decimal digits make behind the digits of a value
abbrev pub number_from : ℕ → List ℕ → ℕ
number_from value [] = value
number_from value (digit ∷ digits) = number_from (value * 10 + (digit - 48)) digits

-- 1 to 20 decimal digits that stand for this number
pub record SpellsNumber (word : List ℕ) (number : ℕ) : Type 0 where
  pub some : 1 ≤ length word
  pub few : length word ≤ 20
  pub digits : All IsDigit word
  pub stands_for : number_from 0 word ≡ number
  pub fits : number < 2 ^ 64

-- `run` or `host DIR`, and `--trace` behind it for all events; `run --full` for all that the disks decided besides. Over which disks a
-- script runs is the caller's choice.
abbrev pub Asks : List (List ℕ) → Job → Type 0
Asks words (Run mode.Plain) = (words ≡ codes "run" ∷ []) ⊎ ((dir : List ℕ) × IsDirectory dir × (words ≡ codes "host" ∷ dir ∷ []))
Asks words (Run mode.Trace) = (words ≡ codes "run" ∷ codes "--trace" ∷ [])
    ⊎ ((dir : List ℕ) × IsDirectory dir × (words ≡ codes "host" ∷ dir ∷ codes "--trace" ∷ []))
Asks words (Run mode.Full) = words ≡ codes "run" ∷ codes "--full" ∷ []
-- no words ask for this
Asks words (Run mode.Summary) = ⊥
-- `gen N`
Asks words (Gen number) = (word : List ℕ) × SpellsNumber word number × (words ≡ codes "gen" ∷ word ∷ [])

-- what the words ask for: a run whose history is written, or `wire`, `twin` or `move`
abbrev pub AsksFor : List (List ℕ) → Task → Type 0
AsksFor words (History job) = Asks words job
AsksFor words Wire = words ≡ codes "wire" ∷ []
AsksFor words Move = words ≡ codes "move" ∷ []
AsksFor words Twin = words ≡ codes "twin" ∷ []

-- in which mode the history of a job is written
abbrev pub mode_of : Job → Mode
mode_of (Run m) = m
mode_of (Gen number) = mode.Summary

-- the words are a line that names this directory
abbrev pub NameDirectory : List (List ℕ) → List ℕ → Type 0
NameDirectory words directory = IsDirectory directory
    × ((words ≡ codes "host" ∷ directory ∷ []) ⊎ (words ≡ codes "host" ∷ directory ∷ codes "--trace" ∷ []))
