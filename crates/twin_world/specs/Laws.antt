-- What holds of every log.
use Rattle.std.specs.Prelude.{◌≡◌, ◌≢◌, ◌⊎◌, ℕ, ◌==◌, not, Bool, true, false, List, [], ◌∷◌, Option, None, Some, if◌then◌else◌}
use Rattle.twin_store.specs.declared.served.TwinRefusal.TheVariants.{Lost}
use Rattle.twin_world.specs.Commands.{Command, opens, puts, gets, deletes, blanks, is_second}
use Rattle.twin_world.specs.Logs.{Answer, Opened, Made, Found, Refused, CutShort, Entry, Log, Change, put_of, delete_of, is_of, IsLegalTwin}

-- 1. A disk that is spared

-- what is said of the first disk, or of the second where that is true
abbrev pub of_disk : Bool → Bool → Bool → Bool
of_disk second a b = if second then b else a

-- a disk is not blanked, and no blanking of the other is cut short
abbrev pub IsNotBlanked : Bool → Command → Answer → Type 0
IsNotBlanked second (blanks d) Made = is_second d ≡ not second
IsNotBlanked second (blanks d) (CutShort stopped) = ⊥
IsNotBlanked second _ a = Unit {0}

-- An entry of its node spares a disk: it meets no fault and is not blanked.
pub record Spares (second : Bool) (e : Entry) : Type 0 where
  pub met : of_disk second e.first_failed e.second_failed ≡ false
  pub blanked : IsNotBlanked second e.command e.answer

-- each entry of the node spares its disk
abbrev pub AllSpare : ℕ → Bool → List Entry → Type 0
AllSpare n second [] = Unit {0}
AllSpare n second (e ∷ es) = (is_of n e ≡ true → Spares second e) × AllSpare n second es

-- 2. What may be held

-- under each serial the texts, or none, of which one is held
abbrev pub Choices : Type 0
Choices = ℕ → List (Option (List ℕ))

abbrev pub IsAmong : Option (List ℕ) → List (Option (List ℕ)) → Type 0
IsAmong t [] = ⊥
IsAmong t (u ∷ us) = (t ≡ u) ⊎ IsAmong t us

-- at first there is none
abbrev pub none_at_first : Choices
none_at_first = λ serial. None ∷ []

-- behind a change that is acknowledged, its text alone
abbrev pub with_made : Option Change → Choices → Choices
with_made None may = may
with_made (Some c) may = λ serial. if serial == c.serial then c.text ∷ [] else may serial

-- behind one that is begun and refused, its text too
abbrev pub with_begun : Option Change → Choices → Choices
with_begun None may = may
with_begun (Some c) may = λ serial. if serial == c.serial then c.text ∷ may serial else may serial

-- behind a change, by its answer; one for which there is no room is not begun
abbrev pub with_answer : Option Change → Answer → Choices → Choices
with_answer c Made may = with_made c may
with_answer c (Refused r) may = with_begun c may
with_answer c _ may = may

-- behind a command, by its answer
abbrev pub with_command : Command → Answer → Choices → Choices
with_command (puts n serial text) a may = with_answer (put_of serial text) a may
with_command (deletes n serial) a may = with_answer (delete_of serial) a may
with_command _ a may = may

abbrev pub with_entry : Bool → Entry → Choices → Choices
with_entry true e may = with_command e.command e.answer may
with_entry false e may = may

-- 3. The law

-- a look gives one of these, an opening leaves the disk in use, and no call is refused for want of both disks
abbrev pub IsKept : Bool → Choices → Command → Answer → Type 0
IsKept second may (gets n serial) (Found text) = IsAmong text (may serial)
IsKept second may (opens n) (Opened first other) = of_disk second first other ≡ true
IsKept second may (opens n) (Refused r) = r ≢ Lost
IsKept second may (puts n serial text) (Refused r) = r ≢ Lost
IsKept second may (gets n serial) (Refused r) = r ≢ Lost
IsKept second may (deletes n serial) (Refused r) = r ≢ Lost
IsKept second may _ a = Unit {0}

-- it is so of each entry of the node
abbrev pub AllKept : ℕ → Bool → Choices → List Entry → Type 0
AllKept n second may [] = Unit {0}
AllKept n second may (e ∷ es) =
    (is_of n e ≡ true → IsKept second may e.command e.answer) × AllKept n second (with_entry (is_of n e) e may) es

-- One disk is enough. In a legal log in which a disk of a node is spared, whatever became of the other: each look that is not refused
-- gives the text that was acknowledged last under its uid, or that of a change begun since and refused, and nothing only where that was
-- removed or never put; each opening that is not refused leaves the disk in use; and no opening, change or look is refused as lost.
abbrev pub OneDiskIsEnough : Type 0
OneDiskIsEnough = (log : Log) → IsLegalTwin log → (n : ℕ) (second : Bool) → AllSpare n second log.entries
    → AllKept n second none_at_first log.entries
