-- How a call of the program ends.
use Rattle.std.specs.Prelude.{◌≡◌, ◌<◌, ℕ, Bool, true, false, Option, None, List, length, codes}
use Rattle.std.specs.Io.KnownBytes.{Appends, Consumes, IsAtEnd, Keeps}
use Rattle.eden_io.specs.Causes.{Rose}
use Rattle.eden_io.specs.Taken.{AppendsPart}
use Rattle.mistakes.specs.Answers.{IsAnswer, IsMistake}
use Rattle.mistakes.specs.Words.{text_of}
use Rattle.mistakes.specs.declared.mistake.Mistake.{Mistake}
use Rattle.explain.specs.declared.answer.Ending.{Ending}
use Rattle.explain.specs.declared.answer.Ending.TheVariants.{NoMistake, Told, BadWords, ReadFault, WriteFault, OutOfMemory, TooLong}

-- the exit status of an ending; those of the program `eden` for the same
abbrev pub status_of : Ending → ℕ
status_of NoMistake = 0
status_of BadWords = 2
status_of Told = 3
status_of ReadFault = 4
status_of WriteFault = 5
status_of OutOfMemory = 6
status_of TooLong = 7

-- a source before a call and behind it: what is left, where it tells that, whether a read has met the end, and how often a read failed
pub record Reading : Type 0 where
  pub left : Option (List ℕ)
  pub left_after : Option (List ℕ)
  pub ended_after : Bool
  pub faults : ℕ
  pub faults_after : ℕ

-- what is seen of a source of any type, in its old state and in its new one
abbrev pub reading : {S : Type 0} → (S → Option (List ℕ)) → (S → Bool) → (S → ℕ) → S → S → Reading
reading left ended faults old new = record {
  left = left old;
  left_after = left new;
  ended_after = ended new;
  faults = faults old;
  faults_after = faults new;
}

-- a sink before a call and behind it: what was written, where it tells that, and how often a write failed
pub record Writing : Type 0 where
  pub written : Option (List ℕ)
  pub written_after : Option (List ℕ)
  pub faults : ℕ
  pub faults_after : ℕ

-- what is seen of a sink of any type, in its old state and in its new one
abbrev pub writing : {K : Type 0} → (K → Option (List ℕ)) → (K → ℕ) → K → K → Writing
writing written faults old new = record {
  written = written old;
  written_after = written new;
  faults = faults old;
  faults_after = faults new;
}

-- The source was read to its end: these bytes are all that was left, where it tells that.
pub record IsRead (s : Reading) (bytes : List ℕ) : Type 0 where
  pub taken : Consumes s.left s.left_after bytes
  pub whole : IsAtEnd s.left_after
  pub ended : s.ended_after ≡ true

-- More bytes than a script may have were taken from it.
pub record TookTooMany (s : Reading) : Type 0 where
  pub bytes : List ℕ
  pub taken : Consumes s.left s.left_after bytes
  pub more : 1048576 < length bytes

-- the text for the bytes of a script: that they spell one, or their first mistake
abbrev pub IsAnswered : List ℕ → Ending → List ℕ → Type 0
IsAnswered bytes NoMistake text = IsAnswer bytes None × (text ≡ codes "no mistake\n")
IsAnswered bytes Told text = (m : Mistake) × IsMistake bytes m × (text ≡ text_of bytes m)
IsAnswered bytes _ text = ⊥

-- the text that is to be written, where the program is called with no words, as it has to be, or not
abbrev pub IsDue : Bool → Reading → Ending → List ℕ → Type 0
IsDue asked s BadWords text = (asked ≡ false) × (s.left_after ≡ s.left) × (text ≡ codes "usage: explain\n")
IsDue asked s ReadFault text = (asked ≡ true) × Rose s.faults s.faults_after × (text ≡ codes "read fault\n")
IsDue asked s TooLong text = (asked ≡ true) × TookTooMany s × (text ≡ codes "script too long\n")
IsDue asked s ending text = (asked ≡ true) × ((bytes : List ℕ) × IsRead s bytes × IsAnswered bytes ending text)

-- The text that is due was written whole; where a write failed a part of it, from the front; where memory was wanted nothing.
abbrev pub IsEnded : Bool → Reading → Writing → Ending → Type 0
IsEnded asked s k WriteFault = Rose k.faults k.faults_after × ((ending : Ending) × (text : List ℕ) × IsDue asked s ending text
    × AppendsPart k.written k.written_after text)
IsEnded asked s k OutOfMemory = Keeps k.written k.written_after
IsEnded asked s k ending = (text : List ℕ) × IsDue asked s ending text × Appends k.written k.written_after text
