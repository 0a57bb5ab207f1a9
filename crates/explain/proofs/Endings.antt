-- How a call ends, by what was answered and written.
use Rattle.std.proofs.Common.{◌≡◌, subst, Bool, List, ℕ}
use Rattle.std.specs.Prelude.{Option, Some}
use Rattle.std.specs.Io.KnownBytes.{Appends}
use Rattle.mistakes.specs.Answers.{IsAnswer}
use Rattle.mistakes.specs.Words.{text_of}
use Rattle.mistakes.specs.declared.mistake.Mistake.{Mistake}
use Rattle.explain.specs.Endings.{Reading, Writing, IsAnswered, IsDue, IsEnded}
use Rattle.explain.specs.declared.answer.Ending.{Ending}
use Rattle.explain.specs.declared.answer.Ending.TheVariants.{NoMistake, Told, BadWords, ReadFault, WriteFault, OutOfMemory, TooLong}

-- a mistake is answered with its text
pub told : (bytes : List ℕ) (found : Option Mistake) (m : Mistake) (text : List ℕ) → found ≡ Some m → IsAnswer bytes found
    → text ≡ text_of bytes m → IsAnswered bytes Told text
told bytes found m text e h same = (m, subst (IsAnswer bytes) e h, same)

-- a text that is due is written whole
pub written : (asked : Bool) (s : Reading) (k : Writing) (ending : Ending) (text due : List ℕ) → text ≡ due → IsDue asked s ending due
    → Appends k.written k.written_after text → IsEnded asked s k ending
written asked s k NoMistake text due e d h = (due, d, subst (Appends k.written k.written_after) e h)
written asked s k Told text due e d h = (due, d, subst (Appends k.written k.written_after) e h)
written asked s k BadWords text due e d h = (due, d, subst (Appends k.written k.written_after) e h)
written asked s k ReadFault text due e d h = (due, d, subst (Appends k.written k.written_after) e h)
written asked s k TooLong text due e d h = (due, d, subst (Appends k.written k.written_after) e h)
written asked s k WriteFault text due e d h = absurd d.1.2
written asked s k OutOfMemory text due e d h = absurd d.1.2
