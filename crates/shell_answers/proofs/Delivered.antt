-- What was written of a text that is due.
use Rattle.std.proofs.Common.{◌≢◌, ℕ, List, length, take_all, refl, sym, subst, arith, Option}
use Rattle.std.specs.Prelude.{Result, Ok, Err, OnOk, OnErr}
use Rattle.std.specs.Io.KnownBytes.{Appends}
use Rattle.eden_io.specs.Taken.{AppendsPart}
use Rattle.shell_answers.specs.Answers.{Writing, Delivers}
use Rattle.shell_answers.specs.declared.outcome.Outcome.{Outcome}
use Rattle.shell_answers.specs.declared.outcome.Outcome.TheVariants.{Ran, BadWords, BadScript, ReadFault, WriteFault, OutOfMemory, TooLong}

-- the whole is a part
pub whole-part : (old new : Option (List ℕ)) (text : List ℕ) → Appends old new text → AppendsPart old new text
whole-part old new text wrote = record {
  count = length text;
  within = omega arith;
  part = subst (Appends old new) (sym (take_all (length text) text (omega arith))) wrote;
}

-- a part was written, whether the write was refused or not
pub either-part : {T E : Type 0} (r : Result T E) (old new : Option (List ℕ)) (text : List ℕ) → OnOk r (Appends old new text)
    → OnErr r (AppendsPart old new text) → AppendsPart old new text
either-part (Ok x) old new text wrote part = whole-part old new text wrote
either-part (Err x) old new text wrote part = part

pub wrote-whole : (s : Writing) (due : Outcome) (text : List ℕ) → due ≢ WriteFault → Appends s.written s.written_after text
    → Delivers s due text due
wrote-whole s Ran text other wrote = (refl, wrote)
wrote-whole s BadWords text other wrote = (refl, wrote)
wrote-whole s (BadScript line why) text other wrote = (refl, wrote)
wrote-whole s ReadFault text other wrote = (refl, wrote)
wrote-whole s WriteFault text other wrote = absurd (other refl)
wrote-whole s OutOfMemory text other wrote = whole-part s.written s.written_after text wrote
wrote-whole s TooLong text other wrote = (refl, wrote)
