-- The text that belongs to a number is a script.
use Rattle.std.specs.Prelude.{ℕ}
use Rattle.journal.specs.Fit.{IsFit}
use Rattle.journal.specs.declared.command.Script.{Script}
use Rattle.eden_gen.specs.Generated.{script_text}
use Rattle.eden_script.specs.Script.{IsScript, IsBadLine}
use Rattle.script_words.specs.declared.cause.ScriptCause.{ScriptCause}

-- Whatever the number, there is a script that its text spells.
abbrev pub EveryNumberHasAScript : Type 0
EveryNumberHasAScript = (number : ℕ) → (script : Script) × IsScript (script_text number) script

-- Each script that its text spells is fit for a world.
abbrev pub ItsScriptIsFit : Type 0
ItsScriptIsFit = (number : ℕ) (script : Script) → IsScript (script_text number) script → IsFit script

-- And its text has no bad line.
abbrev pub ItHasNoBadLine : Type 0
ItHasNoBadLine = (number line : ℕ) (why : ScriptCause) → IsBadLine (script_text number) line why → ⊥
