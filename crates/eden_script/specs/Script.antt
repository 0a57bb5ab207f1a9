-- What a script's bytes say.
use Rattle.std.specs.Prelude.{◌≡◌, ◌⊎◌, ℕ, ◌+◌, ◌≤◌, Bool, true, false, List, [], ◌∷◌, ◌++◌, map, length, Option, Some, None, if◌then◌else◌}
use Rattle.std.specs.Borrow.{Bor}
use Rattle.std.specs.List.{sum_by}
use Rattle.journal.specs.declared.command.Script.{Script}
use Rattle.journal.specs.Fit.{IsFit, calls_of}
use Rattle.journal.specs.Laws.{WriteNone}
use Rattle.eden_script.specs.Meaning.{written_command}
use Rattle.eden_script.specs.Declarations.{Types, types_in, with_declared}
use Rattle.eden_script.specs.Names.{with_names}
use Rattle.eden_script.specs.Tree.{WrittenCommand, finish, Line, idle, nodes, does, declares, unended}
use Rattle.eden_script.specs.Parts.{Part, parts_of, line_count}
use Rattle.script_words.specs.Lines.{lines_of}
use Rattle.eden_script.specs.Causes.{Seen, at_first, brings, IsCause, IsSaid}
use Rattle.script_words.specs.declared.cause.ScriptCause.{ScriptCause}
use Rattle.script_words.specs.declared.cause.ScriptRefusal.{ScriptRefusal}
use Rattle.script_words.specs.declared.cause.ScriptRefusal.TheVariants.{Bad, OutOfMemory}
use Rattle.script_words.specs.declared.cause.ScriptCause.TheVariants.{NoEnd}

-- the command `end`
abbrev pub is_finish : WrittenCommand → Bool
is_finish finish = true
is_finish _ = false

-- a name of the code, or none
abbrev pub names_of_option : Option (Bor (List ℕ)) → List (List ℕ)
names_of_option None = []
names_of_option (Some name) = name.now ∷ []

-- the types behind a part
abbrev pub types_after : Types → Line → Types
types_after types (declares t) = with_declared types t
types_after types _ = types

-- what a part leaves; the end is missing behind a type that is not ended
abbrev pub after : Seen → Line → Seen
after seen idle = seen
after seen (nodes n) = record seen { nodes = n }
after seen (does o) = record seen { names = with_names seen.names (brings (does o)); ended = if is_finish o then true else seen.ended }
after seen (declares t) = record seen { types = types_after seen.types (declares t) }
after seen unended = record seen { ended = false }

-- the command of a line, if it has one
abbrev pub commands_of : Line → List WrittenCommand
commands_of (does o) = o ∷ []
commands_of _ = []

-- Parts that pass all tests, the commands in them in order, and what they leave.
abbrev pub Says : Seen → List Part → List WrittenCommand → Seen → Type 0
Says seen [] orders end = (orders ≡ []) × (end ≡ seen)
Says seen (p ∷ ps) orders end =
    (l : Line) × (rest : List WrittenCommand) × IsSaid seen p l × (orders ≡ commands_of l ++ rest) × Says (after seen l) ps rest end

-- The bytes spell this script: every part, in order, says a type, a command or nothing, and the last command is `end`.
pub record IsScript (bytes : List ℕ) (script : Script) : Type 0 where
  pub end : Seen
  pub says : Says at_first (parts_of (lines_of bytes)) (map written_command script.commands) end
  pub types : end.types ≡ types_in script.types
  pub nodes : end.nodes ≡ script.nodes
  pub ended : end.ended ≡ true

-- the first bad line of these parts, counted from 1, and its first cause: it stands in the first part that does not pass all
-- tests; where there is none and `end` is missing, it is one behind the last line
pub record IsBadIn (seen : Seen) (parts : List Part) (line : ℕ) (cause : ScriptCause) : Type 0 where
  pub before : List Part
  pub orders : List WrittenCommand
  pub end : Seen
  pub says : Says seen before orders end
  pub bad : ((part : Part) × (behind : List Part) × (i : ℕ) × (parts ≡ before ++ part ∷ behind) × (line ≡ line_count before + i + 1)
      × IsCause end part i cause)
      ⊎ ((parts ≡ before) × (line ≡ line_count before + 1) × (end.ended ≡ false) × (cause ≡ NoEnd))

-- the first bad line of a script's bytes and its first cause
abbrev pub IsBadLine : List ℕ → ℕ → ScriptCause → Type 0
IsBadLine bytes line cause = IsBadIn at_first (parts_of (lines_of bytes)) line cause

-- a refusal is the first bad line with its first cause, or want of memory
abbrev pub IsRefusal : List ℕ → ScriptRefusal → Type 0
IsRefusal bytes (Bad line cause) = IsBadLine bytes line cause
IsRefusal bytes OutOfMemory = Unit {0}

-- Two scripts are the same, but for where they lie in memory.
pub record AreSame (a b : Script) : Type 0 where
  pub types : types_in a.types ≡ types_in b.types
  pub nodes : a.nodes ≡ b.nodes
  pub commands : a.commands ≡ b.commands

-- A text spells at most one script, and then it has no bad line; it has at most one first bad line.
pub record AtMostOne (bytes : List ℕ) : Type 0 where
  pub script : (a b : Script) → IsScript bytes a → IsScript bytes b → AreSame a b
  pub apart : (line : ℕ) (a : Script) (cause : ScriptCause) → IsScript bytes a → IsBadLine bytes line cause → ⊥
  pub bad : (i j : ℕ) (c d : ScriptCause) → IsBadLine bytes i c → IsBadLine bytes j d → (i ≡ j) × (c ≡ d)

-- Whatever text spells a script, it is fit for a world.
abbrev pub ScriptsAreFit : Type 0
ScriptsAreFit = (bytes : List ℕ) (script : Script) → IsScript bytes script → IsFit script

-- A fit script writes out no capability: capabilities come into it by names alone.
abbrev pub FitScriptsAreBare : Type 0
FitScriptsAreBare = (script : Script) → IsFit script → WriteNone script.commands

-- Whatever text spells a script, its commands ask for at most as many calls of the shell as the text has bytes.
abbrev pub FewCallsAreAsked : Type 0
FewCallsAreAsked = (bytes : List ℕ) (script : Script) → IsScript bytes script → sum_by calls_of script.commands ≤ length bytes
