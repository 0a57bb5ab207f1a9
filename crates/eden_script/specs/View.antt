-- What the code's values are, as they are written.
use Rattle.std.specs.Prelude.{◌≡◌, ℕ, ◌-◌, false, List, [], Result, Ok, Err}
use Rattle.std.specs.List.{list_any}
use Rattle.std.specs.Borrow.{Bor}
use Rattle.eden_model.specs.Map.{same_text}
use Rattle.epl_syntax.specs.Tree.{type_tree}
use Rattle.epl_syntax.specs.Rules.InItems.{broken_program}
use Rattle.epl_syntax.specs.Rules.OfTypes.{TypeList, names_of}
use Rattle.eden_script.specs.Declarations.{DECLARED_LIMIT, types_in}
use Rattle.eden_script.specs.Tree.{Line, idle, nodes, does, declares, unended}
use Rattle.eden_script.specs.Parts.{Part}
use Rattle.eden_script.specs.Causes.{Seen as Known, declared_count, IsCause, IsSaid}
use Rattle.eden_script.specs.Flaws.{Place, FirstSays, FirstFails}
use Rattle.eden_script.specs.Script.{after}
use Rattle.script_words.specs.declared.cause.ScriptCause.{ScriptCause}
use Rattle.eden_script.specs.declared.flaw.Place.{Place as CodePlace}
use Rattle.eden_script.specs.declared.flaw.Flaw.{Flaw}
use Rattle.eden_script.specs.declared.flaw.Flaw.TheVariants as flaw
use Rattle.eden_script.specs.declared.line.Seen.{Seen}
use Rattle.eden_script.specs.declared.line.Line.{Line as CodeLine}
use Rattle.eden_script.specs.declared.line.Line.TheVariants as code
use Rattle.eden_script.specs.Meaning.{written_command}

-- a line of the code
abbrev pub line_of : CodeLine → Line
line_of code.Idle = idle
line_of (code.Nodes n) = nodes n
line_of (code.Does c) = does (written_command c)
line_of (code.Declares c) = declares (type_tree c.program)
line_of code.Unended = unended

-- what the parts so far leave, in the code
abbrev pub seen_of : Seen → Known
seen_of s = record { types = types_in s.types; nodes = s.nodes; names = s.names; ended = s.ended }

-- the room is how many types may be declared yet
abbrev pub IsCounted : Seen → Type 0
IsCounted s = s.room ≡ DECLARED_LIMIT - declared_count (seen_of s)

-- how many types may be declared behind a part, of so many before it
abbrev pub room_after : ℕ → Line → ℕ
room_after room (declares t) = room - 1
room_after room _ = room

-- a type that is declared behind these keeps the rules, and none of them has its name
abbrev pub KeepsRules : TypeList → CodeLine → Type 0
KeepsRules types (code.Declares c) =
    (broken_program (names_of types) (type_tree c.program) ≡ [])
    × (list_any (λ t. same_text t c.program.name.text) (names_of types) ≡ false)
KeepsRules types _ = Unit {0}

-- a place of the code
abbrev pub place_of : CodePlace → Place
place_of p = (p.line, p.cause)

-- Fails holds of the line and the cause of a flaw; of want of memory nothing is said
abbrev pub FailsBy : (ℕ → ScriptCause → Type 0) → Flaw → Type 0
FailsBy Fails flaw.Memory = Unit {0}
FailsBy Fails (flaw.At at) = Fails at.line at.cause

-- Says holds of what was found; or there was a flaw, of which Fails holds, or no memory
abbrev pub Finds : {X : Type 0} → (X → Type 0) → (ℕ → ScriptCause → Type 0) → Result X Flaw → Type 0
Finds Says Fails (Ok x) = Says x
Finds Says Fails (Err e) = FailsBy Fails e

-- what a function found of a part: what it says, or its first flaw
abbrev pub PartFinds : Known → Part → Result CodeLine Flaw → Type 0
PartFinds seen part found = Finds (λ l. IsSaid seen part (line_of l)) (IsCause seen part) found

-- of the first part of some bytes: what it says, its number of lines and the bytes behind it; or its first flaw
abbrev pub FirstFinds : Known → List ℕ → Result (CodeLine × ℕ × Bor (List ℕ)) Flaw → Type 0
FirstFinds seen bytes found = Finds (λ x. FirstSays seen bytes (line_of x.0) x.1 x.2.now) (FirstFails seen bytes) found

-- what a part leaves besides its type
abbrev pub noted : Known → Line → Known
noted seen (declares t) = seen
noted seen l = after seen l
