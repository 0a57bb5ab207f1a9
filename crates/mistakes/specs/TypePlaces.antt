-- Where the text of an Edentype is refused, and why.
use Rattle.std.specs.Prelude.{◌≡◌, ◌⊎◌, ℕ, ◌+◌, List, ◌∷◌, ◌++◌, length, take}
use Rattle.epl_syntax.specs.Rules.First.{broken_at, IsFirst}
use Rattle.epl_syntax.specs.Rules.InItems.{broken_program}
use Rattle.epl_syntax.specs.Tree.{TypeTree}
use Rattle.epl_parser.specs.Program.{SpellsType, BreaksType, GoesOn, DeepensType}
use Rattle.eden_script.specs.Parts.{Part, declaration, parts_of, line_count, line_of_place}
use Rattle.script_words.specs.Lines.{lines_of}
use Rattle.eden_script.specs.Declarations.{DECLARED_LIMIT, Types, type_names}
use Rattle.eden_script.specs.Tree.{WrittenCommand}
use Rattle.eden_script.specs.Causes.{Seen, at_first}
use Rattle.eden_script.specs.Script.{Says}
use Rattle.mistakes.specs.Columns.{length_behind}
use Rattle.mistakes.specs.declared.mistake.TypeFault.{TypeFault}
use Rattle.mistakes.specs.declared.mistake.TypeFault.TheVariants.{TooMany, BadToken, TooDeep, Broken}
use Rattle.mistakes.specs.declared.declared.Refused.{Refused}
use Rattle.mistakes.specs.declared.declared.Refused.TheVariants.{At, Memory}

-- the column of a place of a text, counted from 1 behind the last line feed before it
abbrev pub column_of : List ℕ → ℕ → ℕ
column_of text place = length_behind 10 (take place text) + 1

-- Behind these types the text is refused at this place for this fault: at its beginning, where there are as many types as may be
-- declared; or where the parser refuses it; or, where it spells a type, at the first rule that the type breaks.
abbrev pub IsFault : Types → List ℕ → ℕ → TypeFault → Type 0
IsFault types text place TooMany = (place ≡ 0) × (length types.declared ≡ DECLARED_LIMIT)
IsFault types text place BadToken = BreaksType text place ⊎ GoesOn text place
IsFault types text place TooDeep = DeepensType text place
IsFault types text place (Broken rule difference) =
    (t : TypeTree) × SpellsType text t × IsFirst (broken_program (type_names types) t) (broken_at rule place)

-- what the parser and the checker answer of a text that declares no type; want of memory says nothing of the text
abbrev pub IsRefusedAs : Types → List ℕ → Refused → Type 0
IsRefusedAs types text (At place fault) = IsFault types text place fault
IsRefusedAs types text Memory = Unit {0}

-- From a state on, a line of these parts, counted from 1, stands in the text of an Edentype, at this place, which is refused there for
-- this fault behind the types that the parts before it leave.
pub record IsBadTypeIn (seen : Seen) (parts : List Part) (line : ℕ) (text : List ℕ) (place : ℕ) (fault : TypeFault) : Type 0 where
  pub before : List Part
  pub orders : List WrittenCommand
  pub end : Seen
  pub says : Says seen before orders end
  pub behind : List Part
  pub cut : parts ≡ before ++ declaration text ∷ behind
  pub refused : IsFault end.types text place fault
  pub counted : line ≡ line_count before + line_of_place text place + 1

-- so it is with a line of a script
abbrev pub IsBadType : List ℕ → ℕ → List ℕ → ℕ → TypeFault → Type 0
IsBadType bytes line text place fault = IsBadTypeIn at_first (parts_of (lines_of bytes)) line text place fault
