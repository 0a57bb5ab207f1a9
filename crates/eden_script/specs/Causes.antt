-- Why a line is refused: the tests of a line, in order.
use Rattle.std.specs.Prelude.{◌≡◌, ◌⊎◌, ◌↔◌, ℕ, ◌≤◌, ◌<◌, Bool, true, false, List, [], ◌∷◌, length, codes}
use Rattle.std.specs.Prelude.{Some}
use Rattle.std.specs.List.{list_all, list_any}
use Rattle.epl_syntax.specs.Tree.{TypeTree}
pub use Rattle.journal.specs.Fit.{Within}
use Rattle.eden_script.specs.Parts.{Part, line, declaration, unclosed, line_at, line_of_place}
use Rattle.script_words.specs.Lines.{lines_of}
use Rattle.eden_script.specs.Declarations.{DECLARED_LIMIT, Types, native_alone, type_names, declared_name, Declares, RefusedAt}
use Rattle.script_words.specs.Form.{is_printable, is_among}
use Rattle.eden_script.specs.Tree.{WrittenCommand, create, hold}
use Rattle.eden_script.specs.Tree.{call, restrict, walk, turn, go, crash, restart, cut, join, fail, stop, finish, Line, idle, nodes, does}
use Rattle.eden_script.specs.Tree.{declares, unended}
use Rattle.eden_script.specs.Grammar.{SpellsLine}
use Rattle.script_words.specs.Grammar.{Idle}
use Rattle.script_words.specs.declared.cause.ScriptCause.{ScriptCause}
use Rattle.script_words.specs.declared.cause.ScriptCause.TheVariants.{BadByte, LongLine, AfterEnd, NoCommand, Misplaced, BadForm, BadNumber}
use Rattle.script_words.specs.declared.cause.ScriptCause.TheVariants.{UnknownName, UnknownType, DoubledName, BadEdentype, NoEnd}
use Rattle.script_words.specs.Causes.{HowFits, ResultFits, RowFits, first_word, names_of, rank}

-- What the parts so far leave: the types; the number of nodes, 0 before `nodes`; the names that were
-- introduced, in the order in which they came; whether `end` stood.
pub record Seen : Type 0 where
  pub types : Types
  pub nodes : ℕ
  pub names : List (List ℕ)
  pub ended : Bool

-- before the first part
abbrev pub at_first : Seen
at_first = record { types = native_alone; nodes = 0; names = []; ended = false }

-- ## Words

-- the words with which the commands behind `nodes` begin
abbrev pub command_words : List (List ℕ)
command_words =
    codes "create" ∷ codes "hold" ∷ codes "call" ∷ codes "restrict" ∷ codes "walk" ∷ codes "turn" ∷ codes "go" ∷ codes "crash"
    ∷ codes "restart" ∷ codes "cut" ∷ codes "join" ∷ codes "fail" ∷ codes "stop" ∷ codes "end" ∷ []

-- ## Numbers

-- each number of a command is in its range, where there are so many nodes
abbrev pub Fits : ℕ → WrittenCommand → Type 0
Fits most (create name n t) = Within 1 most n
Fits most (hold name n e s) = Within 1 most n × Within 1 4294967295 e × Within 1 4294967295 s
Fits most (call name r op args) = ResultFits r.result × RowFits args
Fits most (restrict name r mask) = ResultFits r.result × Within 0 65535 mask
Fits most (walk name r path) = ResultFits r.result
Fits most (turn i) = Within 0 1000000 i
Fits most (go n) = Within 1 1000000 n
Fits most (crash n how) = Within 1 most n × HowFits how
Fits most (restart n) = Within 1 most n
Fits most (cut a b) = Within 0 most a × Within 0 most b
Fits most (join a b) = Within 0 most a × Within 0 most b
Fits most (fail n k) = Within 1 most n × Within 1 1000000 k
Fits most (stop n k how) = Within 1 most n × Within 1 1000000 k × HowFits how
Fits most finish = Unit {0}

-- each number of a line is in its range, where there are so many nodes, 0 before `nodes`
abbrev pub LineFits : ℕ → Line → Type 0
LineFits most idle = Unit {0}
LineFits most (nodes n) = Within 1 8 n
LineFits most (does o) = Fits most o
LineFits most (declares t) = Unit {0}
LineFits most unended = Unit {0}

-- ## Names

-- the names that a line refers to
abbrev pub uses : Line → List (List ℕ)
uses (does (call name r op args)) = r.name ∷ names_of args
uses (does (restrict name r mask)) = r.name ∷ []
uses (does (walk name r path)) = r.name ∷ []
uses _ = []

-- the name that a line introduces, if it introduces one
abbrev pub brings : Line → List (List ℕ)
brings (does (create name n t)) = name ∷ []
brings (does (hold name n e s)) = name ∷ []
brings (does (call name r op args)) = name ∷ []
brings (does (restrict name r mask)) = name ∷ []
brings (does (walk name r path)) = name ∷ []
brings _ = []

-- the names of the types that a line refers to
abbrev pub types : Line → List (List ℕ)
types (does (create name n t)) = t ∷ []
types _ = []

-- ## The tests

-- ### Lines

-- a line says this, with its numbers in their ranges
abbrev pub LineTells : Seen → List ℕ → Line → Type 0
LineTells seen bytes l = SpellsLine l bytes × LineFits seen.nodes l

-- Whether a line passes the test that a cause stands for.
abbrev pub LinePasses : ScriptCause → Seen → List ℕ → Type 0
LinePasses BadByte seen bytes = list_all is_printable bytes ≡ true
LinePasses LongLine seen bytes = length bytes ≤ 4096
LinePasses AfterEnd seen bytes = Idle bytes ⊎ (seen.ended ≡ false)
LinePasses NoCommand seen bytes = Idle bytes ⊎ (is_among (codes "nodes" ∷ command_words) (first_word bytes) ≡ true)
LinePasses Misplaced seen bytes = Idle bytes ⊎ ((first_word bytes ≡ codes "nodes") ↔ (seen.nodes ≡ 0))
LinePasses BadForm seen bytes = (l : Line) × SpellsLine l bytes
LinePasses BadNumber seen bytes = (l : Line) × LineTells seen bytes l
LinePasses UnknownName seen bytes = (l : Line) × LineTells seen bytes l × (list_all (is_among seen.names) (uses l) ≡ true)
LinePasses UnknownType seen bytes = (l : Line) × LineTells seen bytes l × (list_all (is_among (type_names seen.types)) (types l) ≡ true)
LinePasses DoubledName seen bytes = (l : Line) × LineTells seen bytes l × (list_any (is_among seen.names) (brings l) ≡ false)
LinePasses BadEdentype seen bytes = Unit {0}
LinePasses NoEnd seen bytes = Unit {0}

-- ### Edentypes

-- how many types the script has declared
abbrev pub declared_count : Seen → ℕ
declared_count seen = length seen.types.declared

-- Whether the line i of the text of an Edentype, counted from 0, passes the test that a cause stands for: the text of a type
-- too many is refused at its first line, another bad text at the line of the place where it is refused.
abbrev pub TypePasses : ScriptCause → Seen → List ℕ → ℕ → Type 0
TypePasses BadByte seen body i = list_all is_printable (line_at (lines_of body) i) ≡ true
TypePasses LongLine seen body i = length (line_at (lines_of body) i) ≤ 4096
TypePasses AfterEnd seen body i = i ≡ 0 → seen.ended ≡ false
TypePasses Misplaced seen body i = i ≡ 0 → seen.nodes ≡ 0
TypePasses DoubledName seen body i =
    (place : ℕ) (name : List ℕ) → declared_name body ≡ Some (place, name) → line_of_place body place ≡ i
    → is_among (type_names seen.types) name ≡ false
TypePasses BadEdentype seen body i =
    (i ≡ 0 → declared_count seen < DECLARED_LIMIT) × ((place : ℕ) → RefusedAt seen.types body place → line_of_place body place ≡ i → ⊥)
TypePasses _ seen body i = Unit {0}

-- ### Parts

-- Whether the line i of an Edentype without `endtype`, counted from 0, passes the test that a cause stands for:
-- only its bytes and its length are tested.
abbrev pub UnclosedPasses : ScriptCause → List (List ℕ) → ℕ → Type 0
UnclosedPasses BadByte lines i = list_all is_printable (line_at lines i) ≡ true
UnclosedPasses LongLine lines i = length (line_at lines i) ≤ 4096
UnclosedPasses _ lines i = Unit {0}

-- Whether the line i of a part, counted from 0, passes the test that a cause stands for.
abbrev pub Passes : ScriptCause → Seen → Part → ℕ → Type 0
Passes c seen (line bytes) i = LinePasses c seen bytes
Passes c seen (declaration body) i = TypePasses c seen body i
Passes c seen (unclosed lines) i = UnclosedPasses c lines i

-- The first test that a part does not pass: of its lines the first that fails one, and of that line's tests the first.
pub record IsCause (seen : Seen) (part : Part) (i : ℕ) (cause : ScriptCause) : Type 0 where
  pub earlier : (j : ℕ) (c : ScriptCause) → j < i → Passes c seen part j
  pub before : (c : ScriptCause) → rank c < rank cause → Passes c seen part i
  pub fails : Passes cause seen part i → ⊥

-- what a part says
abbrev pub Tells : Seen → Part → Line → Type 0
Tells seen (line bytes) l = LineTells seen bytes l
Tells seen (declaration body) l = (t : TypeTree) × (l ≡ declares t) × Declares seen.types body t
Tells seen (unclosed lines) l = l ≡ unended

-- the part passes all tests, and says this
pub record IsSaid (seen : Seen) (part : Part) (l : Line) : Type 0 where
  pub passes : (i : ℕ) (c : ScriptCause) → Passes c seen part i
  pub tells : Tells seen part l
