-- Which scripts are fit for a world: what every script that was read keeps to, and what carrying out a command takes for granted. No step
-- of a fit script meets a number out of its range, a node that is not there, an unknown name or type, or a value past its limits.
use Rattle.std.specs.Prelude.{◌≡◌, ◌≢◌, ℕ, zero, suc, ◌≤◌, true, List, [], ◌∷◌, ◌++◌, length, Some}
use Rattle.std.specs.List.{All, Contains, list_all}
use Rattle.capability.specs.declared.Uid.{Uid}
use Rattle.capability.specs.Capability.{IsEject}
use Rattle.eden_value.specs.Datum.{Datum}
use Rattle.eden_value.specs.Limits.{IsText, IsValue, AreValues}
use Rattle.eden_value.specs.Range.{InRange, AllInRange}
use Rattle.eden_value.specs.Caps.{caps}
use Rattle.eden_value.specs.declared.value.TheConstants.{DEPTH_LIMIT, LIST_LIMIT}
use Rattle.eden_disk.specs.declared.disk.ImageMode.{ImageMode}
use Rattle.eden_disk.specs.declared.disk.ImageMode.TheVariants as image
use Rattle.epl_syntax.specs.Form.{is_name_byte}
use Rattle.epl_syntax.specs.Constants.{HaveValues}
use Rattle.epl_syntax.specs.Rules.OfTypes.{names_of, NamesDiffer, KeepRules, HaveMonitors}
use Rattle.journal.specs.Argument.{Argument, Arguments, plain, named, several, no_arguments, argument_and, arguments_in, arguments_of}
use Rattle.journal.specs.World.{World}
use Rattle.journal.specs.References.{value_at_name, args_of}
use Rattle.journal.specs.Run.{components}
use Rattle.journal.specs.declared.command.Command.{Command}
use Rattle.journal.specs.declared.command.Command.TheVariants as command
use Rattle.journal.specs.declared.command.Script.{Script}

-- 1. Numbers and words

-- from one bound to the other, both of them included
abbrev pub Within : ℕ → ℕ → ℕ → Type 0
Within low high n = (low ≤ n) × (n ≤ high)

-- what a name, a type or an operation is called: from one to 32 letters, digits and underscores
pub record IsWord (word : List ℕ) : Type 0 where
  -- each byte is a letter, a digit or an underscore
  pub bytes : list_all is_name_byte word ≡ true
  -- it has from one to 32 bytes
  pub length_ : Within 1 32 (length word)

-- the number of the last result of a call that may be named, counted from 1
abbrev pub most_results : ℕ
most_results = 8

-- the byte that the mode puts in place of unsynced ones, if it puts one, is at most 255
abbrev pub ModeFits : ImageMode → Type 0
ModeFits (image.Garble b) = b ≤ 255
ModeFits _ = Unit {0}

-- 2. Arguments

-- a value that is written out: an integer of 64 bits, a truth value, a text within its limits, or the absent capability
pub record IsPlain (d : Datum) : Type 0 where
  -- an integer fits into 64 bits with a sign
  pub in_range : InRange d
  -- it is no list, and a text is within its limits
  pub no_list : IsValue 0 d
  -- no capability is present in it
  pub no_capability : caps d ≡ []

-- An argument with at most so many lists in one another, of which each has at most 256 items. What a name stands for counts as no list
-- here, and is measured when the call is made.
abbrev mutual
  -- one argument: a plain value, a name with no result past the 8th, or, where a list may still begin, a list of such
  pub IsArgument : ℕ → Argument → Type 0
  IsArgument deep (plain d) = IsPlain d
  IsArgument deep (named name k) = k ≤ most_results
  IsArgument zero (several gs) = ⊥
  IsArgument (suc deep) (several gs) = (length (arguments_in gs) ≤ LIST_LIMIT) × AreArguments deep gs

  -- each of arguments in a row is one
  pub AreArguments : ℕ → Arguments → Type 0
  AreArguments deep no_arguments = Unit {0}
  AreArguments deep (argument_and g gs) = IsArgument deep g × AreArguments deep gs

-- the names that stand in arguments
abbrev mutual
  -- those in one argument, from left to right
  pub names_in : Argument → List (List ℕ)
  names_in (plain d) = []
  names_in (named name k) = name ∷ []
  names_in (several gs) = names_in_each gs

  -- those in arguments in a row
  pub names_in_each : Arguments → List (List ℕ)
  names_in_each no_arguments = []
  names_in_each (argument_and g gs) = names_in g ++ names_in_each gs

-- 3. What a command names

-- the name that it introduces
abbrev pub introduced : Command → List (List ℕ)
introduced (command.Create name n type_name) = name ∷ []
introduced (command.Hold name uid) = name ∷ []
introduced (command.Call name target operation args) = name ∷ []
introduced (command.Restrict name target mask) = name ∷ []
introduced (command.Walk name target path) = name ∷ []
introduced _ = []

-- the names that it refers to
abbrev pub referred : Command → List (List ℕ)
referred (command.Call name target operation args) = target.name ∷ names_in_each (arguments_of args)
referred (command.Restrict name target mask) = target.name ∷ []
referred (command.Walk name target path) = target.name ∷ []
referred _ = []

-- the type of which it creates an Eject
abbrev pub type_named : Command → List (List ℕ)
type_named (command.Create name n type_name) = type_name ∷ []
type_named _ = []

-- the operation that it invokes
abbrev pub operation_named : Command → List (List ℕ)
operation_named (command.Call name target operation args) = operation ∷ []
operation_named _ = []

-- 4. Commands

-- The numbers of a command are in their ranges, where there are so many nodes: a node is one of them, and a station one of them or the
-- shell, which is 0.
abbrev pub NumbersFit : ℕ → Command → Type 0
NumbersFit nodes (command.Create name n type_name) = Within 1 nodes n
NumbersFit nodes (command.Hold name uid) = Within 1 nodes uid.node × Within 1 4294967295 uid.epoch × Within 1 4294967295 uid.serial
NumbersFit nodes (command.Call name target operation args) = target.result ≤ most_results
NumbersFit nodes (command.Restrict name target mask) = (target.result ≤ most_results) × (mask.bits ≤ 65535)
NumbersFit nodes (command.Walk name target path) = target.result ≤ most_results
NumbersFit nodes (command.Turn i) = i ≤ 1000000
NumbersFit nodes (command.Go n) = Within 1 1000000 n
NumbersFit nodes (command.Crash n mode) = Within 1 nodes n × ModeFits mode
NumbersFit nodes (command.Restart n) = Within 1 nodes n
NumbersFit nodes (command.Cut a b) = (a ≤ nodes) × (b ≤ nodes)
NumbersFit nodes (command.Join a b) = (a ≤ nodes) × (b ≤ nodes)
NumbersFit nodes (command.Fail n after) = Within 1 nodes n × Within 1 1000000 after
NumbersFit nodes (command.Stop n after mode) = Within 1 nodes n × Within 1 1000000 after × ModeFits mode
NumbersFit nodes command.End = Unit {0}

-- the two stations of a link that is cut or joined differ
abbrev pub StationsDiffer : Command → Type 0
StationsDiffer (command.Cut a b) = a ≢ b
StationsDiffer (command.Join a b) = a ≢ b
StationsDiffer _ = Unit {0}

-- the path of a walk is a text
abbrev pub PathFits : Command → Type 0
PathFits (command.Walk name target path) = IsText path
PathFits _ = Unit {0}

-- the arguments of a call are fit, with no more lists in one another than a value may have
abbrev pub ArgumentsFit : Command → Type 0
ArgumentsFit (command.Call name target operation args) = AreArguments DEPTH_LIMIT (arguments_of args)
ArgumentsFit _ = Unit {0}

-- a command that is fit where these types and so many nodes are there, whatever names were introduced before it
pub record IsFitCommand (types : List (List ℕ)) (nodes : ℕ) (c : Command) : Type 0 where
  -- each of its numbers is in its range
  pub numbers : NumbersFit nodes c
  -- a link that it cuts or joins has two different ends
  pub stations : StationsDiffer c
  -- a name that it introduces is a word
  pub name : All IsWord (introduced c)
  -- so is the name of an operation that it invokes
  pub operation : All IsWord (operation_named c)
  -- a path that it walks is a text
  pub path : PathFits c
  -- the arguments of its call are fit
  pub arguments : ArgumentsFit c
  -- the type of which it creates an Eject is one of the types
  pub type_is_known : All (Contains types) (type_named c)

-- 5. Scripts

-- Behind these names, each command refers only to names that commands before it introduced, and introduces a new one.
abbrev pub NamesFit : List (List ℕ) → List Command → Type 0
NamesFit before [] = Unit {0}
NamesFit before (c ∷ cs) =
    All (Contains before) (referred c) × All (λ name. Contains before name → ⊥) (introduced c) × NamesFit (introduced c ++ before) cs

-- `end` is the last command, and no command before it is
abbrev pub EndsOnce : List Command → Type 0
EndsOnce [] = ⊥
EndsOnce (c ∷ []) = c ≡ command.End
EndsOnce (c ∷ d ∷ cs) = (c ≢ command.End) × EndsOnce (d ∷ cs)

-- the greatest number of types that a script may declare
abbrev pub DECLARED_LIMIT : ℕ
DECLARED_LIMIT = 64

-- a script that is fit for a world, by its nodes, its types, its commands and their names
pub record IsFit (script : Script) : Type 0 where
  -- from one node to eight
  pub nodes : Within 1 8 script.nodes
  -- it declares at most 64 types
  pub few_types : length script.types.declared ≤ DECLARED_LIMIT
  -- no two types, native or declared, have one name
  pub names_differ : NamesDiffer script.types
  -- no declared type breaks a rule, where each sees the names of the types before it
  pub keep_rules : KeepRules script.types
  -- each condition of a declared type is of one of that type's monitors
  pub have_monitors : HaveMonitors script.types
  -- the constants of declared types are values
  pub have_values : HaveValues script.types
  -- each command for itself
  pub commands : All (IsFitCommand (names_of script.types) script.nodes) script.commands
  -- each name is introduced once, and before it is referred to
  pub names : NamesFit [] script.commands
  -- its last command is its only `end`
  pub ends_once : EndsOnce script.commands

-- 6. Calls

-- how many calls a command asks for the shell at most: a walk one for each component of its path
abbrev pub calls_of : Command → ℕ
calls_of (command.Call name target operation args) = 1
calls_of (command.Walk name target path) = length (components path)
calls_of _ = 0

-- 7. What a fit command hands to a world

-- what the names of a world stand for is within the limits of values
abbrev pub NamesAreValues : World → Type 0
NamesAreValues w = (name : List ℕ) (k : ℕ) (d : Datum) → value_at_name w name k ≡ Some d → IsValue DEPTH_LIMIT d × InRange d

-- The arguments of a call that is made are values within their limits, whatever lists stand behind their names.
abbrev pub ArgumentsAreValues : Type 0
ArgumentsAreValues = (w : World) (args : List Argument) (ds : List Datum) → NamesAreValues w → AreArguments DEPTH_LIMIT (arguments_of args)
    → args_of w args ≡ Some ds → AreValues DEPTH_LIMIT ds × AllInRange ds

-- Each component of a walk's path is a text, and so the one argument of its call is a value.
abbrev pub ComponentsAreTexts : Type 0
ComponentsAreTexts = (path : List ℕ) → IsText path → All IsText (components path)

-- What is held is the uid of an Eject.
abbrev pub HeldAreEjects : Type 0
HeldAreEjects = (nodes : ℕ) (name : List ℕ) (u : Uid) → nodes ≤ 8 → NumbersFit nodes (command.Hold name u) → IsEject u
