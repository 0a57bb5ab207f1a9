-- What a line of a script says. Numbers are as they are written, however large, so that a line may be well formed
-- and its numbers out of their ranges.
use Rattle.std.specs.Prelude.{ℕ, List}
use Rattle.epl_syntax.specs.Tree.{TypeTree}
use Rattle.script_words.specs.Tree.{WrittenRef, WrittenMode, Row}

-- a command behind `nodes`
pub data WrittenCommand : Type 0 where
  create : (name : List ℕ) (node : ℕ) (type_name : List ℕ) → WrittenCommand
  hold : (name : List ℕ) (node epoch serial : ℕ) → WrittenCommand
  call : (name : List ℕ) (target : WrittenRef) (operation : List ℕ) (args : Row) → WrittenCommand
  restrict : (name : List ℕ) (target : WrittenRef) (mask : ℕ) → WrittenCommand
  walk : (name : List ℕ) (target : WrittenRef) (path : List ℕ) → WrittenCommand
  turn : (i : ℕ) → WrittenCommand
  go : (n : ℕ) → WrittenCommand
  crash : (node : ℕ) (how : WrittenMode) → WrittenCommand
  restart : (node : ℕ) → WrittenCommand
  cut : (a b : ℕ) → WrittenCommand
  join : (a b : ℕ) → WrittenCommand
  fail : (node after : ℕ) → WrittenCommand
  stop : (node after : ℕ) (how : WrittenMode) → WrittenCommand
  finish : WrittenCommand

-- what a part of a script says: nothing (a blank line or a comment), `nodes`, a command, a type, or a type that is not ended
pub data Line : Type 0 where
  idle : Line
  nodes : ℕ → Line
  does : WrittenCommand → Line
  declares : TypeTree → Line
  unended : Line
