-- What the bytes of a script say, and where its rows begin.
use Rattle.std.specs.Prelude.{◌≡◌, ℕ, ◌≤◌, List, map, Option, Some, None}
use Rattle.std.specs.List.{All}
use Rattle.line_forms.specs.Forms.{Row}
use Rattle.line_forms.specs.Scripts.{IsScript}
use Rattle.line_forms.specs.Spots.{AreAt}
use Rattle.move_world.specs.Commands.{Command, move_kind, command_of, IsInReach}
use Rattle.move_world.specs.Worlds.{AreInReach}

-- The bytes spell a script of Ejects that wander with so many nodes and these commands, each of which is in reach.
pub record IsMoveScript (bytes : List ℕ) (nodes : ℕ) (commands : List Command) : Type 0 where
  pub rows : List Row
  pub script : IsScript move_kind bytes nodes rows
  pub meant : map command_of rows ≡ map (λ c. Some c) commands
  pub least : 1 ≤ nodes
  pub most : nodes ≤ 8
  pub reach : AreInReach commands

-- there is a command, and it is in reach
abbrev pub IsMeant : Option Command → Type 0
IsMeant None = ⊥
IsMeant (Some c) = IsInReach c

-- the row has a command, which is in reach
abbrev pub HasMeaning : Row → Type 0
HasMeaning r = IsMeant (command_of r)

-- The bytes spell a script with so many nodes, whose rows begin at these spots, and each row has a command.
pub record IsReadAs (bytes : List ℕ) (nodes : ℕ) (spots : List ℕ) : Type 0 where
  pub rows : List Row
  pub script : IsScript move_kind bytes nodes rows
  pub at : AreAt move_kind bytes nodes spots rows
  pub meaning : All HasMeaning rows
  pub least : 1 ≤ nodes
  pub most : nodes ≤ 8
