-- What the bytes of a script say, and where its rows begin.
use Rattle.std.specs.Prelude.{◌≡◌, ℕ, List, [], ◌∷◌, map, Option, Some, None}
use Rattle.std.specs.List.{All}
use Rattle.line_forms.specs.Forms.{Row}
use Rattle.line_forms.specs.Scripts.{IsScript}
use Rattle.line_forms.specs.Spots.{AreAt}
use Rattle.twin_world.specs.Commands.{Command, twin_kind, command_of, IsInReach}
use Rattle.twin_world.specs.Logs.{Entry}

-- the commands of entries
abbrev pub commands_of : List Entry → List Command
commands_of es = map (λ e. e.command) es

-- all of these commands are in reach
abbrev pub AreInReach : List Command → Type 0
AreInReach [] = Unit {0}
AreInReach (c ∷ cs) = IsInReach c × AreInReach cs

-- The bytes spell a script of pairs of disks with these commands, each of which is in reach.
pub record IsTwinScript (bytes : List ℕ) (commands : List Command) : Type 0 where
  pub most : ℕ
  pub rows : List Row
  pub script : IsScript twin_kind bytes most rows
  pub meant : map command_of rows ≡ map (λ c. Some c) commands
  pub reach : AreInReach commands

-- there is a command, and it is in reach
abbrev pub IsMeant : Option Command → Type 0
IsMeant None = ⊥
IsMeant (Some c) = IsInReach c

-- the row has a command, which is in reach
abbrev pub HasMeaning : Row → Type 0
HasMeaning r = IsMeant (command_of r)

-- The bytes spell a script whose rows begin at these spots, and each row has a command.
pub record IsReadAs (bytes : List ℕ) (most : ℕ) (spots : List ℕ) : Type 0 where
  pub rows : List Row
  pub script : IsScript twin_kind bytes most rows
  pub at : AreAt twin_kind bytes most spots rows
  pub meaning : All HasMeaning rows
