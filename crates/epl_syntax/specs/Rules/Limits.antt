-- What of a declared type is few enough to be numbered by a byte; its version fits two.
use Rattle.std.specs.Prelude.{◌≤◌, length}
use Rattle.std.specs.List.{All}
use Rattle.epl_syntax.specs.declared.tree.Program.{Program}
use Rattle.epl_syntax.specs.Rules.InItems.{version_number}

-- A type that keeps the rules has at most so much of each, and each of its conditions is of one of its monitors, which are
-- counted from 1.
pub record IsWithinLimits (t : Program) : Type 0 where
  -- the number of its version
  pub version : version_number t.version ≤ 65535
  -- its classes
  pub classes : length t.classes.items ≤ 16
  -- how many operations of a class run at a time
  pub class_limits : All (λ c. c.limit.n ≤ 16) t.classes.items
  -- its monitors
  pub monitors : length t.monitors.items ≤ 8
  -- its conditions
  pub conditions : length t.conditions.items ≤ 32
  -- the monitor of each condition
  pub in_monitors : All (λ c. (1 ≤ c.monitor) × (c.monitor ≤ length t.monitors.items)) t.conditions.items
  -- its processes
  pub processes : length t.processes.items ≤ 8
