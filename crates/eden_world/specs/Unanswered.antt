-- The shell's calls that are still open.
use Rattle.std.specs.Prelude.{ℕ, cond, List, Option, None}
use Rattle.std.specs.List.{filter_map}
use Rattle.eden_model.specs.Traffic.{shell_name}
use Rattle.invocation.specs.declared.call.Call.{Call}

-- the name under which the shell asked the call, if it is open
abbrev pub open_name : Call → Option (List ℕ)
open_name c = cond c.closed None (shell_name c.asker)

-- of all calls, in their order
abbrev pub open_names : List Call → List (List ℕ)
open_names cs = filter_map open_name cs
