-- The numbers of a fit command name none but the eight nodes.
use Rattle.std.proofs.Common.{ℕ, ◌≤◌, arith}
use Rattle.std.specs.List.{All}
use Rattle.std.proofs.lemmas.List.Elements.{All-weaker}
use Rattle.epl_syntax.specs.Rules.OfTypes.{names_of}
use Rattle.journal.specs.Fit.{IsFit, IsFitCommand, NumbersFit}
use Rattle.journal.specs.declared.command.Script.{Script}
use Rattle.journal.specs.declared.command.Command.{Command}
use Rattle.journal.specs.declared.command.Command.TheVariants as command

pub numbers-eight : (nodes : ℕ) (c : Command) → nodes ≤ 8 → NumbersFit nodes c → NumbersFit 8 c
numbers-eight nodes (command.Create name n type_name) few fit = (fit.0, omega (arith, few, fit.1))
numbers-eight nodes (command.Hold name uid) few fit = ((fit.0.0, omega (arith, few, fit.0.1)), fit.1, fit.2)
numbers-eight nodes (command.Call name target operation args) few fit = fit
numbers-eight nodes (command.Restrict name target mask) few fit = fit
numbers-eight nodes (command.Walk name target path) few fit = fit
numbers-eight nodes (command.Turn i) few fit = fit
numbers-eight nodes (command.Go n) few fit = fit
numbers-eight nodes (command.Crash n mode) few fit = ((fit.0.0, omega (arith, few, fit.0.1)), fit.1)
numbers-eight nodes (command.Restart n) few fit = (fit.0, omega (arith, few, fit.1))
numbers-eight nodes (command.Cut a b) few fit = (omega (arith, few, fit.0), omega (arith, few, fit.1))
numbers-eight nodes (command.Join a b) few fit = (omega (arith, few, fit.0), omega (arith, few, fit.1))
numbers-eight nodes (command.Fail n after) few fit = ((fit.0.0, omega (arith, few, fit.0.1)), fit.1)
numbers-eight nodes (command.Stop n after mode) few fit = ((fit.0.0, omega (arith, few, fit.0.1)), fit.1, fit.2)
numbers-eight nodes command.End few fit = fit

-- So it is of each command of a fit script.
pub numbers-of : (script : Script) → IsFit script → All (NumbersFit 8) script.commands
numbers-of script fit = All-weaker (IsFitCommand (names_of script.types) script.nodes) (NumbersFit 8)
    (λ c h. numbers-eight script.nodes c fit.nodes.1 h.numbers) script.commands fit.commands
