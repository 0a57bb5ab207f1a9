use Rattle.eden_value.specs.Datum.{number}
use Rattle.std.proofs.Common.{pos}
use Rattle.eden_value.specs.View.{datum}
use Rattle.epl_syntax.specs.Tree.{type_tree}
use Rattle.epl_values.specs.Variables.{memory}
use Rattle.epl_values.proofs.Growth.{grown}
use Rattle.epl_values.proofs.assignment.put_behind.Goals as goal

pub returns-in-Ok-clause-moves : goal.returns-in-Ok-clause-moves
returns-in-Ok-clause-moves c =
    let t = type_tree c.args.program.now in
    grown (memory t c.args.vars.now) (memory t c.replace.new.vars) (memory t c.set.new.vars) c.args.name.now.text (number (pos 0))
    (datum c.in-Some.left) (datum c.args.right) (datum c.in-Ok.longer) c.in-Some.ensures.before c.in-Some.ensures.memory c.in-Ok.ensures
    c.set.ensures.memory
