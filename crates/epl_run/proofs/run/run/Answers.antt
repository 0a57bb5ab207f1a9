use Rattle.std.proofs.Common.{◌≡◌, [], rules}
use Rattle.epl_syntax.specs.Tree.{type_tree}
use Rattle.epl_run.specs.Blocks.{steps_of}
use Rattle.epl_run.proofs.Frames.{over}
use Rattle.epl_run.proofs.run.run.Goals as goal

pub returns-clause-came : goal.returns-clause-came
returns-clause-came c =
    let none : c.pop.new.self.items ≡ [] = search rules in
    let all : c.loop-frame.frames.items ≡ [] = search rules in
    over c.loop-frame.left (type_tree c.args.program.now) c.args.returns (steps_of c.args.body.now) c.loop-frame.frames.items
    c.pop.new.self.items c.loop-frame.vars c.end.result _ all none c.end.ensures c.loop-frame.invariant.so_far
