use Rattle.std.proofs.Common.{◌≡◌, ◌∙◌, length, arith}
use Rattle.epl_syntax.specs.Tree.{type_tree}
use Rattle.epl_values.specs.Variables.{memory}
use Rattle.epl_run.proofs.Replies.{all_fit}
use Rattle.epl_run.proofs.answer.are_fit.Goals as goal

pub returns : goal.returns
returns c =
    let size : c.len.result ≡ length c.results.inside.values.items = omega (arith, c.len.ensures, c.results.inside.values.ok) in
    all_fit c.results.inside.values.items c.args.results.now c.loop-name.next c.len.result
    (memory (type_tree c.args.program.now) c.args.vars.now) c.args.gives.now c.loop-name.name-index c.results.view_is size
    c.loop-name-test.false
    ∙ c.loop-name.invariant.so_far
