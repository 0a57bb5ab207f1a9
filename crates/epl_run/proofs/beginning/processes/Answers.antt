use Rattle.std.proofs.Common.{map, ap, ◌∙◌}
use Rattle.epl_syntax.specs.Tree.{type_tree}
use Rattle.epl_run.specs.Blocks.{left_of}
use Rattle.epl_run.proofs.BeginLaws.{one_more}
use Rattle.epl_run.proofs.beginning.processes.Goals as goal

pub loop-at-preserved : goal.loop-at-preserved
loop-at-preserved c =
    let t = type_tree c.args.program.now in
    ap (map (left_of t)) c.in_ok-push.ensures.items
    ∙ one_more (left_of t) c.loop-at.begun.items c.in_ok-process_at.field-0 t.processes c.loop-at.at c.loop-at.invariant
    c.in_ok-process_at.ensures
