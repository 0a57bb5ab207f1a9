use Rattle.std.proofs.Common.{◌≡◌, ap, ◌∙◌}
use Rattle.epl_syntax.specs.Memory.{variables}
use Rattle.epl_syntax.specs.Tree.{type_tree}
use Rattle.epl_syntax.specs.Turns.{values_in}
use Rattle.epl_run.proofs.Turned.{turn_is, on_ok}
use Rattle.epl_run.proofs.process.turn.Goals as goal

pub returns : goal.returns
returns c =
    let t = type_tree c.args.program.now in
    let kept : c.keep_declared.new.vars ≡ values_in (variables t.vars c.go_on-came.new.vars.vars) =
    c.keep_declared.ensures ∙ ap (λ ds. values_in (variables t.vars ds)) c.swap-2.ensures.y_after in
    on_ok c.go_on-came.result (λ e came. turn_is t c.args.vars.now c.swap.new.x c.keep_declared.new.vars c.args.rest.now c.args.answer
    c.args.me c.go_on-came.new.vars c.go_on-came.new.frames.items e c.swap.ensures.x_after c.go_on-came.ensures.owner kept came)
    c.go_on-came.ensures.came
