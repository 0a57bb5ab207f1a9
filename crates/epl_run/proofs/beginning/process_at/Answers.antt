use Rattle.std.proofs.Common.{◌≡◌, Some, map, ap, sym, ◌∙◌}
use Rattle.std.proofs.lemmas.Result.{IfOk-weaker}
use Rattle.std.specs.Option.{option_map}
use Rattle.epl_syntax.specs.Tree.{local_of}
use Rattle.epl_syntax.specs.Turns.{Left, process_left}
use Rattle.epl_run.specs.Begins.{local_starts}
use Rattle.epl_run.proofs.BeginLaws.{process_is, process_at}
use Rattle.epl_run.proofs.beginning.process_at.Goals as goal

pub returns : goal.returns
returns c =
    let p = c.args.program.now in
    let there = process_at p.processes.items c.args.at c.index.result.now c.requires c.index.ensures in
    let starts : c.in_ok-locals.locals ≡ local_starts (map local_of c.index.result.now.locals.items) =
    c.in_ok-locals.ensures ∙ ap (λ vs. local_starts (map local_of vs)) c.deref.ensures.value in
    IfOk-weaker c.whole.result _ _ (λ r h. ap (λ (l : Left). Some l) (process_is p c.args.at c.index.result.now c.in_ok-params.params
    c.in_ok-locals.locals r there starts h) ∙ sym (ap (option_map process_left) there)) c.whole.ensures
