use Rattle.std.proofs.Common.{◌++◌, ap, ◌∙◌, map}
use Rattle.epl_syntax.specs.Tree.{operation, process}
use Rattle.epl_syntax.specs.Rules.First.{least}
use Rattle.epl_syntax.specs.Rules.Scopes.{doubled}
use Rattle.epl_syntax.specs.Rules.InItems.{names_of_operations, names_of_processes}
use Rattle.epl_check.proofs.Doubled.{three_told}
use Rattle.epl_check.proofs.Items.{operations_named, processes_named, map_same}
use Rattle.epl_check.proofs.checker.check_great_names.Goals as goal

pub returns : goal.returns
returns c =
    let o = c.args.first.now in
    let p = c.args.program.now in
    let os = c.as_slice-operations.result.now in
    let ps = c.as_slice-processes.result.now in
    let ms = map (λ m. m) c.as_slice-monitors.result.now in
    three_told o c.check_doubled.new.first c.check_doubled-2.new.first c.check_doubled-3.new.first (map (λ v. v.name) os)
    (map (λ k. k.name) ps) ms c.check_doubled.ensures c.check_doubled-2.ensures c.check_doubled-3.ensures
    ∙ ap (λ l. least o (doubled (map (λ v. v.name) l ++ map (λ k. k.name) ps ++ ms))) c.as_slice-operations.ensures.value
    ∙ ap (λ l. least o (doubled (l ++ map (λ k. k.name) ps ++ ms))) (operations_named p.operations.items)
    ∙ ap (λ l. least o (doubled (names_of_operations (map operation p.operations.items) ++ map (λ k. k.name) l ++ ms)))
    c.as_slice-processes.ensures.value
    ∙ ap (λ l. least o (doubled (names_of_operations (map operation p.operations.items) ++ l ++ ms))) (processes_named p.processes.items)
    ∙ ap (λ l. least o (doubled (names_of_operations (map operation p.operations.items) ++ names_of_processes
    (map process p.processes.items) ++ l))) (map_same c.as_slice-monitors.result.now ∙ c.as_slice-monitors.ensures.value)
