use Rattle.std.proofs.Common.{◌++◌, ap, ◌∙◌, map, List}
use Rattle.epl_syntax.specs.Tree.{variable, operation, process}
use Rattle.epl_syntax.specs.declared.rule.Broken.{Broken}
use Rattle.epl_syntax.specs.Rules.First.{least}
use Rattle.epl_syntax.specs.Rules.InItems.{too_many, places_of, names_of_vars, names_of_operations, names_of_processes}
use Rattle.epl_check.proofs.Items.{joined, map_same}
use Rattle.epl_check.proofs.checker.check_counts.Goals as goal

pub returns : goal.returns
returns c =
    let p = c.args.program.now in
    let o = c.args.first.now in
    let o1 = c.check_var_count.new.first in
    let o2 = c.check_count.new.first in
    let o3 = c.check_count-2.new.first in
    let o4 = c.check_count-3.new.first in
    let o5 = c.check_operation_count.new.first in
    let a1 : List Broken = too_many 64 (places_of (names_of_vars (map variable p.vars.items))) in
    let a2 : List Broken = too_many 16 (places_of (map (λ k. k.name) p.classes.items)) in
    let a3 : List Broken = too_many 8 (places_of p.monitors.items) in
    let a4 : List Broken = too_many 32 (places_of (map (λ k. k.name) p.conditions.items)) in
    let a5 : List Broken = too_many 32 (places_of (names_of_operations (map operation p.operations.items))) in
    let a6 : List Broken = too_many 8 (places_of (names_of_processes (map process p.processes.items))) in
    let h1 =
    c.check_var_count.ensures ∙ ap (λ l. least o (too_many 64 (places_of (names_of_vars (map variable l))))) c.deref.ensures.value in
    let h2 = c.check_count.ensures ∙ ap (λ l. least o1 (too_many 16 (places_of (map (λ k. k.name) l)))) c.deref-2.ensures.value in
    let h3 =
    c.check_count-2.ensures ∙ ap (λ l. least o2 (too_many 8 (places_of l))) (map_same c.deref-3.result.now ∙ c.deref-3.ensures.value) in
    let h4 = c.check_count-3.ensures ∙ ap (λ l. least o3 (too_many 32 (places_of (map (λ k. k.name) l)))) c.deref-4.ensures.value in
    let h5 =
    c.check_operation_count.ensures ∙ ap (λ l. least o4 (too_many 32 (places_of (names_of_operations (map operation l)))))
    c.deref-5.ensures.value in
    let h6 =
    c.check_process_count.ensures ∙ ap (λ l. least o5 (too_many 8 (places_of (names_of_processes (map process l))))) c.deref-6.ensures.value
    in
    joined o o5 c.check_process_count.new.first (a1 ++ a2 ++ a3 ++ a4 ++ a5) a6
    (joined o o4 o5 (a1 ++ a2 ++ a3 ++ a4) a5 (joined o o3 o4 (a1 ++ a2 ++ a3) a4
    (joined o o2 o3 (a1 ++ a2) a3 (joined o o1 o2 a1 a2 h1 h2) h3) h4) h5) h6
