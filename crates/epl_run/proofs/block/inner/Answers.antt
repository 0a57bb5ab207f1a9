use Rattle.std.proofs.Common.{◌≡◌, ◌<◌, ◌≤◌, Some, ap, refl, sym, ◌∙◌, length, get_or, rules}
use Rattle.std.specs.Prelude.{slice_get}
use Rattle.epl_run.proofs.Found.{one_of, there}
use Rattle.epl_run.proofs.Rows.{get_step, branch_none, inner_is}
use Rattle.epl_run.specs.Blocks.{steps_in}
use Rattle.epl_run.specs.Found.{each_in}
use Rattle.epl_syntax.specs.Bindings.{each_of_statement}
use Rattle.epl_syntax.specs.Statements.{does}
use Rattle.epl_syntax.specs.Tree.{type_tree, statement}
use Rattle.epl_run.proofs.block.inner.Goals as goal

pub returns-in-Some-clause-steps : goal.returns-in-Some-clause-steps
returns-in-Some-clause-steps c =
    let ss = c.args.block.statements.now in
    let s = c.in-Some.s.now in
    let within : c.args.at < length ss = search (rules, c.in-Some.ensures.lookup) in
    let at : s ≡ get_or ss c.args.at s = search (rules, c.in-Some.ensures.lookup) in
    c.branch_of.ensures.steps
    ∙ inner_is (type_tree c.args.program.now) c.args.branch (steps_in c.args.block) c.args.at (Some (does (statement s)))
    (get_step ss c.args.block.leaves c.args.at s within at) c.in_default.not-Whole

pub returns-in-Some-clause-each : goal.returns-in-Some-clause-each
returns-in-Some-clause-each c test h =
    let ss = c.args.block.statements.now in
    let within : c.args.at < length ss = search (rules, c.in-Some.ensures.lookup) in
    let at : c.in-Some.s.now ≡ get_or ss c.args.at c.in-Some.s.now = search (rules, c.in-Some.ensures.lookup) in
    c.branch_of.ensures.each test
    (one_of (λ s. each_of_statement test (statement s)) ss c.args.at c.in-Some.s.now h (there ss c.args.at c.in-Some.s.now within at))

pub returns-in-None-clause-steps : goal.returns-in-None-clause-steps
returns-in-None-clause-steps c =
    let t = type_tree c.args.program.now in
    let ss = c.args.block.statements.now in
    let block = steps_in c.args.block in
    let past : length ss ≤ c.args.at = search (rules, c.in-None.ensures.lookup) in
    c.of.ensures.steps ∙ sym (branch_none t c.args.branch ss c.args.block.leaves c.args.at past)
    ∙ inner_is t c.args.branch block c.args.at (slice_get block c.args.at) refl c.in_default.not-Whole

pub returns-in-None-clause-each : goal.returns-in-None-clause-each
returns-in-None-clause-each c test h = ap (each_in test) c.of.ensures.statements
