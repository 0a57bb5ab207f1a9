use Rattle.std.proofs.Common.{◌≡◌, rules}
use Rattle.epl_syntax.specs.Tree.{If, While, With, expression, statement, statements}
use Rattle.epl_syntax.specs.declared.tree.Stmt.TheViews.{the_lemmas}
use Rattle.epl_syntax.proofs.TreeRows.{statement_items}
use Rattle.epl_run.proofs.Found.{so_each, otherwise_each, body_each, held_each, held_name}
use Rattle.epl_run.proofs.Rows.{row_steps, append_none}
use Rattle.epl_values.specs.Variables.{is_found}
use Rattle.epl_run.proofs.block.branch_of.Goals as goal

pub returns-in-So-clause-steps : goal.returns-in-So-clause-steps
returns-in-So-clause-steps c = search (rules, the_lemmas, row_steps, append_none)

pub returns-in-So-clause-each : goal.returns-in-So-clause-each
returns-in-So-clause-each c test h =
    let s = statement c.args.s.now in
    let so = c.in-If.so.items in
    let otherwise = c.in-If.otherwise.items in
    let is : s ≡ If (expression c.in-If.test) (statements so) (statements otherwise) c.in-If.place =
    search (rules, the_lemmas, statement_items) in
    so_each test s (expression c.in-If.test) so c.of.result.statements.now c.in-If.place otherwise is (search rules) h

pub returns-in-Otherwise-clause-steps : goal.returns-in-Otherwise-clause-steps
returns-in-Otherwise-clause-steps c = search (rules, the_lemmas, row_steps, append_none)

pub returns-in-Otherwise-clause-each : goal.returns-in-Otherwise-clause-each
returns-in-Otherwise-clause-each c test h =
    let s = statement c.args.s.now in
    let so = c.in-If.so.items in
    let otherwise = c.in-If.otherwise.items in
    let is : s ≡ If (expression c.in-If.test) (statements so) (statements otherwise) c.in-If.place =
    search (rules, the_lemmas, statement_items) in
    otherwise_each test s (expression c.in-If.test) otherwise c.of-in-Otherwise.result.statements.now c.in-If.place so is (search rules) h

pub returns-in-Body-clause-steps : goal.returns-in-Body-clause-steps
returns-in-Body-clause-steps c = search (rules, the_lemmas, row_steps, append_none)

pub returns-in-Body-clause-each : goal.returns-in-Body-clause-each
returns-in-Body-clause-each c test h =
    let s = statement c.args.s.now in
    let body = c.in-While.body.items in
    let is : s ≡ While (expression c.in-While.test) (statements body) c.in-While.place = search (rules, the_lemmas, statement_items) in
    body_each test s (expression c.in-While.test) body c.of-in-Body.result.statements.now c.in-While.place is (search rules) h

pub returns-in-Held-clause-steps : goal.returns-in-Held-clause-steps
returns-in-Held-clause-steps c = search (rules, the_lemmas, row_steps)

pub returns-in-Held-clause-each : goal.returns-in-Held-clause-each
returns-in-Held-clause-each c test h =
    let s = statement c.args.s.now in
    let body = c.in-With.body.items in
    let is : s ≡ With c.in-With.monitor (statements body) c.in-With.place = search (rules, the_lemmas, statement_items) in
    held_each test s c.in-With.monitor body c.in-With.place is h c.deref-in-Held.result.now (search rules)

pub monitor_number-requires-clause-found : goal.monitor_number-requires-clause-found
monitor_number-requires-clause-found c =
    let s = statement c.args.s.now in
    let body = c.in-With.body.items in
    let is : s ≡ With c.in-With.monitor (statements body) c.in-With.place = search (rules, the_lemmas, statement_items) in (
      c.requires.found.0,
      held_name (is_found c.args.program.now c.requires.found.0) s c.in-With.monitor body c.in-With.place is
          c.requires.found.1,
    )
