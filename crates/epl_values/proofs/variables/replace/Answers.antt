use Rattle.std.proofs.Common.{sym, ap}
use Rattle.eden_value.specs.View.{datum}
use Rattle.epl_syntax.specs.declared.binding.Binding.TheVariants.{Parameter, Local, Variable}
use Rattle.epl_syntax.specs.Tree.{type_tree}
use Rattle.epl_values.proofs.Bindings.{right_at, value_found, set_at_param, set_at_local, set_at_var}
use Rattle.epl_values.proofs.variables.replace.Goals as goal

pub returns-in-Parameter-clause-memory : goal.returns-in-Parameter-clause-memory
returns-in-Parameter-clause-memory c =
    let p = c.args.program.now in
    let v = c.args.vars.now in
    let name = c.args.name.now in
    let at = c.from-in-Parameter.result in
    let right = right_at p v.owner name c.deref.result.now (Parameter c.in-Parameter.at) (Parameter at) c.requires c.deref.ensures.value
    c.in-Parameter.ensures (ap Parameter c.from-in-Parameter.ensures) in
    set_at_param (type_tree p) v name.text at (datum c.swap_in.result) (datum c.args.value) c.swap_in.new.values right
    c.swap_in.ensures.old c.swap_in.ensures.new

pub returns-in-Parameter-clause-before : goal.returns-in-Parameter-clause-before
returns-in-Parameter-clause-before c =
    let p = c.args.program.now in
    let v = c.args.vars.now in
    let name = c.args.name.now in
    let at = c.from-in-Parameter.result in
    let right = right_at p v.owner name c.deref.result.now (Parameter c.in-Parameter.at) (Parameter at) c.requires c.deref.ensures.value
    c.in-Parameter.ensures (ap Parameter c.from-in-Parameter.ensures) in
    sym (value_found (type_tree p) v name.text (Parameter at) (datum c.swap_in.result) right c.swap_in.ensures.old)

pub returns-in-Local-clause-memory : goal.returns-in-Local-clause-memory
returns-in-Local-clause-memory c =
    let p = c.args.program.now in
    let v = c.args.vars.now in
    let name = c.args.name.now in
    let at = c.from-in-Local.result in
    let right = right_at p v.owner name c.deref.result.now (Local c.in-Local.at) (Local at) c.requires c.deref.ensures.value
    c.in-Local.ensures (ap Local c.from-in-Local.ensures) in
    set_at_local (type_tree p) v name.text at (datum c.swap_in-in-Local.result) (datum c.args.value) c.swap_in-in-Local.new.values right
    c.swap_in-in-Local.ensures.old c.swap_in-in-Local.ensures.new

pub returns-in-Local-clause-before : goal.returns-in-Local-clause-before
returns-in-Local-clause-before c =
    let p = c.args.program.now in
    let v = c.args.vars.now in
    let name = c.args.name.now in
    let at = c.from-in-Local.result in
    let right = right_at p v.owner name c.deref.result.now (Local c.in-Local.at) (Local at) c.requires c.deref.ensures.value
    c.in-Local.ensures (ap Local c.from-in-Local.ensures) in
    sym (value_found (type_tree p) v name.text (Local at) (datum c.swap_in-in-Local.result) right c.swap_in-in-Local.ensures.old)

pub returns-in-Variable-clause-memory : goal.returns-in-Variable-clause-memory
returns-in-Variable-clause-memory c =
    let p = c.args.program.now in
    let v = c.args.vars.now in
    let name = c.args.name.now in
    let at = c.from-in-Variable.result in
    let right = right_at p v.owner name c.deref.result.now (Variable c.in-Variable.at) (Variable at) c.requires c.deref.ensures.value
    c.in-Variable.ensures (ap Variable c.from-in-Variable.ensures) in
    set_at_var (type_tree p) v name.text at (datum c.swap_in-in-Variable.result) (datum c.args.value) c.swap_in-in-Variable.new.values right
    c.swap_in-in-Variable.ensures.old c.swap_in-in-Variable.ensures.new

pub returns-in-Variable-clause-before : goal.returns-in-Variable-clause-before
returns-in-Variable-clause-before c =
    let p = c.args.program.now in
    let v = c.args.vars.now in
    let name = c.args.name.now in
    let at = c.from-in-Variable.result in
    let right = right_at p v.owner name c.deref.result.now (Variable c.in-Variable.at) (Variable at) c.requires c.deref.ensures.value
    c.in-Variable.ensures (ap Variable c.from-in-Variable.ensures) in
    sym (value_found (type_tree p) v name.text (Variable at) (datum c.swap_in-in-Variable.result) right c.swap_in-in-Variable.ensures.old)
