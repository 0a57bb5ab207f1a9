use Rattle.epl_check.proofs.Items.{names_told}
use Rattle.epl_check.proofs.item.check_names.Goals as goal

pub returns : goal.returns
returns c =
    names_told c.args.vars.items.now c.args.params.now c.args.locals.now c.args.first.now c.check_doubled.new.first
    c.check_doubled-2.new.first c.check_as_variables.new.first c.check_as_variables-2.new.first
    c.check_doubled.ensures c.check_doubled-2.ensures c.check_as_variables.ensures c.check_as_variables-2.ensures
