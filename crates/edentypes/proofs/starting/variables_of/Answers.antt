use Rattle.std.proofs.Common.{ap, ◌∙◌, map}
use Rattle.edentypes.specs.Forms.{slot_of_variable}
use Rattle.edentypes.proofs.Outlines.{slots_are}
use Rattle.edentypes.proofs.starting.variables_of.Goals as goal

pub returns : goal.returns
returns c = ap (map slot_of_variable) c.deref.ensures.value ∙ slots_are c.args.program.now.vars.items
