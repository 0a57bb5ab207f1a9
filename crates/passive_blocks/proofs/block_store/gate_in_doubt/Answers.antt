use Rattle.std.proofs.Common.{sym, ap, ◌∙◌}
use Rattle.block_tables.specs.Changes.{first_or_zero}
use Rattle.passive_blocks.specs.StageState.{gate_of}
use Rattle.passive_blocks.proofs.StageFirst.{first_is}
use Rattle.passive_blocks.proofs.StageOrder.{no_members}
use Rattle.passive_blocks.proofs.block_store.gate_in_doubt.Goals as goal

pub returns-in-Some : goal.returns-in-Some
returns-in-Some c =
    first_is c.args.table.now c.in-Some.number c.in-Some.ensures ∙ sym (ap (gate_of c.args.table.now c.args.pending.now) c.in-Close.is)

pub returns-in-None : goal.returns-in-None
returns-in-None c =
    sym (ap first_or_zero (no_members c.args.table.now c.in-None.ensures))
    ∙ sym (ap (gate_of c.args.table.now c.args.pending.now) c.in-Close.is)
