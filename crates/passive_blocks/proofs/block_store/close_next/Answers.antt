use Rattle.std.proofs.Common.{sym, subst, Some}
use Rattle.passive_blocks.specs.HeldState.{IsHeld}
use Rattle.passive_blocks.proofs.HeldClosing.{held_when_closed}
use Rattle.passive_blocks.proofs.HeldMaking.{held_by_counts}
use Rattle.passive_blocks.proofs.block_store.close_next.Goals as goal

pub returns-in-Some-clause-held : goal.returns-in-Some-clause-held
returns-in-Some-clause-held g c =
    let old = g.D.Disk.counts c.args.disk.now in
    let new = g.D.Disk.counts c.write_gate.new.disk in
    subst (λ n. IsHeld n new (record { heads = c.close_head.new.self; blocks = c.args.table.now.blocks }) (Some c.args.pending.now))
    (sym c.in_ok-write_gate.ensures.counts.size)
    (held_by_counts old.size old new (record { heads = c.close_head.new.self; blocks = c.args.table.now.blocks }) (Some c.args.pending.now)
    (held_when_closed old.size old c.args.table.now c.close_head.new.self (Some c.args.pending.now) c.args.number c.requires.held
    c.requires.first.1 c.close_head.ensures.heads c.close_head.ensures.slots c.close_head.ensures.closing c.close_head.ensures.lone
    c.close_head.ensures.keys)
    c.in_ok-write_gate.ensures.counts.size)

pub returns-in-None-clause-held : goal.returns-in-None-clause-held
returns-in-None-clause-held g c =
    let old = g.D.Disk.counts c.args.disk.now in
    let new = g.D.Disk.counts c.write_gate.new.disk in
    subst (λ n. IsHeld n new (record { heads = c.close_head.new.self; blocks = c.args.table.now.blocks }) (Some c.args.pending.now))
    (sym c.in_ok-write_gate.ensures.counts.size)
    (held_by_counts old.size old new (record { heads = c.close_head.new.self; blocks = c.args.table.now.blocks }) (Some c.args.pending.now)
    (held_when_closed old.size old c.args.table.now c.close_head.new.self (Some c.args.pending.now) c.args.number c.requires.held
    c.requires.first.1 c.close_head.ensures.heads c.close_head.ensures.slots c.close_head.ensures.closing c.close_head.ensures.lone
    c.close_head.ensures.keys)
    c.in_ok-write_gate.ensures.counts.size)
