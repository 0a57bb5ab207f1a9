use Rattle.std.proofs.Common.{◌+◌, ◌<◌, arith}
use Rattle.std.proofs.lemmas.Result.{err_from_is_err_and}
use Rattle.eden_disk.proofs.Held.{calls_none, calls_more, obeyed_none, obeyed_more}
use Rattle.eden_disk.proofs.Timed.{timed_join}
use Rattle.passive_store.proofs.Joining.{timed_still}
use Rattle.block_tables.specs.Blocks.{blocks_of}
use Rattle.passive_blocks.proofs.Parts.{none_read, more_read, all_read, next_on}
use Rattle.passive_blocks.proofs.values.read_parts.Goals as goal

pub loop-init : goal.loop-init
loop-init g c = none_read g.D.Disk.tells g.D.Disk.obeys (g.D.Disk.told c.args.disk.now) (g.D.Disk.counts c.args.disk.now)
    (g.D.Disk.due c.args.disk.now) c.args.table.now.next.items c.args.value c.args.bytes.now.items (calls_none _ c.requires.power)
    (obeyed_none _ _) c.requires.long

pub read_part-requires-clause-range : goal.read_part-requires-clause-range
read_part-requires-clause-range g c =
    let on = next_on _ _ _ _ _ _ _ _ _ _ _ _ _ _ _ c.loop.invariant (omega (arith, c.loop-test.true, c.blocks_of-end.ensures))
    c.requires.blocks.sized c.requires.chain in
    omega (arith, on.0, c.requires.size, c.loop.invariant.counts.size)

pub read_part-requires-clause-few : goal.read_part-requires-clause-few
read_part-requires-clause-few g c =
    (next_on _ _ _ _ _ _ _ _ _ _ _ _ _ _ _ c.loop.invariant (omega (arith, c.loop-test.true, c.blocks_of-end.ensures))
    c.requires.blocks.sized c.requires.chain).1

pub next-block-requires-clause-block : goal.next-block-requires-clause-block
next-block-requires-clause-block g c =
    (next_on _ _ _ _ _ _ _ _ _ _ _ _ _ _ _ c.loop.invariant (omega (arith, c.loop-test.true, c.blocks_of-end.ensures))
    c.requires.blocks.sized c.requires.chain).0

pub loop-preserved : goal.loop-preserved
loop-preserved g c =
    let e = c.in_ok-read_part.ensures in
    more_read g.D.Disk.tells g.D.Disk.obeys (g.D.Disk.told c.args.disk.now) (g.D.Disk.told c.loop.disk) (g.D.Disk.told c.read_part.new.disk)
    (g.D.Disk.counts c.args.disk.now) (g.D.Disk.counts c.loop.disk) (g.D.Disk.counts c.read_part.new.disk) (g.D.Disk.due c.args.disk.now)
    (g.D.Disk.due c.loop.disk) (g.D.Disk.due c.read_part.new.disk) c.args.table.now.next.items c.args.value c.loop.bytes.items
    c.read_part.new.bytes.items c.loop.block c.next-block.result c.loop.from c.min-to.result c.loop.counter c.args.table.now.size
    c.loop.invariant
    (omega (arith, c.loop-test.true, c.blocks_of-end.ensures)) c.requires.size c.requires.chain e.counts e.obeyed e.told e.long
    c.next-block.ensures.next (omega (arith, c.loop.invariant.long)) e.part

pub returns-in_err-read_part-clause-ran : goal.returns-in_err-read_part-clause-ran
returns-in_err-read_part-clause-ran g c =
    let p = err_from_is_err_and c.from_residual.result c.from_residual.ensures.1 in
    let inv = c.loop.invariant in
    let less : c.loop.counter < blocks_of c.args.value.size = omega (arith, c.loop-test.true, c.blocks_of-end.ensures) in
    rw (p.1, p.2) (record {
      made = c.loop.counter + 1;
      number = (omega arith, omega (arith, less));
      counts = calls_more c.loop.counter 1 _ _ _ _ inv.counts c.in_err-read_part.ensures.counts;
    })

pub returns-in_err-read_part-clause-obeyed : goal.returns-in_err-read_part-clause-obeyed
returns-in_err-read_part-clause-obeyed g c =
    let p = err_from_is_err_and c.from_residual.result c.from_residual.ensures.1 in
    let inv = c.loop.invariant in
    rw (p.1, p.2) (λ so. obeyed_more c.loop.counter 1 _ _ _ _ _ _ _ inv.counts c.in_err-read_part.ensures.counts (inv.obeyed so)
    (c.in_err-read_part.ensures.obeyed so))

pub returns-in_err-read_part-clause-timed : goal.returns-in_err-read_part-clause-timed
returns-in_err-read_part-clause-timed g c = λ tells.
    let inv = c.loop.invariant in
    timed_join _ _ _ _ _ _ (timed_still _ _ _ _ (omega (arith, inv.counts.clock)) (inv.same tells)) (c.in_err-read_part.ensures.timed tells)

pub returns-clause-ran : goal.returns-clause-ran
returns-clause-ran g c = record {
  made = c.loop.counter;
  number = omega (arith, c.blocks_of-end.ensures);
  counts = c.loop.invariant.counts;
}

pub returns-clause-timed : goal.returns-clause-timed
returns-clause-timed g c = λ tells. timed_still _ _ _ _ (omega (arith, c.loop.invariant.counts.clock)) (c.loop.invariant.same tells)

pub returns-clause-body : goal.returns-clause-body
returns-clause-body g c = λ tells whole.
    all_read _ _ _ _ _ _ _ _ _ c.args.value _ _ _ _ c.loop.invariant (omega (arith, c.blocks_of-end.ensures)) tells whole
