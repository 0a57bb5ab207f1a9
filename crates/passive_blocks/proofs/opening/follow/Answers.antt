use Rattle.std.proofs.Common.{◌≡◌, ◌+◌, ◌<◌, ◌/◌, true, false, sym, ◌∙◌, arith}
use Rattle.std.proofs.lemmas.Result.{err_from_is_err_and}
use Rattle.eden_disk.proofs.Held.{calls_none, calls_more, obeyed_none, obeyed_more}
use Rattle.passive_store.proofs.Joining.{timed_still}
use Rattle.block_tables.specs.Members.{is_member}
use Rattle.block_tables.specs.Blocks.{blocks_of}
use Rattle.block_tables.proofs.Walks.{on_disk}
use Rattle.passive_blocks.proofs.OpeningReads.{timed_behind}
use Rattle.passive_blocks.proofs.OpeningChains.{none_followed, one_followed, stopped_at, stopped, ended_at, ended}
use Rattle.passive_blocks.proofs.OpeningRead.{size_parts}
use Rattle.passive_blocks.proofs.opening.follow.Goals as goal

pub loop-init : goal.loop-init
loop-init g c = none_followed g.D.Disk.tells g.D.Disk.obeys (g.D.Disk.told c.args.disk.now) (g.D.Disk.counts c.args.disk.now)
    (g.D.Disk.due c.args.disk.now) c.args.table.now c.args.value (calls_none _ c.requires.power) (obeyed_none _ _) c.requires.blocks

pub take_block-requires : goal.take_block-requires
take_block-requires g c = c.loop.invariant.are.blocks

pub returns-in_err-next-clause-ran : goal.returns-in_err-next-clause-ran
returns-in_err-next-clause-ran g c =
    let p = err_from_is_err_and c.from_residual.result c.from_residual.ensures.1 in
    let inv = c.loop.invariant in
    rw (p.1, p.2) (
      c.loop.counter + 1,
      (calls_more c.loop.counter 1 _ _ _ _ inv.counts c.in_err-next.ensures.counts, omega arith, tt, λ tells. tt),
    )

pub returns-in_err-next-clause-obeyed : goal.returns-in_err-next-clause-obeyed
returns-in_err-next-clause-obeyed g c =
    let p = err_from_is_err_and c.from_residual.result c.from_residual.ensures.1 in
    let inv = c.loop.invariant in
    rw (p.1, p.2) (λ so. obeyed_more c.loop.counter 1 _ _ _ _ _ _ _ inv.counts c.in_err-next.ensures.counts (inv.obeyed so)
    (c.in_err-next.ensures.obeyed so))

pub returns-in_err-next-clause-timed : goal.returns-in_err-next-clause-timed
returns-in_err-next-clause-timed g c = λ tells.
    timed_behind c.loop.counter _ _ _ _ _ _ c.loop.invariant.counts (c.loop.invariant.same tells) (c.in_err-next.ensures.timed tells)

pub returns-clause-ran : goal.returns-clause-ran
returns-clause-ran g c =
    let inv = c.loop.invariant in
    let all : c.loop.counter ≡ blocks_of c.args.value.size = omega (arith, c.blocks_of-end.ensures) in (
      c.loop.counter,
      (
        inv.counts,
        tt,
        ended _ _ _ _ _ _ _ _ c.args.table.now c.loop.table c.args.value c.loop.block c.loop.counter inv all,
        λ tells. ended_at _ _ _ _ _ _ _ _ c.args.table.now c.loop.table c.args.value c.loop.block c.loop.counter inv (omega
            (arith, all)) tells,
      ),
    )

pub returns-clause-timed : goal.returns-clause-timed
returns-clause-timed g c = λ tells. timed_still _ _ _ _ (omega (arith, c.loop.invariant.counts.clock)) (c.loop.invariant.same tells)

pub returns-then-not-take_block-clause-ran : goal.returns-then-not-take_block-clause-ran
returns-then-not-take_block-clause-ran g c =
    let inv = c.loop.invariant in
    let is : is_member c.loop.table.free c.loop.block ≡ false = sym c.take_block.ensures.taken ∙ c.if-not-take_block.true in (
      c.loop.counter,
      (
        inv.counts,
        tt,
        stopped c.args.table.now c.take_block.new.self c.args.value c.loop.counter inv.taken inv.long (c.take_block.ensures.needed
            ∙ inv.needed),
        λ tells. stopped_at _ _ _ _ _ _ _ _ c.args.table.now c.loop.table c.take_block.new.self c.args.value c.loop.block c.loop.counter inv
            (omega (arith, c.loop-test.true, c.blocks_of-end.ensures)) is c.take_block.ensures.next tells,
      ),
    )

pub returns-then-not-take_block-clause-timed : goal.returns-then-not-take_block-clause-timed
returns-then-not-take_block-clause-timed g c = λ tells. timed_still _ _ _ _ (omega (arith, c.loop.invariant.counts.clock))
    (c.loop.invariant.same tells)

pub read_next-requires-clause-range : goal.read_next-requires-clause-range
read_next-requires-clause-range g c =
    let inv = c.loop.invariant in
    let is : is_member c.loop.table.free c.loop.block ≡ true = sym c.take_block.ensures.taken ∙ c.if-not-take_block.false in
    let on : c.loop.block < c.loop.table.size / 1024 = on_disk c.loop.table.size c.loop.block (inv.are.blocks.inside c.loop.block is) in
    omega (arith, on, inv.are.size, c.requires.size, inv.counts.size)

pub read_next-requires-clause-few : goal.read_next-requires-clause-few
read_next-requires-clause-few g c =
    let inv = c.loop.invariant in
    let is : is_member c.loop.table.free c.loop.block ≡ true = sym c.take_block.ensures.taken ∙ c.if-not-take_block.false in
    let on : c.loop.block < c.loop.table.size / 1024 = on_disk c.loop.table.size c.loop.block (inv.are.blocks.inside c.loop.block is) in
    omega (arith, on, (size_parts c.loop.table.size inv.are.blocks.sized).1)

pub link-requires-clause-block : goal.link-requires-clause-block
link-requires-clause-block g c =
    let inv = c.loop.invariant in
    let is : is_member c.loop.table.free c.loop.block ≡ true = sym c.take_block.ensures.taken ∙ c.if-not-take_block.false in
    let on : c.loop.block < c.loop.table.size / 1024 = on_disk c.loop.table.size c.loop.block (inv.are.blocks.inside c.loop.block is) in
    omega (arith, on, c.take_block.ensures.size)

pub loop-preserved : goal.loop-preserved
loop-preserved g c =
    let inv = c.loop.invariant in
    let t = c.take_block.ensures in
    let l = c.link.ensures in
    let e = c.in_ok-next.ensures in
    let is : is_member c.loop.table.free c.loop.block ≡ true = sym t.taken ∙ c.if-not-take_block.false in
    one_followed g.D.Disk.tells g.D.Disk.obeys (g.D.Disk.told c.args.disk.now) (g.D.Disk.told c.loop.disk)
    (g.D.Disk.told c.read_next.new.disk)
    (g.D.Disk.counts c.args.disk.now) (g.D.Disk.counts c.loop.disk) (g.D.Disk.counts c.read_next.new.disk) (g.D.Disk.due c.args.disk.now)
    (g.D.Disk.due c.loop.disk) (g.D.Disk.due c.read_next.new.disk) c.args.table.now c.loop.table c.take_block.new.self c.link.new.self
    c.args.value c.loop.block c.in_ok-next.field-0 c.loop.counter inv (omega
    (arith, c.loop-test.true, c.blocks_of-end.ensures)) is t.blocks t.free t.size t.next
    t.needed l.blocks l.next l.size l.free l.needed e.counts e.obeyed e.told e.next
