use Rattle.std.proofs.Common.{◌≡◌, ◌<◌, ◌-◌, ◌+◌, suc, sym, subst, arith, true}
use Rattle.block_tables.specs.Blocks as blocks
use Rattle.block_tables.proofs.Walks.{Freeing, next_is_data, on_disk, joins_free, freed, all_freed}
use Rattle.block_tables.proofs.block_table.BlockTable.free_chain.Goals as goal

pub insert-requires : goal.insert-requires
insert-requires c =
    let inside : blocks.is_data c.loop.self.size c.loop.block ≡ true =
    next_is_data c.args.self.now c.loop.self c.args.first (blocks.blocks_of c.args.size) c.loop.block
    (c.blocks_of-end.result - c.loop.counter) c.loop.invariant (omega (arith, c.loop-test.true)) in
    subst (λ n. c.loop.block < n) (sym c.loop.invariant.blocks.free) (on_disk c.loop.self.size c.loop.block inside)

pub next-block-requires-clause-blocks : goal.next-block-requires-clause-blocks
next-block-requires-clause-blocks c =
    joins_free c.loop.self c.insert.new.self c.loop.block c.loop.invariant.blocks
    (next_is_data c.args.self.now c.loop.self c.args.first (blocks.blocks_of c.args.size) c.loop.block
    (c.blocks_of-end.result - c.loop.counter) c.loop.invariant (omega (arith, c.loop-test.true)))
    c.insert.ensures.long c.insert.ensures.members

pub next-block-requires-clause-block : goal.next-block-requires-clause-block
next-block-requires-clause-block c =
    on_disk c.loop.self.size c.loop.block
    (next_is_data c.args.self.now c.loop.self c.args.first (blocks.blocks_of c.args.size) c.loop.block
    (c.blocks_of-end.result - c.loop.counter) c.loop.invariant (omega (arith, c.loop-test.true)))

pub loop-preserved : goal.loop-preserved
loop-preserved c =
    let more : c.blocks_of-end.result - c.loop.counter ≡ suc (c.blocks_of-end.result - (c.loop.counter + 1)) =
    omega (arith, c.loop-test.true) in
    freed c.args.self.now c.loop.self c.insert.new.self c.args.first (blocks.blocks_of c.args.size) c.loop.block c.next-block.result
    (c.blocks_of-end.result - (c.loop.counter + 1))
    (subst (λ n. Freeing c.args.self.now c.loop.self c.args.first (blocks.blocks_of c.args.size) c.loop.block n) more c.loop.invariant)
    c.insert.ensures.long c.insert.ensures.members c.next-block.ensures.next

pub returns-clause-free : goal.returns-clause-free
returns-clause-free c = λ k. all_freed c.args.self.now c.loop.self c.args.first (blocks.blocks_of c.args.size) c.loop.block
    (c.blocks_of-end.result - c.loop.counter) k c.loop.invariant (omega (arith, c.loop-test.false))
