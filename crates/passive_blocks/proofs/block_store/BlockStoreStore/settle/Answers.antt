use Rattle.passive_blocks.proofs.block_store.BlockStoreStore.settle.Goals as goal

pub returns : goal.returns
returns g c = c.settle_blocks.ensures.settled
