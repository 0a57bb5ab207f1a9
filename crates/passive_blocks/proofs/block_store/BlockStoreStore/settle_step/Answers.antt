use Rattle.passive_blocks.proofs.block_store.BlockStoreStore.settle_step.Goals as goal

pub returns : goal.returns
returns g c = c.settle_once.ensures.settles
