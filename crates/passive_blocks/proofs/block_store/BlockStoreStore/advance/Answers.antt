use Rattle.passive_blocks.proofs.block_store.BlockStoreStore.advance.Goals as goal

pub returns : goal.returns
returns g c = c.advance_job.ensures
