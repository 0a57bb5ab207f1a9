use Rattle.passive_blocks.proofs.block_store.BlockStoreStore.holds.Goals as goal

pub returns : goal.returns
returns g c = c.is_kept.ensures
