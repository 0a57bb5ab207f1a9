use Rattle.std.proofs.lemmas.Result.{err_from_is_err_and}
use Rattle.passive_blocks.specs.StoreState.{block_seen}
use Rattle.passive_blocks.proofs.StoreGets.{settled_gets, refused_gets}
use Rattle.passive_blocks.proofs.block_store.BlockStoreStore.get.Goals as goal

pub returns : goal.returns
returns g c =
    settled_gets g.D.Disk.tells g.D.Disk.obeys c.args.uid c.read_body.result
    (block_seen g.D.Disk.counts g.D.Disk.told g.D.Disk.due c.args.self.now)
    (block_seen g.D.Disk.counts g.D.Disk.told g.D.Disk.due c.settle_blocks.new.self)
    (block_seen g.D.Disk.counts g.D.Disk.told g.D.Disk.due c.read_body.new.self)
    c.in_ok-settle_blocks.ensures.settled c.read_body.ensures

pub returns-in_err-settle_blocks : goal.returns-in_err-settle_blocks
returns-in_err-settle_blocks g c =
    let p = err_from_is_err_and c.from_residual.result c.from_residual.ensures.1 in
    rw (p.1, p.2) (refused_gets g.D.Disk.tells g.D.Disk.obeys c.args.uid _
    (block_seen g.D.Disk.counts g.D.Disk.told g.D.Disk.due c.args.self.now)
    (block_seen g.D.Disk.counts g.D.Disk.told g.D.Disk.due c.settle_blocks.new.self)
    c.in_err-settle_blocks.ensures.settled)
