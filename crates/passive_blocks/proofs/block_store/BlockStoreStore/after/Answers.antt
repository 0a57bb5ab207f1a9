use Rattle.eden_disk.specs.Told.{contents}
use Rattle.passive_blocks.proofs.KeptLooks.{next_shown}
use Rattle.passive_blocks.proofs.StageShown.{store_shown}
use Rattle.passive_blocks.proofs.block_store.BlockStoreStore.after.Goals as goal

pub returns-clause-next : goal.returns-clause-next
returns-clause-next g c = λ tells.
    let s = c.self.inside in
    let held = c.self.invariant.held in
    let show = store_shown g.D.Disk.tells s.node s.size s.more (g.D.Disk.counts s.disk) (g.D.Disk.told s.disk) s.table s.pending
    c.self.invariant tells in
    rw (← c.self.view_is)
    (next_shown s.node (contents (g.D.Disk.told s.disk)).now s.table c.args.uid c.after.result held.table held.apart show.own show.chains
    c.after.ensures.next)

pub returns-clause-own : goal.returns-clause-own
returns-clause-own g c = rw (← c.self.view_is) c.after.ensures.own
