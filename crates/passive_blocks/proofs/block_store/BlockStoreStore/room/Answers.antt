use Rattle.std.proofs.Common.{◌∙◌}
use Rattle.eden_disk.specs.Told.{contents}
use Rattle.passive_blocks.proofs.KeptLooks.{room_shown}
use Rattle.passive_blocks.proofs.StageShown.{store_shown, store_sequence}
use Rattle.passive_blocks.proofs.block_store.BlockStoreStore.room.Goals as goal

pub returns : goal.returns
returns g c = λ tells some.
    let s = c.self.inside in
    let held = c.self.invariant.held in
    let show = store_shown g.D.Disk.tells s.node s.size s.more (g.D.Disk.counts s.disk) (g.D.Disk.told s.disk) s.table s.pending
    c.self.invariant tells in
    let known = rw (← c.self.view_is) at some in
    rw (← c.self.view_is)
    (c.room.ensures
    ∙ room_shown s.size (g.D.Disk.counts s.disk) (contents (g.D.Disk.told s.disk)).now s.table s.pending held (show.long ∙ held.same)
    show.chains
    (store_sequence g.D.Disk.tells s.node s.size s.more (g.D.Disk.counts s.disk) (g.D.Disk.told s.disk) s.table s.pending
    c.self.invariant tells known))
