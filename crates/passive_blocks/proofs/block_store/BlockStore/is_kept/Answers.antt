use Rattle.std.proofs.Common.{◌∙◌, ap}
use Rattle.std.specs.Prelude.{is_some}
use Rattle.eden_disk.specs.Told.{contents}
use Rattle.passive_blocks.proofs.KeptLooks.{holds_shown}
use Rattle.passive_blocks.proofs.StageShown.{store_shown}
use Rattle.passive_blocks.proofs.block_store.BlockStore.is_kept.Goals as goal

pub returns : goal.returns
returns g c = λ tells.
    let s = c.self.inside in
    let held = c.self.invariant.held in
    let show = store_shown g.D.Disk.tells s.node s.size s.more (g.D.Disk.counts s.disk) (g.D.Disk.told s.disk) s.table s.pending
    c.self.invariant tells in
    rw (← c.self.view_is)
    (c.is_some.ensures ∙ ap is_some c.value.ensures
    ∙ holds_shown (contents (g.D.Disk.told s.disk)).now s.table c.args.uid held.table held.apart show.chains)
