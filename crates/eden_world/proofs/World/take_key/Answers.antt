use Rattle.checkpoint.proofs.WholeBoots.{map-err}
use Rattle.passive_store.specs.Seen.{disk_seen}
use Rattle.scheduled_node.proofs.Clocks.{any-ok}
use Rattle.eden_world.proofs.Hearing.{shell-takes, shell-starves}
use Rattle.eden_world.proofs.World.take_key.Goals as goal

pub returns-then-key-eq0-clause-taken : goal.returns-then-key-eq0-clause-taken
returns-then-key-eq0-clause-taken g c =
    let look = disk_seen g.St.Device.Disk.counts g.St.Device.Disk.told g.St.Device.Disk.due in
    any-ok c.hear.result _ _ (λ e h. shell-takes g.St.Device.Disk.tells g.St.Store.layout g.St.Store.seen look c.args.self.now
    c.hear.new.self c.args.key e c.if-key-eq0.true h) c.hear.ensures.taken

pub returns-then-key-eq0-clause-starved : goal.returns-then-key-eq0-clause-starved
returns-then-key-eq0-clause-starved g c =
    let look = disk_seen g.St.Device.Disk.counts g.St.Device.Disk.told g.St.Device.Disk.due in
    map-err _ _ c.hear.result (λ e h. shell-starves g.St.Device.Disk.tells g.St.Store.layout g.St.Store.seen look c.args.self.now
    c.hear.new.self c.args.key c.if-key-eq0.true h) c.hear.ensures.starved
