use Rattle.std.proofs.Common.{◌∙◌, sym}
use Rattle.passive_store.specs.Seen.{disk_seen}
use Rattle.eden_world.specs.Legal.{IsSized}
use Rattle.eden_shell.proofs.Wants.{asked-more, holds-more, holds-all}
use Rattle.eden_shell.proofs.carry.wants_of.Goals as goal

pub loop-disk-preserved : goal.loop-disk-preserved
loop-disk-preserved g c = record {
  wants = asked-more (λ d. (g.D.Disk.counts d).wants) c.args.disks.now c.loop-disk.disk-index c.loop-disk.wants.items c.push.new.self.items
      c.disk-item.result c.loop-disk-test.true c.disk-item.is c.loop-disk.invariant.wants
      (rw (sym c.wants.ensures) c.in_ok-push.ensures.items);
  sized = λ tells. holds-more (λ d. IsSized (disk_seen g.D.Disk.counts g.D.Disk.told g.D.Disk.due d)) c.args.disks.now
      c.loop-disk.disk-index c.disk-item.result c.loop-disk-test.true c.disk-item.is
      (c.size-size.ensures.told tells ∙ c.size-size.ensures.size) (c.loop-disk.invariant.sized tells);
}

pub returns-clause-sized : goal.returns-clause-sized
returns-clause-sized g c tells = holds-all (λ d. IsSized (disk_seen g.D.Disk.counts g.D.Disk.told g.D.Disk.due d)) c.args.disks.now
    c.loop-disk.disk-index c.loop-disk-test.false (c.loop-disk.invariant.sized tells)
