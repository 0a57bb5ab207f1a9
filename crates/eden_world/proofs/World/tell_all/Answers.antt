use Rattle.std.proofs.Common.{◌∙◌}
use Rattle.passive_store.specs.Seen.{disk_seen}
use Rattle.eden_world.proofs.TellingAll.{telling-at}
use Rattle.eden_world.proofs.World.tell_all.Goals as goal

pub loop-number-preserved : goal.loop-number-preserved
loop-number-preserved g c =
    let look = disk_seen g.St.Device.Disk.counts g.St.Device.Disk.told g.St.Device.Disk.due in
    let at = c.loop-number in (
      c.in_ok-tell_next.ensures.whole,
      (λ m. c.in_ok-tell_next.ensures.disks m ∙ at.invariant.1 m),
      (λ so. telling-at g.St.Store.layout g.St.Store.seen look c.args.broken.now c.as_slice-number-items.result.now at.number-index
          at.names.items c.tell_next.new.names.items c.args.self.now at.self c.tell_next.new.self c.as_slice-number-items.ensures
          at.invariant.0 c.loop-number-test.true (at.invariant.2 so) (c.in_ok-tell_next.ensures.told so)),
      c.tell_next.ensures.calls ∙ at.invariant.3,
    )

pub returns-in_err-tell_next-clause-calls : goal.returns-in_err-tell_next-clause-calls
returns-in_err-tell_next-clause-calls g c = c.tell_next.ensures.calls ∙ c.loop-number.invariant.3
