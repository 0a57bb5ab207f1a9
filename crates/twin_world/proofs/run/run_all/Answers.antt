use Rattle.std.proofs.Common.{rules, ap, map}
use Rattle.passive_store.specs.Seen.{disk_seen}
use Rattle.twin_world.specs.View.{meant, entry_of}
use Rattle.twin_world.specs.Worlds.{standings}
use Rattle.twin_world.specs.declared.answer.Entry.{Entry}
use Rattle.twin_world.proofs.Runs.{ran-first, ran-step, entries-more}
use Rattle.twin_world.proofs.run.run_all.Goals as goal

pub loop-command-init : goal.loop-command-init
loop-command-init g c =
    let look = disk_seen g.St.Device.Disk.counts g.St.Device.Disk.told g.St.Device.Disk.due in
    ran-first g.St.Device.Disk.tells g.St.Store.layout (standings g.St.Store.seen look c.args.world.now.places.items) _ _ c.requires.world
    (search rules) (search rules)

pub loop-command-preserved : goal.loop-command-preserved
loop-command-preserved g c =
    let look = disk_seen g.St.Device.Disk.counts g.St.Device.Disk.told g.St.Device.Disk.due in
    let e : Entry = record {
      command = c.in-Some.command;
      answer = c.in_ok-answer.field-0.answer;
      first_failed = c.in_ok-answer.field-0.first_failed;
      second_failed = c.in_ok-answer.field-0.second_failed;
    } in
    ran-step g.St.Device.Disk.tells g.St.Store.layout (standings g.St.Store.seen look c.args.world.now.places.items)
    (standings g.St.Store.seen look c.loop-command.world.places.items) (standings g.St.Store.seen look c.step.new.self.places.items)
    (map entry_of c.loop-command.entries.items) (map entry_of c.push.new.self.items)
    (map meant c.into_iter-command-iterator.result.rest.items) (map meant c.loop-command.command-iterator.rest.items)
    (map meant c.next.new.self.rest.items) (entry_of e) c.loop-command.invariant (ap (map meant) c.in-Some.ensures.steps.0)
    (entries-more c.loop-command.entries.items c.push.new.self.items e c.in_ok-push.ensures.items) c.step.ensures.world
    c.step.ensures.rise c.in_ok-answer.ensures.told c.in_ok-answer.ensures.caused c.in_ok-answer.ensures.steps
