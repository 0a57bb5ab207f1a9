use Rattle.std.proofs.Common.{rules, ap, map}
use Rattle.passive_store.specs.Seen.{disk_seen}
use Rattle.move_world.specs.Kept.{rows}
use Rattle.move_world.specs.View.{meant, entry_of}
use Rattle.move_world.specs.Worlds.{standings}
use Rattle.move_world.specs.declared.answer.Entry.{Entry}
use Rattle.move_world.proofs.Runs.{ran-first, ran-step, entries-more}
use Rattle.move_world.proofs.run.run_all.Goals as goal

pub loop-command-init : goal.loop-command-init
loop-command-init g c =
    let look = disk_seen g.St.Device.Disk.counts g.St.Device.Disk.told g.St.Device.Disk.due in
    ran-first g.St.Device.Disk.tells g.St.Store.layout (standings g.St.Store.seen look c.args.world.now.seats.items)
    (rows c.args.world.now.letters) _ _ c.requires.world (search rules) (search rules)

pub loop-command-preserved : goal.loop-command-preserved
loop-command-preserved g c =
    let look = disk_seen g.St.Device.Disk.counts g.St.Device.Disk.told g.St.Device.Disk.due in
    let e : Entry = record { command = c.in-Some.command; answer = c.in_ok-answer.answer } in
    ran-step g.St.Device.Disk.tells g.St.Store.layout (standings g.St.Store.seen look c.args.world.now.seats.items)
    (standings g.St.Store.seen look c.loop-command.world.seats.items) (standings g.St.Store.seen look c.step.new.self.seats.items)
    (rows c.args.world.now.letters) (rows c.loop-command.world.letters) (rows c.step.new.self.letters)
    (map entry_of c.loop-command.entries.items) (map entry_of c.push.new.self.items)
    (map meant c.into_iter-command-iterator.result.rest.items) (map meant c.loop-command.command-iterator.rest.items)
    (map meant c.next.new.self.rest.items) (entry_of e) c.loop-command.invariant (ap (map meant) c.in-Some.ensures.steps.0)
    (entries-more c.loop-command.entries.items c.push.new.self.items e c.in_ok-push.ensures.items) c.step.ensures.world
    c.in_ok-answer.ensures.steps c.in_ok-answer.ensures.counted

pub returns-clause-counted : goal.returns-clause-counted
returns-clause-counted g c = c.loop-command.invariant.counted
