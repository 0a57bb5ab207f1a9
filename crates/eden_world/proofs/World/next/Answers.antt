use Rattle.eden_world.specs.Listed.{station_count}
use Rattle.std.proofs.Common.{sym, ◌∙◌, ap, arith}
use Rattle.std.specs.List.{find}
use Rattle.passive_store.specs.Seen.{disk_seen}
use Rattle.journal.specs.Enabled.{is_past}
use Rattle.eden_world.proofs.KeySteps.{station-found, station-none, stations-end}
use Rattle.eden_world.proofs.Stationed.{keys-first}
use Rattle.eden_world.proofs.World.next.Goals as goal

pub loop-number-init : goal.loop-number-init
loop-number-init g c = λ more w reached stands. ap (find (is_past c.args.last))
    (keys-first g.St.Device.Disk.tells g.St.Store.layout g.St.Store.seen
    (disk_seen g.St.Device.Disk.counts g.St.Device.Disk.told g.St.Device.Disk.due) c.args.self.now more w
    c.requires reached stands)

pub returns-in-Some : goal.returns-in-Some
returns-in-Some g c = λ more w reached stands.
    station-found (is_past c.args.last) w (station_count c.args.self.now) c.loop-number.number c.in-Some.key _ (omega (arith, c.loop-number-test.true, c.stations-number-end.ensures))
    (sym c.in-Some.is ∙ c.next_at.ensures more w reached stands) (c.loop-number.invariant more w reached stands)

pub loop-number-preserved : goal.loop-number-preserved
loop-number-preserved g c = λ more w reached stands.
    station-none (is_past c.args.last) w (station_count c.args.self.now) c.loop-number.number _ (omega (arith, c.loop-number-test.true, c.stations-number-end.ensures))
    (sym c.in_default.is ∙ c.next_at.ensures more w reached stands) (c.loop-number.invariant more w reached stands)

pub returns : goal.returns
returns g c = λ more w reached stands.
    stations-end (is_past c.args.last) w (station_count c.args.self.now) c.loop-number.number _ (omega (arith, c.loop-number-test.false, c.stations-number-end.ensures))
    (c.loop-number.invariant more w reached stands)
