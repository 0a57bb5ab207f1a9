use Rattle.std.proofs.Common.{◌+◌, drop, sym, ◌∙◌, ap, arith}
use Rattle.std.specs.List.{flat_map}
use Rattle.passive_store.specs.Seen.{disk_seen}
use Rattle.agenda.specs.Places.{at_place}
use Rattle.agenda.proofs.AtPlaces.{then_at}
use Rattle.eden_world.specs.Listed.{keys_at, station_count}
use Rattle.eden_world.specs.Worlds.{numbers_from}
use Rattle.eden_world.proofs.KeySteps.{station-at, stations-at-end}
use Rattle.eden_world.proofs.Stationed.{keys-first}
use Rattle.eden_world.proofs.World.enabled_at.Goals as goal

pub loop-number-init : goal.loop-number-init
loop-number-init g c = λ more w reached stands. ap (λ ks. at_place ks c.args.place)
    (keys-first g.St.Device.Disk.tells g.St.Store.layout g.St.Store.seen
    (disk_seen g.St.Device.Disk.counts g.St.Device.Disk.told g.St.Device.Disk.due) c.args.self.now more w c.requires reached stands)

pub returns-in_err-left : goal.returns-in_err-left
returns-in_err-left g c = λ more w reached stands.
    let count = station_count c.args.self.now in
    c.from_residual.ensures
    ∙ ap (then_at (flat_map (keys_at w) (drop (c.loop-number.number + 1) (numbers_from 0 count)))) (sym c.in_err-left.was)
    ∙ station-at w count c.loop-number.number c.loop-number.left c.station_key_at.result _
    (omega (arith, c.loop-number-test.true, c.stations-number-end.ensures)) (c.station_key_at.ensures more w reached stands)
    (c.loop-number.invariant more w reached stands)

pub loop-number-preserved : goal.loop-number-preserved
loop-number-preserved g c = λ more w reached stands.
    let count = station_count c.args.self.now in
    ap (then_at (flat_map (keys_at w) (drop (c.loop-number.number + 1) (numbers_from 0 count)))) (sym c.in_ok-left.was)
    ∙ station-at w count c.loop-number.number c.loop-number.left c.station_key_at.result _
    (omega (arith, c.loop-number-test.true, c.stations-number-end.ensures)) (c.station_key_at.ensures more w reached stands)
    (c.loop-number.invariant more w reached stands)

pub returns : goal.returns
returns g c = λ more w reached stands.
    stations-at-end w (station_count c.args.self.now) c.loop-number.number c.loop-number.left _
    (omega (arith, c.loop-number-test.false, c.stations-number-end.ensures)) (c.loop-number.invariant more w reached stands)
