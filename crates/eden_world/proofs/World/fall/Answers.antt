use Rattle.std.proofs.Common.{◌≤◌, ◌∙◌, ap, length, subst, sym}
use Rattle.locator.specs.Reach.{Stations}
use Rattle.passive_store.specs.Seen.{disk_seen}
use Rattle.scheduled_node.proofs.Clocks.{any-ok}
use Rattle.eden_world.proofs.Crashing.{vacated-seated}
use Rattle.eden_world.proofs.Losing.{vacated-leaves, vacated-falls}
use Rattle.std.proofs.lemmas.Result.{on_ok_weaker}
use Rattle.invocation.specs.Mail.{Mail}
use Rattle.eden_world.proofs.World.fall.Goals as goal

pub lose-requires-clause-whole : goal.lose-requires-clause-whole
lose-requires-clause-whole g c = record {
  nodes = c.vacate.ensures.whole c.requires.whole.nodes;
  places = record {
    seats = subst (λ m. m ≤ 8) (sym c.vacate.ensures.rest.count) c.requires.whole.places.seats;
    nodes = ap (λ (p : Stations). p.nodes) c.vacate.ensures.rest.places ∙ c.requires.whole.places.nodes;
  };
  seated = vacated-seated g.St.Device.Disk.tells g.St.Device.Disk.obeys g.St.Store.layout g.St.Store.seen
      (disk_seen g.St.Device.Disk.counts g.St.Device.Disk.told g.St.Device.Disk.due) c.args.mode c.args.number c.args.self.now
      c.vacate.new.self c.requires.whole.seated c.vacate.ensures.down c.vacate.ensures.idle c.vacate.ensures.others;
}

pub returns-clause-leaves : goal.returns-clause-leaves
returns-clause-leaves g c = λ s was.
    let look = disk_seen g.St.Device.Disk.counts g.St.Device.Disk.told g.St.Device.Disk.due in
    vacated-leaves g.St.Device.Disk.tells g.St.Device.Disk.obeys g.St.Store.layout g.St.Store.seen look c.args.mode c.args.number s
    c.args.self.now c.vacate.new.self c.lose.new.self was (c.vacate.ensures.down s was) c.vacate.ensures.others c.vacate.ensures.rest
    c.lose.ensures.disks

pub returns-clause-falls : goal.returns-clause-falls
returns-clause-falls g c = λ so.
    let look = disk_seen g.St.Device.Disk.counts g.St.Device.Disk.told g.St.Device.Disk.due in
    any-ok c.lose.result _ _ (λ names loses s was.
    vacated-falls g.St.Device.Disk.tells g.St.Device.Disk.obeys g.St.Store.layout g.St.Store.seen look c.args.mode c.args.number s
    c.args.self.now c.vacate.new.self c.lose.new.self was (c.vacate.ensures.down s was) c.vacate.ensures.others c.vacate.ensures.rest
    names c.vacate.ensures.agendas loses) (c.lose.ensures.told so)

pub returns-clause-asks : goal.returns-clause-asks
returns-clause-asks g c = on_ok_weaker c.lose.result (λ none. none ∙ ap (λ (m : Mail). length m.calls) c.vacate.ensures.rest.calls)
    c.lose.ensures.asks
