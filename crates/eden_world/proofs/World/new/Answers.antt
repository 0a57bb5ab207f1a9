use Rattle.std.proofs.Common.{◌≤◌, ap, length, refl, subst, sym}
use Rattle.invocation.specs.Mail.{Mail}
use Rattle.passive_store.specs.Seen.{disk_seen}
use Rattle.eden_world.specs.declared.World.{World as Program}
use Rattle.eden_world.proofs.Closing.{as-many, begun, begins-fits}
use Rattle.eden_world.proofs.Beginnings.{begins-stands}
use Rattle.eden_world.proofs.World.new.Goals as goal

pub returns-clause-begins : goal.returns-clause-begins
returns-clause-begins g c =
    let p : Program g.row.St.Denot g.row.St-Device.Denot = record {
      types = c.args.types;
      seats = c.in_ok-seats.seats;
      calls = c.in-Ok.calls;
      places = c.new-2.result;
      names = c.new-3.result;
    } in
    (begun c.args.types c.args.disks.items p refl c.in_ok-seats.ensures.ok c.in-Ok.ensures.model c.new-2.ensures.up c.new-2.ensures.joined
    c.new-3.ensures.none)

pub returns-clause-whole : goal.returns-clause-whole
returns-clause-whole g c =
    let p : Program g.row.St.Denot g.row.St-Device.Denot = record {
      types = c.args.types;
      seats = c.in_ok-seats.seats;
      calls = c.in-Ok.calls;
      places = c.new-2.result;
      names = c.new-3.result;
    } in
    begins-fits g.St.Store.seen c.args.types c.args.disks.items p
    (begun c.args.types c.args.disks.items p refl c.in_ok-seats.ensures.ok c.in-Ok.ensures.model c.new-2.ensures.up c.new-2.ensures.joined
    c.new-3.ensures.none) (record {
      seats = subst (λ m. m ≤ 8) (sym (as-many c.in_ok-seats.seats.items c.args.disks.items c.in_ok-seats.ensures.ok)) c.requires.few;
      nodes = c.new-2.ensures.nodes;
    })

pub returns-clause-stands : goal.returns-clause-stands
returns-clause-stands g c =
    let p : Program g.row.St.Denot g.row.St-Device.Denot = record {
      types = c.args.types;
      seats = c.in_ok-seats.seats;
      calls = c.in-Ok.calls;
      places = c.new-2.result;
      names = c.new-3.result;
    } in
    begins-stands g.St.Device.Disk.tells g.St.Store.layout g.St.Store.seen
    (disk_seen g.St.Device.Disk.counts g.St.Device.Disk.told g.St.Device.Disk.due) c.args.types c.args.disks.items p
    (begun c.args.types c.args.disks.items p refl c.in_ok-seats.ensures.ok c.in-Ok.ensures.model c.new-2.ensures.up c.new-2.ensures.joined
    c.new-3.ensures.none)

pub returns-clause-asked : goal.returns-clause-asked
returns-clause-asked g c = ap (λ (m : Mail). length m.calls) c.in-Ok.ensures.none
