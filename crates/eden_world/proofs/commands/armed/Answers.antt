use Rattle.std.proofs.Common.{refl, sym, subst}
use Rattle.passive_store.specs.Seen.{disk_seen}
use Rattle.eden_world.specs.Arming.{ArmsSeat}
use Rattle.eden_world.specs.declared.seats.Seat.TheVariants as place
use Rattle.eden_world.proofs.commands.armed.Goals as goal

pub returns-in-Up : goal.returns-in-Up
returns-in-Up g c =
    subst (λ z. ArmsSeat g.St.Device.Disk.tells g.St.Device.Disk.obeys g.St.Store.layout g.St.Store.seen
    (disk_seen g.St.Device.Disk.counts g.St.Device.Disk.told g.St.Device.Disk.due) c.args.what z (place.Up c.arm.new.self))
    (sym c.in-Up.is) (
      c.arm.new.self,
      refl,
      record {
        whole = c.arm.ensures.whole;
        number = c.arm.ensures.number;
        more = c.arm.ensures.more;
        counts = c.arm.ensures.counts;
        due = c.arm.ensures.due;
        stands = c.arm.ensures.stands;
        disk = c.arm.ensures.disk;
      },
    )

pub returns-in-Down : goal.returns-in-Down
returns-in-Down g c =
    subst (λ z. ArmsSeat g.St.Device.Disk.tells g.St.Device.Disk.obeys g.St.Store.layout g.St.Store.seen
    (disk_seen g.St.Device.Disk.counts g.St.Device.Disk.told g.St.Device.Disk.due) c.args.what z
    (place.Down c.arm-in-Down.new.self c.in-Down.doubt)) (sym c.in-Down.is) (
      c.arm-in-Down.new.self,
      refl,
      record { counts = c.arm-in-Down.ensures.counts; told = c.arm-in-Down.ensures.told; due = c.arm-in-Down.ensures.due },
    )

pub returns-in-Moving : goal.returns-in-Moving
returns-in-Moving g c =
    subst (λ z. ArmsSeat g.St.Device.Disk.tells g.St.Device.Disk.obeys g.St.Store.layout g.St.Store.seen
    (disk_seen g.St.Device.Disk.counts g.St.Device.Disk.told g.St.Device.Disk.due) c.args.what z place.Moving) (sym c.in-Moving.is) refl
