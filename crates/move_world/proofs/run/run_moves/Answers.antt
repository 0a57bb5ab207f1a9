use Rattle.std.proofs.Common.{[], ◌∙◌, map}
use Rattle.move_world.specs.Logs.{blank_world}
use Rattle.passive_store.specs.Seen.{disk_seen}
use Rattle.move_world.specs.View.{meant, entry_of}
use Rattle.move_world.specs.Worlds.{standings}
use Rattle.move_world.proofs.Runs.{legal, opening-reach}
use Rattle.move_world.proofs.Counts.{counted-both}
use Rattle.move_world.proofs.run.run_moves.Goals as goal

pub run_all-requires-clause-reach : goal.run_all-requires-clause-reach
run_all-requires-clause-reach g c =
    opening-reach (map meant c.in_ok-opening.opening.items) c.args.nodes c.requires.nodes c.in_ok-opening.ensures.opens

pub returns-clause-legal : goal.returns-clause-legal
returns-clause-legal g c = λ so blank.
    legal g.St.Store.layout
    (record { nodes = c.args.nodes; openings = c.in_ok-openings.openings; entries = c.in_ok-entries.entries })
    (map meant c.args.commands.items) [] _ _ [] _ _ c.requires.nodes c.requires.reach
    (c.in_ok-openings.ensures.all ∙ c.in_ok-opening.ensures.opens) c.in_ok-entries.ensures.all
    (c.in_ok-openings.ensures.reaches so blank_world blank) (λ w h. c.in_ok-entries.ensures.reaches so w h)

pub returns-clause-counted : goal.returns-clause-counted
returns-clause-counted g c =
    let look = disk_seen g.St.Device.Disk.counts g.St.Device.Disk.told g.St.Device.Disk.due in
    counted-both (map entry_of c.in_ok-openings.openings.items) (map entry_of c.in_ok-entries.entries.items)
    (standings g.St.Store.seen look c.args.world.now.seats.items) (standings g.St.Store.seen look c.run_all.new.world.seats.items)
    (standings g.St.Store.seen look c.run_all-2.new.world.seats.items)
    c.in_ok-openings.ensures.counted c.in_ok-entries.ensures.counted
