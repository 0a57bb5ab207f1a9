use Rattle.std.proofs.Common.{◌-◌}
use Rattle.std.specs.Option.{option_map_or}
use Rattle.passive_store.specs.Seen.{disk_seen}
use Rattle.twin_store.specs.Ranks.{rank_of}
use Rattle.twin_store.specs.Sides.{side_seen}
use Rattle.twin_store.proofs.Alike.{IsComparing}
use Rattle.twin_store.proofs.comparing.are_same.Given as goal

abbrev pub invariant-loop-next : goal.invariant-loop-next
invariant-loop-next g l =
    let of = side_seen g.St.Store.seen (disk_seen g.St.Device.Disk.counts g.St.Device.Disk.told g.St.Device.Disk.due) in
    IsComparing g.St.Device.Disk.tells g.St.Store.layout l.node (of l.fn.source) (of l.source) (of l.fn.target) (of l.target) l.next l.alike

abbrev pub decreases-loop-next : goal.decreases-loop-next
decreases-loop-next g l = option_map_or (λ u. 18446744073709551616 - rank_of u) l.next 0
