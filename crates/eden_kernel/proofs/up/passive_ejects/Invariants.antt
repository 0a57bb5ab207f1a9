use Rattle.std.proofs.Common.{◌-◌}
use Rattle.std.specs.Option.{option_map_or}
use Rattle.eden_kernel.proofs.Noted.{IsListing}
use Rattle.eden_kernel.specs.Boots.{rank_of}
use Rattle.eden_kernel.proofs.up.passive_ejects.Given as goal

abbrev pub invariant-loop-next : goal.invariant-loop-next
invariant-loop-next g l = IsListing g.St.Device.Disk.tells l.number l.epoch (g.St.Store.seen l.store) l.ejects l.next

abbrev pub decreases-loop-next : goal.decreases-loop-next
decreases-loop-next g l = option_map_or (λ u. 18446744073709551616 - rank_of u) l.next 0
