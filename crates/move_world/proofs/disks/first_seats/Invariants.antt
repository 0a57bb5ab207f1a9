use Rattle.std.proofs.Common.{◌≡◌, ◌≤◌, ◌+◌, ◌++◌, map, length}
use Rattle.std.specs.Vec.{vec_capacity}
use Rattle.std.specs.Vec.Iter.{into_iter_items, into_iter_len}
use Rattle.move_world.specs.declared.seat.Seat.TheVariants as place
use Rattle.move_world.proofs.disks.first_seats.Given as goal

-- the places so far and those of the disks that are left are all places, and there is room for them
abbrev pub invariant-loop-disk : goal.invariant-loop-disk
invariant-loop-disk g l = record {
  seats : l.seats.items ++ map (λ d. place.Shut d) (into_iter_items l.disk-iterator) ≡ map (λ d. place.Shut d) l.fn.disks.items;
  room : length l.seats.items + length (into_iter_items l.disk-iterator) ≤ vec_capacity l.seats;
  counted : into_iter_len l.disk-iterator ≡ length (into_iter_items l.disk-iterator);
}
