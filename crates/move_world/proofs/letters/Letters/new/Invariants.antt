use Rattle.std.proofs.Common.{◌≡◌, [], map, length}
use Rattle.std.specs.Prelude.{replicate}
use Rattle.move_world.proofs.letters.Letters.new.Given as goal

abbrev pub invariant-loop-i : goal.invariant-loop-i
invariant-loop-i l = record {
  count : length l.lists.items ≡ l.i;
  same : map (λ v. v.items) l.lists.items ≡ replicate l.i [];
}
