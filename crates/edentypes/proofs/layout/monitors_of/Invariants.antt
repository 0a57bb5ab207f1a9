use Rattle.std.proofs.Common.{◌≡◌, ◌≤◌, take, map}
use Rattle.std.specs.List.{All}
use Rattle.edentypes.proofs.layout.monitors_of.Given as goal

abbrev pub invariant-loop-condition : goal.invariant-loop-condition
invariant-loop-condition l = record {
  same : l.items.items ≡ map (λ c. c.monitor) (take l.condition-index l.conditions);
  within : All (λ m. (1 ≤ m) × (m ≤ l.monitors)) l.items.items;
}
