use Rattle.std.proofs.Common.{◌≡◌, take, map}
use Rattle.edentypes.proofs.layout.limits_of.Given as goal

abbrev pub invariant-loop-class : goal.invariant-loop-class
invariant-loop-class l = l.items.items ≡ map (λ c. c.limit.n) (take l.class-index l.classes)
