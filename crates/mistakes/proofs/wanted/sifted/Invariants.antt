use Rattle.std.proofs.Common.{◌≡◌, true, drop, length}
use Rattle.std.specs.List.{list_all}
use Rattle.std.specs.Prelude.{nat_lt}
use Rattle.mistakes.specs.Wanted.{MayStand}
use Rattle.mistakes.proofs.Sifting.{SoFar}
use Rattle.mistakes.proofs.wanted.sifted.Given as goal

abbrev pub invariant-loop-sample : goal.invariant-loop-sample
invariant-loop-sample l = record {
  sifted : SoFar (MayStand l.before) l.table (drop l.sample-index l.table) l.found.items;
  short : list_all (λ s. nat_lt (length s.0.now) 100) (drop l.sample-index l.table) ≡ true;
}
