use Rattle.std.proofs.Common.{rules, ◌≡◌, ◌∙◌, ap, ℕ, arith}
use Rattle.std.specs.Prelude.{replicate}
use Rattle.lossy_wire.specs.Held.{fresh}
use Rattle.lossy_wire.proofs.Slots.{same_more}
use Rattle.lossy_wire.proofs.ends.Ends.new.Goals as goal

pub loop-i-preserved : goal.loop-i-preserved
loop-i-preserved c = record {
  count = search rules;
  same =
      same_more c.push.new.self.items c.loop-i.ends.items c.fresh.result c.loop-i.i c.in_ok-push.ensures.items c.loop-i.invariant.same
      c.fresh.ensures;
}

pub returns : goal.returns
returns c =
    let all : c.loop-i.i ≡ 64 = omega (arith, c.loop-i.auto.i-end, c.loop-i-test.false) in
    c.loop-i.invariant.same ∙ ap (λ (n : ℕ). replicate n fresh) all
