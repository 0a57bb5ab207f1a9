use Rattle.std.proofs.Common.{◌+◌, ◌++◌, ap, sym, ◌∙◌, arith}
use Rattle.eden_gen.specs.Generated.{create_text}
use Rattle.eden_gen.proofs.Rounds.{creations_none, creations_more}
use Rattle.eden_gen.proofs.script.add_creations.Goals as goal

pub loop-behind-init : goal.loop-behind-init
loop-behind-init c = record { text = sym (creations_none c.args.out.now.items); short = omega arith }

pub loop-behind-preserved : goal.loop-behind-preserved
loop-behind-preserved c = record {
  text = c.in_ok-add_creation.ensures.text ∙ ap (λ l. l ++ create_text (c.loop-behind.behind + 1)) c.loop-behind.invariant.text
      ∙ creations_more c.args.out.now.items c.loop-behind.behind;
  short = omega (arith, c.in_ok-add_creation.ensures.short, c.loop-behind.invariant.short);
}
