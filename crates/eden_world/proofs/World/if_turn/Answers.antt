use Rattle.std.proofs.Common.{◌≡◌, true, false, sym, ◌∙◌}
use Rattle.eden_world.proofs.World.if_turn.Goals as goal

pub returns-then-has_turn-clause-enabled : goal.returns-then-has_turn-clause-enabled
returns-then-has_turn-clause-enabled g c = c.has_turn.ensures.0 c.if-has_turn.true

pub returns-clause-same : goal.returns-clause-same
returns-clause-same g c = λ has. absurd (let bad : true ≡ false = sym (c.has_turn.ensures.1 has) ∙ c.if-has_turn.false in cc bad)
