use Rattle.history_tests.proofs.checkpoint_tests.take.Goals as goal

pub returns-in-Steps-clause-power : goal.returns-in-Steps-clause-power
returns-in-Steps-clause-power g c = c.has_power.ensures _ c.step_on-steps.ensures.power

pub returns-in-Zeros-clause-power : goal.returns-in-Zeros-clause-power
returns-in-Zeros-clause-power g c = c.has_power-in-Zeros.ensures _ c.put_zeros-steps.ensures.power
