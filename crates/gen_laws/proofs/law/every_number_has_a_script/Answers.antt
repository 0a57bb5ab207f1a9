use Rattle.eden_gen.specs.Generated.{script_text}
use Rattle.gen_laws.proofs.Scripts.{every-number-has-a-script}
use Rattle.gen_laws.proofs.law.every_number_has_a_script.Goals as goal

pub returns-clause-script : goal.returns-clause-script
returns-clause-script c = every-number-has-a-script

pub returns-clause-fit : goal.returns-clause-fit
returns-clause-fit c = λ number script spells. c.a_script_is_fit.ensures.fit (script_text number) script spells

pub returns-clause-clean : goal.returns-clause-clean
returns-clause-clean c = λ number line why bad. let found = every-number-has-a-script number in
    (c.one_reading.ensures (script_text number)).apart line found.0 why found.1 bad
