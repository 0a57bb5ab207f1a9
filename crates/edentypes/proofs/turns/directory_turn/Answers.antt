use Rattle.std.proofs.Common.{◌≡◌, rules, ap, subst}
use Rattle.epl_syntax.specs.Natives.{native_turn}
use Rattle.epl_syntax.specs.declared.types.Native.TheVariants.{Directory}
use Rattle.directory_eject.specs.Kept.{MayStart}
use Rattle.directory_eject.specs.Stages.{stage_of}
use Rattle.directory_eject.proofs.Stays.{turns_may_start}
use Rattle.edentypes.proofs.turns.directory_turn.Goals as goal

pub returns-clause-fit : goal.returns-clause-fit
returns-clause-fit c =
    let now : native_turn Directory c.args.vars.now (stage_of c.args.stage.now) c.args.answer
    ≡ (c.entries.result, stage_of c.native_turn.new.stage, c.in_ok-effect.effect) = search rules in
    subst MayStart (ap (λ t. t.0) now) (turns_may_start c.args.vars.now c.args.stage.now c.args.answer c.requires)
