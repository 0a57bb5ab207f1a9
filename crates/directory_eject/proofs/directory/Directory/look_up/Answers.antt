use Rattle.std.proofs.Common.{position, sym, ap, ◌∙◌}
use Rattle.std.specs.Map.{keys_of}
use Rattle.epl_syntax.specs.declared.effect.Answer.TheVariants.{Go}
use Rattle.epl_syntax.specs.Directory.{looks}
use Rattle.directory_eject.proofs.Turns.{named, look_there, look_absent, stays}
use Rattle.directory_eject.proofs.directory.Directory.look_up.Goals as goal

pub returns-in-Some : goal.returns-in-Some
returns-in-Some c =
    let es = c.self.inside.entries.entries in
    let n = c.args.name.now in
    let at = sym (ap (λ m. position (named m) (keys_of es)) c.as_slice.ensures) ∙ sym c.in-Some.ensures.index in
    stays es c.args.self.now c.self.view_is (looks n) _
    (look_there n es Go c.in-Some.field-0-0 c.in-Some.field-0-1.now c.in-Some.held.now at c.in-Some.ensures.entry)
    c.code_and_cap.result c.code_and_cap.ensures

pub returns-in-None : goal.returns-in-None
returns-in-None c =
    let es = c.self.inside.entries.entries in
    let n = c.args.name.now in
    let at = sym (ap (λ m. position (named m) (keys_of es)) c.as_slice.ensures) ∙ sym c.in-None.ensures.index in
    stays es c.args.self.now c.self.view_is (looks n) _ (look_absent n es Go at)
    c.code_and_cap-in-None.result c.code_and_cap-in-None.ensures
