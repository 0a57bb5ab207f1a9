use Rattle.std.proofs.Common.{position, sym, ap, ◌∙◌}
use Rattle.std.specs.Map.{keys_of}
use Rattle.epl_syntax.specs.declared.effect.Answer.TheVariants.{Go}
use Rattle.epl_syntax.specs.declared.effect.Effect.TheVariants.{Checkpoint}
use Rattle.epl_syntax.specs.Directory.{deletes, changed}
use Rattle.directory_eject.specs.View.{vars_of}
use Rattle.directory_eject.proofs.Turns.{named, delete_there, delete_absent, stays, becomes}
use Rattle.directory_eject.proofs.directory.Directory.delete.Goals as goal

pub returns-in-Some : goal.returns-in-Some
returns-in-Some c =
    let es = c.self.inside.entries.entries in
    let n = c.args.name.now in
    let at = sym (ap (λ m. position (named m) (keys_of es)) c.as_slice.ensures)
    ∙ sym c.get_index_of.ensures.index ∙ c.in-Some.is in
    becomes es c.args.self.now c.self.view_is (deletes n) _ Checkpoint (delete_there n es Go c.in-Some.place at)
    ∙ ap (λ fs. (vars_of fs, changed, Checkpoint)) (sym c.shift_remove_index.ensures.entries)

pub returns-in-None : goal.returns-in-None
returns-in-None c =
    let es = c.self.inside.entries.entries in
    let n = c.args.name.now in
    let at = sym (ap (λ m. position (named m) (keys_of es)) c.as_slice.ensures)
    ∙ sym c.get_index_of.ensures.index ∙ c.in-None.is in
    stays es c.args.self.now c.self.view_is (deletes n) _ (delete_absent n es Go at) c.code.result c.code.ensures
