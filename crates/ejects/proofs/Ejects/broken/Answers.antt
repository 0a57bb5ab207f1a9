use Rattle.std.proofs.Common.{◌≡◌, [], Some, None, Option, refl, sym, ◌∙◌, subst, ap}
use Rattle.eden_value.specs.declared.status.Status.TheVariants as status
use Rattle.epl_syntax.specs.declared.effect.Answer.TheVariants.{Reply as Told}
use Rattle.journal.specs.Ejects.{tells}
use Rattle.active_part.specs.Body.{Body}
use Rattle.ejects.specs.Marks.{IsLooseIn}
use Rattle.ejects.specs.Parts.{body_at, Stands}
use Rattle.active_part.specs.Bodies.{told_body}
use Rattle.ejects.specs.View.{parts_of, with_body}
use Rattle.ejects.proofs.Heard.{tells-stands}
use Rattle.ejects.proofs.Ejects.broken.Goals as goal

pub returns : goal.returns
returns c ts s stands loose = go (body_at (parts_of ts c.args.self.now) c.args.uid) refl loose
  where
    go : (o : Option Body) → body_at (parts_of ts c.args.self.now) c.args.uid ≡ o → IsLooseIn o c.args.process
        → Stands (parts_of ts c.tell_loose.new.self) (tells c.args.uid c.args.process (Told status.Broken []) s)
    go None at l = absurd l
    go (Some b) at l =
        let told = c.tell_loose.ensures ts b at l ∙ ap (λ rs. with_body c.args.uid (told_body c.args.process (Told status.Broken rs) b)
        (parts_of ts c.args.self.now)) c.no_items.ensures in
        subst (λ y. Stands y (tells c.args.uid c.args.process (Told status.Broken []) s)) (sym told) (tells-stands (parts_of ts
        c.args.self.now) s c.args.uid c.args.process b (Told status.Broken []) stands at)
