use Rattle.std.proofs.Common.{◌≡◌, ◌∙◌, ap, inr, Some, subst, sym}
use Rattle.std.specs.Option.{option_map}
use Rattle.eden_value.specs.declared.status.Status.TheVariants as status
use Rattle.edentypes.specs.View.{kind_in}
use Rattle.epl_syntax.specs.declared.effect.Answer.TheVariants.{Created as Made}
use Rattle.active_part.specs.Bodies.{told_body}
use Rattle.ejects.specs.Creations.{IsCreated}
use Rattle.ejects.specs.View.{parts_of, with_body}
use Rattle.ejects.proofs.Creating.{created-for, refused-for}
use Rattle.ejects.proofs.Ejects.creates.Goals as goal

pub returns-in-Ok : goal.returns-in-Ok
returns-in-Ok c b s at runs ready known stands =
    let ts = c.args.types.now in
    let t = kind_in ts c.in-Some.kind in
    let mid = parts_of ts c.create.new.self in
    let new = parts_of ts c.tell_loose.new.self in
    created-for (parts_of ts c.args.self.now) mid new s c.args.uid c.args.process c.args.type_name.now t b stands at runs ready
    (sym c.find.ensures ∙ ap (option_map (kind_in ts)) c.in-Some.is)
    c.in-Ok.created (subst (λ r. IsCreated t r mid s) c.in-Ok.is (c.in_ok-created.ensures s ready stands))
    (λ x is run. subst (λ cap. new ≡ with_body c.args.uid (told_body c.args.process (Made status.Ok (Some cap)) x) mid) c.mint.ensures.exact
    (c.tell_loose.ensures ts x is (inr run)))

pub returns-in-Err : goal.returns-in-Err
returns-in-Err c b s at runs ready known stands =
    let ts = c.args.types.now in
    let t = kind_in ts c.in-Some.kind in
    let mid = parts_of ts c.create.new.self in
    refused-for (parts_of ts c.args.self.now) mid (parts_of ts c.tell_loose-in-Err.new.self) s c.args.uid c.args.process
    c.args.type_name.now t b stands at runs ready (sym c.find.ensures ∙ ap (option_map (kind_in ts)) c.in-Some.is) c.in-Err.status
    (subst (λ r. IsCreated t r mid s) c.in-Err.is (c.in_ok-created.ensures s ready stands))
    (λ x is run. c.tell_loose-in-Err.ensures ts x is (inr run))
