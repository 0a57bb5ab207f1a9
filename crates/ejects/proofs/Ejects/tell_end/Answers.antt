use Rattle.std.proofs.Common.{sym, subst, refl}
use Rattle.std.specs.Prelude.{IfSome}
use Rattle.ejects.specs.Marks.{AwaitsIn}
use Rattle.ejects.specs.Parts.{body_at}
use Rattle.ejects.specs.StoreEnds.{Told}
use Rattle.ejects.specs.View.{parts_of}
use Rattle.ejects.proofs.Ejects.tell_end.Goals as goal

pub returns-in-Some : goal.returns-in-Some
returns-in-Some c ts waits =
    subst (λ o. Told c.args.uid o c.args.status (parts_of ts c.args.self.now) (parts_of ts c.tell_code.new.self)) (sym c.in-Some.is)
    (c.tell_code.ensures ts
    (subst (λ o. IfSome o (λ p. AwaitsIn (body_at (parts_of ts c.args.self.now) c.args.uid) p)) c.in-Some.is waits))

pub returns-in-None : goal.returns-in-None
returns-in-None c ts waits =
    subst (λ o. Told c.args.uid o c.args.status (parts_of ts c.args.self.now) (parts_of ts c.args.self.now)) (sym c.in-None.is) refl
