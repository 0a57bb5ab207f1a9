use Rattle.std.proofs.Common.{◌∙◌, ap, sym, subst}
use Rattle.std.specs.Prelude.{IfOk}
use Rattle.eden_move.specs.declared.letter.Letter.TheVariants.{Take}
use Rattle.eden_move.specs.Minds.{remembered}
use Rattle.eden_move.specs.Calls.{uid_of, letter_call, took_ended, IsTook}
use Rattle.eden_move.specs.Shown.{Carries}
use Rattle.eden_move.specs.Shown.{IsFullCall}
use Rattle.eden_move.proofs.node.MoveNode.take.Goals as goal

pub returns-in-Ok-clause-kind : goal.returns-in-Ok-clause-kind
returns-in-Ok-clause-kind g c = subst (λ l. IfOk c.take_in.result (IsTook l))
    (ap (λ v. Take c.in-Take.uid c.in-Take.to c.in-Take.generation v) c.in-Ok.ensures ∙ sym c.in-Take.is)
    (c.take_in.ensures.kind c.in-Take.to)

pub returns-in-Ok-clause-carries : goal.returns-in-Ok-clause-carries
returns-in-Ok-clause-carries g c tells = subst (λ l. Carries (uid_of l) (letter_call c.args.from l) (took_ended l c.take_in.result)
    (g.St.Store.seen c.args.self.now.store) (remembered c.args.self.now.mind) (g.St.Store.seen c.take_in.new.self.store)
    (remembered c.take_in.new.self.mind))
    (ap (λ v. Take c.in-Take.uid c.in-Take.to c.in-Take.generation v) c.in-Ok.ensures ∙ sym c.in-Take.is)
    (c.take_in.ensures.carries tells c.in-Take.to)

pub returns-in-Known-clause-kind : goal.returns-in-Known-clause-kind
returns-in-Known-clause-kind g c = subst (λ l. IfOk c.close.result (IsTook l)) (sym c.in-Known.is) (c.close.ensures.kind c.in-Known.to)

pub returns-in-Known-clause-carries : goal.returns-in-Known-clause-carries
returns-in-Known-clause-carries g c tells = subst (λ l. Carries (uid_of l) (letter_call c.args.from l) (took_ended l c.close.result)
    (g.St.Store.seen c.args.self.now.store) (remembered c.args.self.now.mind) (g.St.Store.seen c.close.new.self.store)
    (remembered c.close.new.self.mind)) (sym c.in-Known.is) (c.close.ensures.carries tells c.in-Known.to)

pub returns-in-Ok-clause-full : goal.returns-in-Ok-clause-full
returns-in-Ok-clause-full g c = subst (λ l. IsFullCall g.St.Device.Disk.tells g.St.Store.layout (uid_of l) (letter_call c.args.from l)
    c.take_in.result (g.St.Store.seen c.args.self.now.store) (remembered c.args.self.now.mind))
    (ap (λ v. Take c.in-Take.uid c.in-Take.to c.in-Take.generation v) c.in-Ok.ensures ∙ sym c.in-Take.is)
    c.take_in.ensures.full

pub returns-in-Known-clause-full : goal.returns-in-Known-clause-full
returns-in-Known-clause-full g c = subst (λ l. IsFullCall g.St.Device.Disk.tells g.St.Store.layout (uid_of l) (letter_call c.args.from l)
    c.close.result (g.St.Store.seen c.args.self.now.store) (remembered c.args.self.now.mind)) (sym c.in-Known.is)
    c.close.ensures.full
