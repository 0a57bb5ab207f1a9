use Rattle.std.proofs.Common.{is_some, ap}
use Rattle.eden_model.specs.Map.{first}
use Rattle.invocation.proofs.Calls.may_have_mail.Goals as goal

pub returns : goal.returns
returns c = record {
  none = λ no from from8. rw (← c.self.view_is) (ap (λ q. is_some (first q)) (c.self.invariant.mail.none c.args.to c.requires no from
      from8));
}
