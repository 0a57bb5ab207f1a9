use Rattle.std.proofs.Common.{subst}
use Rattle.eden_model.specs.Lines.{Distinct}
use Rattle.eden_model.specs.Traffic.{Traffic, all_replied}
use Rattle.invocation.specs.Carries.{Carries}
use Rattle.ejects.specs.Replies.{AreOut}
use Rattle.ejects.specs.View.{parts_of}
use Rattle.ejects.proofs.Waking.{turns-away}
use Rattle.ejects.proofs.Ejects.turn_away.Goals as goal

pub returns-clause-turn : goal.returns-clause-turn
returns-clause-turn c ts reach s how p sound allowed answered at =
    turns-away reach (parts_of ts c.args.self.now) c.take_waiting-queued.new.waiting.entries c.args.calls.now c.reply_all.new.calls s
    c.args.uid how p c.args.status sound allowed answered at c.take_waiting-queued.ensures.at
    (subst (λ ks. (t : Traffic) → Carries c.args.calls.now t → AreOut t ks → Distinct ks
    → Carries c.reply_all.new.calls (all_replied c.args.status ks t)) c.take_waiting-queued.ensures.calls c.in_ok-reply_all.ensures.model)
