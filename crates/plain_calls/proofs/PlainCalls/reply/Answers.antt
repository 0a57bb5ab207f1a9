use Rattle.std.proofs.Common.{◌∙◌, ◌++◌, ◌∷◌, [], ap, refl, sym}
use Rattle.plain_calls.specs.declared.call.Place.TheVariants.{Answered, Done}
use Rattle.plain_calls.specs.View.{at_number, calls_of}
use Rattle.plain_calls.specs.Changes.{placed}
use Rattle.plain_calls.proofs.Changed.{both, replied_by, replied-as, replied-open, replied-closed}
use Rattle.plain_calls.proofs.PlainCalls.reply.Goals as goal

pub returns-in_default : goal.returns-in_default
returns-in_default c =
    let cs = c.args.self.now.calls.items in
    let ts = c.args.self.now.transit.items in
    ap (replied_by c.args.number c.args.status c.args.results cs ts) (c.in_default.ensures
    ∙ ap (at_number c.args.number) c.deref.ensures.value)
    ∙ replied-as c.args.number c.args.status c.args.results cs ts

pub returns-in_ok-push : goal.returns-in_ok-push
returns-in_ok-push c =
    let cs = c.args.self.now.calls.items in
    let ts = c.args.self.now.transit.items in
    both _ (calls_of (placed c.args.number (Answered c.args.status c.args.results) cs)) _ (ts ++ c.args.number ∷ [])
    (ap calls_of c.put_at.ensures) c.in_ok-push.ensures.items
    ∙ replied-open c.args.number c.args.status c.args.results cs ts c.in-Some.call.now
    (sym (c.in-Some.ensures ∙ ap (at_number c.args.number) c.deref.ensures.value)) c.if-call.true

pub returns-else-call : goal.returns-else-call
returns-else-call c =
    let cs = c.args.self.now.calls.items in
    let ts = c.args.self.now.transit.items in
    both _ (calls_of (placed c.args.number Done cs)) ts ts (ap calls_of c.put_at-else-call.ensures) refl
    ∙ replied-closed c.args.number c.args.status c.args.results cs ts c.in-Some.call.now
    (sym (c.in-Some.ensures ∙ ap (at_number c.args.number) c.deref.ensures.value)) c.if-call.false
