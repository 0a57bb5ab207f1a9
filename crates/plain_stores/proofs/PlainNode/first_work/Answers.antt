use Rattle.std.proofs.Common.{◌∙◌, false, sym, true}
use Rattle.plain_stores.specs.View.{request_of, site_of}
use Rattle.plain_stores.proofs.Nodes.{first-as, first-unkept}
use Rattle.plain_stores.proofs.PlainNode.first_work.Goals as goal

pub returns-then-finds_room : goal.returns-then-finds_room
returns-then-finds_room c ts t order = first-as (site_of ts t c.args.self.now) (request_of c.args.request.now) true true
    (sym (c.needs_calls.ensures ts t) ∙ c.if-needs_calls.true) (sym (c.finds_room.ensures ts t order) ∙ c.if-finds_room.true)

pub returns-else-finds_room : goal.returns-else-finds_room
returns-else-finds_room c ts t order = first-as (site_of ts t c.args.self.now) (request_of c.args.request.now) true false
    (sym (c.needs_calls.ensures ts t) ∙ c.if-needs_calls.true) (sym (c.finds_room.ensures ts t order) ∙ c.if-finds_room.false)

pub returns-else-needs_calls : goal.returns-else-needs_calls
returns-else-needs_calls c ts t order = first-unkept (site_of ts t c.args.self.now) (request_of c.args.request.now)
    (sym (c.needs_calls.ensures ts t) ∙ c.if-needs_calls.false)
