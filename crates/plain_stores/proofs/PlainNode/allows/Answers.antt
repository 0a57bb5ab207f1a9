use Rattle.std.proofs.Common.{◌↔◌, IsTrue, refl, subst, sym}
use Rattle.journal.specs.Stores.{AllowsStore}
use Rattle.plain_stores.specs.View.{node_of, request_of, site_of}
use Rattle.plain_stores.proofs.Nodes.{allows-as}
use Rattle.plain_stores.proofs.PlainNode.allows.Goals as goal

pub returns : goal.returns
returns c ts t order =
    let s = site_of ts t c.args.self.now in
    let r = request_of c.args.request.now in
    subst (λ b. IsTrue b ↔ AllowsStore s c.args.uid c.args.end c.args.pick r) (sym c.are_all.ensures)
    (allows-as s c.args.uid c.args.end c.args.pick r c.is_same.result c.may_end.result c.has_call_left.result _ c.makes_own_call-own.result
    c.is_same.ensures c.may_end.ensures c.makes_own_call-own.ensures (c.has_call_left.ensures r (node_of ts c.args.self.now) refl refl)
    (c.work_for-work.ensures ts t order))
