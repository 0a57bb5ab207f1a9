use Rattle.std.proofs.lemmas.Result.{IfOk-weaker}
use Rattle.passive_store.specs.Seen.{Seen}
use Rattle.edentypes.specs.View.{kind_in}
use Rattle.eden_kernel.proofs.Created.{node-creates}
use Rattle.eden_kernel.proofs.Node.create.Goals as goal

pub returns-clause-made : goal.returns-clause-made
returns-clause-made g c = λ so.
    let x : Seen = g.St.Store.seen c.args.self.now.store in
    IfOk-weaker c.create.result _ _ (λ made is m s fresh h.
    node-creates g.St.Store.layout c.args.types.now c.args.self.now.number x c.args.self.now.ejects c.create.new.self
    c.args.self.now.worker m (kind_in c.args.types.now c.args.kind) made s h (is s fresh h.calls.parts)) c.create.ensures
