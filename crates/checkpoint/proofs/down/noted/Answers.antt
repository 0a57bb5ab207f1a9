use Rattle.std.proofs.Common.{sym}
use Rattle.checkpoint.proofs.Crashing.{noted-none, noted-some}
use Rattle.checkpoint.proofs.down.noted.Goals as goal

pub returns-in-None : goal.returns-in-None
returns-in-None g c = λ so. sym (noted-none (g.St.Store.seen c.args.store.now).work (g.St.Store.seen c.args.store.now).kept
    (sym c.in-None.ensures))

pub returns-in-Some : goal.returns-in-Some
returns-in-Some g c = λ so. sym (noted-some (g.St.Store.seen c.args.store.now).work (g.St.Store.seen c.args.store.now).kept
    (record { uid = c.in-Some.uid; mark = c.mark.result }) (sym c.in-Some.ensures) (c.mark.ensures so))
