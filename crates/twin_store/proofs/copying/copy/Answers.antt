use Rattle.std.proofs.Common.{sym, subst}
use Rattle.std.proofs.lemmas.Result.{err_from_is_err_and}
use Rattle.passive_store.specs.Seen.{disk_seen}
use Rattle.twin_store.specs.Vouched.{generation_in}
use Rattle.twin_store.specs.Sides.{side_seen, bodies_on}
use Rattle.twin_store.proofs.Carrying.{IsCleared, cleared, begun, copied_uncleared, copied_unbegun, copied}
use Rattle.twin_store.proofs.copying.copy.Goals as goal
use Rattle.twin_store.proofs.copying.copy.Goals.{then-all+in_ok-begin_filling, else-all}

pub returns-in_err-clear-clause-copied : goal.returns-in_err-clear-clause-copied
returns-in_err-clear-clause-copied g c = λ so rest target_rest sound.
    let of = side_seen g.St.Store.seen (disk_seen g.St.Device.Disk.counts g.St.Device.Disk.told g.St.Device.Disk.due) in
    let p = err_from_is_err_and c.from_residual.result c.from_residual.ensures.1 in
    rw (p.1, p.2) (copied_uncleared g.St.Store.layout c.args.all c.args.node _ (of c.args.source.now) (of c.args.target.now)
    (of c.clear.new.target)
    rest target_rest (c.in_err-clear.ensures.clears so rest.used))

pub returns-in_err-begin_filling-clause-copied : goal.returns-in_err-begin_filling-clause-copied
returns-in_err-begin_filling-clause-copied g c = λ so rest target_rest sound.
    let of = side_seen g.St.Store.seen (disk_seen g.St.Device.Disk.counts g.St.Device.Disk.told g.St.Device.Disk.due) in
    let p = err_from_is_err_and c.from_residual-in_err-begin_filling.result c.from_residual-in_err-begin_filling.ensures.1 in
    rw (p.1, p.2) (copied_unbegun g.St.Store.layout c.args.all c.args.node _ (of c.args.source.now) (of c.args.target.now)
    (of c.clear.new.target)
    (of c.begin_filling.new.side) rest
    (cleared g.St.Store.layout c.args.all c.args.node (of c.args.source.now) (of c.args.target.now) (of c.clear.new.target) target_rest
    (c.in_ok-clear.ensures.clears so rest.used))
    c.in_err-begin_filling.ensures.moves.goes (c.in_err-begin_filling.ensures.begins so))

pub returns-clause-copied : goal.returns-clause-copied
returns-clause-copied g c = λ so rest target_rest sound.
    let of = side_seen g.St.Store.seen (disk_seen g.St.Device.Disk.counts g.St.Device.Disk.told g.St.Device.Disk.due) in
    let source = of c.args.source.now in
    let old = of c.args.target.now in
    let g_is = generation_in c.args.node (bodies_on old) in
    let done = cleared g.St.Store.layout c.args.all c.args.node source old (of c.clear.new.target) target_rest
    (c.in_ok-clear.ensures.clears so rest.used) in
    copied g.St.Store.layout c.args.all c.args.node c.copy_all.result source old (of c.copy_all.new.source) (of c.if-all.target)
    (of c.copy_all.new.target)
    rest sound
    (elim c.if-all.branch [
      | then-all+in_ok-begin_filling w ↦
          subst (λ t. IsCleared g.St.Store.layout c.args.all c.args.node g_is (bodies_on source) (bodies_on old) (of t)) (sym w.target-is)
          (begun g.St.Store.layout c.args.all c.args.node g_is (bodies_on source) (bodies_on old) (of c.clear.new.target)
          (of w.begin_filling.new.side) done
          w.in_ok-begin_filling.ensures.moves.goes (w.in_ok-begin_filling.ensures.begins so))
      | else-all w ↦
          subst (λ t. IsCleared g.St.Store.layout c.args.all c.args.node g_is (bodies_on source) (bodies_on old) (of t)) (sym w.target-is)
          done
    ])
    (c.copy_all.ensures.copies so)
