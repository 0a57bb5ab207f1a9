use Rattle.std.proofs.Common.{sym, ◌∙◌}
use Rattle.std.proofs.lemmas.Result.{err_from_is_err_and}
use Rattle.passive_store.specs.Seen.{disk_seen}
use Rattle.twin_store.specs.Sides.{side_seen}
use Rattle.twin_store.proofs.Agreeing.{second_left_refused, first_left_refused, second_left, first_left, both_left}
use Rattle.twin_store.proofs.Aloning.{second_unraised, first_unraised, second_raised_alone, first_raised_alone, none_alone}
use Rattle.twin_store.proofs.twin.TwinStore.leave_one.Goals as goal

pub returns-in_err-self-clause-agrees : goal.returns-in_err-self-clause-agrees
returns-in_err-self-clause-agrees g c = λ so l.
    let of = side_seen g.St.Store.seen (disk_seen g.St.Device.Disk.counts g.St.Device.Disk.told g.St.Device.Disk.due) in
    let p = err_from_is_err_and c.from_residual.result c.from_residual.ensures.1 in
    rw (p.1, p.2) (second_left_refused g.St.Device.Disk.tells g.St.Store.layout c.args.self.now.node c.args.self.now.generation so
    (of c.args.self.now.first) (of c.args.self.now.second) l _ (of c.raise.new.side)
    (sym c.in_use.ensures ∙ c.if-not-in_use.true) c.in_err-self.ensures)

pub returns-in_err-self-2-clause-agrees : goal.returns-in_err-self-2-clause-agrees
returns-in_err-self-2-clause-agrees g c = λ so l.
    let of = side_seen g.St.Store.seen (disk_seen g.St.Device.Disk.counts g.St.Device.Disk.told g.St.Device.Disk.due) in
    let p = err_from_is_err_and c.from_residual-in_err-self-2.result c.from_residual-in_err-self-2.ensures.1 in
    rw (p.1, p.2) (first_left_refused g.St.Device.Disk.tells g.St.Store.layout c.args.self.now.node c.args.self.now.generation so
    (of c.args.self.now.first) (of c.args.self.now.second) l _ (of c.raise-then-not-in_use-2.new.side)
    (sym c.in_use-else-not-in_use.ensures ∙ c.if-not-in_use-2.true) c.in_err-self-2.ensures)

pub returns-in_ok-self-clause-agrees : goal.returns-in_ok-self-clause-agrees
returns-in_ok-self-clause-agrees g c = λ so l.
    let of = side_seen g.St.Store.seen (disk_seen g.St.Device.Disk.counts g.St.Device.Disk.told g.St.Device.Disk.due) in
    second_left g.St.Device.Disk.tells g.St.Store.layout c.args.self.now.node c.args.self.now.generation so (of c.args.self.now.first)
    (of c.args.self.now.second) l c.in_ok-self.field-0 (of c.raise.new.side)
    (sym c.in_use.ensures ∙ c.if-not-in_use.true) c.in_ok-self.ensures

pub returns-in_ok-self-2-clause-agrees : goal.returns-in_ok-self-2-clause-agrees
returns-in_ok-self-2-clause-agrees g c = λ so l.
    let of = side_seen g.St.Store.seen (disk_seen g.St.Device.Disk.counts g.St.Device.Disk.told g.St.Device.Disk.due) in
    first_left g.St.Device.Disk.tells g.St.Store.layout c.args.self.now.node c.args.self.now.generation so (of c.args.self.now.first)
    (of c.args.self.now.second) l c.in_ok-self-2.field-0 (of c.raise-then-not-in_use-2.new.side)
    (sym c.in_use-else-not-in_use.ensures ∙ c.if-not-in_use-2.true) c.in_ok-self-2.ensures

pub returns-else-not-in_use-2-clause-agrees : goal.returns-else-not-in_use-2-clause-agrees
returns-else-not-in_use-2-clause-agrees g c = λ so l.
    let of = side_seen g.St.Store.seen (disk_seen g.St.Device.Disk.counts g.St.Device.Disk.told g.St.Device.Disk.due) in
    both_left g.St.Device.Disk.tells g.St.Store.layout c.args.self.now.node c.args.self.now.generation so (of c.args.self.now.first)
    (of c.args.self.now.second) l (sym c.in_use.ensures ∙ c.if-not-in_use.false)
    (sym c.in_use-else-not-in_use.ensures ∙ c.if-not-in_use-2.false)

pub returns-in_err-self-clause-raises : goal.returns-in_err-self-clause-raises
returns-in_err-self-clause-raises g c =
    let of = side_seen g.St.Store.seen (disk_seen g.St.Device.Disk.counts g.St.Device.Disk.told g.St.Device.Disk.due) in
    let p = err_from_is_err_and c.from_residual.result c.from_residual.ensures.1 in
    rw (p.1, p.2) (second_unraised g.St.Device.Disk.tells g.St.Store.layout c.args.self.now.node c.args.self.now.generation
    (of c.args.self.now.first) (of c.args.self.now.second) _ (of c.raise.new.side) (sym c.in_use.ensures ∙ c.if-not-in_use.true)
    c.in_err-self.ensures)

pub returns-in_err-self-2-clause-raises : goal.returns-in_err-self-2-clause-raises
returns-in_err-self-2-clause-raises g c =
    let of = side_seen g.St.Store.seen (disk_seen g.St.Device.Disk.counts g.St.Device.Disk.told g.St.Device.Disk.due) in
    let p = err_from_is_err_and c.from_residual-in_err-self-2.result c.from_residual-in_err-self-2.ensures.1 in
    rw (p.1, p.2) (first_unraised g.St.Device.Disk.tells g.St.Store.layout c.args.self.now.node c.args.self.now.generation
    (of c.args.self.now.first) (of c.args.self.now.second) _ (of c.raise-then-not-in_use-2.new.side)
    (sym c.in_use-else-not-in_use.ensures ∙ c.if-not-in_use-2.true) c.in_err-self-2.ensures)

pub returns-in_ok-self-clause-raises : goal.returns-in_ok-self-clause-raises
returns-in_ok-self-clause-raises g c =
    let of = side_seen g.St.Store.seen (disk_seen g.St.Device.Disk.counts g.St.Device.Disk.told g.St.Device.Disk.due) in
    second_raised_alone g.St.Device.Disk.tells g.St.Store.layout c.args.self.now.node c.args.self.now.generation
    (of c.args.self.now.first) (of c.args.self.now.second) c.in_ok-self.field-0 (of c.raise.new.side) c.in_ok-self.ensures

pub returns-in_ok-self-2-clause-raises : goal.returns-in_ok-self-2-clause-raises
returns-in_ok-self-2-clause-raises g c =
    let of = side_seen g.St.Store.seen (disk_seen g.St.Device.Disk.counts g.St.Device.Disk.told g.St.Device.Disk.due) in
    first_raised_alone g.St.Device.Disk.tells g.St.Store.layout c.args.self.now.node c.args.self.now.generation
    (of c.args.self.now.first) (of c.args.self.now.second) c.in_ok-self-2.field-0 (of c.raise-then-not-in_use-2.new.side)
    c.in_ok-self-2.ensures

pub returns-else-not-in_use-2-clause-raises : goal.returns-else-not-in_use-2-clause-raises
returns-else-not-in_use-2-clause-raises g c =
    let of = side_seen g.St.Store.seen (disk_seen g.St.Device.Disk.counts g.St.Device.Disk.told g.St.Device.Disk.due) in
    none_alone g.St.Device.Disk.tells g.St.Store.layout c.args.self.now.node c.args.self.now.generation
    (of c.args.self.now.first) (of c.args.self.now.second) (sym c.in_use.ensures ∙ c.if-not-in_use.false)
    (sym c.in_use-else-not-in_use.ensures ∙ c.if-not-in_use-2.false)
