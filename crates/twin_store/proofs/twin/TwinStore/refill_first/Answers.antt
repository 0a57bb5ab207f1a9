use Rattle.std.proofs.Common.{sym, arith}
use Rattle.std.proofs.lemmas.Result.{err_from_is_err_and}
use Rattle.passive_store.specs.Seen.{disk_seen}
use Rattle.twin_store.specs.Sides.{side_seen}
use Rattle.twin_store.proofs.Levelling.{refilled_first_refused, refilled_first_alone, refilled_first_unput, refilled_first}
use Rattle.twin_store.proofs.twin.TwinStore.refill_first.Goals as goal

pub returns-in_err-copy-clause-levels : goal.returns-in_err-copy-clause-levels
returns-in_err-copy-clause-levels g c = λ so l.
    let of = side_seen g.St.Store.seen (disk_seen g.St.Device.Disk.counts g.St.Device.Disk.told g.St.Device.Disk.due) in
    let p = err_from_is_err_and c.from_residual.result c.from_residual.ensures.1 in
    rw (p.1, p.2) (refilled_first_refused g.St.Store.layout c.args.self.now.node c.args.self.now.generation _ (of c.args.self.now.first)
    (of c.args.self.now.second) (of c.copy.new.target) (of c.copy.new.source) l
    (c.in_err-copy.ensures.copied so l.right_rests l.lesser_rests l.sound))

pub returns-in_err-put_generation-clause-levels : goal.returns-in_err-put_generation-clause-levels
returns-in_err-put_generation-clause-levels g c = λ so l.
    let of = side_seen g.St.Store.seen (disk_seen g.St.Device.Disk.counts g.St.Device.Disk.told g.St.Device.Disk.due) in
    let p = err_from_is_err_and c.from_residual-in_err-put_generation.result c.from_residual-in_err-put_generation.ensures.1 in
    rw (p.1, p.2) (refilled_first_unput g.St.Device.Disk.tells g.St.Store.layout c.args.self.now.node c.args.self.now.generation so
    (of c.args.self.now.first) (of c.args.self.now.second) (of c.copy.new.target) (of c.copy.new.source) l c.in_ok-copy.ensures.both.source
    (c.in_ok-copy.ensures.copied so l.right_rests l.lesser_rests l.sound)
    _ (of c.put_generation.new.side) (sym c.if-in_use.ensures) (omega arith) c.in_err-put_generation.ensures)

pub returns-in_ok-put_generation-clause-levels : goal.returns-in_ok-put_generation-clause-levels
returns-in_ok-put_generation-clause-levels g c = λ so l.
    let of = side_seen g.St.Store.seen (disk_seen g.St.Device.Disk.counts g.St.Device.Disk.told g.St.Device.Disk.due) in
    refilled_first g.St.Device.Disk.tells g.St.Store.layout c.args.self.now.node c.args.self.now.generation so
    (of c.args.self.now.first) (of c.args.self.now.second) (of c.copy.new.target) (of c.copy.new.source) l c.in_ok-copy.ensures.both.source
    (c.in_ok-copy.ensures.copied so l.right_rests l.lesser_rests l.sound)
    c.in_ok-put_generation.field-0 (of c.put_generation.new.side) (sym c.if-in_use.ensures) (omega arith) c.in_ok-put_generation.ensures

pub returns-else-in_use-clause-levels : goal.returns-else-in_use-clause-levels
returns-else-in_use-clause-levels g c = λ so l.
    let of = side_seen g.St.Store.seen (disk_seen g.St.Device.Disk.counts g.St.Device.Disk.told g.St.Device.Disk.due) in
    refilled_first_alone g.St.Device.Disk.tells g.St.Store.layout c.args.self.now.node c.args.self.now.generation so
    (of c.args.self.now.first) (of c.args.self.now.second) (of c.copy.new.target) (of c.copy.new.source) l c.in_ok-copy.ensures.both.source
    (c.in_ok-copy.ensures.copied so l.right_rests l.lesser_rests l.sound)
    (sym c.if-in_use.ensures)
