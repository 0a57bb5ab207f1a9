use Rattle.std.proofs.lemmas.Result.{err_from_is_err_and}
use Rattle.passive_store.specs.Seen.{disk_seen}
use Rattle.twin_store.specs.Sides.{side_seen}
use Rattle.twin_store.specs.Twins.{twin_seen}
use Rattle.twin_store.proofs.Bringing.{brought_refused, brought, brought_level, brought_on}
use Rattle.twin_store.proofs.twin.TwinStore.bring_second.Goals as goal

pub returns-in_err-bring-clause-levels : goal.returns-in_err-bring-clause-levels
returns-in_err-bring-clause-levels g c = λ so l.
    let of = side_seen g.St.Store.seen (disk_seen g.St.Device.Disk.counts g.St.Device.Disk.told g.St.Device.Disk.due) in
    let p = err_from_is_err_and c.from_residual.result c.from_residual.ensures.1 in
    rw (p.1, p.2) (brought_refused g.St.Store.layout c.args.self.now.node c.args.self.now.generation _ (of c.args.self.now.first)
    (of c.args.self.now.second) (of c.bring.new.target) (of c.bring.new.source) l
    (c.in_err-bring.ensures.copied so l.first_rests l.second_rests l.sound))

pub returns-then-self-eq0-clause-levels : goal.returns-then-self-eq0-clause-levels
returns-then-self-eq0-clause-levels g c = λ so l.
    let of = side_seen g.St.Store.seen (disk_seen g.St.Device.Disk.counts g.St.Device.Disk.told g.St.Device.Disk.due) in
    let twin = twin_seen g.St.Store.seen (disk_seen g.St.Device.Disk.counts g.St.Device.Disk.told g.St.Device.Disk.due) in
    let done = c.in_ok-bring.ensures.copied so l.first_rests l.second_rests l.sound in
    let moves = c.begin_both.ensures.moves in
    brought_on g.St.Store.layout c.args.self.now.node c.args.self.now.generation c.begin_both.result (of c.args.self.now.first)
    (of c.args.self.now.second) (of c.bring.new.target) (of c.bring.new.source) (twin c.begin_both.new.self) l
    c.in_ok-bring.ensures.both.source done moves.node moves.first moves.second
    (c.begin_both.ensures.levels so
    (brought g.St.Store.layout c.args.self.now.node c.args.self.now.generation (of c.args.self.now.first) (of c.args.self.now.second)
    (of c.bring.new.target) (of c.bring.new.source) l done))

pub returns-clause-levels : goal.returns-clause-levels
returns-clause-levels g c = λ so l.
    let of = side_seen g.St.Store.seen (disk_seen g.St.Device.Disk.counts g.St.Device.Disk.told g.St.Device.Disk.due) in
    brought_level g.St.Store.layout c.args.self.now.node c.args.self.now.generation (of c.args.self.now.first) (of c.args.self.now.second)
    (of c.bring.new.target) (of c.bring.new.source) l c.in_ok-bring.ensures.both.source
    (c.in_ok-bring.ensures.copied so l.first_rests l.second_rests l.sound) c.if-self-eq0.false
