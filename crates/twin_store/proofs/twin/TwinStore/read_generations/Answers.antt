use Rattle.std.proofs.Common.{ap, ◌∙◌}
use Rattle.std.specs.Prelude.{max, unwrap_or}
use Rattle.std.proofs.lemmas.Result.{err_from_is_err_and}
use Rattle.passive_store.specs.Seen.{disk_seen}
use Rattle.twin_store.specs.Sides.{side_seen}
use Rattle.twin_store.proofs.Reading.{reads_refused_first, reads_refused_second, reads_both}
use Rattle.twin_store.proofs.twin.TwinStore.read_generations.Goals as goal

pub returns-in_err-first-clause-reads : goal.returns-in_err-first-clause-reads
returns-in_err-first-clause-reads g c = λ so rest.
    let of = side_seen g.St.Store.seen (disk_seen g.St.Device.Disk.counts g.St.Device.Disk.told g.St.Device.Disk.due) in
    let p = err_from_is_err_and c.from_residual.result c.from_residual.ensures.1 in
    rw (p.1, p.2) (reads_refused_first g.St.Device.Disk.tells g.St.Store.layout c.args.self.now.node c.args.self.now.generation so _
    (of c.args.self.now.first) (of c.generation.new.side) (of c.args.self.now.second) c.in_err-first.ensures)

pub returns-in_err-second-clause-reads : goal.returns-in_err-second-clause-reads
returns-in_err-second-clause-reads g c = λ so rest.
    let of = side_seen g.St.Store.seen (disk_seen g.St.Device.Disk.counts g.St.Device.Disk.told g.St.Device.Disk.due) in
    let p = err_from_is_err_and c.from_residual-in_err-second.result c.from_residual-in_err-second.ensures.1 in
    rw (p.1, p.2) (reads_refused_second g.St.Device.Disk.tells g.St.Store.layout c.args.self.now.node c.args.self.now.generation so
    c.in_ok-first.first _ (of c.args.self.now.first) (of c.generation.new.side)
    (of c.args.self.now.second) (of c.generation-2.new.side) c.in_ok-first.ensures c.in_err-second.ensures)

pub returns-clause-reads : goal.returns-clause-reads
returns-clause-reads g c = λ so rest.
    let of = side_seen g.St.Store.seen (disk_seen g.St.Device.Disk.counts g.St.Device.Disk.told g.St.Device.Disk.due) in
    reads_both g.St.Device.Disk.tells g.St.Store.layout c.args.self.now.node c.args.self.now.generation so c.in_ok-first.first
    c.in_ok-second.second _ (of c.args.self.now.first) (of c.generation.new.side)
    (of c.args.self.now.second) (of c.generation-2.new.side) c.in_ok-first.ensures c.in_ok-second.ensures
    (c.max-self.ensures ∙ ap (λ k. max k c.unwrap_or-2.result) c.unwrap_or.ensures
    ∙ ap (λ k. max (unwrap_or c.in_ok-first.first 0) k) c.unwrap_or-2.ensures) rest
