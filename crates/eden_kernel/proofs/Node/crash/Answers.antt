use Rattle.passive_store.specs.Seen.{Seen}
use Rattle.checkpoint.specs.Asked.{requests_of}
use Rattle.eden_kernel.proofs.Booted.{asleep-crashed}
use Rattle.passive_store.specs.Seen.{disk_seen}
use Rattle.eden_kernel.proofs.Showing.{shows-crash}
use Rattle.eden_kernel.proofs.Node.crash.Goals as goal

pub returns-clause-asleep : goal.returns-clause-asleep
returns-clause-asleep g c = λ s clock. asleep-crashed clock s

pub returns-clause-turn : goal.returns-clause-turn
returns-clause-turn g c = λ so ts m s h.
    let x : Seen = g.St.Store.seen c.args.self.store in
    let asked = requests_of x.work c.args.self.worker.requests.items in
    record {
      allowed = h.disk.up;
      falls = record { rests = c.crash.ensures.rests so s asked h.disk; disk = c.crash.ensures.disk so s asked h.disk };
    }

pub returns-clause-shows : goal.returns-clause-shows
returns-clause-shows g c = shows-crash g.St.Device.Disk.obeys c.args.self.number (g.St.Store.seen c.args.self.store).disk
    (disk_seen g.St.Device.Disk.counts g.St.Device.Disk.told g.St.Device.Disk.due c.crash.result.0) c.crash.ensures.counts
    c.crash.ensures.due
