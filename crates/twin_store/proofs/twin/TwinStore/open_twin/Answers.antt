use Rattle.passive_store.specs.Seen.{disk_seen}
use Rattle.twin_store.specs.Sides.{side_seen}
use Rattle.twin_store.specs.Twins.{twin_seen}
use Rattle.std.proofs.Common.{inl, inr, refl}
use Rattle.twin_store.proofs.Opened.{rose_in, opened_behind, fits_in}
use Rattle.twin_store.proofs.Stopping.{second_unopened, opened_then}
use Rattle.twin_store.proofs.Openings.{first_unopened, second_refused, opened_twin, closed_vouched}
use Rattle.twin_store.proofs.Aloning.{spent_opening, unopened_spent}
use Rattle.twin_store.proofs.twin.TwinStore.open_twin.Goals as goal

pub returns-in-Err-clause-vouched : goal.returns-in-Err-clause-vouched
returns-in-Err-clause-vouched g c = λ so l v k own h.
    let look = disk_seen g.St.Device.Disk.counts g.St.Device.Disk.told g.St.Device.Disk.due in
    let of = side_seen g.St.Store.seen look in
    first_unopened g.St.Store.layout c.args.node (look c.args.first) (look c.in-Err.disk) (look c.args.second) v k
    (c.in-Err.ensures.stands so) h

pub returns-in-Err-open-clause-vouched : goal.returns-in-Err-open-clause-vouched
returns-in-Err-open-clause-vouched g c =
    let look = disk_seen g.St.Device.Disk.counts g.St.Device.Disk.told g.St.Device.Disk.due in
    let of = side_seen g.St.Store.seen look in
    second_refused g.St.Device.Disk.tells g.St.Store.layout c.args.node (look c.args.first) (look c.args.second) (look c.in-Err-open.disk)
    (look c.close.result)
    (of c.in-Ok.side) c.close.ensures c.in-Ok.ensures.opened c.in-Err-open.ensures.stands

pub returns-in-Ok-agree-clause-opened : goal.returns-in-Ok-agree-clause-opened
returns-in-Ok-agree-clause-opened g c =
    let look = disk_seen g.St.Device.Disk.counts g.St.Device.Disk.told g.St.Device.Disk.due in
    let of = side_seen g.St.Store.seen look in
    opened_twin g.St.Device.Disk.tells g.St.Store.layout c.args.node 0 (look c.args.first) (look c.args.second) (of c.in-Ok.side)
    (of c.in-Ok-open.side)
    c.in-Ok.ensures.opened c.in-Ok-open.ensures.opened (twin_seen g.St.Store.seen look c.agree.new.self)
    c.in-Ok-agree.ensures.moves c.in-Ok-agree.ensures.agrees c.in-Ok-agree.ensures.greatest

pub returns-in-Err-agree-clause-vouched : goal.returns-in-Err-agree-clause-vouched
returns-in-Err-agree-clause-vouched g c =
    let look = disk_seen g.St.Device.Disk.counts g.St.Device.Disk.told g.St.Device.Disk.due in
    let of = side_seen g.St.Store.seen look in
    closed_vouched g.St.Device.Disk.tells g.St.Store.layout c.args.node 0 (look c.args.first) (look c.args.second) (of c.in-Ok.side)
    (of c.in-Ok-open.side)
    c.in-Ok.ensures.opened c.in-Ok-open.ensures.opened (twin_seen g.St.Store.seen look c.agree.new.self) c.in-Err-agree.refusal
    (look c.close-first.result.0) (look c.close-first.result.1) c.close-first.ensures.0 c.close-first.ensures.1
    c.in-Err-agree.ensures.moves c.in-Err-agree.ensures.agrees

pub returns-in-Err-clause-counts : goal.returns-in-Err-clause-counts
returns-in-Err-clause-counts g c = (inl c.in-Err.ensures.same, inl refl)

pub returns-in-Err-open-clause-counts : goal.returns-in-Err-open-clause-counts
returns-in-Err-open-clause-counts g c =
    let look = disk_seen g.St.Device.Disk.counts g.St.Device.Disk.told g.St.Device.Disk.due in (
      rose_in g.St.Device.Disk.tells g.St.Store.layout c.args.node (look c.args.first) (look c.close.result)
          (side_seen g.St.Store.seen look c.in-Ok.side) c.close.ensures c.in-Ok.ensures.opened.by,
      inl c.in-Err-open.ensures.same,
    )

pub returns-in-Err-agree-clause-counts : goal.returns-in-Err-agree-clause-counts
returns-in-Err-agree-clause-counts g c =
    let look = disk_seen g.St.Device.Disk.counts g.St.Device.Disk.told g.St.Device.Disk.due in
    let t = twin_seen g.St.Store.seen look c.agree.new.self in
    let of = side_seen g.St.Store.seen look in (
      rose_in g.St.Device.Disk.tells g.St.Store.layout c.args.node (look c.args.first) (look c.close-first.result.0) t.first
          c.close-first.ensures.0
          (opened_behind g.St.Device.Disk.tells g.St.Store.layout c.args.node (look c.args.first) (of c.in-Ok.side) t.first
          c.in-Ok.ensures.opened.by c.in-Err-agree.ensures.moves.first),
      rose_in g.St.Device.Disk.tells g.St.Store.layout c.args.node (look c.args.second) (look c.close-first.result.1) t.second
          c.close-first.ensures.1
          (opened_behind g.St.Device.Disk.tells g.St.Store.layout c.args.node (look c.args.second) (of c.in-Ok-open.side) t.second
          c.in-Ok-open.ensures.opened.by c.in-Err-agree.ensures.moves.second),
    )

pub returns-in-Err-clause-stopped : goal.returns-in-Err-clause-stopped
returns-in-Err-clause-stopped g c = inl (c.in-Err.ensures.stops, refl)

pub returns-in-Err-open-clause-stopped : goal.returns-in-Err-open-clause-stopped
returns-in-Err-open-clause-stopped g c =
    let look = disk_seen g.St.Device.Disk.counts g.St.Device.Disk.told g.St.Device.Disk.due in
    second_unopened c.in-Err-open.refusal (look c.args.first) (look c.close.result) (look c.args.second) (look c.in-Err-open.disk)
    (side_seen g.St.Store.seen look c.in-Ok.side) c.close.ensures c.in-Ok.ensures.opened.stops c.in-Err-open.ensures.stops

pub returns-in-Err-agree-clause-stopped : goal.returns-in-Err-agree-clause-stopped
returns-in-Err-agree-clause-stopped g c =
    let look = disk_seen g.St.Device.Disk.counts g.St.Device.Disk.told g.St.Device.Disk.due in
    let t = twin_seen g.St.Store.seen look c.agree.new.self in
    let of = side_seen g.St.Store.seen look in
    opened_then c.in-Err-agree.refusal (look c.args.first) (look c.close-first.result.0) (look c.args.second)
    (look c.close-first.result.1) (of c.in-Ok.side) (of c.in-Ok-open.side) t.first t.second c.close-first.ensures.0
    c.close-first.ensures.1 c.in-Ok.ensures.opened.stops c.in-Ok-open.ensures.opened.stops c.in-Err-agree.ensures.moves.stopped

pub returns-in-Err-clause-spent : goal.returns-in-Err-clause-spent
returns-in-Err-clause-spent g c = λ is. unopened_spent c.in-Err.refusal c.in-Err.ensures.refused is

pub returns-in-Err-open-clause-spent : goal.returns-in-Err-open-clause-spent
returns-in-Err-open-clause-spent g c = λ is. unopened_spent c.in-Err-open.refusal c.in-Err-open.ensures.refused is

pub returns-in-Err-agree-clause-spent : goal.returns-in-Err-agree-clause-spent
returns-in-Err-agree-clause-spent g c =
    let look = disk_seen g.St.Device.Disk.counts g.St.Device.Disk.told g.St.Device.Disk.due in
    let of = side_seen g.St.Store.seen look in
    spent_opening g.St.Device.Disk.tells g.St.Store.layout c.args.node 0 (look c.args.first) (look c.args.second) (of c.in-Ok.side)
    (of c.in-Ok-open.side) c.in-Ok.ensures.opened c.in-Ok-open.ensures.opened (twin_seen g.St.Store.seen look c.agree.new.self)
    c.in-Err-agree.refusal (look c.close-first.result.0) (look c.close-first.result.1) c.close-first.ensures.0 c.close-first.ensures.1
    c.in-Err-agree.ensures.moves c.in-Err-agree.ensures.alone c.in-Err-agree.ensures.greatest

pub returns-in-Err-clause-overfull : goal.returns-in-Err-clause-overfull
returns-in-Err-clause-overfull g c = λ so l. inl c.in-Err.ensures.refused

pub returns-in-Err-open-clause-overfull : goal.returns-in-Err-open-clause-overfull
returns-in-Err-open-clause-overfull g c = λ so l. inl c.in-Err-open.ensures.refused

pub returns-in-Err-agree-clause-overfull : goal.returns-in-Err-agree-clause-overfull
returns-in-Err-agree-clause-overfull g c = λ so l.
    let look = disk_seen g.St.Device.Disk.counts g.St.Device.Disk.told g.St.Device.Disk.due in
    let t = twin_seen g.St.Store.seen look c.agree.new.self in
    let of = side_seen g.St.Store.seen look in
    inr (
      fits_in g.St.Device.Disk.tells g.St.Store.layout c.args.node (look c.args.first) (look c.close-first.result.0) (of c.in-Ok.side) t.first
          c.close-first.ensures.0 so l c.in-Ok.ensures.opened.by c.in-Err-agree.ensures.moves.first,
      fits_in g.St.Device.Disk.tells g.St.Store.layout c.args.node (look c.args.second) (look c.close-first.result.1)
          (of c.in-Ok-open.side) t.second c.close-first.ensures.1 so l c.in-Ok-open.ensures.opened.by
          c.in-Err-agree.ensures.moves.second,
    )
