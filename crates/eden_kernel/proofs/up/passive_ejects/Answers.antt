use Rattle.passive_store.specs.Seen.{Seen}
use Rattle.eden_kernel.proofs.Noted.{listing-first, listing-more, listing-last, none-left}
use Rattle.eden_kernel.proofs.up.passive_ejects.Goals as goal

pub loop-next-init : goal.loop-next-init
loop-next-init g c =
    let x : Seen = g.St.Store.seen c.args.store.now in
    listing-first g.St.Device.Disk.tells c.args.number c.args.epoch x c.in_ok-ejects.ejects c.next_kept-next.result c.requires.number
    c.in_ok-ejects.ensures c.next_kept-next.ensures.own c.next_kept-next.ensures.later c.next_kept-next.ensures.next

pub loop-next-preserved : goal.loop-next-preserved
loop-next-preserved g c =
    let x : Seen = g.St.Store.seen c.args.store.now in
    listing-more g.St.Device.Disk.tells c.args.number c.args.epoch x c.loop-next.ejects c.note.new.self c.loop-next.next
    c.next_kept-next-in-Some.result c.in-Some.uid c.requires.number c.in-Some.is c.loop-next.invariant c.in_ok-note.ensures
    c.next_kept-next-in-Some.ensures.own c.next_kept-next-in-Some.ensures.later c.next_kept-next-in-Some.ensures.next

pub note-requires : goal.note-requires
note-requires g c = λ ts. c.loop-next.invariant.asleep ts c.in-Some.uid

pub returns : goal.returns
returns g c = λ so ts.
    let x : Seen = g.St.Store.seen c.args.store.now in
    listing-last g.St.Device.Disk.tells c.args.number c.args.epoch x c.loop-next.ejects c.loop-next.next
    (none-left c.loop-next.next c.in_default.not-Some) c.loop-next.invariant so ts
