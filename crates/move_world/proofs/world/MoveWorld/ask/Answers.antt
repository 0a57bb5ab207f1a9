use Rattle.std.proofs.Common.{◌-◌, ap, sym, ◌∙◌, Vec, Global}
use Rattle.std.proofs.lemmas.List.{length-map}
use Rattle.eden_move.specs.declared.letter.Letter.{Letter}
use Rattle.passive_store.specs.Seen.{disk_seen}
use Rattle.move_world.specs.Kept.{rows}
use Rattle.move_world.specs.Asking.{uid_in, call_in}
use Rattle.move_world.proofs.Seating.{wanders}
use Rattle.move_world.proofs.Placing.{place-sound, place-stands, place-world, place-kept, place-asked, place-asked-in}
use Rattle.move_world.proofs.Placing.{place-counted}
use Rattle.move_world.specs.Counting.{end_in}
use Rattle.move_world.specs.View.{answer_of}
use Rattle.move_world.proofs.world.MoveWorld.ask.Goals as goal

pub ask_seat-requires-clause-sound : goal.ask_seat-requires-clause-sound
ask_seat-requires-clause-sound g c =
    place-sound g.St.Store.seen (disk_seen g.St.Device.Disk.counts g.St.Device.Disk.told g.St.Device.Disk.due) c.args.self.now.seats.items
    (rows c.args.self.now.letters) c.args.n (c.from.result - 1) _ c.index_mut.result.now c.index_mut.result.now
    (ap (λ k. k - 1) c.from.ensures) c.requires.node c.requires.world.seats c.index_mut.ensures.value c.requires.world

pub note-requires-clause-count : goal.note-requires-clause-count
note-requires-clause-count g c =
    sym (length-map c.args.self.now.letters.lists.items (λ (v : Vec Letter Global). v.items)) ∙ c.requires.world.letters

pub returns-in_err-answer-clause-world : goal.returns-in_err-answer-clause-world
returns-in_err-answer-clause-world g c =
    place-world g.St.Store.seen (disk_seen g.St.Device.Disk.counts g.St.Device.Disk.told g.St.Device.Disk.due) c.args.self.now.seats.items
    (rows c.args.self.now.letters) c.args.n (c.from.result - 1) _ c.index_mut.result.now c.ask_seat.new.seat
    (ap (λ k. k - 1) c.from.ensures) c.requires.node c.requires.world.seats c.index_mut.ensures.value c.requires.world
    c.ask_seat.ensures.sound

pub returns-in_err-note-clause-world : goal.returns-in_err-note-clause-world
returns-in_err-note-clause-world g c =
    place-kept g.St.Store.seen (disk_seen g.St.Device.Disk.counts g.St.Device.Disk.told g.St.Device.Disk.due) c.args.self.now.seats.items
    (rows c.args.self.now.letters) c.args.n (c.from.result - 1) _ c.index_mut.result.now c.ask_seat.new.seat
    (ap (λ k. k - 1) c.from.ensures) c.requires.node c.requires.world.seats c.index_mut.ensures.value
    (rows c.note.new.self) c.requires.world c.ask_seat.ensures.sound c.in_err-note.ensures.same

pub returns-clause-world : goal.returns-clause-world
returns-clause-world g c =
    place-asked g.St.Store.seen (disk_seen g.St.Device.Disk.counts g.St.Device.Disk.told g.St.Device.Disk.due) c.args.self.now.seats.items
    (rows c.args.self.now.letters) c.args.n (c.from.result - 1) _ c.index_mut.result.now c.ask_seat.new.seat
    (ap (λ k. k - 1) c.from.ensures) c.requires.node c.requires.world.seats c.index_mut.ensures.value
    (rows c.note.new.self) (uid_in c.args.n c.args.what.now) c.in_ok-answer.answer c.requires.world c.ask_seat.ensures.sound
    (length-map c.note.new.self.lists.items (λ (v : Vec Letter Global). v.items) ∙ c.note.ensures.count)
    (wanders c.args.n c.args.what.now c.requires.node c.requires.may) c.in_ok-answer.ensures.about c.in_ok-note.ensures.noted

pub returns-clause-asked : goal.returns-clause-asked
returns-clause-asked g c = λ so call w of.
    place-asked-in g.St.Store.seen (disk_seen g.St.Device.Disk.counts g.St.Device.Disk.told g.St.Device.Disk.due)
    c.args.self.now.seats.items
    (rows c.args.self.now.letters) c.args.n (c.from.result - 1) _ c.index_mut.result.now c.ask_seat.new.seat
    (ap (λ k. k - 1) c.from.ensures) c.requires.node c.requires.world.seats c.index_mut.ensures.value
    g.St.Store.layout (rows c.note.new.self) (uid_in c.args.n c.args.what.now) (call_in c.args.what.now) c.in_ok-answer.answer w
    c.requires.world of c.in_ok-answer.ensures.about c.in_ok-note.ensures.noted
    (c.in_ok-answer.ensures.asked so call w of.fit
    (place-stands g.St.Store.seen (disk_seen g.St.Device.Disk.counts g.St.Device.Disk.told g.St.Device.Disk.due) c.args.self.now.seats.items
    (rows c.args.self.now.letters) c.args.n (c.from.result - 1) _ c.index_mut.result.now c.ask_seat.new.seat
    (ap (λ k. k - 1) c.from.ensures) c.requires.node c.requires.world.seats c.index_mut.ensures.value g.St.Store.layout w of))

pub returns-clause-counted : goal.returns-clause-counted
returns-clause-counted g c =
    place-counted g.St.Store.seen (disk_seen g.St.Device.Disk.counts g.St.Device.Disk.told g.St.Device.Disk.due) c.args.self.now.seats.items
    (rows c.args.self.now.letters) c.args.n (c.from.result - 1) _ c.index_mut.result.now c.ask_seat.new.seat
    (ap (λ k. k - 1) c.from.ensures) c.requires.node c.requires.world.seats c.index_mut.ensures.value (end_in (answer_of c.in_ok-answer.answer))
    c.in_ok-answer.ensures.counted
