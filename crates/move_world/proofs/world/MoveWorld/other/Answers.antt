use Rattle.std.proofs.Common.{sym, subst}
use Rattle.passive_store.specs.Seen.{disk_seen}
use Rattle.script_words.specs.Meaning.{written_mode}
use Rattle.move_world.specs.Kept.{rows}
use Rattle.move_world.specs.View.{answer_of, meant}
use Rattle.move_world.specs.Worlds.{standings, Steps}
use Rattle.move_world.proofs.Placing.{steps-fail, steps-stop}
use Rattle.move_world.proofs.world.MoveWorld.other.Goals as goal

pub returns-in-Crash-clause-steps : goal.returns-in-Crash-clause-steps
returns-in-Crash-clause-steps g c = λ so w of.
    let look = disk_seen g.St.Device.Disk.counts g.St.Device.Disk.told g.St.Device.Disk.due in
    subst (λ k. Steps g.St.Store.layout (meant k) (answer_of c.crash.result)
    (standings g.St.Store.seen look c.crash.new.self.seats.items) (rows c.crash.new.self.letters) w) (sym c.in-Crash.is)
    (c.crash.ensures.steps so w of)

pub returns-in-Fail-clause-steps : goal.returns-in-Fail-clause-steps
returns-in-Fail-clause-steps g c = λ so w of.
    let look = disk_seen g.St.Device.Disk.counts g.St.Device.Disk.told g.St.Device.Disk.due in
    subst (λ k. Steps g.St.Store.layout (meant k) (answer_of c.arm.result)
    (standings g.St.Store.seen look c.arm.new.self.seats.items) (rows c.arm.new.self.letters) w) (sym c.in-Fail.is)
    (steps-fail g.St.Store.layout c.in-Fail.n c.in-Fail.after (answer_of c.arm.result)
    (standings g.St.Store.seen look c.arm.new.self.seats.items) (rows c.arm.new.self.letters) w (c.arm.ensures.armed so w of))

pub returns-in-Stop-clause-steps : goal.returns-in-Stop-clause-steps
returns-in-Stop-clause-steps g c = λ so w of.
    let look = disk_seen g.St.Device.Disk.counts g.St.Device.Disk.told g.St.Device.Disk.due in
    subst (λ k. Steps g.St.Store.layout (meant k) (answer_of c.arm-in-Stop.result)
    (standings g.St.Store.seen look c.arm-in-Stop.new.self.seats.items) (rows c.arm-in-Stop.new.self.letters) w) (sym c.in-Stop.is)
    (steps-stop g.St.Store.layout c.in-Stop.n c.in-Stop.after (written_mode c.in-Stop.mode) (answer_of c.arm-in-Stop.result)
    (standings g.St.Store.seen look c.arm-in-Stop.new.self.seats.items) (rows c.arm-in-Stop.new.self.letters) w
    (c.arm-in-Stop.ensures.armed so w of))
