use Rattle.plain_stores.proofs.Nodes.{boot-began, boot-not-begun, boot-up}
use Rattle.plain_stores.proofs.PlainNode.boot.Goals as goal

pub returns-in-Up : goal.returns-in-Up
returns-in-Up c ts t = boot-up ts t c.args.self.now c.settle.new.self c.args.epoch c.args.end c.args.pick c.args.began
    (c.settle.ensures ts t) c.in-Up.is

pub returns-then-began : goal.returns-then-began
returns-then-began c ts t = boot-began ts t c.args.self.now c.settle.new.self c.args.epoch c.args.end c.args.pick c.args.began
    (c.settle.ensures ts t) c.in_default.not-Up c.if-began.true

pub returns-else-began : goal.returns-else-began
returns-else-began c ts t = boot-not-begun ts t c.args.self.now c.settle.new.self c.args.epoch c.args.end c.args.pick c.args.began
    (c.settle.ensures ts t) c.in_default.not-Up c.if-began.false
