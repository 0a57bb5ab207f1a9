use Rattle.std.proofs.Common.{sym, ◌∙◌, ap}
use Rattle.std.specs.Prelude.{option_copied}
use Rattle.eden_world.proofs.Looks.{open-there, open-none}
use Rattle.eden_world.proofs.machine.WorldMachine.is_open.Goals as goal

pub returns-in-Some : goal.returns-in-Some
returns-in-Some g c = λ more w reached stands.
    open-there c.args.self.now.calls w.traffic stands.world.calls c.args.call c.in-Some.call.now
    (sym c.call.ensures ∙ ap option_copied c.in-Some.is)

pub returns-in-None : goal.returns-in-None
returns-in-None g c = λ more w reached stands.
    open-none c.args.self.now.calls w.traffic stands.world.calls c.args.call (sym c.call.ensures ∙ ap option_copied c.in-None.is)
