use Rattle.std.specs.FinMap.{get}
use Rattle.epl_syntax.specs.Rules.OfTypes.{native_only}
use Rattle.ejects.proofs.Noting.{asleep-passive}
use Rattle.ejects.proofs.Waking.{woken-in}
use Rattle.ejects.proofs.Ejects.enter.Goals.{in-Ok, in-Err}
use Rattle.ejects.proofs.Ejects.enter.Goals as goal

pub wake-requires : goal.wake-requires
wake-requires c = asleep-passive native_only (get c.args.self.now.table.standings c.args.uid) (c.requires native_only)

pub returns : goal.returns
returns c =
    elim c.match-wake.branch [
      | in-Ok w ↦ rw w.result-is (λ ts. woken-in ts c.args.self.now.table c.wake.new.self c.args.self.now.waiting.entries c.args.uid
          c.args.part w.in-Ok.ensures)
      | in-Err w ↦ rw w.result-is tt
    ]
