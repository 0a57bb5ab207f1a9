use Rattle.std.proofs.Common.{refl, arith}
use Rattle.journal.specs.Opening.{most_changes}
use Rattle.eden_shell.proofs.Blank.{blank_in_memory}
use Rattle.eden_shell.proofs.Empty.{blank-keep, blank-no-texts, blank-rise}
use Rattle.eden_shell.proofs.Legally.{legally}
use Rattle.eden_shell.proofs.in_memory.eden_over_blank.Goals as goal

pub returns-clause-legally : goal.returns-clause-legally
returns-clause-legally g c = legally _ c.eden.result.history refl
    (blank_in_memory c.args.disks.now.items c.eden.new.disks.items most_changes (omega arith) c.requires.blank)
    (blank-keep c.args.disks.now.items c.eden.new.disks.items c.requires.blank)
    (blank-no-texts c.args.disks.now.items c.eden.new.disks.items c.requires.blank) c.rows_are_fit.ensures
    (λ k few. blank-rise c.args.disks.now.items c.eden.new.disks.items k few c.requires.blank)
    c.eden.result.outcome c.eden.result.further c.eden.ensures.answers
