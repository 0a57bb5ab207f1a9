use Rattle.std.proofs.Common.{arith}
use Rattle.eden_disk.proofs.Timed.{timed_read, timed_sync, timed_write, timed_cut, timed_join}
use Rattle.eden_disk.proofs.laws.calls_are_timed.Goals as goal

pub returns-clause-read : goal.returns-clause-read
returns-clause-read c = λ before after old new end d told. timed_read before.clock after.clock old new end d.clock told

pub returns-clause-sync : goal.returns-clause-sync
returns-clause-sync c = λ before after old new end d spent told. timed_sync before after old new end d.clock spent told

pub returns-clause-write : goal.returns-clause-write
returns-clause-write c = λ at bytes before after old new end d spent told. timed_write at bytes before after old new end d.clock spent told

pub returns-clause-cut : goal.returns-clause-cut
returns-clause-cut c = λ clock old new cut. timed_cut clock clock old new (omega arith) cut

pub returns-clause-join : goal.returns-clause-join
returns-clause-join c = timed_join
