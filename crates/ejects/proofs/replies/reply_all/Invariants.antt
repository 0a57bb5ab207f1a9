use Rattle.std.proofs.Common.{drop}
use Rattle.ejects.specs.Counts.{AsksNone}
use Rattle.ejects.proofs.Replying.{IsAnswering}
use Rattle.ejects.proofs.replies.reply_all.Given as goal

abbrev pub invariant-loop-number : goal.invariant-loop-number
invariant-loop-number l = record {
  answering : IsAnswering l.status l.fn.calls l.calls l.numbers (drop l.number-index l.numbers);
  asks : AsksNone l.fn.calls l.calls;
}
