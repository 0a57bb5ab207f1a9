use Rattle.std.proofs.Common.{drop}
use Rattle.ejects.specs.Replies.{seconds}
use Rattle.ejects.specs.Counts.{AsksNone}
use Rattle.ejects.proofs.Replying.{IsAnswering}
use Rattle.ejects.proofs.replies.reply_served.Given as goal

abbrev pub invariant-loop-pair : goal.invariant-loop-pair
invariant-loop-pair l = record {
  answering : IsAnswering l.status l.fn.calls l.calls (seconds l.pairs) (drop l.pair-index (seconds l.pairs));
  asks : AsksNone l.fn.calls l.calls;
}
