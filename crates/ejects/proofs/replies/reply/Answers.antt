use Rattle.ejects.proofs.Counting.{replied-none}
use Rattle.ejects.proofs.replies.reply.Goals as goal

pub returns-clause-asks : goal.returns-clause-asks
returns-clause-asks c = replied-none c.args.call c.args.status c.args.results c.args.calls.now c.answer.new.self c.in_ok-_sent.ensures.cases.1
