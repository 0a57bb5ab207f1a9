use Rattle.std.proofs.Common.{refl}
use Rattle.checkpoint.proofs.Answering.{asked-all-answer}
use Rattle.checkpoint.proofs.OfNode.{asked-all}
use Rattle.checkpoint.proofs.worker.Worker.ask_delete.Goals as goal

pub returns-clause-of_node : goal.returns-clause-of_node
returns-clause-of_node c = λ n is all. asked-all c.ask.result n c.args.self.now.requests.items c.ask.new.self.requests.items _
    c.ask.ensures.requests is all

pub returns-clause-answers : goal.returns-clause-answers
returns-clause-answers c = λ all. asked-all-answer c.ask.result c.args.self.now.begun c.ask.new.self.begun c.args.self.now.requests.items
    c.ask.new.self.requests.items _ c.ask.ensures.requests c.ask.ensures.begun refl all
