use Rattle.history_tests.proofs.checkpoint_tests.drop_first.Goals as goal

pub returns-clause-of_node : goal.returns-clause-of_node
returns-clause-of_node c n one all = c.drop_requests.ensures.of_node n all
