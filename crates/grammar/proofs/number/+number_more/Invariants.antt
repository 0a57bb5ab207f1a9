use Rattle.grammar.proofs.number.+number_more.Given as goal

abbrev pub decreases-number_more : goal.decreases-number_more
decreases-number_more l = l.width
