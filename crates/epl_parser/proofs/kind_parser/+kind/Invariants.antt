use Rattle.epl_parser.proofs.kind_parser.+kind.Given as goal

abbrev pub decreases-kind : goal.decreases-kind
decreases-kind l = l.levels
