use Rattle.epl_syntax.specs.Words.{word_of}
use Rattle.epl_syntax.proofs.word.word_of.Goals as goal

pub returns : goal.returns
unfolding word_of
returns c = c.find_word.ensures
