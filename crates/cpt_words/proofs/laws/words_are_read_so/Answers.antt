use Rattle.cpt_words.proofs.Reading.{reads_words}
use Rattle.cpt_words.proofs.laws.words_are_read_so.Goals as goal

pub returns : goal.returns
returns c = reads_words
