use Rattle.cpt_sexp.proofs.Context.{read_word}
use Rattle.cpt_sexp.proofs.reading.Reading.read_word.Goals as goal

pub returns-clause-ok : goal.returns-clause-ok
returns-clause-ok c =
    let word = c.word_end-end.ensures.word in (
      read_word c.args.text.now c.args.self.now.items.items c.push.new.self.items c.args.self.now.opened.items c.args.at c.word_end-end.result c.requires.read word c.word_end-end.ensures.plainly c.word_end-end.ensures.within c.in_ok-push.ensures.items,
      word.ordered,
    )
