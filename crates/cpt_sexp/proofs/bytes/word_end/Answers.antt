use Rattle.std.proofs.Common.{sym, ◌∙◌, arith, add-one}
use Rattle.cpt_sexp.specs.Bytes.{plain}
use Rattle.cpt_sexp.proofs.Comments.{over_letter}
use Rattle.cpt_sexp.proofs.Spelling.{letters_more, letters_none}
use Rattle.cpt_sexp.proofs.bytes.word_end.Goals as goal

pub loop-end-init : goal.loop-end-init
loop-end-init c =
    let over = over_letter c.args.text.now c.args.at c.requires.within c.requires.begun c.requires.plainly in
    record {
      after = omega arith;
      within = omega arith;
      letters = rw add-one (letters_more (plain c.args.text.now) c.args.at c.args.at (letters_none (plain c.args.text.now) c.args.at) over.0);
      plainly = rw add-one over.1;
    }

pub loop-end-preserved : goal.loop-end-preserved
loop-end-preserved c =
    let over = over_letter c.args.text.now c.loop-end.end c.loop-end-test.true (sym c.is_letter.ensures ∙ c.if-not-is_letter.false) c.loop-end.invariant.plainly in
    record {
      after = omega arith;
      within = omega arith;
      letters = rw add-one (letters_more (plain c.args.text.now) c.args.at c.loop-end.end c.loop-end.invariant.letters over.0);
      plainly = rw add-one over.1;
    }
