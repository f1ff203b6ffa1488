use Rattle.std.proofs.Common.{ap, arith, add-one}
use Rattle.cpt_sexp.specs.Bytes.{is_blank, plain}
use Rattle.cpt_sexp.proofs.Comments.{over_comment}
use Rattle.cpt_sexp.proofs.Spelling.{gap_more}
use Rattle.cpt_sexp.proofs.bytes.comment_end.Goals as goal

pub loop-end-preserved : goal.loop-end-preserved
loop-end-preserved c =
    let over = over_comment c.args.text.now c.loop-end.end c.loop-end-test.true c.if-text-end-eq10.false c.loop-end.invariant.commented in
    record {
      within = omega arith;
      blank = rw add-one (gap_more (plain c.args.text.now) c.args.at c.loop-end.end c.loop-end.invariant.blank (ap is_blank over.0));
      commented = rw add-one over.1;
    }
