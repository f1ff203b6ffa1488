use Rattle.cpt_rules_tests.proofs.WalkLemmas.{marks_kept}
use Rattle.cpt_rules_tests.proofs.walks.go_on_both.Goals as goal

pub returns-then-not-agrees-clause-marks : goal.returns-then-not-agrees-clause-marks
returns-then-not-agrees-clause-marks g c = marks_kept c.args.store.now.marks c.loop.store.marks c.choose_both.new.store.marks c.loop.invariant.marks c.in_ok-agrees.ensures.marks

pub loop-preserved : goal.loop-preserved
loop-preserved g c = record {
  lent = c.in_ok-agrees.ensures.lent;
  formed = c.in_ok-agrees.ensures.formed;
  marks = marks_kept c.args.store.now.marks c.loop.store.marks c.choose_both.new.store.marks c.loop.invariant.marks c.in_ok-agrees.ensures.marks;
}
