use Rattle.std.proofs.Common.{◌≡◌, true}
use Rattle.std.proofs.lemmas.List.Elements.{All-more}
use Rattle.cpt_task.proofs.Order.{all_of_taken}
use Rattle.cpt_reach.specs.Marking.{is_marked}
use Rattle.cpt_reach.proofs.marking.are_marked.Goals as goal

pub loop-x-preserved : goal.loop-x-preserved
loop-x-preserved c =
    All-more (λ p. is_marked c.args.marks.now p ≡ true) c.args.xs.now c.loop-x.x-index 0 c.loop-x-test.true c.loop-x.invariant c.if-not-marks-x.false

pub returns : goal.returns
returns c = all_of_taken (λ p. is_marked c.args.marks.now p ≡ true) c.args.xs.now c.loop-x.x-index c.loop-x-test.false c.loop-x.invariant
