use Rattle.std.proofs.Common.{sym, ◌∙◌}
use Rattle.std.proofs.lemmas.List.Elements.{All-more, Contains-get_or}
use Rattle.cpt_task.specs.Timeline.{HoldsThen}
use Rattle.cpt_task.proofs.Order.{all_lesser, all_of_taken}
use Rattle.cpt_task.proofs.plan.first_lack.Goals as goal

pub returns-then-not-holds_then : goal.returns-then-not-holds_then
returns-then-not-holds_then c = record {
  wanted = Contains-get_or c.args.atoms.now c.loop-p.p-index 0 c.loop-p-test.true;
  missing = sym c.holds_then.ensures ∙ c.if-not-holds_then.true;
  before = all_lesser (HoldsThen c.args.task.now c.args.plan.now c.args.time) c.args.atoms.now c.loop-p.p-index c.requires.increasing c.loop-p-test.true c.loop-p.invariant;
}

pub loop-p-preserved : goal.loop-p-preserved
loop-p-preserved c = All-more (HoldsThen c.args.task.now c.args.plan.now c.args.time) c.args.atoms.now c.loop-p.p-index 0 c.loop-p-test.true c.loop-p.invariant (sym c.holds_then.ensures ∙ c.if-not-holds_then.false)

pub returns : goal.returns
returns c = all_of_taken (HoldsThen c.args.task.now c.args.plan.now c.args.time) c.args.atoms.now c.loop-p.p-index c.loop-p-test.false c.loop-p.invariant
