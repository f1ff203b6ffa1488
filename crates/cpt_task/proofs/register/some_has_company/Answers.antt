use Rattle.std.proofs.lemmas.List.Elements.{All-more}
use Rattle.cpt_task.specs.Register.{IsAlone}
use Rattle.cpt_task.proofs.Order.{all_of_taken}
use Rattle.cpt_task.proofs.register.some_has_company.Goals as goal

pub loop-atom-preserved : goal.loop-atom-preserved
loop-atom-preserved c = All-more (IsAlone c.args.task.now c.args.plan.now c.args.role c.args.i) c.args.atoms.now c.loop-atom.atom-index 0 c.loop-atom-test.true c.loop-atom.invariant (c.has_company.ensures c.if-has_company.false)

pub returns : goal.returns
returns c = λ none. all_of_taken (IsAlone c.args.task.now c.args.plan.now c.args.role c.args.i) c.args.atoms.now c.loop-atom.atom-index c.loop-atom-test.false c.loop-atom.invariant
