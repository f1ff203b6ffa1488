use Rattle.cpt_ground.specs.Compiled.{IsCompiledAction}
use Rattle.cpt_ground.specs.Literals.{literals_of}
use Rattle.cpt_ground.proofs.ListLemmas.{zip-more}
use Rattle.cpt_ground.proofs.compile.compiled_actions.Goals as goal

pub loop-action-preserved : goal.loop-action-preserved
loop-action-preserved c =
    rw c.in_ok-push.ensures.items
    (zip-more (IsCompiledAction (literals_of c.args.literals.now)) c.args.actions.now c.loop-action.compiled.items c.loop-action.action-index c.action-item.result c.in_ok-compiled_action.field-0
    c.loop-action-test.true c.action-item.is c.loop-action.invariant c.in_ok-compiled_action.ensures)
