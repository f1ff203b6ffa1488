use Rattle.std.proofs.Common.{◌≡◌, ◌++◌, ◌∷◌, [], ◌+◌, List, take, arith, subst, sym, rules}
use Rattle.std.specs.List.{AllZip}
use Rattle.cpt_ground.specs.Signed.{SignedAction}
use Rattle.cpt_ground.specs.Reading.{IsActionOf}
use Rattle.cpt_ground.proofs.ReadingLemmas.{zip_more}
use Rattle.cpt_ground.proofs.actions.actions_of.Goals as goal

pub loop-instance-preserved : goal.loop-instance-preserved
loop-instance-preserved c =
    let pushed : c.push.new.self.items ≡ c.loop-instance.actions.items ++ c.in_ok-action_of.field-0 ∷ [] = search rules in
    subst (λ (actions : List SignedAction). AllZip (IsActionOf c.args.domain.now c.args.problem.now) (take (c.loop-instance.instance-index + 1) c.args.instances.now) actions) (sym pushed)
    (zip_more (IsActionOf c.args.domain.now c.args.problem.now) c.args.instances.now c.loop-instance.actions.items c.loop-instance.instance-index c.instance-item.result c.in_ok-action_of.field-0
    (omega arith) c.instance-item.is c.loop-instance.invariant c.in_ok-action_of.ensures)
