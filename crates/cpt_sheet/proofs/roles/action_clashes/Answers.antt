use Rattle.cpt_sheet.specs.Roles.{Interfere, ActionsClash}
use Rattle.cpt_sheet.proofs.Tests.{match_more}
use Rattle.cpt_sheet.proofs.roles.action_clashes.Goals as goal

pub returns : goal.returns
returns c =
    match_more c.actions_clash.result (Interfere c.args.task.now c.args.a c.args.b) (ActionsClash c.args.task.now c.args.a c.args.b)
    (λ h. record { first = c.if-not-is_action.ensures; second = c.if-not-is_action-2.ensures; interfere = h }) (λ h. h.interfere) c.actions_clash.ensures
