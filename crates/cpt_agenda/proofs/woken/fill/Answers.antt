use Rattle.std.proofs.Common.{length, None}
use Rattle.cpt_steps.specs.Landing.{IsThere}
use Rattle.cpt_agenda.specs.Asked.{IsActionBelow, IsTokenBelow}
use Rattle.cpt_agenda.proofs.AskedLemmas.{asked_then, can_after}
use Rattle.cpt_agenda.proofs.TableLemmas.{there_as}
use Rattle.cpt_agenda.proofs.woken.fill.Goals as goal

pub ask_all_actions-requires : goal.ask_all_actions-requires
ask_all_actions-requires g c = can_after c.args.ctx.now.task.now c.args.ctx.now.tables.now c.args.store.now _ _ c.requires c.ask_all_tokens.ensures.keeps

pub returns : goal.returns
returns g c =
    asked_then g.R.Rule.covers c.args.ctx.now.task.now c.args.ctx.now.tables.now c.args.store.now.sheet None (IsTokenBelow (length c.args.store.now.sheet.tokens)) (IsActionBelow (length c.args.ctx.now.task.now.actions)) (IsThere c.args.ctx.now.task.now c.args.store.now.sheet) _ _ _ (there_as c.args.ctx.now.task.now c.args.store.now.sheet) c.ask_all_tokens.ensures c.ask_all_actions.ensures
