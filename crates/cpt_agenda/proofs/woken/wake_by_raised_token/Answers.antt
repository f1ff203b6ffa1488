use Rattle.std.proofs.Common.{length, ◌⊎◌}
use Rattle.cpt_agenda.specs.declared.asked.Use.TheVariants.{Needed}
use Rattle.cpt_task.specs.declared.span.Span.TheVariants.{Never}
use Rattle.cpt_sheet.specs.declared.data.Cand.TheVariants.{Tok}
use Rattle.cpt_sheet.specs.declared.data.Change.TheVariants.{Raise}
use Rattle.cpt_agenda.specs.Asked.{IsAround, IsTokenBelow, IsUserOf, WokenBy}
use Rattle.cpt_agenda.proofs.AskedLemmas.{asked_then, can_after}
use Rattle.cpt_agenda.proofs.TableLemmas.{raised_token}
use Rattle.cpt_agenda.proofs.woken.wake_by_raised_token.Goals as goal

pub ask_around-requires-clause-can : goal.ask_around-requires-clause-can
ask_around-requires-clause-can g c = can_after c.args.ctx.now.task.now c.args.ctx.now.tables.now c.args.store.now _ _ c.requires.can c.ask_all_tokens.ensures.keeps

pub ask_users_of-requires-clause-can : goal.ask_users_of-requires-clause-can
ask_users_of-requires-clause-can g c = can_after c.args.ctx.now.task.now c.args.ctx.now.tables.now c.args.store.now _ _ (can_after c.args.ctx.now.task.now c.args.ctx.now.tables.now c.args.store.now _ _ c.requires.can c.ask_all_tokens.ensures.keeps) c.ask_around.ensures.keeps

pub returns : goal.returns
returns g c =
    asked_then g.R.Rule.covers c.args.ctx.now.task.now c.args.ctx.now.tables.now c.args.store.now.sheet c.args.cause (λ d. IsTokenBelow (length c.args.store.now.sheet.tokens) d ⊎ IsAround c.args.ctx.now.task.now c.args.store.now.sheet c.kind_at-kind.result d)
    (IsUserOf c.args.ctx.now.task.now c.args.store.now.sheet Needed c.adds_of-adds.result.now) (WokenBy c.args.ctx.now.task.now c.args.store.now.sheet (Raise (Tok c.args.z) Never)) _ _ _
    (raised_token c.args.ctx.now.task.now c.args.store.now.sheet c.requires.can.lent.formed c.args.z c.kind_at-kind.result c.adds_of-adds.result.now c.kind_at-kind.ensures c.adds_of-adds.ensures)
    (asked_then g.R.Rule.covers c.args.ctx.now.task.now c.args.ctx.now.tables.now c.args.store.now.sheet c.args.cause (IsTokenBelow (length c.args.store.now.sheet.tokens)) (IsAround c.args.ctx.now.task.now c.args.store.now.sheet c.kind_at-kind.result)
    (λ d. IsTokenBelow (length c.args.store.now.sheet.tokens) d ⊎ IsAround c.args.ctx.now.task.now c.args.store.now.sheet c.kind_at-kind.result d) _ _ _ (λ d r. r) c.ask_all_tokens.ensures c.ask_around.ensures) c.ask_users_of.ensures
