use Rattle.std.proofs.Common.{length, ◌⊎◌, None}
use Rattle.cpt_sheet.specs.declared.data.Kind.TheVariants.{Act}
use Rattle.cpt_agenda.specs.declared.asked.Use.TheVariants.{Deleted}
use Rattle.cpt_agenda.specs.Asked.{IsAround, IsTokenBelow, IsUser, StirredByBring}
use Rattle.cpt_agenda.proofs.AskedLemmas.{asked_then, can_after}
use Rattle.cpt_agenda.proofs.TableLemmas.{brought_for}
use Rattle.cpt_agenda.proofs.woken.stir_by_bring.Goals as goal

pub ask_around-requires-clause-can : goal.ask_around-requires-clause-can
ask_around-requires-clause-can g c = can_after c.args.ctx.now.task.now c.args.ctx.now.tables.now c.args.store.now _ _ c.requires.can c.ask_all_tokens.ensures.keeps

pub ask_users-requires-clause-can : goal.ask_users-requires-clause-can
ask_users-requires-clause-can g c = can_after c.args.ctx.now.task.now c.args.ctx.now.tables.now c.args.store.now _ _ (can_after c.args.ctx.now.task.now c.args.ctx.now.tables.now c.args.store.now _ _ c.requires.can c.ask_all_tokens.ensures.keeps) c.ask_around.ensures.keeps

pub returns : goal.returns
returns g c =
    asked_then g.R.Rule.covers c.args.ctx.now.task.now c.args.ctx.now.tables.now c.args.store.now.sheet None (λ d. IsTokenBelow (length c.args.store.now.sheet.tokens) d ⊎ IsAround c.args.ctx.now.task.now c.args.store.now.sheet (Act c.args.a) d) (IsUser c.args.ctx.now.task.now c.args.store.now.sheet Deleted c.args.p) (StirredByBring c.args.ctx.now.task.now c.args.store.now.sheet c.args.p c.args.a) _ _ _
    (brought_for c.args.ctx.now.task.now c.args.store.now.sheet c.requires.can.lent.formed c.args.p c.args.a)
    (asked_then g.R.Rule.covers c.args.ctx.now.task.now c.args.ctx.now.tables.now c.args.store.now.sheet None (IsTokenBelow (length c.args.store.now.sheet.tokens)) (IsAround c.args.ctx.now.task.now c.args.store.now.sheet (Act c.args.a)) (λ d. IsTokenBelow (length c.args.store.now.sheet.tokens) d ⊎ IsAround c.args.ctx.now.task.now c.args.store.now.sheet (Act c.args.a) d) _ _ _ (λ d r. r)
    c.ask_all_tokens.ensures c.ask_around.ensures) c.ask_users.ensures
