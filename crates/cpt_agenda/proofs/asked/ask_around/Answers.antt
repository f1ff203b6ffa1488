use Rattle.cpt_agenda.proofs.AskedLemmas.{can_after}
use Rattle.cpt_agenda.proofs.TableLemmas.{around_all}
use Rattle.cpt_agenda.proofs.asked.ask_around.Goals as goal

pub ask_users_of-requires-2-clause-can : goal.ask_users_of-requires-2-clause-can
ask_users_of-requires-2-clause-can g c = can_after c.args.ctx.now.task.now c.args.ctx.now.tables.now c.args.store.now _ _ c.requires.can c.ask_users_of.ensures.keeps

pub ask_users_of-requires-3-clause-can : goal.ask_users_of-requires-3-clause-can
ask_users_of-requires-3-clause-can g c =
    can_after c.args.ctx.now.task.now c.args.ctx.now.tables.now c.args.store.now _ _ (can_after c.args.ctx.now.task.now c.args.ctx.now.tables.now c.args.store.now _ _ c.requires.can c.ask_users_of.ensures.keeps) c.ask_users_of-2.ensures.keeps

pub ask_users_of-requires-4-clause-can : goal.ask_users_of-requires-4-clause-can
ask_users_of-requires-4-clause-can g c =
    can_after c.args.ctx.now.task.now c.args.ctx.now.tables.now c.args.store.now _ _ (can_after c.args.ctx.now.task.now c.args.ctx.now.tables.now c.args.store.now _ _ (can_after c.args.ctx.now.task.now c.args.ctx.now.tables.now c.args.store.now _ _ c.requires.can c.ask_users_of.ensures.keeps) c.ask_users_of-2.ensures.keeps) c.ask_users_of-3.ensures.keeps

pub returns : goal.returns
returns g c =
    around_all g.R.Rule.covers c.args.ctx.now.task.now c.args.ctx.now.tables.now c.args.store.now.sheet c.args.cause c.args.kind _ _ _ _ _ _ _ _ c.needs_of-needs.ensures.value c.adds_of-adds.ensures c.deletes_of-deletes.ensures
    c.ask_users_of.ensures c.ask_users_of-2.ensures c.ask_users_of-3.ensures c.ask_users_of-4.ensures
