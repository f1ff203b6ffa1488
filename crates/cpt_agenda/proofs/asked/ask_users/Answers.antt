use Rattle.std.proofs.Common.{Contains}
use Rattle.cpt_agenda.specs.Asked.{IsUser}
use Rattle.cpt_agenda.proofs.AskedLemmas.{asked_of}
use Rattle.cpt_agenda.proofs.TableLemmas.{users_there}
use Rattle.cpt_agenda.proofs.asked.ask_users.Goals as goal

pub ask_each-requires-clause-there : goal.ask_each-requires-clause-there
ask_each-requires-clause-there g c = users_there c.args.ctx.now.task.now c.args.store.now.sheet c.args.how c.args.p c.users_of-list.result.now c.users_of-list.ensures

pub returns : goal.returns
returns g c =
    asked_of g.R.Rule.covers c.args.ctx.now.task.now c.args.ctx.now.tables.now c.args.store.now.sheet c.args.cause (Contains c.users_of-list.result.now) (IsUser c.args.ctx.now.task.now c.args.store.now.sheet c.args.how c.args.p) _ _
    (λ d h. c.users_of-list.ensures.complete d h) c.ask_each.ensures
