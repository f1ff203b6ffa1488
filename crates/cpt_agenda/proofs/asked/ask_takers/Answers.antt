use Rattle.cpt_agenda.specs.Asked.{IsListed, IsTaker}
use Rattle.cpt_agenda.proofs.AskedLemmas.{asked_of}
use Rattle.cpt_agenda.proofs.TableLemmas.{taker_listed, takers_there}
use Rattle.cpt_agenda.proofs.asked.ask_takers.Goals as goal

pub ask_tokens-requires-clause-there : goal.ask_tokens-requires-clause-there
ask_tokens-requires-clause-there g c = takers_there c.args.store.now.sheet c.args.p c.consumers.result.now c.consumers.ensures

pub returns : goal.returns
returns g c =
    asked_of g.R.Rule.covers c.args.ctx.now.task.now c.args.ctx.now.tables.now c.args.store.now.sheet c.args.cause (IsListed c.consumers.result.now) (IsTaker c.args.store.now.sheet c.args.p) _ _
    (taker_listed c.args.store.now.sheet c.args.p c.consumers.result.now c.consumers.ensures) c.ask_tokens.ensures
