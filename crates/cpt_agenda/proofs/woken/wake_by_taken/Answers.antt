use Rattle.std.proofs.Common.{◌≡◌, ◌⊎◌, subst}
use Rattle.cpt_agenda.specs.declared.asked.Use.TheVariants.{Deleted}
use Rattle.cpt_task.specs.Shape.{TaskShape}
use Rattle.cpt_sheet.specs.declared.data.Cand.TheVariants.{Tok}
use Rattle.cpt_index.specs.Lists.{IsDeleter, Lists}
use Rattle.cpt_calculus.proofs.Reading.{lone_there}
use Rattle.cpt_agenda.specs.Asked.{IsListed, IsUser, WokenByTake}
use Rattle.cpt_agenda.proofs.AskedLemmas.{asked_none, asked_one, asked_then, can_after}
use Rattle.cpt_agenda.proofs.TableLemmas.{deleters_there, not_taken, taken}
use Rattle.cpt_agenda.proofs.woken.wake_by_taken.Goals as goal

pub returns-in_default : goal.returns-in_default
returns-in_default g c = asked_none g.R.Rule.covers c.args.ctx.now.task.now c.args.ctx.now.tables.now c.args.store.now.sheet c.args.cause (WokenByTake c.args.ctx.now.task.now c.args.store.now.sheet c.args.x c.args.p) _ (not_taken c.args.ctx.now.task.now c.args.store.now.sheet c.requires.can.lent.formed c.args.x c.args.p c.in_default.ensures)

pub ask-requires-clause-there : goal.ask-requires-clause-there
ask-requires-clause-there g c = lone_there c.args.ctx.now.task.now c.args.store.now.sheet c.args.x c.args.p c.in-Some.y c.requires.can.lent.formed c.in-Some.ensures

pub ask_tokens-requires-clause-can : goal.ask_tokens-requires-clause-can
ask_tokens-requires-clause-can g c = can_after c.args.ctx.now.task.now c.args.ctx.now.tables.now c.args.store.now _ _ c.requires.can c.ask.ensures.keeps

pub ask_tokens-requires-clause-there : goal.ask_tokens-requires-clause-there
ask_tokens-requires-clause-there g c =
    deleters_there c.args.ctx.now.task.now c.args.store.now.sheet c.args.p c.deleters.result.now (subst (λ (z : TaskShape). Lists (IsDeleter z c.args.store.now.sheet c.args.p) c.deleters.result.now) c.requires.can.lent.task c.deleters.ensures)

pub ask_users-requires-clause-can : goal.ask_users-requires-clause-can
ask_users-requires-clause-can g c = can_after c.args.ctx.now.task.now c.args.ctx.now.tables.now c.args.store.now _ _ (can_after c.args.ctx.now.task.now c.args.ctx.now.tables.now c.args.store.now _ _ c.requires.can c.ask.ensures.keeps) c.ask_tokens.ensures.keeps

pub returns : goal.returns
returns g c =
    asked_then g.R.Rule.covers c.args.ctx.now.task.now c.args.ctx.now.tables.now c.args.store.now.sheet c.args.cause (λ d. (d ≡ Tok c.in-Some.y) ⊎ IsListed c.deleters.result.now d) (IsUser c.args.ctx.now.task.now c.args.store.now.sheet Deleted c.args.p) (WokenByTake c.args.ctx.now.task.now c.args.store.now.sheet c.args.x c.args.p) _ _ _
    (taken c.args.ctx.now.task.now c.args.store.now.sheet c.requires.can.lent.formed c.args.x c.args.p c.in-Some.y c.deleters.result.now c.in-Some.ensures
    (subst (λ (z : TaskShape). Lists (IsDeleter z c.args.store.now.sheet c.args.p) c.deleters.result.now) c.requires.can.lent.task c.deleters.ensures))
    (asked_then g.R.Rule.covers c.args.ctx.now.task.now c.args.ctx.now.tables.now c.args.store.now.sheet c.args.cause (λ d. d ≡ Tok c.in-Some.y) (IsListed c.deleters.result.now) (λ d. (d ≡ Tok c.in-Some.y) ⊎ IsListed c.deleters.result.now d) _ _ _ (λ d r. r)
    (asked_one g.R.Rule.covers c.args.ctx.now.task.now c.args.ctx.now.tables.now c.args.store.now.sheet c.args.cause _ _ _ (lone_there c.args.ctx.now.task.now c.args.store.now.sheet c.args.x c.args.p c.in-Some.y c.requires.can.lent.formed c.in-Some.ensures) c.ask.ensures) c.ask_tokens.ensures) c.ask_users.ensures
