use Rattle.std.proofs.Common.{◌≡◌, ◌+◌, length, ap, arith, subst}
use Rattle.cpt_sheet.specs.declared.data.Cand.TheVariants.{Out}
use Rattle.cpt_agenda.specs.Asked.{AreAsked, IsActionBelow}
use Rattle.cpt_agenda.proofs.AskedLemmas.{asked_none, asked_one, asked_then, can_after, action_next, action_none}
use Rattle.cpt_agenda.proofs.asked.ask_all_actions.Goals as goal

pub loop-a-init : goal.loop-a-init
loop-a-init g c = asked_none g.R.Rule.covers c.args.ctx.now.task.now c.args.ctx.now.tables.now c.args.store.now.sheet c.args.cause (IsActionBelow 0) c.args.agenda.now action_none

pub ask-requires-clause-can : goal.ask-requires-clause-can
ask-requires-clause-can g c = can_after c.args.ctx.now.task.now c.args.ctx.now.tables.now c.args.store.now _ _ c.requires c.loop-a.invariant.keeps

pub ask-requires-clause-there : goal.ask-requires-clause-there
ask-requires-clause-there g c = omega (arith, ap length c.actions-a-end.ensures.value)

pub loop-a-preserved : goal.loop-a-preserved
loop-a-preserved g c =
    asked_then g.R.Rule.covers c.args.ctx.now.task.now c.args.ctx.now.tables.now c.args.store.now.sheet c.args.cause (IsActionBelow c.loop-a.a) (λ d. d ≡ Out c.loop-a.a) (IsActionBelow (c.loop-a.a + 1)) _ _ _ (action_next c.loop-a.a) c.loop-a.invariant
    (asked_one g.R.Rule.covers c.args.ctx.now.task.now c.args.ctx.now.tables.now c.args.store.now.sheet c.args.cause _ _ _ (omega (arith, ap length c.actions-a-end.ensures.value)) c.ask.ensures)

pub returns : goal.returns
returns g c =
    let e : c.loop-a.a ≡ length c.args.ctx.now.task.now.actions = omega (arith, ap length c.actions-a-end.ensures.value) in
    subst (λ n. AreAsked g.R.Rule.covers c.args.ctx.now.task.now c.args.ctx.now.tables.now c.args.store.now.sheet c.args.cause (IsActionBelow n) c.args.agenda.now c.loop-a.agenda) e c.loop-a.invariant
