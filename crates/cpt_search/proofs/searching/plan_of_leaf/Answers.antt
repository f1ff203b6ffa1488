use Rattle.cpt_search.proofs.EngineLemmas.{store-plan, store-solved}
use Rattle.cpt_search.proofs.searching.plan_of_leaf.Goals as goal

pub leaf_plan-requires-clause-solved : goal.leaf_plan-requires-clause-solved
leaf_plan-requires-clause-solved g c =
    store-solved c.args.engine.now.state g.R.Rule.covers c.args.engine.now.task c.args.engine.now.tables c.args.engine.now.bound c.args.engine.now.decisions c.state.ensures.stands.now c.args.engine.now.sheet c.ctx-ctx.result.task.now
    c.ctx-ctx.result.tables.now c.store.result.now.sheet c.state.ensures.stands.reached c.requires.leaf c.requires.rules c.atoms.ensures.bounds c.ctx-ctx.ensures.task c.ctx-ctx.ensures.tables c.store.ensures.sheet

pub returns : goal.returns
returns g c =
    store-plan c.args.engine.now.state g.R.Rule.covers c.args.engine.now.task c.args.engine.now.tables c.args.engine.now.bound c.args.engine.now.decisions c.state.ensures.stands.now c.args.engine.now.sheet c.store.result.now.sheet
    c.in_ok-leaf_plan.field-0.items c.from_vec.result c.state.ensures.stands.reached c.requires.leaf c.store.ensures.sheet c.in_ok-leaf_plan.ensures.plan c.from_vec.ensures
