use Rattle.std.proofs.Common.{◌+◌, slice_index_or, arith}
use Rattle.cpt_agenda.specs.Asked.{ForFront, ForOne, IsTaker}
use Rattle.cpt_agenda.proofs.AskedLemmas.{asked_none, asked_of, asked_then, atom_all, atom_next, atom_none, can_after}
use Rattle.cpt_agenda.proofs.asked.ask_takers_of.Goals as goal

pub loop-p-init : goal.loop-p-init
loop-p-init g c =
    asked_none g.R.Rule.covers c.args.ctx.now.task.now c.args.ctx.now.tables.now c.args.store.now.sheet c.args.cause (ForFront (IsTaker c.args.store.now.sheet) c.args.atoms.now 0) c.args.agenda.now (atom_none (IsTaker c.args.store.now.sheet) c.args.atoms.now)

pub ask_takers-requires : goal.ask_takers-requires
ask_takers-requires g c = can_after c.args.ctx.now.task.now c.args.ctx.now.tables.now c.args.store.now _ _ c.requires c.loop-p.invariant.keeps

pub loop-p-preserved : goal.loop-p-preserved
loop-p-preserved g c =
    asked_then g.R.Rule.covers c.args.ctx.now.task.now c.args.ctx.now.tables.now c.args.store.now.sheet c.args.cause (ForFront (IsTaker c.args.store.now.sheet) c.args.atoms.now c.loop-p.p-index) (IsTaker c.args.store.now.sheet (slice_index_or c.args.atoms.now c.loop-p.p-index 0))
    (ForFront (IsTaker c.args.store.now.sheet) c.args.atoms.now (c.loop-p.p-index + 1)) _ _ _ (λ d h. atom_next (IsTaker c.args.store.now.sheet) c.args.atoms.now c.loop-p.p-index 0 d c.loop-p-test.true h) c.loop-p.invariant c.ask_takers.ensures

pub returns : goal.returns
returns g c =
    asked_of g.R.Rule.covers c.args.ctx.now.task.now c.args.ctx.now.tables.now c.args.store.now.sheet c.args.cause (ForFront (IsTaker c.args.store.now.sheet) c.args.atoms.now c.loop-p.p-index) (ForOne (IsTaker c.args.store.now.sheet) c.args.atoms.now) _ _
    (λ d h. atom_all (IsTaker c.args.store.now.sheet) c.args.atoms.now c.loop-p.p-index d (omega arith) h) c.loop-p.invariant
