use Rattle.std.proofs.Common.{◌∙◌, ap}
use Rattle.cpt_sheet.specs.declared.data.Kind.{Kind}
use Rattle.cpt_sheet.specs.Roles.{needs_of}
use Rattle.cpt_index.proofs.NeedLemmas.{needs_listed}
use Rattle.cpt_store.proofs.store.Store.needs.Goals as goal

pub returns : goal.returns
returns c =
    needs_listed c.args.ctx.now.task.now c.args.self.now.sheet c.args.tok c.needs_of.result.now c.requires.lent.formed c.requires.there
    (c.needs_of.ensures.value ∙ ap (λ (k : Kind). needs_of c.args.ctx.now.task.now k) c.kind.ensures)
