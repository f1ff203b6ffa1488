use Rattle.std.proofs.Common.{ap, arith, ◌∙◌}
use Rattle.cpt_sheet.specs.Edits.{moment_or}
use Rattle.cpt_outcome.specs.Leaves.{act_of}
use Rattle.cpt_branch.proofs.LeafLemmas.{occurrence-by, occurrences-more}
use Rattle.cpt_branch.proofs.leaves.occurrences.Goals as goal

pub loop-tok-preserved : goal.loop-tok-preserved
loop-tok-preserved c =
    occurrences-more c.args.store.now.sheet c.loop-tok.tok c.loop-tok.made.items c.push.new.self.items c.occurrence.result (omega arith) (omega arith) c.loop-tok.invariant c.in_ok-push.ensures.items
    (occurrence-by c.occurrence.result _ _ (c.occurrence.ensures.act ∙ ap act_of c.kind.ensures) (c.occurrence.ensures.start ∙ ap (λ z. moment_or z.lo 0) c.span.ensures))
