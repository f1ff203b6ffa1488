use Rattle.std.proofs.Common.{Err, sym, subst}
use Rattle.cpt_reach.specs.declared.pruning.Pruned.{Pruned}
use Rattle.cpt_answer.specs.declared.ending.Ending.{Ending}
use Rattle.cpt_files.specs.Accepted.{KeepsTo}
use Rattle.cpt_answer.specs.Giving.{Gives}
use Rattle.cpt_files.proofs.Stages.{ground_failed, keeps_given, kept_small, prune_failed}
use Rattle.cpt_files.proofs.accepted.kept_part.Goals as goal

pub returns-in-Err-clause-answer : goal.returns-in-Err-clause-answer
returns-in-Err-clause-answer c =
    λ steady. subst (λ (e : Ending). Gives steady (λ (k : Pruned). k) (Err e) (KeepsTo c.args.domain.now c.args.problem.now)) (sym c.from_ground.ensures.value)
    (ground_failed steady c.args.domain.now c.args.problem.now c.in-Err.e c.in-Err.ensures.exact)

pub returns-in-Ok-prune-clause-answer : goal.returns-in-Ok-prune-clause-answer
returns-in-Ok-prune-clause-answer c =
    λ steady. keeps_given c.args.domain.now c.args.problem.now c.in-Ok.task c.in-Ok-prune.kept c.in-Ok.ensures.exact c.actions-actions.ensures.bounds c.in-Ok-prune.ensures.answer

pub returns-clause-answer : goal.returns-clause-answer
returns-clause-answer c =
    λ steady. subst (λ (e : Ending). Gives steady (λ (k : Pruned). k) (Err e) (KeepsTo c.args.domain.now c.args.problem.now)) (sym c.from_prune.ensures.value)
    (prune_failed steady c.args.domain.now c.args.problem.now c.in-Ok.task c.in-Err-prune.e c.in-Ok.ensures.exact c.actions-actions.ensures.bounds c.in-Err-prune.ensures.answer)

pub returns-in-Ok-prune-clause-small : goal.returns-in-Ok-prune-clause-small
returns-in-Ok-prune-clause-small c = kept_small c.in-Ok.task c.in-Ok-prune.kept c.in-Ok-prune.ensures.answer
