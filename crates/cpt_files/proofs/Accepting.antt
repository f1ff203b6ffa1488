use Rattle.std.proofs.Common.{◌≡◌, ℕ, List, Result, Ok, Err, refl, subst}
use Rattle.cpt_io.specs.Meaning.{Files}
use Rattle.cpt_task.specs.Shape.{TaskShape, InBounds}
use Rattle.std.specs.Prelude.{IfOk}
use Rattle.cpt_domain.specs.declared.domain.Domain.{Domain}
use Rattle.cpt_facts.specs.declared.problem.Problem.{Problem}
use Rattle.cpt_instance.specs.declared.error.GroundError.{GroundError}
use Rattle.cpt_ground.specs.Grounding.{Grounds}
use Rattle.cpt_reach.specs.declared.pruning.Pruned.{Pruned}
use Rattle.cpt_reach.specs.Pruning.{Prunes}
use Rattle.cpt_files.specs.declared.accepted.Accepted.{Accepted}
use Rattle.cpt_answer.specs.declared.ending.Ending.{Ending}
use Rattle.cpt_files.specs.Accepted.{AcceptsTask, GroundsTo, IsAccepted, KeepsTo, PrunesTo, accepted, ground_ending, prune_ending}
use Rattle.cpt_answer.specs.Giving.{ThenBy}
use Rattle.cpt_answer.proofs.Giving.{ended_ok, then_value}
use Rattle.cpt_files.specs.Texts.{DomainUnder, ProblemUnder}

-- the last stage, and the stages after the domain
abbrev Last : Domain → Problem → Pruned → Result Accepted Ending → Type 0
Last d p kept r = r ≡ Ok (accepted d p kept)

abbrev Next : Files → List ℕ → Domain → Result Accepted Ending → Type 0
Next files pn d = ThenBy (ProblemUnder files d pn) (λ p. ThenBy (KeepsTo d p) (Last d p))

-- what the files of an accepted task hold
pub is_accepted : (files : Files) (dn pn : List ℕ) (a : Accepted) → AcceptsTask files dn pn (Ok a) → (task : TaskShape) × IsAccepted files dn pn a.domain a.problem task a.kept
is_accepted files dn pn a h =
    let d = then_value h.0 (Next files pn) a h.2 in
    let p = then_value d.2.0 (λ p. ThenBy (KeepsTo d.0 p) (Last d.0 p)) a d.2.2 in
    let k = then_value p.2.0 (Last d.0 p.0) a p.2.2 in
    let keeps : KeepsTo d.0 p.0 (Ok k.0) = subst (KeepsTo d.0 p.0) k.1 p.2.1 in
    let t = then_value keeps.0 PrunesTo k.0 keeps.2 in
    let g : GroundsTo d.0 p.0 (Ok t.0) = subst (GroundsTo d.0 p.0) t.1 keeps.1 in
    let task : g.0 ≡ Ok t.0 = ended_ok ground_ending g.0 t.0 g.4 in
    let kept : t.2.0 ≡ Ok k.0 = ended_ok prune_ending t.2.0 k.0 t.2.3 in
    let last : Ok a ≡ Ok (accepted d.0 p.0 k.0) = k.2 in
    let same : accepted d.0 p.0 k.0 ≡ a = cc in
    let P : Accepted → Type 0 = λ a. (task : TaskShape) × IsAccepted files dn pn a.domain a.problem task a.kept in
    subst P {x = accepted d.0 p.0 k.0} {y = a} same (
      t.0,
      record {
        domain_file = subst (DomainUnder files dn) d.1 h.1;
        problem_file = subst (ProblemUnder files d.0 pn) p.1 d.2.1;
        grounds = subst (Grounds d.0 p.0) task g.1;
        bounds = (let R : Result TaskShape GroundError → Type 0 = λ x. IfOk x InBounds in subst R task g.2);
        prunes = subst (Prunes t.0) kept t.2.1;
      },
    )

-- files that hold an accepted task come to it
pub accepted_is : (files : Files) (dn pn : List ℕ) (d : Domain) (p : Problem) (task : TaskShape) (kept : Pruned) → IsAccepted files dn pn d p task kept → AcceptsTask files dn pn (Ok (accepted d p kept))
accepted_is files dn pn d p task kept h =
    let grounds : GroundsTo d p (Ok task) = (Ok task, h.grounds, h.bounds, (λ e. cc), refl) in
    let prunes : PrunesTo task (Ok kept) = (Ok kept, h.prunes, (λ e. cc), refl) in
    let keeps : KeepsTo d p (Ok kept) = (Ok task, grounds, prunes) in
    let last : ThenBy (KeepsTo d p) (Last d p) (Ok (accepted d p kept)) = (Ok kept, keeps, refl) in
    let next : Next files pn d (Ok (accepted d p kept)) = (Ok p, h.problem_file, last) in
    (Ok d, h.domain_file, next)
