use Rattle.std.proofs.Common.{◌≡◌, ℕ, List, Result, Ok, Err, sym, ap, ◌∙◌, subst}
use Rattle.cpt_io.specs.Meaning.{Files}
use Rattle.cpt_task.specs.Shape.{TaskShape}
use Rattle.cpt_task.specs.Timeline.{IsPlan, IsValid, makespan}
use Rattle.cpt_task.specs.declared.plan.Occ.{Occ}
use Rattle.cpt_domain.specs.declared.domain.Domain.{Domain}
use Rattle.cpt_domain.specs.Sound.{IsSound}
use Rattle.cpt_facts.specs.declared.problem.Problem.{Problem}
use Rattle.cpt_facts.specs.Fitting.{Fits}
use Rattle.cpt_ground.specs.Compiled.{IsGround}
use Rattle.cpt_ground.proofs.Plans.{same_plans}
use Rattle.cpt_reach.specs.declared.pruning.Pruned.{Pruned}
use Rattle.cpt_reach.specs.Plans.{KeepsPlans, older_plan}
use Rattle.cpt_reach.proofs.KeptPlans.{keeps_plans}
use Rattle.cpt_plain.proofs.Tidy.{kept_tasks_are_plain}
use Rattle.cpt_answer.specs.declared.ending.Ending.{Ending}
use Rattle.cpt_answer.specs.Giving.{Then}
use Rattle.cpt_files.specs.Accepted.{IsAccepted}
use Rattle.cpt_files.specs.Files.{text_under}
use Rattle.cpt_files.specs.Texts.{DomainText}
use Rattle.cpt_files.proofs.Once.{problem_fits}
use Rattle.cpt_kept.specs.Kept.{IsValidWithAbsence, KeptPartsStand, StandsFor}

-- a domain that is read is sound
domain_sound : (x : Result (List ℕ) Ending) (d : Domain) → Then x DomainText (Ok d) → IsSound d
domain_sound (Ok text) d h = h.1
domain_sound (Err e) d h = absurd (cc)

pub stands_for : KeptPartsStand
stands_for files dn pn d p task kept a =
    let ground : IsGround d p task = a.grounds.1 in
    let fits : Fits d p = problem_fits files d pn p a.problem_file in
    record {
      plain = kept_tasks_are_plain d p task kept (domain_sound (text_under files dn) d a.domain_file) fits a.bounds ground a.prunes;
      keeps = keeps_plans task kept.task kept.atoms kept.actions a.bounds a.prunes.0;
      reading = ground.reading;
      reads = ground.reads;
      same = same_plans d p task ground.reading fits a.bounds ground ground.reads;
    }

-- a plan that is valid for the kept task is valid for the ground task
pub older_valid : (old new : TaskShape) (actions : List ℕ) (plan : List Occ) → KeepsPlans old new actions → IsPlan new plan → IsValid new plan → IsValid old (older_plan actions plan)
older_valid old new actions plan k of_task valid =
    let onto = k.onto plan of_task in
    (k.valid (older_plan actions plan)).1 (onto.0, subst (IsValid new) (sym onto.1) valid)

pub older_makespan : (old new : TaskShape) (actions : List ℕ) (plan : List Occ) → KeepsPlans old new actions → IsPlan new plan → makespan new plan ≡ makespan old (older_plan actions plan)
older_makespan old new actions plan k of_task =
    let onto = k.onto plan of_task in
    ap (makespan new) (sym onto.1) ∙ k.same_makespan (older_plan actions plan) onto.0

-- and the other way round
pub newer_valid : (old new : TaskShape) (actions : List ℕ) (plan : List Occ) → KeepsPlans old new actions → IsPlan new plan → IsValid old (older_plan actions plan) → IsValid new plan
newer_valid old new actions plan k of_task valid =
    let onto = k.onto plan of_task in
    subst (IsValid new) onto.1 ((k.valid (older_plan actions plan)).0 valid).1

-- a plan that is valid for the ground task is valid for the reading with absence
pub with_absence : (d : Domain) (p : Problem) (task : TaskShape) (kept : Pruned) (plan : List Occ) (m : ℕ) → StandsFor d p task kept → IsValid task plan → m ≡ makespan task plan → IsValidWithAbsence d p plan m
with_absence d p task kept plan m s valid is = record {
  reading = s.reading;
  reads = s.reads;
  valid = (s.same.valid plan).0 valid;
  is = is ∙ s.same.makespan plan;
}
