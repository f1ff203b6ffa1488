use Rattle.std.proofs.Common.{◌≡◌, ℕ, ◌+◌, Bool, true, false, List, [], ◌∷◌, length, Option, None, Some, refl, sym, subst}
use Rattle.std.specs.Prelude.{if◌then◌else◌}
use Rattle.std.specs.Str.{bytes_eq}
use Rattle.cpt_task.specs.declared.task.Action.{Action}
use Rattle.cpt_task.specs.Shape.{TaskShape}
use Rattle.cpt_plan_text.specs.declared.roster.Found.{Found}
use Rattle.cpt_plan_text.specs.declared.roster.Found.TheVariants.{Known, Unreachable, Unknown}
use Rattle.cpt_plan_text.specs.Knowing.{KnowsActions, action_named, task_finds}
use Rattle.cpt_plan_text.proofs.Finding.{known_first, knows_actions, unknown_none}
use Rattle.cpt_domain.specs.declared.domain.Domain.{Domain}
use Rattle.cpt_domain.specs.Sound.{IsSound}
use Rattle.cpt_facts.specs.declared.problem.Problem.{Problem}
use Rattle.cpt_facts.specs.Fitting.{Fits}
use Rattle.cpt_instance.specs.NameReading.{named_duration}
use Rattle.cpt_instance.proofs.NameReading.{AreNamed}
use Rattle.cpt_instance.proofs.Once.{read_is_named}
use Rattle.cpt_reach.specs.declared.pruning.Pruned.{Pruned}
use Rattle.cpt_files.specs.Names.{KnowsAs, NamesShape, else_named, kept_finds}

unreachable_case : (k dur : ℕ) (later : Found) (t : Bool) → (later ≡ Unreachable dur → ⊥) → if◌then◌else◌ {A = Found} t (Known k) later ≡ Unreachable dur → ⊥
unreachable_case k dur later true never e = cc
unreachable_case k dur later false never e = never e

not_unreachable : (actions : List Action) (k : ℕ) (name : List ℕ) (dur : ℕ) → action_named actions k name ≡ Unreachable dur → ⊥
not_unreachable [] k name dur e = cc
not_unreachable (a ∷ more) k name dur e = unreachable_case k dur (action_named more (k + 1) name) (bytes_eq a.name name) (not_unreachable more (k + 1) name dur) e

known_by : (d : Domain) (p : Problem) (t : TaskShape) (name : List ℕ) (found : Found) (r : Option ℕ) → task_finds t name ≡ found → AreNamed d p name r → KnowsAs d p t name (else_named found r)
known_by d p t name (Known n) r e h = known_first t name n e
known_by d p t name (Unreachable dur) r e h = absurd (not_unreachable t.actions 0 name dur e)
known_by d p t name Unknown None e h = (unknown_none t name e, h)
known_by d p t name Unknown (Some dur) e h = (unknown_none t name e, h)

-- what is known of a name is so
pub knows_as : (d : Domain) (p : Problem) (kept : Pruned) (name : List ℕ) → IsSound d → Fits d p → KnowsAs d p kept.task name (kept_finds d p kept name)
knows_as d p kept name sound fits = known_by d p kept.task name (task_finds kept.task name) (named_duration d p name) refl (read_is_named d p name sound fits)

known_is_known : (found : Found) (r : Option ℕ) (n : ℕ) → else_named found r ≡ Known n → found ≡ Known n
known_is_known (Known m) r n e = e
known_is_known (Unreachable dur) r n e = cc
known_is_known Unknown None n e = cc
known_is_known Unknown (Some dur) n e = cc

-- the known actions are those of the kept task
pub knows_kept : (d : Domain) (p : Problem) (kept : Pruned) → KnowsActions (kept_finds d p kept) (length kept.task.actions)
knows_kept d p kept = λ name act e. knows_actions kept.task name act (known_is_known (task_finds kept.task name) (named_duration d p name) act e)

abbrev pub names_shape : Domain → Problem → Pruned → NamesShape
names_shape d p kept = record { domain = d; problem = p; kept = kept }

-- what is found of a name
pub record Finds (n : NamesShape) (name : List ℕ) (found : Found) : Type 0 where
  pub value : found ≡ kept_finds n.domain n.problem n.kept name
  pub knows : KnowsAs n.domain n.problem n.kept.task name found

pub finds_name : (n : NamesShape) (d : Domain) (p : Problem) (kept : Pruned) (name : List ℕ) (found : Found) → names_shape d p kept ≡ n → IsSound d → Fits d p
    → found ≡ else_named (task_finds kept.task name) (named_duration d p name) → Finds n name found
finds_name n d p kept name found same sound fits e =
    subst (λ (n : NamesShape). Finds n name found) same (record { value = e; knows = subst (KnowsAs d p kept.task name) (sym e) (knows_as d p kept name sound fits) })
