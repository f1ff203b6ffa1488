-- what files come to never ends with status 1
use Rattle.std.proofs.Common.{◌≡◌, ℕ, Bool, true, false, List, Option, None, Some, Result, Ok, Err, refl, subst}
use Rattle.std.specs.Prelude.{nat_lt, length, if◌then◌else◌}
use Rattle.cpt_io.specs.Meaning.{Files}
use Rattle.cpt_task.specs.declared.memory.Limit.TheVariants.{File}
use Rattle.cpt_sexp.specs.declared.item.SexpError.{SexpError}
use Rattle.cpt_sexp.specs.declared.item.SexpError.TheVariants as sexp_errors
use Rattle.cpt_domain.specs.declared.domain.Domain.{Domain}
use Rattle.cpt_domain.specs.declared.error.DomainError.{DomainError}
use Rattle.cpt_domain.specs.declared.error.DomainError.TheVariants as domain_errors
use Rattle.cpt_domain.specs.Reading.{domain_of}
use Rattle.cpt_facts.specs.declared.problem.Problem.{Problem}
use Rattle.cpt_problem.specs.declared.error.ProblemError.{ProblemError}
use Rattle.cpt_problem.specs.declared.error.ProblemError.TheVariants as problem_errors
use Rattle.cpt_problem.specs.Reading.{problem_of}
use Rattle.cpt_instance.specs.declared.error.GroundError.{GroundError}
use Rattle.cpt_instance.specs.declared.error.GroundError.TheVariants as ground_errors
use Rattle.cpt_reach.specs.declared.pruning.PruneError.{PruneError}
use Rattle.cpt_reach.specs.declared.pruning.PruneError.TheVariants as prune_errors
use Rattle.cpt_reach.specs.declared.pruning.Pruned.{Pruned}
use Rattle.cpt_files.specs.declared.accepted.Accepted.{Accepted}
use Rattle.cpt_answer.specs.declared.ending.Ending.{Ending}
use Rattle.cpt_answer.specs.declared.ending.Cause.TheVariants.{Passed}
use Rattle.cpt_answer.specs.declared.ending.Ending.TheVariants as endings
use Rattle.cpt_files.specs.declared.problems.Source.{Source}
use Rattle.cpt_files.specs.declared.problems.Source.TheVariants.{OfDomain, OfProblem}
use Rattle.cpt_files.specs.Accepted.{AcceptsTask, GroundsTo, KeepsTo, PrunesTo, accepted, ground_ending, prune_ending}
use Rattle.cpt_answer.specs.Endings.{ending_answer}
use Rattle.cpt_answer.specs.Giving.{Then, ThenBy, ended}
use Rattle.cpt_files.specs.Files.{text_under, within_limit}
use Rattle.cpt_files.specs.Texts.{DomainText, DomainUnder, ParsesTo, ProblemText, ProblemUnder, domain_ending, problem_ending, sexp_ending}

-- the ending is no word against a plan
abbrev pub IsNotOne : Ending → Type 0
IsNotOne e = (ending_answer e).status ≡ 1 → ⊥

-- an ending of two stages is that of the first or of the second
pub then_not_one : {A B : Type 0} (x : Result A Ending) (Q : A → Result B Ending → Type 0) (e : Ending) → ((f : Ending) → x ≡ Err f → IsNotOne f) → ((a : A) → Q a (Err e) → IsNotOne e) → Then x Q (Err e) → IsNotOne e
then_not_one (Ok a) Q e first next h = next a h
then_not_one (Err f) Q e first next h = let same : f ≡ e = cc in subst IsNotOne same (first f refl)

pub then_by_not_one : {A B : Type 0} (P : Result A Ending → Type 0) (Q : A → Result B Ending → Type 0) (e : Ending) → ((f : Ending) → P (Err f) → IsNotOne f) → ((a : A) → Q a (Err e) → IsNotOne e) → ThenBy P Q (Err e) → IsNotOne e
then_by_not_one P Q e first next h = then_not_one h.0 Q e (λ f same. first f (subst P same h.1)) next h.2

ended_not_one : {A E : Type 0} (ending : E → Ending) (x : Result A E) (f : Ending) → ((e : E) → IsNotOne (ending e)) → ended ending x ≡ Err f → IsNotOne f
ended_not_one ending (Ok a) f each h = absurd (cc)
ended_not_one ending (Err e) f each h = let same : ending e ≡ f = cc in subst IsNotOne same (each e)

limit_not_one : (long : Bool) (bytes : List ℕ) (f : Ending) → (if long then Err (endings.Because (Passed File)) else Ok bytes) ≡ Err f → IsNotOne f
limit_not_one true bytes f h = let same : endings.Because (Passed File) ≡ f = cc in subst IsNotOne same (λ z. cc)
limit_not_one false bytes f h = absurd (cc)

bytes_not_one : (o : Option (List ℕ)) (f : Ending) → within_limit o ≡ Err f → IsNotOne f
bytes_not_one None f h = let same : endings.Read ≡ f = cc in subst IsNotOne same (λ z. cc)
bytes_not_one (Some bytes) f h = limit_not_one (nat_lt 16777216 (length bytes)) bytes f h

sexp_not_one : (source : Source) (e : SexpError) → IsNotOne (sexp_ending source e)
sexp_not_one OfDomain (sexp_errors.BadByte at) z = cc
sexp_not_one OfDomain (sexp_errors.Unopened at) z = cc
sexp_not_one OfDomain (sexp_errors.Unclosed at) z = cc
sexp_not_one OfDomain (sexp_errors.Deep at) z = cc
sexp_not_one OfDomain sexp_errors.Memory z = cc
sexp_not_one OfProblem (sexp_errors.BadByte at) z = cc
sexp_not_one OfProblem (sexp_errors.Unopened at) z = cc
sexp_not_one OfProblem (sexp_errors.Unclosed at) z = cc
sexp_not_one OfProblem (sexp_errors.Deep at) z = cc
sexp_not_one OfProblem sexp_errors.Memory z = cc

domain_not_one : (e : DomainError) → IsNotOne (domain_ending e)
domain_not_one (domain_errors.Shape at) z = cc
domain_not_one (domain_errors.BadName at) z = cc
domain_not_one (domain_errors.Twice at) z = cc
domain_not_one (domain_errors.BadType at) z = cc
domain_not_one (domain_errors.Arity at) z = cc
domain_not_one (domain_errors.Feature which at) z = cc
domain_not_one (domain_errors.Window at) z = cc
domain_not_one (domain_errors.Duration at) z = cc
domain_not_one (domain_errors.Limit which at) z = cc
domain_not_one domain_errors.Memory z = cc

problem_not_one : (e : ProblemError) → IsNotOne (problem_ending e)
problem_not_one (problem_errors.Shape at) z = cc
problem_not_one (problem_errors.BadName at) z = cc
problem_not_one (problem_errors.Twice at) z = cc
problem_not_one (problem_errors.BadType at) z = cc
problem_not_one (problem_errors.Arity at) z = cc
problem_not_one (problem_errors.Feature which at) z = cc
problem_not_one (problem_errors.Duration at) z = cc
problem_not_one (problem_errors.Limit which at) z = cc
problem_not_one (problem_errors.OtherDomain at) z = cc
problem_not_one problem_errors.Memory z = cc

ground_not_one : (e : GroundError) → IsNotOne (ground_ending e)
ground_not_one (ground_errors.Limit which) z = cc
ground_not_one ground_errors.Memory z = cc

prune_not_one : (e : PruneError) → IsNotOne (prune_ending e)
prune_not_one (prune_errors.Limit which) z = cc
prune_not_one prune_errors.Memory z = cc

parses_not_one : (source : Source) (text : List ℕ) (f : Ending) → ParsesTo source text (Err f) → IsNotOne f
parses_not_one source text f h = ended_not_one (sexp_ending source) h.0 f (sexp_not_one source) h.3

domain_under_not_one : (files : Files) (name : List ℕ) (f : Ending) → DomainUnder files name (Err f) → IsNotOne f
domain_under_not_one files name f h =
    then_not_one (text_under files name) DomainText f (bytes_not_one (files name))
    (λ text k. then_by_not_one (ParsesTo OfDomain text) (λ forest r. ended domain_ending (domain_of forest) ≡ r) f (parses_not_one OfDomain text) (λ forest e. ended_not_one domain_ending (domain_of forest) f domain_not_one e) k.0) h

problem_under_not_one : (files : Files) (d : Domain) (name : List ℕ) (f : Ending) → ProblemUnder files d name (Err f) → IsNotOne f
problem_under_not_one files d name f h =
    then_not_one (text_under files name) (ProblemText d) f (bytes_not_one (files name))
    (λ text k. then_by_not_one (ParsesTo OfProblem text) (λ forest r. ended problem_ending (problem_of d forest) ≡ r) f (parses_not_one OfProblem text) (λ forest e. ended_not_one problem_ending (problem_of d forest) f problem_not_one e) k.0) h

keeps_not_one : (d : Domain) (p : Problem) (f : Ending) → KeepsTo d p (Err f) → IsNotOne f
keeps_not_one d p f h =
    then_by_not_one (GroundsTo d p) PrunesTo f (λ e g. ended_not_one ground_ending g.0 e ground_not_one g.4) (λ t k. ended_not_one prune_ending k.0 f prune_not_one k.3) h

-- two files that do not come to a kept task end with another status
pub accepts_not_one : (files : Files) (dn pn : List ℕ) (f : Ending) → AcceptsTask files dn pn (Err f) → IsNotOne f
accepts_not_one files dn pn f h =
    let Last : Domain → Problem → Pruned → Result Accepted Ending → Type 0 = λ d p kept r. r ≡ Ok (accepted d p kept) in
    let Next : Domain → Problem → Result Accepted Ending → Type 0 = λ d p. ThenBy (KeepsTo d p) (Last d p) in
    then_by_not_one (DomainUnder files dn) (λ d. ThenBy (ProblemUnder files d pn) (Next d)) f (domain_under_not_one files dn)
    (λ d k. then_by_not_one (ProblemUnder files d pn) (Next d) f (problem_under_not_one files d pn)
    (λ p m. then_by_not_one (KeepsTo d p) (Last d p) f (keeps_not_one d p) (λ kept e. absurd (cc)) m) k) h
