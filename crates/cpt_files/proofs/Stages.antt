use Rattle.std.proofs.Common.{◌≡◌, ℕ, Bool, List, length, Option, Result, Ok, Err, IfSome, refl, ap, ◌∙◌, subst, arith}
use Rattle.std.proofs.lemmas.List.{length-map}
use Rattle.cpt_io.specs.Meaning.{Files}
use Rattle.cpt_task.specs.Shape.{TaskShape, InBounds}
use Rattle.cpt_sexp.specs.Grammar.{ForestShape}
use Rattle.cpt_domain.specs.declared.domain.Domain.{Domain}
use Rattle.cpt_domain.specs.declared.error.DomainError.{DomainError}
use Rattle.cpt_domain.specs.Errors.{Answers}
use Rattle.cpt_domain.specs.Reading.{domain_of}
use Rattle.cpt_domain.specs.Sound.{IsSound}
use Rattle.cpt_facts.specs.declared.problem.Problem.{Problem}
use Rattle.cpt_facts.specs.Fitting.{Fits}
use Rattle.cpt_problem.specs.declared.error.ProblemError.{ProblemError}
use Rattle.cpt_problem.specs.Errors as problems
use Rattle.cpt_problem.specs.Reading.{problem_of}
use Rattle.cpt_instance.specs.declared.error.GroundError.{GroundError}
use Rattle.cpt_instance.specs.declared.error.GroundError.TheVariants as ground_errors
use Rattle.cpt_ground.specs.Grounding.{Grounds}
use Rattle.cpt_reach.specs.declared.pruning.PruneError.{PruneError}
use Rattle.cpt_reach.specs.declared.pruning.PruneError.TheVariants as prune_errors
use Rattle.cpt_reach.specs.declared.pruning.Pruned.{Pruned}
use Rattle.cpt_reach.specs.Kept.{name_at, renumbered_action}
use Rattle.cpt_reach.specs.Pruning.{Prunes}
use Rattle.cpt_reach.specs.Reached.{action_at}
use Rattle.cpt_files.specs.declared.accepted.Accepted.{Accepted}
use Rattle.cpt_answer.specs.declared.ending.Ending.{Ending}
use Rattle.cpt_answer.specs.declared.ending.Cause.TheVariants.{Passed}
use Rattle.cpt_answer.specs.declared.ending.Ending.TheVariants.{Because}
use Rattle.cpt_files.specs.declared.problems.Source.TheVariants.{OfDomain, OfProblem}
use Rattle.cpt_files.specs.Accepted.{AcceptsTask, GroundsTo, IsSmall, KeepsTo, PrunesTo, accepted, ground_ending, prune_ending}
use Rattle.cpt_answer.specs.Giving.{Gives, ThenBy, ended}
use Rattle.cpt_files.specs.Files.{text_under}
use Rattle.cpt_files.specs.Texts.{DomainText, DomainUnder, ParsesTo, ProblemText, ProblemUnder, domain_ending, problem_ending}
use Rattle.cpt_answer.proofs.Giving.{gives_and, if_both, if_some_weaker, then_by_error, then_by_ok, then_ok}
use Rattle.cpt_files.proofs.Reading.{domain_read, problem_read}

-- what a parsed domain text is, and a parsed problem text
abbrev domain_says : ForestShape → Result Domain Ending → Type 0
domain_says forest r = ended domain_ending (domain_of forest) ≡ r

abbrev problem_says : Domain → ForestShape → Result Problem Ending → Type 0
problem_says d forest r = ended problem_ending (problem_of d forest) ≡ r

-- the domain text is not parsed
pub domain_unparsed : (steady : Bool) (text : List ℕ) (e : Ending) → Gives steady (λ (f : ForestShape). f) (Err e) (ParsesTo OfDomain text) → Gives steady (λ (d : Domain). d) (Err e) (DomainText text)
domain_unparsed steady text e g =
    gives_and steady (λ (d : Domain). d) (Err e) (ThenBy (ParsesTo OfDomain text) domain_says) IsSound tt
    (then_by_error steady (λ (f : ForestShape). f) (λ (d : Domain). d) (ParsesTo OfDomain text) e domain_says g)

-- the domain is read
pub domain_given : (text : List ℕ) (f : ForestShape) (d : Domain) → ParsesTo OfDomain text (Ok f) → domain_of f ≡ Ok d → IsSound d → DomainText text (Ok d)
domain_given text f d p e sound = ((Ok f, p, ap (ended domain_ending) e), sound)

-- the domain text has a fault
pub domain_faulty : (steady : Bool) (text : List ℕ) (f : ForestShape) (e : DomainError) → ParsesTo OfDomain text (Ok f) → Answers (Err e) (domain_of f)
    → Gives steady (λ (d : Domain). d) (Err (domain_ending e)) (DomainText text)
domain_faulty steady text f e p h =
    gives_and steady (λ (d : Domain). d) (Err (domain_ending e)) (ThenBy (ParsesTo OfDomain text) domain_says) IsSound tt
    (then_by_ok steady (λ (d : Domain). d) (ParsesTo OfDomain text) f (Err (domain_ending e)) domain_says p (domain_read steady (Err e) (domain_of f) h))

pub problem_unparsed : (steady : Bool) (d : Domain) (text : List ℕ) (e : Ending) → Gives steady (λ (f : ForestShape). f) (Err e) (ParsesTo OfProblem text) → Gives steady (λ (p : Problem). p) (Err e) (ProblemText d text)
problem_unparsed steady d text e g =
    gives_and steady (λ (p : Problem). p) (Err e) (ThenBy (ParsesTo OfProblem text) (problem_says d)) (Fits d) tt
    (then_by_error steady (λ (f : ForestShape). f) (λ (p : Problem). p) (ParsesTo OfProblem text) e (problem_says d) g)

pub problem_given : (d : Domain) (text : List ℕ) (f : ForestShape) (p : Problem) → ParsesTo OfProblem text (Ok f) → problem_of d f ≡ Ok p → Fits d p → ProblemText d text (Ok p)
problem_given d text f p parses e fits = ((Ok f, parses, ap (ended problem_ending) e), fits)

pub problem_faulty : (steady : Bool) (d : Domain) (text : List ℕ) (f : ForestShape) (e : ProblemError) → ParsesTo OfProblem text (Ok f) → problems.Answers (Err e) (problem_of d f)
    → Gives steady (λ (p : Problem). p) (Err (problem_ending e)) (ProblemText d text)
problem_faulty steady d text f e parses h =
    gives_and steady (λ (p : Problem). p) (Err (problem_ending e)) (ThenBy (ParsesTo OfProblem text) (problem_says d)) (Fits d) tt
    (then_by_ok steady (λ (p : Problem). p) (ParsesTo OfProblem text) f (Err (problem_ending e)) (problem_says d) parses (problem_read steady (Err e) (problem_of d f) h))

-- the text of the file is that of a domain, or of a problem
pub domain_under : (o : Option Files) (steady : Bool) (name text items : List ℕ) (r : Result Domain Ending) → text ≡ items → IfSome o (λ files. text_under files name ≡ Ok items)
    → Gives steady (λ (d : Domain). d) r (DomainText text) → IfSome o (λ files. Gives steady (λ (d : Domain). d) r (DomainUnder files name))
domain_under o steady name text items r same h g =
    if_some_weaker o (λ files. text_under files name ≡ Ok items) (λ files. Gives steady (λ (d : Domain). d) r (DomainUnder files name))
    (λ files e. then_ok steady (λ (d : Domain). d) (text_under files name) items r DomainText e (subst (λ t. Gives steady (λ (d : Domain). d) r (DomainText t)) same g)) h

pub problem_under : (o : Option Files) (steady : Bool) (d : Domain) (name text items : List ℕ) (r : Result Problem Ending) → text ≡ items → IfSome o (λ files. text_under files name ≡ Ok items)
    → Gives steady (λ (p : Problem). p) r (ProblemText d text) → IfSome o (λ files. Gives steady (λ (p : Problem). p) r (ProblemUnder files d name))
problem_under o steady d name text items r same h g =
    if_some_weaker o (λ files. text_under files name ≡ Ok items) (λ files. Gives steady (λ (p : Problem). p) r (ProblemUnder files d name))
    (λ files e. then_ok steady (λ (p : Problem). p) (text_under files name) items r (ProblemText d) e (subst (λ t. Gives steady (λ (p : Problem). p) r (ProblemText d t)) same g)) h

-- grounding passes its limit
pub ground_failed : (steady : Bool) (d : Domain) (p : Problem) (e : GroundError) → Grounds d p (Err e) → Gives steady (λ (k : Pruned). k) (Err (ground_ending e)) (KeepsTo d p)
ground_failed steady d p (ground_errors.Limit which) h =
    let g : GroundsTo d p (Err (Because (Passed which))) = (Err (ground_errors.Limit which), h, tt, (λ e. cc), refl) in
    (Err (Because (Passed which)), g, refl)
ground_failed steady d p ground_errors.Memory h = tt

grounded : (d : Domain) (p : Problem) (t : TaskShape) → Grounds d p (Ok t) → InBounds t → GroundsTo d p (Ok t)
grounded d p t g bounds = (Ok t, g, bounds, (λ e. cc), refl)

-- the kept part is there
pub keeps_given : (d : Domain) (p : Problem) (t : TaskShape) (kept : Pruned) → Grounds d p (Ok t) → InBounds t → Prunes t (Ok kept) → KeepsTo d p (Ok kept)
keeps_given d p t kept g bounds h =
    let prunes : PrunesTo t (Ok kept) = (Ok kept, h, (λ e. cc), refl) in
    (Ok t, grounded d p t g bounds, prunes)

-- the kept part keeps the limits
pub kept_small : (t : TaskShape) (kept : Pruned) → Prunes t (Ok kept) → IsSmall kept.task
kept_small t kept h = record {
  atoms = omega (arith, h.1, ap length h.0.new_atoms ∙ length-map kept.atoms (name_at t));
  actions = omega (arith, h.2, ap length h.0.new_actions ∙ length-map kept.actions (λ a. renumbered_action kept.atoms (action_at t a)));
}

-- pruning passes a limit
pub prune_failed : (steady : Bool) (d : Domain) (p : Problem) (t : TaskShape) (e : PruneError) → Grounds d p (Ok t) → InBounds t → Prunes t (Err e) → Gives steady (λ (k : Pruned). k) (Err (prune_ending e)) (KeepsTo d p)
prune_failed steady d p t (prune_errors.Limit which) g bounds h =
    let prunes : PrunesTo t (Err (Because (Passed which))) = (Err (prune_errors.Limit which), h, (λ e. cc), refl) in
    (Ok t, grounded d p t g bounds, prunes)
prune_failed steady d p t prune_errors.Memory g bounds h = tt

-- the stages after the domain
abbrev Last : Domain → Problem → Pruned → Result Accepted Ending → Type 0
Last d p kept r = r ≡ Ok (accepted d p kept)

abbrev Middle : Domain → Problem → Result Accepted Ending → Type 0
Middle d p = ThenBy (KeepsTo d p) (Last d p)

abbrev Next : Files → List ℕ → Domain → Result Accepted Ending → Type 0
Next files pn d = ThenBy (ProblemUnder files d pn) (Middle d)

-- the files hold an accepted task
pub accepted_given : (o q : Option Files) (dn pn : List ℕ) (d : Domain) (p : Problem) (kept : Pruned) → q ≡ o → IfSome o (λ files. DomainUnder files dn (Ok d)) → IfSome q (λ files. ProblemUnder files d pn (Ok p)) → KeepsTo d p (Ok kept)
    → IfSome o (λ files. AcceptsTask files dn pn (Ok (accepted d p kept)))
accepted_given o q dn pn d p kept same a b k =
    let last : Middle d p (Ok (accepted d p kept)) = (Ok kept, k, refl) in
    if_both o q (λ files. DomainUnder files dn (Ok d)) (λ files. ProblemUnder files d pn (Ok p)) (λ files. AcceptsTask files dn pn (Ok (accepted d p kept))) same
    (λ files x y. let next : Next files pn d (Ok (accepted d p kept)) = (Ok p, y, last) in (Ok d, x, next)) a b

-- their task passes a limit
pub accepted_failed : (o q : Option Files) (steady : Bool) (dn pn : List ℕ) (d : Domain) (p : Problem) (e : Ending) → q ≡ o → IfSome o (λ files. DomainUnder files dn (Ok d)) → IfSome q (λ files. ProblemUnder files d pn (Ok p))
    → Gives steady (λ (k : Pruned). k) (Err e) (KeepsTo d p) → IfSome o (λ files. Gives steady (λ (x : Accepted). x) (Err e) (AcceptsTask files dn pn))
accepted_failed o q steady dn pn d p e same a b k =
    if_both o q (λ files. DomainUnder files dn (Ok d)) (λ files. ProblemUnder files d pn (Ok p)) (λ files. Gives steady (λ (x : Accepted). x) (Err e) (AcceptsTask files dn pn)) same
    (λ files x y.
    then_by_ok steady (λ (x : Accepted). x) (DomainUnder files dn) d (Err e) (Next files pn) x
    (then_by_ok steady (λ (x : Accepted). x) (ProblemUnder files d pn) p (Err e) (Middle d) y
    (then_by_error steady (λ (k : Pruned). k) (λ (x : Accepted). x) (KeepsTo d p) e (Last d p) k))) a b
