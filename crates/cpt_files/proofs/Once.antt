use Rattle.std.proofs.Common.{◌≡◌, ◌≢◌, ℕ, List, Result, Ok, Err, refl, sym, ap, ◌∙◌, subst, arith}
use Rattle.cpt_io.specs.Meaning.{Files}
use Rattle.cpt_task.specs.declared.memory.Limit.{Limit}
use Rattle.cpt_task.specs.Shape.{TaskShape}
use Rattle.cpt_sexp.specs.declared.item.SexpError.{SexpError}
use Rattle.cpt_sexp.specs.declared.item.SexpError.TheVariants.{BadByte, Unopened, Unclosed, Deep, Memory}
use Rattle.cpt_sexp.specs.Faults.{IsFirstFault}
use Rattle.cpt_sexp.specs.Grammar.{ForestShape}
use Rattle.cpt_sexp.specs.Parsing.{Parses}
use Rattle.cpt_sexp.specs.Trees.{Trees}
use Rattle.cpt_sexp.proofs.OneFault.{one_first_fault}
use Rattle.cpt_sexp.proofs.OneReading.{no_fault, one_reading}
use Rattle.cpt_domain.specs.declared.domain.Domain.{Domain}
use Rattle.cpt_domain.specs.Reading.{domain_of}
use Rattle.cpt_facts.specs.declared.problem.Problem.{Problem}
use Rattle.cpt_facts.specs.Fitting.{Fits}
use Rattle.cpt_problem.specs.Reading.{problem_of}
use Rattle.cpt_instance.specs.declared.error.GroundError.{GroundError}
use Rattle.cpt_instance.specs.declared.error.GroundError.TheVariants as ground_errors
use Rattle.cpt_ground.specs.Grounding.{Grounds}
use Rattle.cpt_ground.proofs.Determined.{one_ground}
use Rattle.cpt_reach.specs.declared.pruning.Pruned.{Pruned}
use Rattle.cpt_reach.proofs.OneAnswer.{one_pruning}
use Rattle.cpt_files.specs.declared.accepted.Accepted.{Accepted}
use Rattle.cpt_answer.specs.declared.ending.Ending.{Ending}
use Rattle.cpt_files.specs.declared.problems.Source.{Source}
use Rattle.cpt_files.specs.declared.problems.Source.TheVariants.{OfDomain, OfProblem}
use Rattle.cpt_files.specs.Accepted.{AcceptsTask, GroundsTo, KeepsTo, PrunesTo, accepted, ground_ending, prune_ending}
use Rattle.cpt_answer.specs.Giving.{Then, ThenBy, ended}
use Rattle.cpt_answer.proofs.Giving.{then_by_once, then_once}
use Rattle.cpt_files.specs.Files.{text_under}
use Rattle.cpt_files.specs.Texts.{DomainText, DomainUnder, ParsesTo, ProblemText, ProblemUnder, domain_ending, problem_ending, sexp_ending}

-- an error of parsing is the first fault of the text
abbrev failed : SexpError → Result ForestShape SexpError
failed e = Err e

first_fault : (text : List ℕ) (e : SexpError) → failed e ≢ failed Memory → Parses text (Err e) → IsFirstFault text e
first_fault text (BadByte at) ne h = h
first_fault text (Unopened at) ne h = h
first_fault text (Unclosed at) ne h = h
first_fault text (Deep at) ne h = h
first_fault text Memory ne h = absurd (ne refl)

parsing_once : (text : List ℕ) (x y : Result ForestShape SexpError) → x ≢ Err Memory → y ≢ Err Memory → Parses text x → Parses text y → x ≡ y
parsing_once text (Ok f) (Ok g) a b h k =
    let trees : f.trees ≡ g.trees = one_reading text f.trees g.trees h.0 k.0 in
    let bytes : f.text ≡ g.text = h.1 ∙ sym k.1 in
    let first : Trees → ForestShape = λ t. record { trees = t; text = f.text } in
    let second : List ℕ → ForestShape = λ t. record { trees = g.trees; text = t } in
    ap Ok (ap first trees ∙ ap second bytes)
parsing_once text (Ok f) (Err e) a b h k = absurd (no_fault text f.trees e h.0 (first_fault text e b k).stands)
parsing_once text (Err e) (Ok f) a b h k = absurd (no_fault text f.trees e k.0 (first_fault text e a h).stands)
parsing_once text (Err e) (Err f) a b h k = ap Err (one_first_fault text e f (first_fault text e a h) (first_fault text f b k))

parses_once : (source : Source) (text : List ℕ) (r s : Result ForestShape Ending) → ParsesTo source text r → ParsesTo source text s → r ≡ s
parses_once source text r s h k = sym h.3 ∙ ap (ended (sexp_ending source)) (parsing_once text h.0 k.0 h.2 k.2 h.1 k.1) ∙ k.3

domain_text_once : (text : List ℕ) (r s : Result Domain Ending) → DomainText text r → DomainText text s → r ≡ s
domain_text_once text r s h k =
    then_by_once (ParsesTo OfDomain text) (λ forest r. ended domain_ending (domain_of forest) ≡ r) (parses_once OfDomain text) (λ forest x y _ a b. sym a ∙ b) r s h.0 k.0

problem_text_once : (d : Domain) (text : List ℕ) (r s : Result Problem Ending) → ProblemText d text r → ProblemText d text s → r ≡ s
problem_text_once d text r s h k =
    then_by_once (ParsesTo OfProblem text) (λ forest r. ended problem_ending (problem_of d forest) ≡ r) (parses_once OfProblem text) (λ forest x y _ a b. sym a ∙ b) r s h.0 k.0

pub domain_once : (files : Files) (name : List ℕ) (r s : Result Domain Ending) → DomainUnder files name r → DomainUnder files name s → r ≡ s
domain_once files name r s h k = then_once (text_under files name) DomainText (λ text x y _ a b. domain_text_once text x y a b) r s h k

pub problem_once : (files : Files) (d : Domain) (name : List ℕ) (r s : Result Problem Ending) → ProblemUnder files d name r → ProblemUnder files d name s → r ≡ s
problem_once files d name r s h k = then_once (text_under files name) (ProblemText d) (λ text x y _ a b. problem_text_once d text x y a b) r s h k

-- a problem that is read fits its domain
pub problem_fits : (files : Files) (d : Domain) (name : List ℕ) (p : Problem) → ProblemUnder files d name (Ok p) → Fits d p
problem_fits files d name p h = by_text (text_under files name) h
  where
    by_text : (x : Result (List ℕ) Ending) → Then x (ProblemText d) (Ok p) → Fits d p
    by_text (Ok text) t = t.1
    by_text (Err e) t = cc

grounding_once : (d : Domain) (p : Problem) (x y : Result TaskShape GroundError) → Fits d p → x ≢ Err ground_errors.Memory → y ≢ Err ground_errors.Memory → Grounds d p x → Grounds d p y → x ≡ y
grounding_once d p (Ok t) (Ok u) fits a b h k = ap Ok (one_ground d p t u fits h.1 k.1)
grounding_once d p (Ok t) (Err (ground_errors.Limit which)) fits a b h k = absurd (omega (arith, h.0, k.1))
grounding_once d p (Err (ground_errors.Limit which)) (Ok t) fits a b h k = absurd (omega (arith, k.0, h.1))
grounding_once d p (Err (ground_errors.Limit first)) (Err (ground_errors.Limit second)) fits a b h k =
    let f : Limit → Result TaskShape GroundError = λ l. Err (ground_errors.Limit l) in
    ap f (h.0 ∙ sym k.0)
grounding_once d p (Err ground_errors.Memory) y fits a b h k = absurd (a refl)
grounding_once d p (Ok t) (Err ground_errors.Memory) fits a b h k = absurd (b refl)
grounding_once d p (Err (ground_errors.Limit which)) (Err ground_errors.Memory) fits a b h k = absurd (b refl)

grounds_once : (d : Domain) (p : Problem) → Fits d p → (r s : Result TaskShape Ending) → GroundsTo d p r → GroundsTo d p s → r ≡ s
grounds_once d p fits r s h k = sym h.4 ∙ ap (ended ground_ending) (grounding_once d p h.0 k.0 fits h.3 k.3 h.1 k.1) ∙ k.4

prunes_once : (t : TaskShape) (r s : Result Pruned Ending) → PrunesTo t r → PrunesTo t s → r ≡ s
prunes_once t r s h k = sym h.3 ∙ ap (ended prune_ending) (one_pruning t h.0 k.0 h.2 k.2 h.1 k.1) ∙ k.3

keeps_once : (d : Domain) (p : Problem) → Fits d p → (r s : Result Pruned Ending) → KeepsTo d p r → KeepsTo d p s → r ≡ s
keeps_once d p fits r s h k = then_by_once (GroundsTo d p) PrunesTo (grounds_once d p fits) (λ t x y _ a b. prunes_once t x y a b) r s h k

-- two files come to one end
pub accepts_once : (files : Files) (domain_name problem_name : List ℕ) (r s : Result Accepted Ending) → AcceptsTask files domain_name problem_name r → AcceptsTask files domain_name problem_name s → r ≡ s
accepts_once files domain_name problem_name r s h k =
    let Last : Domain → Problem → Pruned → Result Accepted Ending → Type 0 = λ d p kept r. r ≡ Ok (accepted d p kept) in
    let Next : Domain → Problem → Result Accepted Ending → Type 0 = λ d p. ThenBy (KeepsTo d p) (Last d p) in
    then_by_once (DomainUnder files domain_name) (λ d. ThenBy (ProblemUnder files d problem_name) (Next d)) (domain_once files domain_name)
    (λ d x y _ a b. then_by_once (ProblemUnder files d problem_name) (Next d) (problem_once files d problem_name)
    (λ p u v read c e. then_by_once (KeepsTo d p) (Last d p) (keeps_once d p (problem_fits files d problem_name p read)) (λ kept m n _ f g. f ∙ sym g) u v c e) x y a b) r s h k
