-- what the made texts come to in a library in memory
use Rattle.std.proofs.Common.{◌≡◌, ℕ, Bool, List, [], ◌∷◌, Option, None, Some, Vec, Result, Ok, Err, IfSome, sym, ap, ◌∙◌, subst}
use Rattle.std.specs.Global.{Global}
use Rattle.cpt_io.specs.Meaning.{Files}
use Rattle.cpt_io.specs.Entries.{Entry, held}
use Rattle.cpt_domain.specs.declared.domain.Domain.{Domain}
use Rattle.cpt_answer.specs.declared.ending.Ending.{Ending}
use Rattle.cpt_answer.specs.declared.ending.Ending.TheVariants.{Because, Read, Memory}
use Rattle.cpt_answer.specs.Giving.{Gives, Then, ThenBy}
use Rattle.cpt_files.specs.declared.accepted.Accepted.{Accepted}
use Rattle.cpt_files.specs.Accepted.{AcceptsTask, KeepsTo, accepted}
use Rattle.cpt_files.specs.Files.{within_limit}
use Rattle.cpt_files.specs.Texts.{DomainText, ProblemText, ProblemUnder}
use Rattle.cpt_gen.specs.Texts.{domain_text, problem_text}
use Rattle.cpt_bench.specs.Made.{AreMade, HoldsMade, domain_name, made_ending, made_files, problem_name}

-- two files with the made texts are made files
pub two_files : (n : ℕ) (files : List Entry) (a b : List ℕ) (v w : Vec ℕ Global) → files ≡ (a, v) ∷ (b, w) ∷ [] → a ≡ domain_name → b ≡ problem_name → v.items ≡ domain_text → w.items ≡ problem_text n → AreMade n (held files)
two_files n files a b v w same first second domain problem =
    let entries : List ℕ → List ℕ → List Entry = λ a b. (a, v) ∷ (b, w) ∷ [] in
    let named : files ≡ entries domain_name problem_name = same ∙ ap (λ a. entries a b) first ∙ ap (entries domain_name) second in
    subst (λ (fs : List Entry). AreMade n (held fs)) (sym named) (record { domain = ap Some domain; problem = ap Some problem })

pub holds_made : (n : ℕ) (o : Option Files) (files : List Entry) → o ≡ Some (held files) → AreMade n (held files) → HoldsMade n o
holds_made n o files told made = subst (HoldsMade n) (sym told) made

-- a stage after a value may come to something else
then_other : {A B : Type 0} (x : Result A Ending) (P Q : A → Result B Ending → Type 0) (r : Result B Ending) → ((a : A) → P a r → Q a r) → Then x P r → Then x Q r
then_other (Ok a) P Q r f h = f a h
then_other (Err e) P Q r f h = h

-- the stages after the domain
abbrev Next : Files → Domain → Result Accepted Ending → Type 0
Next files d = ThenBy (ProblemUnder files d problem_name) (λ p. ThenBy (KeepsTo d p) (λ kept r. r ≡ Ok (accepted d p kept)))

next_made : (n : ℕ) (files : Files) → AreMade n files → (d : Domain) (r : Result Accepted Ending) → Next files d r → Next (made_files n) d r
next_made n files made d r h = (h.0, subst (λ o. Then (within_limit o) (ProblemText d) h.0) made.problem h.1, h.2)

-- what files with the made texts come to is what the made files do
accepts_made : (n : ℕ) (files : Files) → AreMade n files → (r : Result Accepted Ending) → AcceptsTask files domain_name problem_name r → AcceptsTask (made_files n) domain_name problem_name r
accepts_made n files made r h =
    (h.0, subst (λ o. Then (within_limit o) DomainText h.0) made.domain h.1, then_other h.0 (Next files) (Next (made_files n)) r (λ d next. next_made n files made d r next) h.2)

pub accepted_as_made : (n : ℕ) (o : Option Files) (a : Accepted) → HoldsMade n o → IfSome o (λ files. AcceptsTask files domain_name problem_name (Ok a)) → AcceptsTask (made_files n) domain_name problem_name (Ok a)
accepted_as_made n None a made h = absurd made
accepted_as_made n (Some files) a made h = accepts_made n files made (Ok a) h

pub ended_as_made : (n : ℕ) (o : Option Files) (always steady : Bool) (e : Ending) → HoldsMade n o → IfSome o (λ files. Gives always (λ (a : Accepted). a) (Err e) (AcceptsTask files domain_name problem_name))
    → Gives steady (λ (a : Accepted). a) (Err (made_ending e)) (AcceptsTask (made_files n) domain_name problem_name)
ended_as_made n None always steady e made h = absurd made
ended_as_made n (Some files) always steady (Because cause) made h = accepts_made n files made (Err (Because cause)) h
ended_as_made n (Some files) always steady Read made h = tt
ended_as_made n (Some files) always steady Memory made h = tt
