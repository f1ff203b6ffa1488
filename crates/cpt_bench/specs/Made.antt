use Rattle.std.specs.Prelude.{◌≡◌, ℕ, if◌then◌else◌, List, codes, Option, None, Some}
use Rattle.std.specs.Str.{bytes_eq}
use Rattle.cpt_io.specs.Meaning.{Files}
use Rattle.cpt_gen.specs.Texts.{domain_text, problem_text}
use Rattle.cpt_answer.specs.declared.ending.Ending.{Ending}
use Rattle.cpt_answer.specs.declared.ending.Ending.TheVariants.{Because, Read, Memory}
use Rattle.cpt_options.specs.declared.options.Budget.{Budget}
use Rattle.cpt_options.specs.Options.{budget_of, no_options}

-- the names under which the two made texts are held
abbrev pub domain_name : List ℕ
domain_name = codes "domain"

-- the name of the made problem's file
abbrev pub problem_name : List ℕ
problem_name = codes "problem"

-- files that hold the made domain and the made problem with n packages, and nothing else
abbrev pub made_files : ℕ → Files
made_files n name = if bytes_eq domain_name name then Some domain_text else if bytes_eq problem_name name then Some (problem_text n) else None

-- files that hold the two texts
pub record AreMade (n : ℕ) (files : Files) : Type 0 where
  pub domain : files domain_name ≡ Some domain_text
  pub problem : files problem_name ≡ Some (problem_text n)

-- a library that tells its bytes holds them
abbrev pub HoldsMade : ℕ → Option Files → Type 0
HoldsMade n None = ⊥
HoldsMade n (Some files) = AreMade n files

-- how it ends where the made texts are not accepted; they are held, so that they cannot be read is never said
abbrev pub made_ending : Ending → Ending
made_ending (Because cause) = Because cause
made_ending Read = Memory
made_ending Memory = Memory

-- how far a search goes where no option is given
abbrev pub default_budget : Budget
default_budget = budget_of no_options
