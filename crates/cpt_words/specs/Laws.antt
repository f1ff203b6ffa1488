use Rattle.std.specs.Prelude.{◌≡◌, ◌↔◌, ◌≤◌, ℕ, true, List, [], ◌∷◌, codes, None, Some, unwrap_or}
use Rattle.std.specs.Fmt.{decimal}
use Rattle.cpt_cert_form.specs.declared.forms.Version.{Version}
use Rattle.cpt_cert_form.specs.declared.forms.Version.TheVariants.{Two}
use Rattle.cpt_options.specs.declared.options.Budget.{Budget}
use Rattle.cpt_options.specs.declared.options.Options.{Options}
use Rattle.cpt_options.specs.Options.{Gives, budget_of, no_options}
use Rattle.cpt_words.specs.Words.{asked_in, benching, checking, counting, explaining, exporting, is_file_name, json_validation, judging, listing, proving, solving, tightening, trimming, validation}

-- the words ask for no command
abbrev pub IsUsage : List (List ℕ) → Type 0
IsUsage words = asked_in words ≡ None

-- the words ask to judge the plan of the second name over the task of the first
pub record AsksValidation (words : List (List ℕ)) (task_name plan_name : List ℕ) : Type 0 where
  pub words_are : words ≡ codes "validate-task" ∷ task_name ∷ plan_name ∷ []
  pub task_named : is_file_name task_name ≡ true
  pub plan_named : is_file_name plan_name ≡ true

-- the words ask to judge the plan of the third name over the domain and the problem of the first two
pub record AsksJudging (words : List (List ℕ)) (domain_name problem_name plan_name : List ℕ) : Type 0 where
  pub words_are : words ≡ codes "validate" ∷ domain_name ∷ problem_name ∷ plan_name ∷ []
  pub domain_named : is_file_name domain_name ≡ true
  pub problem_named : is_file_name problem_name ≡ true
  pub plan_named : is_file_name plan_name ≡ true

-- the words ask for the kept task of the domain and the problem of these names
pub record AsksListing (words : List (List ℕ)) (domain_name problem_name : List ℕ) : Type 0 where
  pub words_are : words ≡ codes "ground" ∷ domain_name ∷ problem_name ∷ []
  pub domain_named : is_file_name domain_name ≡ true
  pub problem_named : is_file_name problem_name ≡ true

-- the words ask to check the certificate of the third name over the domain and the problem of the first two
pub record AsksChecking (words : List (List ℕ)) (domain_name problem_name cert_name : List ℕ) : Type 0 where
  pub words_are : words ≡ codes "check" ∷ domain_name ∷ problem_name ∷ cert_name ∷ []
  pub domain_named : is_file_name domain_name ≡ true
  pub problem_named : is_file_name problem_name ≡ true
  pub cert_named : is_file_name cert_name ≡ true

-- the words ask for a plan of least makespan for the domain and the problem of these names, and their options say how far to search
pub record AsksSolving (words : List (List ℕ)) (domain_name problem_name : List ℕ) (budget : Budget) : Type 0 where
  pub options : List (List ℕ)
  pub given : Options
  pub words_are : words ≡ codes "solve" ∷ domain_name ∷ problem_name ∷ options
  pub domain_named : is_file_name domain_name ≡ true
  pub problem_named : is_file_name problem_name ≡ true
  pub gives : Gives given no_options options
  pub no_version : given.version ≡ None
  pub is : budget ≡ budget_of given

-- the words ask for the certificate of that search in this version, which is the second one where they say nothing of it
pub record AsksProving (words : List (List ℕ)) (domain_name problem_name : List ℕ) (budget : Budget) (version : Version) : Type 0 where
  pub options : List (List ℕ)
  pub given : Options
  pub words_are : words ≡ codes "prove" ∷ domain_name ∷ problem_name ∷ options
  pub domain_named : is_file_name domain_name ≡ true
  pub problem_named : is_file_name problem_name ≡ true
  pub gives : Gives given no_options options
  pub is : budget ≡ budget_of given
  pub version_is : version ≡ unwrap_or given.version Two

-- the words ask to trim the certificate of the third name over the domain and the problem of the first two
pub record AsksTrimming (words : List (List ℕ)) (domain_name problem_name cert_name : List ℕ) : Type 0 where
  pub words_are : words ≡ codes "trim" ∷ domain_name ∷ problem_name ∷ cert_name ∷ []
  pub domain_named : is_file_name domain_name ≡ true
  pub problem_named : is_file_name problem_name ≡ true
  pub cert_named : is_file_name cert_name ≡ true

-- the words ask to tighten the plan of the third name over the domain and the problem of the first two
pub record AsksTightening (words : List (List ℕ)) (domain_name problem_name plan_name : List ℕ) : Type 0 where
  pub words_are : words ≡ codes "tighten" ∷ domain_name ∷ problem_name ∷ plan_name ∷ []
  pub domain_named : is_file_name domain_name ≡ true
  pub problem_named : is_file_name problem_name ≡ true
  pub plan_named : is_file_name plan_name ≡ true

-- the words ask for each fault of the plan of the third name over the domain and the problem of the first two
pub record AsksExplaining (words : List (List ℕ)) (domain_name problem_name plan_name : List ℕ) : Type 0 where
  pub words_are : words ≡ codes "explain" ∷ domain_name ∷ problem_name ∷ plan_name ∷ []
  pub domain_named : is_file_name domain_name ≡ true
  pub problem_named : is_file_name problem_name ≡ true
  pub plan_named : is_file_name plan_name ≡ true

-- the words ask to check the certificate of the third name over the domain and the problem of the first two, and to count its lines
pub record AsksCounting (words : List (List ℕ)) (domain_name problem_name cert_name : List ℕ) : Type 0 where
  pub words_are : words ≡ codes "explain-cert" ∷ domain_name ∷ problem_name ∷ cert_name ∷ []
  pub domain_named : is_file_name domain_name ≡ true
  pub problem_named : is_file_name problem_name ≡ true
  pub cert_named : is_file_name cert_name ≡ true

-- the words ask for the JSON text of the kept task of the domain and the problem of these names
pub record AsksExport (words : List (List ℕ)) (domain_name problem_name : List ℕ) : Type 0 where
  pub words_are : words ≡ codes "export" ∷ domain_name ∷ problem_name ∷ []
  pub domain_named : is_file_name domain_name ≡ true
  pub problem_named : is_file_name problem_name ≡ true

-- the words ask to judge the plan of the second name over the task of the first, both in JSON
pub record AsksJson (words : List (List ℕ)) (task_name plan_name : List ℕ) : Type 0 where
  pub words_are : words ≡ codes "validate-json" ∷ task_name ∷ plan_name ∷ []
  pub task_named : is_file_name task_name ≡ true
  pub plan_named : is_file_name plan_name ≡ true

-- the words ask to make the problem of this size, to solve it and to check the certificate of its plan
pub record AsksBench (words : List (List ℕ)) (n : ℕ) : Type 0 where
  pub words_are : words ≡ codes "bench" ∷ decimal n ∷ []
  pub some : 1 ≤ n
  pub few : n ≤ 40

-- which words are read as which command
pub record ReadsWords : Type 0 where
  pub validation : (words : List (List ℕ)) (t p : List ℕ) → (asked_in words ≡ Some (validation t p)) ↔ AsksValidation words t p
  pub judging : (words : List (List ℕ)) (d p n : List ℕ) → (asked_in words ≡ Some (judging d p n)) ↔ AsksJudging words d p n
  pub listing : (words : List (List ℕ)) (d p : List ℕ) → (asked_in words ≡ Some (listing d p)) ↔ AsksListing words d p
  pub checking : (words : List (List ℕ)) (d p c : List ℕ) → (asked_in words ≡ Some (checking d p c)) ↔ AsksChecking words d p c
  pub solving : (words : List (List ℕ)) (d p : List ℕ) (budget : Budget) → (asked_in words ≡ Some (solving d p budget)) ↔ AsksSolving words d p budget
  pub proving : (words : List (List ℕ)) (d p : List ℕ) (budget : Budget) (version : Version) → (asked_in words ≡ Some (proving d p budget version)) ↔ AsksProving words d p budget version
  pub trimming : (words : List (List ℕ)) (d p c : List ℕ) → (asked_in words ≡ Some (trimming d p c)) ↔ AsksTrimming words d p c
  pub tightening : (words : List (List ℕ)) (d p n : List ℕ) → (asked_in words ≡ Some (tightening d p n)) ↔ AsksTightening words d p n
  pub explaining : (words : List (List ℕ)) (d p n : List ℕ) → (asked_in words ≡ Some (explaining d p n)) ↔ AsksExplaining words d p n
  pub counting : (words : List (List ℕ)) (d p c : List ℕ) → (asked_in words ≡ Some (counting d p c)) ↔ AsksCounting words d p c
  pub exporting : (words : List (List ℕ)) (d p : List ℕ) → (asked_in words ≡ Some (exporting d p)) ↔ AsksExport words d p
  pub json_validation : (words : List (List ℕ)) (t p : List ℕ) → (asked_in words ≡ Some (json_validation t p)) ↔ AsksJson words t p
  pub benching : (words : List (List ℕ)) (n : ℕ) → (asked_in words ≡ Some (benching n)) ↔ AsksBench words n
