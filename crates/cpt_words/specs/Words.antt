use Rattle.std.specs.Prelude.{◌≤◌, ℕ, ◌==◌, ◌&&◌, not, Bool, false, if◌then◌else◌, List, [], ◌∷◌, codes, Option, None, Some, option_map, option_and_then, unwrap_or}
use Rattle.std.specs.Str.{bytes_eq}
use Rattle.cpt_cert_form.specs.declared.forms.Version.{Version}
use Rattle.cpt_cert_form.specs.declared.forms.Version.TheVariants.{Two}
use Rattle.cpt_options.specs.declared.options.Budget.{Budget}
use Rattle.cpt_options.specs.declared.options.Options.{Options}
use Rattle.cpt_words.specs.declared.words.Command.{Command}
use Rattle.cpt_words.specs.declared.words.Command.TheVariants.{ValidateTask, Validate, Ground, Check, Solve, Prove, Trim, Tighten, Explain, ExplainCert, Export, ValidateJson, Bench}
use Rattle.cpt_words.specs.declared.words.Verb.{Verb}
use Rattle.cpt_words.specs.declared.words.Verb.TheVariants as verbs
use Rattle.cpt_options.specs.Options.{IsBudget, budget_of, no_options, number_within, options_behind}

-- a word that can name a file: not empty, and it does not begin with a dash
abbrev pub is_file_name : List ℕ → Bool
is_file_name [] = false
is_file_name (b ∷ bs) = not (b == 45)

-- a command with the names of its files and its options
pub data Asked : Type 0 where
  validation : (task_name plan_name : List ℕ) → Asked
  judging : (domain_name problem_name plan_name : List ℕ) → Asked
  listing : (domain_name problem_name : List ℕ) → Asked
  checking : (domain_name problem_name cert_name : List ℕ) → Asked
  solving : (domain_name problem_name : List ℕ) → Budget → Asked
  proving : (domain_name problem_name : List ℕ) → Budget → Version → Asked
  trimming : (domain_name problem_name cert_name : List ℕ) → Asked
  tightening : (domain_name problem_name plan_name : List ℕ) → Asked
  explaining : (domain_name problem_name plan_name : List ℕ) → Asked
  counting : (domain_name problem_name cert_name : List ℕ) → Asked
  exporting : (domain_name problem_name : List ℕ) → Asked
  json_validation : (task_name plan_name : List ℕ) → Asked
  benching : (size : ℕ) → Asked

-- a command of the code
abbrev pub asked_of : Command → Asked
asked_of (ValidateTask task_name plan_name) = validation task_name.now plan_name.now
asked_of (Validate domain_name problem_name plan_name) = judging domain_name.now problem_name.now plan_name.now
asked_of (Ground domain_name problem_name) = listing domain_name.now problem_name.now
asked_of (Check domain_name problem_name cert_name) = checking domain_name.now problem_name.now cert_name.now
asked_of (Solve domain_name problem_name budget) = solving domain_name.now problem_name.now budget
asked_of (Prove domain_name problem_name budget version) = proving domain_name.now problem_name.now budget version
asked_of (Trim domain_name problem_name cert_name) = trimming domain_name.now problem_name.now cert_name.now
asked_of (Tighten domain_name problem_name plan_name) = tightening domain_name.now problem_name.now plan_name.now
asked_of (Explain domain_name problem_name plan_name) = explaining domain_name.now problem_name.now plan_name.now
asked_of (ExplainCert domain_name problem_name cert_name) = counting domain_name.now problem_name.now cert_name.now
asked_of (Export domain_name problem_name) = exporting domain_name.now problem_name.now
asked_of (ValidateJson task_name plan_name) = json_validation task_name.now plan_name.now
asked_of (Bench n) = benching n

-- the first word of a command
abbrev pub verb_word : Verb → List ℕ
verb_word verbs.ValidateTask = codes "validate-task"
verb_word verbs.Validate = codes "validate"
verb_word verbs.Ground = codes "ground"
verb_word verbs.Check = codes "check"
verb_word verbs.Solve = codes "solve"
verb_word verbs.Prove = codes "prove"
verb_word verbs.Trim = codes "trim"
verb_word verbs.Tighten = codes "tighten"
verb_word verbs.Explain = codes "explain"
verb_word verbs.ExplainCert = codes "explain-cert"
verb_word verbs.Export = codes "export"
verb_word verbs.ValidateJson = codes "validate-json"
verb_word verbs.Bench = codes "bench"

-- the command whose first word this is
abbrev pub verb_in : List ℕ → Option Verb
verb_in word =
    if bytes_eq word (verb_word verbs.ValidateTask) then Some verbs.ValidateTask
    else if bytes_eq word (verb_word verbs.Validate) then Some verbs.Validate
    else if bytes_eq word (verb_word verbs.Ground) then Some verbs.Ground
    else if bytes_eq word (verb_word verbs.Check) then Some verbs.Check
    else if bytes_eq word (verb_word verbs.Solve) then Some verbs.Solve
    else if bytes_eq word (verb_word verbs.Prove) then Some verbs.Prove
    else if bytes_eq word (verb_word verbs.Trim) then Some verbs.Trim
    else if bytes_eq word (verb_word verbs.Tighten) then Some verbs.Tighten
    else if bytes_eq word (verb_word verbs.Explain) then Some verbs.Explain
    else if bytes_eq word (verb_word verbs.ExplainCert) then Some verbs.ExplainCert
    else if bytes_eq word (verb_word verbs.Export) then Some verbs.Export
    else if bytes_eq word (verb_word verbs.ValidateJson) then Some verbs.ValidateJson
    else if bytes_eq word (verb_word verbs.Bench) then Some verbs.Bench
    else None

-- two names of files and nothing else, and three
abbrev pub two_names : List (List ℕ) → Option (List ℕ × List ℕ)
two_names (a ∷ b ∷ []) = if is_file_name a && is_file_name b then Some (a, b) else None
two_names ws = None

-- three names of files, and no more
abbrev pub three_names : List (List ℕ) → Option (List ℕ × List ℕ × List ℕ)
three_names (a ∷ b ∷ c ∷ []) = if is_file_name a && (is_file_name b && is_file_name c) then Some (a, b, c) else None
three_names ws = None

-- two names of files, and the options behind them
abbrev pub searched_in : List (List ℕ) → Option (List ℕ × List ℕ × Options)
searched_in [] = None
searched_in (a ∷ []) = None
searched_in (a ∷ b ∷ ws) = if not (is_file_name a && is_file_name b) then None else option_and_then (λ given. Some (a, b, given)) (options_behind no_options ws)

-- what is solved: no version is given
abbrev pub solved_as : List ℕ → List ℕ → Options → Option Version → Option Asked
solved_as a b given None = Some (solving a b (budget_of given))
solved_as a b given (Some version) = None

-- the words behind `solve`
abbrev pub solve_in : List (List ℕ) → Option Asked
solve_in ws = option_and_then (λ n. solved_as n.0 n.1 n.2 n.2.version) (searched_in ws)

-- what is proved: the second version, where none is given
abbrev pub prove_in : List (List ℕ) → Option Asked
prove_in ws = option_and_then (λ n. Some (proving n.0 n.1 (budget_of n.2) (unwrap_or n.2.version Two))) (searched_in ws)

-- the size of a made problem, and nothing else
abbrev pub bench_in : List (List ℕ) → Option Asked
bench_in (word ∷ []) = option_map benching (number_within 1 40 word)
bench_in ws = None

-- what the words behind the first one ask of a command
abbrev pub asked_by : Verb → List (List ℕ) → Option Asked
asked_by verbs.ValidateTask ws = option_map (λ n. validation n.0 n.1) (two_names ws)
asked_by verbs.Validate ws = option_map (λ n. judging n.0 n.1 n.2) (three_names ws)
asked_by verbs.Ground ws = option_map (λ n. listing n.0 n.1) (two_names ws)
asked_by verbs.Check ws = option_map (λ n. checking n.0 n.1 n.2) (three_names ws)
asked_by verbs.Solve ws = solve_in ws
asked_by verbs.Prove ws = prove_in ws
asked_by verbs.Trim ws = option_map (λ n. trimming n.0 n.1 n.2) (three_names ws)
asked_by verbs.Tighten ws = option_map (λ n. tightening n.0 n.1 n.2) (three_names ws)
asked_by verbs.Explain ws = option_map (λ n. explaining n.0 n.1 n.2) (three_names ws)
asked_by verbs.ExplainCert ws = option_map (λ n. counting n.0 n.1 n.2) (three_names ws)
asked_by verbs.Export ws = option_map (λ n. exporting n.0 n.1) (two_names ws)
asked_by verbs.ValidateJson ws = option_map (λ n. json_validation n.0 n.1) (two_names ws)
asked_by verbs.Bench ws = bench_in ws

-- What the words ask for. Where it is nothing, they are no words of a command.
abbrev pub asked_in : List (List ℕ) → Option Asked
asked_in [] = None
asked_in (w ∷ ws) = option_and_then (λ verb. asked_by verb ws) (verb_in w)

-- the options of what is asked for keep their limits
abbrev pub IsWithin : Asked → Type 0
IsWithin (validation task_name plan_name) = Unit {0}
IsWithin (judging domain_name problem_name plan_name) = Unit {0}
IsWithin (listing domain_name problem_name) = Unit {0}
IsWithin (checking domain_name problem_name cert_name) = Unit {0}
IsWithin (solving domain_name problem_name budget) = IsBudget budget
IsWithin (proving domain_name problem_name budget version) = IsBudget budget
IsWithin (trimming domain_name problem_name cert_name) = Unit {0}
IsWithin (tightening domain_name problem_name plan_name) = Unit {0}
IsWithin (explaining domain_name problem_name plan_name) = Unit {0}
IsWithin (counting domain_name problem_name cert_name) = Unit {0}
IsWithin (exporting domain_name problem_name) = Unit {0}
IsWithin (json_validation task_name plan_name) = Unit {0}
IsWithin (benching n) = (1 ≤ n) × (n ≤ 40)
