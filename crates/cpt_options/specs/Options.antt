use Rattle.std.specs.Prelude.{◌≡◌, ◌≤◌, ℕ, nat_lt, ◌||◌, if◌then◌else◌, List, [], ◌∷◌, codes, Option, None, Some, unwrap_or}
use Rattle.std.specs.Fmt.{decimal}
use Rattle.std.specs.Option.{option_and_then}
use Rattle.std.specs.Str.{bytes_eq}
use Rattle.cpt_cert_read.specs.Reading.{number_in}
use Rattle.cpt_cert_form.specs.declared.forms.Version.{Version}
use Rattle.cpt_cert_form.specs.declared.forms.Version.TheVariants.{One, Two}
use Rattle.cpt_options.specs.declared.options.Budget.{Budget}
use Rattle.cpt_options.specs.declared.options.Options.{Options}

-- the number that the word writes in digits, without a leading zero, where it lies between these two
abbrev pub number_within : ℕ → ℕ → List ℕ → Option ℕ
number_within least most word = option_and_then (λ n. if nat_lt n least || nat_lt most n then None else Some n) (number_in word)

-- the version of this number
abbrev pub version_of : List ℕ → Option Version
version_of word = if bytes_eq word (codes "1") then Some One else if bytes_eq word (codes "2") then Some Two else None

-- the same options with one more
abbrev pub with_max : Options → ℕ → Options
with_max given n = record { max = Some n; nodes = given.nodes; version = given.version }

-- the options with this number of nodes
abbrev pub with_nodes : Options → ℕ → Options
with_nodes given n = record { max = given.max; nodes = Some n; version = given.version }

-- the options with this version
abbrev pub with_version : Options → Version → Options
with_version given v = record { max = given.max; nodes = given.nodes; version = Some v }

-- the options, where such a one is not given yet
abbrev pub once : {A : Type 0} → Option A → Options → Option Options
once None more = Some more
once (Some x) more = None

-- these options and the one of these two words
unfoldable pub with_option : Options → List ℕ → List ℕ → Option Options
with_option given word value =
    if bytes_eq word (codes "--max") then option_and_then (λ n. once given.max (with_max given n)) (number_within 0 1000000 value)
    else if bytes_eq word (codes "--nodes") then option_and_then (λ n. once given.nodes (with_nodes given n)) (number_within 1 4000000000 value)
    else if bytes_eq word (codes "--cert") then option_and_then (λ v. once given.version (with_version given v)) (version_of value)
    else None

-- these options and those that the words give, two words for each
abbrev pub options_behind : Options → List (List ℕ) → Option Options
options_behind given [] = Some given
options_behind given (word ∷ []) = None
options_behind given (word ∷ value ∷ more) = option_and_then (λ g. options_behind g more) (with_option given word value)

-- no option is given
abbrev pub no_options : Options
no_options = record { max = None; nodes = None; version = None }

-- how far a search goes by these options: up to 1,000 with 1,000,000 nodes where they say nothing
abbrev pub budget_of : Options → Budget
budget_of given = record { max = unwrap_or given.max 1000; nodes = unwrap_or given.nodes 1000000 }

-- the limits of the options
pub record IsBudget (b : Budget) : Type 0 where
  pub max : b.max ≤ 1000000
  pub some : 1 ≤ b.nodes
  pub few : b.nodes ≤ 4000000000

-- All options are those that are given already and, behind them, those of the words: in any order, each with its number as the next
-- word, and none twice.
pub data Gives (all : Options) : Options → List (List ℕ) → Type 0 where
  nothing : Gives all all []
  max : (given : Options) (n : ℕ) (more : List (List ℕ)) → given.max ≡ None → n ≤ 1000000 → Gives all (with_max given n) more → Gives all given (codes "--max" ∷ decimal n ∷ more)
  nodes : (given : Options) (n : ℕ) (more : List (List ℕ)) → given.nodes ≡ None → 1 ≤ n → n ≤ 4000000000 → Gives all (with_nodes given n) more → Gives all given (codes "--nodes" ∷ decimal n ∷ more)
  one : (given : Options) (more : List (List ℕ)) → given.version ≡ None → Gives all (with_version given One) more → Gives all given (codes "--cert" ∷ codes "1" ∷ more)
  two : (given : Options) (more : List (List ℕ)) → given.version ≡ None → Gives all (with_version given Two) more → Gives all given (codes "--cert" ∷ codes "2" ∷ more)
