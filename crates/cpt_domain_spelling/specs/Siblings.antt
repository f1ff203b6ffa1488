use Rattle.std.specs.Prelude.{◌≡◌, ◌≢◌, ℕ, ◌+◌, ◌<◌, ◌≤◌, max, drop, true, List, [], ◌∷◌, ◌++◌, length, All, slice_index, codes}
use Rattle.cpt_sexp.specs.Printing.{Nest, nothing, name}
use Rattle.cpt_declared.specs.Kinds.{has}
use Rattle.cpt_domain_spelling.specs.Names.{named}

-- types that stand together, by their numbers, and their parent
pub record Siblings : Type 0 where
  pub kinds : List ℕ
  pub parent : ℕ

-- the names of types, and then the rest
abbrev pub names_then : List (List ℕ) → List ℕ → Nest → Nest
names_then types [] rest = rest
names_then types (kind ∷ kinds) rest = name (named types kind) (names_then types kinds rest)

-- types in groups of siblings, each group followed by a dash and its parent
abbrev pub siblings_nest : List (List ℕ) → List Siblings → Nest
siblings_nest types [] = nothing
siblings_nest types (s ∷ groups) = names_then types s.kinds (name (codes "-") (name (named types s.parent) (siblings_nest types groups)))

-- the types that stand before a dash
abbrev pub entries : List Siblings → List ℕ
entries [] = []
entries (s ∷ groups) = s.kinds ++ entries groups

-- all the types that stand there, in the order of the text
abbrev pub mentions : List Siblings → List ℕ
mentions [] = []
mentions (s ∷ groups) = s.kinds ++ s.parent ∷ mentions groups

-- where so many types are known, each of these is known at its place, or is the next one
abbrev pub AreByFirstPlace : ℕ → List ℕ → Type 0
AreByFirstPlace known [] = Unit {0}
AreByFirstPlace known (kind ∷ kinds) = (kind ≤ known) × AreByFirstPlace (max known (kind + 1)) kinds

-- no number stands twice
abbrev pub NoneTwice : List ℕ → Type 0
NoneTwice numbers = (i j : ℕ) → i < j → j < length numbers → slice_index numbers i ≢ slice_index numbers j

-- at least one type, none of them object, and all with this parent
pub record AreSiblings (parents : List ℕ) (s : Siblings) : Type 0 where
  pub some : 0 < length s.kinds
  pub real : All (λ kind. (0 < kind) × (kind < length parents)) s.kinds
  pub same : All (λ kind. slice_index parents kind ≡ s.parent) s.kinds

-- Types with these parents stand in these groups: each type but object stands once before a dash, and behind the
-- dash stands its parent; and the types are numbered by their first places.
pub record IsArranged (parents : List ℕ) (groups : List Siblings) : Type 0 where
  pub siblings : All (AreSiblings parents) groups
  pub once : NoneTwice (entries groups)
  pub whole : (kind : ℕ) → 0 < kind → kind < length parents → has (entries groups) kind ≡ true
  pub first : AreByFirstPlace 1 (mentions groups)

-- each type alone, with its parent: those with these parents, with the numbers from one on
abbrev pub one_by_one : ℕ → List ℕ → List Siblings
one_by_one kind [] = []
one_by_one kind (parent ∷ parents) = record { kinds = kind ∷ []; parent = parent } ∷ one_by_one (kind + 1) parents

-- where each type but the first has a lesser one for its parent, the types can stand one by one
abbrev pub LesserParentsStand : Type 0
LesserParentsStand =
    (parents : List ℕ) → ((kind : ℕ) → 0 < kind → kind < length parents → slice_index parents kind < kind) → IsArranged parents (one_by_one 1 (drop 1 parents))
