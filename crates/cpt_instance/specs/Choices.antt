use Rattle.std.specs.Prelude.{ℕ, ◌+◌, ◌*◌, ◌/◌, ◌%◌, ◌<◌, if◌then◌else◌, List, [], ◌∷◌, length, map, sum_by, count_by, slice_index}
use Rattle.cpt_pddl.specs.Kinds.{is_below}
use Rattle.cpt_schema.specs.declared.schemas.Schema.{Schema}
use Rattle.cpt_domain.specs.declared.domain.Domain.{Domain}
use Rattle.cpt_domain.specs.declared.domain.ObjectDecl.{ObjectDecl}
use Rattle.cpt_facts.specs.declared.problem.Problem.{Problem}
use Rattle.cpt_facts.specs.Fitting.{objects_of}

-- the types of the objects, by number
abbrev pub object_kinds : Domain → Problem → List ℕ
object_kinds d p = map (λ (o : ObjectDecl). o.kind) (objects_of d p)

-- how many of the types are the wanted one or below it
abbrev pub member_count : List ℕ → List ℕ → ℕ → ℕ
member_count parents kinds wanted = count_by (λ kind. is_below parents kind wanted) kinds

-- the product of these counts over the wanted types
abbrev pub list_total : List ℕ → List ℕ → List ℕ → ℕ
list_total parents kinds [] = 1
list_total parents kinds (wanted ∷ rest) = member_count parents kinds wanted * list_total parents kinds rest

-- the sum of the products over the schemas
abbrev pub schemas_total : List ℕ → List ℕ → List Schema → ℕ
schemas_total parents kinds schemas = sum_by (λ (s : Schema). list_total parents kinds s.kinds) schemas

-- the numbers of the types that are the wanted one or below it, where the first has this number
abbrev pub members_from : List ℕ → ℕ → ℕ → List ℕ → List ℕ
members_from parents wanted first [] = []
members_from parents wanted first (kind ∷ kinds) =
    if is_below parents kind wanted then first ∷ members_from parents wanted (first + 1) kinds
    else members_from parents wanted (first + 1) kinds

-- the objects of each wanted type
abbrev pub choices_of : List ℕ → List ℕ → List ℕ → List (List ℕ)
choices_of parents kinds wanted = map (λ w. members_from parents w 0 kinds) wanted

-- how many ways there are to choose one of each list
abbrev pub choice_count : List (List ℕ) → ℕ
choice_count [] = 1
choice_count (xs ∷ rest) = length xs * choice_count rest

-- the way to choose one of each list that has this place among all, where the first list varies slowest
abbrev pub choice_at : List (List ℕ) → ℕ → List ℕ
choice_at [] place = []
choice_at (xs ∷ rest) place = slice_index xs (place / choice_count rest) ∷ choice_at rest (place % choice_count rest)

-- each number is below every later one
pub record Rises (xs : List ℕ) : Type 0 where
  pub rises : (i j : ℕ) → i < j → j < length xs → slice_index xs i < slice_index xs j

-- the numbers of each list stand in order
abbrev pub AllRise : List (List ℕ) → Type 0
AllRise [] = Unit {0}
AllRise (xs ∷ rest) = Rises xs × AllRise rest
