use Rattle.std.specs.Prelude.{◌≡◌, ℕ, ◌<◌, List, [], ◌∷◌, ◌++◌, Contains, slice_index_or, suc}
use Rattle.cpt_task.specs.declared.span.Span.{Span}
use Rattle.cpt_task.specs.declared.task.Action.{Action}
use Rattle.cpt_task.specs.Interference.{Interferes}
use Rattle.cpt_task.specs.Timeline.{idle}
use Rattle.cpt_tables.specs.Spans.{◌≤ˢ◌}
use Rattle.cpt_tables.specs.Shapes.{PairShape, pair_at}
use Rattle.cpt_tables.specs.Admissible.{Leaves, limit_by_one, limit_beside, limit_by_two}

-- what gives pairs of atoms a limit: an action by itself, an action beside an atom that stays, or two actions
pub data Rule : Type 0 where
  one : Action → Rule
  beside : Action → ℕ → Rule
  two : Action → Action → Rule

-- the atoms whose values the limit of a rule is made of
abbrev pub needs_of : Rule → List ℕ
needs_of (one c) = c.pre
needs_of (beside c r) = c.pre ++ r ∷ []
needs_of (two c d) = c.pre ++ d.pre

-- the limit of a rule
abbrev pub limit_of : PairShape → Rule → Span
limit_of h (one c) = limit_by_one h c
limit_of h (beside c r) = limit_beside h c r
limit_of h (two c d) = limit_by_two h c d

-- the rule gives the two atoms a limit
abbrev pub Concerns : Rule → ℕ → ℕ → Type 0
Concerns (one c) p q = Contains c.add p × Contains c.add q
Concerns (beside c r) p q = Contains c.add p × Leaves c r × (q ≡ r)
Concerns (two c d) p q = Contains c.add p × Contains d.add q × (Interferes c d → ⊥)

-- no value is above the limit of the rule
abbrev pub IsMet : PairShape → Rule → Type 0
IsMet h r = (p q : ℕ) → Concerns r p q → pair_at h p q ≤ˢ limit_of h r

-- the rule is that of a number below n
abbrev pub IsUpTo : (ℕ → Rule → Type 0) → ℕ → Rule → Type 0
IsUpTo F n r = (k : ℕ) × (k < n) × F k r

-- the action of a number
abbrev pub action_of : List Action → ℕ → Action
action_of actions k = slice_index_or actions k idle

-- the rules of the action of number k over n atoms: by itself, beside each atom, and with each action up to itself
pub data IsRuleAt (actions : List Action) (n k : ℕ) (r : Rule) : Type 0 where
  by_itself : r ≡ one (action_of actions k) → IsRuleAt actions n k r
  with_atom : IsUpTo (λ q s. s ≡ beside (action_of actions k) q) n r → IsRuleAt actions n k r
  with_action : IsUpTo (λ j s. s ≡ two (action_of actions k) (action_of actions j)) (suc k) r → IsRuleAt actions n k r
