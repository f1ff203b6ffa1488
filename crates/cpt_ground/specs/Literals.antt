use Rattle.std.specs.Prelude.{◌↔◌, ℕ, ◌+◌, ◌<◌, ◌^◌, Bool, ◌&&◌, not, Option, List, [], ◌∷◌, ◌++◌, length, map, flat_map, AllPairs, Contains}
use Rattle.std.specs.Option.{option_map}
use Rattle.std.specs.List.{filter, filter_map}
use Rattle.cpt_domain.specs.declared.domain.Domain.{Domain}
use Rattle.cpt_facts.specs.declared.problem.Fact.{Fact}
use Rattle.cpt_facts.specs.declared.problem.Problem.{Problem}
use Rattle.cpt_facts.specs.Fitting.{predicate_at}
use Rattle.cpt_instance.specs.Instances.{names_of}
use Rattle.cpt_ground.specs.declared.literals.Literals.{Literals}
use Rattle.cpt_ground.specs.Signed.{Signed, SignedAction, has}
use Rattle.cpt_ground.specs.Atoms.{fact_of, facts_of, place_of}
use Rattle.cpt_ground.specs.Compiled.{Literal, there, missing, IsFactBefore}

-- the plain atoms of an action
abbrev pub plain_of : SignedAction → List Fact
plain_of a = (a.present ++ a.add) ++ a.dele

-- the plain atoms of a task, as they come
abbrev pub plain_atoms : Signed → List Fact
plain_atoms s = (s.init ++ s.goal) ++ flat_map plain_of s.actions

-- the atoms of which a task has the complement, as they come
abbrev pub absent_atoms : Signed → List Fact
absent_atoms s = s.absent ++ flat_map (λ (a : SignedAction). a.absent) s.actions

-- the literals by number: the plain atoms, and behind them the complements
abbrev pub literals_of : Literals → List Literal
literals_of l = map there (facts_of l.plain.items) ++ map missing (facts_of l.complements.items)

-- both lists are in order, and short enough for numbers
pub record AreSorted (l : Literals) : Type 0 where
  pub plain : AllPairs IsFactBefore (facts_of l.plain.items)
  pub complements : AllPairs IsFactBefore (facts_of l.complements.items)
  pub few : length l.plain.items + length l.complements.items < 2 ^ 31

-- the number of a plain atom, and that of a complement
abbrev pub plain_number : Literals → Fact → Option ℕ
plain_number l f = place_of (facts_of l.plain.items) f

-- the number of a fact's complement, behind the plain atoms
abbrev pub complement_number : Literals → Fact → Option ℕ
complement_number l f = option_map (λ k. length l.plain.items + k) (place_of (facts_of l.complements.items) f)

-- the numbers of plain atoms, as they come, and of the complements of those atoms that a second list has not
abbrev pub plain_numbers : Literals → List Fact → List ℕ
plain_numbers l facts = filter_map (plain_number l) facts

-- the numbers of the complements of facts, but of these
abbrev pub complement_numbers : Literals → List Fact → List Fact → List ℕ
complement_numbers l facts but = filter_map (complement_number l) (filter (λ f. not (has but f)) facts)

-- the numbers of the complements of the atoms that a list has not
abbrev pub unheld_numbers : Literals → List Fact → List ℕ
unheld_numbers l init = filter_map (λ a. complement_number l (fact_of a)) (filter (λ a. not (has init (fact_of a))) l.complements.items)

-- a plain atom of the first list, or the complement of an atom of the second that the third has not
abbrev pub is_chosen : List Fact → List Fact → List Fact → Literal → Bool
is_chosen present absent but (there f) = has present f
is_chosen present absent but (missing f) = has absent f && not (has but f)

-- a name: the front, that of the predicate, those of the objects with a blank before each, and a closing parenthesis
abbrev pub name_with : Domain → Problem → List ℕ → Fact → List ℕ
name_with d p front f = ((front ++ (predicate_at d f.pred).name) ++ flat_map (λ word. 32 ∷ word) (names_of d p f.args)) ++ (41 ∷ [])

-- the same numbers
abbrev pub AreSame : List ℕ → List ℕ → Type 0
AreSame ns ms = (n : ℕ) → Contains ns n ↔ Contains ms n
