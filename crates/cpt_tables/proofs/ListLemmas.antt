-- numbers and actions of lists by their places
use Rattle.std.proofs.Common.{◌≡◌, ℕ, ◌<◌, List, length, get_or, Contains, sym, subst, ◌∙◌}
use Rattle.std.proofs.lemmas.Grind.{get_or_default_zero}
use Rattle.std.proofs.lemmas.List.Elements.{Contains-get_or}

-- the place of a number that a list contains
pub place_in : (xs : List ℕ) (x : ℕ) → Contains xs x → (j : ℕ) × (j < length xs) × (x ≡ get_or xs j 0)
place_in xs x has = (has.0, has.1, sym has.2 ∙ get_or_default_zero xs has.0 x has.1)

-- the number at a place is in the list
pub contains_at : (xs : List ℕ) (x j : ℕ) → j < length xs → x ≡ get_or xs j 0 → Contains xs x
contains_at xs x j lt e = subst (Contains xs) (sym e) (Contains-get_or xs j 0 lt)
