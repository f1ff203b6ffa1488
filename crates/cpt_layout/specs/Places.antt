use Rattle.std.specs.Prelude.{◌≡◌, ◌≢◌, ◌⊎◌, ℕ, zero, suc, ◌<◌, ◌==◌, Bool, List, [], ◌∷◌, ◌++◌, length, map, take, slice_index_or, if◌then◌else◌}
use Rattle.cpt_sheet.specs.declared.data.Cand.{Cand}
use Rattle.cpt_sheet.specs.declared.data.Cand.TheVariants.{Tok, Out}
use Rattle.cpt_sheet.specs.declared.data.Kind.{Kind}
use Rattle.cpt_sheet.specs.declared.data.Kind.TheVariants.{Start, End, Act}

-- what a cell holds: an end of the interval of an outside action or of a token, whether an order stands, or whether a
-- candidate is in a list of a token, which is named by its place among the token's preconditions
pub data Place : Type 0 where
  out_lo : ℕ → Place
  out_hi : ℕ → Place
  tok_lo : ℕ → Place
  tok_hi : ℕ → Place
  order : ℕ → ℕ → Place
  member : ℕ → ℕ → Cand → Place

-- what does not change with the cells: the bound, what each action and the end need, who adds each atom, and what the
-- tokens stand for
pub record Frame : Type 0 where
  pub bound : ℕ
  pub pre : List (List ℕ)
  pub goal : List ℕ
  pub adders : List (List ℕ)
  pub kinds : List Kind

-- with further tokens behind the others, and with the first n tokens alone
abbrev pub extended : Frame → List Kind → Frame
extended s ks = record s { kinds = s.kinds ++ ks }

-- the frame with its first n tokens alone
abbrev pub cut : Frame → ℕ → Frame
cut s n = record s { kinds = take n s.kinds }

-- f i, f (i + 1) and so on, n of them
abbrev pub table : {X : Type 0} → (ℕ → X) → ℕ → ℕ → List X
table f i zero = []
table f i (suc n) = f i ∷ table f (suc i) n

-- the elements that pass the test
abbrev pub kept : {X : Type 0} → (X → Bool) → List X → List X
kept f [] = []
kept f (x ∷ xs) = if f x then x ∷ kept f xs else kept f xs

-- the kind of a token
abbrev pub kind_at : Frame → ℕ → Kind
kind_at s x = slice_index_or s.kinds x Start

-- the preconditions of what a token stands for, where these are the actions' and the end's
abbrev pub needs_by_lists : List (List ℕ) → List ℕ → Kind → List ℕ
needs_by_lists pre goal Start = []
needs_by_lists pre goal End = goal
needs_by_lists pre goal (Act a) = slice_index_or pre a []

-- the preconditions of a kind of token
abbrev pub needs_by : Frame → Kind → List ℕ
needs_by s k = needs_by_lists s.pre s.goal k

-- the preconditions of a token, and the atom of one of them
abbrev pub needs_at : Frame → ℕ → List ℕ
needs_at s x = needs_by s (kind_at s x)

-- the atom of the j-th precondition of a token
abbrev pub atom_at : Frame → ℕ → ℕ → ℕ
atom_at s x j = slice_index_or (needs_at s x) j 0

-- the actions that add the atom
abbrev pub adders_at : Frame → ℕ → List ℕ
adders_at s p = slice_index_or s.adders p []

-- the tokens, then the actions that add the atom: who may ever be in a list for it
abbrev pub all_cands : Frame → ℕ → List Cand
all_cands s p = table Tok 0 (length s.kinds) ++ map Out (adders_at s p)

-- every pair of tokens, in order
abbrev pub all_pairs : ℕ → ℕ → ℕ → List (ℕ × ℕ)
all_pairs k i zero = []
all_pairs k i (suc n) = table (λ y. (i, y)) 0 k ++ all_pairs k (suc i) n

-- the element is in the list
abbrev pub In : {X : Type 0} → X → List X → Type 0
In x [] = ⊥
In x (y ∷ ys) = (y ≡ x) ⊎ In x ys

-- a place that has a cell
abbrev pub IsThere : Frame → Place → Type 0
IsThere s (out_lo a) = a < length s.pre
IsThere s (out_hi a) = a < length s.pre
IsThere s (tok_lo x) = x < length s.kinds
IsThere s (tok_hi x) = x < length s.kinds
IsThere s (order x y) = (x < length s.kinds) × (y < length s.kinds) × (x ≢ y)
IsThere s (member x j c) = (x < length s.kinds) × (j < length (needs_at s x)) × In c (all_cands s (atom_at s x j)) × (c ≢ Tok x)

-- no element stands twice
abbrev pub NoTwice : {X : Type 0} → List X → Type 0
NoTwice [] = Unit {0}
NoTwice (x ∷ xs) = (In x xs → ⊥) × NoTwice xs

-- the place of a number in a list, and its length where it is not there
abbrev pub place_in : ℕ → List ℕ → ℕ
place_in a [] = 0
place_in a (b ∷ bs) = if b == a then 0 else suc (place_in a bs)
