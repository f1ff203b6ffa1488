use Rattle.std.proofs.Common.{◌≡◌, ◌∙◌, ℕ, suc, zero, ◌+◌, ◌<◌, ◌⊎◌, inl, inr, Bool, true, false, cond, List, [], ◌∷◌, length, refl, sym, ap, subst, get_or, arith, drop, drop-cons}
use Rattle.std.specs.Prelude.{Contains}
use Rattle.std.proofs.lemmas.List.Sums.{sum_by-cons}
use Rattle.std.proofs.lemmas.List.Elements.{Contains-get_or}
use Rattle.cpt_pddl.specs.Kinds.{is_below}
use Rattle.cpt_instance.specs.Choices.{Rises, member_count, members_from}

cons_cases : {X : Type 0} (y : X) (ys : List X) (x : X) (k : ℕ) → k < length (y ∷ ys) → get_or (y ∷ ys) k x ≡ x → (x ≡ y) ⊎ Contains ys x
cons_cases y ys x zero lt e = inl (sym e)
cons_cases y ys x (suc k) lt e = inr (k, (let w : k < length ys = omega arith in w), e)

-- an element of a list is the first one or in the rest
pub in_cons : {X : Type 0} (y : X) (ys : List X) (x : X) → Contains (y ∷ ys) x → (x ≡ y) ⊎ Contains ys x
in_cons y ys x h = cons_cases y ys x h.0 h.1 h.2

pub first_in : {X : Type 0} (x : X) (xs : List X) → Contains (x ∷ xs) x
first_in x xs = (0, (let w : 0 < length (x ∷ xs) = omega arith in w), refl)

pub rest_in : {X : Type 0} (x : X) (xs : List X) (z : X) → Contains xs z → Contains (x ∷ xs) z
rest_in x xs z h = (suc h.0, (let w : h.0 < length xs = h.1 in let v : suc h.0 < length (x ∷ xs) = omega arith in v), h.2)

pub none_in : {X : Type 0} {A : Type 0} (x : X) → Contains [] x → A
none_in x h = let lt : h.0 < 0 = h.1 in absurd (omega arith)

-- the number is that of a place whose type is the wanted one or below it
pub record IsMember (parents : List ℕ) (wanted first : ℕ) (kinds : List ℕ) (n : ℕ) : Type 0 where
  pub place : ℕ
  pub within : place < length kinds
  pub is : n ≡ first + place
  pub below : is_below parents (get_or kinds place 0) wanted ≡ true

later : (parents : List ℕ) (wanted first kind : ℕ) (kinds : List ℕ) (n : ℕ) → IsMember parents wanted (first + 1) kinds n → IsMember parents wanted first (kind ∷ kinds) n
later parents wanted first kind kinds n h = record {
  place = suc h.place;
  within = omega (arith, h.within);
  is = omega (arith, h.is);
  below = h.below;
}

member_at : (parents : List ℕ) (wanted first kind : ℕ) (kinds rest : List ℕ) (n : ℕ) (b : Bool) → is_below parents kind wanted ≡ b
    → (Contains rest n → IsMember parents wanted (first + 1) kinds n) → Contains (cond b (first ∷ rest) rest) n → IsMember parents wanted first (kind ∷ kinds) n
member_at parents wanted first kind kinds rest n true e tail h =
    elim (in_cons first rest n h) [
      | inl same ↦ record { place = 0; within = omega arith; is = omega (arith, same); below = e }
      | inr more ↦ later parents wanted first kind kinds n (tail more)
    ]
member_at parents wanted first kind kinds rest n false e tail h = later parents wanted first kind kinds n (tail h)

-- what is among the members is one
pub is_member : (parents : List ℕ) (wanted first : ℕ) (kinds : List ℕ) (n : ℕ) → Contains (members_from parents wanted first kinds) n → IsMember parents wanted first kinds n
is_member parents wanted first [] n h = none_in n h
is_member parents wanted first (kind ∷ kinds) n h =
    member_at parents wanted first kind kinds (members_from parents wanted (first + 1) kinds) n (is_below parents kind wanted) refl
    (is_member parents wanted (first + 1) kinds n) h

first_among : (first : ℕ) (rest : List ℕ) (n : ℕ) (b : Bool) → b ≡ true → n ≡ first → Contains (cond b (first ∷ rest) rest) n
first_among first rest n true e same = subst (Contains (first ∷ rest)) (sym same) (first_in first rest)
first_among first rest n false e same = absurd (cc)

rest_among : (first : ℕ) (rest : List ℕ) (n : ℕ) (b : Bool) → Contains rest n → Contains (cond b (first ∷ rest) rest) n
rest_among first rest n true h = rest_in first rest n h
rest_among first rest n false h = h

-- each one is among the members
pub among_members : (parents : List ℕ) (wanted first : ℕ) (kinds : List ℕ) (n place : ℕ) → place < length kinds → n ≡ first + place
    → is_below parents (get_or kinds place 0) wanted ≡ true → Contains (members_from parents wanted first kinds) n
among_members parents wanted first [] n place lt e h = let v : place < 0 = lt in absurd (omega arith)
among_members parents wanted first (kind ∷ kinds) n zero lt e h =
    first_among first (members_from parents wanted (first + 1) kinds) n (is_below parents kind wanted) h (omega arith)
among_members parents wanted first (kind ∷ kinds) n (suc place) lt e h =
    rest_among first (members_from parents wanted (first + 1) kinds) n (is_below parents kind wanted)
    (among_members parents wanted (first + 1) kinds n place (omega arith) (omega arith) h)

rise_cons : (first : ℕ) (rest : List ℕ) → Rises rest → ((n : ℕ) → Contains rest n → first < n) → (i j : ℕ) → i < j → j < length (first ∷ rest)
    → get_or (first ∷ rest) i 0 < get_or (first ∷ rest) j 0
rise_cons first rest h above i zero lt within = absurd (omega arith)
rise_cons first rest h above zero (suc j) lt within = above (get_or rest j 0) (Contains-get_or rest j 0 (omega arith))
rise_cons first rest h above (suc i) (suc j) lt within = h.rises i j (omega arith) (omega arith)

rise_where : (first : ℕ) (rest : List ℕ) (b : Bool) → Rises rest → ((n : ℕ) → Contains rest n → first < n) → Rises (cond b (first ∷ rest) rest)
rise_where first rest true h above = record { rises = rise_cons first rest h above }
rise_where first rest false h above = h

later_above : (parents : List ℕ) (wanted first : ℕ) (kinds : List ℕ) (n : ℕ) → IsMember parents wanted (first + 1) kinds n → first < n
later_above parents wanted first kinds n h = omega (arith, h.is)

-- the members stand in order
pub members_rise : (parents : List ℕ) (wanted first : ℕ) (kinds : List ℕ) → Rises (members_from parents wanted first kinds)
members_rise parents wanted first [] = record { rises = λ i j lt within. let v : j < 0 = within in absurd (omega arith) }
members_rise parents wanted first (kind ∷ kinds) =
    rise_where first (members_from parents wanted (first + 1) kinds) (is_below parents kind wanted) (members_rise parents wanted (first + 1) kinds)
    (λ n h. later_above parents wanted first kinds n (is_member parents wanted (first + 1) kinds n h))

length_where : (first : ℕ) (rest : List ℕ) (b : Bool) (n : ℕ) → length rest ≡ n → length (cond b (first ∷ rest) rest) ≡ cond b 1 0 + n
length_where first rest true n e = omega arith
length_where first rest false n e = omega arith

-- there are as many as are counted
pub length-members : (parents : List ℕ) (wanted first : ℕ) (kinds : List ℕ) → length (members_from parents wanted first kinds) ≡ member_count parents kinds wanted
length-members parents wanted first [] = refl
length-members parents wanted first (kind ∷ kinds) =
    length_where first (members_from parents wanted (first + 1) kinds) (is_below parents kind wanted) (member_count parents kinds wanted)
    (length-members parents wanted (first + 1) kinds)
    ∙ sym (sum_by-cons (λ k. cond (is_below parents k wanted) 1 0) kind kinds)

-- a place whose type is the wanted one or below it is the next member
pub next_member : (parents : List ℕ) (wanted k : ℕ) (kinds : List ℕ) → k < length kinds → is_below parents (get_or kinds k 0) wanted ≡ true
    → members_from parents wanted k (drop k kinds) ≡ k ∷ members_from parents wanted (k + 1) (drop (k + 1) kinds)
next_member parents wanted k kinds lt h =
    let s : k + 1 ≡ suc k = omega arith in
    ap (members_from parents wanted k) (drop-cons kinds k 0 lt)
    ∙ ap (λ b. cond b (k ∷ members_from parents wanted (k + 1) (drop (suc k) kinds)) (members_from parents wanted (k + 1) (drop (suc k) kinds))) h
    ∙ ap (λ j. k ∷ members_from parents wanted (k + 1) (drop j kinds)) (sym s)

-- every other place is none
pub no_member : (parents : List ℕ) (wanted k : ℕ) (kinds : List ℕ) → k < length kinds → is_below parents (get_or kinds k 0) wanted ≡ false
    → members_from parents wanted k (drop k kinds) ≡ members_from parents wanted (k + 1) (drop (k + 1) kinds)
no_member parents wanted k kinds lt h =
    let s : k + 1 ≡ suc k = omega arith in
    ap (members_from parents wanted k) (drop-cons kinds k 0 lt)
    ∙ ap (λ b. cond b (k ∷ members_from parents wanted (k + 1) (drop (suc k) kinds)) (members_from parents wanted (k + 1) (drop (suc k) kinds))) h
    ∙ ap (λ j. members_from parents wanted (k + 1) (drop j kinds)) (sym s)
