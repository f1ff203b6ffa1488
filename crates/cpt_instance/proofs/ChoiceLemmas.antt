use Rattle.std.proofs.Common.{◌≡◌, ◌∙◌, ℕ, suc, zero, ◌+◌, ◌*◌, ◌/◌, ◌%◌, ◌<◌, ◌≤◌, ◌⊎◌, inl, inr, List, [], ◌∷◌, length, refl, sym, ap, subst, get_or, arith, mul-le-mul_right, suc-mul, mul-zero, zero-mul, append_assoc, drop, ◌++◌, drop-cons}
use Rattle.std.specs.Prelude.{Contains}
use Rattle.std.specs.List.{AllZip}
use Rattle.std.proofs.lemmas.List.{get_or_default}
use Rattle.std.proofs.lemmas.List.Elements.{Contains-get_or}
use Rattle.std.proofs.Math.ListN.{drop_of_length-le}
use Rattle.std.proofs.Math.Nat.{mul-div_cancel_left}
use Rattle.std.proofs.lemmas.Nat.{div-add-mod', div-mul-add, mod-mul-add, div_below, mod_below}
use Rattle.cpt_instance.specs.Choices.{AllRise, Rises, choice_at, choice_count, choices_of, list_total, member_count, members_from}
use Rattle.cpt_instance.specs.Instances.{IsListBefore}
use Rattle.cpt_instance.proofs.MemberLemmas.{length-members, members_rise}

-- one of each list
abbrev pub AreChosen : List (List ℕ) → List ℕ → Type 0
AreChosen choices args = AllZip (λ xs o. Contains xs o) choices args

positive : (n c place : ℕ) → place < n * c → 0 < c
positive n zero place lt = let e : n * 0 ≡ 0 = mul-zero n in absurd (omega (arith, e))
positive n (suc c) place lt = omega arith

-- what stands at a place is one of each list
pub chosen_at : (choices : List (List ℕ)) (place : ℕ) → place < choice_count choices → AreChosen choices (choice_at choices place)
chosen_at [] place lt = tt
chosen_at (xs ∷ rest) place lt =
    let c : ℕ = choice_count rest in
    let some : 0 < c = positive (length xs) c place lt in
    (Contains-get_or xs (place / c) 0 (div_below place c (length xs) some lt), chosen_at rest (place % c) (mod_below place c some))

place_below : (k n c q : ℕ) → k < n → q < c → k * c + q < n * c
place_below k n c q lt small =
    let le : suc k * c ≤ n * c = mul-le-mul_right c (let v : suc k ≤ n = omega arith in v) in
    let e : suc k * c ≡ k * c + c = suc-mul k c in
    omega arith

-- the place of these objects among all ways
pub record HasPlace (choices : List (List ℕ)) (args : List ℕ) : Type 0 where
  pub place : ℕ
  pub within : place < choice_count choices
  pub is : args ≡ choice_at choices place

place_of_cons : (xs : List ℕ) (rest : List (List ℕ)) (o : ℕ) (args : List ℕ) → Contains xs o → HasPlace rest args → HasPlace (xs ∷ rest) (o ∷ args)
place_of_cons xs rest o args h tail =
    let c : ℕ = choice_count rest in
    let lt : h.0 < length xs = h.1 in
    let small : tail.place < c = tail.within in
    let d : (h.0 * c + tail.place) / c ≡ h.0 = div-mul-add h.0 c tail.place small in
    let m : (h.0 * c + tail.place) % c ≡ tail.place = mod-mul-add h.0 c tail.place small in
    let at : o ≡ get_or xs h.0 0 = sym h.2 ∙ get_or_default xs h.0 o 0 lt in
    record {
      place = h.0 * c + tail.place;
      within = place_below h.0 (length xs) c tail.place lt small;
      is = ap (λ x. x ∷ args) (at ∙ ap (λ k. get_or xs k 0) (sym d)) ∙ ap (λ ys. get_or xs ((h.0 * c + tail.place) / c) 0 ∷ ys) (tail.is ∙ ap (choice_at rest) (sym m));
    }

-- each choice of one of each list has a place
pub place_of : (choices : List (List ℕ)) (args : List ℕ) → AreChosen choices args → HasPlace choices args
place_of [] [] h = record { place = 0; within = omega arith; is = refl }
place_of [] (o ∷ args) h = absurd h
place_of (xs ∷ rest) [] h = absurd h
place_of (xs ∷ rest) (o ∷ args) h = place_of_cons xs rest o args h.0 (place_of rest args h.1)

rise_by : (xs : List ℕ) (rest : List (List ℕ)) (i j c : ℕ) → c ≡ choice_count rest → Rises xs → 0 < c → i < j → j / c < length xs
    → (i % c < j % c → IsListBefore (choice_at rest (i % c)) (choice_at rest (j % c)))
    → (get_or xs (i / c) 0 < get_or xs (j / c) 0) ⊎ ((get_or xs (i / c) 0 ≡ get_or xs (j / c) 0) × IsListBefore (choice_at rest (i % c)) (choice_at rest (j % c)))
rise_by xs rest i j c is rise some lt within tail =
    let di : i / c * c + i % c ≡ i = div-add-mod' i c in
    let dj : j / c * c + j % c ≡ j = div-add-mod' j c in
    let mi : i % c < c = mod_below i c some in
    elim (cases_three (i / c) (j / c)) [
      | inl less ↦ inl (rise.rises (i / c) (j / c) less within)
      | inr other ↦ elim other [
        | inl same ↦
            let e : i / c * c ≡ j / c * c = ap (λ k. k * c) same in
            inr (ap (λ k. get_or xs k 0) same, tail (omega arith))
        | inr more ↦
            let le : suc (j / c) * c ≤ i / c * c = mul-le-mul_right c (let v : suc (j / c) ≤ i / c = omega arith in v) in
            let e : suc (j / c) * c ≡ j / c * c + c = suc-mul (j / c) c in
            let mj : j % c < c = mod_below j c some in
            absurd (omega arith)
      ]
    ]
  where
    cases_three : (a b : ℕ) → (a < b) ⊎ ((a ≡ b) ⊎ (b < a))
    cases_three zero zero = inr (inl refl)
    cases_three zero (suc b) = inl (omega arith)
    cases_three (suc a) zero = inr (inr (omega arith))
    cases_three (suc a) (suc b) =
        elim (cases_three a b) [
          | inl less ↦ inl (omega arith)
          | inr other ↦ elim other [
            | inl same ↦ inr (inl (ap suc same))
            | inr more ↦ inr (inr (omega arith))
          ]
        ]

-- the ways stand in order
pub choices_rise : (choices : List (List ℕ)) (i j : ℕ) → AllRise choices → i < j → j < choice_count choices → IsListBefore (choice_at choices i) (choice_at choices j)
choices_rise [] i j h lt within = let v : j < 1 = within in absurd (omega arith)
choices_rise (xs ∷ rest) i j h lt within =
    let c : ℕ = choice_count rest in
    let some : 0 < c = positive (length xs) c j within in
    rise_by xs rest i j c refl h.0 some lt (div_below j c (length xs) some within)
    (λ less. choices_rise rest (i % c) (j % c) h.1 less (mod_below j c some))

-- the objects of the wanted types stand in order
pub all_rise : (parents kinds wanted : List ℕ) → AllRise (choices_of parents kinds wanted)
all_rise parents kinds [] = tt
all_rise parents kinds (w ∷ wanted) = (members_rise parents w 0 kinds, all_rise parents kinds wanted)

-- there are as many ways as are counted
pub count_is : (parents kinds wanted : List ℕ) → choice_count (choices_of parents kinds wanted) ≡ list_total parents kinds wanted
count_is parents kinds [] = refl
count_is parents kinds (w ∷ wanted) =
    ap (λ n. n * choice_count (choices_of parents kinds wanted)) (length-members parents w 0 kinds)
    ∙ ap (λ n. member_count parents kinds w * n) (count_is parents kinds wanted)

-- one of each list of objects is an object of each wanted type
pub wanted_from_chosen : (parents kinds wanted args : List ℕ) → AreChosen (choices_of parents kinds wanted) args
    → AllZip (λ w o. Contains (members_from parents w 0 kinds) o) wanted args
wanted_from_chosen parents kinds [] [] h = tt
wanted_from_chosen parents kinds [] (o ∷ args) h = absurd h
wanted_from_chosen parents kinds (w ∷ wanted) [] h = absurd h
wanted_from_chosen parents kinds (w ∷ wanted) (o ∷ args) h = (h.0, wanted_from_chosen parents kinds wanted args h.1)

pub chosen_from_wanted : (parents kinds wanted args : List ℕ) → AllZip (λ w o. Contains (members_from parents w 0 kinds) o) wanted args
    → AreChosen (choices_of parents kinds wanted) args
chosen_from_wanted parents kinds [] [] h = tt
chosen_from_wanted parents kinds [] (o ∷ args) h = absurd h
chosen_from_wanted parents kinds (w ∷ wanted) [] h = absurd h
chosen_from_wanted parents kinds (w ∷ wanted) (o ∷ args) h = (h.0, chosen_from_wanted parents kinds wanted args h.1)

count_there : (choices : List (List ℕ)) (i : ℕ) (d : List ℕ) → i < length choices → choice_count (drop i choices) ≡ length (get_or choices i d) * choice_count (drop (suc i) choices)
count_there choices i d lt = ap choice_count (drop-cons choices i d lt)

-- what is known where one more list is looked at: the ways of those behind it, and the place among them
pub record IsThere (choices : List (List ℕ)) (i : ℕ) (xs : List ℕ) (ways left : ℕ) (args : List ℕ) : Type 0 where
  pub some : 0 < length xs
  pub behind : ways / length xs ≡ choice_count (drop (i + 1) choices)
  pub positive : 0 < ways / length xs
  pub bound : left / (ways / length xs) < length xs
  pub within : left % (ways / length xs) < ways / length xs
  pub told : (args ++ get_or xs (left / (ways / length xs)) 0 ∷ []) ++ choice_at (drop (i + 1) choices) (left % (ways / length xs)) ≡ args ++ choice_at (drop i choices) left

there_by : (choices : List (List ℕ)) (i : ℕ) (xs : List ℕ) (ways left : ℕ) (args : List ℕ) (n c : ℕ)
    → n ≡ length xs → c ≡ choice_count (drop (suc i) choices) → drop i choices ≡ xs ∷ drop (suc i) choices → ways ≡ n * c → left < ways → IsThere choices i xs ways left args
there_by choices i xs ways left args zero c en ec ed ew lt = let z : 0 * c ≡ 0 = zero-mul c in absurd (omega arith)
there_by choices i xs ways left args (suc n) zero en ec ed ew lt = let z : suc n * 0 ≡ 0 = mul-zero (suc n) in absurd (omega arith)
there_by choices i xs ways left args (suc n) (suc c) en ec ed ew lt =
    let q : ways / length xs ≡ suc c = ap (λ k. k / length xs) ew ∙ ap (λ k. suc n * suc c / k) (sym en) ∙ mul-div_cancel_left (suc c) (let v : 0 < suc n = omega arith in v) in
    let less : left < suc n * suc c = omega arith in
    let s : i + 1 ≡ suc i = omega arith in
    let r : choice_count (drop i choices) ≡ length xs * choice_count (drop (suc i) choices) = ap choice_count ed in
    record {
      some = omega arith;
      behind = q ∙ ec ∙ ap (λ k. choice_count (drop k choices)) (sym s);
      positive = omega arith;
      bound = subst (λ k. left / k < length xs) (sym q) (subst (λ k. left / suc c < k) en (div_below left (suc c) (suc n) (omega arith) less));
      within = subst (λ k. left % k < k) (sym q) (mod_below left (suc c) (omega arith));
      told =
          append_assoc args (get_or xs (left / (ways / length xs)) 0 ∷ []) (choice_at (drop (i + 1) choices) (left % (ways / length xs)))
          ∙ ap (λ k. args ++ get_or xs (left / k) 0 ∷ choice_at (drop (i + 1) choices) (left % k)) (q ∙ ec)
          ∙ ap (λ k. args ++ get_or xs (left / choice_count (drop (suc i) choices)) 0 ∷ choice_at (drop k choices) (left % choice_count (drop (suc i) choices))) s
          ∙ ap (λ cs. args ++ choice_at cs left) (sym ed);
    }

-- one more list
pub is_there : (choices : List (List ℕ)) (i : ℕ) (xs d : List ℕ) (ways left : ℕ) (args : List ℕ) → i < length choices → xs ≡ get_or choices i d
    → ways ≡ choice_count (drop i choices) → left < ways → IsThere choices i xs ways left args
is_there choices i xs d ways left args lt is total within =
    let ed : drop i choices ≡ xs ∷ drop (suc i) choices = drop-cons choices i d lt ∙ ap (λ (ys : List ℕ). ys ∷ drop (suc i) choices) (sym is) in
    there_by choices i xs ways left args (length xs) (choice_count (drop (suc i) choices)) refl refl ed (total ∙ ap choice_count ed) within

-- nothing is left to choose
pub chosen_all : (choices : List (List ℕ)) (i left : ℕ) → length choices ≤ i → choice_at (drop i choices) left ≡ []
chosen_all choices i left h = ap (λ cs. choice_at cs left) (drop_of_length-le choices h)
