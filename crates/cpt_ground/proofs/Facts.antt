use Rattle.std.proofs.Common.{◌≡◌, ℕ, ◌<◌, Bool, true, false, ◌&&◌, ◌||◌, ◌==◌, nat_eq, List, [], ◌∷◌, length, All, refl, sym, ap, ◌∙◌, subst}
use Rattle.std.specs.Prelude.{slice_index_or}
use Rattle.std.specs.List.{list_any}
use Rattle.std.specs.Cmp.Lexicographic.{pointwise, same_text}
use Rattle.std.proofs.lemmas.Cmp.{nat_eq_equiv, nat_list_eq_equiv}
use Rattle.std.proofs.lemmas.Bool.{eqb-true}
use Rattle.std.proofs.lemmas.List.Folds.{Any-from_list_any, list_any-from_Any, list_any_at}
use Rattle.std.proofs.lemmas.Option.{get_or_from_slice_get, slice_get_read}
use Rattle.cpt_facts.specs.declared.problem.Fact.{Fact}
use Rattle.cpt_ground.specs.Signed.{same_fact, has}

-- both tests passed
pub both : (x y : Bool) → (x && y) ≡ true → (x ≡ true) × (y ≡ true)
both true true h = (refl, refl)
both true false h = cc
both false y h = cc

pub or_left : (x y : Bool) → x ≡ true → (x || y) ≡ true
or_left true y h = refl
or_left false y h = cc

pub or_right : (x y : Bool) → y ≡ true → (x || y) ≡ true
or_right true y h = refl
or_right false y h = h

-- atoms that the test takes for one are one
pub same_fact_is : (a b : Fact) → same_fact a b ≡ true → a ≡ b
same_fact_is a b h =
    let w = both (a.pred == b.pred) (pointwise nat_eq a.args b.args) h in
    let pred : a.pred ≡ b.pred = eqb-true a.pred b.pred w.0 in
    let args : a.args ≡ b.args = same_text a.args b.args (sym w.1) in
    let first : ℕ → Fact = λ n. record { pred = n; args = a.args } in
    let second : List ℕ → Fact = λ xs. record { pred = b.pred; args = xs } in
    ap first pred ∙ ap second args

pub and_true : (x y : Bool) → x ≡ true → y ≡ true → (x && y) ≡ true
and_true true y h k = k
and_true false y h k = cc

pub same_fact_itself : (f : Fact) → same_fact f f ≡ true
same_fact_itself f =
    and_true (f.pred == f.pred) (pointwise nat_eq f.args f.args) (nat_eq_equiv.refl f.pred) (nat_list_eq_equiv.refl f.args)

-- what holds of each atom of a list holds of one that is in it
pub all_has : (P : Fact → Type 0) (xs : List Fact) (f : Fact) → All P xs → has xs f ≡ true → P f
all_has P xs f all h =
    let a = Any-from_list_any (same_fact f) xs h in
    subst P (a.3 ∙ sym (same_fact_is f a.1 a.4)) (all a.0 a.1 a.2)

pub has_at : (xs : List Fact) (k : ℕ) (d : Fact) → k < length xs → has xs (slice_index_or xs k d) ≡ true
has_at xs k d lt = list_any_at (same_fact (slice_index_or xs k d)) xs k d lt (same_fact_itself (slice_index_or xs k d))

-- and the other way round
pub all_from_has : (P : Fact → Type 0) (xs : List Fact) → ((f : Fact) → has xs f ≡ true → P f) → All P xs
all_from_has P xs h = λ k d lt. h (slice_index_or xs k d) (has_at xs k d lt)

-- two tests that answer alike
pub any_same : {X : Type 0} (p q : X → Bool) → ((x : X) → p x ≡ q x) → (xs : List X) → list_any p xs ≡ list_any q xs
any_same p q h [] = refl
any_same p q h (x ∷ xs) = ap (λ b. b || list_any p xs) (h x) ∙ ap (λ b. q x || b) (any_same p q h xs)

-- a test that passes where another does
pub any_weaker : {X : Type 0} (p q : X → Bool) → ((x : X) → p x ≡ true → q x ≡ true) → (xs : List X) → list_any p xs ≡ true → list_any q xs ≡ true
any_weaker p q h xs some =
    let a = Any-from_list_any p xs some in
    list_any-from_Any q xs (a.0, a.1, a.2, a.3, h a.1 a.4)

-- the place of an element that passes
pub any_place : {X : Type 0} (p : X → Bool) (xs : List X) (d : X) → list_any p xs ≡ true → (k : ℕ) × (k < length xs) × (p (slice_index_or xs k d) ≡ true)
any_place p xs d h =
    let a = Any-from_list_any p xs h in
    let e : slice_index_or xs a.0 d ≡ a.1 = get_or_from_slice_get xs a.0 a.1 d (slice_get_read xs (length xs) a.0 a.1 refl a.2 (sym a.3)) in
    (a.0, a.2, subst (λ x. p x ≡ true) (sym e) a.4)
