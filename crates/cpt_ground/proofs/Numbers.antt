use Rattle.std.proofs.Common.{◌≡◌, ℕ, zero, suc, ◌<◌, Bool, true, false, nat_eq, List, [], ◌∷◌, length, Contains, Some, refl, sym, subst, arith}
use Rattle.std.specs.Prelude.{slice_index_or, slice_get}
use Rattle.std.specs.List.{AllZip}
use Rattle.std.proofs.lemmas.Cmp.{nat_eq_equiv}
use Rattle.std.proofs.lemmas.Bool.{eqb-true}
use Rattle.std.proofs.lemmas.List.Folds.{Any-from_list_any}
use Rattle.std.proofs.lemmas.Map.Views.{list_any-from_Contains}
use Rattle.std.proofs.lemmas.Option.{slice_get_read}
use Rattle.std.proofs.Common.{rules}
use Rattle.cpt_task.specs.declared.task.Action.{Action}
use Rattle.cpt_task.specs.Timeline.{is_in, idle}
use Rattle.cpt_ground.specs.Compiled.{Literal, there, missing, needs, adds, deletes, is_used, AreNumbers, AreLiterals, IsCompiledAction}
use Rattle.cpt_ground.specs.Signed.{Signed, SignedAction, signed_idle}

pub bool_same : (a b : Bool) → (a ≡ true → b ≡ true) → (b ≡ true → a ≡ true) → a ≡ b
bool_same true b f g = sym (f refl)
bool_same false false f g = refl
bool_same false true f g = g refl

pub in_contains : (n : ℕ) (ns : List ℕ) → is_in n ns ≡ true → Contains ns n
in_contains n ns h =
    let a = Any-from_list_any (nat_eq n) ns h in
    let e : n ≡ a.1 = eqb-true n a.1 a.4 in
    subst (Contains ns) (sym e) (a.0, a.2, a.3)

pub contains_in : (n : ℕ) (ns : List ℕ) → Contains ns n → is_in n ns ≡ true
contains_in n ns h = list_any-from_Contains nat_eq_equiv n ns h

-- a number is in such a list exactly where its literal passes
pub in_numbers : (literals : List Literal) (test : Literal → Bool) (ns : List ℕ) (n : ℕ) (l : Literal)
    → AreNumbers literals test ns → slice_get literals n ≡ Some l → is_in n ns ≡ test l
in_numbers literals test ns n l set e =
    bool_same (is_in n ns) (test l)
    (λ h. let w = (set.exact n).0 (in_contains n ns h) in
    let first : slice_get literals n ≡ Some w.0 = w.1 in
    let same : w.0 ≡ l = cc (first, e) in
    subst (λ x. test x ≡ true) same w.2)
    (λ h. contains_in n ns ((set.exact n).1 (l, e, h)))

none_numbers : (literals : List Literal) (test : Literal → Bool) → ((l : Literal) → test l ≡ false) → AreNumbers literals test []
none_numbers literals test none = record {
  ordered = search rules;
  exact = λ n. (λ c. let lt : c.0 < 0 = c.1 in absurd (omega (arith, lt)), λ w. let p : test w.0 ≡ true = w.2 in let q : test w.0 ≡ false = none w.0 in cc (p, q));
}

no_need : (l : Literal) → needs signed_idle l ≡ false
no_need (there f) = refl
no_need (missing f) = refl

no_add : (l : Literal) → adds signed_idle l ≡ false
no_add (there f) = refl
no_add (missing f) = refl

no_delete : (l : Literal) → deletes signed_idle l ≡ false
no_delete (there f) = refl
no_delete (missing f) = refl

idle_compiled : (literals : List Literal) → IsCompiledAction literals signed_idle idle
idle_compiled literals = record {
  name = refl;
  dur = refl;
  pre = none_numbers literals (needs signed_idle) no_need;
  add = none_numbers literals (adds signed_idle) no_add;
  dele = none_numbers literals (deletes signed_idle) no_delete;
}

-- the actions of a number, or the two that do nothing
pub action_compiled : (literals : List Literal) (xs : List SignedAction) (ys : List Action) (k : ℕ)
    → AllZip (IsCompiledAction literals) xs ys → IsCompiledAction literals (slice_index_or xs k signed_idle) (slice_index_or ys k idle)
action_compiled literals [] [] k h = idle_compiled literals
action_compiled literals [] (y ∷ ys) k h = absurd h
action_compiled literals (x ∷ xs) [] k h = absurd h
action_compiled literals (x ∷ xs) (y ∷ ys) zero h = h.0
action_compiled literals (x ∷ xs) (y ∷ ys) (suc k) h = action_compiled literals xs ys k h.1

-- the number of a literal that the task has
pub number_of : (s : Signed) (literals : List Literal) → AreLiterals s literals → (l : Literal) → is_used s l ≡ true → (n : ℕ) × (slice_get literals n ≡ Some l)
number_of s literals listed l h =
    let c = (listed.exact l).1 h in
    (c.0, slice_get_read literals (length literals) c.0 l refl c.1 (sym c.2))
