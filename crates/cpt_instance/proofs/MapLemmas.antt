use Rattle.std.proofs.Common.{◌≡◌, ◌∙◌, ℕ, ◌+◌, ◌<◌, ◌⊎◌, ◌↔◌, inl, inr, nat_eq, Bool, true, false, List, [], ◌∷◌, ◌++◌, length, take, refl, sym, ap, subst}
use Rattle.std.specs.Prelude.{Contains, IsSome, MatchOption, Option, None, Some, Vec, slice_index_or}
use Rattle.std.specs.Cmp.Lexicographic.{pointwise, bytes_decides, nat_list_eq_equiv}
use Rattle.std.specs.HashMap.{UpdatesBy}
use Rattle.std.specs.Map.{KeepsOthers}
use Rattle.std.specs.declared.alloc.Global.{Global}
use Rattle.std.proofs.lemmas.Bool.{cases_Bool}
use Rattle.std.proofs.lemmas.List.{take_more}
use Rattle.std.proofs.lemmas.List.Elements.{Contains-append_left, Contains-push, Contains-push_cases}
use Rattle.cpt_schema.specs.declared.durations.Lasting.{Lasting}
use Rattle.cpt_schema.specs.declared.durations.Lasting.TheVariants.{Fixed, Value}
use Rattle.cpt_facts.specs.declared.problem.Problem.{Problem}
use Rattle.cpt_facts.specs.declared.problem.Valued.{Valued}
use Rattle.cpt_instance.specs.Durations.{HasValues, ValueMap, duration_in, value_in}
use Rattle.cpt_instance.specs.Instances.{HasDuration, objects_for}
use Rattle.cpt_instance.specs.Values.{IsValueIn}
use Rattle.cpt_instance.specs.Values.{IsValueIn}

-- what is found is a value, and where nothing is found there is none
pub record IsLookup (P : ℕ → Type 0) (found : Option ℕ) : Type 0 where
  pub given : (n : ℕ) → found ≡ Some n → P n
  pub missed : (n : ℕ) → found ≡ None → P n → ⊥

lookup_of : (P : ℕ → Type 0) (found : Option ℕ) → MatchOption found ((n : ℕ) → P n → ⊥) P → IsLookup P found
lookup_of P None h = record { given = λ n e. absurd (cc); missed = λ n e x. h n x }
lookup_of P (Some m) h = record { given = λ n e. subst P (let v : m ≡ n = cc in v) h; missed = λ n e x. absurd (cc) }

-- a fixed duration
fixed_lookup : (m : ℕ) → IsLookup (λ n. m ≡ n) (Some m)
fixed_lookup m = record { given = λ n e. (let v : m ≡ n = cc in v); missed = λ n e x. absurd (cc) }

-- the duration that is found is that of the problem
pub lookup_is_duration : (p : Problem) (m : ValueMap) (args : List ℕ) (dur : Lasting) → HasValues p.values m → IsLookup (HasDuration p args dur) (duration_in m args dur)
lookup_is_duration p m args (Fixed n) h = fixed_lookup n
lookup_is_duration p m args (Value func terms) h = lookup_of (HasDuration p args (Value func terms)) (value_in m (func ∷ objects_for args terms)) (h func (objects_for args terms))

some_of : (P : ℕ → Type 0) (found : Option ℕ) → IsLookup P found → IsSome found → (n : ℕ) × P n
some_of P None h some = absurd (cc)
some_of P (Some m) h some = (m, h.given m refl)

is_some_of : (P : ℕ → Type 0) (found : Option ℕ) → IsLookup P found → (n : ℕ) × P n → IsSome found
is_some_of P None h x = absurd (h.missed x.0 refl x.1)
is_some_of P (Some m) h x = refl

-- a duration is found exactly where there is one
pub timed_exact : (p : Problem) (m : ValueMap) (args : List ℕ) (dur : Lasting) → HasValues p.values m
    → IsSome (duration_in m args dur) ↔ ((n : ℕ) × HasDuration p args dur n)
timed_exact p m args dur h =
    let l : IsLookup (HasDuration p args dur) (duration_in m args dur) = lookup_is_duration p m args dur h in
    ((λ some. some_of (HasDuration p args dur) (duration_in m args dur) l some), (λ x. is_some_of (HasDuration p args dur) (duration_in m args dur) l x))

-- the keys of two values of a map are one
abbrev pub same_key : Vec ℕ Global → Vec ℕ Global → Bool
same_key x y = pointwise nat_eq x.items y.items

apart : (bs cs ks : List ℕ) → pointwise nat_eq bs cs ≡ false → pointwise nat_eq bs ks ≡ true → pointwise nat_eq cs ks ≡ false
apart bs cs ks n y = nat_list_eq_equiv.symm cs ks ∙ sym (nat_list_eq_equiv.congr bs ks cs y) ∙ n

others_stay : (key : Vec ℕ Global) (cs : List ℕ) (m n : ValueMap) → KeepsOthers same_key (same_key key) m.entries n.entries → pointwise nat_eq key.items cs ≡ false
    → value_in n cs ≡ value_in m cs
unfolding KeepsOthers
others_stay key cs m n h differ =
    h (λ (k : Vec ℕ Global). pointwise nat_eq cs k.items) (λ x y. nat_list_eq_equiv.congr cs x.items y.items) (λ k. apart key.items cs k.items differ)

match_map : (o : Option ℕ) (P P' : Type 0) (Q Q' : ℕ → Type 0) → (P → P') → ((n : ℕ) → Q n → Q' n) → MatchOption o P Q → MatchOption o P' Q'
match_map None P P' Q Q' f g h = f h
match_map (Some n) P P' Q Q' f g h = g n h

abbrev the_value : ℕ → List ℕ → ℕ → Valued
the_value func args n = record { func = func; args = args; value = n }

value_last : (values : List Valued) (i : ℕ) (v : Valued) (func : ℕ) (args : List ℕ) → i < length values → v ≡ slice_index_or values i v → v.func ∷ v.args ≡ func ∷ args
    → IsValueIn (take (i + 1) values) func args v.value
value_last values i v func args lt is e =
    let f : v.func ≡ func = cc in
    let a : v.args ≡ args = cc in
    let same : v ≡ the_value func args v.value = ap (λ n. the_value n v.args v.value) f ∙ ap (λ (xs : List ℕ). the_value func xs v.value) a in
    let more : take (i + 1) values ≡ take i values ++ v ∷ [] = take_more values i v lt ∙ ap (λ (x : Valued). take i values ++ x ∷ []) (sym is) in
    subst (λ (x : Valued). Contains (take (i + 1) values) x) same (subst (λ (xs : List Valued). Contains xs v) (sym more) (Contains-push (take i values) v))

value_old : (values : List Valued) (i : ℕ) (v : Valued) (func : ℕ) (args : List ℕ) (n : ℕ) → i < length values → v ≡ slice_index_or values i v
    → IsValueIn (take i values) func args n → IsValueIn (take (i + 1) values) func args n
value_old values i v func args n lt is h =
    let more : take (i + 1) values ≡ take i values ++ v ∷ [] = take_more values i v lt ∙ ap (λ (x : Valued). take i values ++ x ∷ []) (sym is) in
    subst (λ (xs : List Valued). Contains xs (the_value func args n)) (sym more) (Contains-append_left (take i values) (v ∷ []) (the_value func args n) h)

key_is : (v : Valued) (func : ℕ) (args : List ℕ) (n : ℕ) → v ≡ the_value func args n → v.func ∷ v.args ≡ func ∷ args
key_is v func args n e = ap (λ (x : Valued). x.func ∷ x.args) e

value_new : (values : List Valued) (i : ℕ) (v : Valued) (func : ℕ) (args : List ℕ) (n : ℕ) → i < length values → v ≡ slice_index_or values i v
    → IsValueIn (take (i + 1) values) func args n → IsValueIn (take i values) func args n ⊎ (v.func ∷ v.args ≡ func ∷ args)
value_new values i v func args n lt is h =
    let more : take (i + 1) values ≡ take i values ++ v ∷ [] = take_more values i v lt ∙ ap (λ (x : Valued). take i values ++ x ∷ []) (sym is) in
    elim (Contains-push_cases (take i values) v (the_value func args n) (subst (λ (xs : List Valued). Contains xs (the_value func args n)) more h)) [
      | inl old ↦ inl old
      | inr new ↦ inr (key_is v func args n new)
    ]

-- one more value
pub has_more : (values : List Valued) (i : ℕ) (v : Valued) (m n : ValueMap) (key : Vec ℕ Global) → i < length values → v ≡ slice_index_or values i v
    → key.items ≡ v.func ∷ v.args → UpdatesBy same_key (same_key key) m n (Some v.value) → HasValues (take i values) m → HasValues (take (i + 1) values) n
has_more values i v m n key lt is e up h = λ func args.
    elim (cases_Bool (pointwise nat_eq key.items (func ∷ args))) [
      | inl same ↦
          let k : key.items ≡ func ∷ args = (bytes_decides key.items (func ∷ args)).0 same in
          let found : value_in n (func ∷ args) ≡ Some v.value = subst (λ (xs : List ℕ). value_in n xs ≡ Some v.value) k up.1 in
          subst (λ (o : Option ℕ). MatchOption o ((q : ℕ) → IsValueIn (take (i + 1) values) func args q → ⊥) (IsValueIn (take (i + 1) values) func args)) (sym found)
          (value_last values i v func args lt is (sym e ∙ k))
      | inr differ ↦
          let stays : value_in n (func ∷ args) ≡ value_in m (func ∷ args) = others_stay key (func ∷ args) m n up.3 differ in
          subst (λ (o : Option ℕ). MatchOption o ((q : ℕ) → IsValueIn (take (i + 1) values) func args q → ⊥) (IsValueIn (take (i + 1) values) func args)) (sym stays)
          (match_map (value_in m (func ∷ args)) ((q : ℕ) → IsValueIn (take i values) func args q → ⊥) ((q : ℕ) → IsValueIn (take (i + 1) values) func args q → ⊥)
          (IsValueIn (take i values) func args) (IsValueIn (take (i + 1) values) func args)
          (λ none q x. elim (value_new values i v func args q lt is x) [
            | inl old ↦ none q old
            | inr new ↦
                let r : pointwise nat_eq key.items (func ∷ args) ≡ true = subst (λ (xs : List ℕ). pointwise nat_eq key.items xs ≡ true) (e ∙ new) (nat_list_eq_equiv.refl key.items) in
                absurd (cc)
          ])
          (λ q x. value_old values i v func args q lt is x) (h func args))
    ]
