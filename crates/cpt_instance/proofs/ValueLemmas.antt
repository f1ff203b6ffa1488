use Rattle.std.proofs.Common.{◌≡◌, ℕ, ◌<◌, List, length, All, Contains, refl, sym, ap, ◌∙◌, subst}
use Rattle.std.specs.Prelude.{Option, MatchOption, slice_index_or}
use Rattle.std.proofs.lemmas.List.Elements.{All-contains}
use Rattle.cpt_schema.specs.declared.terms.Term.{Term}
use Rattle.cpt_schema.specs.declared.durations.Lasting.{Lasting}
use Rattle.cpt_schema.specs.declared.durations.Lasting.TheVariants.{Value}
use Rattle.cpt_facts.specs.declared.problem.Problem.{Problem}
use Rattle.cpt_facts.specs.declared.problem.Valued.{Valued}
use Rattle.cpt_instance.specs.Instances.{HasDuration, objects_for}
use Rattle.cpt_instance.specs.Values.{IsValueOf, IsValueIn}

-- a value of the function for the objects is in the list
pub value_found : (values : List Valued) (k : ℕ) (v : Valued) (func : ℕ) (args : List ℕ) → k < length values → v ≡ slice_index_or values k v → IsValueOf func args v → IsValueIn values func args v.value
value_found values k v func args lt is of =
    let first : ℕ → Valued = λ n. record { func = n; args = v.args; value = v.value } in
    let second : List ℕ → Valued = λ xs. record { func = func; args = xs; value = v.value } in
    let e : v ≡ record { func = func; args = args; value = v.value } = ap first of.0 ∙ ap second of.1 in
    subst (Contains values) e (k, lt, sym is)

-- where none is, there is no value
pub no_value : (values : List Valued) (func : ℕ) (args : List ℕ) → All (λ v. IsValueOf func args v → ⊥) values → (n : ℕ) → IsValueIn values func args n → ⊥
no_value values func args none n h =
    All-contains (λ v. IsValueOf func args v → ⊥) values (record { func = func; args = args; value = n }) none h (refl, refl)

-- the value is the duration
pub of_value : (p : Problem) (args : List ℕ) (dur : Lasting) (func : ℕ) (terms ts : List Term) (values : List Valued) (r : Option ℕ)
    → dur ≡ Value func terms → values ≡ p.values → ts ≡ terms
    → MatchOption r ((n : ℕ) → IsValueIn values func (objects_for args ts) n → ⊥) (IsValueIn values func (objects_for args ts))
    → MatchOption r ((n : ℕ) → HasDuration p args dur n → ⊥) (HasDuration p args dur)
of_value p args dur func terms ts values r e f g h =
    let first : MatchOption r ((n : ℕ) → IsValueIn p.values func (objects_for args ts) n → ⊥) (IsValueIn p.values func (objects_for args ts)) =
    subst (λ vs. MatchOption r ((n : ℕ) → IsValueIn vs func (objects_for args ts) n → ⊥) (IsValueIn vs func (objects_for args ts))) f h in
    let second : MatchOption r ((n : ℕ) → IsValueIn p.values func (objects_for args terms) n → ⊥) (IsValueIn p.values func (objects_for args terms)) =
    subst (λ us. MatchOption r ((n : ℕ) → IsValueIn p.values func (objects_for args us) n → ⊥) (IsValueIn p.values func (objects_for args us))) g first in
    subst (λ d. MatchOption r ((n : ℕ) → HasDuration p args d n → ⊥) (HasDuration p args d)) (sym e) second
