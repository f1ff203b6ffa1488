use Rattle.std.proofs.Common.{◌≡◌, ◌∙◌, ℕ, ◌+◌, ◌<◌, List, [], ◌∷◌, ◌++◌, length, take, sym, ap, subst}
use Rattle.std.specs.Prelude.{All, Contains, IsSome, Some, slice_index_or}
use Rattle.std.specs.List.{AllZip}
use Rattle.std.proofs.lemmas.List.{take_more}
use Rattle.std.proofs.lemmas.List.Elements.{All-contains_itself, All-weaker}
use Rattle.cpt_domain.specs.declared.domain.Domain.{Domain}
use Rattle.cpt_facts.specs.declared.problem.Problem.{Problem}
use Rattle.cpt_instance.specs.declared.instances.Instance.{Instance}
use Rattle.cpt_instance.specs.Durations.{HasValues, ValueMap, duration_in}
use Rattle.cpt_instance.specs.Instances.{AreInstances, HasDuration, IsInstance, schema_at}
use Rattle.cpt_instance.proofs.MapLemmas.{IsLookup, lookup_is_duration, timed_exact}

zip_push : {A B : Type 0} (R : A → B → Type 0) (xs : List A) (ys : List B) (x : A) (y : B) → AllZip R xs ys → R x y → AllZip R (xs ++ x ∷ []) (ys ++ y ∷ [])
zip_push R [] [] x y h r = (r, tt)
zip_push R [] (b ∷ ys) x y h r = absurd h
zip_push R (a ∷ xs) [] x y h r = absurd h
zip_push R (a ∷ xs) (b ∷ ys) x y h r = (h.0, zip_push R xs ys x y h.1 r)

-- one more on both sides
pub zip_more : {A B : Type 0} (R : A → B → Type 0) (xs : List A) (ys : List B) (i : ℕ) (x : A) (y : B) → i < length xs → x ≡ slice_index_or xs i x
    → AllZip R (take i xs) ys → R x y → AllZip R (take (i + 1) xs) (ys ++ y ∷ [])
zip_more {A} {B} R xs ys i x y lt is h r =
    let more : take (i + 1) xs ≡ take i xs ++ x ∷ [] = take_more xs i x lt ∙ ap (λ (a : A). take i xs ++ a ∷ []) (sym is) in
    subst (λ (front : List A). AllZip R front (ys ++ y ∷ [])) (sym more) (zip_push R (take i xs) ys x y h r)

-- each of the instances is one
pub each_instance : (d : Domain) (p : Problem) (xs : List Instance) → AreInstances d p xs → All (IsInstance d p) xs
each_instance d p xs h = All-weaker (Contains xs) (IsInstance d p) (λ i x. (h.exact i).0 x) xs (All-contains_itself xs)

-- an instance has a duration
pub is_timed : (d : Domain) (p : Problem) (m : ValueMap) (i : Instance) → HasValues p.values m → IsInstance d p i → IsSome (duration_in m i.args (schema_at d i.schema).dur)
is_timed d p m i values h = (timed_exact p m i.args (schema_at d i.schema).dur values).1 h.timed

-- the duration that is found is that of the instance
pub has_duration : (d : Domain) (p : Problem) (m : ValueMap) (i : Instance) (n : ℕ) → HasValues p.values m → duration_in m i.args (schema_at d i.schema).dur ≡ Some n
    → HasDuration p i.args (schema_at d i.schema).dur n
has_duration d p m i n values e =
    let l : IsLookup (HasDuration p i.args (schema_at d i.schema).dur) (duration_in m i.args (schema_at d i.schema).dur) = lookup_is_duration p m i.args (schema_at d i.schema).dur values in
    l.given n e
