use Rattle.std.proofs.Common.{◌≡◌, ◌∙◌, ℕ, suc, zero, ◌+◌, ◌<◌, ◌≤◌, ◌⊎◌, inl, inr, true, List, [], ◌∷◌, length, map, refl, sym, ap, subst, get_or, arith, ◌*◌, cond, min}
use Rattle.std.specs.Prelude.{Contains, slice_index_or, sum_by, count_by}
use Rattle.std.specs.List.{AllZip}
use Rattle.std.proofs.lemmas.List.{get_or-map, get_or_default, length-map}
use Rattle.cpt_pddl.specs.Kinds.{is_below}
use Rattle.cpt_schema.specs.declared.schemas.Schema.{Schema}
use Rattle.cpt_domain.specs.declared.domain.Domain.{Domain}
use Rattle.cpt_domain.specs.declared.domain.ObjectDecl.{ObjectDecl}
use Rattle.cpt_facts.specs.declared.problem.Problem.{Problem}
use Rattle.cpt_facts.specs.Fitting.{objects_of}
use Rattle.cpt_instance.specs.Choices.{AllRise, choice_at, choice_count, choices_of, list_total, member_count, members_from, object_kinds, schemas_total}
use Rattle.cpt_instance.specs.Durations.{HasValues, ValueMap}
use Rattle.cpt_instance.specs.Instances.{AreInstances, Instance, IsInstance, IsInstanceBefore, IsListBefore, IsObjectOf, list_count, no_object, no_schema, parents_of, schema_at, type_correct_lists}
use Rattle.cpt_instance.specs.Listing.{Adds, AddsWhere, AreAll, IsChosen, IsKept, IsOfFirst, IsOfSchema}
use Rattle.cpt_instance.proofs.ChoiceLemmas.{HasPlace, all_rise, chosen_at, chosen_from_wanted, choices_rise, count_is, place_of, wanted_from_chosen}
use Rattle.cpt_instance.proofs.ListingLemmas.{adds_none, adds_same, adds_where, all_more, all_none, all_same}
use Rattle.cpt_instance.proofs.MapLemmas.{timed_exact}
use Rattle.cpt_instance.proofs.MemberLemmas.{IsMember, among_members, is_member}
use Rattle.std.proofs.lemmas.List.Sums.{sum-map, sum_by-cons}

-- nothing is chosen of no ways
pub none_chosen : (m : ValueMap) (s : Schema) (number : ℕ) (choices : List (List ℕ)) (old : List Instance) → Adds (IsChosen m s number choices 0) old old
none_chosen m s number choices old = adds_none (IsChosen m s number choices 0) old (λ i h. let v : h.place < 0 = h.within in absurd (omega arith))

before_next : (m : ValueMap) (s : Schema) (number : ℕ) (choices : List (List ℕ)) (place : ℕ) (i : Instance) (args : List ℕ)
    → AllRise choices → place < choice_count choices → args ≡ choice_at choices place
    → IsChosen m s number choices place i → IsInstanceBefore i (record { schema = number; args = args })
before_next m s number choices place i args rise within e h =
    inr (
      h.schema,
      subst (λ (xs : List ℕ). IsListBefore xs args) (sym h.args) (subst (IsListBefore (choice_at choices h.place)) (sym e)
          (choices_rise choices h.place place rise h.within within)),
    )

split_place : (m : ValueMap) (s : Schema) (number : ℕ) (choices : List (List ℕ)) (count : ℕ) (args : List ℕ) (i : Instance) (e : args ≡ choice_at choices count)
    → (IsChosen m s number choices count i ⊎ (IsKept m s args × (i ≡ record { schema = number; args = args }))) → IsChosen m s number choices (count + 1) i
split_place m s number choices count args i e h =
    elim h [
      | inl old ↦ record { schema = old.schema; place = old.place; within = omega (arith, old.within); args = old.args; kept = old.kept }
      | inr new ↦ record {
        schema = ap (λ (x : Instance). x.schema) new.1;
        place = count;
        within = omega arith;
        args = ap (λ (x : Instance). x.args) new.1 ∙ e;
        kept = subst (λ (x : Instance). IsKept m s x.args) (sym new.1) new.0;
      }
    ]

last_or_less : (k n : ℕ) → k < n + 1 → (k < n) ⊎ (k ≡ n)
last_or_less zero zero lt = inr refl
last_or_less zero (suc n) lt = inl (omega arith)
last_or_less (suc k) zero lt = absurd (omega arith)
last_or_less (suc k) (suc n) lt = elim (last_or_less k n (omega arith)) [ inl less ↦ inl (omega arith) | inr same ↦ inr (ap suc same) ]

abbrev the_instance : ℕ → List ℕ → Instance
the_instance number args = record { schema = number; args = args }

instance_is : (i : Instance) (number : ℕ) (args : List ℕ) → i.schema ≡ number → i.args ≡ args → i ≡ the_instance number args
instance_is i number args s a = ap (λ n. the_instance n i.args) s ∙ ap (the_instance number) a

join_place : (m : ValueMap) (s : Schema) (number : ℕ) (choices : List (List ℕ)) (count : ℕ) (args : List ℕ) (i : Instance) (e : args ≡ choice_at choices count)
    → IsChosen m s number choices (count + 1) i → IsChosen m s number choices count i ⊎ (IsKept m s args × (i ≡ record { schema = number; args = args }))
join_place m s number choices count args i e h =
    elim (last_or_less h.place count h.within) [
      | inl less ↦ inl (record { schema = h.schema; place = h.place; within = less; args = h.args; kept = h.kept })
      | inr same ↦
          let is : i.args ≡ args = h.args ∙ ap (choice_at choices) same ∙ sym e in
          inr (subst (IsKept m s) is h.kept, instance_is i number args h.schema is)
    ]

-- one more way to choose
pub one_more_place : (m : ValueMap) (s : Schema) (number : ℕ) (choices : List (List ℕ)) (count : ℕ) (args : List ℕ) (old mid new : List Instance)
    → AllRise choices → count < choice_count choices → args ≡ choice_at choices count
    → Adds (IsChosen m s number choices count) old mid
    → AddsWhere (IsKept m s args) (record { schema = number; args = args }) mid new
    → Adds (IsChosen m s number choices (count + 1)) old new
one_more_place m s number choices count args old mid new rise within e h one =
    adds_where (IsChosen m s number choices count) (IsChosen m s number choices (count + 1)) (IsKept m s args)
    (record { schema = number; args = args }) old mid new h one
    (λ i x. before_next m s number choices count i args rise within e x)
    (λ i. ((λ x. split_place m s number choices count args i e x), (λ x. join_place m s number choices count args i e x)))

-- all ways give all instances of a schema
pub all_places : (m : ValueMap) (s : Schema) (number : ℕ) (parents kinds : List ℕ) (choices : List (List ℕ)) (count : ℕ) (old new : List Instance)
    → choices ≡ choices_of parents kinds s.kinds → count ≡ choice_count choices
    → Adds (IsChosen m s number choices count) old new → Adds (IsOfSchema m s number parents kinds) old new
all_places m s number parents kinds choices count old new c e h =
    adds_same (IsChosen m s number choices count) (IsOfSchema m s number parents kinds) old new
    (λ i. ((λ x. of_chosen i x), (λ x. chosen_of i x (placed i x)))) h
  where
    of_chosen : (i : Instance) → IsChosen m s number choices count i → IsOfSchema m s number parents kinds i
    of_chosen i x = record {
      schema = x.schema;
      args = wanted_from_chosen parents kinds s.kinds i.args
          (subst (λ (cs : List (List ℕ)). AllZip (λ (xs : List ℕ) (o : ℕ). Contains xs o) cs i.args) c
          (subst (λ (args : List ℕ). AllZip (λ (xs : List ℕ) (o : ℕ). Contains xs o) choices args) (sym x.args) (chosen_at choices x.place (subst (λ n. x.place < n) e x.within))));
      kept = x.kept;
    }

    placed : (i : Instance) → IsOfSchema m s number parents kinds i → HasPlace choices i.args
    placed i x = subst (λ (cs : List (List ℕ)). HasPlace cs i.args) (sym c) (place_of (choices_of parents kinds s.kinds) i.args (chosen_from_wanted parents kinds s.kinds i.args x.args))

    chosen_of : (i : Instance) → IsOfSchema m s number parents kinds i → HasPlace choices i.args → IsChosen m s number choices count i
    chosen_of i x at = record { schema = x.schema; place = at.place; within = subst (λ n. at.place < n) (sym e) at.within; args = at.is; kept = x.kept }

-- no instance is of the first no schemas
pub none_of : (m : ValueMap) (schemas : List Schema) (parents kinds : List ℕ) → AreAll (IsOfFirst m schemas 0 parents kinds) []
none_of m schemas parents kinds = all_none (IsOfFirst m schemas 0 parents kinds) (λ i h. let v : i.schema < 0 = h.known in absurd (omega arith))

-- one more schema
pub one_more_of : (m : ValueMap) (schemas : List Schema) (n : ℕ) (s : Schema) (parents kinds : List ℕ) (old new : List Instance) → n < length schemas → s ≡ slice_index_or schemas n s
    → AreAll (IsOfFirst m schemas n parents kinds) old → Adds (IsOfSchema m s n parents kinds) old new → AreAll (IsOfFirst m schemas (n + 1) parents kinds) new
one_more_of m schemas n s parents kinds old new lt there h more =
    all_more (IsOfFirst m schemas n parents kinds) (IsOfSchema m s n parents kinds) (IsOfFirst m schemas (n + 1) parents kinds) old new h more before
    (λ i. ((λ x. elim x [ inl first ↦ earlier i first | inr last ↦ here i last ]), (λ x. cases i x (last_or_less i.schema n x.known))))
  where
    is : s ≡ slice_index_or schemas n no_schema
    is = there ∙ get_or_default schemas n s no_schema lt

    before : (i j : Instance) → IsOfFirst m schemas n parents kinds i → IsOfSchema m s n parents kinds j → IsInstanceBefore i j
    before i j x y = let lt : i.schema < n = x.known in let e : j.schema ≡ n = y.schema in inl (omega arith)

    earlier : (i : Instance) → IsOfFirst m schemas n parents kinds i → IsOfFirst m schemas (n + 1) parents kinds i
    earlier i x = record { known = (let lt : i.schema < n = x.known in omega arith); of = x.of }

    here : (i : Instance) → IsOfSchema m s n parents kinds i → IsOfFirst m schemas (n + 1) parents kinds i
    here i y = record {
      known = (let e : i.schema ≡ n = y.schema in omega arith);
      of = subst (λ k. IsOfSchema m (slice_index_or schemas k no_schema) k parents kinds i) (sym y.schema)
          (subst (λ (t : Schema). IsOfSchema m t n parents kinds i) is y);
    }

    cases : (i : Instance) → IsOfFirst m schemas (n + 1) parents kinds i → (i.schema < n) ⊎ (i.schema ≡ n) → IsOfFirst m schemas n parents kinds i ⊎ IsOfSchema m s n parents kinds i
    cases i x (inl less) = inl (record { known = less; of = x.of })
    cases i x (inr same) =
        inr (subst (λ (t : Schema). IsOfSchema m t n parents kinds i) (sym is)
        (subst (λ k. IsOfSchema m (slice_index_or schemas k no_schema) k parents kinds i) same x.of))

kind_there : (objects : List ObjectDecl) (o : ℕ) → o < length objects → get_or (map (λ (x : ObjectDecl). x.kind) objects) o 0 ≡ (slice_index_or objects o no_object).kind
kind_there objects o lt = get_or-map (λ (x : ObjectDecl). x.kind) objects o no_object 0 lt

object_from : (d : Domain) (p : Problem) (w o : ℕ) → IsMember (parents_of d) w 0 (object_kinds d p) o → IsObjectOf d p w o
object_from d p w o h =
    let len : length (object_kinds d p) ≡ length (objects_of d p) = length-map (objects_of d p) (λ (x : ObjectDecl). x.kind) in
    let same : o ≡ h.place = omega (arith, h.is) in
    let lt : o < length (objects_of d p) = omega (arith, h.within) in
    record {
      known = lt;
      fits = subst (λ k. is_below (parents_of d) k w ≡ true) (ap (λ n. get_or (object_kinds d p) n 0) (sym same) ∙ kind_there (objects_of d p) o lt) h.below;
    }

member_from : (d : Domain) (p : Problem) (w o : ℕ) → IsObjectOf d p w o → Contains (members_from (parents_of d) w 0 (object_kinds d p)) o
member_from d p w o h =
    let len : length (object_kinds d p) ≡ length (objects_of d p) = length-map (objects_of d p) (λ (x : ObjectDecl). x.kind) in
    let lt : o < length (objects_of d p) = h.known in
    among_members (parents_of d) w 0 (object_kinds d p) o o (omega arith) (omega arith)
    (subst (λ k. is_below (parents_of d) k w ≡ true) (sym (kind_there (objects_of d p) o lt)) h.fits)

zip_weaker : (R S : ℕ → ℕ → Type 0) → ((w o : ℕ) → R w o → S w o) → (ws os : List ℕ) → AllZip R ws os → AllZip S ws os
zip_weaker R S weaker [] [] h = tt
zip_weaker R S weaker [] (o ∷ os) h = absurd h
zip_weaker R S weaker (w ∷ ws) [] h = absurd h
zip_weaker R S weaker (w ∷ ws) (o ∷ os) h = (weaker w o h.0, zip_weaker R S weaker ws os h.1)

-- the instances of all schemas are all instances
pub are_instances : (d : Domain) (p : Problem) (m : ValueMap) (xs : List Instance) → HasValues p.values m
    → AreAll (IsOfFirst m d.schemas (length d.schemas) (parents_of d) (object_kinds d p)) xs → AreInstances d p xs
are_instances d p m xs values h =
    let all : AreAll (IsInstance d p) xs = all_same (IsOfFirst m d.schemas (length d.schemas) (parents_of d) (object_kinds d p)) (IsInstance d p) xs (λ i. (to i, from i)) h in
    record { exact = all.exact; ordered = all.ordered }
  where
    to : (i : Instance) → IsOfFirst m d.schemas (length d.schemas) (parents_of d) (object_kinds d p) i → IsInstance d p i
    to i x = record {
      typed = record {
        schema = x.known;
        args = zip_weaker (λ w o. Contains (members_from (parents_of d) w 0 (object_kinds d p)) o) (IsObjectOf d p)
            (λ w o y. object_from d p w o (is_member (parents_of d) w 0 (object_kinds d p) o y)) (schema_at d i.schema).kinds i.args x.of.args;
      };
      tests = x.of.kept.tests;
      timed = (timed_exact p m i.args (schema_at d i.schema).dur values).0 x.of.kept.timed;
    }

    from : (i : Instance) → IsInstance d p i → IsOfFirst m d.schemas (length d.schemas) (parents_of d) (object_kinds d p) i
    from i x = record {
      known = x.typed.schema;
      of = record {
        schema = refl;
        args = zip_weaker (IsObjectOf d p) (λ w o. Contains (members_from (parents_of d) w 0 (object_kinds d p)) o)
            (λ w o y. member_from d p w o y) (schema_at d i.schema).kinds i.args x.typed.args;
        kept = record { tests = x.tests; timed = (timed_exact p m i.args (schema_at d i.schema).dur values).1 x.timed };
      };
    }

count_mapped : (parents : List ℕ) (w : ℕ) (objects : List ObjectDecl)
    → member_count parents (map (λ (x : ObjectDecl). x.kind) objects) w ≡ count_by (λ (x : ObjectDecl). is_below parents x.kind w) objects
count_mapped parents w [] = refl
count_mapped parents w (x ∷ objects) =
    sum_by-cons (λ k. cond (is_below parents k w) 1 0) x.kind (map (λ (y : ObjectDecl). y.kind) objects)
    ∙ ap (λ n. cond (is_below parents x.kind w) 1 0 + n) (count_mapped parents w objects)
    ∙ sym (sum_by-cons (λ (y : ObjectDecl). cond (is_below parents y.kind w) 1 0) x objects)

lists_are : (d : Domain) (p : Problem) (wanted : List ℕ) → list_count d p wanted ≡ list_total (parents_of d) (object_kinds d p) wanted
lists_are d p [] = refl
lists_are d p (w ∷ wanted) =
    ap (λ n. n * list_count d p wanted) (sym (count_mapped (parents_of d) w (objects_of d p)))
    ∙ ap (λ n. member_count (parents_of d) (object_kinds d p) w * n) (lists_are d p wanted)

sums_are : (d : Domain) (p : Problem) (schemas : List Schema)
    → sum_by (λ (s : Schema). list_count d p s.kinds) schemas ≡ schemas_total (parents_of d) (object_kinds d p) schemas
sums_are d p [] = refl
sums_are d p (s ∷ schemas) =
    sum_by-cons (λ (x : Schema). list_count d p x.kinds) s schemas
    ∙ ap (λ n. n + sum_by (λ (x : Schema). list_count d p x.kinds) schemas) (lists_are d p s.kinds)
    ∙ ap (λ n. list_total (parents_of d) (object_kinds d p) s.kinds + n) (sums_are d p schemas)
    ∙ sym (sum_by-cons (λ (x : Schema). list_total (parents_of d) (object_kinds d p) x.kinds) s schemas)

-- the type-correct lists are as many as are counted
pub total_is : (d : Domain) (p : Problem) → type_correct_lists d p ≡ schemas_total (parents_of d) (object_kinds d p) d.schemas
total_is d p = sum-map (λ (s : Schema). list_count d p s.kinds) d.schemas ∙ sums_are d p d.schemas

-- the type-correct lists are as many as the products over the schemas say
pub total_here : (d : Domain) (p : Problem) (types : List ℕ) (kinds : List ℕ) (schemas : List Schema) → types ≡ parents_of d → kinds ≡ object_kinds d p → schemas ≡ d.schemas
    → schemas_total types kinds schemas ≡ type_correct_lists d p
total_here d p types kinds schemas et ek es =
    ap (λ ts. schemas_total ts kinds schemas) et
    ∙ ap (λ ks. schemas_total (parents_of d) ks schemas) ek
    ∙ ap (λ (ss : List Schema). schemas_total (parents_of d) (object_kinds d p) ss) es
    ∙ sym (total_is d p)

-- the type-correct lists, as they are counted
pub counted : (d : Domain) (p : Problem) (types : List ℕ) (kinds : List ℕ) (schemas : List Schema) (n : ℕ) → types ≡ parents_of d → kinds ≡ object_kinds d p → schemas ≡ d.schemas
    → n ≡ min (schemas_total types kinds schemas) 1000001 → n ≡ min (type_correct_lists d p) 1000001
counted d p types kinds schemas n et ek es e = e ∙ ap (λ k. min k 1000001) (total_here d p types kinds schemas et ek es)

-- the ways to choose, as they are counted
pub ways_counted : (parents kinds wanted below : List ℕ) (choices : List (List ℕ)) (n : ℕ) → wanted ≡ below → choices ≡ choices_of parents kinds below
    → n ≡ min (list_total parents kinds wanted) 1000001 → list_total parents kinds below ≤ 1000000 → n ≡ choice_count choices
ways_counted parents kinds wanted below choices n ew ec en few =
    let t : list_total parents kinds wanted ≡ list_total parents kinds below = ap (list_total parents kinds) ew in
    let same : n ≡ list_total parents kinds below = omega arith in
    same ∙ sym (count_is parents kinds below) ∙ ap choice_count (sym ec)

-- the lists to choose from stand in order
pub ways_rise : (parents kinds wanted : List ℕ) (choices : List (List ℕ)) → choices ≡ choices_of parents kinds wanted → AllRise choices
ways_rise parents kinds wanted choices e = subst AllRise (sym e) (all_rise parents kinds wanted)

-- what is listed is all instances
pub listed : (d : Domain) (p : Problem) (m : ValueMap) (types : List ℕ) (kinds : List ℕ) (schemas : List Schema) (xs : List Instance)
    → types ≡ parents_of d → kinds ≡ object_kinds d p → schemas ≡ d.schemas → HasValues p.values m
    → AreAll (IsOfFirst m schemas (length schemas) types kinds) xs → AreInstances d p xs
listed d p m types kinds schemas xs et ek es values h =
    are_instances d p m xs values
    (subst (λ (ss : List Schema). AreAll (IsOfFirst m ss (length ss) (parents_of d) (object_kinds d p)) xs) es
    (subst (λ ks. AreAll (IsOfFirst m schemas (length schemas) (parents_of d) ks) xs) ek
    (subst (λ ts. AreAll (IsOfFirst m schemas (length schemas) ts kinds) xs) et h)))
