use Rattle.std.proofs.Common.{◌≡◌, ◌≢◌, ℕ, zero, suc, ◌<◌, ◌==◌, ◌⊎◌, inl, inr, Bool, true, false, not, List, [], ◌∷◌, ◌++◌, length, take, drop, All, Contains, Option, None, Some, refl, sym, ap, ◌∙◌, arith}
use Rattle.std.specs.Prelude.{MatchOption, if◌then◌else◌, ◌&&◌, slice_index_or}
use Rattle.std.specs.List.{list_all}
use Rattle.std.specs.Option.{option_map}
use Rattle.std.specs.Str.{bytes_eq}
use Rattle.std.proofs.lemmas.Bool.{eqb-true, eq-eqb, and_parts, and_from}
use Rattle.std.proofs.lemmas.List.Elements.{All-weaker, Contains-append_right}
use Rattle.std.proofs.lemmas.List.Sums.{AllPass-from_list_all, list_all-from_AllPass}
use Rattle.std.proofs.lemmas.Slice.Eq.{bytes_eq-Decides}
use Rattle.cpt_pddl.specs.Names.{place_from}
use Rattle.cpt_schema.specs.declared.conditions.Test.{Test}
use Rattle.cpt_schema.specs.declared.durations.Lasting.{Lasting}
use Rattle.cpt_schema.specs.declared.durations.Lasting.TheVariants.{Fixed, Value}
use Rattle.cpt_schema.specs.declared.schemas.Schema.{Schema}
use Rattle.cpt_domain.specs.declared.domain.Domain.{Domain}
use Rattle.cpt_facts.specs.declared.problem.Problem.{Problem}
use Rattle.cpt_facts.specs.declared.problem.Valued.{Valued}
use Rattle.cpt_facts.specs.Fitting.{Fits}
use Rattle.cpt_instance.specs.NameReading.{before_close, behind_duration, duration_at, inside, inside_duration, named_duration, test_holds, timed_duration, value_in}
use Rattle.cpt_instance.specs.Instances.{HasDuration, Instance, TestHolds, object_for, objects_for, schema_at}
use Rattle.cpt_instance.specs.Named.{IsBehind, IsInside, IsNamed, blank_at, read_args, schema_names}
use Rattle.cpt_instance.specs.Values.{IsValueIn}
use Rattle.cpt_instance.proofs.Answering.{behind_timed, inside_schema, known_schema, named_inside, no_schema_named, none_read, not_inside}
use Rattle.cpt_instance.proofs.WordNames.{HasWords}

-- a text that does not end so
not_last : (b : ℕ) (text : List ℕ) → (b == 41) ≡ false → b ∷ [] ≡ text ++ 41 ∷ [] → ⊥
not_last b [] e h = let s : b ≡ 41 = cc in let z : (b == 41) ≡ true = ap (λ n. n == 41) s in cc
not_last b (x ∷ []) e h = cc
not_last b (x ∷ y ∷ text) e h = cc

-- what stands before a closing parenthesis at the end
abbrev IsClosed : List ℕ → Option (List ℕ) → Type 0
IsClosed bs r = MatchOption r ((text : List ℕ) → bs ≡ text ++ 41 ∷ [] → ⊥) (λ text. bs ≡ text ++ 41 ∷ [])

last_case : (b : ℕ) (t : Bool) → (b == 41) ≡ t → IsClosed (b ∷ []) (if◌then◌else◌ {A = Option (List ℕ)} t (Some []) None)
last_case b true e = ap (λ n. n ∷ []) (eqb-true b 41 e)
last_case b false e = λ text h. not_last b text e h

not_more : (b c : ℕ) (bs text : List ℕ) → ((text : List ℕ) → c ∷ bs ≡ text ++ 41 ∷ [] → ⊥) → b ∷ c ∷ bs ≡ text ++ 41 ∷ [] → ⊥
not_more b c bs [] h e = cc
not_more b c bs (x ∷ text) h e = let f : c ∷ bs ≡ text ++ 41 ∷ [] = cc in h text f

more_case : (b c : ℕ) (bs : List ℕ) (r : Option (List ℕ)) → IsClosed (c ∷ bs) r → IsClosed (b ∷ c ∷ bs) (option_map (λ text. b ∷ text) r)
more_case b c bs None h = λ text e. not_more b c bs text h e
more_case b c bs (Some text) h = ap (λ t. b ∷ t) h

closed_nothing : (text : List ℕ) → [] ≡ text ++ 41 ∷ [] → ⊥
closed_nothing [] e = cc
closed_nothing (x ∷ text) e = cc

closed : (bs : List ℕ) → IsClosed bs (before_close bs)
closed [] = closed_nothing
closed (b ∷ []) = last_case b (b == 41) refl
closed (b ∷ c ∷ bs) = more_case b c bs (before_close (c ∷ bs)) (closed (c ∷ bs))

-- what stands between the parentheses of a name
abbrev IsBetween : List ℕ → Option (List ℕ) → Type 0
IsBetween name r = MatchOption r ((text : List ℕ) → name ≢ 40 ∷ (text ++ (41 ∷ []))) (λ text. name ≡ 40 ∷ (text ++ (41 ∷ [])))

closed_between : (b : ℕ) (bs : List ℕ) (r : Option (List ℕ)) → b ≡ 40 → IsClosed bs r → IsBetween (b ∷ bs) r
closed_between b bs None e h = λ text f. let g : bs ≡ text ++ 41 ∷ [] = cc in h text g
closed_between b bs (Some text) e h = ap (λ n. n ∷ bs) e ∙ ap (λ t. 40 ∷ t) h

open_case : (b : ℕ) (bs : List ℕ) (t : Bool) → (b == 40) ≡ t → IsBetween (b ∷ bs) (if◌then◌else◌ {A = Option (List ℕ)} t (before_close bs) None)
open_case b bs true e = closed_between b bs (before_close bs) (eqb-true b 40 e) (closed bs)
open_case b bs false e = λ text f. let s : b ≡ 40 = cc in let z : (b == 40) ≡ true = ap (λ n. n == 40) s in cc

between : (name : List ℕ) → IsBetween name (inside name)
between [] = λ text e. cc
between (b ∷ bs) = open_case b bs (b == 40) refl

-- a test that holds
test_true : (s e : Bool) → (if s then e else not e) ≡ true → s ≡ e
test_true true true h = refl
test_true true false h = cc
test_true false true h = cc
test_true false false h = refl

true_test : (s e : Bool) → s ≡ e → (if s then e else not e) ≡ true
true_test true true h = refl
true_test true false h = cc
true_test false true h = cc
true_test false false h = refl

tests_hold : (args : List ℕ) (tests : List Test) → list_all (test_holds args) tests ≡ true → All (TestHolds args) tests
tests_hold args tests h =
    All-weaker (λ (t : Test). test_holds args t ≡ true) (TestHolds args) (λ t e. test_true (object_for args t.left == object_for args t.right) t.equal e) tests
    (AllPass-from_list_all (test_holds args) tests h)

hold_tests : (args : List ℕ) (tests : List Test) → All (TestHolds args) tests → list_all (test_holds args) tests ≡ true
hold_tests args tests h =
    list_all-from_AllPass (test_holds args) tests
    (All-weaker (TestHolds args) (λ (t : Test). test_holds args t ≡ true) (λ t e. true_test (object_for args t.left == object_for args t.right) t.equal e) tests h)

-- the first of a list, or one of the rest
at_place : (v x : Valued) (vs : List Valued) (k : ℕ) → k < length (v ∷ vs) → slice_index_or (v ∷ vs) k x ≡ x → (v ≡ x) ⊎ Contains vs x
at_place v x vs zero lt is = inl is
at_place v x vs (suc k) lt is = inr (k, (let w : k < length vs = omega arith in w), is)

abbrev AreValues : List Valued → ℕ → List ℕ → Option ℕ → Type 0
AreValues values func args r = MatchOption r ((n : ℕ) → IsValueIn values func args n → ⊥) (IsValueIn values func args)

value_there : (v : Valued) (func : ℕ) (args : List ℕ) → (v.func == func) ≡ true → bytes_eq v.args args ≡ true → v ≡ record { func = func; args = args; value = v.value }
value_there v func args f g =
    let first : ℕ → Valued = λ n. record { func = n; args = v.args; value = v.value } in
    let second : List ℕ → Valued = λ xs. record { func = func; args = xs; value = v.value } in
    ap first (eqb-true v.func func f) ∙ ap second ((bytes_eq-Decides v.args args).0 g)

value_rest : (v : Valued) (vs : List Valued) (func : ℕ) (args : List ℕ) (r : Option ℕ) → ((v.func == func) && bytes_eq v.args args) ≡ false → AreValues vs func args r → AreValues (v ∷ vs) func args r
value_rest v vs func args None e h = λ n c.
    let x : Valued = record { func = func; args = args; value = n } in
    elim (at_place v (record { func = func; args = args; value = n }) vs c.0 c.1 c.2) [
      | inl same ↦
          let f : (v.func == func) ≡ true = eq-eqb v.func func (ap (λ (w : Valued). w.func) same) in
          let g : bytes_eq v.args args ≡ true = (bytes_eq-Decides v.args args).1 (ap (λ (w : Valued). w.args) same) in
          let both : ((v.func == func) && bytes_eq v.args args) ≡ true = and_from (v.func == func) (bytes_eq v.args args) f g in
          cc
      | inr there ↦ h n there
    ]
value_rest v vs func args (Some n) e h = Contains-append_right (v ∷ []) vs (record { func = func; args = args; value = n }) h

value_case : (v : Valued) (vs : List Valued) (func : ℕ) (args : List ℕ) (t : Bool) → ((v.func == func) && bytes_eq v.args args) ≡ t → AreValues vs func args (value_in vs func args)
    → AreValues (v ∷ vs) func args (if◌then◌else◌ {A = Option ℕ} t (Some v.value) (value_in vs func args))
value_case v vs func args true e h =
    let parts = and_parts (v.func == func) (bytes_eq v.args args) e in
    (0, (let lt : 0 < length (v ∷ vs) = omega arith in lt), value_there v func args parts.0 parts.1)
value_case v vs func args false e h = value_rest v vs func args (value_in vs func args) e h

no_values : (func : ℕ) (args : List ℕ) (n : ℕ) → IsValueIn [] func args n → ⊥
no_values func args n c = let lt : c.0 < length {A = Valued} [] = c.1 in absurd (omega arith)

values : (vs : List Valued) (func : ℕ) (args : List ℕ) → AreValues vs func args (value_in vs func args)
values [] func args = no_values func args
values (v ∷ vs) func args = value_case v vs func args ((v.func == func) && bytes_eq v.args args) refl (values vs func args)

duration_is : (p : Problem) (args : List ℕ) (dur : Lasting) → MatchOption (duration_at p args dur) ((n : ℕ) → HasDuration p args dur n → ⊥) (HasDuration p args dur)
duration_is p args (Fixed n) = refl
duration_is p args (Value func terms) = values p.values func (objects_for args terms)

-- the tests hold, and the duration is so
abbrev AreTimed : Problem → List ℕ → Schema → Option ℕ → Type 0
AreTimed p args s r =
    MatchOption r ((dur : ℕ) → All (TestHolds args) s.tests → HasDuration p args s.dur dur → ⊥) (λ dur. All (TestHolds args) s.tests × HasDuration p args s.dur dur)

timed_if : (p : Problem) (args : List ℕ) (s : Schema) (r : Option ℕ) → All (TestHolds args) s.tests → MatchOption r ((n : ℕ) → HasDuration p args s.dur n → ⊥) (HasDuration p args s.dur) → AreTimed p args s r
timed_if p args s None tests h = λ dur _ has. h dur has
timed_if p args s (Some dur) tests h = (tests, h)

timed_case : (p : Problem) (args : List ℕ) (s : Schema) (t : Bool) → list_all (test_holds args) s.tests ≡ t → AreTimed p args s (if◌then◌else◌ {A = Option ℕ} t (duration_at p args s.dur) None)
timed_case p args s true e = timed_if p args s (duration_at p args s.dur) (tests_hold args s.tests e) (duration_is p args s.dur)
timed_case p args s false e = λ dur tests has. let z : list_all (test_holds args) s.tests ≡ true = hold_tests args s.tests tests in cc

timed : (p : Problem) (args : List ℕ) (s : Schema) → AreTimed p args s (timed_duration p s (Some args))
timed p args s = timed_case p args s (list_all (test_holds args) s.tests) refl

abbrev AreBehind : Domain → Problem → ℕ → List ℕ → Option ℕ → Type 0
AreBehind d p k text r = MatchOption r ((dur : ℕ) (args : List ℕ) → IsBehind d p k text dur args → ⊥) (λ dur. (args : List ℕ) × IsBehind d p k text dur args)

behind_case : (d : Domain) (p : Problem) (k : ℕ) (text : List ℕ) (r : Option (List ℕ)) → Fits d p → HasWords d p → k < length d.schemas → read_args d p (schema_at d k).kinds text ≡ r
    → AreBehind d p k text (timed_duration p (schema_at d k) r)
behind_case d p k text None fits words lt e = none_read d p k (schema_at d k) text fits words refl e
behind_case d p k text (Some args) fits words lt e =
    behind_timed d p k (schema_at d k) text args (timed_duration p (schema_at d k) (Some args)) fits words lt refl e (timed p args (schema_at d k))

abbrev AreInside : Domain → Problem → List ℕ → Option ℕ → Type 0
AreInside d p text r = MatchOption r ((dur : ℕ) (i : Instance) → IsInside d p text dur i → ⊥) (λ dur. (i : Instance) × IsInside d p text dur i)

inside_case : (d : Domain) (p : Problem) (text : List ℕ) (r : Option ℕ) → Fits d p → HasWords d p → place_from (schema_names d) 0 (take (blank_at text) text) ≡ r
    → AreInside d p text (behind_duration d p (drop (blank_at text) text) r)
inside_case d p text None fits words e = no_schema_named d p text words (sym e)
inside_case d p text (Some k) fits words e =
    inside_schema d p text k (behind_duration d p (drop (blank_at text) text) (Some k)) words (sym e)
    (behind_case d p k (drop (blank_at text) text) (read_args d p (schema_at d k).kinds (drop (blank_at text) text)) fits words
    (known_schema d (take (blank_at text) text) k (sym e)) refl)

-- the duration of the instance of a name, or that no instance has it
abbrev pub AreNamed : Domain → Problem → List ℕ → Option ℕ → Type 0
AreNamed d p name r = MatchOption r ((dur : ℕ) (i : Instance) → IsNamed d p name dur i → ⊥) (λ dur. (i : Instance) × IsNamed d p name dur i)

named_case : (d : Domain) (p : Problem) (name : List ℕ) (r : Option (List ℕ)) → Fits d p → HasWords d p → IsBetween name r → AreNamed d p name (inside_duration d p r)
named_case d p name None fits words h = not_inside d p name h
named_case d p name (Some text) fits words h =
    named_inside d p name text (inside_duration d p (Some text)) h (inside_case d p text (place_from (schema_names d) 0 (take (blank_at text) text)) fits words refl)

-- the duration that is read from a name is that of the instance that has it
pub named : (d : Domain) (p : Problem) (name : List ℕ) → Fits d p → HasWords d p → AreNamed d p name (named_duration d p name)
unfolding named_duration
named d p name fits words = named_case d p name (inside name) fits words (between name)
