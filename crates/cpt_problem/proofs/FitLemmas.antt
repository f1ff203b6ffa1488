use Rattle.std.proofs.Common.{◌≡◌, ℕ, zero, suc, ◌+◌, ◌<◌, ◌≤◌, Bool, true, false, List, [], ◌∷◌, ◌++◌, length, take, drop, map, slice_index_or, refl, sym, ap, ◌∙◌, subst, arith, eq-eqb}
use Rattle.std.specs.Prelude.{if◌then◌else◌, Option, None, Some, Result, Ok, Err, IfOk, IfSome, All, codes}
use Rattle.std.proofs.lemmas.Result.{IfOk-at_ok}
use Rattle.std.proofs.lemmas.List.{length-map, drop-map, map-append, take-append-drop}
use Rattle.std.proofs.Math.ListN.{get_or-map}
use Rattle.std.proofs.Math.Seq.{take-length}
use Rattle.std.proofs.lemmas.List.Elements.{All-cons, All-nil, All-head, All-tail, All-drop, All-weaker}
use Rattle.cpt_sexp.specs.Grammar.{ForestShape, IsForest}
use Rattle.cpt_pddl.specs.declared.fault.Fault.{Fault}
use Rattle.cpt_pddl.specs.declared.typed.Sort.TheVariants.{Objects}
use Rattle.cpt_pddl.specs.declared.typed.Typed.{Typed}
use Rattle.cpt_pddl.specs.Faults.{◌>>=◌}
use Rattle.cpt_pddl.specs.Items.{Items, said_by, size}
use Rattle.cpt_pddl.specs.Reading.{after_word, group_at, nothing}
use Rattle.cpt_pddl.specs.Typed.{typed_list}
use Rattle.cpt_declared.specs.declared.declared.Declared.{Declared}
use Rattle.cpt_declared.specs.declared.signatures.Signatures.{Signatures}
use Rattle.cpt_schema.specs.declared.durations.Lasting.{Lasting}
use Rattle.cpt_schema.specs.declared.durations.Lasting.TheVariants.{Fixed, Value}
use Rattle.cpt_schema.specs.declared.schemas.Schema.{Schema}
use Rattle.cpt_domain.specs.declared.domain.Domain.{Domain}
use Rattle.cpt_domain.specs.declared.domain.ObjectDecl.{ObjectDecl}
use Rattle.cpt_domain.specs.declared.domain.TypeDecl.{TypeDecl}
use Rattle.cpt_domain.specs.declared.domain.Predicate.{Predicate}
use Rattle.cpt_domain.specs.declared.domain.Function.{Function}
use Rattle.cpt_domain.specs.Reading.{object_decls}
use Rattle.cpt_domain.specs.Sound.{IsSound}
use Rattle.cpt_facts.specs.declared.problem.Fact.{Fact}
use Rattle.cpt_facts.specs.declared.problem.Valued.{Valued}
use Rattle.cpt_facts.specs.declared.problem.Problem.{Problem}
use Rattle.cpt_facts.specs.Fitting.{AreDifferent, AreWords, FactFits, Fits, IsDurationFunction, Names, ValueFits, no_function, no_predicate, objects_of}
use Rattle.cpt_facts.specs.Fitting as fitting
use Rattle.cpt_problem.specs.declared.error.ProblemError.{ProblemError}
use Rattle.cpt_problem.specs.Errors.{Answers, of_problem}
use Rattle.cpt_problem.specs.Goals.{Aims, goal_part}
use Rattle.cpt_problem.specs.Inits.{Beginning, inits_in, nothing_begun}
use Rattle.cpt_problem.specs.Reading.{assembled, definition, problem_in, problem_of, sections_in, state_in}
use Rattle.cpt_problem.specs.Sections.{after_objects, after_requirements, metric_end, name_in, objects_by, optional, same_domain, section}
use Rattle.cpt_problem.specs.Tables.{declared_of, is_duration_function, names_function, object_kinds, object_names, objects_after, type_names}
use Rattle.cpt_problem.proofs.Steps.{ok_next, ok_then}
use Rattle.cpt_problem.proofs.ObjectLemmas.{IsKnown}
use Rattle.cpt_problem.proofs.InitLemmas.{IsBegun, IsGiven, begun_all, begun_nothing}
use Rattle.cpt_problem.proofs.GoalLemmas.{IsAimed, aimed_part, aimed_wider}
use Rattle.cpt_problem.proofs.TypedLemmas.{IsGrown, IsTyped, grown_list}
use Rattle.cpt_problem.proofs.SizeLemmas.{group_smaller, optional_smaller, requirements_smaller, said_few, section_smaller, word_smaller}

-- what is declared with the objects of a problem
record IsWhole (d : Domain) (c : Declared) : Type 0 where
  pub predicates : c.predicates ≡ (declared_of d).predicates
  pub functions : c.functions ≡ (declared_of d).functions
  pub typed : IsTyped (type_names d.types) (object_names d.constants) c.constants

names_back : (names : List (List ℕ)) (kinds : List ℕ) → length kinds ≡ length names → map (λ (o : ObjectDecl). o.name) (object_decls names kinds) ≡ names
names_back [] ks h = refl
names_back (n ∷ ns) [] h = absurd (omega arith)
names_back (n ∷ ns) (k ∷ ks) h = ap (λ (r : List (List ℕ)). n ∷ r) (names_back ns ks (omega arith))

kinds_back : (m : ℕ) (names : List (List ℕ)) (kinds : List ℕ) → All (λ k. k < m) kinds → All (λ (o : ObjectDecl). o.kind < m) (object_decls names kinds)
kinds_back m [] ks h = All-nil (λ (o : ObjectDecl). o.kind < m)
kinds_back m (n ∷ ns) [] h = All-nil (λ (o : ObjectDecl). o.kind < m)
kinds_back m (n ∷ ns) (k ∷ ks) h =
    All-cons (λ (o : ObjectDecl). o.kind < m) (record { name = n; kind = k }) (object_decls ns ks) (All-head (λ x. x < m) k ks h) (kinds_back m ns ks (All-tail (λ x. x < m) k ks h))

-- the names of all objects are those that were read
all_names : (d : Domain) (c : Declared) (p : Problem) → IsWhole d c → p.objects ≡ objects_after (length d.constants) c.constants → fitting.object_names d p ≡ c.constants.names
all_names d c p h is =
    let n = length d.constants in
    let f = λ (o : ObjectDecl). o.name in
    let names = c.constants.names in
    let decls = object_decls names c.constants.kinds in
    let front : take (length (object_names d.constants)) names ≡ object_names d.constants = h.typed.grown.front in
    let long : length (object_names d.constants) ≡ n = length-map d.constants f in
    ap (λ (os : List ObjectDecl). map f (d.constants ++ os)) is
    ∙ map-append f d.constants (drop n decls)
    ∙ ap (λ (xs : List (List ℕ)). object_names d.constants ++ xs) (sym (drop-map f n decls) ∙ ap (λ (xs : List (List ℕ)). drop n xs) (names_back names c.constants.kinds h.typed.even))
    ∙ ap (λ (xs : List (List ℕ)). xs ++ drop n names) (sym front ∙ ap (λ (k : ℕ). take k names) long)
    ∙ take-append-drop n names

all_count : (d : Domain) (c : Declared) (p : Problem) → IsWhole d c → p.objects ≡ objects_after (length d.constants) c.constants → length c.constants.names ≡ length (objects_of d p)
all_count d c p h is = sym (ap (λ (xs : List (List ℕ)). length xs) (all_names d c p h is)) ∙ length-map (objects_of d p) (λ (o : ObjectDecl). o.name)

fact_fits : (d : Domain) (c : Declared) (p : Problem) → IsWhole d c → p.objects ≡ objects_after (length d.constants) c.constants
    → (f : Fact) → IsKnown (length c.constants.names) c.predicates f.pred f.args → FactFits d p f
fact_fits d c p h is f k =
    let e = h.predicates in
    record {
      pred = subst (λ n. f.pred < n) (ap (λ (s : Signatures). length s.names) e ∙ length-map d.predicates (λ (q : Predicate). q.name)) k.below;
      arity = k.whole ∙ ap (λ (s : Signatures). length (slice_index_or s.kinds f.pred [])) e ∙ ap (λ (xs : List ℕ). length xs) (get_or-map (λ (q : Predicate). q.kinds) d.predicates f.pred no_predicate);
      args = subst (λ n. All (λ o. o < n) f.args) (all_count d c p h is) k.within;
    }

names_true : (l : Lasting) (func : ℕ) → Names l func → names_function l func ≡ true
names_true (Fixed n) func h = absurd h
names_true (Value f terms) func h = eq-eqb f func h

at_start : (b x : Bool) → b ≡ true → (if b then true else x) ≡ true
at_start true x h = refl
at_start false x h = absurd (cc)

at_rest : (b x : Bool) → x ≡ true → (if b then true else x) ≡ true
at_rest true x h = refl
at_rest false x h = h

named_at : (ss : List Schema) (func k : ℕ) (d : Schema) → k < length ss → Names (slice_index_or ss k d).dur func → is_duration_function ss func ≡ true
named_at [] func k d h n = absurd (omega arith)
named_at (s ∷ ss) func zero d h n = at_start (names_function s.dur func) (is_duration_function ss func) (names_true s.dur func n)
named_at (s ∷ ss) func (suc k) d h n = at_rest (names_function s.dur func) (is_duration_function ss func) (named_at ss func k d (omega arith) n)

is_named : (d : Domain) (func : ℕ) → IsDurationFunction d func → is_duration_function d.schemas func ≡ true
is_named d func h =
    let s : Schema = h.0 in
    named_at d.schemas func h.1.0 s h.1.1 (subst (λ (t : Schema). Names t.dur func) (sym h.1.2) h.2)

value_fits : (d : Domain) (c : Declared) (p : Problem) → IsWhole d c → p.objects ≡ objects_after (length d.constants) c.constants
    → (v : Valued) → IsGiven (length c.constants.names) d.schemas c.functions v → ValueFits d p v
value_fits d c p h is v g =
    let e = h.functions in
    let k = g.known in
    record {
      func = subst (λ n. v.func < n) (ap (λ (s : Signatures). length s.names) e ∙ length-map d.functions (λ (q : Function). q.name)) k.below;
      arity = k.whole ∙ ap (λ (s : Signatures). length (slice_index_or s.kinds v.func [])) e ∙ ap (λ (xs : List ℕ). length xs) (get_or-map (λ (q : Function). q.kinds) d.functions v.func no_function);
      args = subst (λ n. All (λ o. o < n) v.args) (all_count d c p h is) k.within;
      duration = λ n. g.lasting (is_named d v.func n);
    }

-- the parts of a problem that were read fit together
fits_whole : (d : Domain) (c : Declared) (many : ℕ) (b : Beginning) (a : Aims) → many < 16777216 → IsWhole d c → IsBegun d.schemas c many b → IsAimed c many a
    → Fits d (assembled d c b a)
fits_whole d c many b a few h i j =
    let p = assembled d c b a in
    let P = λ (f : Fact). IsKnown (length c.constants.names) c.predicates f.pred f.args in
    let fact = fact_fits d c p h refl in
    let is = all_names d c p h refl in
    let count = all_count d c p h refl in
    let some : length c.constants.names ≤ 4096 = h.typed.grown.few in
    record {
      kinds = All-drop (λ (o : ObjectDecl). o.kind < length d.types) (length d.constants) (object_decls c.constants.names c.constants.kinds)
          (kinds_back (length d.types) c.constants.names c.constants.kinds (subst (λ n. All (λ k. k < n) c.constants.kinds) (length-map d.types (λ (t : TypeDecl). t.name)) h.typed.grown.kinds));
      init = All-weaker P (FactFits d p) fact b.facts i.facts;
      goal = All-weaker P (FactFits d p) fact a.present j.present;
      absent = All-weaker P (FactFits d p) fact a.absent j.absent;
      values = All-weaker (IsGiven (length c.constants.names) d.schemas c.functions) (ValueFits d p) (value_fits d c p h refl) b.values i.values;
      single = i.apart;
      names = subst AreDifferent (sym is) h.typed.grown.different;
      words = subst AreWords (sym is) h.typed.grown.words;
      few_objects = omega (arith, count);
      few_init = (let e : length b.facts ≤ many = i.few_facts in omega arith);
      few_goal = (let e : length a.present ≤ many = j.few_present in omega arith);
      few_absent = (let e : length a.absent ≤ many = j.few_absent in omega arith);
      few_values = (let e : length b.values ≤ many = i.few_values in omega arith);
    }

fits_state : (d : Domain) (c : Declared) (items : Items) → size items < 16777216 → IsWhole d c → IfOk (state_in d c items) (Fits d)
unfolding state_in
fits_state d c items few h =
    let n = size items in
    let last = λ (b : Beginning) (a : Aims). let r : Result Problem Fault = Ok (assembled d c b a) in r in
    ok_then {A = Items × Items} {B = Problem} (section (codes ":init") items)
    (λ start. inits_in d.schemas c nothing_begun start.0 >>= (λ b. section (codes ":goal") start.1 >>= (λ aim. goal_part c aim.0 >>= (λ a. metric_end aim.1 >>= (λ _. last b a)))))
    (λ x. size x.0 + size x.1 < n) (Fits d) (section_smaller (codes ":init") items)
    (λ start s. ok_then {B = Problem} (inits_in d.schemas c nothing_begun start.0) (λ b. section (codes ":goal") start.1 >>= (λ aim. goal_part c aim.0 >>= (λ a. metric_end aim.1 >>= (λ _. last b a))))
    (IsBegun d.schemas c n) (Fits d) (begun_all d.schemas c start.0 0 n nothing_begun (omega arith) (begun_nothing d.schemas c))
    (λ b i. ok_then {A = Items × Items} {B = Problem} (section (codes ":goal") start.1) (λ aim. goal_part c aim.0 >>= (λ a. metric_end aim.1 >>= (λ _. last b a)))
    (λ x. size x.0 + size x.1 < size start.1) (Fits d) (section_smaller (codes ":goal") start.1)
    (λ aim t. ok_then {B = Problem} (goal_part c aim.0) (λ a. metric_end aim.1 >>= (λ _. last b a)) (IsAimed c (size aim.0)) (Fits d) (aimed_part c aim.0)
    (λ a j. ok_next {B = Problem} (metric_end aim.1) (λ _. last b a) (Fits d) (λ _. fits_whole d c n b a few h i (aimed_wider c (size aim.0) n a (omega arith) j))))))

sound_grown : (d : Domain) → IsSound d → IsGrown (type_names d.types) (object_names d.constants) (object_names d.constants) (object_kinds d.constants)
sound_grown d h =
    let e = length-map d.constants (λ (o : ObjectDecl). o.name) in
    let f = length-map d.constants (λ (o : ObjectDecl). o.kind) in
    let t = length-map d.types (λ (t : TypeDecl). t.name) in
    let few : length d.constants ≤ 4096 = h.fit.few in
    record {
      front = take-length (object_names d.constants);
      long = omega arith;
      different = h.names.constants;
      words = h.words.constants;
      few = omega (arith, e);
      kinds = subst (λ n. All (λ k. k < n) (object_kinds d.constants)) (sym t) h.fit.constants;
      shorter = omega (arith, e, f);
    }

whole_by : (d : Domain) (items : Items) (o : Option (ℕ × Items × Items)) → IsSound d → IfSome o (λ (x : ℕ × Items × Items). size x.2 ≤ size items)
    → IfOk (objects_by (declared_of d) items o) (λ (x : Declared × Items). IsWhole d x.0 × (size x.1 ≤ size items))
whole_by d items None h k =
    let e = length-map d.constants (λ (o : ObjectDecl). o.name) in
    let f = length-map d.constants (λ (o : ObjectDecl). o.kind) in
    (record { predicates = refl; functions = refl; typed = record { grown = sound_grown d h; even = f ∙ sym e } }, omega arith)
whole_by d items (Some x) h k =
    let t = length-map d.types (λ (t : TypeDecl). t.name) in
    let some : 0 < length d.types = h.fit.tree.some in
    let of = λ (objects : Typed). let r : Result (Declared × Items) Fault = Ok (record (declared_of d) { constants = objects }, x.2) in r in
    ok_then (typed_list Objects (type_names d.types) (declared_of d).constants x.1) of (IsTyped (type_names d.types) (object_names d.constants))
    (λ (y : Declared × Items). IsWhole d y.0 × (size y.1 ≤ size items))
    (grown_list (type_names d.types) (object_names d.constants) (declared_of d).constants x.1 (omega (arith, t)) (sound_grown d h))
    (λ objects g. (record { predicates = refl; functions = refl; typed = g }, k))

whole_after : (d : Domain) (items : Items) → IsSound d → IfOk (after_objects (declared_of d) items) (λ (x : Declared × Items). IsWhole d x.0 × (size x.1 ≤ size items))
unfolding after_objects
whole_after d items h = whole_by d items (optional (codes ":objects") items) h (optional_smaller (codes ":objects") items)

fits_sections : (d : Domain) (items : Items) → size items < 16777216 → IsSound d → IfOk (sections_in d items) (Fits d)
unfolding sections_in
fits_sections d items few h =
    ok_then {A = Items × Items} {B = Problem} (section (codes ":domain") items)
    (λ named. same_domain d.name named.0 >>= (λ _. after_requirements named.1 >>= (λ rest. after_objects (declared_of d) rest >>= (λ found. state_in d found.0 found.1))))
    (λ x. size x.0 + size x.1 < size items) (Fits d) (section_smaller (codes ":domain") items)
    (λ named s. ok_next {B = Problem} (same_domain d.name named.0) (λ _. after_requirements named.1 >>= (λ rest. after_objects (declared_of d) rest >>= (λ found. state_in d found.0 found.1))) (Fits d)
    (λ _. ok_then {B = Problem} (after_requirements named.1) (λ rest. after_objects (declared_of d) rest >>= (λ found. state_in d found.0 found.1)) (λ rest. size rest ≤ size named.1) (Fits d)
    (requirements_smaller named.1)
    (λ rest t. ok_then {A = Declared × Items} {B = Problem} (after_objects (declared_of d) rest) (λ found. state_in d found.0 found.1) (λ x. IsWhole d x.0 × (size x.1 ≤ size rest)) (Fits d)
    (whole_after d rest h) (λ found w. let less : size found.1 ≤ size rest = w.1 in fits_state d found.0 found.1 (omega arith) w.0))))

fits_definition : (d : Domain) (items : Items) → size items < 16777216 → IsSound d → IfOk (definition d items) (Fits d)
unfolding definition
fits_definition d items few h =
    ok_then {A = Items} {B = Problem} (after_word (codes "define") items) (λ rest. group_at rest >>= (λ head. name_in head.1 >>= (λ _. sections_in d head.2)))
    (λ rest. size rest ≤ size items) (Fits d) (word_smaller (codes "define") items)
    (λ rest s. ok_then {A = ℕ × Items × Items} {B = Problem} (group_at rest) (λ head. name_in head.1 >>= (λ _. sections_in d head.2)) (λ x. size x.1 + size x.2 < size rest) (Fits d) (group_smaller rest)
    (λ head t. ok_next {B = Problem} (name_in head.1) (λ _. sections_in d head.2) (Fits d) (λ _. fits_sections d head.2 (omega arith) h)))

fits_problem : (d : Domain) (items : Items) → size items ≤ 16777216 → IsSound d → IfOk (problem_in d items) (Fits d)
unfolding problem_in
fits_problem d items few h =
    ok_then {A = ℕ × Items × Items} {B = Problem} (group_at items) (λ found. definition d found.1 >>= (λ problem. nothing found.2 >>= (λ _. Ok problem))) (λ x. size x.1 + size x.2 < size items) (Fits d) (group_smaller items)
    (λ found s. ok_then {B = Problem} (definition d found.1) (λ problem. nothing found.2 >>= (λ _. Ok problem)) (Fits d) (Fits d) (fits_definition d found.1 (omega arith) h)
    (λ problem k. ok_next {B = Problem} (nothing found.2) (λ _. Ok problem) (Fits d) (λ _. k)))

of_ok : (d : Domain) (r : Result Problem Fault) → IfOk r (Fits d) → IfOk (of_problem r) (Fits d)
of_ok d (Ok p) h = h
of_ok d (Err e) h = tt

fits_of : (d : Domain) (forest : ForestShape) → IsSound d → IsForest forest → IfOk (problem_of d forest) (Fits d)
unfolding problem_of
fits_of d forest h k = of_ok d (problem_in d (said_by forest)) (fits_problem d (said_by forest) (said_few forest k) h)

-- a problem that reading gives fits the domain
pub answer_fits : (d : Domain) (forest : ForestShape) (r : Result Problem ProblemError) → Answers r (problem_of d forest) → IsSound d → IsForest forest → IfOk r (Fits d)
answer_fits d forest (Ok p) a h k = IfOk-at_ok (Fits d) a (fits_of d forest h k)
answer_fits d forest (Err e) a h k = tt
