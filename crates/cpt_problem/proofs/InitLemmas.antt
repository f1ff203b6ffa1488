use Rattle.std.proofs.Common.{◌≡◌, ℕ, zero, suc, ◌+◌, ◌<◌, ◌≤◌, ◌==◌, nat_le, nat_lt, Bool, true, false, ◌&&◌, List, [], ◌∷◌, ◌++◌, length, slice_index_or, refl, sym, ap, ◌∙◌, subst, arith, length-append, eq-eqb}
use Rattle.std.specs.Prelude.{if◌then◌else◌, Option, None, Some, Result, Ok, Err, IfOk, All}
use Rattle.std.proofs.lemmas.Bool.Decides.{nat_tests}
use Rattle.std.proofs.lemmas.List.{get_or_append_left}
use Rattle.std.proofs.Math.Seq.{get_or-append_seam}
use Rattle.std.proofs.lemmas.List.Elements.{All-append, All-cons, All-nil}
use Rattle.cpt_pddl.specs.declared.fault.Feature.TheVariants as features
use Rattle.cpt_pddl.specs.declared.fault.Fault.{Fault}
use Rattle.cpt_pddl.specs.declared.fault.Fault.TheVariants.{Twice, Duration, Feature}
use Rattle.cpt_pddl.specs.declared.words.Head.{Head}
use Rattle.cpt_pddl.specs.declared.words.Head.TheVariants.{And, Not, Equal, At, Over, Untaken, Numeric, Other}
use Rattle.cpt_pddl.specs.Faults.{◌>>=◌}
use Rattle.cpt_pddl.specs.Items.{Items, end, word, group, size}
use Rattle.cpt_pddl.specs.Reading.{nothing}
use Rattle.cpt_pddl.specs.Words.{head_of, number_in}
use Rattle.cpt_declared.specs.declared.declared.Declared.{Declared}
use Rattle.cpt_declared.specs.declared.signatures.Signatures.{Signatures}
use Rattle.cpt_schema.specs.declared.schemas.Schema.{Schema}
use Rattle.cpt_facts.specs.declared.problem.Fact.{Fact}
use Rattle.cpt_facts.specs.declared.problem.Valued.{Valued}
use Rattle.cpt_facts.specs.Fitting.{no_value}
use Rattle.cpt_problem.specs.declared.atoms.Filled.{Filled}
use Rattle.cpt_problem.specs.Inits.{Beginning, equation, has_value, init_by, init_in, inits_in, is_timed, is_value, same_args, unless_known, value_at, value_by, value_in, with_fact, with_value}
use Rattle.cpt_problem.specs.Objects.{atom_in, function_term}
use Rattle.cpt_problem.specs.Tables.{is_duration_function}
use Rattle.cpt_problem.proofs.Steps.{if_ok, ok_next, ok_then}
use Rattle.cpt_problem.proofs.ObjectLemmas.{IsKnown, known_atom, known_term}

same_refl : (xs : List ℕ) → same_args xs xs ≡ true
same_refl [] = refl
same_refl (x ∷ xs) = let e : (x == x) ≡ true = eq-eqb x x refl in ap (λ b. b && same_args xs xs) e ∙ same_refl xs

neither : (b x : Bool) → (if b then true else x) ≡ false → (b ≡ false) × (x ≡ false)
neither true x h = absurd (cc)
neither false x h = (refl, h)

both : (a b : Bool) → a ≡ true → b ≡ true → (a && b) ≡ false → ⊥
both true b h k free = cc
both false b h k free = cc

-- where the function has no value for these objects, no value is one for them
unlike : (vs : List Valued) (func : ℕ) (args : List ℕ) → has_value vs func args ≡ false → (i : ℕ) → i < length vs
    → (slice_index_or vs i no_value).func ≡ func → (slice_index_or vs i no_value).args ≡ args → ⊥
unlike [] func args free i h e f = absurd (omega arith)
unlike (v ∷ vs) func args free zero h e f =
    both (v.func == func) (same_args v.args args) (eq-eqb v.func func e) (subst (λ (xs : List ℕ). same_args v.args xs ≡ true) f (same_refl v.args))
    (neither ((v.func == func) && same_args v.args args) (has_value vs func args) free).0
unlike (v ∷ vs) func args free (suc i) h e f =
    unlike vs func args (neither ((v.func == func) && same_args v.args args) (has_value vs func args) free).1 i (omega arith) e f

-- no function has two values for the same objects
abbrev pub AreApart : List Valued → Type 0
AreApart vs = (i j : ℕ) → i < j → j < length vs → (slice_index_or vs i no_value).func ≡ (slice_index_or vs j no_value).func
    → (slice_index_or vs i no_value).args ≡ (slice_index_or vs j no_value).args → ⊥

apart_none : AreApart []
apart_none i j h k = absurd (omega arith)

apart_by : (vs : List Valued) (v : Valued) → AreApart vs → has_value vs v.func v.args ≡ false → (i j : ℕ) → i < j → j < length vs + 1 → (b : Bool) → nat_lt j (length vs) ≡ b
    → (slice_index_or (vs ++ v ∷ []) i no_value).func ≡ (slice_index_or (vs ++ v ∷ []) j no_value).func
    → (slice_index_or (vs ++ v ∷ []) i no_value).args ≡ (slice_index_or (vs ++ v ∷ []) j no_value).args → ⊥
apart_by vs v one free i j lt within true e f g =
    let h : j < length vs = grind (arith, nat_tests) in
    let ei = get_or_append_left vs (v ∷ []) no_value i (omega arith) in
    let ej = get_or_append_left vs (v ∷ []) no_value j h in
    one i j lt h (ap (λ (w : Valued). w.func) (sym ei) ∙ f ∙ ap (λ (w : Valued). w.func) ej) (ap (λ (w : Valued). w.args) (sym ei) ∙ g ∙ ap (λ (w : Valued). w.args) ej)
apart_by vs v one free i j lt within false e f g =
    let h : length vs ≤ j = grind (arith, nat_tests) in
    let is : j ≡ length vs = omega arith in
    let ei = get_or_append_left vs (v ∷ []) no_value i (omega arith) in
    let ej = ap (λ (n : ℕ). slice_index_or (vs ++ v ∷ []) n no_value) is ∙ get_or-append_seam vs v [] no_value in
    unlike vs v.func v.args free i (omega arith) (ap (λ (w : Valued). w.func) (sym ei) ∙ f ∙ ap (λ (w : Valued). w.func) ej)
    (ap (λ (w : Valued). w.args) (sym ei) ∙ g ∙ ap (λ (w : Valued). w.args) ej)

apart_more : (vs : List Valued) (v : Valued) → AreApart vs → has_value vs v.func v.args ≡ false → AreApart (vs ++ v ∷ [])
apart_more vs v one free i j lt within f g = apart_by vs v one free i j lt (omega (arith, length-append vs (v ∷ []))) (nat_lt j (length vs)) refl f g

-- a number that can be a duration, where one is asked for
abbrev pub IsLasting : Bool → ℕ → Type 0
IsLasting lasting n = lasting ≡ true → (1 ≤ n) × (n ≤ 100000)

good_number : (lasting : Bool) (at n : ℕ) → IfOk (if is_value lasting n then Ok n else Err (Duration at)) (IsLasting lasting)
good_number true at n =
    if_ok (nat_le 1 n && nat_le n 100000) (Ok n) (Err (Duration at)) (IsLasting true)
    (λ e _. let h : (1 ≤ n) × (n ≤ 100000) = grind (arith, nat_tests) in h) (λ _. tt)
good_number false at n = if_ok (nat_le n 4294967295) (Ok n) (Err (Duration at)) (IsLasting false) (λ _ e. absurd (cc)) (λ _. tt)

good_by : (lasting : Bool) (at : ℕ) (o : Option ℕ) → IfOk (value_by lasting at o) (IsLasting lasting)
good_by lasting at None = tt
good_by lasting at (Some n) = good_number lasting at n

good_value : (lasting : Bool) (items : Items) → IfOk (value_in lasting items) (IsLasting lasting)
good_value lasting (end close) = tt
good_value lasting (word at bytes rest) =
    ok_then {A = ℕ} {B = ℕ} (value_by lasting at (number_in bytes)) (λ n. nothing rest >>= (λ _. Ok n)) (IsLasting lasting) (IsLasting lasting) (good_by lasting at (number_in bytes))
    (λ n g. ok_next {B = ℕ} (nothing rest) (λ _. Ok n) (IsLasting lasting) (λ _. g))
good_value lasting (group at inside rest) = tt

-- a function with objects, and a duration where one is asked for
pub record IsGiven (count : ℕ) (schemas : List Schema) (sigs : Signatures) (v : Valued) : Type 0 where
  pub known : IsKnown count sigs v.func v.args
  pub lasting : IsLasting (is_duration_function schemas v.func) v.value

-- a value that is given, and that the function has not yet for its objects
record IsNew (count : ℕ) (schemas : List Schema) (sigs : Signatures) (vs : List Valued) (v : Valued) : Type 0 where
  pub given : IsGiven count schemas sigs v
  pub fresh : has_value vs v.func v.args ≡ false

fresh_one : (vs : List Valued) (item : ℕ) (term : Filled) → IfOk (unless_known vs item term) (λ _. has_value vs term.number term.args ≡ false)
fresh_one vs item term = if_ok (has_value vs term.number term.args) (Err (Twice item)) (Ok tt) (λ _. has_value vs term.number term.args ≡ false) (λ _. tt) (λ e. e)

new_at : (schemas : List Schema) (declared : Declared) (vs : List Valued) (item at : ℕ) (inside rest : Items)
    → IfOk (value_at schemas declared vs item at inside rest) (IsNew (length declared.constants.names) schemas declared.functions vs)
unfolding value_at
new_at schemas declared vs item at inside rest =
    let m = length declared.constants.names in
    let Q = IsNew m schemas declared.functions vs in
    let of = λ (term : Filled) (n : ℕ). let v : Valued = record { func = term.number; args = term.args; value = n } in let r : Result Valued Fault = Ok v in r in
    ok_then (function_term declared at inside) (λ term. unless_known vs item term >>= (λ _. value_in (is_duration_function schemas term.number) rest >>= of term))
    (λ (term : Filled). IsKnown m declared.functions term.number term.args) Q (known_term declared at inside)
    (λ term k. ok_then (unless_known vs item term) (λ _. value_in (is_duration_function schemas term.number) rest >>= of term)
    (λ _. has_value vs term.number term.args ≡ false) Q (fresh_one vs item term)
    (λ _ free. ok_then (value_in (is_duration_function schemas term.number) rest) (of term) (IsLasting (is_duration_function schemas term.number)) Q
    (good_value (is_duration_function schemas term.number) rest) (λ n g. record { given = record { known = k; lasting = g }; fresh = free })))

new_equation : (schemas : List Schema) (declared : Declared) (vs : List Valued) (item : ℕ) (items : Items)
    → IfOk (equation schemas declared vs item items) (IsNew (length declared.constants.names) schemas declared.functions vs)
new_equation schemas declared vs item (end close) = tt
new_equation schemas declared vs item (word at bytes rest) = tt
new_equation schemas declared vs item (group at inside rest) = new_at schemas declared vs item at inside rest

-- what has been read of an initial state is in order, and of each kind at most so much
pub record IsBegun (schemas : List Schema) (declared : Declared) (many : ℕ) (b : Beginning) : Type 0 where
  pub facts : All (λ (f : Fact). IsKnown (length declared.constants.names) declared.predicates f.pred f.args) b.facts
  pub values : All (IsGiven (length declared.constants.names) schemas declared.functions) b.values
  pub apart : AreApart b.values
  pub few_facts : length b.facts ≤ many
  pub few_values : length b.values ≤ many

begun_fact : (schemas : List Schema) (declared : Declared) (many : ℕ) (b : Beginning) (item at : ℕ) (bytes : List ℕ) (rest : Items) → IsBegun schemas declared many b
    → IfOk (with_fact declared b item at bytes rest) (IsBegun schemas declared (many + 1))
unfolding with_fact
begun_fact schemas declared many b item at bytes rest h =
    let P = λ (f : Fact). IsKnown (length declared.constants.names) declared.predicates f.pred f.args in
    let of = λ (f : Fact). let c : Beginning = record b { facts = b.facts ++ f ∷ [] } in let r : Result Beginning Fault = Ok c in r in
    ok_then (atom_in declared item at bytes rest) of P (IsBegun schemas declared (many + 1)) (known_atom declared item at bytes rest)
    (λ f k. record {
      facts = All-append P b.facts (f ∷ []) h.facts (All-cons P f [] k (All-nil P));
      values = h.values;
      apart = h.apart;
      few_facts = (let e : length b.facts ≤ many = h.few_facts in omega (arith, length-append b.facts (f ∷ [])));
      few_values = (let e : length b.values ≤ many = h.few_values in omega arith);
    })

begun_value : (schemas : List Schema) (declared : Declared) (many : ℕ) (b : Beginning) (item : ℕ) (rest : Items) → IsBegun schemas declared many b
    → IfOk (with_value schemas declared b item rest) (IsBegun schemas declared (many + 1))
unfolding with_value
begun_value schemas declared many b item rest h =
    let P = IsGiven (length declared.constants.names) schemas declared.functions in
    let of = λ (v : Valued). let c : Beginning = record b { values = b.values ++ v ∷ [] } in let r : Result Beginning Fault = Ok c in r in
    ok_then (equation schemas declared b.values item rest) of (IsNew (length declared.constants.names) schemas declared.functions b.values) (IsBegun schemas declared (many + 1))
    (new_equation schemas declared b.values item rest)
    (λ v k. record {
      facts = h.facts;
      values = All-append P b.values (v ∷ []) h.values (All-cons P v [] k.given (All-nil P));
      apart = apart_more b.values v h.apart k.fresh;
      few_facts = (let e : length b.facts ≤ many = h.few_facts in omega arith);
      few_values = (let e : length b.values ≤ many = h.few_values in omega (arith, length-append b.values (v ∷ [])));
    })

begun_by : (schemas : List Schema) (declared : Declared) (many : ℕ) (b : Beginning) (item at : ℕ) (bytes : List ℕ) (rest : Items) (head : Head) → IsBegun schemas declared many b
    → IfOk (init_by schemas declared b item at bytes rest head) (IsBegun schemas declared (many + 1))
begun_by schemas declared many b item at bytes rest And h = begun_fact schemas declared many b item at bytes rest h
begun_by schemas declared many b item at bytes rest Not h = tt
begun_by schemas declared many b item at bytes rest Equal h = begun_value schemas declared many b item rest h
begun_by schemas declared many b item at bytes rest At h =
    if_ok (is_timed rest) (Err (Feature features.Timed item)) (with_fact declared b item at bytes rest) (IsBegun schemas declared (many + 1)) (λ _. tt)
    (λ _. begun_fact schemas declared many b item at bytes rest h)
begun_by schemas declared many b item at bytes rest Over h = begun_fact schemas declared many b item at bytes rest h
begun_by schemas declared many b item at bytes rest (Untaken which) h = begun_fact schemas declared many b item at bytes rest h
begun_by schemas declared many b item at bytes rest Numeric h = begun_fact schemas declared many b item at bytes rest h
begun_by schemas declared many b item at bytes rest Other h = begun_fact schemas declared many b item at bytes rest h

begun_in : (schemas : List Schema) (declared : Declared) (many : ℕ) (b : Beginning) (item : ℕ) (inside : Items) → IsBegun schemas declared many b
    → IfOk (init_in schemas declared b item inside) (IsBegun schemas declared (many + 1))
begun_in schemas declared many b item (end close) h = tt
begun_in schemas declared many b item (word at bytes rest) h = begun_by schemas declared many b item at bytes rest (head_of bytes) h
begun_in schemas declared many b item (group at inside rest) h = tt

-- more is allowed
begun_wider : (schemas : List Schema) (declared : Declared) (many more : ℕ) (b : Beginning) → many ≤ more → IsBegun schemas declared many b → IsBegun schemas declared more b
begun_wider schemas declared many more b le h =
    record {
      facts = h.facts;
      values = h.values;
      apart = h.apart;
      few_facts = (let e : length b.facts ≤ many = h.few_facts in omega arith);
      few_values = (let e : length b.values ≤ many = h.few_values in omega arith);
    }

pub begun_all : (schemas : List Schema) (declared : Declared) (items : Items) (many more : ℕ) (b : Beginning) → many + size items ≤ more → IsBegun schemas declared many b
    → IfOk (inits_in schemas declared b items) (IsBegun schemas declared more)
begun_all schemas declared (end close) many more b le h = begun_wider schemas declared many more b (omega arith) h
begun_all schemas declared (word at bytes rest) many more b le h = tt
begun_all schemas declared (group item inside rest) many more b le h =
    ok_then (init_in schemas declared b item inside) (λ c. inits_in schemas declared c rest) (IsBegun schemas declared (many + 1)) (IsBegun schemas declared more)
    (begun_in schemas declared many b item inside h)
    (λ c k. begun_all schemas declared rest (many + 1) more c (omega arith) k)

pub begun_nothing : (schemas : List Schema) (declared : Declared) → IsBegun schemas declared 0 (record { facts = []; values = [] })
begun_nothing schemas declared =
    record {
      facts = All-nil (λ (f : Fact). IsKnown (length declared.constants.names) declared.predicates f.pred f.args);
      values = All-nil (IsGiven (length declared.constants.names) schemas declared.functions);
      apart = apart_none;
      few_facts = omega arith;
      few_values = omega arith;
    }
