use Rattle.std.proofs.Common.{◌≡◌, ℕ, ◌+◌, ◌<◌, ◌≤◌, nat_lt, List, [], ◌∷◌, ◌++◌, length, slice_get, slice_index_or, refl, arith, length-append}
use Rattle.std.specs.Prelude.{if◌then◌else◌, Option, None, Some, Result, Ok, Err, IfOk, IfSome, All}
use Rattle.std.specs.Str.{bytes_eq}
use Rattle.std.proofs.lemmas.Bool.Decides.{nat_tests}
use Rattle.std.proofs.lemmas.List.Elements.{All-append, All-cons, All-nil}
use Rattle.std.proofs.lemmas.Option.{IfSome_then, slice_get_within}
use Rattle.std.proofs.lemmas.Result.{IfOk-weaker}
use Rattle.cpt_pddl.specs.declared.fault.Fault.{Fault}
use Rattle.cpt_pddl.specs.declared.fault.Fault.TheVariants.{Shape, BadName, BadType, Arity}
use Rattle.cpt_pddl.specs.declared.typed.Typed.{Typed}
use Rattle.cpt_pddl.specs.Faults.{◌>>=◌, or_fault}
use Rattle.cpt_pddl.specs.Items.{Items, end, word, group}
use Rattle.cpt_pddl.specs.Kinds.{is_below}
use Rattle.cpt_pddl.specs.Names.{place_from, place_in}
use Rattle.cpt_pddl.specs.Words.{is_name, is_variable}
use Rattle.cpt_declared.specs.declared.declared.Declared.{Declared}
use Rattle.cpt_declared.specs.declared.signatures.Signatures.{Signatures}
use Rattle.cpt_facts.specs.declared.problem.Fact.{Fact}
use Rattle.cpt_problem.specs.declared.atoms.Filled.{Filled}
use Rattle.cpt_problem.specs.Objects.{applied, atom_in, function_term, next_object, object_at, object_by, objects_in, objects_rest, typed_object}
use Rattle.cpt_problem.proofs.Steps.{if_ok, if_some, ok_then, or_ok}

-- a place among names is one of them
place_below : (names : List (List ℕ)) (k : ℕ) (text : List ℕ) → IfSome (place_from names k text) (λ n. n < k + length names)
place_below [] k text = tt
place_below (name ∷ names) k text =
    if_some (bytes_eq name text) (Some k) (place_from names (k + 1) text) (λ n. n < k + length (name ∷ names)) (omega arith)
    (IfSome_then (place_from names (k + 1) text) (place_below names (k + 1) text) (λ n h. omega arith))

pub place_in_below : (names : List (List ℕ)) (text : List ℕ) → IfSome (place_in names text) (λ n. n < length names)
unfolding place_in
place_in_below names text = IfSome_then (place_from names 0 text) (place_below names 0 text) (λ n h. omega arith)

by_known : (objects : Typed) (at : ℕ) (o : Option ℕ) → IfSome o (λ n. n < length objects.names) → IfOk (object_by objects at o) (λ f. f.0 < length objects.names)
by_known objects at None h = tt
by_known objects at (Some n) h = h

known_object : (objects : Typed) (at : ℕ) (bytes : List ℕ) → IfOk (object_at objects at bytes) (λ f. f.0 < length objects.names)
unfolding object_at
known_object objects at bytes =
    let P = λ (f : ℕ × ℕ). f.0 < length objects.names in
    let by = object_by objects at (place_in objects.names bytes) in
    if_ok (is_variable bytes) (Err (BadName at)) (if is_name bytes then by else Err (Shape at)) P (λ _. tt)
    (λ _. if_ok (is_name bytes) by (Err (Shape at)) P (λ _. by_known objects at (place_in objects.names bytes) (place_in_below objects.names bytes)) (λ _. tt))

known_typed : (declared : Declared) (wanted at : ℕ) (bytes : List ℕ) → IfOk (typed_object declared wanted at bytes) (λ o. o < length declared.constants.names)
unfolding typed_object
known_typed declared wanted at bytes =
    let P = λ (o : ℕ). o < length declared.constants.names in
    ok_then (object_at declared.constants at bytes) (λ (found : ℕ × ℕ). if is_below declared.types.parents found.1 wanted then Ok found.0 else Err (BadType at))
    (λ (f : ℕ × ℕ). f.0 < length declared.constants.names) P (known_object declared.constants at bytes)
    (λ found h. if_ok (is_below declared.types.parents found.1 wanted) (Ok found.0) (Err (BadType at)) P (λ _. h) (λ _. tt))

known_by : (declared : Declared) (atom : ℕ) (wanted : List ℕ) (k at : ℕ) (bytes : List ℕ) (o : Option ℕ) → slice_get wanted k ≡ o
    → IfOk (next_object declared atom o at bytes) (λ x. (x < length declared.constants.names) × (k < length wanted))
known_by declared atom wanted k at bytes None e = tt
known_by declared atom wanted k at bytes (Some w) e =
    IfOk-weaker (typed_object declared w at bytes) (λ x. x < length declared.constants.names) (λ x. (x < length declared.constants.names) × (k < length wanted))
    (λ x h. (h, slice_get_within wanted k w e)) (known_typed declared w at bytes)

-- objects of so many, and so many as are wanted
pub record AreKnown (count many : ℕ) (args : List ℕ) : Type 0 where
  pub within : All (λ o. o < count) args
  pub whole : length args ≡ many

known_rest : (declared : Declared) (atom : ℕ) (wanted : List ℕ) (items : Items) (args : List ℕ) → All (λ o. o < length declared.constants.names) args → length args ≤ length wanted
    → IfOk (objects_rest declared atom wanted args items) (AreKnown (length declared.constants.names) (length wanted))
known_rest declared atom wanted (end close) args h k =
    if_ok (nat_lt (length args) (length wanted)) (Err (Arity atom)) (Ok args) (AreKnown (length declared.constants.names) (length wanted)) (λ _. tt)
    (λ e. record { within = h; whole = grind (arith, nat_tests) })
known_rest declared atom wanted (word at bytes rest) args h k =
    let P = λ (o : ℕ). o < length declared.constants.names in
    ok_then (next_object declared atom (slice_get wanted (length args)) at bytes) (λ x. objects_rest declared atom wanted (args ++ x ∷ []) rest)
    (λ x. (x < length declared.constants.names) × (length args < length wanted)) (AreKnown (length declared.constants.names) (length wanted))
    (known_by declared atom wanted (length args) at bytes (slice_get wanted (length args)) refl)
    (λ x g. known_rest declared atom wanted rest (args ++ x ∷ []) (All-append P args (x ∷ []) h (All-cons P x [] g.0 (All-nil P)))
    (let lt : length args < length wanted = g.1 in omega (arith, length-append args (x ∷ []))))
known_rest declared atom wanted (group at inside rest) args h k = tt

known_objects : (declared : Declared) (atom : ℕ) (wanted : List ℕ) (items : Items) → IfOk (objects_in declared atom wanted items) (AreKnown (length declared.constants.names) (length wanted))
unfolding objects_in
known_objects declared atom wanted items = known_rest declared atom wanted items [] (All-nil (λ o. o < length declared.constants.names)) (omega arith)

-- a predicate or function among these, and an object of so many for each of its variables
pub record IsKnown (count : ℕ) (sigs : Signatures) (n : ℕ) (args : List ℕ) : Type 0 where
  pub below : n < length sigs.names
  pub within : All (λ o. o < count) args
  pub whole : length args ≡ length (slice_index_or sigs.kinds n [])

known_applied : (declared : Declared) (sigs : Signatures) (atom at : ℕ) (bytes : List ℕ) (rest : Items)
    → IfOk (applied declared sigs atom at bytes rest) (λ (a : Filled). IsKnown (length declared.constants.names) sigs a.number a.args)
unfolding applied
known_applied declared sigs atom at bytes rest =
    let m = length declared.constants.names in
    let Q = λ (a : Filled). IsKnown m sigs a.number a.args in
    let of = λ (n : ℕ) (args : List ℕ). let a : Filled = record { number = n; args = args } in let r : Result Filled Fault = Ok a in r in
    ok_then (or_fault (BadName at) (place_in sigs.names bytes)) (λ n. objects_in declared atom (slice_index_or sigs.kinds n []) rest >>= of n)
    (λ n. n < length sigs.names) Q (or_ok (BadName at) (place_in sigs.names bytes) (λ n. n < length sigs.names) (place_in_below sigs.names bytes))
    (λ n h. ok_then (objects_in declared atom (slice_index_or sigs.kinds n []) rest) (of n) (AreKnown m (length (slice_index_or sigs.kinds n []))) Q
    (known_objects declared atom (slice_index_or sigs.kinds n []) rest) (λ args g. record { below = h; within = g.within; whole = g.whole }))

pub known_atom : (declared : Declared) (atom at : ℕ) (bytes : List ℕ) (rest : Items)
    → IfOk (atom_in declared atom at bytes rest) (λ (f : Fact). IsKnown (length declared.constants.names) declared.predicates f.pred f.args)
unfolding atom_in
known_atom declared atom at bytes rest =
    let Q = λ (f : Fact). IsKnown (length declared.constants.names) declared.predicates f.pred f.args in
    let of = λ (a : Filled). let f : Fact = record { pred = a.number; args = a.args } in let r : Result Fact Fault = Ok f in r in
    if_ok (is_name bytes) (applied declared declared.predicates atom at bytes rest >>= of) (Err (Shape at)) Q
    (λ _. ok_then (applied declared declared.predicates atom at bytes rest) of (λ (a : Filled). IsKnown (length declared.constants.names) declared.predicates a.number a.args) Q
    (known_applied declared declared.predicates atom at bytes rest) (λ a h. h))
    (λ _. tt)

pub known_term : (declared : Declared) (atom : ℕ) (inside : Items)
    → IfOk (function_term declared atom inside) (λ (a : Filled). IsKnown (length declared.constants.names) declared.functions a.number a.args)
known_term declared atom (end close) = tt
known_term declared atom (word at bytes rest) =
    if_ok (is_name bytes) (applied declared declared.functions atom at bytes rest) (Err (Shape at)) (λ (a : Filled). IsKnown (length declared.constants.names) declared.functions a.number a.args)
    (λ _. known_applied declared declared.functions atom at bytes rest) (λ _. tt)
known_term declared atom (group at inside rest) = tt
