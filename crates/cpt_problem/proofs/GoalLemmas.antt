use Rattle.std.proofs.Common.{ℕ, ◌+◌, ◌≤◌, List, [], ◌∷◌, ◌++◌, length, arith, length-append}
use Rattle.std.specs.Prelude.{Result, Ok, IfOk, All}
use Rattle.std.proofs.lemmas.List.Elements.{All-append, All-cons, All-nil}
use Rattle.std.proofs.lemmas.Result.{IfOk-weaker}
use Rattle.cpt_pddl.specs.declared.fault.Fault.{Fault}
use Rattle.cpt_pddl.specs.declared.words.Head.{Head}
use Rattle.cpt_pddl.specs.declared.words.Head.TheVariants.{And, Not, Equal, At, Over, Untaken, Numeric, Other}
use Rattle.cpt_pddl.specs.Faults.{◌>>=◌}
use Rattle.cpt_pddl.specs.Items.{Items, end, word, group, size}
use Rattle.cpt_pddl.specs.Reading.{group_at, nothing}
use Rattle.cpt_pddl.specs.Words.{head_of}
use Rattle.cpt_declared.specs.declared.declared.Declared.{Declared}
use Rattle.cpt_facts.specs.declared.problem.Fact.{Fact}
use Rattle.cpt_problem.specs.Goals.{Aims, absent_atom, goal_by, goal_in, goal_part, goals_in, negated, negated_by, negated_group, no_aims, present_atom}
use Rattle.cpt_problem.specs.Objects.{atom_in}
use Rattle.cpt_problem.proofs.Steps.{ok_next, ok_then}
use Rattle.cpt_problem.proofs.ObjectLemmas.{IsKnown, known_atom}

-- what has been read of a goal is in order, and of each kind at most so much
pub record IsAimed (declared : Declared) (many : ℕ) (a : Aims) : Type 0 where
  pub present : All (λ (f : Fact). IsKnown (length declared.constants.names) declared.predicates f.pred f.args) a.present
  pub absent : All (λ (f : Fact). IsKnown (length declared.constants.names) declared.predicates f.pred f.args) a.absent
  pub few_present : length a.present ≤ many
  pub few_absent : length a.absent ≤ many

aimed_present : (declared : Declared) (many : ℕ) (a : Aims) (atom at : ℕ) (bytes : List ℕ) (rest : Items) → IsAimed declared many a
    → IfOk (present_atom declared a atom at bytes rest) (IsAimed declared (many + 1))
unfolding present_atom
aimed_present declared many a atom at bytes rest h =
    let P = λ (f : Fact). IsKnown (length declared.constants.names) declared.predicates f.pred f.args in
    let of = λ (f : Fact). let c : Aims = record a { present = a.present ++ f ∷ [] } in let r : Result Aims Fault = Ok c in r in
    ok_then (atom_in declared atom at bytes rest) of P (IsAimed declared (many + 1)) (known_atom declared atom at bytes rest)
    (λ f k. record {
      present = All-append P a.present (f ∷ []) h.present (All-cons P f [] k (All-nil P));
      absent = h.absent;
      few_present = (let e : length a.present ≤ many = h.few_present in omega (arith, length-append a.present (f ∷ [])));
      few_absent = (let e : length a.absent ≤ many = h.few_absent in omega arith);
    })

aimed_absent : (declared : Declared) (many : ℕ) (a : Aims) (atom at : ℕ) (bytes : List ℕ) (rest : Items) → IsAimed declared many a
    → IfOk (absent_atom declared a atom at bytes rest) (IsAimed declared (many + 1))
unfolding absent_atom
aimed_absent declared many a atom at bytes rest h =
    let P = λ (f : Fact). IsKnown (length declared.constants.names) declared.predicates f.pred f.args in
    let of = λ (f : Fact). let c : Aims = record a { absent = a.absent ++ f ∷ [] } in let r : Result Aims Fault = Ok c in r in
    ok_then (atom_in declared atom at bytes rest) of P (IsAimed declared (many + 1)) (known_atom declared atom at bytes rest)
    (λ f k. record {
      present = h.present;
      absent = All-append P a.absent (f ∷ []) h.absent (All-cons P f [] k (All-nil P));
      few_present = (let e : length a.present ≤ many = h.few_present in omega arith);
      few_absent = (let e : length a.absent ≤ many = h.few_absent in omega (arith, length-append a.absent (f ∷ [])));
    })

negated_known : (declared : Declared) (many : ℕ) (a : Aims) (not_at atom at : ℕ) (bytes : List ℕ) (rest : Items) (head : Head) → IsAimed declared many a
    → IfOk (negated_by declared a not_at atom at bytes rest head) (IsAimed declared (many + 1))
negated_known declared many a not_at atom at bytes rest And h = tt
negated_known declared many a not_at atom at bytes rest Not h = tt
negated_known declared many a not_at atom at bytes rest Equal h = tt
negated_known declared many a not_at atom at bytes rest At h = aimed_absent declared many a atom at bytes rest h
negated_known declared many a not_at atom at bytes rest Over h = aimed_absent declared many a atom at bytes rest h
negated_known declared many a not_at atom at bytes rest (Untaken which) h = tt
negated_known declared many a not_at atom at bytes rest Numeric h = aimed_absent declared many a atom at bytes rest h
negated_known declared many a not_at atom at bytes rest Other h = aimed_absent declared many a atom at bytes rest h

negated_inside : (declared : Declared) (many : ℕ) (a : Aims) (not_at atom : ℕ) (items : Items) → IsAimed declared many a
    → IfOk (negated_group declared a not_at atom items) (IsAimed declared (many + 1))
negated_inside declared many a not_at atom (end close) h = tt
negated_inside declared many a not_at atom (word at bytes rest) h = negated_known declared many a not_at atom at bytes rest (head_of bytes) h
negated_inside declared many a not_at atom (group at inside rest) h = tt

aimed_negated : (declared : Declared) (many : ℕ) (a : Aims) (not_at : ℕ) (items : Items) → IsAimed declared many a
    → IfOk (negated declared a not_at items) (IsAimed declared (many + 1))
unfolding negated
aimed_negated declared many a not_at items h =
    let Q = IsAimed declared (many + 1) in
    ok_next {A = ℕ × Items × Items} {B = Aims} (group_at items) (λ found. negated_group declared a not_at found.0 found.1 >>= (λ more. nothing found.2 >>= (λ _. Ok more))) Q
    (λ found. ok_then {B = Aims} (negated_group declared a not_at found.0 found.1) (λ more. nothing found.2 >>= (λ _. Ok more)) Q Q
    (negated_inside declared many a not_at found.0 found.1 h)
    (λ more k. ok_next {B = Aims} (nothing found.2) (λ _. Ok more) Q (λ _. k)))

-- more is allowed
pub aimed_wider : (declared : Declared) (many more : ℕ) (a : Aims) → many ≤ more → IsAimed declared many a → IsAimed declared more a
aimed_wider declared many more a le h =
    record {
      present = h.present;
      absent = h.absent;
      few_present = (let e : length a.present ≤ many = h.few_present in omega arith);
      few_absent = (let e : length a.absent ≤ many = h.few_absent in omega arith);
    }

wider_ok : (declared : Declared) (many more : ℕ) → many ≤ more → (r : Result Aims Fault) → IfOk r (IsAimed declared many) → IfOk r (IsAimed declared more)
wider_ok declared many more le r h = IfOk-weaker r (IsAimed declared many) (IsAimed declared more) (λ a k. aimed_wider declared many more a le k) h

aimed_by : (declared : Declared) (many : ℕ) (a : Aims) (atom at : ℕ) (bytes : List ℕ) (rest : Items) (all : Result Aims Fault) (more : ℕ) (head : Head) → many + 1 ≤ more
    → IsAimed declared many a → IfOk all (IsAimed declared more) → IfOk (goal_by declared a atom at bytes rest all head) (IsAimed declared more)
aimed_by declared many a atom at bytes rest all more And le h k = k
aimed_by declared many a atom at bytes rest all more Not le h k =
    wider_ok declared (many + 1) more le (negated declared a atom rest) (aimed_negated declared many a atom rest h)
aimed_by declared many a atom at bytes rest all more Equal le h k = tt
aimed_by declared many a atom at bytes rest all more At le h k =
    wider_ok declared (many + 1) more le (present_atom declared a atom at bytes rest) (aimed_present declared many a atom at bytes rest h)
aimed_by declared many a atom at bytes rest all more Over le h k =
    wider_ok declared (many + 1) more le (present_atom declared a atom at bytes rest) (aimed_present declared many a atom at bytes rest h)
aimed_by declared many a atom at bytes rest all more (Untaken which) le h k = tt
aimed_by declared many a atom at bytes rest all more Numeric le h k = tt
aimed_by declared many a atom at bytes rest all more Other le h k =
    wider_ok declared (many + 1) more le (present_atom declared a atom at bytes rest) (aimed_present declared many a atom at bytes rest h)

-- goals that are read, and the goal in a group
aimed_both : (declared : Declared) (items : Items)
    → ((many more : ℕ) (a : Aims) → many + size items ≤ more → IsAimed declared many a → IfOk (goals_in declared a items) (IsAimed declared more))
    × ((atom many more : ℕ) (a : Aims) → many + size items ≤ more → IsAimed declared many a → IfOk (goal_in declared a atom items) (IsAimed declared more))
aimed_both declared (end close) =
    (λ many more a le h. aimed_wider declared many more a (omega arith) h, λ atom many more a le h. aimed_wider declared many more a (omega arith) h)
aimed_both declared (word at bytes rest) = (
  λ many more a le h. tt,
  λ atom many more a le h. aimed_by declared many a atom at bytes rest (goals_in declared a rest) more (head_of bytes) (omega arith) h
      ((aimed_both declared rest).0 many more a (omega arith) h),
)
aimed_both declared (group at inside rest) = (
  λ many more a le h. ok_then (goal_in declared a at inside) (λ c. goals_in declared c rest) (IsAimed declared (many + size inside)) (IsAimed declared more)
      ((aimed_both declared inside).1 at many (many + size inside) a (omega arith) h)
      (λ c k. (aimed_both declared rest).0 (many + size inside) more c (omega arith) k),
  λ atom many more a le h. tt,
)

aimed_nothing : (declared : Declared) → IsAimed declared 0 no_aims
aimed_nothing declared =
    record {
      present = All-nil (λ (f : Fact). IsKnown (length declared.constants.names) declared.predicates f.pred f.args);
      absent = All-nil (λ (f : Fact). IsKnown (length declared.constants.names) declared.predicates f.pred f.args);
      few_present = omega arith;
      few_absent = omega arith;
    }

pub aimed_part : (declared : Declared) (items : Items) → IfOk (goal_part declared items) (IsAimed declared (size items))
unfolding goal_part
aimed_part declared (end close) = tt
aimed_part declared (word at bytes rest) = tt
aimed_part declared (group at inside rest) =
    let Q = IsAimed declared (size (group at inside rest)) in
    ok_then {B = Aims} (goal_in declared no_aims at inside) (λ aims. nothing rest >>= (λ _. Ok aims)) Q Q
    ((aimed_both declared inside).1 at 0 (size (group at inside rest)) no_aims (omega arith) (aimed_nothing declared))
    (λ aims k. ok_next {B = Aims} (nothing rest) (λ _. Ok aims) Q (λ _. k))
