use Rattle.std.proofs.Common.{◌≡◌, ◌≢◌, ℕ, zero, suc, ◌<◌, ◌≤◌, ◌⊎◌, inl, inr, List, [], ◌∷◌, length, get_or, Contains, Result, Ok, Err, refl, sym, ap, ◌∙◌, subst, arith}
use Rattle.std.specs.List.Sorted.{IsStrictlyIncreasing}
use Rattle.std.proofs.lemmas.List.Elements.{All-contains, All-cons}
use Rattle.cpt_task.specs.declared.memory.Limit.TheVariants.{File, Certificate, Nesting, Objects, Parameters, LongList, Instances, Atoms, Actions, Start}
use Rattle.cpt_task.specs.declared.task.Action.{Action}
use Rattle.cpt_task.specs.Shape.{TaskShape}
use Rattle.cpt_reach.specs.declared.pruning.PruneError.{PruneError}
use Rattle.cpt_reach.specs.declared.pruning.PruneError.TheVariants.{Limit, Memory}
use Rattle.cpt_reach.specs.declared.pruning.Pruned.{Pruned}
use Rattle.cpt_reach.specs.Reached.{IsKeptAtom, IsKeptAction}
use Rattle.cpt_reach.specs.Kept.{IsListOf, IsKeptPart}
use Rattle.cpt_reach.specs.Pruning.{HasMoreThan, HasAtMost, Prunes, OnePruning, LimitsAreExact}
use Rattle.cpt_reach.proofs.Numbering.{head_below, tail_increasing}

in_tail : (y : ℕ) (ys : List ℕ) (p : ℕ) → y < p → Contains (y ∷ ys) p → Contains ys p
in_tail y ys p less (zero, lt, e) = absurd (omega (arith, e))
in_tail y ys p less (suc k, lt, e) = (k, omega arith, e)

in_more : (y : ℕ) (ys : List ℕ) (p : ℕ) → Contains ys p → Contains (y ∷ ys) p
in_more y ys p (k, lt, e) = (suc k, omega arith, e)

in_head : (y : ℕ) (ys : List ℕ) → Contains (y ∷ ys) y
in_head y ys = (0, omega arith, refl)

head_least : (x : ℕ) (xs : List ℕ) → IsStrictlyIncreasing (x ∷ xs) → (p : ℕ) → Contains (x ∷ xs) p → x ≤ p
head_least x xs inc p has =
    All-contains (λ q. x ≤ q) (x ∷ xs) p (All-cons (λ q. x ≤ q) x xs (omega arith) (λ k d lt. let h : x < get_or xs k d = head_below x xs inc k d lt in omega (arith, h))) has

-- increasing lists of the same numbers are one
same_list : (xs ys : List ℕ) → IsStrictlyIncreasing xs → IsStrictlyIncreasing ys → ((p : ℕ) → Contains xs p → Contains ys p) → ((p : ℕ) → Contains ys p → Contains xs p) → xs ≡ ys
same_list [] [] up vp to back = refl
same_list [] (y ∷ ys) up vp to back = absurd (omega (arith, (back y (in_head y ys)).1))
same_list (x ∷ xs) [] up vp to back = absurd (omega (arith, (to x (in_head x xs)).1))
same_list (x ∷ xs) (y ∷ ys) up vp to back =
    let low : y ≤ x = head_least y ys vp x (to x (in_head x xs)) in
    let high : x ≤ y = head_least x xs up y (back y (in_head y ys)) in
    let heads : x ≡ y = omega (arith, low, high) in
    let tails : xs ≡ ys = same_list xs ys (tail_increasing x xs up) (tail_increasing y ys vp)
    (λ p has. let less : x < p = All-contains (λ q. x < q) xs p (head_below x xs up) has in in_tail y ys p (omega (arith, less, heads)) (to p (in_more x xs p has)))
    (λ p has. let less : y < p = All-contains (λ q. y < q) ys p (head_below y ys vp) has in in_tail x xs p (omega (arith, less, heads)) (back p (in_more y ys p has))) in
    cc

-- there is one list of the numbers of which P holds
pub one_list : (P : ℕ → Type 0) (xs ys : List ℕ) → IsListOf P xs → IsListOf P ys → xs ≡ ys
one_list P xs ys a b =
    same_list xs ys a.increasing b.increasing (λ p has. b.whole p (All-contains P xs p a.sound has)) (λ p has. a.whole p (All-contains P ys p b.sound has))

too_many : (n : ℕ) (P : ℕ → Type 0) → HasMoreThan n P → (xs : List ℕ) → IsListOf P xs → length xs ≤ n → ⊥
too_many n P (ys, list, more) xs other le = omega (arith, more, le, ap length (one_list P xs ys other list))

one_task : (old : TaskShape) (atoms actions : List ℕ) (new other : TaskShape) → IsKeptPart old atoms actions new → IsKeptPart old atoms actions other → new ≡ other
one_task old atoms actions new other a b =
    ap (λ xs. make xs new.actions new.init new.goal) (a.new_atoms ∙ sym b.new_atoms)
    ∙ ap (λ xs. make other.atoms xs new.init new.goal) (a.new_actions ∙ sym b.new_actions)
    ∙ ap (λ xs. make other.atoms other.actions xs new.goal) (a.new_init ∙ sym b.new_init)
    ∙ ap (λ xs. make other.atoms other.actions other.init xs) (a.new_goal ∙ sym b.new_goal)
  where
    make : List (List ℕ) → List Action → List ℕ → List ℕ → TaskShape
    make atoms actions init goal = record { atoms = atoms; actions = actions; init = init; goal = goal }

done : Pruned → Result Pruned PruneError
done p = Ok p

one_part : (t : TaskShape) (p q : Pruned) → IsKeptPart t p.atoms p.actions p.task → IsKeptPart t q.atoms q.actions q.task → done p ≡ done q
unfolding done
one_part t p q a b =
    let atoms : p.atoms ≡ q.atoms = one_list (IsKeptAtom t) p.atoms q.atoms a.kept_atoms b.kept_atoms in
    let actions : p.actions ≡ q.actions = one_list (IsKeptAction t) p.actions q.actions a.kept_actions b.kept_actions in
    let moved : IsKeptPart t q.atoms q.actions p.task = subst (λ xs. IsKeptPart t q.atoms xs p.task) actions (subst (λ xs. IsKeptPart t xs p.actions p.task) atoms a) in
    let task : p.task ≡ q.task = one_task t q.atoms q.actions p.task q.task moved b in
    let make : TaskShape → List ℕ → List ℕ → Result Pruned PruneError = λ s xs ys. Ok (record { task = s; atoms = xs; actions = ys }) in
    ap (λ s. make s p.atoms p.actions) task ∙ ap (λ xs. make q.task xs p.actions) atoms ∙ ap (λ ys. make q.task q.atoms ys) actions

-- the answers that a task can have, but for want of memory
Answer : TaskShape → Result Pruned PruneError → Type 0
Answer t (Ok p) = Prunes t (Ok p)
Answer t (Err Memory) = ⊥
Answer t (Err (Limit l)) = (Limit l ≡ Limit Atoms × HasMoreThan 2048 (IsKeptAtom t)) ⊎ (Limit l ≡ Limit Actions × HasAtMost 2048 (IsKeptAtom t) × HasMoreThan 4096 (IsKeptAction t))

which : (t : TaskShape) (r : Result Pruned PruneError) → r ≢ Err Memory → Prunes t r → Answer t r
unfolding Answer
which t (Ok p) known h = h
which t (Err Memory) known h = known refl
which t (Err (Limit Atoms)) known h = inl (refl, h)
which t (Err (Limit Actions)) known h = inr (refl, h.0, h.1)
which t (Err (Limit File)) known h = absurd h
which t (Err (Limit Certificate)) known h = absurd h
which t (Err (Limit Nesting)) known h = absurd h
which t (Err (Limit Objects)) known h = absurd h
which t (Err (Limit Parameters)) known h = absurd h
which t (Err (Limit LongList)) known h = absurd h
which t (Err (Limit Instances)) known h = absurd h
which t (Err (Limit Start)) known h = absurd h

limits_differ : (t : TaskShape) → HasMoreThan 2048 (IsKeptAtom t) → HasAtMost 2048 (IsKeptAtom t) → ⊥
limits_differ t more (xs, list, le) = too_many 2048 (IsKeptAtom t) more xs list le

against_part : (t : TaskShape) (p : Pruned) → Prunes t (Ok p) → (e : PruneError) → (e ≡ Limit Atoms × HasMoreThan 2048 (IsKeptAtom t)) ⊎ (e ≡ Limit Actions × HasAtMost 2048 (IsKeptAtom t) × HasMoreThan 4096 (IsKeptAction t)) → ⊥
against_part t p (part, few_atoms, few_actions) e (inl h) = too_many 2048 (IsKeptAtom t) h.1 p.atoms part.kept_atoms few_atoms
against_part t p (part, few_atoms, few_actions) e (inr h) = too_many 4096 (IsKeptAction t) h.2 p.actions part.kept_actions few_actions

both_limits : (t : TaskShape) (d e : PruneError) → (d ≡ Limit Atoms × HasMoreThan 2048 (IsKeptAtom t)) ⊎ (d ≡ Limit Actions × HasAtMost 2048 (IsKeptAtom t) × HasMoreThan 4096 (IsKeptAction t))
    → (e ≡ Limit Atoms × HasMoreThan 2048 (IsKeptAtom t)) ⊎ (e ≡ Limit Actions × HasAtMost 2048 (IsKeptAtom t) × HasMoreThan 4096 (IsKeptAction t)) → d ≡ e
both_limits t d e (inl h) (inl i) = h.0 ∙ sym i.0
both_limits t d e (inr h) (inr i) = h.0 ∙ sym i.0
both_limits t d e (inl h) (inr i) = absurd (limits_differ t h.1 i.1)
both_limits t d e (inr h) (inl i) = absurd (limits_differ t i.1 h.1)

same_answer : (t : TaskShape) (r s : Result Pruned PruneError) → Answer t r → Answer t s → r ≡ s
unfolding Answer done
same_answer t (Ok p) (Ok q) a b = one_part t p q a.0 b.0
same_answer t (Ok p) (Err (Limit l)) a b = absurd (against_part t p a (Limit l) b)
same_answer t (Err (Limit l)) (Ok p) a b = absurd (against_part t p b (Limit l) a)
same_answer t (Err (Limit l)) (Err (Limit k)) a b = ap (λ e. Err e) (both_limits t (Limit l) (Limit k) a b)
same_answer t (Ok p) (Err Memory) a b = absurd b
same_answer t (Err (Limit l)) (Err Memory) a b = absurd b
same_answer t (Err Memory) s a b = absurd a

-- two answers of which neither is want of memory are one
pub one_pruning : OnePruning
one_pruning t r s r_known s_known a b = same_answer t r s (which t r r_known a) (which t s s_known b)

-- each limit is answered exactly where it is passed
pub limits_are_exact : LimitsAreExact
limits_are_exact t r known answer = (
  (λ e. subst (Prunes t) e answer, λ more. one_pruning t r (Err (Limit Atoms)) known (λ e. cc) answer more),
  (λ e. subst (Prunes t) e answer, λ more. one_pruning t r (Err (Limit Actions)) known (λ e. cc) answer more),
)
