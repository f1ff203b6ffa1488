-- A text has one fault, and that is the one which is answered.
use Rattle.std.proofs.Common.{◌≡◌, ℕ, zero, suc, ◌-◌, ◌<◌, ◌≤◌, List, [], ◌∷◌, Some, slice_get, Result, Ok, Err, refl, sym, ap, subst, ◌∙◌, arith}
use Rattle.cpt_task.specs.declared.memory.Limit.{Limit}
use Rattle.cpt_task.specs.Shape.{TaskShape}
use Rattle.cpt_line.specs.Lines.{split}
use Rattle.cpt_task_text.specs.declared.error.TaskTextError.{TaskTextError}
use Rattle.cpt_task_text.specs.declared.error.TaskTextError.TheVariants as errors
use Rattle.cpt_task_text.specs.Faults.{BeginsAs, IsAtLimit, IsFirstFaulty}
use Rattle.cpt_task_text.specs.Reading.{Rest, task_of}
use Rattle.cpt_task_text.specs.Spelling.{lines_of, spelling}
use Rattle.cpt_task_text.proofs.Feeding.{split_joined}
use Rattle.cpt_task_text.proofs.FirstFault.{line_law, limit_law, memory_law}
use Rattle.cpt_task_text.proofs.Limiting.{limits_law}
use Rattle.cpt_task_text.proofs.Stopping.{Agree, agree_from, agree_long, agree_take}
use Rattle.cpt_task_text.proofs.Whole.{feedless, task_again, task_takes}

agree_less : (j k : ℕ) (xs ys : List (List ℕ)) → j ≤ k → Agree k xs ys → Agree j xs ys
agree_less zero k xs ys le a = tt
agree_less (suc j) zero xs ys le a = absurd (omega (arith, le))
agree_less (suc j) (suc k) [] ys le a = absurd a
agree_less (suc j) (suc k) (x ∷ xs) [] le a = absurd a
agree_less (suc j) (suc k) (x ∷ xs) (y ∷ ys) le a = (a.0, agree_less j k xs ys (omega (arith, le)) a.1)

agree_turn : (k : ℕ) (xs ys : List (List ℕ)) → Agree k xs ys → Agree k ys xs
agree_turn zero xs ys a = tt
agree_turn (suc k) [] ys a = absurd a
agree_turn (suc k) (x ∷ xs) [] a = absurd a
agree_turn (suc k) (x ∷ xs) (y ∷ ys) a = (sym a.0, agree_turn k xs ys a.1)

agree_at : (k i : ℕ) (xs ys : List (List ℕ)) (line : List ℕ) → i < k → Agree k xs ys → slice_get xs i ≡ Some line → slice_get ys i ≡ Some line
agree_at zero i xs ys line lt a h = absurd (omega (arith, lt))
agree_at (suc k) i [] ys line lt a h = absurd a
agree_at (suc k) i (x ∷ xs) [] line lt a h = absurd a
agree_at (suc k) zero (x ∷ xs) (y ∷ ys) line lt a h = ap (λ (l : List ℕ). Some l) (sym a.0) ∙ h
agree_at (suc k) (suc i) (x ∷ xs) (y ∷ ys) line lt a h = agree_at k i xs ys line (omega (arith, lt)) a.1 h

agrees : (text : List ℕ) (k : ℕ) (t : TaskShape) → BeginsAs text k t → Agree k (split text).0 (lines_of t)
agrees text k t h = agree_from k (split text).0 (lines_of t) h.there h.same

-- what begins with many lines begins with fewer
begins_less : (text : List ℕ) (j k : ℕ) (t : TaskShape) → j ≤ k → BeginsAs text k t → BeginsAs text j t
begins_less text j k t le h =
    let a = agree_less j k (split text).0 (lines_of t) le (agrees text k t h) in
    record { plain = h.plain; there = agree_long j (split text).0 (lines_of t) a; same = agree_take j (split text).0 (lines_of t) a }

-- a plain task's spelling passes no limit
passes_none : (text : List ℕ) (which : Limit) (n : ℕ) (t : TaskShape) → IsAtLimit text which n → BeginsAs text n t → ⊥
passes_none text which n t h begins =
    let lines : lines_of t ≡ (split (spelling t)).0 = ap (λ (r : Rest). r.0) (sym (split_joined (lines_of t) (feedless t begins.plain))) in
    let some : 1 ≤ n = h.counted in
    let before : n - 1 ≤ n = omega arith in
    let last : n - 1 < n = omega (arith, some) in
    let a : Agree n (split text).0 (split (spelling t)).0 = subst (λ (ls : List (List ℕ)). Agree n (split text).0 ls) lines (agrees text n t begins) in
    let b : Agree (n - 1) (split (spelling t)).0 (split text).0 = agree_turn (n - 1) (split text).0 (split (spelling t)).0 (agree_less (n - 1) n (split text).0 (split (spelling t)).0 before a) in
    let at : IsAtLimit (spelling t) which n = record {
      counted = h.counted;
      task = h.task;
      before = record { plain = h.before.plain; there = agree_long (n - 1) (split (spelling t)).0 (split text).0 b; same = agree_take (n - 1) (split (spelling t)).0 (split text).0 b ∙ h.before.same };
      line = h.line;
      there = agree_at n (n - 1) (split text).0 (split (spelling t)).0 h.line last a h.there;
      passed = h.passed;
    } in
    let both : Ok t ≡ Err (errors.Limit which) = sym (task_again t begins.plain) ∙ limits_law (spelling t) which n at in
    cc

line_or_limit : (text : List ℕ) (n : ℕ) (which : Limit) → task_of text ≡ Err (errors.Line n) → task_of text ≡ Err (errors.Limit which) → ⊥
line_or_limit text n which a b = let both = sym a ∙ b in let z : ⊥ = cc in z

line_or_task : (text : List ℕ) (n : ℕ) (t : TaskShape) → task_of text ≡ Err (errors.Line n) → task_of text ≡ Ok t → ⊥
line_or_task text n t a b = let both = sym a ∙ b in let z : ⊥ = cc in z

pub is_first_faulty : (text : List ℕ) (n : ℕ) → task_of text ≡ Err (errors.Line n) → IsFirstFaulty text n
is_first_faulty text n q =
    let h = line_law text n q in
    record {
      counted = h.counted;
      before = h.before;
      here = h.here;
      within = λ which at. line_or_limit text n which q (limits_law text which n at);
      no_task = λ t plain e. line_or_task text n t q (ap task_of e ∙ task_again t plain);
    }

answer_is : (text : List ℕ) (n : ℕ) (answer : Result TaskShape TaskTextError) → IsFirstFaulty text n → task_of text ≡ answer → answer ≡ Err (errors.Line n)
answer_is text n (Ok t) h e = let s = task_takes text t e in absurd (h.no_task t s.plain s.spelled)
answer_is text n (Err errors.Memory) h e = absurd (memory_law text e)
answer_is text n (Err (errors.Limit which)) h e =
    let l = limit_law text which e in
    let m = l.0 in
    let below : m < n → ⊥ = λ lt. passes_none text which m h.before.0 l.1 (begins_less text m (n - 1) h.before.0 (omega (arith, lt)) h.before.1) in
    let above : n < m → ⊥ = λ lt. h.here (l.1.task, begins_less text n (m - 1) l.1.task (omega (arith, lt)) l.1.before) in
    let same : m ≡ n = omega (arith, below, above) in
    absurd (h.within which (subst (IsAtLimit text which) same l.1))
answer_is text n (Err (errors.Line m)) h e =
    let f = line_law text m e in
    let below : m < n → ⊥ = λ lt. f.here (h.before.0, begins_less text m (n - 1) h.before.0 (omega (arith, lt)) h.before.1) in
    let above : n < m → ⊥ = λ lt. h.here (f.before.0, begins_less text n (m - 1) f.before.0 (omega (arith, lt)) f.before.1) in
    let same : m ≡ n = omega (arith, below, above) in
    ap (λ (i : ℕ). Err (errors.Line i)) same

pub answers_line : (text : List ℕ) (n : ℕ) → IsFirstFaulty text n → task_of text ≡ Err (errors.Line n)
answers_line text n h = answer_is text n (task_of text) h refl
