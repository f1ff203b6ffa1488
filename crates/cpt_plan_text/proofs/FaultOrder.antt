use Rattle.std.proofs.Common.{◌≡◌, ℕ, zero, suc, ◌+◌, ◌<◌, List, [], ◌∷◌, ◌++◌, Option, None, Some, Result, Ok, Err, option_to_list, refl, sym, ap, ◌∙◌, arith, add-zero, inl, inr, ◌⊎◌}
use Rattle.std.specs.List.{slice_get}
use Rattle.cpt_task.specs.declared.plan.Occ.{Occ}
use Rattle.cpt_task.specs.Shape.{TaskShape}
use Rattle.cpt_plan_text.specs.declared.roster.Found.{Found}
use Rattle.cpt_plan_text.specs.declared.reading.Item.{Item}
use Rattle.cpt_plan_text.specs.declared.reading.PlanText.{PlanText}
use Rattle.cpt_plan_text.specs.declared.reading.PlanTextError.{PlanTextError}
use Rattle.cpt_plan_text.specs.Faults.{FaultsComeFirst, LateFaultsComeNext, FaultlessIsRead}
use Rattle.cpt_plan_text.specs.Meaning.{◌>>=◌, item_at, items_in, lines_of, occ_at, occs_of, plan_of, put_first}

-- a result is an answer or an error
cases : {A : Type 0} (r : Result A PlanTextError) → ((x : A) × (r ≡ Ok x)) ⊎ ((e : PlanTextError) × (r ≡ Err e))
cases (Ok x) = inl (x, refl)
cases (Err e) = inr (e, refl)

-- of these lines, from number n on, the one at place k has this fault of the first pass
abbrev Faulty : (List ℕ → Found) → TaskShape → ℕ → List (List ℕ) → PlanTextError → ℕ → Type 0
Faulty finds t n lines e k = (line : List ℕ) × (slice_get lines k ≡ Some line) × (item_at finds t (n + k) line ≡ Err e)

-- and this one of the second pass
abbrev Late : (List ℕ → Found) → TaskShape → ℕ → List (List ℕ) → PlanTextError → ℕ → Type 0
Late finds t n lines e k = (line : List ℕ) × (item : Item) × (slice_get lines k ≡ Some line) × (item_at finds t (n + k) line ≡ Ok (Some item)) × (occ_at item ≡ Err e)

one_more : (n k : ℕ) → n + suc k ≡ n + 1 + k
one_more n k = omega arith

faulty_later : (finds : List ℕ → Found) (t : TaskShape) (n : ℕ) (x : List ℕ) (xs : List (List ℕ)) (e : PlanTextError) (k : ℕ) → Faulty finds t (n + 1) xs e k → Faulty finds t n (x ∷ xs) e (suc k)
faulty_later finds t n x xs e k h = (h.0, h.1, ap (λ m. item_at finds t m h.0) (one_more n k) ∙ h.2)

faulty_now : (finds : List ℕ → Found) (t : TaskShape) (n : ℕ) (x : List ℕ) (xs : List (List ℕ)) (e : PlanTextError) → item_at finds t n x ≡ Err e → Faulty finds t n (x ∷ xs) e 0
faulty_now finds t n x xs e h = (x, refl, ap (λ m. item_at finds t m x) (add-zero n) ∙ h)

late_later : (finds : List ℕ → Found) (t : TaskShape) (n : ℕ) (x : List ℕ) (xs : List (List ℕ)) (e : PlanTextError) (k : ℕ) → Late finds t (n + 1) xs e k → Late finds t n (x ∷ xs) e (suc k)
late_later finds t n x xs e k h = (h.0, h.1, h.2, ap (λ m. item_at finds t m h.0) (one_more n k) ∙ h.3, h.4)

late_now : (finds : List ℕ → Found) (t : TaskShape) (n : ℕ) (x : List ℕ) (xs : List (List ℕ)) (item : Item) (e : PlanTextError) → item_at finds t n x ≡ Ok (Some item) → occ_at item ≡ Err e → Late finds t n (x ∷ xs) e 0
late_now finds t n x xs item e h f = (x, item, refl, ap (λ m. item_at finds t m x) (add-zero n) ∙ h, f)

-- the first line, and those to come
first_err : (finds : List ℕ → Found) (t : TaskShape) (n : ℕ) (x : List ℕ) (xs : List (List ℕ)) (e : PlanTextError) → item_at finds t n x ≡ Err e → items_in finds t n (x ∷ xs) ≡ Err e
first_err finds t n x xs e h = rw h refl

rest_err : (finds : List ℕ → Found) (t : TaskShape) (n : ℕ) (x : List ℕ) (xs : List (List ℕ)) (first : Option Item) (e : PlanTextError) → item_at finds t n x ≡ Ok first → items_in finds t (n + 1) xs ≡ Err e → items_in finds t n (x ∷ xs) ≡ Err e
rest_err finds t n x xs first e h more = rw (h, more) refl

both_ok : (finds : List ℕ → Found) (t : TaskShape) (n : ℕ) (x : List ℕ) (xs : List (List ℕ)) (first : Option Item) (others : List Item) → item_at finds t n x ≡ Ok first → items_in finds t (n + 1) xs ≡ Ok others → items_in finds t n (x ∷ xs) ≡ Ok (option_to_list first ++ others)
both_ok finds t n x xs first others h more = rw (h, more) refl

-- the first fault of the first pass
first_fault : (finds : List ℕ → Found) (t : TaskShape) (n : ℕ) (lines : List (List ℕ)) (e : PlanTextError) (k : ℕ) → Faulty finds t n lines e k → ((d : PlanTextError) (j : ℕ) → j < k → Faulty finds t n lines d j → ⊥) → items_in finds t n lines ≡ Err e
first_fault finds t n [] e k here before = let f = here.1 in absurd (let z : ⊥ = cc in z)
first_fault finds t n (x ∷ xs) e zero here before =
    let at = here.1 in
    let same : x ≡ here.0 = cc in
    first_err finds t n x xs e (ap (item_at finds t n) same ∙ ap (λ m. item_at finds t m here.0) (sym (add-zero n)) ∙ here.2)
first_fault finds t n (x ∷ xs) e (suc k) here before =
    let more : items_in finds t (n + 1) xs ≡ Err e =
    first_fault finds t (n + 1) xs e k (here.0, here.1, ap (λ m. item_at finds t m here.0) (sym (one_more n k)) ∙ here.2) (λ d j lt f. before d (suc j) (omega arith) (faulty_later finds t n x xs d j f)) in
    elim (cases (item_at finds t n x)) [
      | inl ok ↦ rest_err finds t n x xs ok.0 e ok.1 more
      | inr err ↦ absurd (before err.0 0 (omega arith) (faulty_now finds t n x xs err.0 err.1))
    ]

-- no fault of the first pass
faultless : (finds : List ℕ → Found) (t : TaskShape) (n : ℕ) (lines : List (List ℕ)) → ((e : PlanTextError) (k : ℕ) → Faulty finds t n lines e k → ⊥) → (items : List Item) × (items_in finds t n lines ≡ Ok items)
faultless finds t n [] none = ([], refl)
faultless finds t n (x ∷ xs) none =
    let more = faultless finds t (n + 1) xs (λ e k f. none e (suc k) (faulty_later finds t n x xs e k f)) in
    elim (cases (item_at finds t n x)) [
      | inl ok ↦ (option_to_list ok.0 ++ more.0, both_ok finds t n x xs ok.0 more.0 ok.1 more.1)
      | inr err ↦ absurd (none err.0 0 (faulty_now finds t n x xs err.0 err.1))
    ]

-- the plan of these lines, from number n on
abbrev plan_from : (List ℕ → Found) → TaskShape → ℕ → List (List ℕ) → Result PlanText PlanTextError
plan_from finds t n lines = items_in finds t n lines >>= occs_of

two_parts : (finds : List ℕ → Found) (t : TaskShape) (n : ℕ) (x : List ℕ) (xs : List (List ℕ)) (first : Option Item) (others : List Item) → item_at finds t n x ≡ Ok first → items_in finds t (n + 1) xs ≡ Ok others → plan_from finds t n (x ∷ xs) ≡ occs_of (option_to_list first ++ others)
two_parts finds t n x xs first others h more = ap (λ (r : Result (List Item) PlanTextError). r >>= occs_of) (both_ok finds t n x xs first others h more)

occs_err : (item : Item) (items : List Item) (e : PlanTextError) → occ_at item ≡ Err e → occs_of (item ∷ items) ≡ Err e
occs_err item items e h = rw h refl

occs_rest_err : (item : Item) (items : List Item) (o : Occ) (e : PlanTextError) → occ_at item ≡ Ok o → occs_of items ≡ Err e → occs_of (item ∷ items) ≡ Err e
occs_rest_err item items o e h more = rw (h, more) refl

occs_ok : (item : Item) (items : List Item) (o : Occ) (plan : PlanText) → occ_at item ≡ Ok o → occs_of items ≡ Ok plan → occs_of (item ∷ items) ≡ Ok (put_first item o plan)
occs_ok item items o plan h more = rw (h, more) refl

-- a fault of the second pass behind an entry that has none
put_late : (first : Option Item) (others : List Item) (e : PlanTextError) → ((item : Item) (d : PlanTextError) → first ≡ Some item → occ_at item ≡ Err d → ⊥) → occs_of others ≡ Err e → occs_of (option_to_list first ++ others) ≡ Err e
put_late None others e fine more = more
put_late (Some item) others e fine more =
    elim (cases (occ_at item)) [ inl ok ↦ occs_rest_err item others ok.0 e ok.1 more | inr err ↦ absurd (fine item err.0 refl err.1) ]

put_fine : (first : Option Item) (others : List Item) (plan : PlanText) → ((item : Item) (d : PlanTextError) → first ≡ Some item → occ_at item ≡ Err d → ⊥) → occs_of others ≡ Ok plan → (whole : PlanText) × (occs_of (option_to_list first ++ others) ≡ Ok whole)
put_fine None others plan fine more = (plan, more)
put_fine (Some item) others plan fine more =
    elim (cases (occ_at item)) [ inl ok ↦ (put_first item ok.0 plan, occs_ok item others ok.0 plan ok.1 more) | inr err ↦ absurd (fine item err.0 refl err.1) ]

-- what a line says, where no line has a fault of the first pass
says : (finds : List ℕ → Found) (t : TaskShape) (n : ℕ) (x : List ℕ) (xs : List (List ℕ)) → ((e : PlanTextError) (k : ℕ) → Faulty finds t n (x ∷ xs) e k → ⊥) → (first : Option Item) × (item_at finds t n x ≡ Ok first)
says finds t n x xs none = elim (cases (item_at finds t n x)) [ inl ok ↦ ok | inr err ↦ absurd (none err.0 0 (faulty_now finds t n x xs err.0 err.1)) ]

-- the first fault of the second pass
late_fault : (finds : List ℕ → Found) (t : TaskShape) (n : ℕ) (lines : List (List ℕ)) (e : PlanTextError) (k : ℕ) → ((d : PlanTextError) (j : ℕ) → Faulty finds t n lines d j → ⊥) → Late finds t n lines e k → ((d : PlanTextError) (j : ℕ) → j < k → Late finds t n lines d j → ⊥) → plan_from finds t n lines ≡ Err e
late_fault finds t n [] e k none here before = let f = here.2 in absurd (let z : ⊥ = cc in z)
late_fault finds t n (x ∷ xs) e zero none here before =
    let rest = faultless finds t (n + 1) xs (λ d j f. none d (suc j) (faulty_later finds t n x xs d j f)) in
    let at = here.2 in
    let same : x ≡ here.0 = cc in
    let said : item_at finds t n x ≡ Ok (Some here.1) = ap (item_at finds t n) same ∙ ap (λ m. item_at finds t m here.0) (sym (add-zero n)) ∙ here.3 in
    two_parts finds t n x xs (Some here.1) rest.0 said rest.1 ∙ occs_err here.1 rest.0 e here.4
late_fault finds t n (x ∷ xs) e (suc k) none here before =
    let none_later : (d : PlanTextError) (j : ℕ) → Faulty finds t (n + 1) xs d j → ⊥ = λ d j f. none d (suc j) (faulty_later finds t n x xs d j f) in
    let rest = faultless finds t (n + 1) xs none_later in
    let more = late_fault finds t (n + 1) xs e k none_later (here.0, here.1, here.2, ap (λ m. item_at finds t m here.0) (sym (one_more n k)) ∙ here.3, here.4) (λ d j lt f. before d (suc j) (omega arith) (late_later finds t n x xs d j f)) in
    let first = says finds t n x xs none in
    let occs : occs_of rest.0 ≡ Err e = ap (λ (r : Result (List Item) PlanTextError). r >>= occs_of) (sym rest.1) ∙ more in
    two_parts finds t n x xs first.0 rest.0 first.1 rest.1
    ∙ put_late first.0 rest.0 e (λ item d is f. before d 0 (omega arith) (late_now finds t n x xs item d (first.1 ∙ ap Ok is) f)) occs

-- no fault
no_fault : (finds : List ℕ → Found) (t : TaskShape) (n : ℕ) (lines : List (List ℕ)) → ((e : PlanTextError) (k : ℕ) → Faulty finds t n lines e k → ⊥) → ((e : PlanTextError) (k : ℕ) → Late finds t n lines e k → ⊥) → (plan : PlanText) × (plan_from finds t n lines ≡ Ok plan)
no_fault finds t n [] none fine = (record { occs = []; lines = [] }, refl)
no_fault finds t n (x ∷ xs) none fine =
    let none_later : (d : PlanTextError) (j : ℕ) → Faulty finds t (n + 1) xs d j → ⊥ = λ d j f. none d (suc j) (faulty_later finds t n x xs d j f) in
    let rest = faultless finds t (n + 1) xs none_later in
    let more = no_fault finds t (n + 1) xs none_later (λ d j f. fine d (suc j) (late_later finds t n x xs d j f)) in
    let first = says finds t n x xs none in
    let occs : occs_of rest.0 ≡ Ok more.0 = ap (λ (r : Result (List Item) PlanTextError). r >>= occs_of) (sym rest.1) ∙ more.1 in
    let whole = put_fine first.0 rest.0 more.0 (λ item d is f. fine d 0 (late_now finds t n x xs item d (first.1 ∙ ap Ok is) f)) occs in
    (whole.0, two_parts finds t n x xs first.0 rest.0 first.1 rest.1 ∙ whole.1)

pub faults_first : (finds : List ℕ → Found) (t : TaskShape) (text : List ℕ) → FaultsComeFirst finds t text
unfolding plan_of
faults_first finds t text = λ e k first. ap (λ (r : Result (List Item) PlanTextError). r >>= occs_of) (first_fault finds t 1 (lines_of text) e k first.here first.none_before)

pub late_faults_next : (finds : List ℕ → Found) (t : TaskShape) (text : List ℕ) → LateFaultsComeNext finds t text
unfolding plan_of
late_faults_next finds t text = λ none e k first. late_fault finds t 1 (lines_of text) e k none first.here first.none_before

pub faultless_read : (finds : List ℕ → Found) (t : TaskShape) (text : List ℕ) → FaultlessIsRead finds t text
unfolding plan_of
faultless_read finds t text = λ none fine. no_fault finds t 1 (lines_of text) none fine
