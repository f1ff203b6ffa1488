use Rattle.std.proofs.Common.{Err, true, false, ◌≡◌, ◌≢◌, ℕ, zero, suc, ◌+◌, ◌-◌, ◌<◌, ◌≤◌, List, [], ◌∷◌, ◌++◌, length, Result, Ok, refl, sym, ap, ◌∙◌, subst, arith}
use Rattle.cpt_task.specs.declared.task.Action.{Action}
use Rattle.cpt_task_text.specs.declared.error.TaskTextError.{TaskTextError}
use Rattle.cpt_task_text.specs.declared.error.TaskTextError.TheVariants as errors
use Rattle.cpt_task_text.specs.Plain.{names_of}
use Rattle.cpt_task_text.specs.Reading.{◌>>=◌, Rest, Fails, id_at, ids_in, is_among, new_at, atom_at, atoms_at, head_at, action_at, actions_at}

-- an error of the first step is that of both
bind_fails : {A B : Type 0} (e : TaskTextError) (r : Result A TaskTextError) (f : A → Result B TaskTextError) → Fails e r → Fails e (r >>= f)
bind_fails errors.Memory r f h = tt
bind_fails (errors.Line n) r f h = ap (λ x. x >>= f) h
bind_fails (errors.Limit which) r f h = ap (λ x. x >>= f) h

-- ---- the numbers of a list

-- so many more numbers are read, and they are those of the whole list
pub record IdsLeft (n count least : ℕ) (ids bytes : List ℕ) (whole : Result (List ℕ) TaskTextError) : Type 0 where
  pub most : ℕ
  pub enough : length bytes ≤ most
  pub same : ids_in most n count least ids bytes ≡ whole

id_more : (most n count least : ℕ) (ids bytes : List ℕ) (id : ℕ) (rest : List ℕ) (whole : Result (List ℕ) TaskTextError)
    → bytes ≢ [] → length bytes ≤ most → id_at n count least bytes ≡ Ok (id, rest) → length rest < length bytes → ids_in most n count least ids bytes ≡ whole → IdsLeft n count (id + 1) (ids ++ id ∷ []) rest whole
unfolding ids_in
id_more most n count least ids [] id rest whole some enough here shorter same = absurd (some refl)
id_more zero n count least ids (b ∷ bs) id rest whole some enough here shorter same = absurd (omega (arith, enough))
id_more (suc most) n count least ids (b ∷ bs) id rest whole some enough here shorter same =
    record { most = most; enough = omega (arith, enough, shorter); same = sym (ap (λ (r : Result (ℕ × List ℕ) TaskTextError). r >>= λ x. ids_in most n count (x.0 + 1) (ids ++ x.0 ∷ []) x.1) here) ∙ same }

pub id_goes_on : (n count least : ℕ) (ids bytes : List ℕ) (id : ℕ) (rest : List ℕ) (whole : Result (List ℕ) TaskTextError)
    → bytes ≢ [] → id_at n count least bytes ≡ Ok (id, rest) → length rest < length bytes → IdsLeft n count least ids bytes whole → IdsLeft n count (id + 1) (ids ++ id ∷ []) rest whole
id_goes_on n count least ids bytes id rest whole some here shorter left = id_more left.most n count least ids bytes id rest whole some left.enough here shorter left.same

id_stops : (e : TaskTextError) (most n count least : ℕ) (ids bytes : List ℕ) → bytes ≢ [] → length bytes ≤ most → Fails e (id_at n count least bytes) → Fails e (ids_in most n count least ids bytes)
unfolding ids_in
id_stops e most n count least ids [] some enough h = absurd (some refl)
id_stops e zero n count least ids (b ∷ bs) some enough h = absurd (omega (arith, enough))
id_stops e (suc most) n count least ids (b ∷ bs) some enough h = bind_fails e (id_at n count least (b ∷ bs)) (λ x. ids_in most n count (x.0 + 1) (ids ++ x.0 ∷ []) x.1) h

pub id_fails : (e : TaskTextError) (n count least : ℕ) (ids bytes : List ℕ) (whole : Result (List ℕ) TaskTextError)
    → bytes ≢ [] → Fails e (id_at n count least bytes) → IdsLeft n count least ids bytes whole → Fails e whole
id_fails e n count least ids bytes whole some h left = subst (Fails e) left.same (id_stops e left.most n count least ids bytes some left.enough h)

id_end : (most n count least : ℕ) (ids bytes : List ℕ) → bytes ≡ [] → ids_in most n count least ids bytes ≡ Ok ids
unfolding ids_in
id_end most n count least ids bytes e = rw e refl

pub id_done : (n count least : ℕ) (ids bytes : List ℕ) (whole : Result (List ℕ) TaskTextError) → bytes ≡ [] → IdsLeft n count least ids bytes whole → whole ≡ Ok ids
id_done n count least ids bytes whole e left = sym left.same ∙ id_end left.most n count least ids bytes e

-- ---- atoms

-- an atom is new, and then so many more are read
after_name : ℕ → ℕ → List (List ℕ) → List ℕ × Rest → Result (List (List ℕ) × Rest) TaskTextError
after_name count n names name = new_at n names name.0 >>= λ new. atoms_at count (n + 1) (names ++ name.0 ∷ []) name.1

pub atom_goes_on : (count i n : ℕ) (names : List (List ℕ)) (rest : Rest) (name : List ℕ) (after : Rest) (whole : Result (List (List ℕ) × Rest) TaskTextError)
    → i < count → atom_at n rest ≡ Ok (name, after) → is_among names name ≡ false → atoms_at (count - i) n names rest ≡ whole → atoms_at (count - (i + 1)) (n + 1) (names ++ name ∷ []) after ≡ whole
unfolding atoms_at
atom_goes_on count i n names rest name after whole lt here new same =
    let k : count - i ≡ suc (count - (i + 1)) = omega arith in
    let one : atoms_at (count - i) n names rest ≡ atoms_at (count - (i + 1)) (n + 1) (names ++ name ∷ []) after = rw (k, here, new) refl in
    sym one ∙ same

pub atom_fails : (e : TaskTextError) (count i n : ℕ) (names : List (List ℕ)) (rest : Rest) (whole : Result (List (List ℕ) × Rest) TaskTextError)
    → i < count → Fails e (atom_at n rest) → atoms_at (count - i) n names rest ≡ whole → Fails e whole
unfolding atoms_at after_name
atom_fails e count i n names rest whole lt h same =
    let k : count - i ≡ suc (count - (i + 1)) = omega arith in
    let one : Fails e (atoms_at (count - i) n names rest) = rw k (bind_fails e (atom_at n rest) (after_name (count - (i + 1)) n names) h) in
    subst (Fails e) same one

pub atom_repeats : (count i n : ℕ) (names : List (List ℕ)) (rest : Rest) (name : List ℕ) (after : Rest) (whole : Result (List (List ℕ) × Rest) TaskTextError)
    → i < count → atom_at n rest ≡ Ok (name, after) → is_among names name ≡ true → atoms_at (count - i) n names rest ≡ whole → whole ≡ Err (errors.Line n)
unfolding atoms_at
atom_repeats count i n names rest name after whole lt here known same =
    let k : count - i ≡ suc (count - (i + 1)) = omega arith in
    let one : atoms_at (count - i) n names rest ≡ Err (errors.Line n) = rw (k, here, known) refl in
    sym same ∙ one

pub atom_done : (count i n : ℕ) (names : List (List ℕ)) (rest : Rest) (whole : Result (List (List ℕ) × Rest) TaskTextError)
    → count ≤ i → atoms_at (count - i) n names rest ≡ whole → whole ≡ Ok (names, rest)
unfolding atoms_at
atom_done count i n names rest whole le same =
    let k : count - i ≡ 0 = omega arith in
    sym same ∙ rw k refl

-- ---- actions

-- the lists of an action, and then so many more actions are read
after_head : ℕ → ℕ → ℕ → List Action → (List ℕ × ℕ) × Rest → Result (List Action × Rest) TaskTextError
after_head more n count actions head = new_at n (names_of actions) head.0.0 >>= λ new. action_at n count head.0 head.1 >>= λ action. actions_at more (n + 4) count (actions ++ action.0 ∷ []) action.1

after_action : ℕ → ℕ → ℕ → List Action → Action × Rest → Result (List Action × Rest) TaskTextError
after_action more n count actions action = actions_at more (n + 4) count (actions ++ action.0 ∷ []) action.1

pub action_goes_on : (more i n count : ℕ) (actions : List Action) (rest : Rest) (head : List ℕ × ℕ) (lists : Rest) (action : Action) (after : Rest) (whole : Result (List Action × Rest) TaskTextError)
    → i < more → head_at n rest ≡ Ok (head, lists) → is_among (names_of actions) head.0 ≡ false → action_at n count head lists ≡ Ok (action, after) → actions_at (more - i) n count actions rest ≡ whole → actions_at (more - (i + 1)) (n + 4) count (actions ++ action ∷ []) after ≡ whole
unfolding actions_at
action_goes_on more i n count actions rest head lists action after whole lt h0 new h1 same =
    let k : more - i ≡ suc (more - (i + 1)) = omega arith in
    let one : actions_at (more - i) n count actions rest ≡ actions_at (more - (i + 1)) (n + 4) count (actions ++ action ∷ []) after = rw (k, h0, new, h1) refl in
    sym one ∙ same

pub head_fails : (e : TaskTextError) (more i n count : ℕ) (actions : List Action) (rest : Rest) (whole : Result (List Action × Rest) TaskTextError)
    → i < more → Fails e (head_at n rest) → actions_at (more - i) n count actions rest ≡ whole → Fails e whole
unfolding actions_at after_head
head_fails e more i n count actions rest whole lt h same =
    let k : more - i ≡ suc (more - (i + 1)) = omega arith in
    let one : Fails e (actions_at (more - i) n count actions rest) = rw k (bind_fails e (head_at n rest) (after_head (more - (i + 1)) n count actions) h) in
    subst (Fails e) same one

pub action_repeats : (more i n count : ℕ) (actions : List Action) (rest : Rest) (head : List ℕ × ℕ) (lists : Rest) (whole : Result (List Action × Rest) TaskTextError)
    → i < more → head_at n rest ≡ Ok (head, lists) → is_among (names_of actions) head.0 ≡ true → actions_at (more - i) n count actions rest ≡ whole → whole ≡ Err (errors.Line n)
unfolding actions_at
action_repeats more i n count actions rest head lists whole lt h0 known same =
    let k : more - i ≡ suc (more - (i + 1)) = omega arith in
    let one : actions_at (more - i) n count actions rest ≡ Err (errors.Line n) = rw (k, h0, known) refl in
    sym same ∙ one

pub action_fails : (e : TaskTextError) (more i n count : ℕ) (actions : List Action) (rest : Rest) (head : List ℕ × ℕ) (lists : Rest) (whole : Result (List Action × Rest) TaskTextError)
    → i < more → head_at n rest ≡ Ok (head, lists) → is_among (names_of actions) head.0 ≡ false → Fails e (action_at n count head lists) → actions_at (more - i) n count actions rest ≡ whole → Fails e whole
unfolding actions_at after_action
action_fails e more i n count actions rest head lists whole lt h0 new h same =
    let k : more - i ≡ suc (more - (i + 1)) = omega arith in
    let one : Fails e (actions_at (more - i) n count actions rest) = rw (k, h0, new) (bind_fails e (action_at n count head lists) (after_action (more - (i + 1)) n count actions) h) in
    subst (Fails e) same one

pub action_done : (more i n count : ℕ) (actions : List Action) (rest : Rest) (whole : Result (List Action × Rest) TaskTextError)
    → more ≤ i → actions_at (more - i) n count actions rest ≡ whole → whole ≡ Ok (actions, rest)
unfolding actions_at
action_done more i n count actions rest whole le same =
    let k : more - i ≡ 0 = omega arith in
    sym same ∙ rw k refl
