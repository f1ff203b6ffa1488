-- What a fault says: the lines before it begin a plain task, and with its line they do not.
use Rattle.std.proofs.Common.{◌≡◌, ℕ, suc, ◌+◌, ◌-◌, ◌*◌, ◌<◌, ◌≤◌, Bool, true, false, cond, eqb, ltb, min, ◌⊎◌, inl, inr, List, [], ◌∷◌, ◌++◌, length, map, take, All, Some, slice_get, Result, Ok, Err, refl, sym, ap, subst, ◌∙◌, append-nil, arith}
use Rattle.std.specs.Prelude.{codes}
use Rattle.std.specs.List.{flat_map}
use Rattle.std.specs.List.Sorted.{IsStrictlyIncreasing}
use Rattle.std.proofs.lemmas.Bool.{eqb-true, ltb-true}
use Rattle.std.proofs.lemmas.List.{nil_from_length, length-map}
use Rattle.std.proofs.lemmas.List.Elements.{All-nil}
use Rattle.cpt_task.specs.declared.memory.Limit.{Limit}
use Rattle.cpt_task.specs.declared.memory.Limit.TheVariants.{Atoms, Actions}
use Rattle.cpt_task.specs.declared.task.Action.{Action}
use Rattle.cpt_task.specs.Shape.{TaskShape}
use Rattle.cpt_line.specs.Digits.{number_in}
use Rattle.cpt_line.specs.Lines.{split}
use Rattle.cpt_task_text.specs.declared.error.TaskTextError.{TaskTextError}
use Rattle.cpt_task_text.specs.declared.error.TaskTextError.TheVariants as errors
use Rattle.cpt_task_text.specs.Faults.{BeginsAs, Begins, IsCountLine, IsAtLimit, Passes}
use Rattle.cpt_task_text.specs.Plain.{IsPlain}
use Rattle.cpt_task_text.specs.Reading.{◌>>=◌, Rest, line_at, ends_at, past, checked, number_at, within, counts_in, atoms_at, actions_at, ids_at, init_line, task_of}
use Rattle.cpt_task_text.specs.Spelling.{count_line, atom_line, list_line, action_lines, lines_of}
use Rattle.cpt_task_text.proofs.Acting.{AllFit, actions_take, actions_again, plain_from_fit}
use Rattle.cpt_task_text.proofs.Binding.{past_takes, checked_ok, within_ok, found_ok, line_takes}
use Rattle.cpt_task_text.proofs.Completing.{none_rise, more_actions}
use Rattle.cpt_task_text.proofs.Faulting.{only_past, only_checked, only_number, list_fails, AtomLines, atoms_stop, here_too, ActionLines, actions_stop}
use Rattle.cpt_task_text.proofs.Feeding.{split_joined}
use Rattle.cpt_task_text.proofs.Heading.{TakesCounts, counts_take, atoms_take, atoms_again}
use Rattle.cpt_task_text.proofs.Listing.{list_takes, list_again}
use Rattle.cpt_task_text.proofs.Naming.{AreNew}
use Rattle.cpt_task_text.proofs.Numerals.{numeral_takes}
use Rattle.cpt_task_text.proofs.Stopping.{Agree, agree_from, agree_long, agree_take, bind_err, AtFirst, end_fails, LimitAt, Stops, stops_now, passed, wider}
use Rattle.cpt_task_text.proofs.Whole.{IsKnown, plain_from_known, feedless, task_again}

-- ---- the first line

within_fails : (most : ℕ) (which : Limit) (c : ℕ) (b : Bool) (e : TaskTextError) → ltb most c ≡ b → cond b (Err (errors.Limit which)) (Ok true) ≡ Err e → (e ≡ errors.Limit which) × (most < c)
within_fails most which c true e t h = (cc, ltb-true most c t)
within_fails most which c false e t h = absurd cc

-- a limit that the counts pass
abbrev CountsPass : List ℕ → TaskTextError → Type 0
CountsPass line e = (atoms : ℕ) × (actions : ℕ) × IsCountLine line atoms actions × (((e ≡ errors.Limit Atoms) × (2048 < atoms)) ⊎ ((e ≡ errors.Limit Actions) × (atoms ≤ 2048) × (4096 < actions)))

abbrev counts_made : ℕ × List ℕ → ℕ × List ℕ → Result (ℕ × ℕ) TaskTextError
counts_made atoms actions = Ok (atoms.0, actions.0)

abbrev counts_few : ℕ × List ℕ → ℕ × List ℕ → Result (ℕ × ℕ) TaskTextError
counts_few atoms actions = within 2048 Atoms atoms.0 >>= λ few. within 4096 Actions actions.0 >>= λ few. counts_made atoms actions

abbrev counts_end : ℕ × List ℕ → ℕ × List ℕ → Result (ℕ × ℕ) TaskTextError
counts_end atoms actions = checked (eqb (length actions.1) 0) 1 >>= λ nothing. counts_few atoms actions

abbrev counts_second : ℕ × List ℕ → Result (ℕ × ℕ) TaskTextError
counts_second atoms = past (32 ∷ []) 1 atoms.1 >>= λ more. number_at 1 more >>= counts_end atoms

count_limits : (line digits more : List ℕ) (atoms actions : ℕ × List ℕ) (e : TaskTextError) → line ≡ codes "task " ++ digits → number_in digits ≡ Some atoms → atoms.1 ≡ 32 ∷ more → number_in more ≡ Some actions → actions.1 ≡ []
    → counts_few atoms actions ≡ Err e → CountsPass line e
count_limits line digits more atoms actions e top one between two nothing q =
    let first = numeral_takes digits atoms.0 atoms.1 one in
    let second = numeral_takes more actions.0 actions.1 two in
    let tail : more ≡ second.digits = second.spelled ∙ ap (λ (x : List ℕ). second.digits ++ x) nothing ∙ append-nil second.digits in
    let whole : digits ≡ first.digits ++ 32 ∷ second.digits = first.spelled ∙ ap (λ (x : List ℕ). first.digits ++ x) (between ∙ ap (λ (x : List ℕ). 32 ∷ x) tail) in
    let is : IsCountLine line first.value second.value = record { first = first.digits; second = second.digits; first_worth = first.numeral; second_worth = second.numeral; spelled = top ∙ ap (λ (x : List ℕ). codes "task " ++ x) whole } in
    let a : min first.value 1000000001 ≡ atoms.0 = first.capped in
    let c : min second.value 1000000001 ≡ actions.0 = second.capped in
    elim (bind_err (within 2048 Atoms atoms.0) (λ few. within 4096 Actions actions.0 >>= λ few. counts_made atoms actions) e q) [
      | inl over ↦ let o = within_fails 2048 Atoms atoms.0 (ltb 2048 atoms.0) e refl over in (first.value, second.value, is, inl (o.0, omega (arith, a, o.1)))
      | inr few ↦
          let low : atoms.0 ≤ 2048 = within_ok 2048 Atoms atoms.0 few.0 few.1 in
          elim (bind_err (within 4096 Actions actions.0) (λ few. counts_made atoms actions) e few.2) [
            | inl over ↦ let o = within_fails 4096 Actions actions.0 (ltb 4096 actions.0) e refl over in (first.value, second.value, is, inr (o.0, omega (arith, a, low), omega (arith, c, o.1)))
            | inr all ↦ absurd (let z : ⊥ = cc in z)
          ]
    ]

counts_fail : (line : List ℕ) (e : TaskTextError) → counts_in line ≡ Err e → (e ≡ errors.Line 1) ⊎ CountsPass line e
unfolding counts_in
counts_fail line e q =
    elim (bind_err (past (codes "task ") 1 line) (λ digits. number_at 1 digits >>= counts_second) e q) [
      | inl f ↦ inl (only_past (codes "task ") 1 line e f)
      | inr a ↦ elim (bind_err (number_at 1 a.0) counts_second e a.2) [
        | inl f ↦ inl (only_number 1 a.0 e f)
        | inr b ↦ elim (bind_err (past (32 ∷ []) 1 b.0.1) (λ more. number_at 1 more >>= counts_end b.0) e b.2) [
          | inl f ↦ inl (only_past (32 ∷ []) 1 b.0.1 e f)
          | inr c ↦ elim (bind_err (number_at 1 c.0) (counts_end b.0) e c.2) [
            | inl f ↦ inl (only_number 1 c.0 e f)
            | inr d ↦ elim (bind_err (checked (eqb (length d.0.1) 0) 1) (λ nothing. counts_few b.0 d.0) e d.2) [
              | inl f ↦ inl (only_checked (eqb (length d.0.1) 0) 1 e f)
              | inr g ↦
                  inr (count_limits line a.0 c.0 b.0 d.0 e (past_takes (codes "task ") 1 line a.0 a.1) (found_ok 1 (number_in a.0) b.0 b.1) (past_takes (32 ∷ []) 1 b.0.1 c.0 c.1) (found_ok 1 (number_in c.0) d.0 d.1)
                  (nil_from_length d.0.1 (eqb-true _ _ (checked_ok _ 1 g.0 g.1))) g.2)
            ]
          ]
        ]
      ]
    ]

-- ---- what is read behind the first line, part by part

abbrev at_end : ℕ × ℕ → List (List ℕ) → List Action → List ℕ → List ℕ → Rest → Result TaskShape TaskTextError
at_end counts atoms actions init goal z = ends_at (init_line counts + 2) z >>= λ nothing. Ok (record { atoms = atoms; actions = actions; init = init; goal = goal })

abbrev at_goal : ℕ × ℕ → List (List ℕ) → List Action → List ℕ → Rest → Result TaskShape TaskTextError
at_goal counts atoms actions init z = ids_at (init_line counts + 1) (codes "goal") counts.0 z >>= λ goal. at_end counts atoms actions init goal.0 goal.1

abbrev at_init : ℕ × ℕ → List (List ℕ) → List Action → Rest → Result TaskShape TaskTextError
at_init counts atoms actions z = ids_at (init_line counts) (codes "init") counts.0 z >>= λ init. at_goal counts atoms actions init.0 init.1

abbrev pub at_actions : ℕ × ℕ → List (List ℕ) → Rest → Result TaskShape TaskTextError
at_actions counts atoms z = actions_at counts.1 (counts.0 + 2) counts.0 [] z >>= λ actions. at_init counts atoms actions.0 actions.1

abbrev at_atoms : ℕ × ℕ → Rest → Result TaskShape TaskTextError
at_atoms counts z = atoms_at counts.0 2 [] z >>= λ atoms. at_actions counts atoms.0 atoms.1

abbrev pub read : Rest → Result TaskShape TaskTextError
read z = line_at 1 z >>= λ line. counts_in line.0 >>= λ counts. at_atoms counts line.1

-- the lines of a plain task of so many atoms
abbrev pub Wholes : ℕ → List (List ℕ) → Type 0
Wholes count w = (t : TaskShape) × IsPlain t × (length t.atoms ≡ count) × (w ≡ lines_of t)

-- numbers in order and below the count
abbrev Good : ℕ → List ℕ → Type 0
Good count ids = IsStrictlyIncreasing ids × All (λ id. id < count) ids

none_good : (count : ℕ) → Good count []
none_good count = (none_rise, All-nil (λ id. id < count))

abbrev last_two : List ℕ → List ℕ → List (List ℕ)
last_two init goal = list_line (codes "init") init ∷ list_line (codes "goal") goal ∷ []

wholes_of : (count more : ℕ) (line : List ℕ) → TakesCounts line (count, more) → (atoms : List (List ℕ)) → AreNew [] atoms → length atoms ≡ count → (actions : List Action) → AllFit count [] actions → length actions ≡ more
    → (init goal : List ℕ) → Good count init → Good count goal → Wholes count (line ∷ map atom_line atoms ++ (flat_map action_lines actions ++ last_two init goal))
wholes_of count more line counts atoms new many actions fit many_actions init goal i g =
    let t : TaskShape = record { atoms = atoms; actions = actions; init = init; goal = goal } in
    let known : IsKnown count more t = record {
      atoms = new;
      many_atoms = many;
      few_atoms = counts.atoms;
      actions = plain_from_fit count [] actions fit;
      many_actions = many_actions;
      few_actions = counts.actions;
      init = i.0;
      init_below = i.1;
      goal = g.0;
      goal_below = g.1;
    } in
    let top : line ≡ count_line (length atoms) (length actions) = counts.spelled ∙ ap (λ (n : ℕ). count_line n more) (sym many) ∙ ap (λ (n : ℕ). count_line (length atoms) n) (sym many_actions) in
    (t, plain_from_known count more t known, many, ap (λ (l : List ℕ). l ∷ map atom_line atoms ++ (flat_map action_lines actions ++ last_two init goal)) top)

-- ---- where reading stops, from the end on

abbrev Reads : ℕ → (Rest → Result TaskShape TaskTextError) → ℕ → (List (List ℕ) → Type 0) → Rest → TaskTextError → Type 0
Reads count f n P r e = Stops TaskShape f n count P r e

end_stops : (counts : ℕ × ℕ) (atoms : List (List ℕ)) (actions : List Action) (init goal : List ℕ) (P : List (List ℕ) → Type 0) (r : Rest) (e : TaskTextError) → P [] → at_end counts atoms actions init goal r ≡ Err e
    → Reads counts.0 (at_end counts atoms actions init goal) (init_line counts + 2) P r e
end_stops counts atoms actions init goal P r e legal q =
    let made : Bool → Result TaskShape TaskTextError = λ nothing. Ok (record { atoms = atoms; actions = actions; init = init; goal = goal }) in
    elim (bind_err (ends_at (init_line counts + 2) r) made e q) [
      | inl fault ↦
          let at = end_fails (init_line counts + 2) r e fault in
          stops_now TaskShape (at_end counts atoms actions init goal) (init_line counts + 2) counts.0 P r e [] legal (at.0, λ z a. ap (λ (s : Result Bool TaskTextError). s >>= made) (at.1 z a))
      | inr all ↦ absurd (let z : ⊥ = cc in z)
    ]

goal_stops : (counts : ℕ × ℕ) (atoms : List (List ℕ)) (actions : List Action) (init : List ℕ) (P : List (List ℕ) → Type 0) (r : Rest) (e : TaskTextError) → counts.0 ≤ 1000000000
    → ((goal : List ℕ) → Good counts.0 goal → P (list_line (codes "goal") goal ∷ [])) → at_goal counts atoms actions init r ≡ Err e
    → Reads counts.0 (at_goal counts atoms actions init) (init_line counts + 1) P r e
goal_stops counts atoms actions init P r e few legal q =
    let n = init_line counts + 1 in
    let next : List ℕ × Rest → Result TaskShape TaskTextError = λ goal. at_end counts atoms actions init goal.0 goal.1 in
    elim (bind_err (ids_at n (codes "goal") counts.0 r) next e q) [
      | inl fault ↦
          let at = list_fails n (codes "goal") counts.0 r e fault in
          stops_now TaskShape (at_goal counts atoms actions init) n counts.0 P r e (list_line (codes "goal") [] ∷ []) (legal [] (none_good counts.0)) (at.0, λ z a. ap (λ (s : Result (List ℕ × Rest) TaskTextError). s >>= next) (at.1 z a))
      | inr ok ↦
          let t = list_takes n (codes "goal") counts.0 r ok.0 few ok.1 in
          passed TaskShape (at_goal counts atoms actions init) (at_end counts atoms actions init ok.0.0) n (init_line counts + 2) counts.0 (list_line (codes "goal") ok.0.0 ∷ []) P r ok.0.1 e
          t.spelled (omega arith)
          (λ z. ap (λ (s : Result (List ℕ × Rest) TaskTextError). s >>= next) (list_again n (codes "goal") counts.0 ok.0.0 z.0 z.1 few t.increasing t.below))
          (end_stops counts atoms actions init ok.0.0 (λ w. P (list_line (codes "goal") ok.0.0 ∷ w)) ok.0.1 e (legal ok.0.0 (t.increasing, t.below)) ok.2)
    ]

init_stops : (counts : ℕ × ℕ) (atoms : List (List ℕ)) (actions : List Action) (P : List (List ℕ) → Type 0) (r : Rest) (e : TaskTextError) → counts.0 ≤ 1000000000
    → ((init goal : List ℕ) → Good counts.0 init → Good counts.0 goal → P (last_two init goal)) → at_init counts atoms actions r ≡ Err e
    → Reads counts.0 (at_init counts atoms actions) (init_line counts) P r e
init_stops counts atoms actions P r e few legal q =
    let n = init_line counts in
    let next : List ℕ × Rest → Result TaskShape TaskTextError = λ init. at_goal counts atoms actions init.0 init.1 in
    elim (bind_err (ids_at n (codes "init") counts.0 r) next e q) [
      | inl fault ↦
          let at = list_fails n (codes "init") counts.0 r e fault in
          stops_now TaskShape (at_init counts atoms actions) n counts.0 P r e (last_two [] []) (legal [] [] (none_good counts.0) (none_good counts.0)) (at.0, λ z a. ap (λ (s : Result (List ℕ × Rest) TaskTextError). s >>= next) (at.1 z a))
      | inr ok ↦
          let t = list_takes n (codes "init") counts.0 r ok.0 few ok.1 in
          passed TaskShape (at_init counts atoms actions) (at_goal counts atoms actions ok.0.0) n (init_line counts + 1) counts.0 (list_line (codes "init") ok.0.0 ∷ []) P r ok.0.1 e
          t.spelled (omega arith)
          (λ z. ap (λ (s : Result (List ℕ × Rest) TaskTextError). s >>= next) (list_again n (codes "init") counts.0 ok.0.0 z.0 z.1 few t.increasing t.below))
          (goal_stops counts atoms actions ok.0.0 (λ w. P (list_line (codes "init") ok.0.0 ∷ w)) ok.0.1 e few (λ goal g. legal ok.0.0 goal (t.increasing, t.below) g) ok.2)
    ]

four_each : (actions : List Action) → length (flat_map action_lines actions) ≡ 4 * length actions
four_each [] = refl
four_each (a ∷ actions) = let e : length (flat_map action_lines actions) ≡ 4 * length actions = four_each actions in omega (arith, e)

actions_stops : (counts : ℕ × ℕ) (atoms : List (List ℕ)) (P : List (List ℕ) → Type 0) (r : Rest) (e : TaskTextError) → counts.0 ≤ 1000000000
    → ((actions : List Action) → AllFit counts.0 [] actions → length actions ≡ counts.1 → (init goal : List ℕ) → Good counts.0 init → Good counts.0 goal → P (flat_map action_lines actions ++ last_two init goal)) → at_actions counts atoms r ≡ Err e
    → Reads counts.0 (at_actions counts atoms) (counts.0 + 2) P r e
actions_stops counts atoms P r e few legal q =
    let n = counts.0 + 2 in
    let next : List Action × Rest → Result TaskShape TaskTextError = λ actions. at_init counts atoms actions.0 actions.1 in
    let none = none_good counts.0 in
    elim (bind_err (actions_at counts.1 n counts.0 [] r) next e q) [
      | inl fault ↦
          wider (List Action × Rest) TaskShape (actions_at counts.1 n counts.0 []) next n counts.0 (ActionLines counts.1 counts.0 []) P r (last_two [] []) e
          (λ w p. subst (λ (x : List (List ℕ)). P (x ++ last_two [] [])) (sym p.3) (legal p.0 p.1 p.2 [] [] none none)) (actions_stop counts.1 n counts.0 [] r e few fault)
      | inr ok ↦
          let t = actions_take counts.1 n counts.0 [] r ok.0 few ok.1 in
          let all : ok.0.0 ≡ t.actions = t.all in
          let fit : AllFit counts.0 [] ok.0.0 = subst (AllFit counts.0 []) (sym all) t.fit in
          let many : length ok.0.0 ≡ counts.1 = ap length all ∙ t.many in
          let lines : length (flat_map action_lines ok.0.0) ≡ 4 * length ok.0.0 = four_each ok.0.0 in
          passed TaskShape (at_actions counts atoms) (at_init counts atoms ok.0.0) n (init_line counts) counts.0 (flat_map action_lines ok.0.0) P r ok.0.1 e
          (t.spelled ∙ ap (λ (x : List Action). (flat_map action_lines x ++ ok.0.1.0, ok.0.1.1)) (sym all)) (omega (arith, lines, many))
          (λ z. ap (λ (s : Result (List Action × Rest) TaskTextError). s >>= next) (ap (λ (c : ℕ). actions_at c n counts.0 [] (flat_map action_lines ok.0.0 ++ z.0, z.1)) (sym many) ∙ actions_again ok.0.0 n counts.0 [] z.0 z.1 few fit))
          (init_stops counts atoms ok.0.0 (λ w. P (flat_map action_lines ok.0.0 ++ w)) ok.0.1 e few (λ init goal i g. legal ok.0.0 fit many init goal i g) ok.2)
    ]

atoms_stops : (counts : ℕ × ℕ) (line : List ℕ) (r : Rest) (e : TaskTextError) → TakesCounts line counts → at_atoms counts r ≡ Err e → Reads counts.0 (at_atoms counts) 2 (λ w. Wholes counts.0 (line ∷ w)) r e
atoms_stops counts line r e top q =
    let low : counts.0 ≤ 2048 = top.atoms in
    let few : counts.0 ≤ 1000000000 = omega (arith, low) in
    let next : List (List ℕ) × Rest → Result TaskShape TaskTextError = λ atoms. at_actions counts atoms.0 atoms.1 in
    let none = none_good counts.0 in
    elim (bind_err (atoms_at counts.0 2 [] r) next e q) [
      | inl fault ↦
          let acts = more_actions counts.1 counts.0 [] in
          let tail = flat_map action_lines acts.actions ++ last_two [] [] in
          wider (List (List ℕ) × Rest) TaskShape (atoms_at counts.0 2 []) next 2 counts.0 (AtomLines counts.0 []) (λ w. Wholes counts.0 (line ∷ w)) r tail e
          (λ w p. subst (λ (x : List (List ℕ)). Wholes counts.0 (line ∷ (x ++ tail))) (sym p.3) (wholes_of counts.0 counts.1 line top p.0 p.1 p.2 acts.actions acts.fit acts.many [] [] none none)) (atoms_stop counts.0 2 counts.0 [] r e fault)
      | inr ok ↦
          let t = atoms_take counts.0 2 [] r ok.0 ok.1 in
          let all : ok.0.0 ≡ t.names = t.all in
          let new : AreNew [] ok.0.0 = subst (AreNew []) (sym all) t.new in
          let many : length ok.0.0 ≡ counts.0 = ap length all ∙ t.many in
          let lines : length (map atom_line ok.0.0) ≡ length ok.0.0 = length-map ok.0.0 atom_line in
          passed TaskShape (at_atoms counts) (at_actions counts ok.0.0) 2 (counts.0 + 2) counts.0 (map atom_line ok.0.0) (λ w. Wholes counts.0 (line ∷ w)) r ok.0.1 e
          (t.spelled ∙ ap (λ (x : List (List ℕ)). (map atom_line x ++ ok.0.1.0, ok.0.1.1)) (sym all)) (omega (arith, lines, many))
          (λ z. ap (λ (s : Result (List (List ℕ) × Rest) TaskTextError). s >>= next) (ap (λ (c : ℕ). atoms_at c 2 [] (map atom_line ok.0.0 ++ z.0, z.1)) (sym many) ∙ atoms_again ok.0.0 2 [] z.0 z.1 new))
          (actions_stops counts ok.0.0 (λ w. Wholes counts.0 (line ∷ (map atom_line ok.0.0 ++ w))) ok.0.1 e few (λ actions fit size init goal i g. wholes_of counts.0 counts.1 line top ok.0.0 new many actions fit size init goal i g) ok.2)
    ]

-- ---- the whole

-- a task of nothing
nothing : TaskShape
nothing = record { atoms = []; actions = []; init = []; goal = [] }

nothing_plain : IsPlain nothing
unfolding nothing
nothing_plain = plain_from_known 0 0 nothing (record {
  atoms = tt;
  many_atoms = refl;
  few_atoms = omega arith;
  actions = plain_from_fit 0 [] [] tt;
  many_actions = refl;
  few_actions = omega arith;
  init = none_rise;
  init_below = All-nil (λ id. id < 0);
  goal = none_rise;
  goal_below = All-nil (λ id. id < 0);
})

nothing_whole : Wholes 0 (lines_of nothing)
unfolding nothing
nothing_whole = (nothing, nothing_plain, refl, refl)

-- the counts pass a limit in the first line
pub record Begun (text : List ℕ) (e : TaskTextError) : Type 0 where
  pub line : List ℕ
  pub rest : Rest
  pub is : split text ≡ (line ∷ rest.0, rest.1)
  pub pass : CountsPass line e

no_line : (n : ℕ) (r : Rest) (e : TaskTextError) → line_at n r ≡ Err e → AtFirst (line_at n) n r e
no_line n ([], tail) e h = (cc, λ z a. absurd a)
no_line n (line ∷ lines, tail) e h = absurd cc

outcome : (text : List ℕ) (e : TaskTextError) → task_of text ≡ Err e → ((count : ℕ) × Stops TaskShape read 1 count (Wholes count) (split text) e) ⊎ Begun text e
unfolding task_of
outcome text e q =
    let next : List ℕ × Rest → Result TaskShape TaskTextError = λ line. counts_in line.0 >>= λ counts. at_atoms counts line.1 in
    elim (bind_err (line_at 1 (split text)) next e q) [
      | inl fault ↦
          let at = no_line 1 (split text) e fault in
          inl (0, stops_now TaskShape read 1 0 (Wholes 0) (split text) e (lines_of nothing) nothing_whole (at.0, λ z a. ap (λ (s : Result (List ℕ × Rest) TaskTextError). s >>= next) (at.1 z a)))
      | inr ok ↦
          let line = ok.0.0 in
          let is : split text ≡ (line ∷ ok.0.1.0, ok.0.1.1) = line_takes 1 (split text) ok.0 ok.1 in
          elim (bind_err (counts_in line) (λ counts. at_atoms counts ok.0.1) e ok.2) [
            | inl fault ↦ elim (counts_fail line e fault) [
              | inl bad ↦
                  inl (
                    0,
                    stops_now TaskShape read 1 0 (Wholes 0) (split text) e (lines_of nothing) nothing_whole
                        (bad, here_too TaskShape read line (split text) ok.0.1 e is (λ z. ap (λ (s : Result (ℕ × ℕ) TaskTextError). s >>= λ counts. at_atoms counts z) fault)),
                  )
              | inr pass ↦ inr (record { line = line; rest = ok.0.1; is = is; pass = pass })
            ]
            | inr counts ↦
                inl (
                  counts.0.0,
                  passed TaskShape read (at_atoms counts.0) 1 2 counts.0.0 (line ∷ []) (Wholes counts.0.0) (split text) ok.0.1 e is (omega arith)
                      (λ z. ap (λ (s : Result (ℕ × ℕ) TaskTextError). s >>= λ counts. at_atoms counts z) counts.1)
                      (atoms_stops counts.0 line ok.0.1 e (counts_take line counts.0 counts.1) counts.2),
                )
          ]
    ]

read_again : (t : TaskShape) → IsPlain t → read (lines_of t, []) ≡ Ok t
unfolding task_of
read_again t plain = ap read (sym (split_joined (lines_of t) (feedless t plain))) ∙ task_again t plain

begins_as : (text : List ℕ) (k : ℕ) (whole : List (List ℕ)) (t : TaskShape) → IsPlain t → whole ≡ lines_of t → Agree k (split text).0 whole → BeginsAs text k t
begins_as text k whole t plain is a = record { plain = plain; there = agree_long k (split text).0 whole a; same = agree_take k (split text).0 whole a ∙ ap (take k) is }

-- a plain task that begins so would be read
never : (text : List ℕ) (n k : ℕ) (t : TaskShape) → n ≡ suc k → (Agree (suc k) (split text).0 (lines_of t) → read (lines_of t, []) ≡ Err (errors.Line n)) → BeginsAs text n t → ⊥
never text n k t more local b =
    let a : Agree (suc k) (split text).0 (lines_of t) = subst (λ (i : ℕ). Agree i (split text).0 (lines_of t)) more (agree_from n (split text).0 (lines_of t) b.there b.same) in
    let bad : Ok t ≡ Err (errors.Line n) = sym (read_again t b.plain) ∙ local a in
    cc

no_limit : (n : ℕ) (line : List ℕ) → CountsPass line (errors.Line n) → ⊥
no_limit n line pass = elim pass.3 [ inl a ↦ let z : ⊥ = cc in z | inr a ↦ let z : ⊥ = cc in z ]

at_list : (text : List ℕ) (which : Limit) (count : ℕ) (s : Stops TaskShape read 1 count (Wholes count) (split text) (errors.Limit which)) → IsAtLimit text which (s.k + 1)
at_list text which count s =
    let t : TaskShape = s.legal.0 in
    let c : LimitAt count s.k (split text).0 s.whole which = s.cause in
    let back : s.k + 1 - 1 ≡ s.k = omega arith in
    record {
      counted = omega arith;
      task = t;
      before = subst (λ (i : ℕ). BeginsAs text i t) (sym back) (begins_as text s.k s.whole t s.legal.1 s.legal.3 s.agree);
      line = list_line c.keyword c.ids;
      there = ap (slice_get (split text).0) back ∙ c.there;
      passed = subst (λ (w : Limit). Passes w (s.k + 1) t (list_line c.keyword c.ids)) (sym c.is)
          (record {
            keyword = c.keyword;
            most = c.most;
            kind = c.kind;
            ids = c.ids;
            increasing = c.increasing;
            below = subst (λ (m : ℕ). All (λ id. id < m) c.ids) (sym s.legal.2) c.below;
            longer = c.longer;
            spelled = refl;
            place = ([], ap (slice_get (lines_of t)) back ∙ ap (λ (w : List (List ℕ)). slice_get w s.k) (sym s.legal.3) ∙ c.place);
          });
    }

abbrev limited : Limit → TaskTextError
limited which = errors.Limit which

which_limit : (a b : Limit) → limited a ≡ limited b → a ≡ b
which_limit a b e = cc

begins_none : (text : List ℕ) → BeginsAs text 0 nothing
begins_none text = record { plain = nothing_plain; there = omega arith; same = refl }

pass_first : (line : List ℕ) (which : Limit) → CountsPass line (errors.Limit which) → Passes which 1 nothing line
pass_first line which pass =
    elim pass.3 [
      | inl a ↦ subst (λ (w : Limit). Passes w 1 nothing line) (sym (which_limit which Atoms a.0)) (refl, pass.0, pass.1, pass.2, a.1)
      | inr a ↦ subst (λ (w : Limit). Passes w 1 nothing line) (sym (which_limit which Actions a.0)) (refl, pass.0, pass.1, pass.2, a.1, a.2)
    ]

at_counts : (text : List ℕ) (which : Limit) → Begun text (errors.Limit which) → IsAtLimit text which 1
at_counts text which begun = record {
  counted = omega arith;
  task = nothing;
  before = begins_none text;
  line = begun.line;
  there = ap (λ (s : Rest). slice_get s.0 0) begun.is;
  passed = pass_first begun.line which begun.pass;
}

-- with line n the text is no longer a beginning
pub record IsNoBeginning (text : List ℕ) (n : ℕ) : Type 0 where
  pub counted : 1 ≤ n
  pub before : Begins text (n - 1)
  pub here : Begins text n → ⊥

pub line_law : (text : List ℕ) (n : ℕ) → task_of text ≡ Err (errors.Line n) → IsNoBeginning text n
line_law text n q =
    elim (outcome text (errors.Line n) q) [
      | inl stop ↦
          let s = stop.1 in
          let k : n ≡ 1 + s.k = s.cause.0 in
          let before : n - 1 ≡ s.k = omega (arith, k) in
          let more : n ≡ suc s.k = omega (arith, k) in
          record {
            counted = omega (arith, k);
            before = (s.legal.0, subst (λ (i : ℕ). BeginsAs text i s.legal.0) (sym before) (begins_as text s.k s.whole s.legal.0 s.legal.1 s.legal.3 s.agree));
            here = λ b. never text n s.k b.0 more (s.cause.1 (lines_of b.0, [])) b.1;
          }
      | inr begun ↦ absurd (no_limit n begun.line begun.pass)
    ]

pub memory_law : (text : List ℕ) → task_of text ≡ Err errors.Memory → ⊥
memory_law text q =
    elim (outcome text errors.Memory q) [
      | inl stop ↦ stop.1.cause
      | inr begun ↦ elim begun.pass.3 [ inl a ↦ let z : ⊥ = cc in z | inr a ↦ let z : ⊥ = cc in z ]
    ]

pub limit_law : (text : List ℕ) (which : Limit) → task_of text ≡ Err (errors.Limit which) → (n : ℕ) × IsAtLimit text which n
limit_law text which q =
    elim (outcome text (errors.Limit which) q) [
      | inl stop ↦ (stop.1.k + 1, at_list text which stop.0 stop.1)
      | inr begun ↦ (1, at_counts text which begun)
    ]
