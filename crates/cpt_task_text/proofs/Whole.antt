-- The two laws: what is read is the spelling of a plain task, and the spelling of a plain task is read.
use Rattle.std.proofs.Common.{inr, ◌≡◌, ℕ, suc, ◌+◌, ◌^◌, ◌<◌, ◌≤◌, Bool, true, List, [], ◌∷◌, ◌++◌, length, map, All, Result, Ok, Err, refl, sym, ap, subst, ◌∙◌, append-nil, arith}
use Rattle.std.specs.Prelude.{codes, IfOk}
use Rattle.std.specs.List.{flat_map}
use Rattle.std.specs.List.Sorted.{IsStrictlyIncreasing}
use Rattle.cpt_task.specs.declared.task.Action.{Action}
use Rattle.cpt_task.specs.declared.task.BuildError.{BuildError}
use Rattle.cpt_task.specs.declared.task.BuildError.TheVariants.{BadAtom, BadDuration}
use Rattle.cpt_task.specs.Building.{IsFault}
use Rattle.cpt_task.proofs.BuildingLemmas.{all_at, none_bad}
use Rattle.cpt_task.specs.Shape.{TaskShape, InBounds, HasAtomsBelow, IsDuration}
use Rattle.cpt_line.specs.Lines.{split}
use Rattle.cpt_line.specs.Names.{is_name}
use Rattle.cpt_task_text.specs.declared.error.TaskTextError.{TaskTextError}
use Rattle.cpt_task_text.specs.Plain.{names_of, IsPlain}
use Rattle.cpt_task_text.specs.Reading.{◌>>=◌, Gives, Rest, line_at, ends_at, counts_in, atoms_at, actions_at, ids_at, init_line, task_of}
use Rattle.cpt_task_text.specs.Spelling.{count_line, atom_line, list_line, action_lines, last_lines, lines_of, spelling}
use Rattle.cpt_task_text.proofs.Acting.{AllFit, AllPlain, actions_take, actions_again, plain_from_fit, fit_from_plain}
use Rattle.cpt_task_text.proofs.Binding.{bind_ok, ok_is, line_takes, ends_ok}
use Rattle.cpt_task_text.proofs.Feeding.{Feedless, Feedless-append, text_of, text_of_split, split_joined, NoFeed-decimal, NoFeed-spaced}
use Rattle.cpt_task_text.proofs.Heading.{counts_take, counts_again, atoms_take, atoms_again}
use Rattle.cpt_task_text.proofs.Listing.{list_takes, list_again}
use Rattle.cpt_task_text.proofs.Naming.{AreNew, NoFeed-append, NoFeed-name, no_names, names_from_new, new_from_names}

-- what is known of a task with so many atoms and actions
pub record IsKnown (count more : ℕ) (t : TaskShape) : Type 0 where
  pub atoms : AreNew [] t.atoms
  pub many_atoms : length t.atoms ≡ count
  pub few_atoms : count ≤ 2048
  pub actions : AllPlain count [] t.actions
  pub many_actions : length t.actions ≡ more
  pub few_actions : more ≤ 4096
  pub init : IsStrictlyIncreasing t.init
  pub init_below : All (λ id. id < count) t.init
  pub goal : IsStrictlyIncreasing t.goal
  pub goal_below : All (λ id. id < count) t.goal

pub plain_from_known : (count more : ℕ) (t : TaskShape) → IsKnown count more t → IsPlain t
plain_from_known count more t h =
    let few : count ≤ 2048 = h.few_atoms in
    let small : more ≤ 4096 = h.few_actions in
    let atoms : length t.atoms ≡ count = h.many_atoms in
    let actions : length t.actions ≡ more = h.many_actions in
    record {
      atoms = names_from_new [] t.atoms no_names h.atoms;
      actions = names_from_new [] (names_of t.actions) no_names h.actions.new;
      few_atoms = omega (arith, few, atoms);
      few_actions = omega (arith, small, actions);
      lists = h.actions.lists;
      init = h.init;
      goal = h.goal;
      bounds = record {
        few_atoms = omega (arith, few, atoms);
        few_actions = omega (arith, small, actions);
        actions = subst (λ (n : ℕ). All (HasAtomsBelow n) t.actions) (sym atoms) h.actions.below;
        durations = h.actions.lasting;
        init = subst (λ (n : ℕ). All (λ id. id < n) t.init) (sym atoms) h.init_below;
        goal = subst (λ (n : ℕ). All (λ id. id < n) t.goal) (sym atoms) h.goal_below;
      };
    }

pub fits_plain : (t : TaskShape) → IsPlain t → AllFit (length t.atoms) [] t.actions
fits_plain t h = fit_from_plain (length t.atoms) [] t.actions (record { new = new_from_names [] (names_of t.actions) h.actions; lists = h.lists; below = h.bounds.actions; lasting = h.bounds.durations })

-- a task is what its text says
pub record Spells (text : List ℕ) (t : TaskShape) : Type 0 where
  pub plain : IsPlain t
  pub spelled : text ≡ spelling t

spelled_from : (text : List ℕ) (t : TaskShape) → split text ≡ (lines_of t, []) → text ≡ spelling t
spelled_from text t e = sym (text_of_split text) ∙ ap text_of e ∙ append-nil (spelling t)

-- the lines of the parts that were read
lines_made : (text line : List ℕ) (t : TaskShape) (count more : ℕ) (r0 r1 r2 r3 : Rest)
    → split text ≡ (line ∷ r0.0, r0.1) → line ≡ count_line count more → length t.atoms ≡ count → length t.actions ≡ more
    → r0 ≡ (map atom_line t.atoms ++ r1.0, r1.1) → r1 ≡ (flat_map action_lines t.actions ++ r2.0, r2.1)
    → r2 ≡ (list_line (codes "init") t.init ∷ r3.0, r3.1) → r3 ≡ (list_line (codes "goal") t.goal ∷ [], [])
    → split text ≡ (lines_of t, [])
lines_made text line t count more r0 r1 r2 r3 e first atoms actions e0 e1 e2 e3 =
    let f2 : r2 ≡ (last_lines t, []) = e2 ∙ ap (λ (r : Rest). (list_line (codes "init") t.init ∷ r.0, r.1)) e3 in
    let f1 : r1 ≡ (flat_map action_lines t.actions ++ last_lines t, []) = e1 ∙ ap (λ (r : Rest). (flat_map action_lines t.actions ++ r.0, r.1)) f2 in
    let f0 : r0 ≡ (map atom_line t.atoms ++ (flat_map action_lines t.actions ++ last_lines t), []) = e0 ∙ ap (λ (r : Rest). (map atom_line t.atoms ++ r.0, r.1)) f1 in
    let top : line ≡ count_line (length t.atoms) (length t.actions) = first ∙ ap (λ (n : ℕ). count_line n more) (sym atoms) ∙ ap (λ (n : ℕ). count_line (length t.atoms) n) (sym actions) in
    e ∙ ap (λ (l : List ℕ). (l ∷ r0.0, r0.1)) top ∙ ap (λ (r : Rest). (count_line (length t.atoms) (length t.actions) ∷ r.0, r.1)) f0

-- the parts of a task, as they were read one after the other
pub record IsRead (text : List ℕ) (t : TaskShape) (count more : ℕ) (line : List ℕ) (r0 r1 r2 r3 r4 : Rest) (nothing : Bool) : Type 0 where
  pub first : line_at 1 (split text) ≡ Ok (line, r0)
  pub counts : counts_in line ≡ Ok (count, more)
  pub atoms : atoms_at count 2 [] r0 ≡ Ok (t.atoms, r1)
  pub actions : actions_at more (count + 2) count [] r1 ≡ Ok (t.actions, r2)
  pub init : ids_at (init_line (count, more)) (codes "init") count r2 ≡ Ok (t.init, r3)
  pub goal : ids_at (init_line (count, more) + 1) (codes "goal") count r3 ≡ Ok (t.goal, r4)
  pub end : ends_at (init_line (count, more) + 2) r4 ≡ Ok nothing

pub spells_read : (text : List ℕ) (t : TaskShape) (count more : ℕ) (line : List ℕ) (r0 r1 r2 r3 r4 : Rest) (nothing : Bool) → IsRead text t count more line r0 r1 r2 r3 r4 nothing → Spells text t
spells_read text t count more line r0 r1 r2 r3 r4 nothing h =
    let counts = counts_take line (count, more) h.counts in
    let small : count ≤ 2048 = counts.atoms in
    let few : count ≤ 1000000000 = omega (arith, small) in
    let atoms = atoms_take count 2 [] r0 (t.atoms, r1) h.atoms in
    let actions = actions_take more (count + 2) count [] r1 (t.actions, r2) few h.actions in
    let init = list_takes (init_line (count, more)) (codes "init") count r2 (t.init, r3) few h.init in
    let goal = list_takes (init_line (count, more) + 1) (codes "goal") count r3 (t.goal, r4) few h.goal in
    let many_atoms : length t.atoms ≡ count = ap length atoms.all ∙ atoms.many in
    let many_actions : length t.actions ≡ more = ap length actions.all ∙ actions.many in
    let known : IsKnown count more t = record {
      atoms = subst (AreNew []) (sym atoms.all) atoms.new;
      many_atoms = many_atoms;
      few_atoms = counts.atoms;
      actions = subst (AllPlain count []) (sym actions.all) (plain_from_fit count [] actions.actions actions.fit);
      many_actions = many_actions;
      few_actions = counts.actions;
      init = init.increasing;
      init_below = init.below;
      goal = goal.increasing;
      goal_below = goal.below;
    } in
    let lines : split text ≡ (lines_of t, []) =
    lines_made text line t count more r0 r1 r2 r3 (line_takes 1 (split text) (line, r0) h.first) counts.spelled many_atoms many_actions
    (atoms.spelled ∙ ap (λ (xs : List (List ℕ)). (map atom_line xs ++ r1.0, r1.1)) (sym atoms.all))
    (actions.spelled ∙ ap (λ (xs : List Action). (flat_map action_lines xs ++ r2.0, r2.1)) (sym actions.all))
    init.spelled
    (goal.spelled ∙ ap (λ (r : Rest). (list_line (codes "goal") t.goal ∷ r.0, r.1)) (ends_ok (init_line (count, more) + 2) r4 nothing h.end)) in
    record { plain = plain_from_known count more t known; spelled = spelled_from text t lines }

abbrev task_end : ℕ × ℕ → List (List ℕ) → List Action → Rest → Result TaskShape TaskTextError
task_end counts atoms actions rest =
    ids_at (init_line counts) (codes "init") counts.0 rest >>= λ init. ids_at (init_line counts + 1) (codes "goal") counts.0 init.1 >>= λ goal. ends_at (init_line counts + 2) goal.1 >>= λ nothing. Ok (record { atoms = atoms; actions = actions; init = init.0; goal = goal.0 })

end_read : (text : List ℕ) (t : TaskShape) (counts : ℕ × ℕ) (line : List ℕ) (atoms : List (List ℕ)) (actions : List Action) (r0 r1 r2 : Rest)
    → line_at 1 (split text) ≡ Ok (line, r0) → counts_in line ≡ Ok counts → atoms_at counts.0 2 [] r0 ≡ Ok (atoms, r1) → actions_at counts.1 (counts.0 + 2) counts.0 [] r1 ≡ Ok (actions, r2)
    → task_end counts atoms actions r2 ≡ Ok t → Spells text t
end_read text t counts line atoms actions r0 r1 r2 h0 h1 h2 h3 e =
    let f = bind_ok (ids_at (init_line counts) (codes "init") counts.0 r2) (λ init. ids_at (init_line counts + 1) (codes "goal") counts.0 init.1 >>= λ goal. ends_at (init_line counts + 2) goal.1 >>= λ nothing. Ok (record { atoms = atoms; actions = actions; init = init.0; goal = goal.0 })) t e in
    let g = bind_ok (ids_at (init_line counts + 1) (codes "goal") counts.0 f.0.1) (λ goal. ends_at (init_line counts + 2) goal.1 >>= λ nothing. Ok (record { atoms = atoms; actions = actions; init = f.0.0; goal = goal.0 })) t f.2 in
    let h = bind_ok (ends_at (init_line counts + 2) g.0.1) (λ nothing. Ok (record { atoms = atoms; actions = actions; init = f.0.0; goal = g.0.0 })) t g.2 in
    let made : TaskShape = record { atoms = atoms; actions = actions; init = f.0.0; goal = g.0.0 } in
    subst (Spells text) (ok_is made t h.2) (spells_read text made counts.0 counts.1 line r0 r1 r2 f.0.1 g.0.1 h.0 (record { first = h0; counts = h1; atoms = h2; actions = h3; init = f.1; goal = g.1; end = h.1 }))

-- what is read is the spelling of a plain task
pub task_takes : (text : List ℕ) (t : TaskShape) → task_of text ≡ Ok t → Spells text t
unfolding task_of
task_takes text t e =
    let a = bind_ok (line_at 1 (split text)) (λ line. counts_in line.0 >>= λ counts. atoms_at counts.0 2 [] line.1 >>= λ atoms. actions_at counts.1 (counts.0 + 2) counts.0 [] atoms.1 >>= λ actions. task_end counts atoms.0 actions.0 actions.1) t e in
    let b = bind_ok (counts_in a.0.0) (λ counts. atoms_at counts.0 2 [] a.0.1 >>= λ atoms. actions_at counts.1 (counts.0 + 2) counts.0 [] atoms.1 >>= λ actions. task_end counts atoms.0 actions.0 actions.1) t a.2 in
    let c = bind_ok (atoms_at b.0.0 2 [] a.0.1) (λ atoms. actions_at b.0.1 (b.0.0 + 2) b.0.0 [] atoms.1 >>= λ actions. task_end b.0 atoms.0 actions.0 actions.1) t b.2 in
    let d = bind_ok (actions_at b.0.1 (b.0.0 + 2) b.0.0 [] c.0.1) (λ actions. task_end b.0 c.0.0 actions.0 actions.1) t c.2 in
    end_read text t b.0 a.0.0 c.0.0 d.0.0 a.0.1 c.0.1 d.0.1 a.1 b.1 c.1 d.1 d.2

-- ---- no line of a plain task has a line feed

feedless_atoms : (names : List (List ℕ)) → All (λ name. is_name name ≡ true) names → Feedless (map atom_line names)
feedless_atoms [] h = tt
feedless_atoms (name ∷ names) h =
    (NoFeed-append (codes "atom ") name (refl, (refl, (refl, (refl, (refl, tt))))) (NoFeed-name name (h 0 [] (omega arith))), feedless_atoms names (λ i d lt. h (suc i) d (omega (arith, lt))))

feedless_actions : (count : ℕ) (seen : List (List ℕ)) (actions : List Action) → count < 2 ^ 64 → AllFit count seen actions → Feedless (flat_map action_lines actions)
feedless_actions count seen [] few h = tt
feedless_actions count seen (a ∷ actions) few h =
    let long : a.dur ≤ 100000 = h.0.lasts.1 in (
      NoFeed-append (codes "action ") _ (refl, (refl, (refl, (refl, (refl, (refl, (refl, tt))))))) (NoFeed-append a.name _ (NoFeed-name a.name h.0.legal) (refl, NoFeed-decimal a.dur (omega (arith, long)))),
      (
        NoFeed-append (codes "pre") _ (refl, (refl, (refl, tt))) (NoFeed-spaced count a.pre few h.0.below.pre),
        (
          NoFeed-append (codes "add") _ (refl, (refl, (refl, tt))) (NoFeed-spaced count a.add few h.0.below.add),
          (
            NoFeed-append (codes "del") _ (refl, (refl, (refl, tt))) (NoFeed-spaced count a.dele few h.0.below.dele),
            feedless_actions count (seen ++ a.name ∷ []) actions few h.1,
          ),
        ),
      ),
    )

pub feedless : (t : TaskShape) → IsPlain t → Feedless (lines_of t)
feedless t h =
    let atoms : length t.atoms ≤ 2048 = h.few_atoms in
    let actions : length t.actions ≤ 4096 = h.few_actions in
    let few : length t.atoms < 2 ^ 64 = omega (arith, atoms) in (
      NoFeed-append (codes "task ") _ (refl, (refl, (refl, (refl, (refl, tt))))) (NoFeed-append _ _ (NoFeed-decimal (length t.atoms) few) (refl, NoFeed-decimal (length t.actions) (omega (arith, actions)))),
      Feedless-append (map atom_line t.atoms) _ (feedless_atoms t.atoms h.atoms.legal)
          (Feedless-append (flat_map action_lines t.actions) (last_lines t) (feedless_actions (length t.atoms) [] t.actions few (fits_plain t h)) (
            NoFeed-append (codes "init") _ (refl, (refl, (refl, (refl, tt)))) (NoFeed-spaced (length t.atoms) t.init few h.bounds.init),
            (NoFeed-append (codes "goal") _ (refl, (refl, (refl, (refl, tt)))) (NoFeed-spaced (length t.atoms) t.goal few h.bounds.goal), tt),
          )),
    )

-- the spelling of a plain task is read
pub task_again : (t : TaskShape) → IsPlain t → task_of (spelling t) ≡ Ok t
unfolding task_of
task_again t h =
    let count = length t.atoms in
    let more = length t.actions in
    let atoms : length t.atoms ≤ 2048 = h.few_atoms in
    let few : length t.atoms ≤ 1000000000 = omega (arith, atoms) in
    rw (
      split_joined (lines_of t) (feedless t h),
      counts_again count more h.few_atoms h.few_actions,
      atoms_again t.atoms 2 [] (flat_map action_lines t.actions ++ last_lines t) [] (new_from_names [] t.atoms h.atoms),
      actions_again t.actions (count + 2) count [] (last_lines t) [] few (fits_plain t h),
      list_again (init_line (count, more)) (codes "init") count t.init (list_line (codes "goal") t.goal ∷ []) [] few h.init h.bounds.init,
      list_again (init_line (count, more) + 1) (codes "goal") count t.goal [] [] few h.goal h.bounds.goal,
    ) refl

pub is_found : (text : List ℕ) (r : Result TaskShape TaskTextError) → Gives (λ t. t) r (task_of text) → IfOk r (λ t. IsPlain t × (text ≡ spelling t))
is_found text (Ok t) given = let s = task_takes text t given in (s.plain, s.spelled)
is_found text (Err e) given = tt

-- parts that were read make a task
pub never_faulty : (t : TaskShape) (e : BuildError) → InBounds t → IsFault t e → ⊥
never_faulty t (BadAtom k) h fault = none_bad t k h.actions h.init (inr h.goal) fault.here
never_faulty t (BadDuration k) h fault = let bad = fault.1.here in bad.2 (all_at (λ a. IsDuration a.dur) t.actions k bad.0 h.durations bad.1)
