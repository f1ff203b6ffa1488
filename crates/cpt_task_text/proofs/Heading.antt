-- The first line of a text, the lines of atoms and the lines of actions.
use Rattle.std.proofs.Common.{◌≡◌, ℕ, zero, suc, ◌+◌, ◌≤◌, Bool, true, false, not, eqb, List, [], ◌∷◌, ◌++◌, length, map, Some, Result, Ok, refl, sym, ap, subst, ◌∙◌, append_assoc, append-nil, arith}
use Rattle.std.specs.Prelude.{codes}
use Rattle.std.specs.Fmt.{decimal}
use Rattle.std.proofs.lemmas.Bool.{not-true, eqb-true}
use Rattle.std.proofs.lemmas.List.{nil_from_length}
use Rattle.cpt_task.specs.declared.memory.Limit.TheVariants.{Atoms, Actions}
use Rattle.cpt_line.specs.Digits.{number_in}
use Rattle.cpt_line.specs.Names.{is_name}
use Rattle.cpt_task_text.specs.declared.error.TaskTextError.{TaskTextError}
use Rattle.cpt_task_text.specs.Reading.{◌>>=◌, Rest, line_at, past, checked, number_at, within, counts_in, is_among, new_at, atom_at, atoms_at}
use Rattle.cpt_task_text.specs.Spelling.{count_line, atom_line}
use Rattle.cpt_task_text.proofs.Binding.{bind_ok, ok_is, past_takes, checked_ok, within_ok, within_again, found_ok, line_takes}
use Rattle.cpt_task_text.proofs.Naming.{AreNew}
use Rattle.cpt_task_text.proofs.Numerals.{number_takes, number_again}

-- ---- the first line

counts_left : ℕ × List ℕ → ℕ × List ℕ → Result (ℕ × ℕ) TaskTextError
counts_left atoms actions = checked (eqb (length actions.1) 0) 1 >>= λ nothing. within 2048 Atoms atoms.0 >>= λ few. within 4096 Actions actions.0 >>= λ few. Ok (atoms.0, actions.0)

pub record TakesCounts (line : List ℕ) (counts : ℕ × ℕ) : Type 0 where
  pub spelled : line ≡ count_line counts.0 counts.1
  pub atoms : counts.0 ≤ 2048
  pub actions : counts.1 ≤ 4096

pub counts_take : (line : List ℕ) (x : ℕ × ℕ) → counts_in line ≡ Ok x → TakesCounts line x
unfolding counts_in counts_left
counts_take line x e =
    let a = bind_ok (past (codes "task ") 1 line) (λ digits. number_at 1 digits >>= λ atoms. past (32 ∷ []) 1 atoms.1 >>= λ more. number_at 1 more >>= λ actions. counts_left atoms actions) x e in
    let b = bind_ok (number_at 1 a.0) (λ atoms. past (32 ∷ []) 1 atoms.1 >>= λ more. number_at 1 more >>= λ actions. counts_left atoms actions) x a.2 in
    let c = bind_ok (past (32 ∷ []) 1 b.0.1) (λ more. number_at 1 more >>= λ actions. counts_left b.0 actions) x b.2 in
    let d = bind_ok (number_at 1 c.0) (λ actions. counts_left b.0 actions) x c.2 in
    let f = bind_ok (checked (eqb (length d.0.1) 0) 1) (λ nothing. within 2048 Atoms b.0.0 >>= λ few. within 4096 Actions d.0.0 >>= λ few. Ok (b.0.0, d.0.0)) x d.2 in
    let g = bind_ok (within 2048 Atoms b.0.0) (λ few. within 4096 Actions d.0.0 >>= λ few. Ok (b.0.0, d.0.0)) x f.2 in
    let h = bind_ok (within 4096 Actions d.0.0) (λ few. Ok (b.0.0, d.0.0)) x g.2 in
    let atoms : b.0.0 ≤ 2048 = within_ok 2048 Atoms b.0.0 g.0 g.1 in
    let actions : d.0.0 ≤ 4096 = within_ok 4096 Actions d.0.0 h.0 h.1 in
    let nothing : d.0.1 ≡ [] = nil_from_length d.0.1 (eqb-true _ _ (checked_ok _ 1 f.0 f.1)) in
    let second : c.0 ≡ decimal d.0.0 = number_takes c.0 d.0.0 d.0.1 (omega (arith, actions)) (found_ok 1 (number_in c.0) d.0 d.1) ∙ ap (λ (r : List ℕ). decimal d.0.0 ++ r) nothing ∙ append-nil (decimal d.0.0) in
    let between : b.0.1 ≡ 32 ∷ decimal d.0.0 = past_takes (32 ∷ []) 1 b.0.1 c.0 c.1 ∙ ap (λ (r : List ℕ). 32 ∷ r) second in
    let first : a.0 ≡ decimal b.0.0 ++ 32 ∷ decimal d.0.0 = number_takes a.0 b.0.0 b.0.1 (omega (arith, atoms)) (found_ok 1 (number_in a.0) b.0 b.1) ∙ ap (λ (r : List ℕ). decimal b.0.0 ++ r) between in
    subst (λ (y : ℕ × ℕ). TakesCounts line y) (ok_is (b.0.0, d.0.0) x h.2)
    (record { spelled = past_takes (codes "task ") 1 line a.0 a.1 ∙ ap (λ (r : List ℕ). codes "task " ++ r) first; atoms = atoms; actions = actions })

pub number_alone : (n : ℕ) → n ≤ 1000000000 → number_in (decimal n) ≡ Some (n, [])
number_alone n low = ap number_in (sym (append-nil (decimal n))) ∙ number_again n [] low refl

pub counts_again : (atoms actions : ℕ) → atoms ≤ 2048 → actions ≤ 4096 → counts_in (count_line atoms actions) ≡ Ok (atoms, actions)
unfolding counts_in
counts_again atoms actions few_atoms few_actions =
    rw (number_again atoms (32 ∷ decimal actions) (omega (arith, few_atoms)) refl, number_alone actions (omega (arith, few_actions)), within_again 2048 Atoms atoms few_atoms, within_again 4096 Actions actions few_actions) refl

-- ---- atoms

pub record TakesAtom (rest : Rest) (name : List ℕ) (after : Rest) : Type 0 where
  pub spelled : rest ≡ (atom_line name ∷ after.0, after.1)
  pub legal : is_name name ≡ true

pub new_ok : (n : ℕ) (seen : List (List ℕ)) (name : List ℕ) (x : Bool) → new_at n seen name ≡ Ok x → is_among seen name ≡ false
new_ok n seen name x e = not-true (is_among seen name) (checked_ok (not (is_among seen name)) n x e)

pub atom_takes : (n : ℕ) (rest : Rest) (x : List ℕ × Rest) → atom_at n rest ≡ Ok x → TakesAtom rest x.0 x.1
unfolding atom_at
atom_takes n rest x e =
    let a = bind_ok (line_at n rest) (λ line. past (codes "atom ") n line.0 >>= λ name. checked (is_name name) n >>= λ legal. Ok (name, line.1)) x e in
    let b = bind_ok (past (codes "atom ") n a.0.0) (λ name. checked (is_name name) n >>= λ legal. Ok (name, a.0.1)) x a.2 in
    let c = bind_ok (checked (is_name b.0) n) (λ legal. Ok (b.0, a.0.1)) x b.2 in
    let made : List ℕ × Rest = (b.0, a.0.1) in
    subst (λ (y : List ℕ × Rest). TakesAtom rest y.0 y.1) (ok_is made x c.2)
    (record { spelled = line_takes n rest a.0 a.1 ∙ ap (λ (l : List ℕ). (l ∷ a.0.1.0, a.0.1.1)) (past_takes (codes "atom ") n a.0.0 b.0 b.1); legal = checked_ok _ n c.0 c.1 })

pub atom_again : (n : ℕ) (name : List ℕ) (lines : List (List ℕ)) (tail : List ℕ) → is_name name ≡ true → atom_at n (atom_line name ∷ lines, tail) ≡ Ok (name, (lines, tail))
unfolding atom_at
atom_again n name lines tail legal = rw legal refl

pub record TakesAtoms (count : ℕ) (seen : List (List ℕ)) (rest : Rest) (whole : List (List ℕ)) (after : Rest) : Type 0 where
  pub names : List (List ℕ)
  pub all : whole ≡ seen ++ names
  pub new : AreNew seen names
  pub spelled : rest ≡ (map atom_line names ++ after.0, after.1)
  pub many : length names ≡ count

pub atoms_take : (count n : ℕ) (seen : List (List ℕ)) (rest : Rest) (x : List (List ℕ) × Rest) → atoms_at count n seen rest ≡ Ok x → TakesAtoms count seen rest x.0 x.1
unfolding atoms_at
atoms_take zero n seen rest x e =
    let made : List (List ℕ) × Rest = (seen, rest) in
    subst (λ (y : List (List ℕ) × Rest). TakesAtoms 0 seen rest y.0 y.1) (ok_is made x e) (record { names = []; all = sym (append-nil seen); new = tt; spelled = refl; many = refl })
atoms_take (suc count) n seen rest x e =
    let a = bind_ok (atom_at n rest) (λ name. new_at n seen name.0 >>= λ new. atoms_at count (n + 1) (seen ++ name.0 ∷ []) name.1) x e in
    let b = bind_ok (new_at n seen a.0.0) (λ new. atoms_at count (n + 1) (seen ++ a.0.0 ∷ []) a.0.1) x a.2 in
    let first = atom_takes n rest a.0 a.1 in
    let others = atoms_take count (n + 1) (seen ++ a.0.0 ∷ []) a.0.1 x b.2 in
    record {
      names = a.0.0 ∷ others.names;
      all = others.all ∙ append_assoc seen (a.0.0 ∷ []) others.names;
      new = (first.legal, new_ok n seen a.0.0 b.0 b.1, others.new);
      spelled = first.spelled ∙ ap (λ (r : Rest). (atom_line a.0.0 ∷ r.0, r.1)) others.spelled;
      many = ap suc others.many;
    }

pub atoms_again : (names : List (List ℕ)) (n : ℕ) (seen lines : List (List ℕ)) (tail : List ℕ) → AreNew seen names → atoms_at (length names) n seen (map atom_line names ++ lines, tail) ≡ Ok (seen ++ names, (lines, tail))
unfolding atoms_at
atoms_again [] n seen lines tail new = ap (λ (x : List (List ℕ)). Ok (x, (lines, tail))) (sym (append-nil seen))
atoms_again (name ∷ names) n seen lines tail new =
    rw (atom_again n name (map atom_line names ++ lines) tail new.0, new.1) (atoms_again names (n + 1) (seen ++ name ∷ []) lines tail new.2 ∙ ap (λ (x : List (List ℕ)). Ok (x, (lines, tail))) (append_assoc seen (name ∷ []) names))
