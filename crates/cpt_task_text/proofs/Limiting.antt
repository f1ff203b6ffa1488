-- A well-formed line that passes a limit is answered by that limit.
use Rattle.std.proofs.Common.{◌≡◌, ℕ, zero, suc, ◌+◌, ◌-◌, ◌<◌, ◌≤◌, min, inl, inr, List, [], ◌∷◌, ◌++◌, length, get_or, map, take, drop, All, Some, slice_get, Result, Ok, Err, refl, sym, ap, subst, ◌∙◌, append-nil, arith}
use Rattle.std.specs.Prelude.{codes}
use Rattle.std.specs.List.{flat_map}
use Rattle.std.specs.List.Sorted.{IsStrictlyIncreasing}
use Rattle.std.proofs.lemmas.Bool.{lt-ltb, le-ltb}
use Rattle.std.proofs.lemmas.List.{map_push}
use Rattle.cpt_task.specs.declared.memory.Limit.{Limit}
use Rattle.cpt_task.specs.declared.memory.Limit.TheVariants.{File, Certificate, Nesting, Objects, Parameters, LongList, Instances, Atoms, Actions, Start}
use Rattle.cpt_task.specs.declared.task.Action.{Action}
use Rattle.cpt_task.specs.Shape.{TaskShape}
use Rattle.cpt_line.specs.Digits.{number_in}
use Rattle.cpt_line.specs.Lines.{split}
use Rattle.cpt_task_text.specs.declared.error.TaskTextError.{TaskTextError}
use Rattle.cpt_task_text.specs.declared.error.TaskTextError.TheVariants as errors
use Rattle.cpt_task_text.specs.Faults.{BeginsAs, IsCountLine, HasMost, IsLongerList, Passes, IsAtLimit}
use Rattle.cpt_task_text.specs.Plain.{names_of, IsPlain}
use Rattle.cpt_task_text.specs.Reading.{◌>>=◌, Rest, within, counts_in, atoms_at, actions_at, short_ids_at, action_at, task_of}
use Rattle.cpt_task_text.specs.Spelling.{count_line, atom_line, head_line, list_line, action_lines, last_lines, lines_of}
use Rattle.cpt_task_text.proofs.Acting.{AllFit, list_lines, starts_again, action_again}
use Rattle.cpt_task_text.proofs.Heading.{atom_again, counts_again}
use Rattle.cpt_task_text.proofs.Listing.{list_again, short_again}
use Rattle.cpt_task_text.proofs.Naming.{AreNew, new_from_names}
use Rattle.cpt_task_text.proofs.Numerals.{numeral_again}
use Rattle.cpt_task_text.proofs.Whole.{fits_plain}
use Rattle.cpt_task_text.proofs.FirstFault.{read, at_actions}

some_is : (x y : List ℕ) → Some x ≡ Some y → x ≡ y
some_is x y e = cc

first_there : (text : List ℕ) (n : ℕ) (line : List ℕ) → n ≡ 1 → slice_get (split text).0 (n - 1) ≡ Some line → slice_get (split text).0 0 ≡ Some line
first_there text n line one h = let k : n - 1 ≡ 0 = omega (arith, one) in subst (λ (i : ℕ). slice_get (split text).0 i ≡ Some line) k h

-- ---- the first line

counts_pair : ℕ → ℕ → Result (ℕ × ℕ) TaskTextError
counts_pair atoms actions = Ok (atoms, actions)

-- two counts are read, up to the cap, and then held against the limits
counts_known : (line : List ℕ) (atoms actions : ℕ) (e : TaskTextError) → IsCountLine line atoms actions
    → (within 2048 Atoms (min atoms 1000000001) >>= λ few. within 4096 Actions (min actions 1000000001) >>= λ few. counts_pair (min atoms 1000000001) (min actions 1000000001)) ≡ Err e → counts_in line ≡ Err e
unfolding counts_in counts_pair
counts_known line atoms actions e h q =
    let second : number_in h.second ≡ Some (min actions 1000000001, []) = ap number_in (sym (append-nil h.second)) ∙ numeral_again h.second [] actions h.second_worth refl in
    ap counts_in h.spelled ∙ rw (numeral_again h.first (32 ∷ h.second) atoms h.first_worth refl, second) q

many_atoms : (line : List ℕ) (atoms actions : ℕ) → IsCountLine line atoms actions → 2048 < atoms → counts_in line ≡ Err (errors.Limit Atoms)
unfolding counts_pair
many_atoms line atoms actions h lt =
    let over : 2048 < min atoms 1000000001 = omega (arith, lt) in
    counts_known line atoms actions (errors.Limit Atoms) h (rw (lt-ltb 2048 (min atoms 1000000001) over) refl)

many_actions : (line : List ℕ) (atoms actions : ℕ) → IsCountLine line atoms actions → atoms ≤ 2048 → 4096 < actions → counts_in line ≡ Err (errors.Limit Actions)
unfolding counts_pair
many_actions line atoms actions h le lt =
    let few : min atoms 1000000001 ≤ 2048 = omega (arith, le) in
    let over : 4096 < min actions 1000000001 = omega (arith, lt) in
    counts_known line atoms actions (errors.Limit Actions) h (rw (le-ltb 2048 (min atoms 1000000001) few, lt-ltb 4096 (min actions 1000000001) over) refl)

-- ---- a list that is too long

abbrev Good : ℕ → List ℕ → Type 0
Good count ids = IsStrictlyIncreasing ids × All (λ id. id < count) ids

long_again : (n : ℕ) (keyword : List ℕ) (most count : ℕ) (ids : List ℕ) (lines : List (List ℕ)) (tail : List ℕ) → count ≤ 1000000000 → Good count ids → most < length ids → short_ids_at n keyword most count (list_line keyword ids ∷ lines, tail) ≡ Err (errors.Limit LongList)
unfolding short_ids_at
long_again n keyword most count ids lines tail few good long = rw (list_again n keyword count ids lines tail few good.0 good.1, lt-ltb most (length ids) long) refl

-- the second byte tells the lines apart
abbrev second : List ℕ → ℕ
second line = get_or line 1 0

-- which list a line is
is_pre : (keyword : List ℕ) (most : ℕ) (x y : List ℕ) → HasMost keyword most → list_line (codes "pre") x ≡ list_line keyword y → (keyword ≡ codes "pre") × (most ≡ 64)
is_pre keyword most x y kind e = elim kind [
  | inl p ↦ p
  | inr k ↦ elim k [
    | inl p ↦ absurd (let same : 114 ≡ 100 = ap second (e ∙ ap (λ (w : List ℕ). list_line w y) p.0) in omega (arith, same))
    | inr p ↦ absurd (let same : 114 ≡ 101 = ap second (e ∙ ap (λ (w : List ℕ). list_line w y) p.0) in omega (arith, same))
  ]
]

is_add : (keyword : List ℕ) (most : ℕ) (x y : List ℕ) → HasMost keyword most → list_line (codes "add") x ≡ list_line keyword y → (keyword ≡ codes "add") × (most ≡ 128)
is_add keyword most x y kind e = elim kind [
  | inl p ↦ absurd (let same : 100 ≡ 114 = ap second (e ∙ ap (λ (w : List ℕ). list_line w y) p.0) in omega (arith, same))
  | inr k ↦ elim k [
    | inl p ↦ p
    | inr p ↦ absurd (let same : 100 ≡ 101 = ap second (e ∙ ap (λ (w : List ℕ). list_line w y) p.0) in omega (arith, same))
  ]
]

is_del : (keyword : List ℕ) (most : ℕ) (x y : List ℕ) → HasMost keyword most → list_line (codes "del") x ≡ list_line keyword y → (keyword ≡ codes "del") × (most ≡ 128)
is_del keyword most x y kind e = elim kind [
  | inl p ↦ absurd (let same : 101 ≡ 114 = ap second (e ∙ ap (λ (w : List ℕ). list_line w y) p.0) in omega (arith, same))
  | inr k ↦ elim k [
    | inl p ↦ absurd (let same : 101 ≡ 100 = ap second (e ∙ ap (λ (w : List ℕ). list_line w y) p.0) in omega (arith, same))
    | inr p ↦ p
  ]
]

-- a line with another beginning is no list of an action
not_list : (keyword : List ℕ) (most : ℕ) (line y : List ℕ) (c : ℕ) → HasMost keyword most → line ≡ list_line keyword y → second line ≡ c → (c ≡ 114 → ⊥) → (c ≡ 100 → ⊥) → (c ≡ 101 → ⊥) → ⊥
not_list keyword most line y c kind e is a b d = elim kind [
  | inl p ↦ a (sym is ∙ ap second (e ∙ ap (λ (w : List ℕ). list_line w y) p.0))
  | inr k ↦ elim k [
    | inl p ↦ b (sym is ∙ ap second (e ∙ ap (λ (w : List ℕ). list_line w y) p.0))
    | inr p ↦ d (sym is ∙ ap second (e ∙ ap (λ (w : List ℕ). list_line w y) p.0))
  ]
]

-- ---- a list that is too long, in the place of a list of some action

-- a list that is too long, of this kind
record IsLong (keyword : List ℕ) (most count : ℕ) (ids : List ℕ) : Type 0 where
  pub kind : HasMost keyword most
  pub good : Good count ids
  pub longer : most < length ids

long_action : (actions : List Action) (n k count most : ℕ) (seen : List Action) (keyword short ids : List ℕ) (last lines : List (List ℕ)) (tail : List ℕ) → count ≤ 1000000000 → IsLong keyword most count ids → AllFit count (names_of seen) actions
    → ((j : ℕ) → slice_get last j ≡ Some (list_line keyword short) → ⊥)
    → slice_get (flat_map action_lines actions ++ last) k ≡ Some (list_line keyword short)
    → actions_at (length actions) n count seen (take k (flat_map action_lines actions ++ last) ++ list_line keyword ids ∷ lines, tail) ≡ Err (errors.Limit LongList)
unfolding actions_at action_at
long_action [] n k count most seen keyword short ids last lines tail few long fit none at = absurd (none k at)
long_action (a ∷ actions) n zero count most seen keyword short ids last lines tail few long fit none at =
    absurd (not_list keyword most (head_line a.name a.dur) short 99 long.kind (some_is _ _ at) refl (λ z. omega (arith, z)) (λ z. omega (arith, z)) (λ z. omega (arith, z)))
long_action (a ∷ actions) n (suc zero) count most seen keyword short ids last lines tail few long fit none at =
    let p = is_pre keyword most a.pre short long.kind (some_is _ _ at) in
    let over : 64 < length ids = subst (λ (m : ℕ). m < length ids) p.1 long.longer in
    subst (λ (w : List ℕ). actions_at (suc (length actions)) n count seen (head_line a.name a.dur ∷ list_line w ids ∷ lines, tail) ≡ Err (errors.Limit LongList)) (sym p.0)
    (rw (starts_again n a.name a.dur (list_line (codes "pre") ids ∷ lines) tail fit.0.legal fit.0.lasts, fit.0.new, long_again (n + 1) (codes "pre") 64 count ids lines tail few long.good over) refl)
long_action (a ∷ actions) n (suc (suc zero)) count most seen keyword short ids last lines tail few long fit none at =
    let p = is_add keyword most a.add short long.kind (some_is _ _ at) in
    let over : 128 < length ids = subst (λ (m : ℕ). m < length ids) p.1 long.longer in
    subst (λ (w : List ℕ). actions_at (suc (length actions)) n count seen (head_line a.name a.dur ∷ list_line (codes "pre") a.pre ∷ list_line w ids ∷ lines, tail) ≡ Err (errors.Limit LongList)) (sym p.0)
    (rw (
      starts_again n a.name a.dur (list_line (codes "pre") a.pre ∷ list_line (codes "add") ids ∷ lines) tail fit.0.legal fit.0.lasts,
      fit.0.new,
      short_again (n + 1) (codes "pre") 64 count a.pre (list_line (codes "add") ids ∷ lines) tail few fit.0.lists.pre fit.0.below.pre,
      long_again (n + 2) (codes "add") 128 count ids lines tail few long.good over,
    ) refl)
long_action (a ∷ actions) n (suc (suc (suc zero))) count most seen keyword short ids last lines tail few long fit none at =
    let p = is_del keyword most a.dele short long.kind (some_is _ _ at) in
    let over : 128 < length ids = subst (λ (m : ℕ). m < length ids) p.1 long.longer in
    subst (λ (w : List ℕ). actions_at (suc (length actions)) n count seen (head_line a.name a.dur ∷ list_line (codes "pre") a.pre ∷ list_line (codes "add") a.add ∷ list_line w ids ∷ lines, tail) ≡ Err (errors.Limit LongList)) (sym p.0)
    (rw (
      starts_again n a.name a.dur (list_line (codes "pre") a.pre ∷ list_line (codes "add") a.add ∷ list_line (codes "del") ids ∷ lines) tail fit.0.legal fit.0.lasts,
      fit.0.new,
      short_again (n + 1) (codes "pre") 64 count a.pre (list_line (codes "add") a.add ∷ list_line (codes "del") ids ∷ lines) tail few fit.0.lists.pre fit.0.below.pre,
      short_again (n + 2) (codes "add") 128 count a.add (list_line (codes "del") ids ∷ lines) tail few fit.0.lists.add fit.0.below.add,
      long_again (n + 3) (codes "del") 128 count ids lines tail few long.good over,
    ) refl)
long_action (a ∷ actions) n (suc (suc (suc (suc k)))) count most seen keyword short ids last lines tail few long fit none at =
    let named : names_of (seen ++ a ∷ []) ≡ names_of seen ++ a.name ∷ [] = map_push (λ (b : Action). b.name) seen a in
    let rest = take k (flat_map action_lines actions ++ last) ++ list_line keyword ids ∷ lines in
    rw (starts_again n a.name a.dur (list_lines a ++ rest) tail fit.0.legal fit.0.lasts, fit.0.new, action_again n count a rest tail few fit.0.lists fit.0.below)
    (long_action actions (n + 4) k count most (seen ++ a ∷ []) keyword short ids last lines tail few long (subst (λ (names : List (List ℕ)). AllFit count names actions) (sym named) fit.1) none at)

-- past the lines of atoms
past_atoms : (X : Type 0) (names : List (List ℕ)) (n k : ℕ) (seen last lines : List (List ℕ)) (place line tail : List ℕ) (next : List (List ℕ) × Rest → Result X TaskTextError) (e : TaskTextError) → AreNew seen names
    → ((name : List ℕ) → atom_line name ≡ place → ⊥) → slice_get (map atom_line names ++ last) k ≡ Some place
    → ((all : List (List ℕ)) (j : ℕ) → slice_get last j ≡ Some place → next (all, (take j last ++ line ∷ lines, tail)) ≡ Err e)
    → (atoms_at (length names) n seen (take k (map atom_line names ++ last) ++ line ∷ lines, tail) >>= next) ≡ Err e
unfolding atoms_at
past_atoms X [] n k seen last lines place line tail next e new none at h = h seen k at
past_atoms X (name ∷ names) n zero seen last lines place line tail next e new none at h = absurd (none name (some_is _ _ at))
past_atoms X (name ∷ names) n (suc k) seen last lines place line tail next e new none at h =
    rw (atom_again n name (take k (map atom_line names ++ last) ++ line ∷ lines) tail new.0, new.1) (past_atoms X names (n + 1) k (seen ++ name ∷ []) last lines place line tail next e new.2 none at h)

last_none : (init goal keyword short : List ℕ) (most j : ℕ) → HasMost keyword most → slice_get (list_line (codes "init") init ∷ list_line (codes "goal") goal ∷ []) j ≡ Some (list_line keyword short) → ⊥
last_none init goal keyword short most zero kind at =
    not_list keyword most (list_line (codes "init") init) short 110 kind (some_is _ _ at) refl (λ z. omega (arith, z)) (λ z. omega (arith, z)) (λ z. omega (arith, z))
last_none init goal keyword short most (suc zero) kind at =
    not_list keyword most (list_line (codes "goal") goal) short 111 kind (some_is _ _ at) refl (λ z. omega (arith, z)) (λ z. omega (arith, z)) (λ z. omega (arith, z))
last_none init goal keyword short most (suc (suc j)) kind at = let z : ⊥ = cc in z

atom_none : (keyword short name : List ℕ) (most : ℕ) → HasMost keyword most → atom_line name ≡ list_line keyword short → ⊥
atom_none keyword short name most kind e =
    not_list keyword most (atom_line name) short 116 kind e refl (λ z. omega (arith, z)) (λ z. omega (arith, z)) (λ z. omega (arith, z))

-- a text that is a plain task up to a list that is too long
long_read : (t : TaskShape) (k most : ℕ) (keyword short ids : List ℕ) (lines : List (List ℕ)) (tail : List ℕ) → IsPlain t → IsLong keyword most (length t.atoms) ids → slice_get (lines_of t) k ≡ Some (list_line keyword short)
    → read (take k (lines_of t) ++ list_line keyword ids ∷ lines, tail) ≡ Err (errors.Limit LongList)
long_read t zero most keyword short ids lines tail plain long at =
    absurd (not_list keyword most (count_line (length t.atoms) (length t.actions)) short 97 long.kind (some_is _ _ at) refl (λ z. omega (arith, z)) (λ z. omega (arith, z)) (λ z. omega (arith, z)))
long_read t (suc k) most keyword short ids lines tail plain long at =
    let count = length t.atoms in
    let more = length t.actions in
    let low : length t.atoms ≤ 2048 = plain.few_atoms in
    let few : length t.atoms ≤ 1000000000 = omega (arith, low) in
    rw (counts_again count more plain.few_atoms plain.few_actions)
    (past_atoms TaskShape t.atoms 2 k [] (flat_map action_lines t.actions ++ last_lines t) lines (list_line keyword short) (list_line keyword ids) tail (λ atoms. at_actions (count, more) atoms.0 atoms.1) (errors.Limit LongList) (new_from_names [] t.atoms plain.atoms)
    (λ name e. atom_none keyword short name most long.kind e) at
    (λ all j there. rw (long_action t.actions (count + 2) j count most [] keyword short ids (last_lines t) lines tail few long (fits_plain t plain) (λ i e. last_none t.init t.goal keyword short most i long.kind e) there) refl))

-- ---- a text at a limit

cut_at : (xs : List (List ℕ)) (k : ℕ) (line : List ℕ) → slice_get xs k ≡ Some line → xs ≡ take k xs ++ line ∷ drop (suc k) xs
cut_at [] zero line h = absurd cc
cut_at [] (suc k) line h = absurd cc
cut_at (x ∷ xs) zero line h = ap (λ (l : List ℕ). l ∷ xs) (some_is _ _ h)
cut_at (x ∷ xs) (suc k) line h = ap (λ (ls : List (List ℕ)). x ∷ ls) (cut_at xs k line h)

counts_at_limit : (text line : List ℕ) (e : TaskTextError) → slice_get (split text).0 0 ≡ Some line → counts_in line ≡ Err e → task_of text ≡ Err e
unfolding task_of
counts_at_limit text line e there bad = ap (λ (ls : List (List ℕ)). read (ls, (split text).1)) (cut_at (split text).0 0 line there) ∙ rw bad refl

list_at_limit : (text : List ℕ) (n : ℕ) (t : TaskShape) (line : List ℕ) → BeginsAs text (n - 1) t → slice_get (split text).0 (n - 1) ≡ Some line → IsLongerList n t line → task_of text ≡ Err (errors.Limit LongList)
unfolding task_of
list_at_limit text n t line before there h =
    ap (λ (ls : List (List ℕ)). read (ls, (split text).1)) (cut_at (split text).0 (n - 1) line there ∙ ap (λ (ls : List (List ℕ)). ls ++ line ∷ drop (suc (n - 1)) (split text).0) before.same ∙ ap (λ (l : List ℕ). take (n - 1) (lines_of t) ++ l ∷ drop (suc (n - 1)) (split text).0) h.spelled)
    ∙ long_read t (n - 1) h.most h.keyword h.place.0 h.ids (drop (suc (n - 1)) (split text).0) (split text).1 before.plain (record { kind = h.kind; good = (h.increasing, h.below); longer = h.longer }) h.place.1

limit_by : (text : List ℕ) (which : Limit) (n : ℕ) (t : TaskShape) (line : List ℕ) → BeginsAs text (n - 1) t → slice_get (split text).0 (n - 1) ≡ Some line → Passes which n t line → task_of text ≡ Err (errors.Limit which)
limit_by text Atoms n t line before there pass =
    counts_at_limit text line (errors.Limit Atoms) (first_there text n line pass.0 there) (many_atoms line pass.1 pass.2 pass.3 pass.4)
limit_by text Actions n t line before there pass =
    counts_at_limit text line (errors.Limit Actions) (first_there text n line pass.0 there) (many_actions line pass.1 pass.2 pass.3 pass.4 pass.5)
limit_by text LongList n t line before there pass = list_at_limit text n t line before there pass
limit_by text File n t line before there pass = absurd pass
limit_by text Certificate n t line before there pass = absurd pass
limit_by text Nesting n t line before there pass = absurd pass
limit_by text Objects n t line before there pass = absurd pass
limit_by text Parameters n t line before there pass = absurd pass
limit_by text Instances n t line before there pass = absurd pass
limit_by text Start n t line before there pass = absurd pass

-- a text at a limit is answered by it
pub limits_law : (text : List ℕ) (which : Limit) (n : ℕ) → IsAtLimit text which n → task_of text ≡ Err (errors.Limit which)
limits_law text which n h = limit_by text which n h.task h.line h.before h.there h.passed
