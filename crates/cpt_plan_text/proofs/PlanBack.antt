use Rattle.std.proofs.Common.{◌≡◌, ℕ, ◌+◌, ◌<◌, ◌≤◌, eqb, ltb, true, false, List, [], ◌∷◌, ◌++◌, length, map, get_or, All, None, Some, Result, Ok, refl, sym, subst, ap, ◌∙◌, arith, append_assoc}
use Rattle.std.specs.List.{range_with_len}
use Rattle.std.proofs.lemmas.Bool.Decides.{nat_tests}
use Rattle.std.proofs.lemmas.List.{get_or-map, length-map}
use Rattle.std.proofs.lemmas.List.Elements.{All-head, All-tail}
use Rattle.std.proofs.lemmas.List.Sorted.{All-permutation}
use Rattle.std.specs.List.Sorted.{IsPermutation}
use Rattle.cpt_task.specs.declared.task.Action.{Action}
use Rattle.cpt_task.specs.declared.plan.Occ.{Occ}
use Rattle.cpt_task.specs.Shape.{TaskShape, InBounds}
use Rattle.cpt_task.specs.Timeline.{IsOccurrence, IsPlan, action_of, idle}
use Rattle.cpt_line.specs.Names.{AreNames, is_name}
use Rattle.cpt_plan_text.specs.declared.roster.Found.{Found}
use Rattle.cpt_plan_text.specs.declared.roster.Found.TheVariants.{Known}
use Rattle.cpt_plan_text.specs.declared.reading.Item.{Item}
use Rattle.cpt_plan_text.specs.declared.reading.PlanTextError.{PlanTextError}
use Rattle.cpt_plan_text.specs.Grammar.{line_in}
use Rattle.cpt_plan_text.specs.Knowing.{task_finds}
use Rattle.cpt_plan_text.specs.Meaning.{◌>>=◌, said_at, item_at, items_in, lines_of, occ_at, occs_of, plan_of, duration_of}
use Rattle.cpt_plan_text.specs.Spelling.{spelled_line, plan_spelling, in_lines, IsInPrintOrder, IsTextOf}
use Rattle.cpt_plan_text.proofs.Finding.{first_known}
use Rattle.cpt_plan_text.proofs.LineBack.{line_of_parts, line_back, line_first}

-- what a task has to be so that its printed plans are read again
pub record IsPlain (t : TaskShape) : Type 0 where
  pub bounds : InBounds t
  pub names : AreNames (map (λ (a : Action). a.name) t.actions)

name_at : (t : TaskShape) (k : ℕ) → k < length t.actions → get_or (map (λ (a : Action). a.name) t.actions) k [] ≡ (get_or t.actions k idle).name
name_at t k h = get_or-map (λ (a : Action). a.name) t.actions k idle [] h

name_legal : (t : TaskShape) (k : ℕ) → IsPlain t → k < length t.actions → is_name (get_or t.actions k idle).name ≡ true
name_legal t k plain h =
    let few : k < length (map (λ (a : Action). a.name) t.actions) = simp length-map h in
    subst (λ name. is_name name ≡ true) (name_at t k h) (plain.names.legal k [] few)

name_found : (t : TaskShape) (k : ℕ) → IsPlain t → k < length t.actions → task_finds t (get_or t.actions k idle).name ≡ Known k
name_found t k plain h =
    let few : k < length (map (λ (a : Action). a.name) t.actions) = simp length-map h in
    first_known t (get_or t.actions k idle).name k
    (record { here = (h, refl); none_before = λ j lt other. plain.names.distinct j k lt few (name_at t j other.0 ∙ other.1 ∙ sym (name_at t k h)) })

-- the entry of an occurrence that is printed in line k
abbrev item_of : TaskShape → ℕ → Occ → Item
item_of t k o = record { line = k; start = o.start; act = Some o.act; right = duration_of t o.act; dur = Some (duration_of t o.act) }

parts_of : (t : TaskShape) (o : Occ) → spelled_line t o ≡ line_of_parts o.start (action_of t o).name (action_of t o).dur
parts_of t o = simp append_assoc

-- an occurrence that is printed and read again
record IsPrintable (t : TaskShape) (o : Occ) : Type 0 where
  pub within : o.act < length t.actions
  pub early : o.start ≤ 1000000000

small_duration : (t : TaskShape) (k : ℕ) → IsPlain t → k < length t.actions → (get_or t.actions k idle).dur < 4294967296
small_duration t k plain h = let p = plain.bounds.durations k idle h in omega (arith, p.1)

early_passes : (n : ℕ) → n ≤ 1000000000 → ltb 1000000000 n ≡ false
early_passes n h = grind (arith, nat_tests)

said_back : (t : TaskShape) (k : ℕ) (o : Occ) → IsPlain t → IsPrintable t o → said_at (task_finds t) t k (Some (Some (record { start = o.start; name = (action_of t o).name; dur = Some (action_of t o).dur }))) ≡ Ok (Some (item_of t k o))
said_back t k o plain printable = rw (name_found t o.act plain printable.within, early_passes o.start printable.early) refl

item_back : (t : TaskShape) (k : ℕ) (o : Occ) → IsPlain t → IsPrintable t o → item_at (task_finds t) t k (spelled_line t o) ≡ Ok (Some (item_of t k o))
unfolding item_at
item_back t k o plain printable =
    ap (said_at (task_finds t) t k) (ap line_in (parts_of t o)
    ∙ line_back o.start (action_of t o).name (action_of t o).dur (omega (arith, printable.early)) (name_legal t o.act plain printable.within) (small_duration t o.act plain printable.within))
    ∙ said_back t k o plain printable

-- the entries of occurrences that are printed from line k on
abbrev items_of : TaskShape → ℕ → List Occ → List Item
items_of t k [] = []
items_of t k (o ∷ os) = item_of t k o ∷ items_of t (k + 1) os

empty_line : (finds : List ℕ → Found) (t : TaskShape) (k : ℕ) → item_at finds t k [] ≡ Ok None
unfolding item_at line_in
empty_line finds t k = refl

items_back : (t : TaskShape) (k : ℕ) (plan : List Occ) → IsPlain t → All (IsPrintable t) plan → items_in (task_finds t) t k (map (spelled_line t) plan ++ [] ∷ []) ≡ Ok (items_of t k plan)
items_back t k [] plain printable = rw (empty_line (task_finds t) t k) refl
items_back t k (o ∷ os) plain printable =
    let first = item_back t k o plain (All-head (IsPrintable t) o os printable) in
    let more = items_back t (k + 1) os plain (All-tail (IsPrintable t) o os printable) in
    rw (first, more) refl

same_passes : (n : ℕ) → eqb n n ≡ true
same_passes n = grind (arith, nat_tests)

occ_back : (t : TaskShape) (k : ℕ) (o : Occ) → occ_at (item_of t k o) ≡ Ok o
unfolding occ_at
occ_back t k o = rw (same_passes (duration_of t o.act)) refl

occs_back : (t : TaskShape) (k : ℕ) (plan : List Occ) → occs_of (items_of t k plan) ≡ Ok (record { occs = plan; lines = range_with_len k (length plan) })
occs_back t k [] = refl
occs_back t k (o ∷ os) = rw (occ_back t k o, occs_back t (k + 1) os) refl

first_line_back : (t : TaskShape) (o : Occ) (rest : List ℕ) → IsPlain t → IsPrintable t o → lines_of ((spelled_line t o ++ 10 ∷ []) ++ rest) ≡ spelled_line t o ∷ lines_of rest
first_line_back t o rest plain printable =
    let name = (action_of t o).name in
    let dur = (action_of t o).dur in
    let parts : List ℕ = line_of_parts o.start name dur in
    let e : (spelled_line t o ++ 10 ∷ []) ++ rest ≡ parts ++ 10 ∷ rest = append_assoc (spelled_line t o) (10 ∷ []) rest ∙ ap (λ (l : List ℕ). l ++ 10 ∷ rest) (parts_of t o) in
    ap lines_of e
    ∙ ap (λ (p : List (List ℕ) × List ℕ). p.0 ++ p.1 ∷ []) (line_first o.start name dur rest (omega (arith, printable.early)) (name_legal t o.act plain printable.within) (small_duration t o.act plain printable.within))
    ∙ ap (λ (l : List ℕ). l ∷ lines_of rest) (sym (parts_of t o))

lines_back : (t : TaskShape) (plan : List Occ) → IsPlain t → All (IsPrintable t) plan → lines_of (plan_spelling t plan) ≡ map (spelled_line t) plan ++ [] ∷ []
lines_back t [] plain printable = refl
lines_back t (o ∷ os) plain printable =
    first_line_back t o (plan_spelling t os) plain (All-head (IsPrintable t) o os printable)
    ∙ ap (λ (ls : List (List ℕ)). spelled_line t o ∷ ls) (lines_back t os plain (All-tail (IsPrintable t) o os printable))

read_back : (t : TaskShape) (plan : List Occ) → IsPlain t → All (IsPrintable t) plan → plan_of (task_finds t) t (plan_spelling t plan) ≡ Ok (in_lines plan)
unfolding plan_of
read_back t plan plain printable =
    ap (λ (ls : List (List ℕ)). items_in (task_finds t) t 1 ls >>= occs_of) (lines_back t plan plain printable)
    ∙ ap (λ (r : Result (List Item) PlanTextError). r >>= occs_of) (items_back t 1 plan plain printable)
    ∙ occs_back t 1 plan

-- the text of a plan is read as that plan
pub printed_back : (t : TaskShape) (plan : List Occ) → InBounds t → AreNames (map (λ a. a.name) t.actions) → IsPlan t plan → All (λ o. o.start ≤ 1000000000) plan → plan_of (task_finds t) t (plan_spelling t plan) ≡ Ok (in_lines plan)
printed_back t plan bounds names of_task early =
    read_back t plan (record { bounds = bounds; names = names }) (λ k d lt. record { within = of_task k d lt; early = early k d lt })

-- the printed text of a plan is read as the same occurrences in printed order
pub text_back : (t : TaskShape) (plan : List Occ) (text : List ℕ) → InBounds t → AreNames (map (λ a. a.name) t.actions) → IsPlan t plan → All (λ o. o.start ≤ 1000000000) plan → IsTextOf t plan text
    → (sorted : List Occ) × IsPermutation plan sorted × IsInPrintOrder sorted × (plan_of (task_finds t) t text ≡ Ok (in_lines sorted))
text_back t plan text bounds names of_task early printed =
    let sorted = printed.0 in
    let same = printed.1 in
    let read = printed_back t sorted bounds names (All-permutation (IsOccurrence t) plan sorted same of_task) (All-permutation (λ (o : Occ). o.start ≤ 1000000000) plan sorted same early) in
    (sorted, same, printed.2, ap (plan_of (task_finds t) t) printed.3 ∙ read)
