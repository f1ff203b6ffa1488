-- a layout's lists of a task
use Rattle.std.proofs.Common.{◌≡◌, ℕ, suc, zero, ◌+◌, ◌≤◌, ◌<◌, List, [], ◌∷◌, ◌++◌, Bool, length, get_or, refl, sym, ◌∙◌, ap, subst, arith, inl, inr}
use Rattle.std.proofs.lemmas.Bool.{cases_lt}
use Rattle.std.proofs.lemmas.List.Elements.{All-contains}
use Rattle.std.proofs.Math.ListN.{get_or-eq_default}
use Rattle.cpt_task.specs.declared.task.Action.{Action}
use Rattle.cpt_task.specs.Shape.{TaskShape, InBounds}
use Rattle.cpt_task.specs.Timeline.{idle, is_in}
use Rattle.cpt_tables.specs.Admissible.{nth_action}
use Rattle.cpt_tables.proofs.PlanFacts.{contains_from_in}
use Rattle.cpt_sheet.specs.declared.data.Kind.{Kind}
use Rattle.cpt_sheet.specs.declared.data.Kind.TheVariants.{Start, End, Act}
use Rattle.cpt_sheet.specs.Roles.{needs_of}
use Rattle.cpt_layout.specs.Places.{Frame, In, NoTwice, extended, needs_by, table}
use Rattle.cpt_layout.proofs.Lists.{either, get_at, if_false, if_true, in_append, length-table, table_snoc}
use Rattle.cpt_block.specs.Blocks.{IsFrameOf, action_adders}
use Rattle.cpt_cells.specs.Roots.{adder_lists, frame_for, pre_lists}

-- the first actions that add the atom are below their number
adders_below : (t : TaskShape) (p n a : ℕ) → In a (action_adders t p n) → a < n
adders_below t p zero a h = absurd h
adders_below t p (suc n) a h =
    let xs : List ℕ = action_adders t p n in
    let b : Bool = is_in p (nth_action t n).add in
    elim (either b) [
      | inl e ↦
          elim (in_append a xs (n ∷ []) (subst (λ (ys : List ℕ). In a ys) (if_true b (xs ++ n ∷ []) xs e) h)) [
            | inl i ↦ (let r = adders_below t p n a i in omega arith)
            | inr i ↦ elim i [ inl q ↦ (let l : n ≡ a = q in omega arith) | inr q ↦ absurd q ]
          ]
      | inr e ↦ (let r = adders_below t p n a (subst (λ (ys : List ℕ). In a ys) (if_false b (xs ++ n ∷ []) xs e) h) in omega arith)
    ]

once_snoc : (xs : List ℕ) (n : ℕ) → (In n xs → ⊥) → NoTwice xs → NoTwice (xs ++ n ∷ [])
once_snoc [] n h k = ((λ i. i), tt)
once_snoc (x ∷ xs) n h k = (
  (λ i. elim (in_append x xs (n ∷ []) i) [ inl j ↦ k.0 j | inr j ↦ elim j [ inl q ↦ h (inl (sym q)) | inr z ↦ z ] ]),
  once_snoc xs n (λ i. h (inr i)) k.1,
)

adders_once : (t : TaskShape) (p n : ℕ) → NoTwice (action_adders t p n)
adders_once t p zero = tt
adders_once t p (suc n) =
    let xs : List ℕ = action_adders t p n in
    let b : Bool = is_in p (nth_action t n).add in
    let r : NoTwice xs = adders_once t p n in
    elim (either b) [
      | inl e ↦ subst (λ (ys : List ℕ). NoTwice ys) (sym (if_true b (xs ++ n ∷ []) xs e)) (once_snoc xs n (λ i. (let l = adders_below t p n n i in absurd (omega arith))) r)
      | inr e ↦ subst (λ (ys : List ℕ). NoTwice ys) (sym (if_false b (xs ++ n ∷ []) xs e)) r
    ]

-- nobody adds what is no atom
none_add : (t : TaskShape) (p n : ℕ) → InBounds t → length t.atoms ≤ p → n ≤ length t.actions → action_adders t p n ≡ []
none_add t p zero h l m = refl
none_add t p (suc n) h l m =
    let xs : List ℕ = action_adders t p n in
    let b : Bool = is_in p (nth_action t n).add in
    let r : xs ≡ [] = none_add t p n h l (omega arith) in
    elim (either b) [
      | inl e ↦
          (let k : n < length t.actions = omega arith in
          let below : p < length t.atoms = All-contains (λ q. q < length t.atoms) (nth_action t n).add p (h.actions n idle k).add (contains_from_in (nth_action t n).add p e) in
          absurd (omega arith))
      | inr e ↦ if_false b (xs ++ n ∷ []) xs e ∙ r
    ]

-- the list of a number in a table, where past the end there is the same
in_lists : (f : ℕ → List ℕ) (n i : ℕ) → (n ≤ i → f i ≡ []) → get_or (table f 0 n) i [] ≡ f i
in_lists f n i h =
    elim (cases_lt i n) [
      | inl l ↦ get_at f 0 n i [] l ∙ ap f (let z : 0 + i ≡ i = omega arith in z)
      | inr l ↦ get_or-eq_default (table f 0 n) [] (let e = length-table f 0 n in omega arith) ∙ sym (h (omega arith))
    ]

adders_are : (t : TaskShape) (p : ℕ) → InBounds t → get_or (adder_lists t) p [] ≡ action_adders t p (length t.actions)
adders_are t p h = in_lists (λ (q : ℕ). action_adders t q (length t.actions)) (length t.atoms) p (λ l. none_add t p (length t.actions) h l (omega arith))

pre_are : (t : TaskShape) (a : ℕ) → get_or (pre_lists t) a [] ≡ (nth_action t a).pre
pre_are t a = in_lists (λ (b : ℕ). (nth_action t b).pre) (length t.actions) a (λ l. ap (λ (z : Action). z.pre) (get_or-eq_default t.actions idle l))

needs_are : (t : TaskShape) (b : ℕ) (k : Kind) → needs_by (frame_for t b) k ≡ needs_of t k
needs_are t b Start = refl
needs_are t b End = refl
needs_are t b (Act a) = pre_are t a

pub frame_ok : (t : TaskShape) (b : ℕ) → InBounds t → IsFrameOf t (frame_for t b)
frame_ok t b h = record {
  count = length-table (λ (a : ℕ). (nth_action t a).pre) 0 (length t.actions);
  needs = needs_are t b;
  adders = λ p. adders_are t p h;
}

-- nobody stands twice among the adders of an atom
pub lists_once : (t : TaskShape) (p : ℕ) → InBounds t → NoTwice (get_or (adder_lists t) p [])
lists_once t p h = subst (λ (xs : List ℕ). NoTwice xs) (sym (adders_are t p h)) (adders_once t p (length t.actions))

-- a frame of a task has its lists with further tokens too
pub frame_more : (t : TaskShape) (f : Frame) (ks : List Kind) → IsFrameOf t f → IsFrameOf t (extended f ks)
frame_more t f ks h = record { count = h.count; needs = λ k. needs_more f ks k ∙ h.needs k; adders = h.adders }
  where
    needs_more : (f : Frame) (ks : List Kind) (k : Kind) → needs_by (extended f ks) k ≡ needs_by f k
    needs_more f ks Start = refl
    needs_more f ks End = refl
    needs_more f ks (Act a) = refl

-- a list more
pub table_next : (f : ℕ → List ℕ) (xs ys : List (List ℕ)) (n : ℕ) (x : List ℕ) → xs ≡ table f 0 n → ys ≡ xs ++ x ∷ [] → x ≡ f n → ys ≡ table f 0 (n + 1)
table_next f xs ys n x h k e =
    let z : n ≡ 0 + n = omega arith in
    let o : suc n ≡ n + 1 = omega arith in
    k ∙ (ap (λ (zs : List (List ℕ)). zs ++ x ∷ []) h ∙ (ap (λ (y : List ℕ). table f 0 n ++ y ∷ []) (e ∙ ap f z) ∙ (sym (table_snoc f 0 n) ∙ ap (λ (i : ℕ). table f 0 i) o)))
