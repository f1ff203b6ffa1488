use Rattle.std.proofs.Common.{◌≡◌, ℕ, zero, suc, ◌+◌, ◌-◌, ◌<◌, ◌≤◌, Bool, true, false, not, ◌&&◌, ◌||◌, nat_eq, List, [], ◌∷◌, refl, ◌∙◌, sym, ap, subst, arith, All, Contains, add-suc, add-zero}
use Rattle.std.specs.List.{list_any}
use Rattle.std.proofs.lemmas.Bool.Decides.{nat_tests}
use Rattle.std.proofs.lemmas.List.Elements.{All-contains}
use Rattle.std.proofs.lemmas.List.Folds.{list_any-append, list_any-from_Any, Any-from_list_any}
use Rattle.std.proofs.lemmas.List.Sorted.{list_any-IsPermutation}
use Rattle.cpt_task.specs.declared.plan.Occ.{Occ}
use Rattle.cpt_task.specs.declared.register.Role.{Role}
use Rattle.cpt_task.specs.declared.register.Role.TheVariants.{Add, Dele}
use Rattle.cpt_task.specs.declared.register.Border.TheVariants.{End}
use Rattle.cpt_task.specs.declared.register.Mark.{Mark}
use Rattle.cpt_task.specs.Shape.{TaskShape}
use Rattle.cpt_task.specs.Timeline.{action_of, end_of, is_in, adds_at, deletes_at, holds_at, HoldsThen}
use Rattle.cpt_task.specs.Register.{atoms_in, marks_at, marks_of, IsMarks, NoMarkUpTo, IsLastMark}
use Rattle.cpt_task.proofs.Changing.{false_from}

abbrev mark : ℕ → ℕ → Mark
mark p s = record { atom = p; time = s }

abbrev is_at : ℕ → ℕ → Mark → Bool
is_at p s m = nat_eq p m.atom && nat_eq m.time s

-- some occurrence that has the atom in the list ends at that moment
abbrev ends_at : TaskShape → Role → List Occ → ℕ → ℕ → Bool
ends_at t r plan s p = list_any (λ o. nat_eq (end_of t o) s && is_in p (atoms_in r (action_of t o))) plan

join_at : (x b r : Bool) → ((x && b) || (b && r)) ≡ (b && (x || r))
join_at true true r = refl
join_at true false r = refl
join_at false b r = refl

none_at : (b : Bool) → false ≡ (b && false)
none_at true = refl
none_at false = refl

any_at : (p s en : ℕ) (qs : List ℕ) → list_any (is_at p s) (marks_at en qs) ≡ (nat_eq en s && is_in p qs)
any_at p s en [] = none_at (nat_eq en s)
any_at p s en (q ∷ qs) = ap (λ b. (nat_eq p q && nat_eq en s) || b) (any_at p s en qs) ∙ join_at (nat_eq p q) (nat_eq en s) (is_in p qs)

any_of : (t : TaskShape) (r : Role) (p s : ℕ) (plan : List Occ) → list_any (is_at p s) (marks_of t r End plan) ≡ ends_at t r plan s p
any_of t r p s [] = refl
any_of t r p s (o ∷ os) =
    list_any-append (is_at p s) (marks_at (end_of t o) (atoms_in r (action_of t o))) (marks_of t r End os)
    ∙ ap (λ b. b || list_any (is_at p s) (marks_of t r End os)) (any_at p s (end_of t o) (atoms_in r (action_of t o)))
    ∙ ap (λ b. (nat_eq (end_of t o) s && is_in p (atoms_in r (action_of t o))) || b) (any_of t r p s os)

-- the sorted marks tell who ends when
any_marks : (t : TaskShape) (plan : List Occ) (r : Role) (ms : List Mark) (p s : ℕ) → IsMarks t plan r End ms → ends_at t r plan s p ≡ list_any (is_at p s) ms
any_marks t plan r ms p s m = sym (any_of t r p s plan) ∙ list_any-IsPermutation (is_at p s) (marks_of t r End plan) ms m.same

is_at_itself : (p s : ℕ) → is_at p s (mark p s) ≡ true
is_at_itself p s = grind (arith, nat_tests)

at_cases : (p s a e : ℕ) → (nat_eq p a && nat_eq e s) ≡ true → (a ≡ p) × (e ≡ s)
at_cases p s a e h = (grind (arith, nat_tests), grind (arith, nat_tests))

at_is : (p s : ℕ) (m : Mark) → is_at p s m ≡ true → m ≡ mark p s
at_is p s m h = let e = at_cases p s m.atom m.time h in ap (λ a. mark a m.time) e.0 ∙ ap (mark p) e.1

pub ends_from_mark : (t : TaskShape) (plan : List Occ) (r : Role) (ms : List Mark) (p s : ℕ) → IsMarks t plan r End ms → Contains ms (mark p s) → ends_at t r plan s p ≡ true
ends_from_mark t plan r ms p s m has = any_marks t plan r ms p s m ∙ list_any-from_Any (is_at p s) ms (has.0, mark p s, has.1, has.2, is_at_itself p s)

pub mark_from_ends : (t : TaskShape) (plan : List Occ) (r : Role) (ms : List Mark) (p s : ℕ) → IsMarks t plan r End ms → ends_at t r plan s p ≡ true → Contains ms (mark p s)
mark_from_ends t plan r ms p s m h =
    let a = Any-from_list_any (is_at p s) ms (sym (any_marks t plan r ms p s m) ∙ h) in
    subst (Contains ms) (at_is p s a.1 a.4) (a.0, a.2, a.3)

stays_step : (h d a : Bool) → h ≡ true → d ≡ false → ((h && not d) || a) ≡ true
stays_step true false a e f = refl
stays_step true true a e f = cc
stays_step false d a e f = cc

-- what is not deleted stays
pub stays_for : (t : TaskShape) (plan : List Occ) (p from k : ℕ) → ((s : ℕ) → from < s → s ≤ from + k → deletes_at t plan s p ≡ false) → holds_at t plan from p ≡ true → holds_at t plan (from + k) p ≡ true
stays_for t plan p from zero h now = rw add-zero now
stays_for t plan p from (suc k) h now =
    let before : holds_at t plan (from + k) p ≡ true = stays_for t plan p from k (λ s low high. h s low (omega arith)) now in
    rw add-suc (stays_step (holds_at t plan (from + k) p) (deletes_at t plan (suc (from + k)) p) (adds_at t plan (suc (from + k)) p) before (h (suc (from + k)) (omega arith) (omega arith)))

pub stays : (t : TaskShape) (plan : List Occ) (p from time : ℕ) → from ≤ time → ((s : ℕ) → from < s → s ≤ time → deletes_at t plan s p ≡ false) → holds_at t plan from p ≡ true → HoldsThen t plan time p
stays t plan p from time le none now =
    let e : from + (time - from) ≡ time = omega arith in
    subst (λ s. holds_at t plan s p ≡ true) e (stays_for t plan p from (time - from) (λ s low high. none s low (omega (arith, e))) now)

added_step : (x a : Bool) → a ≡ true → (x || a) ≡ true
added_step true a e = refl
added_step false a e = e

added : (t : TaskShape) (plan : List Occ) (p s : ℕ) → 0 < s → adds_at t plan s p ≡ true → holds_at t plan s p ≡ true
added t plan p zero pos h = absurd (omega arith)
added t plan p (suc s) pos h = added_step (holds_at t plan s p && not (deletes_at t plan (suc s) p)) (adds_at t plan (suc s) p) h

ends_late : (e s st : ℕ) (b : Bool) → (nat_eq e s && b) ≡ true → st < e → 0 < s
ends_late e s st b h lt = grind (arith, nat_tests)

positive : (t : TaskShape) (plan : List Occ) (r : Role) (p s : ℕ) → All (λ o. o.start < end_of t o) plan → ends_at t r plan s p ≡ true → 0 < s
positive t plan r p s long h =
    let a = Any-from_list_any (λ o. nat_eq (end_of t o) s && is_in p (atoms_in r (action_of t o))) plan h in
    ends_late (end_of t a.1) s a.1.start (is_in p (atoms_in r (action_of t a.1))) a.4 (All-contains (λ o. o.start < end_of t o) plan a.1 long (a.0, a.2, a.3))

none_deleted : (t : TaskShape) (plan : List Occ) (gone : List Mark) (p s : ℕ) → IsMarks t plan Dele End gone → (Contains gone (mark p s) → ⊥) → deletes_at t plan s p ≡ false
none_deleted t plan gone p s m never = false_from (deletes_at t plan s p) (λ h. never (mark_from_ends t plan Dele gone p s m h))

-- an initial atom that nothing deletes holds
pub holds_from_init : (t : TaskShape) (plan : List Occ) (gone : List Mark) (p time : ℕ) → IsMarks t plan Dele End gone → NoMarkUpTo gone p time → is_in p t.init ≡ true → HoldsThen t plan time p
holds_from_init t plan gone p time m none there = stays t plan p 0 time (omega arith) (λ s low high. none_deleted t plan gone p s m (λ has. none s has high)) there

-- an atom that was added and that nothing deletes after holds
pub holds_from_add : (t : TaskShape) (plan : List Occ) (gone came : List Mark) (p time a : ℕ) → IsMarks t plan Dele End gone → IsMarks t plan Add End came → IsLastMark came p time a
    → ((s : ℕ) → Contains gone (mark p s) → a < s → s ≤ time → ⊥) → HoldsThen t plan time p
holds_from_add t plan gone came p time a md ma last none =
    let adds : adds_at t plan a p ≡ true = ends_from_mark t plan Add came p a ma last.there in
    stays t plan p a time last.within (λ s low high. none_deleted t plan gone p s md (λ has. none s has low high)) (added t plan p a (positive t plan Add p a ma.lasting adds) adds)

pub holds_unless_deleted : (t : TaskShape) (plan : List Occ) (gone came : List Mark) (p time a : ℕ) → IsMarks t plan Dele End gone → IsMarks t plan Add End came → IsLastMark came p time a → NoMarkUpTo gone p time → HoldsThen t plan time p
holds_unless_deleted t plan gone came p time a md ma last none = holds_from_add t plan gone came p time a md ma last (λ s has low high. none s has high)

pub holds_after_deleted : (t : TaskShape) (plan : List Occ) (gone came : List Mark) (p time a d : ℕ) → IsMarks t plan Dele End gone → IsMarks t plan Add End came → IsLastMark came p time a → IsLastMark gone p time d → d ≤ a → HoldsThen t plan time p
holds_after_deleted t plan gone came p time a d md ma last lost le = holds_from_add t plan gone came p time a md ma last (λ s has low high. let h : s ≤ d = lost.last s has high in omega (arith, h, low, le))
