-- where legal steps land
use Rattle.std.proofs.Common.{ℕ, ◌<◌, length, refl, sym, subst, lit≤}
use Rattle.cpt_task.specs.Shape.{TaskShape}
use Rattle.cpt_sheet.specs.declared.data.Cand.{Cand}
use Rattle.cpt_sheet.specs.declared.data.Cand.TheVariants.{Tok, Out}
use Rattle.cpt_sheet.specs.declared.data.Sheet.{Sheet}
use Rattle.cpt_sheet.specs.declared.data.Step.{Step}
use Rattle.cpt_sheet.specs.declared.data.Step.TheVariants.{R1, R2, R3, R4, R5, R6, R7, R8, R9After, R9Ahead, R10, R11After, R11Ahead, R12After, R12Ahead, R13}
use Rattle.cpt_sheet.specs.View.{kind_of, cands}
use Rattle.cpt_sheet.specs.Formed.{IsFormed}
use Rattle.cpt_calculus.specs.Rules.{Allowed, change_of, only}
use Rattle.cpt_calculus.specs.Rules.{IsToken}
use Rattle.cpt_calculus.specs.Rules.{narrowed}
use Rattle.cpt_task.specs.declared.span.Span.{Span}
use Rattle.cpt_tables.specs.Spans.{IsBelow}
use Rattle.cpt_tables.proofs.SpanLemmas.{below_more}
use Rattle.cpt_sheet.specs.declared.data.Change.TheVariants.{Take, Post}
use Rattle.cpt_sheet.specs.Edits.{changed}
use Rattle.cpt_sheet.specs.Formed.{IsPlaced}
use Rattle.cpt_calculus.specs.Rules.{IsListed, Moves}
use Rattle.cpt_calculus.proofs.Below.{posted_here}
pub use Rattle.cpt_calculus.proofs.Reading.{nothing_in, token_there, need_there, deleter_there, first_there, lone_there, one_only, action_there, deletes_there, needs_there, clash_there}
use Rattle.cpt_calculus.proofs.Keeps.{step_formed}
use Rattle.cpt_steps.specs.Landing.{subject_of, IsThere, CanMake, LandsThere, ClosedWhereAll, StepsCanBeMade, SameChange}

-- the token that a list of one token names is there
only_there : (t : TaskShape) (s : Sheet) (x p y : ℕ) → IsFormed t s → IsToken (cands s x p) y → only (cands s x p) < length s.tokens
only_there t s x p y f e = subst (λ z. z < length s.tokens) (sym (one_only s x p y e)) (lone_there t s x p y f e)

pub lands_there : LandsThere
lands_there t w s step f legal = go step legal.allowed
  where
    go : (step : Step) → Allowed t w s step → IsThere t s (subject_of (change_of s step))
    go (R1 x y v) h = (f.orders x y h.order).second
    go (R2 x y v) h = (f.orders x y h.order).first
    go (R3 x y) h = first_there t s x (kind_of s (Tok y)) h.clash
    go (R4 x p v) h = need_there s x p h.need
    go (R5 x p c) h = need_there s x p h.listed.need
    go (R6 x p) h = only_there t s x p h.one.0 f h.one.1
    go (R7 x p a) h = need_there s x p h.listed.need
    go (R8 x p c d) h = need_there s x p h.listed.need
    go (R9After x p d) h = need_there s x p h.1.need
    go (R9Ahead x p d) h = deleter_there t s d p h.1.deletes
    go (R10 a p v) h = needs_there t a p h.need
    go (R11After x p a v) h = deletes_there t a p h.1.deletes
    go (R11Ahead x p a v) h = deletes_there t a p h.1.deletes
    go (R12After x a v) h = clash_there t (kind_of s (Tok x)) a h.clash
    go (R12Ahead x a v) h = clash_there t (kind_of s (Tok x)) a h.clash
    go (R13 x p c q) h = need_there s x p h.listed.need

pub closed_where_all : ClosedWhereAll
closed_where_all rules t b s f h step o legal = h (subject_of (change_of s step)) (lands_there t b s step f legal) step o legal refl

-- the order that a legal step posts is between two tokens of the sheet
placed_before : (t : TaskShape) (s : Sheet) (x y : ℕ) → IsFormed t (changed s (Post x y)) → IsPlaced s x y
placed_before t s x y f =
    let k = f.orders x y (posted_here x y s.orders) in
    record { first = k.first; second = k.second; different = k.different; forward = k.forward }

candidate_made : (t : TaskShape) (s : Sheet) (x p : ℕ) (c : Cand) → IsListed s x p c → CanMake t s (Take x p c)
candidate_made t s x p c h = (h.need, h.listed)

outside_below : (v : Span) → IsBelow 2000000000000000 v → IsBelow 4000000000000000 v
outside_below v h = below_more 2000000000000000 4000000000000000 v (lit≤ tt) h

pub steps_can_be_made : StepsCanBeMade
steps_can_be_made t w s step f legal = go step legal.allowed legal.moves (lands_there t w s step f legal) (step_formed t w s step f legal)
  where
    go : (step : Step) → Allowed t w s step → Moves s (change_of s step) → IsThere t s (subject_of (change_of s step)) → IsFormed t (narrowed s step) → CanMake t s (change_of s step)
    go (R1 x y v) h m l g = (l, m, h.moment)
    go (R2 x y v) h m l g = (l, m)
    go (R3 x y) h m l g = (placed_before t s x y g, m)
    go (R4 x p v) h m l g = (l, m, h.moment)
    go (R5 x p c) h m l g = candidate_made t s x p c h.listed
    go (R6 x p) h m l g = (placed_before t s (only (cands s x p)) x g, m)
    go (R7 x p a) h m l g = candidate_made t s x p (Out a) h.listed
    go (R8 x p c d) h m l g = candidate_made t s x p c h.listed
    go (R9After x p d) h m l g = (placed_before t s x d g, m)
    go (R9Ahead x p d) h m l g = (placed_before t s d (only (cands s x p)) g, m)
    go (R10 a p v) h m l g = (l, m, outside_below v h.moment)
    go (R11After x p a v) h m l g = (l, m, outside_below v h.3.moment)
    go (R11Ahead x p a v) h m l g = (l, m)
    go (R12After x a v) h m l g = (l, m, outside_below v h.after.moment)
    go (R12Ahead x a v) h m l g = (l, m)
    go (R13 x p c q) h m l g = candidate_made t s x p c h.listed

pub same_change : SameChange
same_change s (R1 x y v) = refl
same_change s (R2 x y v) = refl
same_change s (R3 x y) = refl
same_change s (R4 x p v) = refl
same_change s (R5 x p c) = refl
same_change s (R6 x p) = refl
same_change s (R7 x p a) = refl
same_change s (R8 x p c d) = refl
same_change s (R9After x p d) = refl
same_change s (R9Ahead x p d) = refl
same_change s (R10 a p v) = refl
same_change s (R11After x p a v) = refl
same_change s (R11Ahead x p a v) = refl
same_change s (R12After x a v) = refl
same_change s (R12Ahead x a v) = refl
same_change s (R13 x p c q) = refl
