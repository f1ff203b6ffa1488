-- a store after a step, after a decision, and after it went back
use Rattle.std.proofs.Common.{◌≡◌, ℕ, ◌+◌, List, [], ◌∷◌, ◌++◌, length, Option, Some, None, IfSome, MatchOption, sym, ◌∙◌, ap, subst, arith}
use Rattle.std.proofs.lemmas.List.{same_from_push}
use Rattle.std.proofs.Common.{length-append}
use Rattle.cpt_task.specs.Shape.{TaskShape}
use Rattle.cpt_tables.specs.declared.tables.Tables.{Tables}
use Rattle.cpt_sheet.specs.declared.data.Cand.{Cand}
use Rattle.cpt_sheet.specs.declared.data.Sheet.{Sheet}
use Rattle.cpt_sheet.specs.declared.data.Step.{Step}
use Rattle.cpt_sheet.specs.declared.data.Decision.{Decision}
use Rattle.cpt_sheet.specs.Formed.{IsFormed}
use Rattle.cpt_sheet.specs.Gaps.{FitsTask}
use Rattle.cpt_calculus.specs.Rules.{IsLegal, narrowed}
use Rattle.cpt_calculus.specs.Decisions.{Fits, applied}
use Rattle.cpt_calculus.proofs.Keeps.{step_formed}
use Rattle.cpt_calculus.proofs.ApplyFormed.{applied_formed}
use Rattle.cpt_steps.specs.Landing.{IsClosedAt}
use Rattle.cpt_store.specs.Proposals.{IsProposed}
use Rattle.cpt_store.specs.Stores.{CanNarrow, IsBack, IsLent, KeepsMarks, Mark, StoreShape}
use Rattle.cpt_store.specs.Stores.KeepsMarks.{same as as_before, newest}
use Rattle.cpt_scan.specs.Marked.{IsMarked}

pub narrowed_formed : (t : TaskShape) (h : StoreShape) (u : Sheet) (step : Step) → h.task ≡ t → CanNarrow h step → u ≡ narrowed h.sheet step → IsFormed t u
narrowed_formed t h u step e c i =
    subst (λ (z : TaskShape). IsFormed z u) e (subst (λ (z : Sheet). IsFormed h.task z) (sym i) (step_formed h.task c.tables h.sheet step c.formed c.legal))

can_narrow : (s : StoreShape) (t : TaskShape) (b : Tables) (step : Step) → s.task ≡ t → FitsTask t b → IsFormed t s.sheet → IsLegal t b s.sheet step → CanNarrow s step
can_narrow s t b step e fits formed legal = record {
  tables = b;
  fits = subst (λ (z : TaskShape). FitsTask z b) (sym e) fits;
  formed = subst (λ (z : TaskShape). IsFormed z s.sheet) (sym e) formed;
  legal = subst (λ (z : TaskShape). IsLegal z b s.sheet step) (sym e) legal;
}

-- a step that is proposed can be made
pub can_of : (rules : List ℕ) (t : TaskShape) (b : Tables) (h : StoreShape) (c : Cand) (r : Option Step) → IsLent t b h → MatchOption r (IsClosedAt rules t b h.sheet c) (IsProposed rules t b h.sheet c) → IfSome r (CanNarrow h)
can_of rules t b h c None l m = tt
can_of rules t b h c (Some step) l m = can_narrow h t b step l.task l.fits l.formed m.legal

pub decided_formed : (t : TaskShape) (u v s : Sheet) (d : Decision) → u ≡ applied t v d → v ≡ s → Fits s d → IsFormed t s → IsFormed t u
decided_formed t u v s d e i fit f = subst (λ (z : Sheet). IsFormed t z) (sym (e ∙ ap (λ (z : Sheet). applied t z d) i)) (applied_formed t s d fit f)

pub kept_from : (ls ms ns : List Mark) → ms ≡ ls → KeepsMarks ms ns → KeepsMarks ls ns
kept_from ls ms ns e k = subst (λ (z : List Mark). KeepsMarks z ns) e k

-- a mark stands whatever is written after it
pub mark_kept : (s : Sheet) (old ms ns : List Mark) → IsMarked s old ms → KeepsMarks ms ns → IsMarked s old ns
mark_kept s old ms ns h (as_before e) = record { written = h.written; marks = e ∙ h.marks }
mark_kept s old ms ns h (newest xs u m n e f) =
    let p = same_from_push old xs (record { sheet = s; written = h.written }) (record { sheet = u; written = m }) (sym h.marks ∙ e) in
    let a : u ≡ s = sym (ap (λ (z : Mark). z.sheet) p.1) in
    record { written = n; marks = f ∙ (ap (λ (z : List Mark). z ++ record { sheet = u; written = n } ∷ []) (sym p.0) ∙ ap (λ (z : Sheet). old ++ record { sheet = z; written = n } ∷ []) a) }

-- and whatever was reserved before it
pub pushed : (s u : Sheet) (ks ls ms ns : List Mark) → u ≡ s → ls ≡ ks → ms ≡ ls ++ record { sheet = u; written = 0 } ∷ [] → KeepsMarks ms ns → IsMarked s ks ns
pushed s u ks ls ms ns e f i j =
    subst (λ (z : Sheet). IsMarked z ks ns) e (subst (λ (z : List Mark). IsMarked u z ns) f (mark_kept u ls ms ns (record { written = 0; marks = i }) j))

pub mark_count : (s : Sheet) (old ns : List Mark) (n : ℕ) → IsMarked s old ns → n ≡ length old → n + 1 ≡ length ns
mark_count s old ns n h e =
    let k = ap (λ (z : List Mark). length z) h.marks in
    let m = length-append old (record { sheet = s; written = h.written } ∷ []) in
    omega arith

-- who goes back to a mark has its sheet and the marks below it
pub back_sheet : (s : Sheet) (old : List Mark) (x y : StoreShape) (m n : ℕ) → IsMarked s old x.marks → IsBack x y m n → y.sheet ≡ s
back_sheet s old x y m n h k = k.sheet ∙ ap (λ (z : Mark). z.sheet) (same_from_push y.marks old k.mark (record { sheet = s; written = h.written }) (sym k.marks ∙ h.marks)).1
