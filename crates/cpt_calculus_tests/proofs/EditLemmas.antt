-- changes after which a formed sheet is formed
use Rattle.std.proofs.Common.{◌≡◌, List, [], ◌∷◌, Bool, true, false, if◌then◌else◌, lit≤, sym, ◌∙◌, ap, subst}
use Rattle.cpt_task.specs.declared.span.Span.TheVariants.{At, Never}
use Rattle.cpt_task.specs.Shape.{TaskShape}
use Rattle.cpt_tables.specs.Spans.{IsBelow}
use Rattle.cpt_tables.proofs.SpanLemmas.{below_more}
use Rattle.cpt_sheet.specs.declared.data.Cand.{Cand}
use Rattle.cpt_sheet.specs.declared.data.Cand.TheVariants.{Tok, Out}
use Rattle.cpt_sheet.specs.declared.data.Sheet.{Sheet}
use Rattle.cpt_sheet.specs.declared.data.Step.{Step}
use Rattle.cpt_sheet.specs.declared.data.Change.{Change}
use Rattle.cpt_sheet.specs.declared.data.Change.TheVariants.{Raise, Lower, Take, Post}
use Rattle.cpt_sheet.specs.View.{lo, span_of, cands, same}
use Rattle.cpt_sheet.specs.Edits.{changed, without}
use Rattle.cpt_sheet.specs.Formed.{IsFormed, IsAscending}
use Rattle.cpt_sheet.proofs.FormedLemmas.{lo_below}
use Rattle.cpt_calculus.specs.Rules.{change_of, narrowed}
use Rattle.cpt_calculus.proofs.Keeps.{span_formed, list_formed, posted_formed}
use Rattle.cpt_calculus.proofs.Parts.{Part-has, Part-without}
use Rattle.cpt_calculus_tests.specs.Edits.{KeepsFormed}

ascending_without : (c : Cand) (cs : List Cand) → IsAscending cs → IsAscending (without c cs)
ascending_without c [] h = h
ascending_without c (d ∷ cs) h = go (same d c) (ascending_without c cs h.1)
  where
    go : (b : Bool) → IsAscending (without c cs) → IsAscending (if b then cs else d ∷ without c cs)
    go true ih = h.1
    go false ih = ((λ e k. h.0 e (Part-has e (Part-without c cs) k)), ih)

changed_formed : (t : TaskShape) (s : Sheet) (ch : Change) → KeepsFormed s ch → IsFormed t s → IsFormed t (changed s ch)
changed_formed t s (Raise (Tok x) v) h f =
    span_formed t s (Tok x) (record (span_of s (Tok x)) { lo = v }) f (record { out = λ a e. cc; tok = h; high = f.within (Tok x) })
changed_formed t s (Raise (Out a) v) h f =
    span_formed t s (Out a) (record (span_of s (Out a)) { lo = v }) f
    (record { out = λ b e. h; tok = below_more 2000000000000000 4000000000000000 v (lit≤ tt) h; high = f.within (Out a) })
changed_formed t s (Lower c (At n)) h f =
    span_formed t s c (record (span_of s c) { hi = n }) f
    (record { out = λ a e. subst (λ z. IsBelow 2000000000000000 (lo s z)) (sym e) (f.outs_below a); tok = lo_below t s c f; high = h })
changed_formed t s (Lower c Never) h f = absurd h
changed_formed t s (Take x p c) h f =
    list_formed t s x p (without c) f (λ d k. Part-has d (Part-without c (cands s x p)) k) (ascending_without c (cands s x p) (f.ascending x p))
changed_formed t s (Post x y) h f = posted_formed t s x y f h

-- a sheet is formed after the step of such a change
pub edited_formed : (t : TaskShape) (s u : Sheet) (ch : Change) (step : Step) →
    ((v : Sheet) → change_of v step ≡ ch) → u ≡ narrowed s step → KeepsFormed s ch → IsFormed t s → IsFormed t u
edited_formed t s u ch step e m h f =
    subst (λ (z : Sheet). IsFormed t z) (sym (m ∙ ap (λ k. changed s k) (e s))) (changed_formed t s ch h f)
