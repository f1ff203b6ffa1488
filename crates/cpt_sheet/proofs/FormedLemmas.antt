-- what a formed sheet says of its tokens
use Rattle.std.proofs.Common.{◌≡◌, ℕ, suc, zero, ◌≤◌, ◌^◌, lit≤, inl, inr, List, [], ◌∷◌, length, slice_get, unwrap_or, All, refl, sym, subst, ◌∙◌, arith}
use Rattle.std.proofs.lemmas.Bool.{cases_lt}
use Rattle.std.proofs.lemmas.Option.{unwrap_or-slice_get}
use Rattle.std.proofs.lemmas.List.{get_or_default}
use Rattle.cpt_sheet.specs.declared.data.Token.{Token}
use Rattle.cpt_task.specs.Shape.{TaskShape}
use Rattle.cpt_task.specs.declared.span.Span.{Span}
use Rattle.cpt_tables.specs.Spans.{IsBelow}
use Rattle.cpt_tables.proofs.SpanLemmas.{below_more}
use Rattle.cpt_sheet.specs.declared.data.Cand.{Cand}
use Rattle.cpt_sheet.specs.declared.data.Cand.TheVariants.{Tok, Out}
use Rattle.cpt_sheet.specs.declared.data.Kind.{Kind}
use Rattle.cpt_sheet.specs.declared.data.Sheet.{Sheet}
use Rattle.cpt_sheet.specs.Roles.{IsKindOf}
use Rattle.cpt_sheet.specs.View.{kind_of, no_token, lo}
use Rattle.cpt_sheet.specs.Formed.{IsFormed, IsActionOf}

pub at_past : {X : Type 0} (xs : List X) (d : X) (i : ℕ) → length xs ≤ i → unwrap_or (slice_get xs i) d ≡ d
at_past [] d i l = refl
at_past (x ∷ xs) d zero l = absurd (omega arith)
at_past (x ∷ xs) d (suc i) l = at_past xs d i (omega arith)

action_there : (t : TaskShape) (k : Kind) → IsActionOf t k → IsKindOf t k
action_there t k h = subst (λ z. IsKindOf t z) (sym h.1) h.2

-- a token stands for the start, the end or an action of the task
pub kind_there : (t : TaskShape) (s : Sheet) (x : ℕ) → IsFormed t s → IsKindOf t (kind_of s (Tok x))
kind_there t s zero h = subst (λ k. IsKindOf t k) (sym h.start) tt
kind_there t s (suc zero) h = subst (λ k. IsKindOf t k) (sym h.end) tt
kind_there t s (suc (suc x)) h =
    elim (cases_lt (suc (suc x)) (length s.tokens)) [
      | inl l ↦ action_there t (kind_of s (Tok (suc (suc x)))) (h.actions (suc (suc x)) (omega arith) l)
      | inr m ↦ subst (λ z. IsKindOf t z.kind) (sym (at_past s.tokens no_token (suc (suc x)) m)) tt
    ]

-- no moment is so great that a sum with a gap does not fit
pub lo_below : (t : TaskShape) (s : Sheet) (c : Cand) → IsFormed t s → IsBelow 4000000000000000 (lo s c)
lo_below t s (Tok x) h = h.tokens_below x
lo_below t s (Out a) h = below_more 2000000000000000 4000000000000000 (lo s (Out a)) (omega arith) (h.outs_below a)

pub lo_below_more : (t : TaskShape) (s : Sheet) (c : Cand) → IsFormed t s → IsBelow (2 ^ 63) (lo s c)
lo_below_more t s c h = below_more 4000000000000000 (2 ^ 63) (lo s c) (lit≤ tt) (lo_below t s c h)

pub gap_below_more : (g : Span) → IsBelow 2000000000000000 g → IsBelow (2 ^ 63) g
gap_below_more g h = below_more 2000000000000000 (2 ^ 63) g (lit≤ tt) h

-- no token begins so late that a sum with a gap does not fit
pub tokens_small : (t : TaskShape) (s : Sheet) → IsFormed t s → All (λ (z : Token). IsBelow (2 ^ 63) z.span.lo) s.tokens
tokens_small t s h k d lt =
    subst (λ (z : Token). IsBelow (2 ^ 63) z.span.lo) (unwrap_or-slice_get s.tokens k no_token ∙ get_or_default s.tokens k no_token d lt) (lo_below_more t s (Tok k) h)
