-- where rules 10 to 13 have no step at an outside action
use Rattle.std.proofs.Common.{◌≡◌, All, ℕ, subst}
use Rattle.cpt_task.specs.declared.span.Span.TheVariants.{At}
use Rattle.cpt_task.specs.Shape.{TaskShape}
use Rattle.cpt_tables.specs.declared.tables.Tables.{Tables}
use Rattle.cpt_tables.proofs.SpanLemmas.{le_lt}
use Rattle.cpt_sheet.specs.declared.data.Cand.TheVariants.{Tok, Out}
use Rattle.cpt_sheet.specs.declared.data.Kind.TheVariants.{Act}
use Rattle.cpt_sheet.specs.declared.data.Sheet.{Sheet}
use Rattle.cpt_sheet.specs.declared.data.Step.TheVariants.{R10, R11After, R11Ahead, R12After, R12Ahead, R13}
use Rattle.cpt_sheet.specs.Roles.{needs_of, deletes_of}
use Rattle.cpt_sheet.specs.View.{lo, hi}
use Rattle.cpt_sheet.specs.Gaps.{arrival, deadline}
use Rattle.cpt_calculus.specs.Rules.{IsLegal}
use Rattle.cpt_proposal.specs.Gains.{IsApart}
use Rattle.cpt_steps.specs.Landing.{IsClosedAt}
use Rattle.cpt_steps.proofs.TightLemmas.{lt_le}
use Rattle.cpt_proposal.proofs.ReaderLemmas.{each_of}
use Rattle.cpt_outside.specs.NoStep.{outside_rules, IsReached, IsPeacefulFor}

out_is : (a b : ℕ) → Out a ≡ Out b → a ≡ b
out_is a b e = cc

pub closed_out : (t : TaskShape) (b : Tables) (s : Sheet) (a : ℕ) → All (IsReached t b s a) (needs_of t (Act a)) → ((x : ℕ) → IsApart t b s x a) → All (IsPeacefulFor t b s a) (deletes_of t (Act a)) →
    IsClosedAt outside_rules t b s (Out a)
closed_out t b s a reached apart peaceful (R10 o' p v) o legal lands =
    let m : IsLegal t b s (R10 a p v) = subst (λ k. IsLegal t b s (R10 k p v)) (out_is o' a lands) legal in
    (each_of (IsReached t b s a) p (needs_of t (Act a)) reached m.allowed.need).none v m.allowed.tokens m.allowed.outs m.moves
closed_out t b s a reached apart peaceful (R11After x p o' v) o legal lands =
    let m : IsLegal t b s (R11After x p a v) = subst (λ k. IsLegal t b s (R11After x p k v)) (out_is o' a lands) legal in
    (((each_of (IsPeacefulFor t b s a) p (deletes_of t (Act a)) peaceful m.allowed.1.deletes).each x).after) m.allowed.0
    (record { threat = m.allowed.1; late = m.allowed.2; later = lt_le (lo s (Out a)) v (arrival t b s (Tok x) (Out a)) m.moves m.allowed.3.limit })
closed_out t b s a reached apart peaceful (R11Ahead x p o' v) o legal lands =
    let m : IsLegal t b s (R11Ahead x p a v) = subst (λ k. IsLegal t b s (R11Ahead x p k v)) (out_is o' a lands) legal in
    (((each_of (IsPeacefulFor t b s a) p (deletes_of t (Act a)) peaceful m.allowed.1.deletes).each x).ahead) m.allowed.0
    (record { threat = m.allowed.1; late = m.allowed.2; sooner = le_lt (deadline t b s (Out a) (Tok m.allowed.0)) v (At (hi s (Out a))) m.allowed.3 m.moves })
closed_out t b s a reached apart peaceful (R12After x o' v) o legal lands =
    let m : IsLegal t b s (R12After x a v) = subst (λ k. IsLegal t b s (R12After x k v)) (out_is o' a lands) legal in
    (apart x).after (record { clash = m.allowed.clash; late = m.allowed.late; later = lt_le (lo s (Out a)) v (arrival t b s (Tok x) (Out a)) m.moves m.allowed.after.limit })
closed_out t b s a reached apart peaceful (R12Ahead x o' v) o legal lands =
    let m : IsLegal t b s (R12Ahead x a v) = subst (λ k. IsLegal t b s (R12Ahead x k v)) (out_is o' a lands) legal in
    (apart x).ahead (record { clash = m.allowed.clash; late = m.allowed.late; sooner = le_lt (deadline t b s (Out a) (Tok x)) v (At (hi s (Out a))) m.allowed.ahead m.moves })
closed_out t b s a reached apart peaceful (R13 x p c q) o legal lands = cc
closed_out t b s a reached apart peaceful step o legal lands = cc
