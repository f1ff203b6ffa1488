use Rattle.std.proofs.Common.{◌≡◌, ◌+◌, ℕ, List, Bor, All, false, map, take, sym, subst, arith}
use Rattle.std.specs.List.{AllZip}
use Rattle.std.proofs.lemmas.List.Elements.{All-push}
use Rattle.cpt_thin.specs.Fates.{is_dropped}
use Rattle.cpt_trim.specs.Fates.{Befits}
use Rattle.cpt_trim.proofs.FateLists.{befit_more}
use Rattle.cpt_trim.proofs.fates.first_fates.Goals as goal

pub loop-body-preserved : goal.loop-body-preserved
loop-body-preserved c =
    let test = c.loop-body-test.true in
    let bodies = map (λ (b : Bor (List ℕ)). b.now) c.args.bodies.now in
    record {
      befit = subst (λ z. AllZip Befits z (take (c.loop-body.body-index + 1) bodies)) (sym c.in_ok-push.ensures.items) (befit_more c.loop-body.fates.items c.args.bodies.now c.loop-body.body-index _ c.in_ok-fate.fate (omega (arith, test)) c.loop-body.invariant.befit c.in_ok-fate.ensures.befits);
      left = subst (All (λ f. is_dropped f ≡ false)) (sym c.in_ok-push.ensures.items) (All-push (λ f. is_dropped f ≡ false) c.loop-body.fates.items c.in_ok-fate.fate c.loop-body.invariant.left c.in_ok-fate.ensures.left);
    }
