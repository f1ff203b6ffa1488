use Rattle.std.proofs.Common.{◌+◌, ℕ, List, Bor, map, take, sym, subst, arith}
use Rattle.std.specs.List.{AllZip}
use Rattle.cpt_cert_form.specs.Forms.{IsReadAs}
use Rattle.cpt_thin.proofs.FrontLines.{read_more}
use Rattle.cpt_thin.proofs.fronts.read_lines.Goals as goal

pub loop-body-preserved : goal.loop-body-preserved
loop-body-preserved c =
    let test = c.loop-body-test.true in
    let bodies = map (λ (b : Bor (List ℕ)). b.now) c.args.bodies.now in
    subst (λ z. AllZip IsReadAs (take (c.loop-body.body-index + 1) bodies) z) (sym c.in_ok-push.ensures.items)
    (read_more c.args.bodies.now c.loop-body.body-index _ c.loop-body.lines.items c.in_ok-line.line (omega (arith, test)) c.loop-body.invariant c.in_ok-line.ensures)
