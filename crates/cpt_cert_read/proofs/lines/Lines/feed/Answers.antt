use Rattle.std.proofs.Common.{◌++◌, List, ℕ, refl, subst, ap, ◌∙◌}
use Rattle.cpt_cert_form.specs.Forms.{IsReadAs}
use Rattle.cpt_cert_read.specs.Lines.{kept}
use Rattle.cpt_cert_read.proofs.Keeping.{cut_open, cut_ends}
use Rattle.cpt_cert_read.proofs.lines.Lines.feed.Goals as goal

pub returns-in_ok-keep-in-None-clause-exact : goal.returns-in_ok-keep-in-None-clause-exact
returns-in_ok-keep-in-None-clause-exact c =
    (cut_open c.args.piece.now c.in-None.ensures.exact, refl, c.in_ok-keep-in-None.ensures.ok ∙ ap (λ (x : List ℕ). kept (x ++ c.args.piece.now)) c.self.view_is)

pub returns-in_ok-line-in-Some-clause-exact : goal.returns-in_ok-line-in-Some-clause-exact
returns-in_ok-line-in-Some-clause-exact c =
    let ends = cut_ends c.args.piece.now c.in-Some.body.now c.in-Some.field-0-1.now c.in-Some.ensures.exact in
    let read = subst (λ (x : List ℕ). IsReadAs (kept (x ++ c.in-Some.body.now)) c.in_ok-line-in-Some.line) c.self.view_is c.in_ok-line-in-Some.ensures.read in
    (c.in-Some.body.now, record { rest = c.in-Some.field-0-1.now; piece_is = ends.is; unended = ends.unended; read = read }, refl, c.in_ok-line-in-Some.ensures.ok)
