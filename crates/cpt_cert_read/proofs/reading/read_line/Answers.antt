use Rattle.std.proofs.Common.{ℕ, List, Bor, map, unwrap_or, subst, ap, sym, ◌∙◌, arith}
use Rattle.cpt_cert_form.specs.declared.forms.CertLine.TheVariants.{Strange}
use Rattle.cpt_cert_form.specs.Forms.{IsReadAs}
use Rattle.cpt_cert_read.specs.Reading.{line_in}
use Rattle.cpt_cert_read.proofs.Meaning.{short_meaning}
use Rattle.cpt_cert_read.proofs.reading.read_line.Goals as goal

pub returns : goal.returns
returns c =
    let words = ap (λ (ws : List (Bor (List ℕ))). line_in (map (λ (w : Bor (List ℕ)). w.now) ws)) c.deref.ensures.value in
    let read = c.in_ok-line.ensures ∙ words ∙ ap line_in c.in_ok-words.ensures in
    let e = c.unwrap_or.ensures ∙ ap (λ o. unwrap_or o Strange) read in
    subst (IsReadAs c.args.bytes.now) (sym e) (short_meaning c.args.bytes.now (omega arith))
