use Rattle.std.proofs.Common.{◌≡◌, ℕ, ◌<◌, ◌-◌, ◌^◌, List, ◌∷◌, [], ◌++◌, sym, ◌∙◌, subst}
use Rattle.std.specs.Io.KnownBytes.{append_known}
use Rattle.cpt_io.specs.Meaning.{AppendsFront}
use Rattle.cpt_cert_form.specs.declared.forms.CertLine.{CertLine}
use Rattle.cpt_cert_form.specs.Forms.{spelled}
use Rattle.cpt_cert_print.specs.Items.{line_of, section_lines}
use Rattle.cpt_cert_print.proofs.Writing.{front_at, more_at}
use Rattle.cpt_cert_print.proofs.printing.put_section.Goals as goal

pub put_line-requires-clause-faults : goal.put_line-requires-clause-faults
put_line-requires-clause-faults g c = let P : ℕ → Type 0 = λ n. n < 2 ^ 64 - 1 in subst P (sym c.loop-k.invariant.1) c.requires

pub returns-in-Err-clause-err : goal.returns-in-Err-clause-err
returns-in-Err-clause-err g c =
    front_at (λ (l : CertLine). spelled l ++ 10 ∷ []) (section_lines c.args.section) c.loop-k.k (line_of c.section_item.result) c.section_item.ensures.line
    (g.K.Sink.written c.args.out.now) (g.K.Sink.written c.loop-k.out) (g.K.Sink.written c.put_line.new.out) c.loop-k.invariant.0
    (subst (λ (p : List ℕ). AppendsFront (g.K.Sink.written c.loop-k.out) (g.K.Sink.written c.put_line.new.out) p) c.render.ensures.text c.in-Err.ensures.err)

pub loop-k-preserved : goal.loop-k-preserved
loop-k-preserved g c = (
  more_at (λ (l : CertLine). spelled l ++ 10 ∷ []) (section_lines c.args.section) c.loop-k.k (line_of c.section_item.result) c.section_item.ensures.line
      (g.K.Sink.written c.args.out.now) (g.K.Sink.written c.loop-k.out) (g.K.Sink.written c.put_line.new.out) c.loop-k.invariant.0
      (subst (λ (p : List ℕ). g.K.Sink.written c.put_line.new.out ≡ append_known (g.K.Sink.written c.loop-k.out) p) c.render.ensures.text c.in-Ok.ensures.ok),
  c.in-Ok.ensures.cause.kept ∙ c.loop-k.invariant.1,
)
