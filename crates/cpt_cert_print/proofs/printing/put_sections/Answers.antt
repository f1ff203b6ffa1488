use Rattle.std.proofs.Common.{◌≡◌, ℕ, List, ◌∷◌, [], ◌++◌, length, refl, sym, ◌∙◌, ap, subst, arith}
use Rattle.std.proofs.lemmas.Option.{slice_get_read}
use Rattle.std.specs.Io.KnownBytes.{append_known}
use Rattle.cpt_io.specs.Meaning.{AppendsFront}
use Rattle.cpt_cert_form.specs.declared.forms.CertLine.{CertLine}
use Rattle.cpt_cert_print.specs.declared.items.Section.{Section}
use Rattle.cpt_cert_form.specs.Forms.{spelled}
use Rattle.cpt_cert_form.specs.Text.{text_of}
use Rattle.cpt_cert_print.specs.Items.{section_lines}
use Rattle.cpt_cert_print.proofs.Writing.{front_at, more_at, all_parts, flat_map_twice}
use Rattle.cpt_cert_print.proofs.printing.put_sections.Goals as goal

pub returns-in-Err-clause-err : goal.returns-in-Err-clause-err
returns-in-Err-clause-err g c =
    subst (λ (t : List ℕ). AppendsFront (g.K.Sink.written c.args.out.now) (g.K.Sink.written c.put_section.new.out) t)
    (sym (flat_map_twice (λ (l : CertLine). spelled l ++ 10 ∷ []) (λ (s : Section). section_lines s) c.args.sections.now))
    (front_at (λ (s : Section). text_of (section_lines s)) c.args.sections.now c.loop-section.section-index c.section-item.result
    (slice_get_read c.args.sections.now (length c.args.sections.now) c.loop-section.section-index c.section-item.result refl c.loop-section-test.true c.section-item.is)
    (g.K.Sink.written c.args.out.now) (g.K.Sink.written c.loop-section.out) (g.K.Sink.written c.put_section.new.out) c.loop-section.invariant.0 c.in-Err.ensures.err)

pub loop-section-preserved : goal.loop-section-preserved
loop-section-preserved g c = (
  more_at (λ (s : Section). text_of (section_lines s)) c.args.sections.now c.loop-section.section-index c.section-item.result
      (slice_get_read c.args.sections.now (length c.args.sections.now) c.loop-section.section-index c.section-item.result refl c.loop-section-test.true c.section-item.is)
      (g.K.Sink.written c.args.out.now) (g.K.Sink.written c.loop-section.out) (g.K.Sink.written c.put_section.new.out) c.loop-section.invariant.0 c.in-Ok.ensures.ok,
  c.in-Ok.ensures.cause.kept ∙ c.loop-section.invariant.1,
)

pub returns-clause-ok : goal.returns-clause-ok
returns-clause-ok g c =
    let e : c.loop-section.section-index ≡ length c.args.sections.now = omega arith in
    c.loop-section.invariant.0 ∙ ap (λ (t : List ℕ). append_known (g.K.Sink.written c.args.out.now) t)
    (all_parts (λ (s : Section). text_of (section_lines s)) c.args.sections.now c.loop-section.section-index e
    ∙ sym (flat_map_twice (λ (l : CertLine). spelled l ++ 10 ∷ []) (λ (s : Section). section_lines s) c.args.sections.now))
