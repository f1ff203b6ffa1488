use Rattle.std.proofs.Common.{◌≡◌, ℕ, ◌-◌, ◌^◌, List, ◌∷◌, [], ◌++◌, length, min, sym, ◌∙◌, ap, arith}
use Rattle.cpt_cert_form.specs.declared.forms.CertLine.{CertLine}
use Rattle.cpt_cert_print.specs.declared.items.Section.{Section}
use Rattle.cpt_cert_form.specs.Forms.{spelled}
use Rattle.cpt_cert_form.specs.Text.{text_of}
use Rattle.cpt_cert_print.specs.Items.{section_lines}
use Rattle.cpt_cert_print.proofs.Writing.{all_parts, flat_map_twice}
use Rattle.cpt_cert_print.proofs.printing.sections_size.Goals as goal

pub returns : goal.returns
returns c =
    let e : c.loop-section.section-index ≡ length c.args.sections.now = omega arith in
    c.loop-section.invariant ∙ ap (λ (t : List ℕ). min (length t) (2 ^ 64 - 1))
    (all_parts (λ (s : Section). text_of (section_lines s)) c.args.sections.now c.loop-section.section-index e
    ∙ sym (flat_map_twice (λ (l : CertLine). spelled l ++ 10 ∷ []) (λ (s : Section). section_lines s) c.args.sections.now))
