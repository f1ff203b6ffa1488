use Rattle.std.proofs.Common.{ℕ, ◌+◌, ◌-◌, ◌^◌, List, ◌∷◌, [], ◌++◌, length, min, take, ◌∙◌, ap}
use Rattle.cpt_cert_form.specs.declared.forms.CertLine.{CertLine}
use Rattle.cpt_cert_form.specs.Forms.{spelled}
use Rattle.cpt_cert_form.specs.Text.{text_of}
use Rattle.cpt_cert_print.specs.Items.{line_of, item_text, section_lines}
use Rattle.cpt_cert_print.proofs.Writing.{length_at, sized_more}
use Rattle.cpt_cert_print.proofs.printing.section_size.Goals as goal

pub loop-k-preserved : goal.loop-k-preserved
loop-k-preserved c =
    sized_more (2 ^ 64 - 1) (length (text_of (take c.loop-k.k (section_lines c.args.section)))) (length (item_text c.section_item.result))
    (length (text_of (take (c.loop-k.k + 1) (section_lines c.args.section)))) c.loop-k.size c.saturating_add-size.result c.loop-k.invariant
    (c.saturating_add-size.ensures ∙ ap (λ n. min (c.loop-k.size + n) (2 ^ 64 - 1)) (c.len.ensures.value ∙ ap (λ (l : List ℕ). length l) c.render.ensures.text))
    (length_at (λ (l : CertLine). spelled l ++ 10 ∷ []) (section_lines c.args.section) c.loop-k.k (line_of c.section_item.result) c.section_item.ensures.line)
