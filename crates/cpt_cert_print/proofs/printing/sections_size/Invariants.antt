use Rattle.std.proofs.Common.{◌≡◌, ◌-◌, ◌^◌, length, min, take}
use Rattle.std.specs.List.{flat_map}
use Rattle.cpt_cert_form.specs.Text.{text_of}
use Rattle.cpt_cert_print.specs.Items.{section_lines}
use Rattle.cpt_cert_print.proofs.printing.sections_size.Given as goal

abbrev pub invariant-loop-section : goal.invariant-loop-section
invariant-loop-section l = l.size ≡ min (length (flat_map (λ s. text_of (section_lines s)) (take l.section-index l.sections))) (2 ^ 64 - 1)
