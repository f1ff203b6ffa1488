use Rattle.std.proofs.Common.{◌≡◌, take}
use Rattle.std.specs.List.{flat_map}
use Rattle.std.specs.Io.KnownBytes.{append_known}
use Rattle.cpt_cert_form.specs.Text.{text_of}
use Rattle.cpt_cert_print.specs.Items.{section_lines}
use Rattle.cpt_cert_print.proofs.printing.put_sections.Given as goal

abbrev pub invariant-loop-section : goal.invariant-loop-section
invariant-loop-section g l =
    (g.K.Sink.written l.out ≡ append_known (g.K.Sink.written l.fn.out) (flat_map (λ s. text_of (section_lines s)) (take l.section-index l.sections)))
    × (g.K.Sink.faults l.out ≡ g.K.Sink.faults l.fn.out)
