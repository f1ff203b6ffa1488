use Rattle.std.proofs.Common.{◌≡◌, take}
use Rattle.std.specs.Io.KnownBytes.{append_known}
use Rattle.cpt_cert_form.specs.Text.{text_of}
use Rattle.cpt_cert_print.specs.Items.{section_lines}
use Rattle.cpt_cert_print.proofs.printing.put_section.Given as goal

abbrev pub invariant-loop-k : goal.invariant-loop-k
invariant-loop-k g l =
    (g.K.Sink.written l.out ≡ append_known (g.K.Sink.written l.fn.out) (text_of (take l.k (section_lines l.section))))
    × (g.K.Sink.faults l.out ≡ g.K.Sink.faults l.fn.out)
