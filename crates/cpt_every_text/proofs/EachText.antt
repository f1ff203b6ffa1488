-- each text is a certificate of a task or has a first fault
use Rattle.std.proofs.Common.{◌⊎◌, inl, inr, List}
use Rattle.cpt_cert_form.specs.declared.forms.Version.{Version}
use Rattle.cpt_cert_form.specs.declared.forms.Claim.{Claim}
use Rattle.cpt_cert_form.specs.declared.forms.CertLine.{CertLine}
use Rattle.cpt_cert_read.specs.Texts.{AreLinesOf}
use Rattle.cpt_cert_read.proofs.Splits.{each_has_lines}
use Rattle.cpt_cert_accept.specs.Reading.{Outcome}
use Rattle.cpt_cert_accept.specs.Reading.Outcome.{went, faulted}
use Rattle.cpt_cert_accept.specs.Descent.{ReadsAll}
use Rattle.cpt_cert_accept.proofs.TextLines.{whole_text}
use Rattle.cpt_every_text.specs.Laws.{IsACertificate, HasAFault, EachTextIsRead, EachTextIsRuled}
use Rattle.cpt_every_text.proofs.RunLines.{text_runs}
use Rattle.cpt_every_text.proofs.Sections.{lines_read}

pub each_text_is_read : EachTextIsRead
each_text_is_read t text ls of = lines_read t ls (text_runs text ls of)

pub each_text_is_ruled : EachTextIsRuled
each_text_is_ruled t text inside short = go (each_has_lines text).0 (each_has_lines text).1 (lines_read t (each_has_lines text).0 (text_runs text (each_has_lines text).0 (each_has_lines text).1))
  where
    go : (ls : List CertLine) → AreLinesOf text ls → (o : Outcome (Version × Claim)) × ReadsAll t ls o → IsACertificate t text ⊎ HasAFault t text
    go ls of (went (v, claim) rest m, reads) = inl (v, claim, whole_text t text ls v claim rest m inside short of reads)
    go ls of (faulted line why, reads) = inr (line, why, (ls, of, reads))
