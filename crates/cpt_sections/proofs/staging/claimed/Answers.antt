use Rattle.std.proofs.Common.{◌≡◌, ◌∙◌, ap}
use Rattle.cpt_cert_form.specs.declared.forms.Version.{Version}
use Rattle.cpt_cert_form.specs.declared.forms.Claim.{Claim}
use Rattle.cpt_sections.specs.declared.section.Section.{Section}
use Rattle.cpt_sections.specs.declared.section.Stage.{Stage}
use Rattle.cpt_sections.specs.declared.section.Stage.TheVariants as stages
use Rattle.cpt_sections.proofs.Endings.{ends_unread, ends_read}
use Rattle.cpt_sections.proofs.staging.claimed.Goals as goal

pub returns-then-is_done : goal.returns-then-is_done
returns-then-is_done c t n formed =
    ends_read t n c.args.stage.now c.in-Within.version c.in-Within.claim (c.in-Within.is ∙ ap (stages.Within c.in-Within.version c.in-Within.claim) c.if-is_done.ensures)

last_part : {s : Stage} {v w : Version} {claim also : Claim} {x y : Section} → s ≡ stages.Within v claim x → s ≡ stages.Within w also y → x ≡ y
last_part a b = cc

pub returns-else-is_done : goal.returns-else-is_done
returns-else-is_done c t n formed = ends_unread t n c.args.stage.now (λ v claim e. c.if-is_done.ensures (last_part c.in-Within.is e)) formed
