use Rattle.std.specs.Prelude.{◌≤◌, length, All}
use Rattle.cpt_task.specs.Shape.{TaskShape, InBounds}
use Rattle.cpt_task.specs.Timeline.{IsPlan}
use Rattle.cpt_cert_form.specs.declared.forms.Version.{Version}
use Rattle.cpt_cert_form.specs.Text.{cert_lines}
use Rattle.cpt_cert_print.specs.declared.cert.Cert.{Cert}
use Rattle.cpt_cert_print.specs.Whole.{IsWhole, parts_of}
use Rattle.cpt_cert_accept.specs.Accepting.{IsInForm}

-- Each line of a whole certificate has a form, its numbers keep their limits, and it has at most 65,536 bytes. The task
-- has at most 2,048 atoms, so that a row has no more values, and the plan is one of the task.
abbrev pub WholeLinesInForm : Type 0
WholeLinesInForm =
    (t : TaskShape) (c : Cert) (v : Version) → InBounds t → length t.atoms ≤ 2048 → IsPlan t c.plan.now → IsWhole t c → All IsInForm (cert_lines v t (parts_of c))
