use Rattle.std.specs.Prelude.{ℕ, ◌≤◌, List, ◌++◌, length}
use Rattle.cpt_task.specs.Shape.{TaskShape}
use Rattle.cpt_cert_form.specs.declared.forms.CertLine.{CertLine}
use Rattle.cpt_cert_accept.specs.declared.faults.Why.{Why}
use Rattle.cpt_cert_accept.specs.Reading.Outcome.{faulted}
use Rattle.cpt_cert_accept.specs.Descent.{ReadsAll}

-- A fault that stands at one of some lines, read as a text of their own, is the first one whatever lines come behind them.
abbrev pub FaultsStand : Type 0
FaultsStand =
    (t : TaskShape) (ls : List CertLine) (line : ℕ) (why : Why) (more : List CertLine) → ReadsAll t ls (faulted line why) → line ≤ length ls → ReadsAll t (ls ++ more) (faulted line why)
