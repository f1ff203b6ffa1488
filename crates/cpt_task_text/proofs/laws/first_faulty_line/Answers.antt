use Rattle.cpt_task_text.proofs.FirstFault.{memory_law, limit_law}
use Rattle.cpt_task_text.proofs.Limiting.{limits_law}
use Rattle.cpt_task_text.proofs.OneFault.{is_first_faulty, answers_line}
use Rattle.cpt_task_text.proofs.laws.first_faulty_line.Goals as goal

pub returns-clause-line : goal.returns-clause-line
returns-clause-line c = λ text n. (is_first_faulty text n, answers_line text n)

pub returns-clause-limit : goal.returns-clause-limit
returns-clause-limit c = λ text which. (limit_law text which, λ h. limits_law text which h.0 h.1)

pub returns-clause-memory : goal.returns-clause-memory
returns-clause-memory c = memory_law
