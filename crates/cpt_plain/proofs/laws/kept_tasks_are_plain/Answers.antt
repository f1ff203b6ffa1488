use Rattle.cpt_plain.proofs.Tidy as lemmas
use Rattle.cpt_plain.proofs.laws.kept_tasks_are_plain.Goals as goal

pub returns : goal.returns
returns c = lemmas.kept_tasks_are_plain
