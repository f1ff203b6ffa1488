use Rattle.cpt_outcome.proofs.EnoughLemmas.{choices-commit}
use Rattle.cpt_outcome.proofs.laws.choices_commit.Goals as goal

pub returns : goal.returns
returns c = choices-commit
