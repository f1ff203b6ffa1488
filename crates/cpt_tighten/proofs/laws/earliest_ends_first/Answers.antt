use Rattle.cpt_tighten.proofs.Summing as lemmas
use Rattle.cpt_tighten.proofs.laws.earliest_ends_first.Goals as goal

pub returns : goal.returns
returns c = lemmas.earliest_ends_first
