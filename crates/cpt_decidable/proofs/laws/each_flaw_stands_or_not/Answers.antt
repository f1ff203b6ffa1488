use Rattle.cpt_decidable.proofs.Sheets as lemmas
use Rattle.cpt_decidable.proofs.laws.each_flaw_stands_or_not.Goals as goal

pub returns : goal.returns
returns c = lemmas.is_flaw
