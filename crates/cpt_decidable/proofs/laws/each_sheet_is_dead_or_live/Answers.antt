use Rattle.cpt_decidable.proofs.Sheets as lemmas
use Rattle.cpt_decidable.proofs.laws.each_sheet_is_dead_or_live.Goals as goal

pub returns : goal.returns
returns c = lemmas.dead_or_live
