use Rattle.cpt_plan_text.proofs.LetterCase.{case_ignored}
use Rattle.cpt_plan_text.proofs.laws.letter_case_is_ignored.Goals as goal

pub returns : goal.returns
returns c = case_ignored
