use Rattle.cpt_kept.proofs.Standing.{stands_for}
use Rattle.cpt_kept.proofs.laws.kept_parts_stand_for_their_tasks.Goals as goal

pub returns : goal.returns
returns c = stands_for
