use Rattle.cpt_thin.specs.declared.fates.Fate.TheVariants.{Dropped}
use Rattle.cpt_trim.proofs.FateLists.{no_of, set_back}
use Rattle.cpt_trim.proofs.trying.try_line.Goals as goal

pub returns : goal.returns
returns c = (set_back c.args.fates.now c.args.place Dropped c.if-not-is_kept_at.ensures, λ kept. no_of c.in_ok-stands.field-0 _ _ c.in_ok-stands.ensures c.if-branch.false)
