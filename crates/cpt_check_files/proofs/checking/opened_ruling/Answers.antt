use Rattle.cpt_check_files.proofs.Ends.{accepted_end}
use Rattle.cpt_check_files.proofs.checking.opened_ruling.Goals as goal

pub returns-in-Ok-clause-end : goal.returns-in-Ok-clause-end
returns-in-Ok-clause-end g c = λ zero text left. accepted_end c.args.task.now text (g.L.Library.left c.check.new.lib) c.in-Ok.judged.ruling (c.in-Ok.ensures.leaves text left) zero
