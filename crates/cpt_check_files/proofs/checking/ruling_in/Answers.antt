use Rattle.cpt_check_files.proofs.Ends.{ruled_end}
use Rattle.cpt_check_files.proofs.checking.ruling_in.Goals as goal

pub returns-in-Ok-clause-end : goal.returns-in-Ok-clause-end
returns-in-Ok-clause-end g c =
    ruled_end (g.L.Library.holds c.args.lib.now) c.args.name.now (g.L.Library.left c.open.new.self) (g.L.Library.left c.opened_ruling.new.lib) c.opened_ruling.result c.in-Ok.ensures.opened c.in-Ok.ensures.held c.opened_ruling.ensures.end
