use Rattle.std.proofs.Common.{length}
use Rattle.cpt_agenda.proofs.agenda.Agenda.clear.Given as goal

abbrev pub decreases-loop : goal.decreases-loop
decreases-loop l = length l.self.waiting
