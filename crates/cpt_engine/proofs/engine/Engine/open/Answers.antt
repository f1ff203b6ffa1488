use Rattle.cpt_engine.proofs.EngineLemmas.{stands_open}
use Rattle.cpt_engine.proofs.engine.Engine.open.Goals as goal

pub invariant_of-result : goal.invariant_of-result
invariant_of-result g c = record {
  stands = stands_open _ _ c.requires.tables c.requires.bound c.in_ok-store.ensures.formed c.new-3.ensures.items c.new-4.ensures.items c.in_ok-store.ensures.marks c.in_ok-store.ensures.led c.in_ok-store.ensures.settled;
  task = c.in_ok-store.ensures.task;
  users = c.in_ok-users.ensures;
}

pub returns-clause-stands : goal.returns-clause-stands
returns-clause-stands g c =
    stands_open _ _ c.requires.tables c.requires.bound c.in_ok-store.ensures.formed c.new-3.ensures.items c.new-4.ensures.items c.in_ok-store.ensures.marks
    c.in_ok-store.ensures.led c.in_ok-store.ensures.settled
