use Rattle.cpt_engine.proofs.EngineLemmas.{stands_open}
use Rattle.cpt_engine.proofs.engine.Engine.reopen.Goals as goal

pub invariant_of-self-2 : goal.invariant_of-self-2
invariant_of-self-2 g c = record {
  stands = stands_open _ _ c.self.invariant.stands.fits c.requires.bound c.in_ok-store.ensures.formed c.clear.ensures.items c.clear-2.ensures.items c.in_ok-store.ensures.marks c.in_ok-store.ensures.led c.in_ok-store.ensures.settled;
  task = c.in_ok-store.ensures.task;
  users = c.self.invariant.users;
}

pub returns-clause-stands : goal.returns-clause-stands
returns-clause-stands g c =
    stands_open _ _ c.self.invariant.stands.fits c.requires.bound c.in_ok-store.ensures.formed c.clear.ensures.items c.clear-2.ensures.items c.in_ok-store.ensures.marks c.in_ok-store.ensures.led c.in_ok-store.ensures.settled
