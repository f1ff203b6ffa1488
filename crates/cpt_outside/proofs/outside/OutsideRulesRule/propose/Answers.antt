use Rattle.cpt_outside.proofs.outside.OutsideRulesRule.propose.Goals as goal

pub propose13-requires-clause-lent : goal.propose13-requires-clause-lent
propose13-requires-clause-lent c = record { lent = c.requires.lent; live = c.requires.live }

pub propose_out-requires : goal.propose_out-requires
propose_out-requires c = record { lent = c.requires.lent; live = c.requires.live }
