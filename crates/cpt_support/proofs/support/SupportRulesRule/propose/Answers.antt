use Rattle.cpt_support.proofs.support.SupportRulesRule.propose.Goals as goal

pub propose_at-requires-clause-lent : goal.propose_at-requires-clause-lent
propose_at-requires-clause-lent c = record { lent = c.requires.lent; live = c.requires.live }
