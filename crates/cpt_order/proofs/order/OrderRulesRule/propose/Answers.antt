use Rattle.cpt_order.proofs.order.OrderRulesRule.propose.Goals as goal

pub propose_at-requires : goal.propose_at-requires
propose_at-requires c = record { lent = c.requires.lent; live = c.requires.live }
