use Rattle.cpt_pddl.proofs.NameLemmas.{firsts_repeated}
use Rattle.cpt_pddl.proofs.names.add_again.Goals as goal

pub returns-clause-firsts : goal.returns-clause-firsts
returns-clause-firsts c =
    firsts_repeated c.args.items.now.items c.push.new.self.items c.args.index.now.entries c.args.name c.requires.firsts c.requires.there c.in_ok-push.ensures.items
