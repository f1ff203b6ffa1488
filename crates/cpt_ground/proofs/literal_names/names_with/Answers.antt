use Rattle.cpt_facts.specs.Fitting.{FactFits}
use Rattle.cpt_ground.proofs.AtomLemmas.{fact-at}
use Rattle.cpt_ground.proofs.literal_names.names_with.Goals as goal

pub name_with-requires : goal.name_with-requires
name_with-requires c = fact-at (FactFits c.args.domain.now c.args.problem.now) c.args.atoms.now c.loop-atom.atom-index _ c.loop-atom-test.true c.requires
