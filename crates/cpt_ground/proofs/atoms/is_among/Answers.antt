use Rattle.std.proofs.Common.{ap, ◌∙◌}
use Rattle.std.specs.Option.{is_some}
use Rattle.cpt_ground.specs.Atoms.{fact_of, facts_of}
use Rattle.cpt_ground.proofs.AtomLemmas.{some-place}
use Rattle.cpt_ground.proofs.atoms.is_among.Goals as goal

pub returns : goal.returns
returns c = c.is_some.ensures ∙ ap is_some c.place_of.ensures ∙ some-place (facts_of c.args.atoms.now) (fact_of c.args.atom) c.requires.ordered
