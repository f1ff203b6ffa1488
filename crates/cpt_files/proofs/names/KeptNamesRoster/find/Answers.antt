use Rattle.cpt_files.proofs.Naming.{Finds, finds_name}
use Rattle.cpt_files.proofs.names.KeptNamesRoster.find.Goals as goal

pub returns : goal.returns
returns c =
    let found : Finds c.args.self.now c.args.name.now c.find_name.result =
    finds_name c.args.self.now c.self.inside.domain.now c.self.inside.problem.now c.self.inside.kept.now c.args.name.now c.find_name.result c.self.view_is c.self.invariant.0 c.self.invariant.1 c.find_name.ensures in
    record { value = found.value; knows = found.knows }
