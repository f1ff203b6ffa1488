use Rattle.cpt_certify.proofs.Found as found
use Rattle.cpt_certify.proofs.proving.found_cert.Goals as goal

pub returns-clause-whole : goal.returns-clause-whole
returns-clause-whole c = found.found_whole c.args.task.now c.args.tables.now c.args.max c.args.nodes c.args.found.now c.cert_of.result c.requires c.cert_of.ensures
