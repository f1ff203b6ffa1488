use Rattle.cpt_bench.proofs.Certifying as certifying
use Rattle.cpt_bench.proofs.judging.found_cert.Goals as goal

pub returns : goal.returns
returns c =
    record {
      whole = certifying.found_whole c.args.task.now c.args.tables.now c.args.budget.max c.args.budget.nodes c.args.found.now c.cert_of.result c.requires c.cert_of.ensures;
      proof = certifying.found_proof c.args.task.now c.args.tables.now c.args.budget.max c.args.budget.nodes c.args.found.now c.cert_of.result c.requires c.cert_of.ensures;
    }
