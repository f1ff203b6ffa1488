use Rattle.std.proofs.Common.{refl, arith}
use Rattle.cpt_cert_tests.proofs.Refutation.{refutation_whole}
use Rattle.cpt_cert_tests.proofs.printed.refutation.Goals as goal

pub returns : goal.returns
returns c = refutation_whole c.args.task.now _ 5 c.args.tables c.args.tree refl (omega arith) refl refl refl c.requires.fits c.requires.closed
