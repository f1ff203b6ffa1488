use Rattle.cpt_bench.proofs.Once.{one_bench}
use Rattle.cpt_bench.proofs.laws.one_answer_of_bench.Goals as goal

pub returns : goal.returns
returns c = one_bench
