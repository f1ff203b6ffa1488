use Rattle.cpt_bench.proofs.Answering.{made_answers, made_ends}
use Rattle.cpt_bench.proofs.benching.bench_made.Goals as goal

pub returns-clause-answer : goal.returns-clause-answer
returns-clause-answer c = λ steady. made_answers c.args.n c.in-Ok.accepted steady c.bench_task.result (c.in-Ok.ensures.answer steady) (c.bench_task.ensures.answer steady)

pub returns-in-Err-clause-answer : goal.returns-in-Err-clause-answer
returns-in-Err-clause-answer c = λ steady. made_ends c.args.n steady c.in-Err.ending (c.in-Err.ensures.answer steady)
