use Rattle.std.proofs.Common.{ℕ, Bool, Option, Some, refl}
use Rattle.cpt_io.specs.Meaning.{Files}
use Rattle.cpt_answer.specs.Promise.{AnswersOver, Performs, call}
use Rattle.cpt_answer.specs.Writing.{output}
use Rattle.cpt_answer.proofs.Promise.{performs, performs_over}
use Rattle.cpt_bench.specs.Commands.{BenchesMade}
use Rattle.cpt_bench.specs.Made.{made_files}
use Rattle.cpt_bench.proofs.Answering.{beside}
use Rattle.cpt_bench.proofs.Keeping.{problem_kept}
use Rattle.cpt_bench.proofs.benching.bench.Goals as goal

pub returns : goal.returns
returns g c =
    let old = output (g.K.Sink.faults c.args.out.now) (g.K.Sink.written c.args.out.now) in
    let new = output (g.K.Sink.faults c.tell.new.out) (g.K.Sink.written c.tell.new.out) in
    let performed : (o : Option Files) (steady : Bool) (before : ℕ) → Performs (AnswersOver o (λ files. BenchesMade c.args.n)) (call steady before before old new c.tell.result) =
    λ o steady before. performs o steady (λ files. BenchesMade c.args.n) c.bench_made-reply.result before before old new c.tell.result
    (record { answer = beside o _ (c.bench_made-reply.ensures.answer steady); status = c.bench_made-reply.ensures.status; failed = λ is. absurd (c.bench_made-reply.ensures.kept is); kept = λ not. refl }) c.tell.ensures in
    record {
      performs = performed;
      keeps = λ steady before. problem_kept c.args.n (call steady before before old new c.tell.result)
          (performs_over (Some (made_files c.args.n)) (λ files. BenchesMade c.args.n) (call steady before before old new c.tell.result) (performed (Some (made_files c.args.n)) steady before));
    }
