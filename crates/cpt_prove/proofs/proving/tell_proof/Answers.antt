use Rattle.cpt_search.specs.Answers.{outcome_of}
use Rattle.cpt_answer.specs.Writing.{output}
use Rattle.cpt_prove.proofs.Writing.{failure_told, ok_apart, provable, whole_told}
use Rattle.cpt_prove.proofs.proving.tell_proof.Goals as goal

pub put_proof-requires-clause-found : goal.put_proof-requires-clause-found
put_proof-requires-clause-found g c = record {
  provable = provable c.args.task.now c.args.tables.now c.args.budget c.actions-actions.ensures.bounds (record { goal = c.actions-actions.ensures.sets.goal; pre = c.actions-actions.ensures.sets.pre }) c.requires.small c.requires.tables c.requires.budget;
  outcome = c.requires.outcome;
  trees = c.requires.trees;
}

pub returns-in-Ok : goal.returns-in-Ok
returns-in-Ok g c =
    whole_told c.args.task.now c.args.tables.now c.args.budget c.args.version (outcome_of c.args.found.now) c.requires.tables c.requires.outcome (output (g.K.Sink.faults c.args.out.now) (g.K.Sink.written c.args.out.now))
    (output (g.K.Sink.faults c.put_proof.new.out) (g.K.Sink.written c.put_proof.new.out)) c.outcome_status.result c.in-Ok.ensures.puts (c.in-Ok.ensures.kept (ok_apart _ _)) c.outcome_status.ensures.value

pub returns-in-Err : goal.returns-in-Err
returns-in-Err g c =
    failure_told c.args.task.now c.args.tables.now c.args.budget c.args.version (outcome_of c.args.found.now) c.requires.tables c.requires.outcome (g.K.Sink.faults c.args.out.now) (g.K.Sink.faults c.put_proof.new.out)
    (g.K.Sink.written c.args.out.now) (g.K.Sink.written c.put_proof.new.out) (output (g.K.Sink.faults c.tell_failure.new.out) (g.K.Sink.written c.tell_failure.new.out)) c.tell_failure.result c.in-Err.e c.in-Err.ensures.puts
    c.in-Err.ensures.cause c.in-Err.ensures.kept c.tell_failure.ensures
