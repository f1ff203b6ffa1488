use Rattle.std.proofs.Common.{◌+◌, arith, drop, take, length}
use Rattle.cpt_sections.proofs.StageLines.{more_few_at}
use Rattle.cpt_thin.specs.Fronts.{read_of}
use Rattle.cpt_trim.proofs.Needs.{faulty_ok, taken_most}
use Rattle.cpt_trim.proofs.trying.is_known.Goals as goal

pub is_doomed_at-requires-clause-stage : goal.is_doomed_at-requires-clause-stage
is_doomed_at-requires-clause-stage c =
    let h = rw c.in-Some.is at c.requires.front in
    (length (read_of (take c.args.place c.args.fates.now) (take c.args.place c.args.lines.now)) + 1, h.stage)

pub is_doomed_at-requires-clause-few : goal.is_doomed_at-requires-clause-few
is_doomed_at-requires-clause-few c =
    let h = rw c.in-Some.is at c.requires.front in
    let most = taken_most c.args.fates.now c.args.lines.now c.args.place c.requires.place in
    more_few_at (length (read_of (take c.args.place c.args.fates.now) (take c.args.place c.args.lines.now))) (c.args.place + 1) c.in-Some.front.stage (omega (arith, most)) h.few

pub returns-in-Some : goal.returns-in-Some
returns-in-Some c =
    let h = rw c.in-Some.is at c.requires.front in
    faulty_ok c.args.task.now (read_of (take c.args.place c.args.fates.now) (take c.args.place c.args.lines.now)) (read_of (drop (c.args.place + 1) c.args.fates.now) (drop (c.args.place + 1) c.args.lines.now)) c.in-Some.front c.is_doomed_at.result h c.is_doomed_at.ensures
