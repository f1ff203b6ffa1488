use Rattle.std.proofs.Common.{ℕ, List, Bor, map, arith}
use Rattle.cpt_trim.proofs.FateLists.{befit_count}
use Rattle.cpt_trim.proofs.Needs.{all_needed, by_bool, lines_many, none_tried, tried_more}
use Rattle.cpt_trim.proofs.trying.try_all.Goals as goal

pub take_place-requires-clause-each : goal.take_place-requires-clause-each
take_place-requires-clause-each c = befit_count c.loop-place.fates c.args.bodies.now c.loop-place.invariant.tried.told.befit

pub take_place-requires-clause-place : goal.take_place-requires-clause-place
take_place-requires-clause-place c =
    let test = c.loop-place-test.true in
    let each = befit_count c.loop-place.fates c.args.bodies.now c.loop-place.invariant.tried.told.befit in
    let many = lines_many c.args.bodies.now c.args.tail.now c.args.lines.now c.requires.lines in
    omega (arith, test, each, many)

pub loop-place-init : goal.loop-place-init
loop-place-init c = record {
  tried = none_tried c.args.task.now c.args.fates.now (map (λ (b : Bor (List ℕ)). b.now) c.args.bodies.now) c.args.tail.now c.requires.told;
  front = c.begin_front.ensures c.args.task.now;
}

pub loop-place-preserved : goal.loop-place-preserved
loop-place-preserved c = record {
  tried = tried_more c.args.task.now c.args.fates.now c.loop-place.fates c.take_place.new.fates (map (λ (b : Bor (List ℕ)). b.now) c.args.bodies.now) c.args.tail.now c.loop-place.place c.loop-place.dropped c.in_ok-one.one c.either-dropped.result c.either-dropped.ensures c.loop-place.invariant.tried c.in_ok-one.ensures.tried;
  front = c.in_ok-one.ensures.front;
}

pub returns-clause-fewer : goal.returns-clause-fewer
returns-clause-fewer c =
    let tried = c.loop-place.invariant.tried in
    let test = c.loop-place-test.false in
    let each = befit_count c.loop-place.fates c.args.bodies.now tried.told.befit in
    let many = lines_many c.args.bodies.now c.args.tail.now c.args.lines.now c.requires.lines in
    by_bool c.loop-place.dropped _ _ tried.fewer (λ e. all_needed c.args.task.now c.loop-place.fates (map (λ (b : Bor (List ℕ)). b.now) c.args.bodies.now) c.args.tail.now c.loop-place.place (omega (arith, test, each, many)) (tried.needed e))
