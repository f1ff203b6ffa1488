use Rattle.std.proofs.Common.{ℕ, List, Bor, map, refl, arith}
use Rattle.cpt_trim.proofs.FateLists.{yes_of}
use Rattle.cpt_trim.proofs.Needs.{lines_few, lines_many, needed_known}
use Rattle.cpt_trim.proofs.trying.try_place.Goals as goal

pub is_known-requires-clause-place : goal.is_known-requires-clause-place
is_known-requires-clause-place c =
    let many = lines_many c.args.bodies.now c.args.tail.now c.args.lines.now c.requires.lines in
    let place = c.requires.place in
    let each = c.requires.each in
    omega (arith, many, place, each)

pub is_known-requires-clause-each : goal.is_known-requires-clause-each
is_known-requires-clause-each c =
    let many = lines_many c.args.bodies.now c.args.tail.now c.args.lines.now c.requires.lines in
    let each = c.requires.each in
    omega (arith, many, each)

pub is_known-requires-clause-size : goal.is_known-requires-clause-size
is_known-requires-clause-size c = lines_few c.args.bodies.now c.args.tail.now c.args.lines.now c.requires.lines c.requires.size

pub returns-then-branch : goal.returns-then-branch
returns-then-branch c =
    let many = lines_many c.args.bodies.now c.args.tail.now c.args.lines.now c.requires.lines in
    let each = c.requires.each in
    let bodies = map (λ (b : Bor (List ℕ)). b.now) c.args.bodies.now in (
      refl,
      needed_known c.args.task.now c.args.fates.now bodies c.args.tail.now c.args.lines.now c.args.place c.actions-actions.ensures.bounds c.requires.lines c.requires.place (omega (arith, many, each)) c.requires.size
          (yes_of c.in_ok-is_known.field-0 _ _ c.in_ok-is_known.ensures c.if-branch.true),
    )
