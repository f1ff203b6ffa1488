use Rattle.std.proofs.Common.{ℕ, List, Bor, map, take, sym, subst, arith}
use Rattle.cpt_thin.specs.Fronts.{MayBeFrontOf, read_of}
use Rattle.cpt_trim.proofs.Needs.{line_at, lines_few, lines_many, taken_few, taken_more, tried_same, tried_size}
use Rattle.cpt_trim.proofs.trying.take_place.Goals as goal

pub pass_line-requires-clause-front : goal.pass_line-requires-clause-front
pass_line-requires-clause-front c =
    let many = lines_many c.args.bodies.now c.args.tail.now c.args.lines.now c.requires.lines in
    let few = lines_few c.args.bodies.now c.args.tail.now c.args.lines.now c.requires.lines c.requires.size in
    let place = c.requires.place in
    let each = c.requires.each in
    (read_of (take c.args.place c.args.fates.now) (take c.args.place c.args.lines.now), taken_few c.args.fates.now c.args.lines.now c.args.place (omega (arith, place, each, many)) few, c.requires.front)

pub pass_line-requires-clause-line : goal.pass_line-requires-clause-line
pass_line-requires-clause-line c =
    let many = lines_many c.args.bodies.now c.args.tail.now c.args.lines.now c.requires.lines in
    let place = c.requires.place in
    let each = c.requires.each in
    rw c.index-lines-place.is (line_at (map (λ (b : Bor (List ℕ)). b.now) c.args.bodies.now) c.args.tail.now c.args.lines.now c.args.place _ c.requires.lines (omega (arith, place, each, many)))

pub returns-clause-front : goal.returns-clause-front
returns-clause-front c =
    let t = c.args.task.now in
    let bodies = map (λ (b : Bor (List ℕ)). b.now) c.args.bodies.now in
    let old = c.args.fates.now in
    let new = c.try_place.new.fates in
    let place = c.args.place in
    let many = lines_many c.args.bodies.now c.args.tail.now c.args.lines.now c.requires.lines in
    let same = tried_same t old new bodies c.args.tail.now place c.in_ok-dropped.dropped c.in_ok-dropped.ensures in
    let size = tried_size t old new bodies c.args.tail.now place c.in_ok-dropped.dropped c.in_ok-dropped.ensures in
    let inside = c.requires.place in
    let each = c.requires.each in
    let more = taken_more new c.args.lines.now place _ _ (omega (arith, inside, size)) (omega (arith, size, each, many)) in
    let front = subst (λ z. MayBeFrontOf t (read_of z (take place c.args.lines.now)) c.args.front) (sym same) c.requires.front in
    let read = read_of (take place new) (take place c.args.lines.now) in
    let next = c.in_ok-next.ensures read front in
    subst (λ z. MayBeFrontOf t z c.in_ok-next.next) (sym more) (rw c.index-lines-place.is at next)
