use Rattle.std.proofs.Common.{◌≡◌, ◌<◌, length, subst, sym, ap, ◌∙◌, arith, get_or}
use Rattle.cpt_task.specs.Shape.{HasAtomsBelow}
use Rattle.cpt_dist.specs.Rows.{HasRows}
use Rattle.cpt_dist.proofs.TableLemmas.{rows_more, greatest_by_rows, fits_by_rows}
use Rattle.cpt_dist.proofs.table.fill.Goals as goal

pub find_row-requires-clause-atoms : goal.find_row-requires-clause-atoms
find_row-requires-clause-atoms c =
    let all = rw (← c.actions-actions.ensures.value) at c.actions-actions.ensures.bounds.actions in
    subst (HasAtomsBelow (length c.args.task.now.atoms)) (sym c.index-actions-a.is) (all c.loop-a.a c.index-actions-a.result c.loop-a-test.true)

pub loop-a-preserved : goal.loop-a-preserved
loop-a-preserved c =
    let value = c.actions-actions.ensures.value in
    let many : length c.actions-actions.result.now ≡ length c.args.task.now.actions = ap length value in
    let test = c.loop-a-test.true in
    let inside : c.loop-a.a < length c.args.task.now.actions = omega arith in
    let is : c.index-actions-a.result ≡ get_or c.args.task.now.actions c.loop-a.a c.index-actions-a.result = rw value at c.index-actions-a.is in
    record {
      actions = c.keep.ensures.keeps.actions ∙ c.loop-a.invariant.actions;
      atoms = c.keep.ensures.keeps.atoms ∙ c.loop-a.invariant.atoms;
      rows = rows_more c.args.task.now c.args.pairs.now c.loop-a.dists c.keep.new.table c.loop-a.a c.index-actions-a.result c.find_row.new.row
          (subst (λ n. c.loop-a.a < n) (sym c.loop-a.invariant.actions) inside) is inside c.loop-a.invariant.rows c.keep.ensures.keeps c.find_row.ensures c.keep.ensures.row;
    }

pub returns : goal.returns
returns c =
    let many : length c.actions-actions.result.now ≡ length c.args.task.now.actions = ap length c.actions-actions.ensures.value in
    let test = c.loop-a-test.false in
    let rows : HasRows c.args.task.now c.args.pairs.now c.loop-a.dists (length c.args.task.now.actions) = λ a lt. c.loop-a.invariant.rows a (omega arith) in
    record {
      greatest = greatest_by_rows c.args.task.now c.args.pairs.now c.loop-a.dists c.actions-actions.ensures.bounds c.loop-a.invariant.atoms rows;
      fits = fits_by_rows c.args.task.now c.args.pairs.now c.loop-a.dists c.requires.few c.loop-a.invariant.actions c.loop-a.invariant.atoms rows;
    }
