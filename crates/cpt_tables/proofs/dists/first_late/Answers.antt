use Rattle.std.proofs.Common.{below_more, ◌≡◌, arith}
use Rattle.cpt_tables.specs.Scans.{IsLate}
use Rattle.cpt_tables.proofs.AtomScans.{late_none, late_some}
use Rattle.cpt_tables.proofs.dists.first_late.Goals as goal

pub loop-p-preserved : goal.loop-p-preserved
loop-p-preserved c = below_more (λ k. IsLate c.args.pairs.now c.args.dists.now c.args.act c.args.a.now k → ⊥) c.loop-p.p c.loop-p.invariant c.if-is_late.ensures

pub returns : goal.returns
returns c =
    let width : c.args.dists.now.atoms ≡ c.args.pairs.now.atoms = c.requires.same in
    late_none c.args.pairs.now c.args.dists.now c.args.act c.args.a.now (λ k lt late. c.loop-p.invariant k (omega (arith, lt, width, c.loop-p-test.false, c.atoms-p-end.ensures.value)) late)

pub returns-then-is_late : goal.returns-then-is_late
returns-then-is_late c =
    let width : c.args.dists.now.atoms ≡ c.args.pairs.now.atoms = c.requires.same in
    late_some c.args.pairs.now c.args.dists.now c.args.act c.args.a.now c.loop-p.p (omega (arith, width, c.loop-p-test.true, c.atoms-p-end.ensures.value)) c.loop-p.invariant c.if-is_late.ensures
