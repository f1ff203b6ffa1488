use Rattle.std.proofs.Common.{ℕ, List, Bor, map, sym, subst}
use Rattle.cpt_thin.specs.declared.fates.Fate.{Fate}
use Rattle.cpt_trim.specs.Fates.{AreTold}
use Rattle.cpt_trim.proofs.Less.{ends_at, left_found, less_found, size_at, told_at}
use Rattle.cpt_trim.proofs.trimming.needless.Goals as goal

pub needless_among-requires-clause-told : goal.needless_among-requires-clause-told
needless_among-requires-clause-told c =
    let told = told_at c.args.task.now c.args.text.now c.in_ok-bodies.bodies.items c.deref-2.result.now c.in_ok-bodies.tail.now c.deref-2.ensures.value c.in_ok-bodies.ensures c.deref.result.now c.in_ok-fates.fates.items c.deref.ensures.value
    c.in_ok-fates.ensures.befit c.in_ok-fates.ensures.left c.requires.accepted in
    subst (λ (z : List Fate). AreTold c.args.task.now z (map (λ (b : Bor (List ℕ)). b.now) c.deref-2.result.now) c.in_ok-bodies.tail.now) (sym c.deref_mut.ensures.value) told

pub needless_among-requires-clause-size : goal.needless_among-requires-clause-size
needless_among-requires-clause-size c = size_at c.args.task.now c.args.text.now c.in_ok-bodies.bodies.items c.deref-2.result.now c.in_ok-bodies.tail.now c.deref-2.ensures.value c.in_ok-bodies.ensures c.requires.size

pub returns-clause-less : goal.returns-clause-less
returns-clause-less c = less_found c.args.task.now c.args.text.now c.in_ok-bodies.bodies.items c.deref-2.result.now c.in_ok-bodies.tail.now c.deref-2.ensures.value c.in_ok-bodies.ensures c.needless_among.result c.needless_among.ensures

pub returns-clause-left : goal.returns-clause-left
returns-clause-left c = left_found c.args.task.now c.args.text.now c.in_ok-bodies.bodies.items c.deref-2.result.now c.in_ok-bodies.tail.now c.deref-2.ensures.value c.in_ok-bodies.ensures c.needless_among.result c.needless_among.ensures

pub needless_among-requires-clause-ends : goal.needless_among-requires-clause-ends
needless_among-requires-clause-ends c = ends_at c.args.task.now c.args.text.now c.in_ok-bodies.bodies.items c.deref-2.result.now c.in_ok-bodies.tail.now c.deref-2.ensures.value c.in_ok-bodies.ensures
