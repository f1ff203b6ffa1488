use Rattle.std.proofs.Common.{◌≡◌, refl, sym, subst, ap, ◌∙◌, min, ◌++◌}
use Rattle.cpt_task.specs.declared.span.Span.TheVariants.{At}
use Rattle.cpt_tables.specs.Spans.{◌≤ˢ◌, ◌+ˢ◌, span_max, IsBelow}
use Rattle.cpt_tables.specs.Shapes.{set_span_of}
use Rattle.cpt_tables.specs.Admissible.{limit_by_one, limit_by_two}
use Rattle.cpt_tables.specs.Scans.{IsAmongBoth, IsOfTwo}
use Rattle.cpt_tables.proofs.SetLemmas.{own_small}
use Rattle.cpt_tables.proofs.SpanLemmas.{le_refl, max_left}
use Rattle.cpt_tables.proofs.PairScans.{pairs_same, pairs_none, two_met}
use Rattle.cpt_tables.proofs.pairs.check_two.Goals as goal

pub after-requires-clause-small : goal.after-requires-clause-small
after-requires-clause-small c = subst (IsBelow 1000000000000000) (sym c.requires.own) (own_small c.args.pairs.now c.args.c.now c.requires.small c.requires.first)

pub returns-then-early : goal.returns-then-early
returns-then-early c =
    let is : c.after.result ≡ limit_by_one c.args.pairs.now c.args.c.now = c.after.ensures ∙ ap (λ v. v +ˢ At c.args.c.now.dur) c.requires.own in
    two_met c.args.pairs.now c.args.c.now c.args.d.now c.after.result c.args.best
    (subst (λ v. v ≤ˢ limit_by_two c.args.pairs.now c.args.c.now c.args.d.now) (sym is)
    (max_left (limit_by_one c.args.pairs.now c.args.c.now) (span_max (limit_by_one c.args.pairs.now c.args.d.now) (set_span_of c.args.pairs.now (c.args.c.now.pre ++ c.args.d.now.pre) +ˢ At (min c.args.c.now.dur c.args.d.now.dur)))))
    (c.are_met-early.ensures c.if-early.true)

pub returns-then-late : goal.returns-then-late
returns-then-late c =
    two_met c.args.pairs.now c.args.c.now c.args.d.now c.limit_of_two-limit.result c.args.best
    (subst (λ v. v ≤ˢ limit_by_two c.args.pairs.now c.args.c.now c.args.d.now) (sym c.limit_of_two-limit.ensures) (le_refl (limit_by_two c.args.pairs.now c.args.c.now c.args.d.now)))
    (c.are_met-late.ensures c.if-late.true)

pub returns-then-interfere : goal.returns-then-interfere
returns-then-interfere c = pairs_none c.args.pairs.now (IsOfTwo c.args.pairs.now c.args.c.now c.args.d.now) c.args.best (λ p q v m. m.0 (c.if-interfere.ensures.0 refl))

pub returns : goal.returns
returns c =
    pairs_same c.args.pairs.now (IsAmongBoth c.as_slice.result.now c.as_slice-2.result.now c.limit_of_two-limit.result) (IsOfTwo c.args.pairs.now c.args.c.now c.args.d.now) c.args.best c.check_product.result
    (λ p q v m. ((λ i. let e = c.if-interfere.ensures.1 i in cc), rw (c.as_slice.ensures.items, c.as_slice-2.ensures.items, c.limit_of_two-limit.ensures) at m))
    (λ p q v m. rw (c.as_slice.ensures.items, c.as_slice-2.ensures.items, c.limit_of_two-limit.ensures) m.1)
    c.check_product.ensures
