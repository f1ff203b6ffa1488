use Rattle.std.proofs.Common.{◌≡◌, ◌∙◌, sym, subst, ap}
use Rattle.cpt_tables.specs.Spans.{IsBelow}
use Rattle.cpt_tables.specs.Shapes.{set_span_of}
use Rattle.cpt_tables.proofs.SetLemmas.{own_small}
use Rattle.cpt_tables.proofs.sides.limit_of_one.Goals as goal

pub after-requires-clause-small : goal.after-requires-clause-small
after-requires-clause-small c =
    let is : c.set_span.result ≡ set_span_of c.args.pairs.now c.args.c.now.pre = c.set_span.ensures ∙ ap (λ xs. set_span_of c.args.pairs.now xs) c.as_slice.ensures.items in
    subst (IsBelow 1000000000000000) (sym is) (own_small c.args.pairs.now c.args.c.now c.requires.small c.requires.served)
