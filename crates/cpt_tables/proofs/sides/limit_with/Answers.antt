use Rattle.std.proofs.Common.{◌≡◌, ◌∙◌, sym, subst, ap}
use Rattle.cpt_task.specs.declared.span.Span.TheVariants.{At}
use Rattle.cpt_tables.specs.Spans.{IsBelow, ◌+ˢ◌, span_max}
use Rattle.cpt_tables.specs.Shapes.{set_span_of, most_with, pair_at}
use Rattle.cpt_tables.proofs.SetLemmas.{beside_small, set_push}
use Rattle.cpt_tables.proofs.sides.limit_with.Goals as goal

pub after-requires-clause-small : goal.after-requires-clause-small
after-requires-clause-small c =
    let with : c.span_with.result ≡ most_with c.args.pairs.now c.args.c.now.pre c.args.q = c.span_with.ensures ∙ ap (λ xs. most_with c.args.pairs.now xs c.args.q) c.as_slice.ensures.items in
    let is : c.greater_span.result ≡ span_max (set_span_of c.args.pairs.now c.args.c.now.pre) (span_max (most_with c.args.pairs.now c.args.c.now.pre c.args.q) (pair_at c.args.pairs.now c.args.q c.args.q)) = cc in
    subst (IsBelow 1000000000000000) (sym is) (beside_small c.args.pairs.now c.args.c.now c.args.q c.requires.small c.requires.served c.requires.atom)

pub returns : goal.returns
returns c =
    let with : c.span_with.result ≡ most_with c.args.pairs.now c.args.c.now.pre c.args.q = c.span_with.ensures ∙ ap (λ xs. most_with c.args.pairs.now xs c.args.q) c.as_slice.ensures.items in
    let is : c.greater_span.result ≡ span_max (set_span_of c.args.pairs.now c.args.c.now.pre) (span_max (most_with c.args.pairs.now c.args.c.now.pre c.args.q) (pair_at c.args.pairs.now c.args.q c.args.q)) = cc in
    c.after.ensures ∙ ap (λ v. v +ˢ At c.args.c.now.dur) (is ∙ sym (set_push c.args.pairs.now c.args.c.now.pre c.args.q))
