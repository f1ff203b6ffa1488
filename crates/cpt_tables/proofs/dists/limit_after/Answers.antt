use Rattle.std.proofs.Common.{◌≡◌, ◌∙◌, sym, subst, ap}
use Rattle.cpt_tables.specs.Spans.{IsBelow}
use Rattle.cpt_tables.specs.Shapes.{most_dist}
use Rattle.cpt_tables.proofs.SetLemmas.{dist_small}
use Rattle.cpt_tables.proofs.dists.limit_after.Goals as goal

pub after-requires-clause-small : goal.after-requires-clause-small
after-requires-clause-small c =
    let is : c.dist_to.result ≡ most_dist c.args.dists.now c.args.act c.args.c.now.pre = c.dist_to.ensures ∙ ap (λ xs. most_dist c.args.dists.now c.args.act xs) c.as_slice.ensures.items in
    subst (IsBelow 1000000000000000) (sym is) (dist_small c.args.dists.now c.args.act c.args.c.now.pre c.requires.small c.requires.act c.requires.reached.0.pre)
