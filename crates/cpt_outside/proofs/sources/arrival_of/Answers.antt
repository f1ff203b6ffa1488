use Rattle.std.proofs.Common.{sym, subst}
use Rattle.cpt_tables.specs.Spans.{IsBelow}
use Rattle.cpt_outside.proofs.OutsideLemmas.{source_small}
use Rattle.cpt_outside.proofs.sources.arrival_of.Goals as goal

pub returns-then-is_source-clause-small : goal.returns-then-is_source-clause-small
returns-then-is_source-clause-small c =
    subst (λ z. IsBelow 2000000000000000 z) (sym c.arrives.ensures.value) (source_small c.args.ctx.now.task.now c.args.ctx.now.tables.now c.args.store.now.sheet c.args.a c.args.c (c.arrives.ensures.fit c.requires.lent.live) c.requires.there (sym c.if-is_source.ensures))
