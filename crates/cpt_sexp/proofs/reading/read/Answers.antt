use Rattle.std.proofs.Common.{◌∙◌, ap, slice_get}
use Rattle.cpt_sexp.proofs.Context.{read_nothing}
use Rattle.cpt_sexp.proofs.Refusing.{refuse_end, accept, no_first}
use Rattle.cpt_sexp.proofs.reading.read.Goals as goal

pub loop-at-init : goal.loop-at-init
loop-at-init c = rw (c.new.ensures.items, c.new-2.ensures.items) (read_nothing c.args.text.now)

pub returns-in-Some-clause-err : goal.returns-in-Some-clause-err
returns-in-Some-clause-err c =
    refuse_end c.args.text.now c.loop-at.reading.items.items c.loop-at.reading.opened.items c.loop-at.at c.in-Some.first.now c.loop-at.invariant c.loop-at-test.false (c.in-Some.ensures.value ∙ ap (λ gs. slice_get gs 0) c.deref.ensures.value)

pub returns-clause-ok : goal.returns-clause-ok
returns-clause-ok c =
    accept c.args.text.now c.loop-at.reading.items.items c.loop-at.reading.opened.items c.loop-at.at c.loop-at.invariant c.loop-at-test.false (no_first c.loop-at.reading.opened.items (c.in_default.ensures.value ∙ ap (λ gs. slice_get gs 0) c.deref.ensures.value))
