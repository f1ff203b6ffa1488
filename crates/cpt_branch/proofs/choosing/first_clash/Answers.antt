use Rattle.std.proofs.Common.{None, arith, length, sym, ◌∙◌}
use Rattle.cpt_branch.specs.Choosing.{IsClashOf}
use Rattle.cpt_branch.proofs.ChoosingLemmas.{first-all}
use Rattle.cpt_branch.proofs.FirstLemmas.{clash-further, clash-some}
use Rattle.cpt_branch.proofs.choosing.first_clash.Goals as goal

pub returns-then-is_some : goal.returns-then-is_some
returns-then-is_some c =
    clash-some c.args.store.now.task c.args.store.now.sheet c.loop-x.x (length c.args.store.now.sheet.tokens) c.clash_of-found.result (sym c.is_some.ensures ∙ c.if-is_some.true) (omega arith) c.loop-x.invariant c.clash_of-found.ensures

pub loop-x-preserved : goal.loop-x-preserved
loop-x-preserved c =
    clash-further c.args.store.now.task c.args.store.now.sheet c.loop-x.x c.clash_of-found.result (sym c.is_some.ensures ∙ c.if-is_some.false) c.loop-x.invariant c.clash_of-found.ensures

pub returns : goal.returns
returns c =
    first-all c.args.store.now.sheet (IsClashOf c.args.store.now.task c.args.store.now.sheet) c.loop-x.x (length c.args.store.now.sheet.tokens) None (omega arith) (omega arith) c.loop-x.invariant
