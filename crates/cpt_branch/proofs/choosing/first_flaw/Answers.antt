use Rattle.std.proofs.Common.{Some, length, subst}
use Rattle.cpt_branch.specs.Choosing.{AreBelow, IsChoice, IsFirstOf, IsOfToken}
use Rattle.cpt_branch.proofs.FirstLemmas.{clashes-first, lists-first}
use Rattle.cpt_branch.proofs.choosing.first_flaw.Goals as goal

pub returns-in-Some : goal.returns-in-Some
returns-in-Some c =
    subst (λ t. IsChoice t c.args.store.now.sheet (Some c.in-Some.flaw)) c.requires.lent.task
    (lists-first c.args.store.now.task c.args.store.now.sheet c.in-Some.flaw
    (subst (λ r. IsFirstOf c.args.store.now.sheet (AreBelow (IsOfToken c.args.store.now.task c.args.store.now.sheet) (length c.args.store.now.sheet.tokens)) r) c.in-Some.is c.of_lists.ensures))

pub returns-in-None : goal.returns-in-None
returns-in-None c =
    subst (λ t. IsChoice t c.args.store.now.sheet c.first_clash.result) c.requires.lent.task
    (clashes-first c.args.store.now.task c.args.store.now.sheet c.first_clash.result
    (subst (λ r. IsFirstOf c.args.store.now.sheet (AreBelow (IsOfToken c.args.store.now.task c.args.store.now.sheet) (length c.args.store.now.sheet.tokens)) r) c.in-None.is c.of_lists.ensures) c.first_clash.ensures)
