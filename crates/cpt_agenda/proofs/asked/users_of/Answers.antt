use Rattle.std.proofs.Common.{List, sym, subst}
use Rattle.cpt_task.specs.Shape.{TaskShape}
use Rattle.cpt_sheet.specs.declared.data.Cand.{Cand}
use Rattle.cpt_index.specs.Lists.{IsOffer, Lists}
use Rattle.cpt_agenda.specs.declared.asked.Use.{Use}
use Rattle.cpt_agenda.specs.Asked.{IsUser}
use Rattle.cpt_agenda.specs.Users.{IsDropper, IsNeeder}
use Rattle.cpt_agenda.proofs.asked.users_of.Goals as goal

pub returns-in-Needed : goal.returns-in-Needed
returns-in-Needed c =
    subst (λ (u : Use). Lists (IsUser c.args.ctx.now.task.now c.args.store.now.sheet u c.args.p) c.needing.result.now) (sym c.in-Needed.is)
    (subst (λ (l : List Cand). Lists (IsNeeder c.args.ctx.now.task.now c.args.p) l) (sym c.needing.ensures) (c.requires.users.atoms c.args.p).needing)

pub returns-in-Deleted : goal.returns-in-Deleted
returns-in-Deleted c =
    subst (λ (u : Use). Lists (IsUser c.args.ctx.now.task.now c.args.store.now.sheet u c.args.p) c.deleting.result.now) (sym c.in-Deleted.is)
    (subst (λ (l : List Cand). Lists (IsDropper c.args.ctx.now.task.now c.args.p) l) (sym c.deleting.ensures) (c.requires.users.atoms c.args.p).deleting)

pub returns-in-Added : goal.returns-in-Added
returns-in-Added c =
    subst (λ (u : Use). Lists (IsUser c.args.ctx.now.task.now c.args.store.now.sheet u c.args.p) c.offers.result.now) (sym c.in-Added.is)
    (subst (λ (t : TaskShape). Lists (IsOffer t c.args.store.now.sheet c.args.p) c.offers.result.now) c.requires.lent.task c.offers.ensures)
