use Rattle.cpt_sheet.specs.View.{cands}
use Rattle.cpt_branch.proofs.LeafLemmas.{choices-more}
use Rattle.cpt_branch.proofs.decisions.choices.Goals as goal

pub loop-place-preserved : goal.loop-place-preserved
loop-place-preserved c =
    choices-more c.args.x c.args.p c.loop-place.place (cands c.args.store.now.sheet c.args.x c.args.p) c.loop-place.made.items c.push.new.self.items c.cand.result c.choice_of.result c.cand.ensures c.loop-place.invariant c.in_ok-push.ensures.items
    c.choice_of.ensures
