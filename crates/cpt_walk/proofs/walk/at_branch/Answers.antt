use Rattle.std.proofs.Common.{◌++◌, [], ◌∷◌, ap, ◌∙◌}
use Rattle.cpt_walk.specs.declared.walk.Past.{Past}
use Rattle.cpt_walk.proofs.Turning.{branch_turn, flawless_turn}
use Rattle.cpt_walk.proofs.walk.at_branch.Goals as goal

pub returns-in_ok-push-in-Some : goal.returns-in_ok-push-in-Some
returns-in_ok-push-in-Some c =
    let k = rw c.in-Some.is at c.in_ok-frame.ensures in
    let p = c.args.past in
    let q : Past = record { may_open = c.one_done-past.result.may_open; frames = c.push.new.self; done = c.one_done-past.result.done; left = c.one_done-past.result.left } in
    let e = c.one_done-past.ensures in
    branch_turn c.args.task.now c.args.tables.now p q c.args.sheet c.args.flaw.now c.requires.formed c.requires.frames k.0 k.1
    (ap (λ (z : Past). z.may_open) e) (ap (λ (z : Past). z.done) e) (ap (λ (z : Past). z.left) e)
    (c.in_ok-push-in-Some.ensures.items ∙ ap (λ (z : Past). z.frames.items ++ c.in-Some.frame ∷ []) e ∙ ap (λ z. p.frames.items ++ z ∷ []) k.2)

pub returns-in-None : goal.returns-in-None
returns-in-None c =
    let k = rw c.in-None.is at c.in_ok-frame.ensures in
    flawless_turn c.args.task.now c.args.tables.now c.args.past c.args.sheet c.args.flaw.now k
