use Rattle.std.proofs.Common.{refl}
use Rattle.std.proofs.lemmas.Bool.{false≢true}
use Rattle.cpt_h2.proofs.RuleLemmas.{looks_apart, looks_two}
use Rattle.cpt_h2.proofs.rules.look_at_two.Goals as goal

pub returns-then-interfere : goal.returns-then-interfere
returns-then-interfere c = looks_apart c.args.first.now c.args.second.now c.args.limit c.args.board.now c.requires.good (c.if-interfere.ensures.0 refl)

pub returns : goal.returns
returns c =
    looks_two c.args.first.now c.args.second.now c.args.limit c.args.board.now c.lower_all.new.self
    c.requires.good c.requires.first c.requires.second c.requires.enough (λ h. false≢true (c.if-interfere.ensures.1 h))
    (rw (c.as_slice.ensures.items, c.as_slice-2.ensures.items) at c.lower_all.ensures.drops)
    (rw (c.as_slice.ensures.items, c.as_slice-2.ensures.items) at c.lower_all.ensures.met)
