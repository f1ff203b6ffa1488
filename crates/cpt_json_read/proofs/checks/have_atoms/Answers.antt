use Rattle.std.proofs.Common.{All, sym, subst, arith}
use Rattle.std.proofs.lemmas.List.{take_all}
use Rattle.std.proofs.lemmas.List.Elements.{All-more}
use Rattle.cpt_json_form.specs.Reading.{HasAtoms}
use Rattle.cpt_json_read.proofs.checks.have_atoms.Goals as goal

pub returns-then-not-has_atoms : goal.returns-then-not-has_atoms
returns-then-not-has_atoms c = λ all. c.if-not-has_atoms.ensures (subst (HasAtoms c.args.count) (sym c.a-item.is) (all c.loop-a.a-index c.a-item.result (omega arith)))

pub loop-a-preserved : goal.loop-a-preserved
loop-a-preserved c = All-more (HasAtoms c.args.count) c.args.actions.now c.loop-a.a-index c.a-item.result (omega arith) c.loop-a.invariant (subst (HasAtoms c.args.count) c.a-item.is c.if-not-has_atoms.ensures)

pub returns : goal.returns
returns c = subst (All (HasAtoms c.args.count)) (take_all c.loop-a.a-index c.args.actions.now (omega arith)) c.loop-a.invariant
