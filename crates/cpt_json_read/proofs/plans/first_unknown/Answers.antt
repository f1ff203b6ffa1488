use Rattle.std.proofs.Common.{arith}
use Rattle.cpt_json_form.specs.Reading.{NamesAction}
use Rattle.cpt_json_read.proofs.Firsts.{first_not, holds_all, one_more}
use Rattle.cpt_json_read.proofs.plans.first_unknown.Goals as goal

pub returns-then-not-names_action : goal.returns-then-not-names_action
returns-then-not-names_action c = first_not (NamesAction c.args.task.now) c.args.items.now c.loop-k.k c.index-items-k.result (omega arith) c.index-items-k.is c.if-not-names_action.ensures c.loop-k.invariant

pub loop-k-preserved : goal.loop-k-preserved
loop-k-preserved c = one_more (NamesAction c.args.task.now) c.args.items.now c.loop-k.k c.index-items-k.result (omega arith) c.index-items-k.is c.if-not-names_action.ensures c.loop-k.invariant

pub returns : goal.returns
returns c = holds_all (NamesAction c.args.task.now) c.args.items.now c.loop-k.k (omega arith) c.loop-k.invariant
