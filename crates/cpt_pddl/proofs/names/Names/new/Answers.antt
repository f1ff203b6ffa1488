use Rattle.std.proofs.Common.{◌<◌, ◌^◌, ap, length, arith}
use Rattle.cpt_pddl.proofs.NameLemmas.{firsts_none}
use Rattle.cpt_pddl.proofs.names.Names.new.Goals as goal

pub invariant_of-result : goal.invariant_of-result
invariant_of-result c =
    let none = c.new.ensures.items in
    let few : length c.new.result.items < 2 ^ 32 = let e = ap length none in omega (arith, e) in
    (few, (firsts_none c.new.result.items c.new-2.result.entries none c.new-2.ensures.empty, tt))
