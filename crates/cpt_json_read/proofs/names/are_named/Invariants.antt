use Rattle.std.proofs.Common.{map, take}
use Rattle.cpt_line.specs.Names.{AreNames}
use Rattle.cpt_task_text.proofs.Sets.{Knows}
use Rattle.cpt_json_read.proofs.names.are_named.Given as goal

abbrev pub invariant-loop-item : goal.invariant-loop-item
invariant-loop-item g l = record {
  seen : Knows l.seen (take l.item-index (map g.N.Named.named l.items));
  names : AreNames (take l.item-index (map g.N.Named.named l.items));
}
