use Rattle.std.proofs.Common.{length}
use Rattle.std.proofs.lemmas.Bool.{false≢true}
use Rattle.cpt_task_text.proofs.Listing.{ids_increase}
use Rattle.cpt_task_text.proofs.lists.ids_of.Goals as goal

pub unreachable-requires : goal.unreachable-requires
unreachable-requires c =
    false≢true (c.in-None.ensures.made.1 (ids_increase (length c.in_ok-bytes.bytes.now) c.args.number c.args.count c.in_ok-bytes.bytes.now c.in_ok-ids.ids.items c.in_ok-ids.ensures))
