use Rattle.std.proofs.Common.{rules}
use Rattle.std.proofs.lemmas.List.Sorted.{IsPartitionPoint-from_clause}
use Rattle.cpt_task.specs.declared.register.Mark.{Mark}
use Rattle.cpt_task.proofs.Ranks.{is_lower, sorted_parts, parted_before}
use Rattle.cpt_task.proofs.register.rank.Goals as goal

pub returns-clause-parted : goal.returns-clause-parted
returns-clause-parted c =
    let bound : Mark = record { atom = c.args.atom; time = c.args.time } in
    parted_before c.args.marks.now bound _ (IsPartitionPoint-from_clause (is_lower bound) c.args.marks.now _ c.partition_point.ensures.partitioned (sorted_parts c.args.marks.now bound c.requires) (λ a r q k. search rules))
