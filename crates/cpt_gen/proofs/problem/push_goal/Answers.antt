use Rattle.std.proofs.Common.{codes, string_bytes}
use Rattle.std.specs.List.{flat_map, range_with_len}
use Rattle.cpt_gen.specs.Texts.{package_at}
use Rattle.cpt_gen.proofs.Rows.{pushed-three}
use Rattle.cpt_gen.proofs.problem.push_goal.Goals as goal

pub returns : goal.returns
returns c =
    pushed-three (string_bytes c.args.text.now) (codes "(:goal (and") (flat_map (package_at c.args.n) (range_with_len 1 c.args.n)) (codes ")))\n") (string_bytes c.push_str.new.self) (string_bytes c.push_row.new.text) (string_bytes c.push_str-2.new.self)
    c.in_ok-push_str.ensures.bytes c.in_ok-push_row.ensures c.in_ok-push_str-2.ensures.bytes
