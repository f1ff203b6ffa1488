use Rattle.std.proofs.Common.{codes, string_bytes}
use Rattle.std.specs.List.{flat_map, range_with_len}
use Rattle.cpt_gen.specs.Texts.{package_at_first, road, road_time}
use Rattle.cpt_gen.proofs.Rows.{pushed-five}
use Rattle.cpt_gen.proofs.problem.push_init.Goals as goal

pub returns : goal.returns
returns c =
    pushed-five (string_bytes c.args.text.now) (codes "(:init (at t1 l0)") (flat_map package_at_first (range_with_len 1 c.args.n)) (flat_map road (range_with_len 0 c.args.n)) (flat_map road_time (range_with_len 0 c.args.n)) (codes ")\n")
    (string_bytes c.push_str.new.self) (string_bytes c.push_row.new.text) (string_bytes c.push_row-2.new.text) (string_bytes c.push_row-3.new.text) (string_bytes c.push_str-2.new.self)
    c.in_ok-push_str.ensures.bytes c.in_ok-push_row.ensures c.in_ok-push_row-2.ensures c.in_ok-push_row-3.ensures c.in_ok-push_str-2.ensures.bytes
