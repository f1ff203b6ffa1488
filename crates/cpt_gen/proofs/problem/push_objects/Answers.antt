use Rattle.std.proofs.Common.{◌+◌, codes, string_bytes}
use Rattle.std.specs.List.{flat_map, range_with_len}
use Rattle.cpt_gen.specs.Texts.{place_name, package_name}
use Rattle.cpt_gen.proofs.Rows.{pushed-five}
use Rattle.cpt_gen.proofs.problem.push_objects.Goals as goal

pub returns : goal.returns
returns c =
    pushed-five (string_bytes c.args.text.now) (codes "(:objects") (flat_map place_name (range_with_len 0 (c.args.n + 1))) (codes " - place t1 - truck") (flat_map package_name (range_with_len 1 c.args.n)) (codes " - package)\n")
    (string_bytes c.push_str.new.self) (string_bytes c.push_row.new.text) (string_bytes c.push_str-2.new.self) (string_bytes c.push_row-2.new.text) (string_bytes c.push_str-3.new.self)
    c.in_ok-push_str.ensures.bytes c.in_ok-push_row.ensures c.in_ok-push_str-2.ensures.bytes c.in_ok-push_row-2.ensures c.in_ok-push_str-3.ensures.bytes
