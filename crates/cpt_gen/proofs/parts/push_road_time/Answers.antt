use Rattle.std.proofs.Common.{codes, string_bytes}
use Rattle.cpt_gen.specs.Texts.{road_ends}
use Rattle.cpt_gen.proofs.Rows.{pushed-three}
use Rattle.cpt_gen.proofs.parts.push_road_time.Goals as goal

pub returns : goal.returns
returns c =
    pushed-three (string_bytes c.args.text.now) (codes " (= (road-time") (road_ends c.args.i) (codes " 3)") (string_bytes c.push_str.new.self) (string_bytes c.push_road_ends.new.text) (string_bytes c.push_str-2.new.self)
    c.in_ok-push_str.ensures.bytes c.in_ok-push_road_ends.ensures c.in_ok-push_str-2.ensures.bytes
