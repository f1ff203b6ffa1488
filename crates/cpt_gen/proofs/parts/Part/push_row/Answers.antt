use Rattle.std.proofs.Common.{string_bytes}
use Rattle.cpt_gen.specs.Parts.{part_text}
use Rattle.cpt_gen.proofs.Rows.{row-pushed}
use Rattle.cpt_gen.proofs.parts.Part.push_row.Goals as goal

pub loop-k-preserved : goal.loop-k-preserved
loop-k-preserved c = row-pushed (part_text c.args.n c.args.self) c.args.first c.loop-k.k (string_bytes c.args.text.now) (string_bytes c.loop-k.text) (string_bytes c.push.new.text) c.loop-k.invariant c.in_ok-push.ensures
