use Rattle.std.proofs.Common.{sym, ◌∙◌, drop}
use Rattle.cpt_sexp.specs.Bytes.{plain_from}
use Rattle.cpt_sexp.proofs.Depth.{empties_at_once}
use Rattle.cpt_sexp.proofs.bytes.runs_out.Goals as goal

pub returns-then-depth-eq0 : goal.returns-then-depth-eq0
returns-then-depth-eq0 c =
    sym (empties_at_once c.loop-b.depth (plain_from c.loop-b.commented (drop c.loop-b.b-index c.args.bytes.now)) c.if-depth-eq0.true) ∙ c.loop-b.invariant.same
