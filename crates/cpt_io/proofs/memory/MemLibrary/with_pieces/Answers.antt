use Rattle.std.proofs.Common.{ap, Some, arith}
use Rattle.cpt_io.proofs.EntryLemmas.{bytes_at-past}
use Rattle.cpt_io.proofs.memory.MemLibrary.with_pieces.Goals as goal

pub returns-clause-left : goal.returns-clause-left
returns-clause-left c = ap Some (bytes_at-past c.args.files.items c.len-place.result (omega arith))
