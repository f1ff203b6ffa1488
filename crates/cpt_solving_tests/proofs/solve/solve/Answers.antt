use Rattle.std.proofs.Common.{refl}
use Rattle.cpt_solving_tests.proofs.solve.solve.Goals as goal

pub found_with-requires-clause-rules : goal.found_with-requires-clause-rules
found_with-requires-clause-rules c = refl
