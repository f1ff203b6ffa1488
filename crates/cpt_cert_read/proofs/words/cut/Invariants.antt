use Rattle.std.proofs.Common.{ℕ, ◌≡◌, ◌++◌, List, take, drop, option_map}
use Rattle.cpt_cert_read.specs.Reading.{cut}
use Rattle.cpt_cert_read.proofs.words.cut.Given as goal

abbrev pub invariant-loop-i : goal.invariant-loop-i
invariant-loop-i l = option_map (λ (p : List ℕ × List ℕ). (take l.i l.bytes ++ p.0, p.1)) (cut l.byte (drop l.i l.bytes)) ≡ cut l.byte l.bytes
