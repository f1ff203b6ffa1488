use Rattle.std.proofs.Common.{ℕ, ◌≡◌, ◌++◌, List, Bor, length, map}
use Rattle.cpt_cert_read.specs.Reading.{words_in}
use Rattle.cpt_cert_read.proofs.words.words_of.Given as goal

abbrev pub invariant-loop-word : goal.invariant-loop-word
invariant-loop-word l = map (λ (w : Bor (List ℕ)). w.now) l.words.items ++ words_in l.rest ≡ words_in l.bytes

abbrev pub decreases-loop-word : goal.decreases-loop-word
decreases-loop-word l = length l.rest
