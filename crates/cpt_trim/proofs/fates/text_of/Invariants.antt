use Rattle.std.proofs.Common.{◌≡◌, ℕ, List, Bor, map, take}
use Rattle.cpt_cert_read.specs.Texts.{ended}
use Rattle.cpt_trim.specs.Fates.{left_of}
use Rattle.cpt_trim.proofs.fates.text_of.Given as goal

abbrev pub invariant-loop-place : goal.invariant-loop-place
invariant-loop-place l = l.text.items ≡ ended (left_of (take l.place l.fates) (take l.place (map (λ (b : Bor (List ℕ)). b.now) l.bodies)))
