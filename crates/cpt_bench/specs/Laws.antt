use Rattle.std.specs.Prelude.{◌≡◌, ℕ, ◌⊎◌}
use Rattle.cpt_answer.specs.Endings.{Answer}
use Rattle.cpt_answer.specs.Promise.{IsAnswerOf}
use Rattle.cpt_bench.specs.Commands.{BenchesMade}

-- A made problem has one answer, but that a certificate of its plan may be too long: of two answers that differ, one is the summary
-- and the other that the certificate is too long.
abbrev pub OneBench : Type 0
OneBench = (n : ℕ) (a b : Answer) → IsAnswerOf (BenchesMade n) a → IsAnswerOf (BenchesMade n) b → (a ≡ b) ⊎ ((a.status ≡ 0) × (b.status ≡ 6)) ⊎ ((a.status ≡ 6) × (b.status ≡ 0))
