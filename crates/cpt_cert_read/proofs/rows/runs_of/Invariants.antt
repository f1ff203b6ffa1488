use Rattle.std.proofs.Common.{ℕ, ◌≡◌, ◌++◌, List, Bor, map, drop, option_map}
use Rattle.cpt_cert_form.specs.declared.forms.Run.{Run}
use Rattle.cpt_cert_read.specs.Reading.{runs_in}
use Rattle.cpt_cert_read.proofs.rows.runs_of.Given as goal

abbrev pub invariant-loop-word : goal.invariant-loop-word
invariant-loop-word l = option_map (λ (rs : List Run). l.runs.items ++ rs) (runs_in (map (λ (w : Bor (List ℕ)). w.now) (drop l.word-index l.words))) ≡ runs_in (map (λ (w : Bor (List ℕ)). w.now) l.words)
