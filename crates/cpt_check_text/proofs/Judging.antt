-- a text that is judged within a greater limit
use Rattle.std.proofs.Common.{ℕ, ◌≤◌, ◌⊎◌, inl, inr, List, length, Option, arith}
use Rattle.cpt_task.specs.Shape.{TaskShape}
use Rattle.cpt_cert_form.specs.declared.forms.Version.{Version}
use Rattle.cpt_cert_accept.specs.declared.faults.Why.{Why}
use Rattle.cpt_check.specs.declared.judged.Ruling.{Ruling}
use Rattle.cpt_check.specs.declared.judged.Ruling.TheVariants.{Accepted, Rejected}
use Rattle.cpt_check.specs.Judging.{RulesOf, StandsWithin}

known_later : (t : TaskShape) (m n : ℕ) (text : List ℕ) (line : ℕ) (why : Why) → m ≤ n → (length text ≤ m) ⊎ StandsWithin t m text line why → (length text ≤ n) ⊎ StandsWithin t n text line why
known_later t m n text line why le (inl short) = inl (omega (arith, short, le))
known_later t m n text line why le (inr (bytes, (ls, front, within, stands))) = inr (bytes, (ls, front, omega (arith, within, le), stands))

pub rules_later : (t : TaskShape) (m n : ℕ) (text : List ℕ) (v : Option Version) (r : Ruling) → m ≤ n → RulesOf t m text v r → RulesOf t n text v r
rules_later t m n text v (Accepted claim) le h = let size = h.size in record { size = omega (arith, size, le); named = h.named; version_is = h.version_is; accepts = h.accepts }
rules_later t m n text v (Rejected line why) le h = record { version_is = h.version_is; first = h.first; known = known_later t m n text line why le h.known }
