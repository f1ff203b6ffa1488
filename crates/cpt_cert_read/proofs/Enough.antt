-- What is kept of a line is enough to read it.
use Rattle.std.proofs.Common.{◌≡◌, ℕ, ◌≤◌, ◌↔◌, inl, inr, List, [], ◌∷◌, ◌++◌, length, min, refl, subst, ap, ◌∙◌, sym, arith}
use Rattle.std.proofs.lemmas.Bool.{cases_lt}
use Rattle.std.proofs.lemmas.List.{take_all, length-take, length-take-le, take-append-le}
use Rattle.cpt_cert_form.specs.declared.forms.CertLine.{CertLine}
use Rattle.cpt_cert_form.specs.Forms.{IsReadAs}
use Rattle.cpt_cert_read.specs.Lines.{kept}
use Rattle.cpt_cert_read.proofs.Meaning.{long_meaning, one_meaning}

-- a line that is kept whole
kept_whole : (bytes : List ℕ) → length bytes ≤ 65537 → kept bytes ≡ bytes
unfolding kept
kept_whole bytes few = take_all 65537 bytes few

length_kept : (bytes : List ℕ) → 65537 ≤ length bytes → length (kept bytes) ≡ 65537
unfolding kept
length_kept bytes many = length-take-le 65537 bytes many

-- a longer line keeps what it had
kept_front : (bytes more : List ℕ) → 65537 ≤ length bytes → kept (bytes ++ more) ≡ kept bytes
unfolding kept
kept_front bytes more many = take-append-le 65537 bytes more many

pub kept_reading : (bytes : List ℕ) (line : CertLine) → IsReadAs (kept bytes) line ↔ IsReadAs bytes line
kept_reading bytes line =
    elim (cases_lt 65536 (length bytes)) [
      | inl long ↦
          let size = length_kept bytes (omega (arith, long)) in
          let front = long_meaning (kept bytes) (omega (arith, size)) in
          let whole = long_meaning bytes long in
          (λ h. subst (IsReadAs bytes) (one_meaning (kept bytes) _ line front h) whole, λ h. subst (IsReadAs (kept bytes)) (one_meaning bytes _ line whole h) front)
      | inr short ↦
          let same = kept_whole bytes (omega (arith, short)) in
          (λ h. subst (λ (x : List ℕ). IsReadAs x line) same h, λ h. subst (λ (x : List ℕ). IsReadAs x line) (sym same) h)
    ]

pub kept_twice : (bytes more : List ℕ) → kept (kept bytes ++ more) ≡ kept (bytes ++ more)
kept_twice bytes more =
    elim (cases_lt 65536 (length bytes)) [
      | inl long ↦
          let many : 65537 ≤ length bytes = omega (arith, long) in
          let size = length_kept bytes many in
          kept_front (kept bytes) more (omega (arith, size)) ∙ kept_whole (kept bytes) (omega (arith, size)) ∙ sym (kept_front bytes more many)
      | inr short ↦ ap (λ (x : List ℕ). kept (x ++ more)) (kept_whole bytes (omega (arith, short)))
    ]

length_of_kept : (bytes : List ℕ) → length (kept bytes) ≡ min 65537 (length bytes)
unfolding kept
length_of_kept bytes = length-take 65537 bytes

empty : (bytes : List ℕ) → length bytes ≡ 0 → bytes ≡ []
empty [] h = refl
empty (b ∷ bs) h = absurd (omega (arith, h))

pub kept_nothing : (bytes : List ℕ) → (kept bytes ≡ []) ↔ (bytes ≡ [])
kept_nothing bytes =
    let size = length_of_kept bytes in
    (λ h. empty bytes (omega (arith, size, ap length h)), λ h. empty (kept bytes) (omega (arith, size, ap length h)))
