-- What a line's bytes are read as.
use Rattle.std.proofs.Common.{◌≡◌, ℕ, ◌<◌, ◌≤◌, inl, inr, true, List, [], ◌∷◌, length, Option, None, Some, unwrap_or, refl, ap, ◌∙◌, sym, arith}
use Rattle.cpt_cert_form.specs.declared.forms.CertLine.{CertLine}
use Rattle.cpt_cert_form.specs.declared.forms.CertLine.TheVariants.{Strange}
use Rattle.cpt_cert_form.specs.Forms.{line_words, joined, capped_line, Spells, IsReadAs}
use Rattle.cpt_cert_read.specs.Reading.{words_in, line_in}
use Rattle.cpt_cert_read.proofs.Joining.{are_solid, joined_words, words_joined}
use Rattle.cpt_cert_read.proofs.LineAgain.{line_again, line_solid}
use Rattle.cpt_cert_read.proofs.LineRead.{line_some}
use Rattle.cpt_cert_read.proofs.Parts.{some_is}

words_back : (ws : List (List ℕ)) (c : CertLine) → are_solid ws ≡ true → line_in ws ≡ Some c → words_in (joined ws) ≡ ws
unfolding line_in
words_back [] c h e = absurd cc
words_back (w ∷ ws) c h e = words_joined w ws h

-- the words of bytes that spell a line are read as it
pub spelled_read : (bytes : List ℕ) (line : CertLine) → Spells bytes line → line_in (words_in bytes) ≡ Some (capped_line line)
spelled_read bytes line h =
    let again = line_again line h.written in
    let words : words_in bytes ≡ line_words line = ap words_in h.spelled ∙ words_back (line_words line) (capped_line line) (line_solid line h.written) again in
    ap line_in words ∙ again

-- bytes whose words are read spell a line
read_spelled : (bytes : List ℕ) (c : CertLine) → length bytes ≤ 65536 → line_in (words_in bytes) ≡ Some c → (line : CertLine) × Spells bytes line × (c ≡ capped_line line)
read_spelled bytes c short e =
    let s = line_some (words_in bytes) c e in
    (s.0, record { written = s.1; spelled = sym (joined_words bytes) ∙ ap joined (sym s.2); short = short }, s.3)

meaning_by : (bytes : List ℕ) (o : Option CertLine) → length bytes ≤ 65536 → line_in (words_in bytes) ≡ o → IsReadAs bytes (unwrap_or o Strange)
meaning_by bytes (Some c) short e = inl (read_spelled bytes c short e)
meaning_by bytes None short e = inr (refl, λ line h. none (sym e ∙ spelled_read bytes line h))
  where
    none : {c : CertLine} → let o : Option CertLine = None in o ≡ Some c → ⊥
    none e = cc

-- a line that is not too long is read by its words
pub short_meaning : (bytes : List ℕ) → length bytes ≤ 65536 → IsReadAs bytes (unwrap_or (line_in (words_in bytes)) Strange)
short_meaning bytes short = meaning_by bytes (line_in (words_in bytes)) short refl

-- a line that is too long is read as none
pub long_meaning : (bytes : List ℕ) → 65536 < length bytes → IsReadAs bytes Strange
long_meaning bytes long = inr (refl, λ line h. let short : length bytes ≤ 65536 = h.short in omega (arith, long, short))

-- a line is read in one way
pub one_meaning : (bytes : List ℕ) (a b : CertLine) → IsReadAs bytes a → IsReadAs bytes b → a ≡ b
one_meaning bytes a b (inl h) (inl k) = h.2 ∙ some_is (capped_line h.0) (capped_line k.0) (sym (spelled_read bytes h.0 h.1) ∙ spelled_read bytes k.0 k.1) ∙ sym k.2
one_meaning bytes a b (inl h) (inr k) = absurd (k.1 h.0 h.1)
one_meaning bytes a b (inr h) (inl k) = absurd (h.1 k.0 k.1)
one_meaning bytes a b (inr h) (inr k) = h.0 ∙ sym k.0
