-- whole lines at the front of a text
use Rattle.std.proofs.Common.{◌≡◌, ℕ, ◌+◌, ◌≤◌, List, [], ◌∷◌, ◌++◌, length, All, refl, sym, ap, ◌∙◌, subst, arith, append_assoc}
use Rattle.std.specs.List.{AllZip}
use Rattle.std.proofs.lemmas.List.Elements.{All-append}
use Rattle.cpt_cert_form.specs.declared.forms.CertLine.{CertLine}
use Rattle.cpt_cert_form.specs.Forms.{IsReadAs}
use Rattle.cpt_cert_read.specs.Lines.{HasNoEnd}
use Rattle.cpt_cert_read.specs.Texts.{ended, IsSplit, unended, AreLinesOf}
use Rattle.cpt_cert_read.proofs.Meaning.{one_meaning}
use Rattle.cpt_cert_read.proofs.Splits.{split_once, split_of, readings, zip_append, ended_append}
use Rattle.cpt_check.specs.Judging.{IsFront}

zip_front : (bodies more : List (List ℕ)) (ls read : List CertLine) → AllZip IsReadAs bodies ls → AllZip IsReadAs (bodies ++ more) read → (w : List CertLine) × (read ≡ ls ++ w) × AllZip IsReadAs more w
zip_front [] more [] read h k = (read, refl, k)
zip_front [] more (l ∷ ls) read h k = absurd h
zip_front (b ∷ bodies) more [] read h k = absurd h
zip_front (b ∷ bodies) more (l ∷ ls) [] h k = absurd k
zip_front (b ∷ bodies) more (l ∷ ls) (r ∷ read) h k =
    let w = zip_front bodies more ls read h.1 k.1 in
    let same : r ≡ l = one_meaning b r l k.0 h.0 in
    let rest = w.1 in
    (w.0, cc, w.2)

-- lines behind the lines of a front
split_behind : (text : List ℕ) (bodies : List (List ℕ)) (rest : List ℕ) (more : List (List ℕ)) (tail : List ℕ) → text ≡ ended bodies ++ rest → All HasNoEnd bodies → IsSplit rest more tail → IsSplit text (bodies ++ more) tail
split_behind text bodies rest more tail e h k = record {
  whole = e ∙ ap (λ z. ended bodies ++ z) k.whole ∙ sym (append_assoc (ended bodies) (ended more) tail) ∙ ap (λ z. z ++ tail) (sym (ended_append bodies more));
  lines = All-append HasNoEnd bodies more h k.lines;
  last = k.last;
}

-- whatever comes behind whole lines, the text has lines that begin with them
pub front_lines : (text : List ℕ) (n : ℕ) (ls : List CertLine) → IsFront text n ls → (more : List CertLine) × AreLinesOf text (ls ++ more)
front_lines text n ls h =
    let s = split_of h.rest in
    let r = readings s.bodies in (
      r.0 ++ unended s.tail,
      record {
        bodies = h.bodies ++ s.bodies;
        tail = s.tail;
        read = ls ++ r.0;
        split = split_behind text h.bodies h.rest s.bodies s.tail h.whole h.lines s.split;
        each = zip_append h.bodies s.bodies ls r.0 h.each r.1;
        all = sym (append_assoc ls r.0 (unended s.tail));
      },
    )

-- whole lines at the front of a text are the first of its lines
pub front_first : (text : List ℕ) (bodies : List (List ℕ)) (tail : List ℕ) (read : List CertLine) (n : ℕ) (ls : List CertLine) → IsSplit text bodies tail → AllZip IsReadAs bodies read → (h : IsFront text n ls) →
    (more : List (List ℕ)) × (w : List CertLine) × (bodies ≡ h.bodies ++ more) × (read ≡ ls ++ w) × AllZip IsReadAs more w
front_first text bodies tail read n ls split each h =
    let s = split_of h.rest in
    let k = split_behind text h.bodies h.rest s.bodies s.tail h.whole h.lines s.split in
    let same = split_once bodies (h.bodies ++ s.bodies) tail s.tail split.lines k.lines split.last k.last (sym split.whole ∙ k.whole) in
    let z = zip_front h.bodies s.bodies ls read h.each (subst (λ z. AllZip IsReadAs z read) same.0 each) in
    (s.bodies, z.0, same.0, z.1, z.2)

append_within : (a b c d : List ℕ) → a ++ b ≡ c ++ d → length c ≤ length a → (z : List ℕ) × (a ≡ c ++ z)
append_within a b [] d e h = (a, refl)
append_within [] b (x ∷ c) d e h = absurd (omega (arith, h))
append_within (y ∷ a) b (x ∷ c) d e h = let k = append_within a b c d (tails e) (omega (arith, h)) in let j = k.1 in let i = heads e in (k.0, cc)
  where
    tails : y ∷ (a ++ b) ≡ x ∷ (c ++ d) → a ++ b ≡ c ++ d
    tails e = cc

    heads : y ∷ (a ++ b) ≡ x ∷ (c ++ d) → y ≡ x
    heads e = cc

-- whole lines within the front of a text are at the front of that front
pub front_within : (front more : List ℕ) (n : ℕ) (ls : List CertLine) → IsFront (front ++ more) n ls → n ≤ length front → IsFront front n ls
front_within front more n ls h le =
    let size : n ≡ length (ended h.bodies) = h.size in
    let k = append_within front more (ended h.bodies) h.rest h.whole (omega (arith, size, le)) in
    record { bodies = h.bodies; rest = k.0; whole = k.1; lines = h.lines; each = h.each; size = h.size }
