use Rattle.std.proofs.Common.{◌≡◌, ◌↔◌, ℕ, zero, suc, ◌<◌, ◌≤◌, true, List, [], ◌∷◌, ◌++◌, length, get_or, take, drop, Some, refl, sym, ap, ◌∙◌, subst, arith}
use Rattle.std.proofs.lemmas.List.{take-append-drop}
use Rattle.std.specs.Str.{bytes_eq}
use Rattle.cpt_io.specs.Entries.{Entry, held, bytes_at, pull_count}
use Rattle.cpt_io.specs.Meaning.{Pulls}

-- a file at a place
pub bytes_at-get_or : (files : List Entry) (place : ℕ) (d : Entry) → place < length files → bytes_at files place ≡ (get_or files place d).1.items
bytes_at-get_or [] place d h = absurd (omega arith)
bytes_at-get_or (f ∷ fs) zero d h = refl
bytes_at-get_or (f ∷ fs) (suc place) d h = bytes_at-get_or fs place d (omega arith)

pub bytes_at-past : (files : List Entry) (place : ℕ) → length files ≤ place → bytes_at files place ≡ []
bytes_at-past [] place h = refl
bytes_at-past (f ∷ fs) zero h = absurd (omega arith)
bytes_at-past (f ∷ fs) (suc place) h = bytes_at-past fs place (omega arith)

empty_iff : (n most : ℕ) (xs piece : List ℕ) → n ≡ pull_count (length piece) most xs → 0 < most → 0 < length piece → n ≡ 0 ↔ (xs ≡ [])
empty_iff n most [] piece e some room = (λ _. refl, λ _. omega arith)
empty_iff n most (x ∷ xs) piece e some room = (λ z. absurd (omega arith), λ z. cc)

pub pulls_front : (n most : ℕ) (xs piece : List ℕ) → n ≡ pull_count (length piece) most xs → 0 < most → take n piece ≡ take n xs → Pulls (Some xs) (Some (drop n xs)) n piece
pulls_front n most xs piece e some front = (sym (take-append-drop n xs) ∙ ap (λ ys. ys ++ drop n xs) (sym front), empty_iff n most xs piece e some)

-- the file found at a place
pub found : (files : List Entry) (place : ℕ) (f : Entry) (name : List ℕ) → place < length files → f ≡ get_or files place f → bytes_eq f.0 name ≡ true → held (drop place files) name ≡ Some (bytes_at files place)
found [] place f name h is same = absurd (omega arith)
found (g ∷ gs) zero f name h is same = rw (subst (λ (e : Entry). bytes_eq e.0 name ≡ true) is same) refl
found (g ∷ gs) (suc place) f name h is same = found gs place f name (omega arith) is same

-- the bytes of an element that was read
pub bytes_of_read : (files : List Entry) (place : ℕ) (f : Entry) → place < length files → f ≡ get_or files place f → f.1.items ≡ bytes_at files place
bytes_of_read files place f h is = ap (λ (e : Entry). e.1.items) is ∙ sym (bytes_at-get_or files place f h)
