use Rattle.std.proofs.Common.{◌≡◌, ◌≢◌, ℕ, zero, suc, ◌+◌, ◌<◌, ◌==◌, Bool, true, false, not, cond, List, [], ◌∷◌, ◌++◌, length, All, Some, refl, ap, ◌∙◌, arith}
use Rattle.std.specs.Prelude.{slice_index_or, if◌then◌else◌, flat_map}
use Rattle.std.specs.Str.{bytes_eq}
use Rattle.std.proofs.lemmas.Bool.Decides.{nat_tests}
use Rattle.std.proofs.lemmas.Slice.Eq.{bytes_eq-Decides}
use Rattle.cpt_facts.specs.Fitting.{AreDifferent}
use Rattle.cpt_pddl.specs.Names.{place_from}
use Rattle.cpt_instance.specs.Named.{blank_at}

-- a word has no blank
abbrev pub IsWord : List ℕ → Type 0
IsWord word = All (λ b. b ≢ 32) word

not_equal : (a b : ℕ) → a ≢ b → (a == b) ≡ false
not_equal a b h = grind (arith, nat_tests)

not_true : (b : Bool) → (b ≡ true → ⊥) → b ≡ false
not_true true h = absurd (h refl)
not_true false h = refl

-- the first blank behind a word
pub blank_word : (w r : List ℕ) → IsWord w → blank_at r ≡ 0 → blank_at (w ++ r) ≡ length w
blank_word [] r word e = e
blank_word (b ∷ w) r word e =
    let h : b ≢ 32 = word 0 b (omega arith) in
    let ih : blank_at (w ++ r) ≡ length w = blank_word w r (λ k d lt. word (suc k) d (omega arith)) e in
    ap (λ t. cond (not t) (1 + blank_at (w ++ r)) 0) (not_equal b 32 h) ∙ (let sum : 1 + blank_at (w ++ r) ≡ length (b ∷ w) = omega arith in sum)

pub blank_spaced : (names : List (List ℕ)) → blank_at (flat_map (λ word. 32 ∷ word) names) ≡ 0
blank_spaced [] = refl
blank_spaced (n ∷ ns) = refl

-- a word stands at its place among names
pub record StandsAt (names : List (List ℕ)) (k : ℕ) (word : List ℕ) (n : ℕ) : Type 0 where
  pub place : ℕ
  pub number : n ≡ k + place
  pub within : place < length names
  pub same : slice_index_or names place [] ≡ word

place_case : (m : List ℕ) (ms : List (List ℕ)) (k : ℕ) (word : List ℕ) (n : ℕ) (b : Bool) → bytes_eq m word ≡ b
    → (if b then Some k else place_from ms (k + 1) word) ≡ Some n → (place_from ms (k + 1) word ≡ Some n → StandsAt ms (k + 1) word n) → StandsAt (m ∷ ms) k word n
place_case m ms k word n true e h rest =
    let same : k ≡ n = cc in
    record { place = 0; number = omega arith; within = omega arith; same = (bytes_eq-Decides m word).0 e }
place_case m ms k word n false e h rest =
    let r : StandsAt ms (k + 1) word n = rest h in
    let number : n ≡ (k + 1) + r.place = r.number in
    let within : r.place < length ms = r.within in
    record { place = suc r.place; number = omega arith; within = omega arith; same = r.same }

pub place_found : (names : List (List ℕ)) (k : ℕ) (word : List ℕ) (n : ℕ) → place_from names k word ≡ Some n → StandsAt names k word n
place_found [] k word n h = cc
place_found (m ∷ ms) k word n h = place_case m ms k word n (bytes_eq m word) refl h (place_found ms (k + 1) word n)

-- among different names each has its place
pub place_complete : (names : List (List ℕ)) (k j : ℕ) → AreDifferent names → j < length names → place_from names k (slice_index_or names j []) ≡ Some (k + j)
place_complete [] k j different lt = absurd (omega arith)
place_complete (m ∷ ms) k zero different lt =
    ap (λ b. if b then Some k else place_from ms (k + 1) m) ((bytes_eq-Decides m m).1 refl) ∙ ap Some (let e : k ≡ k + 0 = omega arith in e)
place_complete (m ∷ ms) k (suc j) different lt =
    let other : m ≢ slice_index_or ms j [] = different 0 (suc j) (omega arith) lt in
    let e : bytes_eq m (slice_index_or ms j []) ≡ false = not_true (bytes_eq m (slice_index_or ms j [])) (λ t. other ((bytes_eq-Decides m (slice_index_or ms j [])).0 t)) in
    ap (λ b. if b then Some k else place_from ms (k + 1) (slice_index_or ms j [])) e
    ∙ place_complete ms (k + 1) j (λ a b less within. different (suc a) (suc b) (omega arith) (omega arith)) (omega arith)
    ∙ ap Some (let f : (k + 1) + j ≡ k + suc j = omega arith in f)
