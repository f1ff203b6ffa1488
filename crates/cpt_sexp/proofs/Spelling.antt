use Rattle.std.proofs.Common.{◌≡◌, ℕ, suc, ◌<◌, ◌≤◌, inl, inr, true, List, get_or, refl, subst, arith}
use Rattle.std.proofs.lemmas.Bool.{cases_lt}
use Rattle.cpt_sexp.specs.Bytes.{is_blank, is_letter}
use Rattle.cpt_sexp.specs.Grammar.{IsGap, IsWord, Spells}
use Rattle.cpt_sexp.specs.Trees.{Trees, none, word, group}

-- every number from one up to the next has the fact
up_to : (P : ℕ → Type 0) (low high : ℕ) → ((k : ℕ) → low ≤ k → k < high → P k) → P high → (k : ℕ) → low ≤ k → k < suc high → P k
up_to P low high below here k le lt =
    elim (cases_lt k high) [
      | inl less ↦ below k le less
      | inr more ↦ let e : high ≡ k = omega arith in subst P e here
    ]

-- a gap goes on over one more blank
pub gap_more : (bytes : List ℕ) (from to : ℕ) → IsGap bytes from to → is_blank (get_or bytes to 0) ≡ true → IsGap bytes from (suc to)
gap_more bytes from to gap blank = record {
  ordered = let le = gap.ordered in omega arith;
  blanks = up_to (λ k. is_blank (get_or bytes k 0) ≡ true) from to gap.blanks blank;
}

-- nothing is a gap
pub gap_none : (bytes : List ℕ) (at : ℕ) → IsGap bytes at at
gap_none bytes at = record { ordered = omega arith; blanks = λ k le lt. absurd (omega arith) }

pub letters_none : (bytes : List ℕ) (at : ℕ) → (k : ℕ) → at ≤ k → k < at → is_letter (get_or bytes k 0) ≡ true
letters_none bytes at k le lt = absurd (omega arith)

-- letters go on over one more
pub letters_more : (bytes : List ℕ) (from to : ℕ) → ((k : ℕ) → from ≤ k → k < to → is_letter (get_or bytes k 0) ≡ true) → is_letter (get_or bytes to 0) ≡ true → (k : ℕ) → from ≤ k → k < suc to → is_letter (get_or bytes k 0) ≡ true
letters_more bytes from to letters here = up_to (λ k. is_letter (get_or bytes k 0) ≡ true) from to letters here

-- two gaps in a row are one
pub gap_join : (bytes : List ℕ) (from mid to : ℕ) → IsGap bytes from mid → IsGap bytes mid to → IsGap bytes from to
gap_join bytes from mid to a b = record {
  ordered = let l = a.ordered in let r = b.ordered in omega arith;
  blanks = λ k le lt. elim (cases_lt k mid) [ inl less ↦ a.blanks k le less | inr more ↦ b.blanks k more lt ];
}

-- trees after trees
abbrev pub join : Trees → Trees → Trees
join none more = more
join (word from to rest) more = word from to (join rest more)
join (group from to inside rest) more = group from to inside (join rest more)

-- blanks before what is spelled
pub gap_before : (bytes : List ℕ) (depth from mid to : ℕ) (trees : Trees) → IsGap bytes from mid → Spells bytes depth mid to trees → Spells bytes depth from to trees
gap_before bytes depth from mid to none gap s = gap_join bytes from mid to gap s
gap_before bytes depth from mid to (word a b rest) gap s = (gap_join bytes from mid a gap s.0, s.1, s.2)
gap_before bytes depth from mid to (group a b inside rest) gap s = (gap_join bytes from mid a gap s.0, s.1, s.2, s.3, s.4)

-- what is spelled, and then more
pub spells_join : (bytes : List ℕ) (depth from mid to : ℕ) (trees more : Trees) → Spells bytes depth from mid trees → Spells bytes depth mid to more → Spells bytes depth from to (join trees more)
spells_join bytes depth from mid to none more s m = gap_before bytes depth from mid to more s m
spells_join bytes depth from mid to (word a b rest) more s m = (s.0, s.1, spells_join bytes depth b mid to rest more s.2 m)
spells_join bytes depth from mid to (group a b inside rest) more s m = (s.0, s.1, s.2, s.3, spells_join bytes depth b mid to rest more s.4 m)

-- what is spelled, and then blanks
pub spells_gap : (bytes : List ℕ) (depth from mid to : ℕ) (trees : Trees) → Spells bytes depth from mid trees → IsGap bytes mid to → Spells bytes depth from to trees
spells_gap bytes depth from mid to none s gap = gap_join bytes from mid to s gap
spells_gap bytes depth from mid to (word a b rest) s gap = (s.0, s.1, spells_gap bytes depth b mid to rest s.2 gap)
spells_gap bytes depth from mid to (group a b inside rest) s gap = (s.0, s.1, s.2, s.3, spells_gap bytes depth b mid to rest s.4 gap)

-- what is spelled, and then a word
pub spells_word : (bytes : List ℕ) (depth from mid to : ℕ) (trees : Trees) → Spells bytes depth from mid trees → IsWord bytes mid to → Spells bytes depth from to (join trees (word mid to none))
spells_word bytes depth from mid to trees s w =
    spells_join bytes depth from mid to trees (word mid to none) s (gap_none bytes mid, w, gap_none bytes to)

-- what is spelled, and then a group
pub spells_group : (bytes : List ℕ) (depth from open_at close : ℕ) (trees inside : Trees) → Spells bytes depth from open_at trees → depth < 64 → get_or bytes open_at 0 ≡ 40 → Spells bytes (suc depth) (suc open_at) close inside → get_or bytes close 0 ≡ 41 → Spells bytes depth from (suc close) (join trees (group open_at (suc close) inside none))
spells_group bytes depth from open_at close trees inside s low opens i closes =
    spells_join bytes depth from open_at (suc close) trees (group open_at (suc close) inside none) s
    (gap_none bytes open_at, low, opens, (close, refl, closes, i), gap_none bytes (suc close))

-- what is spelled goes forward
pub spells_ordered : (bytes : List ℕ) (depth from to : ℕ) (trees : Trees) → Spells bytes depth from to trees → from ≤ to
spells_ordered bytes depth from to none s = s.ordered
spells_ordered bytes depth from to (word a b rest) s =
    let l = s.0.ordered in let w = s.1.ordered in let r = spells_ordered bytes depth b to rest s.2 in omega arith
spells_ordered bytes depth from to (group a b inside rest) s =
    let l = s.0.ordered in
    let i = spells_ordered bytes (suc depth) (suc a) s.3.0 inside s.3.3 in
    let e : suc s.3.0 ≡ b = s.3.1 in
    let r = spells_ordered bytes depth b to rest s.4 in
    omega arith
