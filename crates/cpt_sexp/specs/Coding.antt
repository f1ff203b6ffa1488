use Rattle.std.specs.Prelude.{◌≡◌, ◌⊎◌, ℕ, List, [], ◌∷◌, ◌++◌, refl}
use Rattle.std.specs.Coded.{Coded, code_by, coded_list, coded_ℕ, coded×, coded⊎}
use Rattle.std.proofs.Common.{inl, inr, ap, sym, ◌∙◌, append_assoc}
use Rattle.std.proofs.lemmas.List.{append-nil}
use Rattle.cpt_sexp.specs.Grammar.{ForestShape}
use Rattle.cpt_sexp.specs.Trees.{Trees, none, word, group}

-- a mark of trees that are written down: a word, a group or an end
abbrev pub Mark : Type 0
Mark = (ℕ × ℕ) ⊎ ((ℕ × ℕ) ⊎ ℕ)

-- trees written down: a word or a group, what is inside the group, and the rest, up to an end
abbrev pub marks : Trees → List Mark
marks none = inr (inr 0) ∷ []
marks (word from to rest) = inl (from, to) ∷ marks rest
marks (group from to inside rest) = inr (inl (from, to)) ∷ (marks inside ++ marks rest)

-- the first of these trees with a word put before it
abbrev pub after_word : ℕ × ℕ → List Trees → List Trees
after_word (from, to) [] = []
after_word (from, to) (rest ∷ trees) = word from to rest ∷ trees

-- the first two of these trees made a group and what follows it
abbrev pub after_group : ℕ × ℕ → List Trees → List Trees
after_group (from, to) [] = []
after_group (from, to) (inside ∷ []) = []
after_group (from, to) (inside ∷ (rest ∷ trees)) = group from to inside rest ∷ trees

-- the trees that are written down one after another
abbrev pub trees_of : List Mark → List Trees
trees_of [] = []
trees_of (inl bytes ∷ ms) = after_word bytes (trees_of ms)
trees_of (inr (inl bytes) ∷ ms) = after_group bytes (trees_of ms)
trees_of (inr (inr n) ∷ ms) = none ∷ trees_of ms

-- the first of some trees
abbrev pub first_of_trees : List Trees → Trees
first_of_trees [] = none
first_of_trees (trees ∷ more) = trees

-- the trees of marks of trees are these trees
pub trees_of-marks : (trees : Trees) (ms : List Mark) → trees_of (marks trees ++ ms) ≡ trees ∷ trees_of ms
trees_of-marks none ms = refl
trees_of-marks (word from to rest) ms = ap (after_word (from, to)) (trees_of-marks rest ms)
trees_of-marks (group from to inside rest) ms =
    ap (after_group (from, to))
    (ap trees_of (append_assoc (marks inside) (marks rest) ms) ∙ trees_of-marks inside (marks rest ++ ms) ∙ ap (λ ts. inside ∷ ts) (trees_of-marks rest ms))

-- trees are read back from their marks
pub read_back : (trees : Trees) → first_of_trees (trees_of (marks trees)) ≡ trees
read_back trees =
    ap (λ ms. first_of_trees (trees_of ms)) (sym (append-nil (marks trees))) ∙ ap first_of_trees (trees_of-marks trees [])

-- a forest is stored as its trees written down, and its text
abbrev pub coded_forest : Coded ForestShape
coded_forest =
    code_by (List Mark × List ℕ) (coded× (coded_list (coded⊎ (coded× coded_ℕ coded_ℕ) (coded⊎ (coded× coded_ℕ coded_ℕ) coded_ℕ))) (coded_list coded_ℕ))
    (λ f. (marks f.trees, f.text))
    (λ p. record { trees = first_of_trees (trees_of p.0); text = p.1 })
    (λ f. ap (λ (t : Trees). let g : ForestShape = record { trees = t; text = f.text } in g) (read_back f.trees))
