use Rattle.std.proofs.Common.{◌≡◌, ℕ, suc, ◌<◌, ◌≤◌, List, Some, slice_get, refl, sym, ap, ◌∙◌, subst, arith}
use Rattle.cpt_sexp.specs.declared.item.Item.{Item}
use Rattle.cpt_sexp.specs.declared.item.Item.TheVariants.{Word, Group}
use Rattle.cpt_sexp.specs.Flat.{Stands}
use Rattle.cpt_sexp.specs.Trees.{Trees, none, word, group}

-- items of trees go forward
pub stands_forth : (items : List Item) (k after : ℕ) (trees : Trees) → Stands items k after trees → k ≤ after
stands_forth items k after none s = omega (arith, s)
stands_forth items k after (word from to rest) s = let r = stands_forth items (suc k) after rest s.1 in omega arith
stands_forth items k after (group from to inside rest) s = let r = stands_forth items s.0 after rest s.5 in omega (arith, s.1)

-- where no items are left there are no trees
pub stands_end : (items : List Item) (k : ℕ) (trees : Trees) → Stands items k k trees → trees ≡ none
stands_end items k none s = refl
stands_end items k (word from to rest) s = let r = stands_forth items (suc k) k rest s.1 in absurd (omega arith)
stands_end items k (group from to inside rest) s = let r = stands_forth items s.0 k rest s.5 in absurd (omega (arith, s.1))

-- the first of the trees is a word
pub record BeginsWord (items : List Item) (k after from to : ℕ) (trees : Trees) : Type 0 where
  pub rest : Trees
  pub are : trees ≡ word from to rest
  pub onward : Stands items (suc k) after rest

-- the first of the trees is a group
pub record BeginsGroup (items : List Item) (k after from to next : ℕ) (trees : Trees) : Type 0 where
  pub inside : Trees
  pub rest : Trees
  pub are : trees ≡ group from to inside rest
  pub forth : k < next
  pub within : next ≤ after
  pub inward : Stands items (suc k) next inside
  pub onward : Stands items next after rest

-- a word at the first item's number
pub stands_word : (items : List Item) (k after from to : ℕ) (trees : Trees) → Stands items k after trees → k < after → slice_get items k ≡ Some (Word from to) → BeginsWord items k after from to trees
stands_word items k after from to none s lt here = absurd (omega (arith, s))
stands_word items k after from to (word a b rest) s lt here =
    let e : Some (Word a b) ≡ Some (Word from to) = sym s.0 ∙ here in
    let same_from : a ≡ from = cc in
    let same_to : b ≡ to = cc in
    record { rest = rest; are = ap (λ n. word n b rest) same_from ∙ ap (λ n. word from n rest) same_to; onward = s.1 }
stands_word items k after from to (group a b inside rest) s lt here =
    let e : Some (Group a b s.0) ≡ Some (Word from to) = sym s.3 ∙ here in cc

-- a group at the first item's number
pub stands_group : (items : List Item) (k after from to next : ℕ) (trees : Trees) → Stands items k after trees → k < after → slice_get items k ≡ Some (Group from to next) → BeginsGroup items k after from to next trees
stands_group items k after from to next none s lt here = absurd (omega (arith, s))
stands_group items k after from to next (word a b rest) s lt here =
    let e : Some (Word a b) ≡ Some (Group from to next) = sym s.0 ∙ here in cc
stands_group items k after from to next (group a b inside rest) s lt here =
    let e : Some (Group a b s.0) ≡ Some (Group from to next) = sym s.3 ∙ here in
    let same_from : a ≡ from = cc in
    let same_to : b ≡ to = cc in
    let same_next : s.0 ≡ next = cc in
    record {
      inside = inside;
      rest = rest;
      are = ap (λ n. group n b inside rest) same_from ∙ ap (λ n. group from n inside rest) same_to;
      forth = omega (arith, s.1, same_next);
      within = omega (arith, s.2, same_next);
      inward = subst (λ n. Stands items (suc k) n inside) same_next s.4;
      onward = subst (λ n. Stands items n after rest) same_next s.5;
    }
