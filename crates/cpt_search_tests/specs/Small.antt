use Rattle.std.specs.Prelude.{◌≡◌, ℕ, ◌==◌, nat_lt, List, [], ◌∷◌, if◌then◌else◌}
use Rattle.cpt_sheet.specs.declared.data.Decision.{Decision}
use Rattle.cpt_sheet.specs.declared.data.Decision.TheVariants.{Join, Bring, Before}
use Rattle.cpt_sheet.specs.declared.data.Flaw.TheVariants.{Clash}
use Rattle.cpt_tree.specs.declared.expansion.Expansion.{Expansion}
use Rattle.cpt_tree.specs.declared.expansion.Expansion.TheVariants.{Closed, Leaf, Branched}

-- how the node behind one decision expands
abbrev pub expansion_after : ℕ → Decision → Expansion
expansion_after b (Join x p y) = Closed
expansion_after b (Bring x p a) = Closed
expansion_after b (Before x y) = if x == 3 then (if nat_lt b 3 then Closed else Leaf) else Closed

-- the root is branched, and behind the second child is a leaf from bound 3 on
abbrev pub expansion_of : ℕ → List Decision → Expansion
expansion_of b [] = Branched (Clash 2 3) (Before 2 3 ∷ Before 3 2 ∷ [])
expansion_of b (d ∷ []) = expansion_after b d
expansion_of b (d ∷ e ∷ ds) = Closed
