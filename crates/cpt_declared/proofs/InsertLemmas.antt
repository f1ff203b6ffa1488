use Rattle.std.proofs.Common.{◌≡◌, ◌++◌, ◌∷◌, [], List, length, refl, ap}
use Rattle.std.specs.Prelude.{insert}

-- what is put in at the end
pub insert_end : {X : Type 0} → (xs : List X) (x : X) → insert xs (length xs) x ≡ xs ++ x ∷ []
insert_end [] x = refl
insert_end (y ∷ xs) x = ap (λ l. y ∷ l) (insert_end xs x)
