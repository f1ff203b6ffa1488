use Rattle.std.proofs.Common.{◌≡◌, ◌++◌, ◌∷◌, [], List, reverse, refl, ap, ◌∙◌}
use Rattle.std.proofs.lemmas.List.{reverse-append}
use Rattle.std.specs.List.{zip}

-- nothing is paired with nothing
pub zip_none : {A B : Type 0} → (xs : List A) → zip {X = B} xs [] ≡ []
zip_none [] = refl
zip_none (x ∷ xs) = refl

-- the last of two lists are the first pair of the lists turned round
pub zip_last : {A B : Type 0} → (xs front : List A) (x : A) (ys back : List B) (y : B) → xs ≡ front ++ x ∷ [] → ys ≡ back ++ y ∷ []
    → zip (reverse xs) (reverse ys) ≡ (x, y) ∷ zip (reverse front) (reverse back)
zip_last xs front x ys back y e f =
    ap (λ s. zip (reverse s) (reverse ys)) e ∙ ap (λ s. zip (reverse (front ++ x ∷ [])) (reverse s)) f
    ∙ ap (λ s. zip s (reverse (back ++ y ∷ []))) (reverse-append front (x ∷ []))
    ∙ ap (λ s. zip (x ∷ reverse front) s) (reverse-append back (y ∷ []))
