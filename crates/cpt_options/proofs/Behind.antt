use Rattle.std.proofs.Common.{◌≡◌, ◌-◌, ◌≤◌, ℕ, List, [], ◌∷◌, length, get_or, take, drop, map, Some, refl, sym, ap, ◌∙◌, arith}
use Rattle.std.specs.Prelude.{option_and_then}
use Rattle.cpt_options.specs.declared.options.Options.{Options}
use Rattle.cpt_options.specs.Options.{options_behind, with_option}

take_all : {A : Type 0} (xs : List A) → take (length xs) xs ≡ xs
take_all [] = refl
take_all (x ∷ xs) = ap (λ ys. x ∷ ys) (take_all xs)

-- the options behind two words
pub behind_two : {A : Type 0} (given g : Options) (f : A → List ℕ) (xs : List A) (x y : A) (w v : List ℕ) → 2 ≤ length xs → x ≡ get_or xs 0 x → y ≡ get_or xs 1 y → w ≡ f x → v ≡ f y → with_option given w v ≡ Some g
    → options_behind g (map f (take (length xs - 2) (drop 2 xs))) ≡ options_behind given (map f xs)
behind_two given g f (a ∷ b ∷ xs) x y w v le first second e k step =
    let one : with_option given (f a) (f b) ≡ Some g = ap (λ z. with_option given z (f b)) (sym (e ∙ ap f first)) ∙ ap (λ z. with_option given w z) (sym (k ∙ ap f second)) ∙ step in
    let size : length (a ∷ b ∷ xs) - 2 ≡ length xs = omega arith in
    ap (λ k. options_behind g (map f (take k xs))) size ∙ ap (λ ys. options_behind g (map f ys)) (take_all xs) ∙ ap (option_and_then (λ g. options_behind g (map f xs))) (sym one)
behind_two given g f [] x y w v le first second e k step = absurd (omega (arith, le))
behind_two given g f (a ∷ []) x y w v le first second e k step = absurd (omega (arith, le))
