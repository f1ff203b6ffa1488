-- rows that are pushed number by number
use Rattle.std.proofs.Common.{◌≡◌, ℕ, suc, ◌+◌, ◌<◌, List, [], ◌∷◌, ◌++◌, length, get_or, take, sym, ◌∙◌, ap, arith, append_assoc}
use Rattle.std.specs.Prelude.{map}
use Rattle.std.proofs.lemmas.List.{map_more}
use Rattle.cpt_block.specs.Blocks.{flat}

-- a row more
pub flat_next : (f : ℕ → List ℕ) (old xs ys : List ℕ) (n : ℕ) → xs ≡ old ++ flat f n → ys ≡ xs ++ f n → ys ≡ old ++ flat f (n + 1)
flat_next f old xs ys n h k =
    let o : suc n ≡ n + 1 = omega arith in
    k ∙ (ap (λ (zs : List ℕ). zs ++ f n) h ∙ (append_assoc old (flat f n) (f n) ∙ ap (λ (i : ℕ). old ++ flat f i) o))

-- what a function says of an element more
pub map_next : (g : ℕ → ℕ) (bs old xs ys : List ℕ) (i x : ℕ) → i < length bs → xs ≡ old ++ map g (take i bs) → ys ≡ xs ++ x ∷ [] → x ≡ g (get_or bs i 0) → ys ≡ old ++ map g (take (i + 1) bs)
map_next g bs old xs ys i x l h k e =
    k ∙ (ap (λ (zs : List ℕ). zs ++ x ∷ []) h ∙ (append_assoc old (map g (take i bs)) (x ∷ [])
    ∙ ap (λ (zs : List ℕ). old ++ zs) (ap (λ (y : ℕ). map g (take i bs) ++ y ∷ []) e ∙ sym (map_more g bs i 0 l))))
