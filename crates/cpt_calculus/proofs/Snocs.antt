-- what stands at a place of a list with one element more
use Rattle.std.proofs.Common.{◌≡◌, ℕ, zero, suc, ◌<◌, List, [], ◌∷◌, ◌++◌, length, slice_get, unwrap_or, refl, arith}

pub data SnocAt {X : Type 0} (xs : List X) (x d : X) (i : ℕ) (v : X) : Type 0 where
  old : i < length xs → v ≡ unwrap_or (slice_get xs i) d → SnocAt xs x d i v
  newest : i ≡ length xs → v ≡ x → SnocAt xs x d i v
  past : length xs < i → v ≡ d → SnocAt xs x d i v

pub snoc_at : {X : Type 0} (xs : List X) (x d : X) (i : ℕ) → SnocAt xs x d i (unwrap_or (slice_get (xs ++ x ∷ []) i) d)
snoc_at [] x d zero = newest refl refl
snoc_at [] x d (suc i) = past (omega arith) refl
snoc_at (y ∷ ys) x d zero = old (omega arith) refl
snoc_at (y ∷ ys) x d (suc i) = go (snoc_at ys x d i)
  where
    go : SnocAt ys x d i (unwrap_or (slice_get (ys ++ x ∷ []) i) d) → SnocAt (y ∷ ys) x d (suc i) (unwrap_or (slice_get (ys ++ x ∷ []) i) d)
    go (old l e) = old (omega arith) e
    go (newest l e) = newest (omega arith) e
    go (past l e) = past (omega arith) e
