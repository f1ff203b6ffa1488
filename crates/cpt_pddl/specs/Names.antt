use Rattle.std.specs.Prelude.{◌≡◌, ℕ, ◌+◌, if◌then◌else◌, List, [], ◌∷◌, Option, None, Some, Vec}
use Rattle.std.specs.declared.alloc.Global.{Global}
use Rattle.std.specs.Map.{lookup}
use Rattle.std.specs.Str.{bytes_eq}

-- the first place of a word among names, where the first of them has number k
abbrev pub place_from : List (List ℕ) → ℕ → List ℕ → Option ℕ
place_from [] k word = None
place_from (name ∷ names) k word = if bytes_eq name word then Some k else place_from names (k + 1) word

-- the first place of a word among names
unfoldable pub place_in : List (List ℕ) → List ℕ → Option ℕ
place_in names word = place_from names 0 word

-- the entries give each word its first place among names
abbrev pub AreFirsts : List (List ℕ) → List (Vec ℕ Global × ℕ) → Type 0
AreFirsts names entries = (word : List ℕ) → lookup (λ (key : Vec ℕ Global). bytes_eq word key.items) entries ≡ place_in names word
