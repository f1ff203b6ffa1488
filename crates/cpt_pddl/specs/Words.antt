use Rattle.std.specs.Prelude.{ℕ, ◌==◌, nat_le, min, not, Bool, true, false, ◌&&◌, ◌||◌, if◌then◌else◌, List, [], ◌∷◌, length, take, drop, codes, Option, None, Some}
use Rattle.std.specs.List.{list_all}
use Rattle.std.specs.Str.{bytes_eq}
use Rattle.std.specs.Str.Parse.{digits_value}
use Rattle.cpt_line.specs.Digits.{digit_count}
use Rattle.cpt_line.specs.Names.{word_byte}
use Rattle.cpt_pddl.specs.declared.fault.Feature.TheVariants as features
use Rattle.cpt_pddl.specs.declared.words.Head.{Head}
use Rattle.cpt_pddl.specs.declared.words.Head.TheVariants.{And, Not, Equal, At, Over, Untaken, Numeric, Other}

-- a word: at least one byte, each a byte of words
abbrev pub is_word : List ℕ → Bool
is_word [] = false
is_word (b ∷ bs) = word_byte b && list_all word_byte bs

-- a name is a word that begins with a letter
abbrev pub is_name : List ℕ → Bool
is_name [] = false
is_name (b ∷ bs) = nat_le 97 b && nat_le b 122 && list_all word_byte bs

-- a variable is a question mark and at least one more byte
abbrev pub is_variable : List ℕ → Bool
is_variable [] = false
is_variable (b ∷ []) = false
is_variable (b ∷ c ∷ bs) = b == 63

-- nothing, or a point and at least one zero
abbrev pub is_fraction : List ℕ → Bool
is_fraction [] = true
is_fraction (b ∷ bs) = (b == 46) && not (length bs == 0) && list_all (λ c. c == 48) bs

-- The number that a word stands for: digits, and perhaps a point and zeros. One above 4,294,967,295 counts as
-- 4,294,967,296.
unfoldable pub number_in : List ℕ → Option ℕ
number_in bytes =
    let count = digit_count bytes in
    if count == 0 then None
    else if is_fraction (drop count bytes) then Some (min (digits_value 10 (take count bytes)) 4294967296)
    else None

-- the words that compare or change numbers
unfoldable pub is_numeric : List ℕ → Bool
is_numeric w =
    bytes_eq w (codes "<") || bytes_eq w (codes "<=") || bytes_eq w (codes ">") || bytes_eq w (codes ">=")
    || bytes_eq w (codes "increase") || bytes_eq w (codes "decrease") || bytes_eq w (codes "assign")
    || bytes_eq w (codes "scale-up") || bytes_eq w (codes "scale-down")

-- what a word says where it begins a condition, an effect or a goal
unfoldable pub head_of : List ℕ → Head
head_of w =
    if bytes_eq w (codes "and") then And
    else if bytes_eq w (codes "not") then Not
    else if bytes_eq w (codes "=") then Equal
    else if bytes_eq w (codes "at") then At
    else if bytes_eq w (codes "over") then Over
    else if bytes_eq w (codes "or") || bytes_eq w (codes "imply") then Untaken features.Disjunction
    else if bytes_eq w (codes "when") then Untaken features.Conditional
    else if bytes_eq w (codes "forall") || bytes_eq w (codes "exists") then Untaken features.Quantifier
    else if bytes_eq w (codes "preference") then Untaken features.Preference
    else if is_numeric w then Numeric
    else Other
