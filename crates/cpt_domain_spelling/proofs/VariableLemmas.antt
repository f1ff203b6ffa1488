use Rattle.std.proofs.Common.{◌≡◌, ℕ, zero, suc, ◌+◌, ◌<◌, ◌≤◌, ◌∷◌, [], true, List, length, All, refl, ap, ◌∙◌, sym, arith}
use Rattle.std.specs.Prelude.{Some}
use Rattle.std.specs.Fmt.{decimal}
use Rattle.std.proofs.lemmas.Fmt.{decimal_injective, decimal_nonempty}
use Rattle.std.proofs.lemmas.List.Elements.{All-cons, All-nil}
use Rattle.cpt_pddl.specs.Names.{place_in}
use Rattle.cpt_pddl.specs.Words.{is_variable}
use Rattle.cpt_domain.specs.SoundNames.{AreDifferent}
use Rattle.cpt_domain_spelling.specs.Names.{named}
use Rattle.cpt_domain_spelling.specs.Spelling.{variable, variables_from}
use Rattle.cpt_domain_spelling.proofs.NameLemmas.{place_there}

marked_some : (ds : List ℕ) → 0 < length ds → is_variable (63 ∷ ds) ≡ true
marked_some [] h = absurd (omega arith)
marked_some (d ∷ ds) h = refl

-- a variable is spelled as one
pub variable_is : (n : ℕ) → n < 16 → is_variable (variable n) ≡ true
variable_is n lt = marked_some (decimal n) (decimal_nonempty n (omega arith))

pub variable_injective : (m n : ℕ) → m < 16 → n < 16 → variable m ≡ variable n → m ≡ n
variable_injective m n l k e = let digits : decimal m ≡ decimal n = cc in decimal_injective m n (omega arith) (omega arith) digits

pub length_variables : (n : ℕ) (kinds : List ℕ) → length (variables_from n kinds) ≡ length kinds
length_variables n [] = refl
length_variables n (kind ∷ kinds) = ap (λ k. suc k) (length_variables (n + 1) kinds)

named_from : (n : ℕ) (kinds : List ℕ) (i : ℕ) → i < length kinds → named (variables_from n kinds) i ≡ variable (n + i)
named_from n [] i lt = absurd (omega arith)
named_from n (kind ∷ kinds) zero lt = let e : n ≡ n + 0 = omega arith in ap variable e
named_from n (kind ∷ kinds) (suc i) lt = let e : (n + 1) + i ≡ n + suc i = omega arith in named_from (n + 1) kinds i (omega arith) ∙ ap variable e

-- the parameter with a number
pub named_variable : (kinds : List ℕ) (i : ℕ) → i < length kinds → named (variables_from 0 kinds) i ≡ variable i
named_variable kinds i lt = let e : 0 + i ≡ i = omega arith in named_from 0 kinds i lt ∙ ap variable e

pub variables_fit : (n : ℕ) (kinds : List ℕ) → n + length kinds ≤ 16 → All (λ w. is_variable w ≡ true) (variables_from n kinds)
variables_fit n [] h = All-nil (λ w. is_variable w ≡ true)
variables_fit n (kind ∷ kinds) h =
    All-cons (λ w. is_variable w ≡ true) (variable n) (variables_from (n + 1) kinds) (variable_is n (omega arith)) (variables_fit (n + 1) kinds (omega arith))

pub variables_different : (kinds : List ℕ) → length kinds ≤ 16 → AreDifferent (variables_from 0 kinds)
variables_different kinds few i j lt within same =
    let long = length_variables 0 kinds in
    let inside : j < length kinds = omega (arith, long, within) in
    let e = variable_injective i j (omega arith) (omega arith) (sym (named_variable kinds i (omega arith)) ∙ same ∙ named_variable kinds j inside) in
    omega (arith, e, lt)

-- a parameter is found by its number
pub variable_there : (kinds : List ℕ) (n : ℕ) → length kinds ≤ 16 → n < length kinds → place_in (variables_from 0 kinds) (variable n) ≡ Some n
variable_there kinds n few lt =
    let long = length_variables 0 kinds in
    ap (place_in (variables_from 0 kinds)) (sym (named_variable kinds n lt)) ∙ place_there (variables_from 0 kinds) n (variables_different kinds few) (omega (arith, long, lt))
