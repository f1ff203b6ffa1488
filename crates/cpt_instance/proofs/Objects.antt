use Rattle.std.proofs.Common.{◌≡◌, ℕ, ◌+◌, Bool, true, false, List, [], ◌∷◌, ◌++◌, length, map, Option, None, Some, refl, sym, ap, ◌∙◌, subst, arith}
use Rattle.std.specs.Prelude.{if◌then◌else◌}
use Rattle.std.specs.Str.{bytes_eq}
use Rattle.std.proofs.lemmas.List.{length-map}
use Rattle.cpt_domain.specs.declared.domain.Domain.{Domain}
use Rattle.cpt_domain.specs.declared.domain.ObjectDecl.{ObjectDecl}
use Rattle.cpt_facts.specs.declared.problem.Problem.{Problem}
use Rattle.cpt_facts.specs.Fitting.{object_names}
use Rattle.cpt_pddl.specs.Names.{place_from}

first_case : (b : Bool) (k n : ℕ) (x y : Option ℕ) → (x ≡ Some n → y ≡ Some n) → (if b then Some k else x) ≡ Some n → (if b then Some k else y) ≡ Some n
first_case true k n x y f h = h
first_case false k n x y f h = f h

place_first : (xs ys : List (List ℕ)) (k : ℕ) (word : List ℕ) (n : ℕ) → place_from xs k word ≡ Some n → place_from (xs ++ ys) k word ≡ Some n
place_first [] ys k word n h = cc
place_first (x ∷ xs) ys k word n h =
    first_case (bytes_eq x word) k n (place_from xs (k + 1) word) (place_from (xs ++ ys) (k + 1) word) (place_first xs ys (k + 1) word n) h

second_case : (b : Bool) (k : ℕ) (x y z : Option ℕ) → (x ≡ None → y ≡ z) → (if b then Some k else x) ≡ None → (if b then Some k else y) ≡ z
second_case true k x y z f h = cc
second_case false k x y z f h = f h

place_second : (xs ys : List (List ℕ)) (k : ℕ) (word : List ℕ) (from : ℕ) → from ≡ k + length xs → place_from xs k word ≡ None → place_from (xs ++ ys) k word ≡ place_from ys from word
place_second [] ys k word from e h = ap (λ n. place_from ys n word) (let z : k ≡ from = omega arith in z)
place_second (x ∷ xs) ys k word from e h =
    second_case (bytes_eq x word) k (place_from xs (k + 1) word) (place_from (xs ++ ys) (k + 1) word) (place_from ys from word)
    (place_second xs ys (k + 1) word from (omega arith)) h

abbrev pub names_in : List ObjectDecl → List (List ℕ)
names_in objects = map (λ (o : ObjectDecl). o.name) objects

names_append : (xs ys : List ObjectDecl) → names_in (xs ++ ys) ≡ names_in xs ++ names_in ys
names_append [] ys = refl
names_append (x ∷ xs) ys = ap (λ r. x.name ∷ r) (names_append xs ys)

-- a name among the constants, and one behind them
pub in_constants : (d : Domain) (p : Problem) (constants : List ObjectDecl) (word : List ℕ) (n : ℕ) → constants ≡ d.constants
    → Some n ≡ place_from (names_in constants) 0 word → Some n ≡ place_from (object_names d p) 0 word
in_constants d p constants word n e h =
    let at : place_from (names_in d.constants) 0 word ≡ Some n = subst (λ cs. place_from (names_in cs) 0 word ≡ Some n) e (sym h) in
    sym (ap (λ names. place_from names 0 word) (names_append d.constants p.objects) ∙ place_first (names_in d.constants) (names_in p.objects) 0 word n at)

pub in_objects : (d : Domain) (p : Problem) (constants objects : List ObjectDecl) (word : List ℕ) (from : ℕ) (r : Option ℕ) → constants ≡ d.constants → objects ≡ p.objects → from ≡ length constants
    → None ≡ place_from (names_in constants) 0 word → r ≡ place_from (names_in objects) from word → r ≡ place_from (object_names d p) 0 word
in_objects d p constants objects word from r e f at none h =
    let nothing : place_from (names_in d.constants) 0 word ≡ None = subst (λ cs. place_from (names_in cs) 0 word ≡ None) e (sym none) in
    let size : from ≡ length d.constants = subst (λ (cs : List ObjectDecl). from ≡ length cs) e at in
    let start : from ≡ 0 + length (names_in d.constants) = omega (arith, length-map d.constants (λ (o : ObjectDecl). o.name)) in
    let tail : place_from (names_in objects) from word ≡ place_from (names_in p.objects) from word = ap (λ os. place_from (names_in os) from word) f in
    h ∙ tail ∙ sym (ap (λ names. place_from names 0 word) (names_append d.constants p.objects) ∙ place_second (names_in d.constants) (names_in p.objects) 0 word from start nothing)
