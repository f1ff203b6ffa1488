use Rattle.std.proofs.Common.{◌≡◌, ℕ, suc, ◌+◌, ◌-◌, ◌<◌, ◌≤◌, List, [], ◌∷◌, ◌++◌, length, Some, slice_get, refl, sym, ap, ◌∙◌, subst, arith, append_assoc, length-append}
use Rattle.std.proofs.lemmas.Bool.{lt-ltb, le-ltb}
use Rattle.std.proofs.lemmas.List.{append-nil}
use Rattle.cpt_sexp.specs.declared.item.Item.{Item}
use Rattle.cpt_sexp.specs.declared.item.Item.TheVariants.{Word, Group}
use Rattle.cpt_sexp.specs.Flat.{flat, nested, front, back, Stands, IsPlaced}
use Rattle.cpt_sexp.specs.Grammar.{Spells}
use Rattle.cpt_sexp.specs.Trees.{Trees, none, word, group, count}
use Rattle.cpt_sexp.proofs.Context.{length-flat}
use Rattle.cpt_sexp.proofs.Spelling.{join, spells_ordered}

placed_earlier : (low from high : ℕ) (trees : Trees) → low ≤ from → IsPlaced from high trees → IsPlaced low high trees
placed_earlier low from high none le p = omega (arith, p)
placed_earlier low from high (word a b rest) le p = (omega (arith, p.0), p.1, p.2)
placed_earlier low from high (group a b inside rest) le p = (omega (arith, p.0), p.1, p.2, p.3)

-- what is spelled is in its place
pub spells_placed : (bytes : List ℕ) (depth from to : ℕ) (trees : Trees) → Spells bytes depth from to trees → IsPlaced from to trees
spells_placed bytes depth from to none s = s.ordered
spells_placed bytes depth from to (word a b rest) s = (s.0.ordered, s.1.ordered, spells_placed bytes depth b to rest s.2)
spells_placed bytes depth from to (group a b inside rest) s =
    let close = s.3.0 in
    let e : suc close ≡ b = s.3.1 in
    let within = spells_placed bytes (suc depth) (suc a) close inside s.3.3 in
    let ordered = spells_ordered bytes (suc depth) (suc a) close inside s.3.3 in
    let last : close ≡ b - 1 = omega (arith, e) in
    (s.0.ordered, omega (arith, ordered, e), subst (λ n. IsPlaced (suc a) n inside) last within, spells_placed bytes depth b to rest s.4)

-- trees that begin at a byte or after it
abbrev IsFrom : ℕ → Trees → Type 0
IsFrom byte none = Unit {0}
IsFrom byte (word a b rest) = byte ≤ a
IsFrom byte (group a b inside rest) = byte ≤ a

from_placed : (low high : ℕ) (trees more : Trees) → IsPlaced low high trees → IsFrom high more → IsFrom low (join trees more)
from_placed low high none none p m = tt
from_placed low high none (word a b rest) p m = omega (arith, p, m)
from_placed low high none (group a b inside rest) p m = omega (arith, p, m)
from_placed low high (word a b rest) more p m = p.0
from_placed low high (group a b inside rest) more p m = p.0

placed_forth : (low high : ℕ) (trees : Trees) → IsPlaced low high trees → low ≤ high
placed_forth low high none p = p
placed_forth low high (word a b rest) p = let r = placed_forth b high rest p.2 in omega (arith, p.0, p.1, r)
placed_forth low high (group a b inside rest) p = let r = placed_forth b high rest p.3 in omega (arith, p.0, p.1, r)

from_earlier : (low from : ℕ) (trees : Trees) → low ≤ from → IsFrom from trees → IsFrom low trees
from_earlier low from none le m = tt
from_earlier low from (word a b rest) le m = omega (arith, m)
from_earlier low from (group a b inside rest) le m = omega (arith, m)

front_none : (byte : ℕ) (more : Trees) → IsFrom byte more → front byte more ≡ none
front_none byte none m = refl
front_none byte (word a b rest) m = rw (le-ltb a byte m) refl
front_none byte (group a b inside rest) m = rw (le-ltb a byte m) refl

back_all : (byte : ℕ) (more : Trees) → IsFrom byte more → back byte more ≡ more
back_all byte none m = refl
back_all byte (word a b rest) m = rw (le-ltb a byte m) refl
back_all byte (group a b inside rest) m = rw (le-ltb a byte m) refl

-- the front before a byte of trees before it, and others after it, is those before it
front-join : (byte low high : ℕ) (trees more : Trees) → IsPlaced low high trees → high < byte → IsFrom byte more → front byte (join trees more) ≡ trees
front-join byte low high none more p lt m = front_none byte more m
front-join byte low high (word a b rest) more p lt m =
    let forth = placed_forth b high rest p.2 in
    rw (lt-ltb a byte (omega (arith, p.1, forth))) (ap (word a b) (front-join byte b high rest more p.2 lt m))
front-join byte low high (group a b inside rest) more p lt m =
    let forth = placed_forth b high rest p.3 in
    rw (lt-ltb a byte (omega (arith, p.1, forth))) (ap (group a b inside) (front-join byte b high rest more p.3 lt m))

back-join : (byte low high : ℕ) (trees more : Trees) → IsPlaced low high trees → high < byte → IsFrom byte more → back byte (join trees more) ≡ more
back-join byte low high none more p lt m = back_all byte more m
back-join byte low high (word a b rest) more p lt m =
    let forth = placed_forth b high rest p.2 in
    rw (lt-ltb a byte (omega (arith, p.1, forth))) (back-join byte b high rest more p.2 lt m)
back-join byte low high (group a b inside rest) more p lt m =
    let forth = placed_forth b high rest p.3 in
    rw (lt-ltb a byte (omega (arith, p.1, forth))) (back-join byte b high rest more p.3 lt m)

-- flat trees, and items after them, are nested again
nested-flat_then : (k low high : ℕ) (trees : Trees) (items : List Item) → IsPlaced low high trees → IsFrom high (nested items) → nested (flat k trees ++ items) ≡ join trees (nested items)
nested-flat_then k low high none items p m = refl
nested-flat_then k low high (word a b rest) items p m = ap (word a b) (nested-flat_then (suc k) b high rest items p.2 m)
nested-flat_then k low high (group a b inside rest) items p m =
    let n = suc (k + count inside) in
    let after = join rest (nested items) in
    let e_rest : nested (flat n rest ++ items) ≡ after = nested-flat_then n b high rest items p.3 m in
    let later : IsFrom b after = from_placed b high rest (nested items) p.3 m in
    let close_later : IsFrom (b - 1) (nested (flat n rest ++ items)) = subst (IsFrom (b - 1)) (sym e_rest) (from_earlier (b - 1) b after (omega arith) later) in
    let e_all : nested ((flat (suc k) inside ++ flat n rest) ++ items) ≡ join inside after =
    ap nested (append_assoc (flat (suc k) inside) (flat n rest) items)
    ∙ nested-flat_then (suc k) (suc a) (b - 1) inside (flat n rest ++ items) p.2 close_later
    ∙ ap (join inside) e_rest in
    let lt : b - 1 < b = let wide = p.1 in omega (arith, wide) in
    ap (λ trees. group a b (front b trees) (back b trees)) e_all
    ∙ ap (λ trees. group a b trees (back b (join inside after))) (front-join b (suc a) (b - 1) inside after p.2 lt later)
    ∙ ap (group a b inside) (back-join b (suc a) (b - 1) inside after p.2 lt later)

join-none : (trees : Trees) → join trees none ≡ trees
join-none none = refl
join-none (word a b rest) = ap (word a b) (join-none rest)
join-none (group a b inside rest) = ap (group a b inside) (join-none rest)

-- flat trees that are in their places are nested again
pub nested-flat : (k low high : ℕ) (trees : Trees) → IsPlaced low high trees → nested (flat k trees) ≡ trees
nested-flat k low high trees p = ap nested (sym (append-nil (flat k trees))) ∙ nested-flat_then k low high trees [] p tt ∙ join-none trees

get_at : {X : Type 0} → (xs ys : List X) (x : X) → slice_get (xs ++ x ∷ ys) (length xs) ≡ Some x
get_at [] ys x = refl
get_at (z ∷ xs) ys x = get_at xs ys x

get_here : {X : Type 0} → (all xs ys : List X) (x : X) (k : ℕ) → all ≡ xs ++ x ∷ ys → length xs ≡ k → slice_get all k ≡ Some x
get_here all xs ys x k e n = ap (λ l. slice_get l k) e ∙ ap (slice_get (xs ++ x ∷ ys)) (sym n) ∙ get_at xs ys x

stands_at : (items xs ys : List Item) (k : ℕ) (trees : Trees) → items ≡ xs ++ (flat k trees ++ ys) → length xs ≡ k → Stands items k (k + count trees) trees
stands_at items xs ys k none e n = omega arith
stands_at items xs ys k (word a b rest) e n =
    let first : List Item = Word a b ∷ [] in (
      get_here items xs (flat (suc k) rest ++ ys) (Word a b) k e n,
      let later : Stands items (suc k) (suc k + count rest) rest =
          stands_at items (xs ++ first) ys (suc k) rest (e ∙ sym (append_assoc xs first (flat (suc k) rest ++ ys))) (length-append xs first ∙ omega (arith, n)) in
          let same : suc k + count rest ≡ k + suc (count rest) = omega arith in
          subst (λ m. Stands items (suc k) m rest) same later,
    )
stands_at items xs ys k (group a b inside rest) e n =
    let next = suc (k + count inside) in
    let inner : List Item = flat (suc k) inside in
    let last : List Item = flat next rest in
    let first : List Item = Group a b next ∷ [] in
    let before : items ≡ (xs ++ first) ++ (inner ++ (last ++ ys)) =
    e ∙ ap (λ l. xs ++ Group a b next ∷ l) (append_assoc inner last ys) ∙ sym (append_assoc xs first (inner ++ (last ++ ys))) in
    let one : length (xs ++ first) ≡ suc k = length-append xs first ∙ omega (arith, n) in
    let same : suc k + count inside ≡ next = omega arith in
    let whole : next + count rest ≡ k + suc (count inside + count rest) = omega arith in (
      next,
      omega arith,
      omega arith,
      get_here items xs ((inner ++ last) ++ ys) (Group a b next) k e n,
      subst (λ m. Stands items (suc k) m inside) same (stands_at items (xs ++ first) (last ++ ys) (suc k) inside before one),
      subst (λ m. Stands items next m rest) whole
          (stands_at items ((xs ++ first) ++ inner) ys next rest (before ∙ sym (append_assoc (xs ++ first) inner (last ++ ys)))
          (length-append (xs ++ first) inner ∙ omega (arith, one, length-flat (suc k) inside))),
    )

-- the items of a flat list are its trees
pub stands-flat : (trees : Trees) → Stands (flat 0 trees) 0 (length (flat 0 trees)) trees
stands-flat trees =
    let e : 0 + count trees ≡ length (flat 0 trees) = omega (arith, length-flat 0 trees) in
    subst (λ n. Stands (flat 0 trees) 0 n trees) e (stands_at (flat 0 trees) [] [] 0 trees (sym (append-nil (flat 0 trees))) refl)
