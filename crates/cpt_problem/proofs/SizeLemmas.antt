use Rattle.std.proofs.Common.{◌≡◌, ℕ, suc, ◌+◌, ◌-◌, ◌<◌, ◌≤◌, List, length, refl, arith}
use Rattle.std.specs.Prelude.{Option, None, Some, Ok, Err, IfOk, IfSome, codes}
use Rattle.std.specs.Str.{bytes_eq}
use Rattle.cpt_sexp.specs.Bytes.{plain}
use Rattle.cpt_sexp.specs.Grammar.{ForestShape, IsForest, Spells}
use Rattle.cpt_sexp.specs.Trees.{Trees, count}
use Rattle.cpt_sexp.specs.Trees as trees
use Rattle.cpt_pddl.specs.declared.fault.Fault.TheVariants.{Shape}
use Rattle.cpt_pddl.specs.Items.{Items, end, word, group, items_of, said_by, size}
use Rattle.cpt_pddl.specs.Reading.{after_word, group_at}
use Rattle.cpt_declared.specs.Signatures.{words_only}
use Rattle.cpt_problem.specs.Sections.{after_keyword, after_requirements, misplaced, optional, requirements_by, section}
use Rattle.cpt_problem.proofs.Steps.{if_ok, if_some, ok_next, ok_then}

-- each word and group has at least one byte
count_within : (bytes : List ℕ) (depth from to : ℕ) (t : Trees) → Spells bytes depth from to t → from + count t ≤ to
count_within bytes depth from to trees.none s = let h : from ≤ to = s.ordered in omega arith
count_within bytes depth from to (trees.word a b rest) s =
    let h : from ≤ a = s.0.ordered in
    let k : a < b = s.1.ordered in
    let l : b + count rest ≤ to = count_within bytes depth b to rest s.2 in omega arith
count_within bytes depth from to (trees.group a b inside rest) s =
    let h : from ≤ a = s.0.ordered in
    let close : ℕ = s.3.0 in
    let k : suc close ≡ b = s.3.1 in
    let i : suc a + count inside ≤ close = count_within bytes (suc depth) (suc a) close inside s.3.3 in
    let l : b + count rest ≤ to = count_within bytes depth b to rest s.4 in omega arith

size_count : (text : List ℕ) (close : ℕ) (t : Trees) → size (items_of text close t) ≡ count t
size_count text close trees.none = refl
size_count text close (trees.word a b rest) = let h = size_count text close rest in omega (arith, h)
size_count text close (trees.group a b inside rest) =
    let h = size_count text (b - 1) inside in let k = size_count text close rest in omega (arith, h, k)

pub said_few : (forest : ForestShape) → IsForest forest → size (said_by forest) ≤ 16777216
said_few forest h =
    let e = size_count forest.text (length forest.text) forest.trees in
    let small : length forest.text ≤ 16777216 = h.small in
    let within : 0 + count forest.trees ≤ length forest.text = count_within (plain forest.text) 0 0 (length forest.text) forest.trees h.spelled in
    omega (arith, e)

pub group_smaller : (items : Items) → IfOk (group_at items) (λ (x : ℕ × Items × Items). size x.1 + size x.2 < size items)
group_smaller (end close) = tt
group_smaller (word at bytes rest) = tt
group_smaller (group at inside rest) = omega arith

pub word_smaller : (wanted : List ℕ) (items : Items) → IfOk (after_word wanted items) (λ rest. size rest ≤ size items)
word_smaller wanted (end close) = tt
word_smaller wanted (word at bytes rest) =
    if_ok (bytes_eq bytes wanted) (Ok rest) (Err (Shape at)) (λ more. size more ≤ size (word at bytes rest)) (λ _. omega arith) (λ _. tt)
word_smaller wanted (group at inside rest) = tt

keyword_smaller : (wanted : List ℕ) (at : ℕ) (items : Items) → IfOk (after_keyword wanted at items) (λ rest. size rest ≤ size items)
keyword_smaller wanted at (end close) = tt
keyword_smaller wanted at (word keyword bytes rest) =
    if_ok (bytes_eq bytes wanted) (Ok rest) (Err (misplaced at keyword bytes)) (λ more. size more ≤ size (word keyword bytes rest)) (λ _. omega arith) (λ _. tt)
keyword_smaller wanted at (group a inside rest) = tt

pub section_smaller : (wanted : List ℕ) (items : Items) → IfOk (section wanted items) (λ (x : Items × Items). size x.0 + size x.1 < size items)
unfolding section
section_smaller wanted (end close) = tt
section_smaller wanted (word at bytes rest) = tt
section_smaller wanted (group at inside rest) =
    ok_then {A = Items} {B = Items × Items} (after_keyword wanted at inside) (λ i. Ok (i, rest)) (λ i. size i ≤ size inside) (λ x. size x.0 + size x.1 < size (group at inside rest))
    (keyword_smaller wanted at inside) (λ i h. omega arith)

pub optional_smaller : (wanted : List ℕ) (items : Items) → IfSome (optional wanted items) (λ (x : ℕ × Items × Items). size x.2 ≤ size items)
optional_smaller wanted (end close) = tt
optional_smaller wanted (word at bytes rest) = tt
optional_smaller wanted (group at (end close) rest) = tt
optional_smaller wanted (group at (word keyword bytes inside) rest) =
    if_some (bytes_eq bytes wanted) (Some (at, inside, rest)) None (λ (x : ℕ × Items × Items). size x.2 ≤ size (group at (word keyword bytes inside) rest)) (omega arith) tt
optional_smaller wanted (group at (group a within inside) rest) = tt

requirements_smaller_by : (items : Items) (o : Option (ℕ × Items × Items)) → IfSome o (λ (x : ℕ × Items × Items). size x.2 ≤ size items) → IfOk (requirements_by items o) (λ rest. size rest ≤ size items)
requirements_smaller_by items None h = omega arith
requirements_smaller_by items (Some x) h = ok_next {B = Items} (words_only x.1) (λ _. Ok x.2) (λ rest. size rest ≤ size items) (λ _. h)

pub requirements_smaller : (items : Items) → IfOk (after_requirements items) (λ rest. size rest ≤ size items)
unfolding after_requirements
requirements_smaller items = requirements_smaller_by items (optional (codes ":requirements") items) (optional_smaller (codes ":requirements") items)
