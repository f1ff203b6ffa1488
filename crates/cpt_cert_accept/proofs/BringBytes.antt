-- a text has bytes for each token that its lines bring
use Rattle.std.proofs.Common.{◌≡◌, ℕ, ◌+◌, ◌*◌, ◌<◌, ◌≤◌, ◌^◌, inl, inr, List, [], ◌∷◌, ◌++◌, length, map, refl, sym, ap, ◌∙◌, arith, length-append}
use Rattle.std.specs.List.{AllZip}
use Rattle.std.specs.Fmt.{decimal}
use Rattle.std.proofs.lemmas.Fmt.{decimal_nonempty}
use Rattle.cpt_sheet.specs.declared.data.Decision.{Decision}
use Rattle.cpt_sheet.specs.declared.data.Decision.TheVariants.{Join, Bring, Before}
use Rattle.cpt_sheet.specs.declared.data.NodeLine.{NodeLine}
use Rattle.cpt_sheet.specs.declared.data.NodeLine.TheVariants.{Child, Narrow, Close, Branch, OpenNode}
use Rattle.cpt_cert_form.specs.declared.forms.CertLine.{CertLine}
use Rattle.cpt_cert_form.specs.declared.forms.CertLine.TheVariants as lines
use Rattle.cpt_cert_form.specs.Forms.{IsShort, IsWritten, IsReadAs, capped_line, capped_node, spelled}
use Rattle.cpt_cert_accept.specs.Trees.{bring_of, brings}
use Rattle.cpt_cert_read.specs.Texts.{ended, unended, AreLinesOf}
use Rattle.cpt_cert_accept.specs.Texts.{bring_in, brings_in}

pub brings_in_append : (ls more : List CertLine) → brings_in (ls ++ more) ≡ brings_in ls + brings_in more
brings_in_append [] more = omega arith
brings_in_append (l ∷ ls) more = let e = brings_in_append ls more in omega (arith, e)

pub brings_in_nodes : (f : List NodeLine) → brings_in (map (λ l. lines.Node l) f) ≡ brings f
brings_in_nodes [] = refl
brings_in_nodes (l ∷ f) = ap (λ z. bring_of l + z) (brings_in_nodes f)

some_digit : (n : ℕ) → IsShort n → 0 < length (decimal n)
some_digit n short = decimal_nonempty n (omega (arith, short))

-- the line has room for its words
bring_bytes : (x p a : ℕ) → IsWritten (lines.Node (Child (Bring x p a))) → 17 ≤ length (spelled (lines.Node (Child (Bring x p a))))
bring_bytes x p a h =
    let i = some_digit x h.0 in
    let j = some_digit p h.1 in
    let k = some_digit a h.2 in
    let r = length-append (decimal a) [] in
    let q = length-append (decimal p) (32 ∷ (decimal a ++ [])) in
    let o = length-append (decimal x) (32 ∷ (decimal p ++ (32 ∷ (decimal a ++ [])))) in
    omega (arith, i, j, k, r, q, o)

node_bytes : (l : NodeLine) → IsWritten (lines.Node l) → 17 * bring_of l ≤ length (spelled (lines.Node l))
node_bytes (Child (Bring x p a)) h = bring_bytes x p a h
node_bytes (Child (Join x p y)) h = omega arith
node_bytes (Child (Before x y)) h = omega arith
node_bytes (Narrow step) h = omega arith
node_bytes Close h = omega arith
node_bytes (Branch flaw) h = omega arith
node_bytes OpenNode h = omega arith

same_bring : (l : NodeLine) → bring_of (capped_node l) ≡ bring_of l
same_bring (Child (Bring x p a)) = refl
same_bring (Child (Join x p y)) = refl
same_bring (Child (Before x y)) = refl
same_bring (Narrow step) = refl
same_bring Close = refl
same_bring (Branch flaw) = refl
same_bring OpenNode = refl

line_bytes : (l : CertLine) → IsWritten l → 17 * bring_in (capped_line l) ≤ length (spelled l)
line_bytes (lines.Node l) h = let e = same_bring l in let k = node_bytes l h in omega (arith, e, k)
line_bytes (lines.First v) h = omega arith
line_bytes (lines.Claimed c) h = omega arith
line_bytes (lines.Sizes m n) h = omega arith
line_bytes (lines.Plan k) h = omega arith
line_bytes (lines.Item start act) h = omega arith
line_bytes lines.Pairs h = omega arith
line_bytes (lines.PairRow runs) h = omega arith
line_bytes lines.Dists h = omega arith
line_bytes (lines.DistRow runs) h = omega arith
line_bytes (lines.Tree b) h = omega arith
line_bytes (lines.OpenTree b) h = omega arith
line_bytes lines.End h = omega arith
line_bytes lines.Strange h = absurd h

pub brings_capped : (ls : List CertLine) → brings_in (map capped_line ls) ≡ brings_in ls
brings_capped [] = refl
brings_capped (l ∷ ls) = let a = line_bring l in let e = brings_capped ls in omega (arith, a, e)
  where
    line_bring : (l : CertLine) → bring_in (capped_line l) ≡ bring_in l
    line_bring (lines.Node l) = same_bring l
    line_bring (lines.First v) = refl
    line_bring (lines.Claimed c) = refl
    line_bring (lines.Sizes m n) = refl
    line_bring (lines.Plan k) = refl
    line_bring (lines.Item start act) = refl
    line_bring lines.Pairs = refl
    line_bring (lines.PairRow runs) = refl
    line_bring lines.Dists = refl
    line_bring (lines.DistRow runs) = refl
    line_bring (lines.Tree b) = refl
    line_bring (lines.OpenTree b) = refl
    line_bring lines.End = refl
    line_bring lines.Strange = refl

read_bytes : (body : List ℕ) (read : CertLine) → IsReadAs body read → 17 * bring_in read ≤ length body
read_bytes body read (inl (l, spells, e)) =
    let k = line_bytes l spells.written in
    let same : bring_in read ≡ bring_in (capped_line l) = ap bring_in e in
    let long : length body ≡ length (spelled l) = ap length spells.spelled in
    omega (arith, k, same, long)
read_bytes body read (inr (e, none)) = let same : bring_in read ≡ 0 = ap bring_in e in omega (arith, same)

one_at_most : (l : CertLine) → bring_in l ≤ 1
one_at_most (lines.Node (Child (Bring x p a))) = omega arith
one_at_most (lines.Node (Child (Join x p y))) = omega arith
one_at_most (lines.Node (Child (Before x y))) = omega arith
one_at_most (lines.Node (Narrow step)) = omega arith
one_at_most (lines.Node Close) = omega arith
one_at_most (lines.Node (Branch flaw)) = omega arith
one_at_most (lines.Node OpenNode) = omega arith
one_at_most _ = omega arith

-- lines with their line feeds
pub lines_bytes : (bodies : List (List ℕ)) (read : List CertLine) → AllZip IsReadAs bodies read → 18 * brings_in read ≤ length (ended bodies)
lines_bytes [] [] h = omega arith
lines_bytes [] (r ∷ read) h = absurd h
lines_bytes (b ∷ bodies) [] h = absurd h
lines_bytes (b ∷ bodies) (r ∷ read) h =
    let first = read_bytes b r h.0 in
    let more = lines_bytes bodies read h.1 in
    let whole = length-append (b ++ 10 ∷ []) (ended bodies) in
    let fed = length-append b (10 ∷ []) in
    let one = one_at_most r in
    omega (arith, first, more, whole, fed, one)

tail_brings : (tail : List ℕ) → brings_in (unended tail) ≡ 0
tail_brings [] = refl
tail_brings (byte ∷ tail) = refl

-- a text has 18 bytes for each token that its lines bring
pub text_bytes : (text : List ℕ) (ls : List CertLine) → AreLinesOf text ls → 18 * brings_in ls ≤ length text
text_bytes text ls h =
    let some = lines_bytes h.bodies h.read h.each in
    let parts = brings_in_append h.read (unended h.tail) in
    let none = tail_brings h.tail in
    let all : brings_in ls ≡ brings_in (h.read ++ unended h.tail) = ap brings_in h.all in
    let whole : length text ≡ length (ended h.bodies ++ h.tail) = ap length h.split.whole in
    let size = length-append (ended h.bodies) h.tail in
    omega (arith, some, parts, none, all, whole, size)
