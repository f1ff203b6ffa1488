use Rattle.std.proofs.Common.{◌≡◌, ◌≢◌, ℕ, suc, ◌+◌, ◌<◌, ◌≤◌, true, List, [], ◌∷◌, ◌++◌, length, get_or, refl, sym, ap, ◌∙◌, subst, arith, append_assoc, length-append}
use Rattle.std.proofs.lemmas.List.{append-nil}
use Rattle.std.proofs.Math.ListN.{set, length-set}
use Rattle.cpt_sexp.specs.declared.item.Item.{Item}
use Rattle.cpt_sexp.specs.declared.item.Item.TheVariants.{Word, Group}
use Rattle.cpt_sexp.specs.declared.reading.Opened.{Opened}
use Rattle.cpt_sexp.specs.Bytes.{plain, is_blank}
use Rattle.cpt_sexp.specs.Flat.{flat}
use Rattle.cpt_sexp.specs.Grammar.{IsGap, IsWord}
use Rattle.cpt_sexp.specs.Progress.{Around, outside, within, depth_of, written, opened, Begins, IsOutside, HasRead}
use Rattle.cpt_sexp.specs.Trees.{Trees, none, word, group, count}
use Rattle.cpt_sexp.proofs.Comments.{over_byte}
use Rattle.cpt_sexp.proofs.Depth.{within_text}
use Rattle.cpt_sexp.proofs.Spelling.{join, spells_gap, spells_word, spells_group, gap_none}

-- a flat list has an item for each word and group
pub length-flat : (k : ℕ) (trees : Trees) → length (flat k trees) ≡ count trees
length-flat k none = refl
length-flat k (word from to rest) = ap suc (length-flat (suc k) rest)
length-flat k (group from to inside rest) =
    let n = suc (k + count inside) in
    ap suc (length-append (flat (suc k) inside) (flat n rest) ∙ ap (λ x. x + length (flat n rest)) (length-flat (suc k) inside) ∙ ap (λ x. count inside + x) (length-flat n rest))

-- trees after trees, flat
pub flat-join : (k : ℕ) (trees more : Trees) → flat k (join trees more) ≡ flat k trees ++ flat (k + count trees) more
flat-join k none more = ap (λ n. flat n more) (omega arith)
flat-join k (word from to rest) more =
    ap (λ xs. Word from to ∷ xs) (flat-join (suc k) rest more ∙ ap (λ n. flat (suc k) rest ++ flat n more) (omega arith))
flat-join k (group from to inside rest) more =
    let n = suc (k + count inside) in
    let e : n + count rest ≡ k + suc (count inside + count rest) = omega arith in
    ap (λ xs. Group from to n ∷ xs)
    (ap (λ xs. flat (suc k) inside ++ xs) (flat-join n rest more ∙ ap (λ m. flat n rest ++ flat m more) e)
    ∙ sym (append_assoc (flat (suc k) inside) (flat n rest) (flat (k + suc (count inside + count rest)) more)))

-- a write at the end of a front
set_after : {X : Type 0} → (xs ys : List X) (x y : X) → set ((xs ++ x ∷ []) ++ ys) (length xs) y ≡ xs ++ (y ∷ ys)
set_after [] ys x y = refl
set_after (z ∷ xs) ys x y = ap (λ l. z ∷ l) (set_after xs ys x y)

-- blanks go on what has begun
begins_gap : (bytes : List ℕ) (around : Around) (trees : Trees) (mid to : ℕ) → Begins bytes around trees mid → IsGap bytes mid to → Begins bytes around trees to
begins_gap bytes outside trees mid to s gap = spells_gap bytes 0 0 mid to trees s gap
begins_gap bytes (within around before from) trees mid to s gap =
    (s.0, s.1, s.2, spells_gap bytes (suc (depth_of around)) (suc from) mid to trees s.3 gap)

begins_word : (bytes : List ℕ) (around : Around) (trees : Trees) (mid to : ℕ) → Begins bytes around trees mid → IsWord bytes mid to → Begins bytes around (join trees (word mid to none)) to
begins_word bytes outside trees mid to s w = spells_word bytes 0 0 mid to trees s w
begins_word bytes (within around before from) trees mid to s w =
    (s.0, s.1, s.2, spells_word bytes (suc (depth_of around)) (suc from) mid to trees s.3 w)

begins_close : (bytes : List ℕ) (around : Around) (before inside : Trees) (from close : ℕ) → Begins bytes (within around before from) inside close → get_or bytes close 0 ≡ 41 → Begins bytes around (join before (group from (suc close) inside none)) (suc close)
begins_close bytes outside before inside from close s closes = spells_group bytes 0 0 from close before inside s.0 s.1 s.2 s.3 closes
begins_close bytes (within around first second) before inside from close s closes =
    (s.0.0, s.0.1, s.0.2, spells_group bytes (suc (depth_of around)) (suc second) from close before inside s.0.3 s.1 s.2 s.3 closes)

-- what has been read, and then blanks and comments
pub read_gap : (text : List ℕ) (items : List Item) (groups : List Opened) (at next : ℕ) → HasRead text items groups at → IsGap (plain text) at next → IsOutside text next → next ≤ length text → HasRead text items groups next
read_gap text items groups at next read gap plainly in_text = record {
  around = read.around;
  trees = read.trees;
  items_are = read.items_are;
  opened_are = read.opened_are;
  begins = begins_gap (plain text) read.around read.trees at next read.begins gap;
  plainly = plainly;
  few = let few = read.few in let ordered = gap.ordered in omega arith;
  in_text = in_text;
}

-- what has been read, and then a word
pub read_word : (text : List ℕ) (items more : List Item) (groups : List Opened) (at next : ℕ) → HasRead text items groups at → IsWord (plain text) at next → IsOutside text next → next ≤ length text → more ≡ items ++ Word at next ∷ [] → HasRead text more groups next
read_word text items more groups at next read w plainly in_text pushed =
    let base = written read.around in
    let n = length base in
    let trees = read.trees in
    record {
      around = read.around;
      trees = join trees (word at next none);
      items_are =
          pushed ∙ ap (λ xs. xs ++ Word at next ∷ []) read.items_are ∙ append_assoc base (flat n trees) (Word at next ∷ [])
          ∙ ap (λ xs. base ++ xs) (sym (flat-join n trees (word at next none)));
      opened_are = read.opened_are;
      begins = begins_word (plain text) read.around trees at next read.begins w;
      plainly = plainly;
      few =
          let few = read.few in
          let ordered = w.ordered in
          omega (arith, ap length pushed ∙ length-append items (Word at next ∷ []));
      in_text = in_text;
    }

-- an open group is noted for each that has begun
pub length-opened : (around : Around) → length (opened around) ≡ depth_of around
length-opened outside = refl
length-opened (within around before from) =
    length-append (opened around) (record { from = from; item = length (written around ++ flat (length (written around)) before) } ∷ []) ∙ omega (arith, length-opened around)

-- what has been read, and then an opening parenthesis
pub read_open : (text : List ℕ) (items more : List Item) (groups with_it : List Opened) (at : ℕ) → HasRead text items groups at → get_or (plain text) at 0 ≡ 40 → length groups < 64 → IsOutside text (suc at) → suc at ≤ length text → more ≡ items ++ Group at 0 0 ∷ [] → with_it ≡ groups ++ record { from = at; item = length items } ∷ [] → HasRead text more with_it (suc at)
read_open text items more groups with_it at read opens low plainly in_text pushed noted = record {
  around = within read.around read.trees at;
  trees = none;
  items_are = pushed ∙ ap (λ xs. xs ++ Group at 0 0 ∷ []) read.items_are ∙ sym (append-nil ((written read.around ++ flat (length (written read.around)) read.trees) ++ Group at 0 0 ∷ []));
  opened_are = noted ∙ ap (λ gs. gs ++ record { from = at; item = length items } ∷ []) read.opened_are
      ∙ ap (λ n. opened read.around ++ record { from = at; item = n } ∷ []) (ap length read.items_are);
  begins = (read.begins, subst (λ n. n < 64) (ap length read.opened_are ∙ length-opened read.around) low, opens, gap_none (plain text) (suc at));
  plainly = plainly;
  few = let few = read.few in omega (arith, ap length pushed ∙ length-append items (Group at 0 0 ∷ []));
  in_text = in_text;
}

last_same : {X : Type 0} → (xs ys : List X) (x y : X) → xs ++ x ∷ [] ≡ ys ++ y ∷ [] → (xs ≡ ys) × (x ≡ y)
last_same [] [] x y h = (refl, cc)
last_same [] (b ∷ []) x y h = cc
last_same [] (b ∷ (c ∷ ys)) x y h = cc
last_same (a ∷ []) [] x y h = cc
last_same (a ∷ (c ∷ xs)) [] x y h = cc
last_same (a ∷ xs) (b ∷ ys) x y h =
    let rest = last_same xs ys x y cc in
    let front : xs ≡ ys = rest.0 in
    (cc, rest.1)

nothing_noted : {X : Type 0} → (ys : List X) (y : X) → [] ≡ ys ++ y ∷ [] → ⊥
nothing_noted [] y h = cc
nothing_noted (b ∷ ys) y h = cc

-- where no group is noted none has begun
pub none_open : (around : Around) → opened around ≡ [] → depth_of around ≡ 0
none_open around e = sym (length-opened around) ∙ ap length e

-- the items of a group that is closed
closed_items : (front : List Item) (base : List Item) (before inside : Trees) (from close : ℕ) → front ≡ base ++ flat (length base) before →
    front ++ (Group from (suc close) (length ((front ++ Group from 0 0 ∷ []) ++ flat (length (front ++ Group from 0 0 ∷ [])) inside)) ∷ flat (length (front ++ Group from 0 0 ∷ [])) inside)
    ≡ base ++ flat (length base) (join before (group from (suc close) inside none))
closed_items front base before inside from close is =
    let opening : List Item = Group from 0 0 ∷ [] in
    let k = length base + count before in
    let whole : length front ≡ k = ap length is ∙ length-append base (flat (length base) before) ∙ ap (λ x. length base + x) (length-flat (length base) before) in
    let start : length (front ++ opening) ≡ suc k = length-append front opening ∙ omega (arith, whole) in
    let next : length ((front ++ opening) ++ flat (length (front ++ opening)) inside) ≡ suc (k + count inside) =
    length-append (front ++ opening) (flat (length (front ++ opening)) inside) ∙ omega (arith, start, length-flat (length (front ++ opening)) inside) in
    ap (λ n. front ++ (Group from (suc close) n ∷ flat (length (front ++ opening)) inside)) next
    ∙ ap (λ n. front ++ (Group from (suc close) (suc (k + count inside)) ∷ flat n inside)) start
    ∙ ap (λ xs. xs ++ (Group from (suc close) (suc (k + count inside)) ∷ flat (suc k) inside)) is
    ∙ append_assoc base (flat (length base) before) (Group from (suc close) (suc (k + count inside)) ∷ flat (suc k) inside)
    ∙ ap (λ xs. base ++ (flat (length base) before ++ (Group from (suc close) (suc (k + count inside)) ∷ xs))) (sym (append-nil (flat (suc k) inside)))
    ∙ ap (λ xs. base ++ xs) (sym (flat-join (length base) before (group from (suc close) inside none)))

-- what a closing parenthesis leaves
pub record Closes (text : List ℕ) (items : List Item) (rest : List Opened) (last : Opened) (at : ℕ) : Type 0 where
  pub noted : last.item < length items
  pub read : HasRead text (set items last.item (Group last.from (suc at) (length items))) rest (suc at)

close_within : (text : List ℕ) (items : List Item) (around : Around) (before trees : Trees) (from at : ℕ) →
    items ≡ written (within around before from) ++ flat (length (written (within around before from))) trees →
    Begins (plain text) (within around before from) trees at → get_or (plain text) at 0 ≡ 41 → IsOutside text (suc at) → length items ≤ at → suc at ≤ length text →
    Closes text items (opened around) (record { from = from; item = length (written around ++ flat (length (written around)) before) }) at
close_within text items around before trees from at items_are begins closes plainly few in_text =
    let base = written around in
    let front : List Item = base ++ flat (length base) before in
    let opening : List Item = Group from 0 0 ∷ [] in
    let tail : List Item = flat (length (front ++ opening)) trees in
    let long : length items ≡ length front + 1 + length tail =
    ap length items_are ∙ length-append (front ++ opening) tail ∙ ap (λ n. n + length tail) (length-append front opening) in
    let after : set items (length front) (Group from (suc at) (length items)) ≡ base ++ flat (length base) (join before (group from (suc at) trees none)) =
    ap (λ xs. set xs (length front) (Group from (suc at) (length xs))) items_are
    ∙ set_after front tail (Group from 0 0) (Group from (suc at) (length ((front ++ opening) ++ tail)))
    ∙ closed_items front base before trees from at refl in
    record {
      noted = omega (arith, long);
      read = record {
        around = around;
        trees = join before (group from (suc at) trees none);
        items_are = after;
        opened_are = refl;
        begins = begins_close (plain text) around before trees from at begins closes;
        plainly = plainly;
        few = omega (arith, few, length-set items (length front) (Group from (suc at) (length items)));
        in_text = in_text;
      };
    }

-- what has been read, and then a closing parenthesis, where a group is open
pub read_close : (text : List ℕ) (items : List Item) (groups rest : List Opened) (last : Opened) (at : ℕ) → HasRead text items groups at → get_or (plain text) at 0 ≡ 41 → groups ≡ rest ++ last ∷ [] → IsOutside text (suc at) → suc at ≤ length text → Closes text items rest last at
read_close text items groups rest last at read closes popped plainly in_text =
    by_around read.around read.trees read.items_are (sym read.opened_are ∙ popped) read.begins read.few
  where
    by_around : (around : Around) (trees : Trees) → items ≡ written around ++ flat (length (written around)) trees → opened around ≡ rest ++ last ∷ [] → Begins (plain text) around trees at → length items ≤ at → Closes text items rest last at
    by_around outside trees items_are noted begins few = absurd (nothing_noted rest last noted)
    by_around (within around before from) trees items_are noted begins few =
        let same = last_same (opened around) rest (record { from = from; item = length (written around ++ flat (length (written around)) before) }) last noted in
        subst (λ l. Closes text items rest l at) same.1
        (subst (λ r. Closes text items r (record { from = from; item = length (written around ++ flat (length (written around)) before) }) at) same.0
        (close_within text items around before trees from at items_are begins closes plainly few in_text))

-- what is known after a byte that begins no comment
pub record IsPassed (text : List ℕ) (at b : ℕ) : Type 0 where
  pub plain_is : get_or (plain text) at 0 ≡ b
  pub plainly : IsOutside text (suc at)
  pub in_text : suc at ≤ length text

pub passed : (text : List ℕ) (at b : ℕ) → IsOutside text at → get_or text at 0 ≡ b → b ≢ 59 → b ≢ 0 → IsPassed text at b
passed text at b plainly is no_mark some =
    let lt = within_text text at (λ e. some (sym is ∙ e)) in
    let over = over_byte text at lt (λ e. no_mark (sym is ∙ e)) plainly in
    record { plain_is = over.0 ∙ is; plainly = over.1; in_text = lt }

pub blank_no_mark : (b : ℕ) → is_blank b ≡ true → b ≢ 59
blank_no_mark b h e = let p : is_blank 59 ≡ true = subst (λ x. is_blank x ≡ true) e h in cc

-- nothing has been read
pub read_nothing : (text : List ℕ) → HasRead text [] [] 0
read_nothing text = record {
  around = outside;
  trees = none;
  items_are = refl;
  opened_are = refl;
  begins = gap_none (plain text) 0;
  plainly = refl;
  few = omega arith;
  in_text = omega arith;
}
