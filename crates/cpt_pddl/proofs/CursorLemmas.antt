use Rattle.std.proofs.Common.{◌≡◌, ℕ, zero, suc, ◌+◌, ◌-◌, ◌<◌, ◌≤◌, nat_lt, Bool, true, false, List, Option, Some, None, slice_get, min, max, refl, sym, ap, ◌∙◌, arith}
use Rattle.std.specs.List.{slice_range}
use Rattle.std.specs.Prelude.{if◌then◌else◌}
use Rattle.std.proofs.lemmas.Bool.Decides.{nat_tests}
use Rattle.cpt_sexp.specs.declared.item.Item.{Item}
use Rattle.cpt_sexp.specs.declared.item.Item.TheVariants.{Word, Group}
use Rattle.cpt_sexp.specs.Flat.{Stands}
use Rattle.cpt_sexp.specs.Trees.{Trees}
use Rattle.cpt_sexp.specs.Trees as trees
use Rattle.cpt_sexp.proofs.Walking.{stands_forth}
use Rattle.cpt_pddl.specs.declared.cursor.Cursor.{Cursor}
use Rattle.cpt_pddl.specs.Items.{Items, end, word, group, item_at, items_from, items_of, left}

lt_true : (a b : ℕ) → a < b → nat_lt a b ≡ true
lt_true a b h = grind (arith, nat_tests)

lt_false : (a b : ℕ) → b ≤ a → nat_lt a b ≡ false
lt_false a b h = grind (arith, nat_tests)

-- an item is read alike by functions that read alike what comes after it
same_item : (f g : ℕ → ℕ → ℕ → Items) (text : List ℕ) (close at after : ℕ) (o : Option Item) → at < after
    → ((c k n : ℕ) → n - k < after - at → f c k n ≡ g c k n) → item_at f text close at after o ≡ item_at g text close at after o
same_item f g text close at after None h e = refl
same_item f g text close at after (Some (Word from to)) h e = ap (word from (slice_range text from to)) (e close (at + 1) after (omega arith))
same_item f g text close at after (Some (Group from to beyond)) h e =
    let a : min beyond after - (at + 1) < after - at = grind arith in
    let b : after - max beyond (at + 1) < after - at = grind arith in
    ap (λ i. group from i (f close (max beyond (at + 1)) after)) (e (to - 1) (at + 1) (min beyond after) a)
    ∙ ap (group from (g (to - 1) (at + 1) (min beyond after))) (e close (max beyond (at + 1)) after b)

-- so many in a row as there are numbers are enough
enough : (m n : ℕ) (items : List Item) (text : List ℕ) (close at after : ℕ) → after - at ≤ m → after - at ≤ n
    → items_from m items text close at after ≡ items_from n items text close at after
enough zero zero items text close at after h k = refl
enough zero (suc n) items text close at after h k =
    sym (ap (λ b. if b then item_at (λ c k n'. items_from n items text c k n') text close at after (slice_get items at) else end close) (lt_false at after (omega arith)))
enough (suc m) zero items text close at after h k =
    ap (λ b. if b then item_at (λ c k n. items_from m items text c k n) text close at after (slice_get items at) else end close) (lt_false at after (omega arith))
enough (suc m) (suc n) items text close at after h k =
    let one = λ (b : Bool). if b then item_at (λ c k n. items_from m items text c k n) text close at after (slice_get items at) else end close in
    let other = λ (b : Bool). if b then item_at (λ c k n'. items_from n items text c k n') text close at after (slice_get items at) else end close in
    let both : (b : Bool) → nat_lt at after ≡ b → one b ≡ other b = λ b e. elim b as (λ b. nat_lt at after ≡ b → one b ≡ other b) [
      | true ↦ λ e. let lt : at < after = grind (arith, nat_tests) in
          same_item (λ c k n. items_from m items text c k n) (λ c k n'. items_from n items text c k n') text close at after (slice_get items at) lt
          (λ c i j less. enough m n items text c i j (omega arith) (omega arith))
      | false ↦ λ e. refl
    ] e in
    both (nat_lt at after) refl

-- the first item from a number on
pub first_from : (items : List Item) (text : List ℕ) (close at after : ℕ) → at < after
    → items_from (after - at) items text close at after ≡ item_at (λ c k n. items_from (n - k) items text c k n) text close at after (slice_get items at)
first_from items text close at after h =
    let k : ℕ = after - at - 1 in
    let e : after - at ≡ suc k = omega arith in
    ap (λ n. items_from n items text close at after) e
    ∙ ap (λ b. if b then item_at (λ c i j. items_from k items text c i j) text close at after (slice_get items at) else end close) (lt_true at after h)
    ∙ same_item (λ c i j. items_from k items text c i j) (λ c i j. items_from (j - i) items text c i j) text close at after (slice_get items at) h
    (λ c i j less. enough k (j - i) items text c i j (omega arith) (omega arith))

-- nothing is left past the last number
pub none_from : (items : List Item) (text : List ℕ) (close at after : ℕ) → after ≤ at → items_from (after - at) items text close at after ≡ end close
none_from items text close at after h = let e : after - at ≡ 0 = omega arith in ap (λ n. items_from n items text close at after) e

-- items that are trees are read as those trees
pub stands_read : (items : List Item) (text : List ℕ) (close at after : ℕ) (t : Trees) → Stands items at after t
    → items_from (after - at) items text close at after ≡ items_of text close t
stands_read items text close at after trees.none s = none_from items text close at after (omega (arith, s))
stands_read items text close at after (trees.word from to rest) s =
    let forth = stands_forth items (suc at) after rest s.1 in
    first_from items text close at after (omega arith)
    ∙ ap (item_at (λ c k n. items_from (n - k) items text c k n) text close at after) s.0
    ∙ ap (word from (slice_range text from to)) (ap (λ k. items_from (after - k) items text close k after) (let e : at + 1 ≡ suc at = omega arith in e) ∙ stands_read items text close (suc at) after rest s.1)
stands_read items text close at after (trees.group from to inside rest) s =
    let next : ℕ = s.0 in
    let e : at + 1 ≡ suc at = omega arith in
    let l : min next after ≡ next = grind (arith, s.1, s.2) in
    let r : max next (at + 1) ≡ next = grind (arith, s.1, s.2) in
    let i : items_from (min next after - (at + 1)) items text (to - 1) (at + 1) (min next after) ≡ items_of text (to - 1) inside =
    ap (λ n. items_from (n - (at + 1)) items text (to - 1) (at + 1) n) l ∙ ap (λ k. items_from (next - k) items text (to - 1) k next) e ∙ stands_read items text (to - 1) (suc at) next inside s.4 in
    let o : items_from (after - max next (at + 1)) items text close (max next (at + 1)) after ≡ items_of text close rest =
    ap (λ k. items_from (after - k) items text close k after) r ∙ stands_read items text close next after rest s.5 in
    first_from items text close at after (omega (arith, s.1, s.2))
    ∙ ap (item_at (λ c k n. items_from (n - k) items text c k n) text close at after) s.3
    ∙ ap (λ x. group from x (items_from (after - max next (at + 1)) items text close (max next (at + 1)) after)) i
    ∙ ap (group from (items_of text (to - 1) inside)) o

-- past the last number nothing is left
pub left_past : (c : Cursor) → c.after ≤ c.at → left c ≡ end c.close
unfolding left
left_past c h = none_from c.items.now c.text.now c.close c.at c.after h

-- what is left, by the item at the place
pub left_item : (c : Cursor) (o : Option Item) → c.at < c.after → o ≡ slice_get c.items.now c.at
    → left c ≡ item_at (λ x k n. items_from (n - k) c.items.now c.text.now x k n) c.text.now c.close c.at c.after o
unfolding left
left_item c o h e =
    first_from c.items.now c.text.now c.close c.at c.after h
    ∙ ap (item_at (λ x k n. items_from (n - k) c.items.now c.text.now x k n) c.text.now c.close c.at c.after) (sym e)

-- a word, and what is left after it
pub left_word : (c m : Cursor) (from to : ℕ) (bytes : List ℕ) → c.at < c.after → Some (Word from to) ≡ slice_get c.items.now c.at
    → bytes ≡ slice_range c.text.now from to → m ≡ record c { at = c.at + 1 } → left c ≡ word from bytes (left m)
unfolding left
left_word c m from to bytes h e b is =
    left_item c (Some (Word from to)) h e
    ∙ ap (λ w. word from w (items_from (c.after - (c.at + 1)) c.items.now c.text.now c.close (c.at + 1) c.after)) (sym b)
    ∙ ap (λ (n : Cursor). word from bytes (left n)) (sym is)

-- a group, what is left inside it, and what is left after it
pub left_group : (c i m : Cursor) (from to beyond close after at : ℕ) → c.at < c.after → Some (Group from to beyond) ≡ slice_get c.items.now c.at
    → close ≡ to - 1 → after ≡ min beyond c.after → at ≡ max beyond (c.at + 1)
    → i ≡ record c { close = close; at = c.at + 1; after = after } → m ≡ record c { at = at } → left c ≡ group from (left i) (left m)
unfolding left
left_group c i m from to beyond close after at h e is_close is_after is_at is_i is_m =
    left_item c (Some (Group from to beyond)) h e
    ∙ ap (λ n. group from (items_from (min beyond c.after - (c.at + 1)) c.items.now c.text.now n (c.at + 1) (min beyond c.after)) (items_from (c.after - max beyond (c.at + 1)) c.items.now c.text.now c.close (max beyond (c.at + 1)) c.after)) (sym is_close)
    ∙ ap (λ n. group from (items_from (n - (c.at + 1)) c.items.now c.text.now close (c.at + 1) n) (items_from (c.after - max beyond (c.at + 1)) c.items.now c.text.now c.close (max beyond (c.at + 1)) c.after)) (sym is_after)
    ∙ ap (λ n. group from (items_from (after - (c.at + 1)) c.items.now c.text.now close (c.at + 1) after) (items_from (c.after - n) c.items.now c.text.now c.close n c.after)) (sym is_at)
    ∙ ap (λ (n : Cursor). group from (left n) (items_from (c.after - at) c.items.now c.text.now c.close at c.after)) (sym is_i)
    ∙ ap (λ (n : Cursor). group from (left i) (left n)) (sym is_m)
