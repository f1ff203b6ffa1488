use Rattle.std.proofs.Common.{◌≡◌, ℕ, zero, suc, ◌+◌, ◌<◌, ◌≤◌, max, ◌++◌, ◌∷◌, [], Bool, true, false, nat_eq, List, length, drop, All, inl, inr, refl, ap, ◌∙◌, sym, subst, arith}
use Rattle.std.specs.Prelude.{◌⊎◌, ◌&&◌, not, if◌then◌else◌, slice_index, slice_index_or, Ok, Err, Option, None, Some, codes}
use Rattle.std.specs.Str.{bytes_eq}
use Rattle.std.proofs.lemmas.Bool.{cases_lt, cases_Bool, eqb-false, ne_eqb}
use Rattle.std.proofs.lemmas.List.{append-nil, append_assoc, drop_at, get_or_append_left, get_or_at, get_or_past, length-append}
use Rattle.std.proofs.lemmas.List.Elements.{All-append, All-cons, All-head, All-nil, All-push, All-tail}
use Rattle.cpt_pddl.specs.declared.fault.Fault.TheVariants as faults
use Rattle.cpt_pddl.specs.Items.{Items, end, word, group}
use Rattle.cpt_pddl.specs.Names.{place_in}
use Rattle.cpt_pddl.specs.Words.{is_name}
use Rattle.cpt_declared.specs.declared.kinds.Kinds.{Kinds}
use Rattle.cpt_declared.specs.Kinds.{KindRun, below_parent, dashed, entered_as, finished, has, is_entered, is_rooted, kinds_in, kinds_rest, parent_as, start, taken}
use Rattle.cpt_domain_spelling.specs.Siblings.{AreByFirstPlace, AreSiblings, IsArranged, Siblings, entries, mentions}
use Rattle.cpt_domain_spelling.proofs.HoldsLemmas.{Holds, holds_bind, holds_if, holds_ok, place_name}
use Rattle.cpt_domain_spelling.proofs.ItemLemmas.{unless, when}
use Rattle.cpt_domain_spelling.proofs.KindLemmas.{below_at, below_length, has_front, root_zero}
use Rattle.cpt_domain_spelling.proofs.SetLemmas.{Apart, absent_apart, absent_below, absent_none, absent_real, absent_there, apart_join, apart_once, apart_split, first_known, first_push, has_above, has_back, has_index, has_left, has_right, known_after, known_push, proper, proper_all, proper_append, proper_back, proper_has}

-- So many types are known, with these parents. Those that were entered stand in groups, up to the last parent, or are
-- left behind it.
record Standing (count : ℕ) (parents closed left : List ℕ) (groups : List Siblings) : Type 0 where
  some : 0 < count
  long : length parents ≡ count
  root : slice_index parents 0 ≡ 0
  closes : entries groups ≡ proper closed
  below : All (λ k. k < count) (closed ++ left)
  once : Apart (proper (closed ++ left))
  siblings : All (AreSiblings parents) groups
  others : (k : ℕ) → 0 < k → k < count → has (proper closed) k ≡ false → slice_index parents k ≡ 0
  first : AreByFirstPlace 1 (mentions groups ++ proper left)
  known : known_after 1 (mentions groups ++ proper left) ≡ count

abbrev single : ℕ → List ℕ
single k = k ∷ []

proper_one : (k : ℕ) → 0 < k → proper (single k) ≡ single k
proper_one zero h = absurd (omega arith)
proper_one (suc k) h = refl

-- one more entry, of a type that was known, or of a new one
enter_proper : (count count' : ℕ) (parents parents' closed left : List ℕ) (groups : List Siblings) (k : ℕ) → Standing count parents closed left groups → 0 < k → k ≤ count → count' ≡ max count (k + 1)
    → length parents' ≡ count' → ((j : ℕ) → slice_index parents' j ≡ slice_index parents j) → has (closed ++ left) k ≡ false → Standing count' parents' closed (left ++ single k) groups
enter_proper count count' parents parents' closed left groups k s some le more long same new =
    let grows : count ≤ count' = omega (arith, more) in
    let shift : closed ++ (left ++ single k) ≡ (closed ++ left) ++ single k = sym (append_assoc closed left (single k)) in
    let one = proper_one k some in
    let pushed : mentions groups ++ proper (left ++ single k) ≡ (mentions groups ++ proper left) ++ single k =
    ap (λ ks. mentions groups ++ ks) (proper_append left (single k) ∙ ap (λ ks. proper left ++ ks) one) ∙ sym (append_assoc (mentions groups) (proper left) (single k)) in
    let known = s.known in
    record {
      some = let c = s.some in omega (arith, c, grows);
      long = long;
      root = same 0 ∙ s.root;
      closes = s.closes;
      below = subst (All (λ j. j < count')) (sym shift)
          (All-append (λ j. j < count') (closed ++ left) (single k) (λ i x lt. let z = s.below i x lt in omega (arith, z, grows)) (All-cons (λ j. j < count') k [] (omega (arith, more)) (All-nil (λ j. j < count'))));
      once = subst Apart (sym (ap proper shift ∙ proper_append (closed ++ left) (single k) ∙ ap (λ ks. proper (closed ++ left) ++ ks) one))
          (apart_join (proper (closed ++ left)) (single k) s.once (refl, tt) (λ j h. only k j (proper (closed ++ left)) (proper_has (closed ++ left) k new) h));
      siblings = λ i x lt. moved parents parents' (slice_index_or groups i x) (omega (arith, long, grows, s.long)) same (s.siblings i x lt);
      others = λ j c lt none. by_count j c none (cases_lt j count);
      first = subst (AreByFirstPlace 1) (sym pushed) (first_push 1 (mentions groups ++ proper left) k s.first (omega (arith, known, le)));
      known = ap (known_after 1) pushed ∙ known_push 1 (mentions groups ++ proper left) k ∙ ap (λ n. max n (k + 1)) known ∙ sym more;
    } where
      only : (k j : ℕ) (ks : List ℕ) → has ks k ≡ false → has ks j ≡ true → has (single k) j ≡ false
      only k j ks none there = unless _ _ (ne_eqb k j (λ e. let bad : has ks k ≡ true = ap (has ks) e ∙ there in cc))

      moved : (parents parents' : List ℕ) (g : Siblings) → length parents ≤ length parents' → ((j : ℕ) → slice_index parents' j ≡ slice_index parents j) → AreSiblings parents g → AreSiblings parents' g
      moved parents parents' g le same h = record {
        some = h.some;
        real = λ i x lt. let r = h.real i x lt in let z = r.1 in (r.0, omega (arith, z, le));
        same = λ i x lt. same (slice_index_or g.kinds i x) ∙ h.same i x lt;
      }

      by_count : (j : ℕ) → 0 < j → has (proper closed) j ≡ false → (j < count) ⊎ (count ≤ j) → slice_index parents' j ≡ 0
      by_count j c none (inl lt) = same j ∙ s.others j c lt none
      by_count j c none (inr past) = same j ∙ get_or_past parents j 0 (let l = s.long in omega (arith, l, past))

-- object once more
enter_object : (count : ℕ) (parents closed left : List ℕ) (groups : List Siblings) → Standing count parents closed left groups → Standing count parents closed (left ++ single 0) groups
enter_object count parents closed left groups s =
    let shift : closed ++ (left ++ single 0) ≡ (closed ++ left) ++ single 0 = sym (append_assoc closed left (single 0)) in
    let none : proper (left ++ single 0) ≡ proper left = proper_append left (single 0) ∙ append-nil (proper left) in
    let whole : proper (closed ++ (left ++ single 0)) ≡ proper (closed ++ left) = ap proper shift ∙ proper_append (closed ++ left) (single 0) ∙ append-nil (proper (closed ++ left)) in
    let c = s.some in
    record {
      some = c;
      long = s.long;
      root = s.root;
      closes = s.closes;
      below = subst (All (λ j. j < count)) (sym shift) (All-append (λ j. j < count) (closed ++ left) (single 0) s.below (All-cons (λ j. j < count) 0 [] c (All-nil (λ j. j < count))));
      once = subst Apart (sym whole) s.once;
      siblings = s.siblings;
      others = s.others;
      first = subst (λ ks. AreByFirstPlace 1 (mentions groups ++ ks)) (sym none) s.first;
      known = ap (λ ks. known_after 1 (mentions groups ++ ks)) none ∙ s.known;
    }

entries_append : (groups more : List Siblings) → entries (groups ++ more) ≡ entries groups ++ entries more
entries_append [] more = refl
entries_append (g ∷ groups) more = ap (λ ks. g.kinds ++ ks) (entries_append groups more) ∙ sym (append_assoc g.kinds (entries groups) (entries more))

mentions_append : (groups more : List Siblings) → mentions (groups ++ more) ≡ mentions groups ++ mentions more
mentions_append [] more = refl
mentions_append (g ∷ groups) more = ap (λ ks. g.kinds ++ g.parent ∷ ks) (mentions_append groups more) ∙ sym (append_assoc g.kinds (g.parent ∷ mentions groups) (mentions more))

siblings_moved : (groups : List Siblings) (parents parents' : List ℕ) → length parents ≤ length parents' → ((k : ℕ) → 0 < k → has (entries groups) k ≡ true → k < length parents → slice_index parents' k ≡ slice_index parents k)
    → All (AreSiblings parents) groups → All (AreSiblings parents') groups
siblings_moved [] parents parents' le same h = All-nil (AreSiblings parents')
siblings_moved (g ∷ groups) parents parents' le same h =
    let own = All-head (AreSiblings parents) g groups h in
    All-cons (AreSiblings parents') g groups
    (record {
      some = own.some;
      real = λ i x lt. let r = own.real i x lt in let z = r.1 in (r.0, omega (arith, z, le));
      same = λ i x lt.
          let r = own.real i x lt in
          same (slice_index_or g.kinds i x) r.0 (has_left g.kinds (entries groups) (slice_index_or g.kinds i x) (has_index g.kinds i x lt)) r.1 ∙ own.same i x lt;
    })
    (siblings_moved groups parents parents' le (λ k some there lt. same k some (has_right g.kinds (entries groups) k there) lt) (All-tail (AreSiblings parents) g groups h))

all_right : (P : ℕ → Type 0) (a b : List ℕ) → All P (a ++ b) → All P b
all_right P [] b h = h
all_right P (x ∷ a) b h = all_right P a b (All-tail P x (a ++ b) h)

proper_there : (ks : List ℕ) (k : ℕ) → has (proper ks) k ≡ true → has ks k ≡ true
proper_there ks k h =
    elim (cases_Bool (has ks k)) [
      | inl there ↦ there
      | inr none ↦ let bad = proper_has ks k none in cc
    ]

-- the types that are left get a parent
close : (count count' p : ℕ) (parents parents' closed left : List ℕ) (groups : List Siblings) → Standing count parents closed left groups → p ≤ count → count' ≡ max count (p + 1) → length parents' ≡ count'
    → ((j : ℕ) → j < count' → slice_index parents' j ≡ (if has left j then p else slice_index parents j)) → slice_index parents' 0 ≡ 0 → 0 < length (proper left)
    → Standing count' parents' (closed ++ left) [] (groups ++ record { kinds = proper left; parent = p } ∷ [])
close count count' p parents parents' closed left groups s le more long value root some =
    let g : Siblings = record { kinds = proper left; parent = p } in
    let grows : count ≤ count' = omega (arith, more) in
    let kept = s.long in
    let known = s.known in
    let halves = proper_append closed left in
    let bounded : All (λ k. k < count') left = λ i x lt. let z = all_right (λ k. k < count) closed left s.below i x lt in omega (arith, z, grows) in
    let real = proper_all (λ k. k < count') left bounded in
    let pushed : mentions (groups ++ g ∷ []) ++ [] ≡ (mentions groups ++ proper left) ++ single p =
    append-nil (mentions (groups ++ g ∷ [])) ∙ mentions_append groups (g ∷ []) ∙ sym (append_assoc (mentions groups) (proper left) (single p)) in
    let c = s.some in
    let other : (j : ℕ) → j < count' → has left j ≡ false → slice_index parents' j ≡ slice_index parents j = λ j lt none. value j lt ∙ unless _ _ none in
    record {
      some = omega (arith, c, grows);
      long = long;
      root = root;
      closes = entries_append groups (g ∷ []) ∙ ap (λ ks. entries groups ++ ks) (append-nil (proper left)) ∙ ap (λ ks. ks ++ proper left) s.closes ∙ sym halves;
      below = subst (All (λ k. k < count')) (sym (append-nil (closed ++ left))) (λ i x lt. let z = s.below i x lt in omega (arith, z, grows));
      once = subst (λ ks. Apart (proper ks)) (sym (append-nil (closed ++ left))) s.once;
      siblings = All-push (AreSiblings parents') groups g
          (siblings_moved groups parents parents' (omega (arith, kept, long, grows))
          (λ k c there lt.
          let away : has (proper left) k ≡ false = apart_split (proper closed) (proper left) k (subst Apart halves s.once) (ap (λ ks. has ks k) (sym s.closes) ∙ there) in
          other k (omega (arith, lt, kept, grows)) (proper_back left k c away))
          s.siblings)
          (record {
            some = some;
            real = λ i x lt. let r = real i x lt in let z = r.1 in (r.0, omega (arith, z, long));
            same = λ i x lt.
                let k = slice_index_or (proper left) i x in
                value k (real i x lt).1 ∙ when _ _ (proper_there left k (has_index (proper left) i x lt));
          });
      others = λ k c lt none.
          let apart : has (proper closed ++ proper left) k ≡ false = ap (λ ks. has ks k) (sym halves) ∙ none in
          let away = proper_back left k c (has_back (proper closed) (proper left) k apart) in
          other k lt away ∙ unmet k c (has_front (proper closed) (proper left) k apart) (cases_lt k count);
      first = subst (AreByFirstPlace 1) (sym pushed) (first_push 1 (mentions groups ++ proper left) p s.first (omega (arith, known, le)));
      known = ap (known_after 1) pushed ∙ known_push 1 (mentions groups ++ proper left) p ∙ ap (λ n. max n (p + 1)) known ∙ sym more;
    } where
      unmet : (k : ℕ) → 0 < k → has (proper closed) k ≡ false → (k < count) ⊎ (count ≤ k) → slice_index parents k ≡ 0
      unmet k c none (inl lt) = s.others k c lt none
      unmet k c none (inr past) = get_or_past parents k 0 (let l = s.long in omega (arith, l, past))

-- no type is left, and the parent is object
close_none : (count : ℕ) (parents closed left : List ℕ) (groups : List Siblings) → Standing count parents closed left groups → proper left ≡ [] → Standing count parents (closed ++ left) [] groups
close_none count parents closed left groups s none =
    let same : proper (closed ++ left) ≡ proper closed = proper_append closed left ∙ ap (λ ks. proper closed ++ ks) none ∙ append-nil (proper closed) in
    record {
      some = s.some;
      long = s.long;
      root = s.root;
      closes = s.closes ∙ sym same;
      below = subst (All (λ k. k < count)) (sym (append-nil (closed ++ left))) s.below;
      once = subst (λ ks. Apart (proper ks)) (sym (append-nil (closed ++ left))) s.once;
      siblings = s.siblings;
      others = λ k c lt away. s.others k c lt (ap (λ ks. has ks k) (sym same) ∙ away);
      first = subst (λ ks. AreByFirstPlace 1 (mentions groups ++ ks)) none s.first;
      known = ap (λ ks. known_after 1 (mentions groups ++ ks)) (sym none) ∙ s.known;
    }

-- siblings below object at the end, where there are any
arrange_last : (parents rest : List ℕ) (groups : List Siblings) → All (AreSiblings parents) groups → All (λ k. (0 < k) × (k < length parents)) rest → All (λ k. slice_index parents k ≡ 0) rest
    → Apart (entries groups ++ rest) → ((k : ℕ) → 0 < k → k < length parents → has (entries groups ++ rest) k ≡ true) → AreByFirstPlace 1 (mentions groups ++ rest)
    → (all : List Siblings) × IsArranged parents all
arrange_last parents [] groups own real same apart covers first =
    let none = append-nil (entries groups) in (
      groups,
      record {
        siblings = own;
        once = apart_once (entries groups) (subst Apart none apart);
        whole = λ k c lt. ap (λ ks. has ks k) (sym none) ∙ covers k c lt;
        first = subst (AreByFirstPlace 1) (append-nil (mentions groups)) first;
      },
    )
arrange_last parents (k ∷ ks) groups own real same apart covers first =
    let g : Siblings = record { kinds = k ∷ ks; parent = 0 } in
    let there : entries (groups ++ g ∷ []) ≡ entries groups ++ k ∷ ks = entries_append groups (g ∷ []) ∙ ap (λ js. entries groups ++ js) (append-nil (k ∷ ks)) in
    let pushed : mentions (groups ++ g ∷ []) ≡ (mentions groups ++ k ∷ ks) ++ single 0 = mentions_append groups (g ∷ []) ∙ sym (append_assoc (mentions groups) (k ∷ ks) (single 0)) in (
      groups ++ g ∷ [],
      record {
        siblings = All-push (AreSiblings parents) groups g own (record { some = omega arith; real = real; same = same });
        once = apart_once (entries (groups ++ g ∷ [])) (subst Apart (sym there) apart);
        whole = λ j c lt. ap (λ js. has js j) there ∙ covers j c lt;
        first = subst (AreByFirstPlace 1) (sym pushed) (first_push 1 (mentions groups ++ k ∷ ks) 0 first (omega arith));
      },
    )

absent_away : (count : ℕ) (entered : List ℕ) (k : ℕ) → has entered k ≡ true → has (absent_below count entered) k ≡ false
absent_away count entered k h =
    elim (cases_Bool (has (absent_below count entered) k)) [
      | inl there ↦ let bad = absent_none count entered k there in cc
      | inr none ↦ none
    ]

either_there : (count : ℕ) (entered : List ℕ) (k : ℕ) → 0 < k → k < count → has (entered ++ absent_below count entered) k ≡ true
either_there count entered k c lt =
    elim (cases_Bool (has entered k)) [
      | inl there ↦ has_left entered (absent_below count entered) k there
      | inr none ↦ has_right entered (absent_below count entered) k (absent_there count entered k c lt none)
    ]

closed_away : (a b : List ℕ) (k : ℕ) → Apart (a ++ b) → has b k ≡ true → has a k ≡ false
closed_away a b k p h =
    elim (cases_Bool (has a k)) [
      | inl there ↦ let bad = apart_split a b k p there in cc
      | inr none ↦ none
    ]

-- the types that have no parent in the end stand together below object
arrange : (count : ℕ) (parents closed left : List ℕ) (groups : List Siblings) → Standing count parents closed left groups → (all : List Siblings) × IsArranged parents all
arrange count parents closed left groups s =
    let entered = proper (closed ++ left) in
    let absent = absent_below count entered in
    let rest = proper left ++ absent in
    let halves = proper_append closed left in
    let kept = s.long in
    let known = s.known in
    let whole : entries groups ++ rest ≡ entered ++ absent =
    ap (λ ks. ks ++ rest) s.closes ∙ sym (append_assoc (proper closed) (proper left) absent) ∙ ap (λ ks. ks ++ absent) (sym halves) in
    let real_left = proper_all (λ k. k < count) left (all_right (λ k. k < count) closed left s.below) in
    let real : All (λ k. (0 < k) × (k < count)) rest = All-append (λ k. (0 < k) × (k < count)) (proper left) absent real_left (absent_real count entered) in
    let alone : Apart (proper closed ++ proper left) = subst Apart halves s.once in
    let none_left : All (λ k. slice_index parents k ≡ 0) (proper left) =
    λ i x lt.
    let k = slice_index_or (proper left) i x in
    let r = real_left i x lt in
    s.others k r.0 r.1 (closed_away (proper closed) (proper left) k alone (has_index (proper left) i x lt)) in
    let none_absent : All (λ k. slice_index parents k ≡ 0) absent =
    λ i x lt.
    let k = slice_index_or absent i x in
    let r = absent_real count entered i x lt in
    let none = absent_none count entered k (has_index absent i x lt) in
    s.others k r.0 r.1 (has_front (proper closed) (proper left) k (ap (λ ks. has ks k) (sym halves) ∙ none)) in
    arrange_last parents rest groups s.siblings (λ i x lt. let r = real i x lt in let z = r.1 in (r.0, omega (arith, z, kept)))
    (All-append (λ k. slice_index parents k ≡ 0) (proper left) absent none_left none_absent)
    (subst Apart (sym whole) (apart_join entered absent s.once (absent_apart count entered) (λ k h. absent_away count entered k h)))
    (λ k c lt. ap (λ ks. has ks k) whole ∙ either_there count entered k c (omega (arith, lt, kept)))
    (subst (AreByFirstPlace 1) (append_assoc (mentions groups) (proper left) absent)
    (first_known 1 (mentions groups ++ proper left) absent s.first (λ i x lt. let r = (absent_real count entered i x lt).1 in omega (arith, r, known))))

-- a list of types that is being read: where object is still its own parent, the types stand so far
record RunStands (run : KindRun) : Type 0 where
  closed : List ℕ
  left : List ℕ
  groups : List Siblings
  entered : run.entered ≡ closed ++ left
  parented : run.parented ≡ length closed
  stands : Standing (length run.names) run.parents closed left groups
  ended : run.dash ≡ true → 0 < length left

record RunRead (run : KindRun) : Type 0 where
  some : 0 < length run.parents
  many : length run.parents ≡ length run.names
  stands : slice_index run.parents 0 ≡ 0 → RunStands run

same_end : (parents : List ℕ) (j : ℕ) → slice_index (parents ++ single 0) j ≡ slice_index parents j
same_end parents j =
    let n = length-append parents (single 0) in
    elim (cases_lt j (length parents)) [
      | inl lt ↦ get_or_append_left parents (single 0) 0 j lt
      | inr past ↦
          elim (cases_lt (length parents) j) [
            | inl more ↦ get_or_past (parents ++ single 0) j 0 (omega (arith, n, more)) ∙ sym (get_or_past parents j 0 past)
            | inr le ↦ let e : length parents ≡ j = omega (arith, past, le) in get_or_at parents 0 [] 0 j e ∙ sym (get_or_past parents j 0 past)
          ]
    ]

entered_new : (run : KindRun) (w : List ℕ) → run.dash ≡ false → RunRead run
    → RunRead (record run { names = run.names ++ w ∷ []; parents = run.parents ++ 0 ∷ []; entered = run.entered ++ length run.names ∷ [] })
entered_new run w still h =
    let n = length-append run.names (w ∷ []) in
    let m = length-append run.parents (single 0) in
    let some = h.some in
    let many = h.many in
    record {
      some = omega (arith, m);
      many = omega (arith, n, m, many);
      stands = λ root.
          let s = h.stands (sym (same_end run.parents 0) ∙ root) in
          let c = s.stands.some in
          let long = s.stands.long in
          record {
            closed = s.closed;
            left = s.left ++ single (length run.names);
            groups = s.groups;
            entered = ap (λ ks. ks ++ single (length run.names)) s.entered ∙ append_assoc s.closed s.left (single (length run.names));
            parented = s.parented;
            stands = enter_proper (length run.names) (length (run.names ++ w ∷ [])) run.parents (run.parents ++ single 0) s.closed s.left s.groups (length run.names) s.stands c (omega arith)
                (omega (arith, n)) (omega (arith, n, m, long)) (same_end run.parents) (has_above (length run.names) (length run.names) (s.closed ++ s.left) s.stands.below (omega arith));
            ended = λ e. let bad = still in cc;
          };
    }

unentered : (kind : ℕ) (ks : List ℕ) → 0 < kind → is_entered ks kind ≡ false → has ks kind ≡ false
unentered kind ks some new = sym (ap (λ t. not t && has ks kind) (ne_eqb kind 0 (omega arith))) ∙ new

entered_old : (run : KindRun) (kind : ℕ) → run.dash ≡ false → kind < length run.names → is_entered run.entered kind ≡ false → RunRead run → RunRead (record run { entered = run.entered ++ kind ∷ [] })
entered_old run kind still lt new h = record {
  some = h.some;
  many = h.many;
  stands = λ root.
      let s = h.stands root in
      record {
        closed = s.closed;
        left = s.left ++ single kind;
        groups = s.groups;
        entered = ap (λ ks. ks ++ single kind) s.entered ∙ append_assoc s.closed s.left (single kind);
        parented = s.parented;
        stands = enter_known kind lt (ap (λ ks. is_entered ks kind) (sym s.entered) ∙ new) s.stands;
        ended = λ e. let bad = still in cc;
      };
} where
  enter_known : {count : ℕ} {parents closed left : List ℕ} {groups : List Siblings} → (kind : ℕ) → kind < count → is_entered (closed ++ left) kind ≡ false → Standing count parents closed left groups
      → Standing count parents closed (left ++ single kind) groups
  enter_known {count = count} {parents = parents} {closed = closed} {left = left} {groups = groups} zero lt new s = enter_object count parents closed left groups s
  enter_known {count = count} {parents = parents} {closed = closed} {left = left} {groups = groups} (suc kind) lt new s =
      let same : count ≡ max count (suc kind + 1) = omega (arith, lt) in
      let le : suc kind ≤ count = omega (arith, lt) in
      let some : 0 < suc kind = omega arith in
      enter_proper count count parents parents closed left groups (suc kind) s some le same s.long (λ j. refl) (unentered (suc kind) (closed ++ left) some new)

-- the types that are left, where object is not among them, are proper
proper_some : (left : List ℕ) → 0 < length left → has left 0 ≡ false → 0 < length (proper left)
proper_some [] some none = some
proper_some (zero ∷ left) some none = absurd (cc)
proper_some (suc k ∷ left) some none = omega arith

parent_value : (p : ℕ) (left parents : List ℕ) → 0 < length parents → 0 < p → slice_index (below_parent p left parents) 0 ≡ 0 → (has left 0 ≡ false) × (slice_index parents 0 ≡ 0)
parent_value p left parents some c root =
    let value = below_at p left parents 0 some (λ z h. absurd (omega (arith, z, c))) in
    by_test (has left 0) (sym value ∙ root) where
      by_test : (t : Bool) → (if t then p else slice_index parents 0) ≡ 0 → (t ≡ false) × (slice_index parents 0 ≡ 0)
      by_test true e = absurd (omega (arith, e, c))
      by_test false e = (refl, e)

-- a parent other than object
settle_proper : (run : KindRun) (p : ℕ) (names' : List (List ℕ)) (more : List ℕ) → RunRead run → run.dash ≡ true → 0 < p → p ≤ length run.names → length names' ≡ max (length run.names) (p + 1)
    → length more ≡ length names' → ((j : ℕ) → slice_index more j ≡ slice_index run.parents j) → 0 < length more
    → RunRead (record run { names = names'; parents = below_parent p (drop run.parented run.entered) more; parented = length run.entered; dash = false })
settle_proper run p names' more h dash c le long even same some =
    let kept = below_length p (drop run.parented run.entered) more in
    record {
      some = omega (arith, kept, some);
      many = kept ∙ even;
      stands = λ root.
          let v = parent_value p (drop run.parented run.entered) more some c root in
          let s = h.stands (sym (same 0) ∙ v.1) in
          let left : drop run.parented run.entered ≡ s.left = ap (λ ks. drop run.parented ks) s.entered ∙ drop_at s.closed s.left run.parented (sym s.parented) in
          let none : has s.left 0 ≡ false = ap (λ ks. has ks 0) (sym left) ∙ v.0 in
          let total = ap length s.entered in
          record {
            closed = s.closed ++ s.left;
            left = [];
            groups = s.groups ++ record { kinds = proper s.left; parent = p } ∷ [];
            entered = s.entered ∙ sym (append-nil (s.closed ++ s.left));
            parented = total;
            stands = close (length run.names) (length names') p run.parents (below_parent p (drop run.parented run.entered) more) s.closed s.left s.groups s.stands le long (kept ∙ even)
                (λ j lt. below_at p (drop run.parented run.entered) more j (omega (arith, lt, even)) (λ z x. absurd (omega (arith, z, c)))
                ∙ ap (λ ks. if has ks j then p else slice_index more j) left ∙ ap (λ v. if has s.left j then p else v) (same j))
                root (proper_some s.left (s.ended dash) none);
            ended = λ e. cc;
          };
    }

-- a type that is left has no parent yet
left_value : (count : ℕ) (parents closed left : List ℕ) (groups : List Siblings) (j : ℕ) → Standing count parents closed left groups → j < count → has left j ≡ true → slice_index parents j ≡ 0
left_value count parents closed left groups zero s lt there = s.root
left_value count parents closed left groups (suc j) s lt there =
    elim (cases_Bool (has (proper left) (suc j))) [
      | inl proper_one ↦ s.others (suc j) (omega arith) lt (closed_away (proper closed) (proper left) (suc j) (subst Apart (proper_append closed left) s.once) proper_one)
      | inr none ↦ let bad = proper_back left (suc j) (omega arith) none in cc
    ]

unset : (t : Bool) (v : ℕ) → (t ≡ true → v ≡ 0) → v ≡ (if t then 0 else v)
unset true v h = h refl
unset false v h = refl

-- object as a parent
settle_object : (run : KindRun) → RunRead run → RunRead (record run { parented = length run.entered; dash = false })
settle_object run h = record {
  some = h.some;
  many = h.many;
  stands = λ root.
      let s = h.stands root in
      by_left s (cases_lt 0 (length (proper s.left)));
} where
  no_more : (ks : List ℕ) → length ks ≤ 0 → ks ≡ []
  no_more [] le = refl
  no_more (k ∷ ks) le = absurd (omega arith)

  by_left : (s : RunStands run) → (0 < length (proper s.left)) ⊎ (length (proper s.left) ≤ 0) → RunStands (record run { parented = length run.entered; dash = false })
  by_left s (inl some) =
      let c = s.stands.some in
      let same : length run.names ≡ max (length run.names) (0 + 1) = omega (arith, c) in
      record {
        closed = s.closed ++ s.left;
        left = [];
        groups = s.groups ++ record { kinds = proper s.left; parent = 0 } ∷ [];
        entered = s.entered ∙ sym (append-nil (s.closed ++ s.left));
        parented = ap length s.entered;
        stands = close (length run.names) (length run.names) 0 run.parents run.parents s.closed s.left s.groups s.stands (omega arith) same s.stands.long
            (λ j lt. unset (has s.left j) (slice_index run.parents j) (λ there. left_value (length run.names) run.parents s.closed s.left s.groups j s.stands lt there)) s.stands.root some;
        ended = λ e. cc;
      }
  by_left s (inr none) = record {
    closed = s.closed ++ s.left;
    left = [];
    groups = s.groups;
    entered = s.entered ∙ sym (append-nil (s.closed ++ s.left));
    parented = ap length s.entered;
    stands = close_none (length run.names) run.parents s.closed s.left s.groups s.stands (no_more (proper s.left) none);
    ended = λ e. cc;
  }

parent_read : (run : KindRun) (w : List ℕ) (o : Option ℕ) → place_in run.names w ≡ o → run.dash ≡ true → RunRead run → RunRead (parent_as run w o)
parent_read run w None e dash h =
    let n = length-append run.names (w ∷ []) in
    let m = length-append run.parents (single 0) in
    let some = h.some in
    let many = h.many in
    settle_proper run (length run.names) (run.names ++ w ∷ []) (run.parents ++ 0 ∷ []) h dash (omega (arith, some, many)) (omega arith) (omega (arith, n)) (omega (arith, n, m, many)) (same_end run.parents) (omega (arith, m))
parent_read run w (Some zero) e dash h = settle_object run h
parent_read run w (Some (suc p)) e dash h =
    let lt = (place_name run.names w (suc p) e).within in
    settle_proper run (suc p) run.names run.parents h dash (omega arith) (omega (arith, lt)) (omega (arith, lt)) h.many (λ j. refl) h.some

entry_read : (run : KindRun) (at : ℕ) (w : List ℕ) (o : Option ℕ) → place_in run.names w ≡ o → run.dash ≡ false → RunRead run → Holds RunRead (entered_as run at w o)
entry_read run at w None e still h = entered_new run w still h
entry_read run at w (Some kind) e still h =
    holds_if RunRead (is_entered run.entered kind) (Err (faults.Twice at)) (Ok (record run { entered = run.entered ++ kind ∷ [] })) (λ _. tt)
    (λ new. entered_old run kind still (place_name run.names w kind e).within new h)

dash_read : (run : KindRun) → nat_eq (length run.entered) run.parented ≡ false → RunRead run → RunRead (record run { dash = true })
dash_read run differs h = record {
  some = h.some;
  many = h.many;
  stands = λ root.
      let s = h.stands root in
      let apart = eqb-false (length run.entered) run.parented differs in
      let total = ap length s.entered ∙ length-append s.closed s.left in
      let behind = s.parented in
      record {
        closed = s.closed;
        left = s.left;
        groups = s.groups;
        entered = s.entered;
        parented = s.parented;
        stands = s.stands;
        ended = λ _. elim (cases_lt 0 (length s.left)) [ inl more ↦ more | inr none ↦ absurd (apart (omega (arith, total, behind, none))) ];
      };
}

word_read : (run : KindRun) (at : ℕ) (w : List ℕ) → RunRead run → Holds RunRead (taken run at w)
unfolding taken dashed
word_read run at w h =
    holds_if RunRead run.dash _ _
    (λ dash. holds_if RunRead (is_name w) (Ok (parent_as run w (place_in run.names w))) (Err (faults.Shape at)) (λ _. parent_read run w (place_in run.names w) refl dash h) (λ _. tt))
    (λ still. holds_if RunRead (bytes_eq w (codes "-")) _ _
    (λ _. holds_if RunRead (nat_eq (length run.entered) run.parented) (Err (faults.Shape at)) (Ok (record run { dash = true })) (λ _. tt) (λ differs. dash_read run differs h))
    (λ _. holds_if RunRead (is_name w) (entered_as run at w (place_in run.names w)) (Err (faults.Shape at)) (λ _. entry_read run at w (place_in run.names w) refl still h) (λ _. tt)))

-- some groups in which types with these parents stand
abbrev pub Stand : List ℕ → Type 0
Stand parents = (groups : List Siblings) × IsArranged parents groups

rest_arranged : (section : ℕ) (run : KindRun) (items : Items) → RunRead run → Holds (λ (k : Kinds). Stand k.parents) (kinds_rest section run items)
unfolding finished
rest_arranged section run (end close) h =
    let P : Kinds → Type 0 = λ k. Stand k.parents in
    holds_if P run.dash (Err (faults.Shape close)) _ (λ _. tt)
    (λ _. holds_if P (is_rooted run.parents) (Ok (record { names = run.names; parents = run.parents })) (Err (faults.BadType section))
    (λ rooted. let s = h.stands (root_zero run.parents rooted) in arrange (length run.names) run.parents s.closed s.left s.groups s.stands) (λ _. tt))
rest_arranged section run (word at w rest) h =
    holds_bind RunRead (λ (k : Kinds). Stand k.parents) (taken run at w) (λ next. kinds_rest section next rest) (word_read run at w h) (λ next k. rest_arranged section next rest k)
rest_arranged section run (group at inside rest) h = tt

start_read : RunRead start
start_read = record {
  some = omega arith;
  many = refl;
  stands = λ root. record {
    closed = [];
    left = [];
    groups = [];
    entered = refl;
    parented = refl;
    stands = record {
      some = omega arith;
      long = refl;
      root = root;
      closes = refl;
      below = All-nil (λ k. k < 1);
      once = tt;
      siblings = All-nil (AreSiblings (0 ∷ []));
      others = λ k some lt none. absurd (omega arith);
      first = tt;
      known = refl;
    };
    ended = λ e. cc;
  };
}

pub kinds_stand : (section : ℕ) (items : Items) → Holds (λ (k : Kinds). Stand k.parents) (kinds_in section items)
unfolding kinds_in
kinds_stand section items = rest_arranged section start items start_read

-- the types that are read stand in some groups
pub kinds_arranged : (section : ℕ) (items : Items) (k : Kinds) → kinds_in section items ≡ Ok k → (groups : List Siblings) × IsArranged k.parents groups
kinds_arranged section items k e = holds_ok (λ (kinds : Kinds). Stand kinds.parents) (kinds_in section items) k e (kinds_stand section items)
