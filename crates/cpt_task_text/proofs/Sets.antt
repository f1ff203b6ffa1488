-- A set of names beside the list of them.
use Rattle.std.proofs.Common.{◌≡◌, ℕ, Bool, true, false, not, ◌||◌, List, [], ◌∷◌, ◌++◌, Ordering, Less, Equal, Greater, refl, sym, ap, ◌∙◌}
use Rattle.std.specs.Borrow.{Bor}
use Rattle.std.specs.BTreeSet.{BTreeSet, contains, contains_by, insert_key}
use Rattle.std.specs.Cmp.Lexicographic.{slice_cmp}
use Rattle.std.specs.List.{list_any}
use Rattle.std.specs.Ordering.{is_eq, match_ordering, nat_cmp}
use Rattle.std.specs.Str.{bytes_eq}
use Rattle.std.proofs.lemmas.Bool.{not-true, not-false}
use Rattle.std.proofs.lemmas.List.Folds.{list_any-append}
use Rattle.std.proofs.lemmas.Map.Text.{is_eq-slice_cmp}
use Rattle.cpt_task_text.specs.Reading.{is_among}
use Rattle.cpt_task_text.proofs.Binding.{eq_bytes}

-- a set has the names of a list, and no others
abbrev pub Knows : BTreeSet (Bor (List ℕ)) → List (List ℕ) → Type 0
Knows set names = (name : List ℕ) → contains_by (λ key. slice_cmp nat_cmp name key.now) set ≡ is_among names name

-- a key has this name
abbrev has : List ℕ → Bor (List ℕ) → Bool
has name key = is_eq (slice_cmp nat_cmp name key.now)

abbrev order : Bor (List ℕ) → Bor (List ℕ) → Ordering
order x y = slice_cmp nat_cmp x.now y.now

or_last : (a b c : Bool) → (a || (b || c)) ≡ ((b || c) || a)
or_last true true c = refl
or_last true false true = refl
or_last true false false = refl
or_last false true c = refl
or_last false false true = refl
or_last false false false = refl

or_again : (a b c : Bool) → a ≡ b → (b || c) ≡ ((b || c) || a)
or_again true true c e = refl
or_again true false c e = absurd (let z : ⊥ = cc in z)
or_again false true c e = refl
or_again false false true e = refl
or_again false false false e = refl

or_within : (b c d a : Bool) → d ≡ (c || a) → (b || d) ≡ ((b || c) || a)
or_within true c d a e = refl
or_within false c d a e = e

inserted_by : (name : List ℕ) (x : Bor (List ℕ)) (xs : List (Bor (List ℕ))) (key : Bor (List ℕ)) (o : Ordering) → order key x ≡ o
    → list_any (has name) (insert_key order xs key) ≡ (list_any (has name) xs || has name key)
    → list_any (has name) (match_ordering o (key ∷ x ∷ xs) (x ∷ xs) (x ∷ insert_key order xs key)) ≡ (list_any (has name) (x ∷ xs) || has name key)
inserted_by name x xs key Less e more = or_last (has name key) (has name x) (list_any (has name) xs)
inserted_by name x xs key Equal e more =
    let same : key.now ≡ x.now = eq_bytes key.now x.now (sym (is_eq-slice_cmp key.now x.now) ∙ ap is_eq e) in
    or_again (has name key) (has name x) (list_any (has name) xs) (ap (λ (bytes : List ℕ). is_eq (slice_cmp nat_cmp name bytes)) same)
inserted_by name x xs key Greater e more = or_within (has name x) (list_any (has name) xs) (list_any (has name) (insert_key order xs key)) (has name key) more

or_none : (a : Bool) → (a || false) ≡ a
or_none true = refl
or_none false = refl

inserted : (name : List ℕ) (keys : List (Bor (List ℕ))) (key : Bor (List ℕ)) → list_any (has name) (insert_key order keys key) ≡ (list_any (has name) keys || has name key)
inserted name [] key = or_none (has name key)
inserted name (x ∷ xs) key = inserted_by name x xs key (order key x) refl (inserted name xs key)

pub knows_none : (set : BTreeSet (Bor (List ℕ))) → set.keys ≡ [] → Knows set []
knows_none set e = λ name. ap (list_any (has name)) e

-- one more name
pub knows_more : (old new : BTreeSet (Bor (List ℕ))) (key : Bor (List ℕ)) (names : List (List ℕ)) → Knows old names → new.keys ≡ insert_key order old.keys key → Knows new (names ++ key.now ∷ [])
knows_more old new key names h e = λ name.
    let split : is_among (names ++ key.now ∷ []) name ≡ (is_among names name || (bytes_eq name key.now || false)) = list_any-append (bytes_eq name) names (key.now ∷ []) in
    ap (list_any (has name)) e ∙ inserted name old.keys key ∙ ap (λ (b : Bool). b || has name key) (h name)
    ∙ ap (λ (b : Bool). is_among names name || b) (is_eq-slice_cmp name key.now ∙ sym (or_none (bytes_eq name key.now))) ∙ sym split

-- what the set said of a name
pub was_new : (old : BTreeSet (Bor (List ℕ))) (key : Bor (List ℕ)) (names : List (List ℕ)) (added : Bool) → Knows old names → added ≡ not (contains order old key) → added ≡ true → is_among names key.now ≡ false
was_new old key names added h e true-added = sym (h key.now) ∙ not-true _ (sym e ∙ true-added)

pub was_known : (old : BTreeSet (Bor (List ℕ))) (key : Bor (List ℕ)) (names : List (List ℕ)) (added : Bool) → Knows old names → added ≡ not (contains order old key) → added ≡ false → is_among names key.now ≡ true
was_known old key names added h e false-added = sym (h key.now) ∙ not-false _ (sym e ∙ false-added)
