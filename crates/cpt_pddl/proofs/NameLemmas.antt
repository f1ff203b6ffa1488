use Rattle.std.proofs.Common.{◌≡◌, ℕ, suc, ◌+◌, ◌++◌, ◌∷◌, [], Bool, true, false, List, length, refl, sym, ap, ◌∙◌, arith}
use Rattle.std.specs.Prelude.{if◌then◌else◌, cond, IsSome, Option, None, Some, Vec}
use Rattle.std.specs.declared.alloc.Global.{Global}
use Rattle.std.specs.HashMap.{HashMap, get}
use Rattle.std.specs.Map.{lookup}
use Rattle.std.specs.Str.{bytes_eq}
use Rattle.std.proofs.lemmas.Slice.Eq.{bytes_eq-Decides}
use Rattle.indexmap.specs.IndexMap.{insert_entry}
use Rattle.indexmap.proofs.CallerLemmas.{insert_entry-new}
use Rattle.cpt_pddl.specs.Names.{AreFirsts, place_from, place_in}

or_else : {A : Type 0} → Option A → Option A → Option A
or_else None o = o
or_else (Some x) o = Some x

-- the place of a word among names with one more
place_end : (names : List (List ℕ)) (k : ℕ) (w word : List ℕ)
    → place_from (names ++ w ∷ []) k word ≡ or_else (place_from names k word) (if bytes_eq w word then Some (k + length names) else None)
unfolding or_else
place_end [] k w word = ap (λ (n : ℕ). if bytes_eq w word then Some n else None) (let e : k ≡ k + 0 = omega arith in e)
place_end (name ∷ names) k w word =
    let last = λ (n : ℕ). if bytes_eq w word then Some n else None in
    let by : (b : Bool) → (if b then Some k else place_from (names ++ w ∷ []) (k + 1) word) ≡ or_else (if b then Some k else place_from names (k + 1) word) (last (k + suc (length names))) =
    λ b. elim b as (λ b. (if b then Some k else place_from (names ++ w ∷ []) (k + 1) word) ≡ or_else (if b then Some k else place_from names (k + 1) word) (last (k + suc (length names)))) [
      | true ↦ refl
      | false ↦ place_end names (k + 1) w word ∙ ap (λ (n : ℕ). or_else (place_from names (k + 1) word) (last n)) (let e : k + 1 + length names ≡ k + suc (length names) = omega arith in e)
    ] in
    by (bytes_eq name word)

-- what is found among entries with one more
lookup_end : {K : Type 0} (test : K → Bool) (es : List (K × ℕ)) (e : K × ℕ) → lookup test (es ++ e ∷ []) ≡ or_else (lookup test es) (if test e.0 then Some e.1 else None)
unfolding or_else
lookup_end test [] e = by (test e.0)
  where
    by : (b : Bool) → cond b (Some e.1) None ≡ (if b then Some e.1 else None)
    by true = refl
    by false = refl
lookup_end test (f ∷ es) e = by (test f.0) (lookup_end test es e)
  where
    by : (b : Bool) → lookup test (es ++ e ∷ []) ≡ or_else (lookup test es) (if test e.0 then Some e.1 else None)
        → cond b (Some f.1) (lookup test (es ++ e ∷ [])) ≡ or_else (cond b (Some f.1) (lookup test es)) (if test e.0 then Some e.1 else None)
    by true h = refl
    by false h = h

eq_turned : (xs ys : List ℕ) → bytes_eq xs ys ≡ bytes_eq ys xs
eq_turned xs ys = grind (arith, bytes_eq-Decides xs ys, bytes_eq-Decides ys xs)

last_hidden : (names : List (List ℕ)) (w word : List ℕ) (k : ℕ) (x : Option ℕ) → place_in names w ≡ Some k → (o : Option ℕ) → place_in names word ≡ o
    → or_else o (if bytes_eq w word then x else None) ≡ o
unfolding or_else
last_hidden names w word k x there (Some n) e = refl
last_hidden names w word k x there None e = by (bytes_eq w word) refl
  where
    by : (b : Bool) → bytes_eq w word ≡ b → (if b then x else None) ≡ None
    by false f = refl
    by true f =
        let same : w ≡ word = (bytes_eq-Decides w word).0 f in
        let gone : Some k ≡ None = sym there ∙ ap (place_in names) same ∙ e in
        absurd (cc)

-- a name once more has its first place still
pub firsts_again : (names : List (List ℕ)) (entries : List (Vec ℕ Global × ℕ)) (w : List ℕ) (k : ℕ) → AreFirsts names entries → place_in names w ≡ Some k
    → AreFirsts (names ++ w ∷ []) entries
unfolding place_in
firsts_again names entries w k h there word =
    h word ∙ sym (place_end names 0 w word ∙ last_hidden names w word k (Some (0 + length names)) there (place_in names word) refl)

-- a name that was there came in again
pub firsts_repeated : (names more : List (List ℕ)) (entries : List (Vec ℕ Global × ℕ)) (name : List ℕ) → AreFirsts names entries → IsSome (place_in names name)
    → more ≡ names ++ name ∷ [] → AreFirsts more entries
firsts_repeated names more entries name h there e =
    by (place_in names name) refl there
  where
    by : (o : Option ℕ) → place_in names name ≡ o → IsSome o → AreFirsts more entries
    by None at some = absurd (cc)
    by (Some k) at some = λ word. firsts_again names entries name k h at word ∙ ap (λ (ns : List (List ℕ)). place_in ns word) (sym e)

-- no names have no places
pub firsts_none : (names : List (List ℕ)) (entries : List (Vec ℕ Global × ℕ)) → names ≡ [] → entries ≡ [] → AreFirsts names entries
unfolding place_in
firsts_none names entries e f word =
    ap (lookup (λ (key : Vec ℕ Global). bytes_eq word key.items)) f ∙ ap (λ (ns : List (List ℕ)). place_in ns word) (sym e)

-- one more name has the last place
pub firsts_new : (names : List (List ℕ)) (entries : List (Vec ℕ Global × ℕ)) (w : List ℕ) (key : Vec ℕ Global) → AreFirsts names entries → key.items ≡ w
    → AreFirsts (names ++ w ∷ []) (entries ++ (key, length names) ∷ [])
unfolding place_in
firsts_new names entries w key h is word =
    let last = λ (b : Bool). if b then Some (length names) else None in
    let turned : bytes_eq word key.items ≡ bytes_eq w word = ap (bytes_eq word) is ∙ eq_turned word w in
    lookup_end (λ (k : Vec ℕ Global). bytes_eq word k.items) entries (key, length names)
    ∙ ap (λ (o : Option ℕ). or_else o (last (bytes_eq word key.items))) (h word)
    ∙ ap (λ (b : Bool). or_else (place_in names word) (last b)) turned
    ∙ sym (place_end names 0 w word ∙ ap (λ (n : ℕ). or_else (place_from names 0 word) (if bytes_eq w word then Some n else None)) (let e : 0 + length names ≡ length names = omega arith in e))

-- neither the names nor the places changed
pub firsts_kept : (names more : List (List ℕ)) (entries entries' : List (Vec ℕ Global × ℕ)) → AreFirsts names entries → more ≡ names → entries' ≡ entries → AreFirsts more entries'
firsts_kept names more entries entries' h e f word =
    ap (lookup (λ (key : Vec ℕ Global). bytes_eq word key.items)) f ∙ h word ∙ ap (λ (ns : List (List ℕ)). place_in ns word) (sym e)

-- a name that was not there came in, with its place
pub firsts_inserted : {S : Type 0} (names more : List (List ℕ)) (index : HashMap (Vec ℕ Global) ℕ S) (entries : List (Vec ℕ Global × ℕ)) (name : List ℕ) (key : Vec ℕ Global) (place : ℕ)
    → AreFirsts names index.entries → key.items ≡ name → place_in names name ≡ None → place ≡ length names → more ≡ names ++ name ∷ []
    → entries ≡ insert_entry (λ (a b : Vec ℕ Global). bytes_eq a.items b.items) index.entries key place → AreFirsts more entries
firsts_inserted names more index entries name key place h is new at e f =
    let eq = λ (a b : Vec ℕ Global). bytes_eq a.items b.items in
    let none : get eq index key ≡ None = h key.items ∙ ap (place_in names) is ∙ new in
    firsts_kept (names ++ name ∷ []) more (index.entries ++ (key, length names) ∷ []) entries (firsts_new names index.entries name key h is) e
    (f ∙ ap (insert_entry eq index.entries key) at ∙ insert_entry-new eq index key (length names) none)
