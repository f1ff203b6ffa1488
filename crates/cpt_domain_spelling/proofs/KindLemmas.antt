use Rattle.std.proofs.Common.{◌≡◌, ◌≢◌, ℕ, zero, suc, ◌+◌, ◌<◌, ◌≤◌, max, ◌++◌, ◌∷◌, [], Bool, true, false, List, length, drop, take, set, get_or, All, inl, inr, refl, ap, ◌∙◌, sym, subst, arith}
use Rattle.std.specs.Prelude.{◌==◌, not, if◌then◌else◌, slice_index, Result, Ok, None, Some, codes}
use Rattle.std.proofs.lemmas.Bool.{and_parts, and_right, cases_eq, cases_lt, eq-eqb, eqb-true, ne_eqb}
use Rattle.std.proofs.lemmas.List.{append-nil, append_assoc, drop_at, drop_more, ext_get_or, get_or-set_other, get_or-set_same, get_or-take, get_or_append_left, get_or_at, length-append, length-set, length-take, take-append-drop, take_all, take_more}
use Rattle.std.proofs.lemmas.List.Elements.{All-append, All-cons, All-head, All-nil, All-tail}
use Rattle.cpt_sexp.specs.Printing.{Nest}
use Rattle.cpt_pddl.specs.declared.fault.Fault.{Fault}
use Rattle.cpt_pddl.specs.Items.{Items}
use Rattle.cpt_pddl.specs.Names.{place_in}
use Rattle.cpt_pddl.specs.Words.{is_name}
use Rattle.cpt_declared.specs.declared.kinds.Kinds.{Kinds}
use Rattle.cpt_declared.specs.Kinds.{KindRun, adopted, below_parent, dashed, entered_as, finished, has, is_rooted, kinds_in, kinds_rest, parent_as, taken}
use Rattle.cpt_domain.specs.SoundKinds.{AreBelow, AreKinds}
use Rattle.cpt_domain.specs.SoundNames.{AreDifferent}
use Rattle.cpt_domain_spelling.specs.Names.{named}
use Rattle.cpt_domain_spelling.specs.Saying.{says}
use Rattle.cpt_domain_spelling.specs.Siblings.{AreByFirstPlace, AreSiblings, IsArranged, NoneTwice, Siblings, entries, mentions, names_then, siblings_nest}
use Rattle.cpt_domain_spelling.specs.Spellable.{AreDistinct}
use Rattle.cpt_domain_spelling.proofs.ItemLemmas.{bound, end_there, unless, when, word_there}
use Rattle.cpt_domain_spelling.proofs.NameLemmas.{different_front, name_other, other_bytes, place_new, place_there}

-- a list of types that is being read, and one that was read
abbrev reading : List (List ℕ) → List ℕ → List ℕ → ℕ → Bool → KindRun
reading names parents entered parented dash = record { names = names; parents = parents; entered = entered; parented = parented; dash = dash }

abbrev kinds : List (List ℕ) → List ℕ → Kinds
kinds names parents = record { names = names; parents = parents }

-- a type among types

pub has_append : (a b : List ℕ) (k : ℕ) → has (a ++ b) k ≡ (if has a k then true else has b k)
has_append [] b k = refl
has_append (x ∷ a) b k = by_test (x == k) (has_append a b k) where
  by_test : (t : Bool) → has (a ++ b) k ≡ (if has a k then true else has b k) → (if t then true else has (a ++ b) k) ≡ (if (if t then true else has a k) then true else has b k)
  by_test true e = refl
  by_test false e = e

pub has_front : (a b : List ℕ) (k : ℕ) → has (a ++ b) k ≡ false → has a k ≡ false
has_front a b k h = by_test (has a k) (sym (has_append a b k) ∙ h) where
  by_test : (t : Bool) → (if t then true else has b k) ≡ false → t ≡ false
  by_test true e = cc
  by_test false e = refl

pub has_none : (ks : List ℕ) (k : ℕ) → ((i : ℕ) → i < length ks → slice_index ks i ≢ k) → has ks k ≡ false
has_none [] k h = refl
has_none (x ∷ ks) k h = unless _ _ (ne_eqb x k (h 0 (omega arith))) ∙ has_none ks k (λ i lt. h (suc i) (omega arith))

pub has_all : (P : ℕ → Type 0) (ks : List ℕ) (k : ℕ) → All P ks → has ks k ≡ true → P k
has_all P [] k a h = absurd (cc)
has_all P (x ∷ ks) k a h =
    elim (cases_eq x k) [
      | inl e ↦ subst P e (All-head P x ks a)
      | inr ne ↦ has_all P ks k (All-tail P x ks a) (sym (unless _ _ (ne_eqb x k ne)) ∙ h)
    ]

has_new : (whole front rest : List ℕ) (k : ℕ) → NoneTwice whole → whole ≡ front ++ k ∷ rest → has front k ≡ false
has_new whole front rest k once e =
    let apart = subst NoneTwice e once in
    let n = length-append front (k ∷ rest) in
    has_none front k (λ i lt same. apart i (length front) lt (omega (arith, n)) (get_or_append_left front (k ∷ rest) 0 i lt ∙ same ∙ sym (get_or_at front k rest 0 (length front) refl)))

-- a parent that types get

adopted_length : (p : ℕ) (ks qs : List ℕ) → length (adopted p ks qs) ≡ length qs
adopted_length p [] qs = refl
adopted_length p (k ∷ ks) qs = adopted_length p ks (set qs k p) ∙ length-set qs k p

one_value : (t : Bool) (v : ℕ) → (if t then v else v) ≡ v
one_value true v = refl
one_value false v = refl

adopted_at : (p : ℕ) (ks qs : List ℕ) (j : ℕ) → j < length qs → get_or (adopted p ks qs) j 0 ≡ (if has ks j then p else get_or qs j 0)
adopted_at p [] qs j lt = refl
adopted_at p (k ∷ ks) qs j lt =
    let n = length-set qs k p in
    adopted_at p ks (set qs k p) j (omega (arith, n, lt))
    ∙ elim (cases_eq k j) [
      | inl e ↦
          ap (λ v. if has ks j then p else v) (ap (λ i. get_or (set qs k p) i 0) (sym e) ∙ get_or-set_same qs k p 0 (omega (arith, e, lt)))
          ∙ one_value (has ks j) p ∙ sym (when _ _ (when _ _ (eq-eqb k j e)))
      | inr ne ↦
          ap (λ v. if has ks j then p else v) (get_or-set_other qs k j p 0 (λ s. ne (sym s)))
          ∙ ap (λ t. if t then p else get_or qs j 0) (sym (unless _ _ (ne_eqb k j ne)))
    ]

pub below_length : (p : ℕ) (ks qs : List ℕ) → length (below_parent p ks qs) ≡ length qs
below_length zero ks qs = refl
below_length (suc p) ks qs = ap length (unless _ _ (ne_eqb (suc p) 0 (omega arith))) ∙ adopted_length (suc p) ks qs

kept_value : (t : Bool) (v : ℕ) → (t ≡ true → v ≡ 0) → v ≡ (if t then 0 else v)
kept_value true v h = h refl
kept_value false v h = refl

pub below_at : (p : ℕ) (ks qs : List ℕ) (j : ℕ) → j < length qs → (p ≡ 0 → has ks j ≡ true → get_or qs j 0 ≡ 0) → get_or (below_parent p ks qs) j 0 ≡ (if has ks j then p else get_or qs j 0)
below_at zero ks qs j lt h = kept_value (has ks j) (get_or qs j 0) (h refl)
below_at (suc p) ks qs j lt h = ap (λ ps. get_or ps j 0) (unless _ _ (ne_eqb (suc p) 0 (omega arith))) ∙ adopted_at (suc p) ks qs j lt

-- So many types are known: those of them that are among these have their parents, and the others have none yet.
record Read (all : List (List ℕ)) (parents settled : List ℕ) (known : ℕ) (names : List (List ℕ)) (ps : List ℕ) : Type 0 where
  some : 0 < known
  few : known ≤ length all
  same : names ≡ take known all
  long : length ps ≡ known
  at : (j : ℕ) → j < known → get_or ps j 0 ≡ (if has settled j then slice_index parents j else 0)

-- what an entry leaves
record Enters (all : List (List ℕ)) (parents settled entered : List ℕ) (known k : ℕ) (names : List (List ℕ)) (ps : List ℕ) (at : ℕ) : Type 0 where
  next_names : List (List ℕ)
  next_parents : List ℕ
  read : Read all parents settled (max known (k + 1)) next_names next_parents
  step : taken (reading names ps entered (length settled) false) at (named all k) ≡ Ok (reading next_names next_parents (entered ++ k ∷ []) (length settled) false)

-- what the parent behind a dash leaves
record Settles (all : List (List ℕ)) (parents settled ks : List ℕ) (known p : ℕ) (names : List (List ℕ)) (ps : List ℕ) (at : ℕ) : Type 0 where
  next_names : List (List ℕ)
  next_parents : List ℕ
  read : Read all parents (settled ++ ks) (max known (p + 1)) next_names next_parents
  step : taken (reading names ps (settled ++ ks) (length settled) true) at (named all p) ≡ Ok (reading next_names next_parents (settled ++ ks) (length (settled ++ ks)) false)

-- the parent of siblings is a type
pub parent_there : (s : Siblings) (parents : List ℕ) (count : ℕ) → AreSiblings parents s → AreBelow count parents → s.parent < count
parent_there s parents count own fit =
    let first = own.some in
    let kind = slice_index s.kinds 0 in
    let real = own.real 0 0 first in
    subst (λ p. p < count) (own.same 0 0 first) (fit kind 0 real.1)

module _ (all : List (List ℕ)) (parents : List ℕ) (t : AreDistinct all) where
  length_names : (settled : List ℕ) (known : ℕ) (names : List (List ℕ)) (ps : List ℕ) → Read all parents settled known names ps → length names ≡ known
  length_names settled known names ps r = let few = r.few in ap length r.same ∙ length-take known all ∙ omega (arith, few)

  -- one more type, which has no parent yet
  grown : (settled : List ℕ) (known : ℕ) (names : List (List ℕ)) (ps : List ℕ) → Read all parents settled known names ps → known < length all → has settled known ≡ false
      → Read all parents settled (known + 1) (names ++ named all known ∷ []) (ps ++ 0 ∷ [])
  grown settled known names ps r lt none =
      let long = r.long in
      let n = length-append ps (0 ∷ []) in
      let value : (j : ℕ) → j < known + 1 → get_or (ps ++ 0 ∷ []) j 0 ≡ (if has settled j then slice_index parents j else 0) =
      λ j within. elim (cases_lt j known) [
        | inl before ↦ get_or_append_left ps (0 ∷ []) 0 j (omega (arith, long, before)) ∙ r.at j before
        | inr after ↦
            let last : j ≡ known = omega (arith, within, after) in
            get_or_at ps 0 [] 0 j (long ∙ sym last) ∙ sym (unless _ _ (ap (has settled) last ∙ none))
      ] in
      record { some = omega arith; few = omega arith; same = ap (λ ns. ns ++ named all known ∷ []) r.same ∙ sym (take_more all known [] lt); long = omega (arith, n, long); at = value }

  found : (settled : List ℕ) (known : ℕ) (names : List (List ℕ)) (ps : List ℕ) (k : ℕ) → Read all parents settled known names ps → k < known → place_in names (named all k) ≡ Some k
  found settled known names ps k r lt =
      let front = different_front (take known all) (drop known all) (subst AreDifferent (sym (take-append-drop known all)) t.different) in
      let n = length_names settled known names ps r in
      let m = ap length r.same in
      ap (λ ns. place_in ns (named all k)) r.same ∙ ap (place_in (take known all)) (sym (get_or-take known all k [] lt)) ∙ place_there (take known all) k front (omega (arith, n, m, lt))

  unknown : (settled : List ℕ) (known : ℕ) (names : List (List ℕ)) (ps : List ℕ) → Read all parents settled known names ps → known < length all → place_in names (named all known) ≡ None
  unknown settled known names ps r lt =
      let split : all ≡ take known all ++ named all known ∷ drop (known + 1) all = sym (take-append-drop known all) ∙ ap (λ ns. take known all ++ ns) (drop_more all known [] lt) in
      ap (λ ns. place_in ns (named all known)) r.same ∙ place_new (take known all) (named all known) (drop (known + 1) all) (subst AreDifferent split t.different)

  entry : (settled entered : List ℕ) (known k : ℕ) (names : List (List ℕ)) (ps : List ℕ) (at : ℕ) → Read all parents settled known names ps → k ≤ known → 0 < k → k < length all
      → has entered k ≡ false → has settled k ≡ false → Enters all parents settled entered known k names ps at
  unfolding taken
  entry settled entered known k names ps at r le some lt none new =
      let own : is_name (named all k) ≡ true = t.names k [] lt in
      elim (cases_lt k known) [
        | inl before ↦
            let same : known ≡ max known (k + 1) = omega (arith, before) in
            record {
              next_names = names;
              next_parents = ps;
              read = subst (λ n. Read all parents settled n names ps) same r;
              step = unless _ _ (other_bytes (named all k) (codes "-") (name_other (named all k) 45 [] own (omega arith))) ∙ when _ _ own
                  ∙ ap (entered_as (reading names ps entered (length settled) false) at (named all k)) (found settled known names ps k r before)
                  ∙ unless _ _ (and_right (not (k == 0)) (has entered k) none);
            }
        | inr after ↦
            let here : k ≡ known = omega (arith, le, after) in
            let more : known + 1 ≡ max known (k + 1) = omega (arith, here) in
            let room : known < length all = omega (arith, here, lt) in
            let long = length_names settled known names ps r in
            record {
              next_names = names ++ named all k ∷ [];
              next_parents = ps ++ 0 ∷ [];
              read = subst (λ n. Read all parents settled n (names ++ named all k ∷ []) (ps ++ 0 ∷ [])) more
                  (subst (λ j. Read all parents settled (known + 1) (names ++ named all j ∷ []) (ps ++ 0 ∷ [])) (sym here) (grown settled known names ps r room (ap (has settled) (sym here) ∙ new)));
              step = unless _ _ (other_bytes (named all k) (codes "-") (name_other (named all k) 45 [] own (omega arith))) ∙ when _ _ own
                  ∙ ap (entered_as (reading names ps entered (length settled) false) at (named all k)) (ap (λ j. place_in names (named all j)) here ∙ unknown settled known names ps r room)
                  ∙ ap (λ j. Ok (reading (names ++ named all k ∷ []) (ps ++ 0 ∷ []) (entered ++ j ∷ []) (length settled) false)) (long ∙ sym here);
            }
      ]

  settled_value : (a b : Bool) (p q v : ℕ) → (a ≡ true → q ≡ p) → v ≡ (if b then q else 0) → (if a then p else v) ≡ (if (if b then true else a) then q else 0)
  settled_value true true p q v h e = sym (h refl)
  settled_value true false p q v h e = sym (h refl)
  settled_value false true p q v h e = e
  settled_value false false p q v h e = e

  no_parent : (b : Bool) (q v : ℕ) → q ≡ 0 → v ≡ (if b then q else 0) → v ≡ 0
  no_parent true q v z e = e ∙ z
  no_parent false q v z e = e

  -- types that get their parent
  settle : (settled ks : List ℕ) (known p : ℕ) (names : List (List ℕ)) (ps : List ℕ) → Read all parents settled known names ps → All (λ k. slice_index parents k ≡ p) ks
      → Read all parents (settled ++ ks) known names (below_parent p ks ps)
  settle settled ks known p names ps r same =
      let long = r.long in
      let own : (j : ℕ) → has ks j ≡ true → slice_index parents j ≡ p = λ j h. has_all (λ k. slice_index parents k ≡ p) ks j same h in
      record {
        some = r.some;
        few = r.few;
        same = r.same;
        long = below_length p ks ps ∙ long;
        at = λ j lt.
            below_at p ks ps j (omega (arith, long, lt)) (λ z h. no_parent (has settled j) (slice_index parents j) (get_or ps j 0) (own j h ∙ z) (r.at j lt))
            ∙ settled_value (has ks j) (has settled j) p (slice_index parents j) (get_or ps j 0) (own j) (r.at j lt)
            ∙ ap (λ b. if b then slice_index parents j else 0) (sym (has_append settled ks j));
      }

  parent : (settled ks : List ℕ) (known p : ℕ) (names : List (List ℕ)) (ps : List ℕ) (at : ℕ) → Read all parents settled known names ps → p ≤ known → p < length all
      → All (λ k. slice_index parents k ≡ p) ks → has settled known ≡ false → Settles all parents settled ks known p names ps at
  unfolding taken
  parent settled ks known p names ps at r le lt same new =
      let own : is_name (named all p) ≡ true = t.names p [] lt in
      let last = drop_at settled ks (length settled) refl in
      let run = reading names ps (settled ++ ks) (length settled) true in
      elim (cases_lt p known) [
        | inl before ↦
            let more : known ≡ max known (p + 1) = omega (arith, before) in
            record {
              next_names = names;
              next_parents = below_parent p ks ps;
              read = subst (λ n. Read all parents (settled ++ ks) n names (below_parent p ks ps)) more (settle settled ks known p names ps r same);
              step = when _ _ own ∙ ap (λ o. Ok (parent_as run (named all p) o)) (found settled known names ps p r before)
                  ∙ ap (λ xs. Ok (reading names (below_parent p xs ps) (settled ++ ks) (length (settled ++ ks)) false)) last;
            }
        | inr after ↦
            let here : p ≡ known = omega (arith, le, after) in
            let more : known + 1 ≡ max known (p + 1) = omega (arith, here) in
            let room : known < length all = omega (arith, here, lt) in
            let long = length_names settled known names ps r in
            record {
              next_names = names ++ named all p ∷ [];
              next_parents = below_parent p ks (ps ++ 0 ∷ []);
              read = subst (λ n. Read all parents (settled ++ ks) n (names ++ named all p ∷ []) (below_parent p ks (ps ++ 0 ∷ []))) more
                  (settle settled ks (known + 1) p (names ++ named all p ∷ []) (ps ++ 0 ∷ [])
                  (subst (λ j. Read all parents settled (known + 1) (names ++ named all j ∷ []) (ps ++ 0 ∷ [])) (sym here) (grown settled known names ps r room new)) same);
              step = when _ _ own ∙ ap (λ o. Ok (parent_as run (named all p) o)) (ap (λ j. place_in names (named all j)) here ∙ unknown settled known names ps r room)
                  ∙ ap (λ xs. Ok (reading (names ++ named all p ∷ []) (below_parent (length names) xs (ps ++ 0 ∷ [])) (settled ++ ks) (length (settled ++ ks)) false)) last
                  ∙ ap (λ j. Ok (reading (names ++ named all p ∷ []) (below_parent j ks (ps ++ 0 ∷ [])) (settled ++ ks) (length (settled ++ ks)) false)) (long ∙ sym here);
            }
      ]

  -- the entries of a group of siblings, and then the rest
  entries_back : (section : ℕ) (settled entered final ks others mentioned : List ℕ) (known : ℕ) (names : List (List ℕ)) (ps : List ℕ) (items : Items) (rest : Nest) (r : Result Kinds Fault)
      → length parents ≡ length all → NoneTwice (entered ++ (ks ++ others)) → final ≡ entered ++ ks → ((k : ℕ) → has entered k ≡ false → has settled k ≡ false)
      → All (λ k. (0 < k) × (k < length parents)) ks → AreByFirstPlace known (ks ++ mentioned) → AreBelow known entered → Read all parents settled known names ps
      → says items ≡ names_then all ks rest
      → ((now : ℕ) (next_names : List (List ℕ)) (next_parents : List ℕ) (more : Items) → AreByFirstPlace now mentioned → AreBelow now final → Read all parents settled now next_names next_parents
      → says more ≡ rest → kinds_rest section (reading next_names next_parents final (length settled) false) more ≡ r)
      → kinds_rest section (reading names ps entered (length settled) false) items ≡ r
  entries_back section settled entered final [] others mentioned known names ps items rest r lengths once e front real first below read said go =
      let same : entered ≡ final = sym (append-nil entered) ∙ sym e in
      ap (λ xs. kinds_rest section (reading names ps xs (length settled) false) items) same ∙ go known names ps items first (subst (AreBelow known) same below) read said
  entries_back section settled entered final (k ∷ ks) others mentioned known names ps items rest r lengths once e front real first below read said go =
      let w = word_there items (named all k) _ said in
      let own = All-head (λ j. (0 < j) × (j < length parents)) k ks real in
      let new = has_new (entered ++ k ∷ (ks ++ others)) entered (ks ++ others) k once refl in
      let a = entry settled entered known k names ps w.at read first.0 own.0 (omega (arith, own.1, lengths)) new (front k new) in
      let now = max known (k + 1) in
      let shift : entered ++ (k ∷ (ks ++ others)) ≡ (entered ++ k ∷ []) ++ (ks ++ others) = sym (append_assoc entered (k ∷ []) (ks ++ others)) in
      let within : AreBelow now (entered ++ k ∷ []) =
      All-append (λ j. j < now) entered (k ∷ []) (λ i x lt. let z = below i x lt in omega (arith, z)) (All-cons (λ j. j < now) k [] (omega arith) (All-nil (λ j. j < now))) in
      ap (kinds_rest section (reading names ps entered (length settled) false)) w.is
      ∙ bound _ a.step
      (entries_back section settled (entered ++ k ∷ []) final ks others mentioned now a.next_names a.next_parents w.more rest r lengths (subst NoneTwice shift once)
      (e ∙ sym (append_assoc entered (k ∷ []) ks)) (λ j h. front j (has_front entered (k ∷ []) j h)) (All-tail (λ j. (0 < j) × (j < length parents)) k ks real) first.1 within a.read w.said go)

  kinds_end : (section : ℕ) (entered : List ℕ) (close : ℕ) → is_rooted parents ≡ true → finished section (reading all parents entered (length entered) false) close ≡ Ok (kinds all parents)
  unfolding finished
  kinds_end section entered close h = when _ _ h

  -- at the end all types are known, with their parents
  all_read : (settled : List ℕ) (known : ℕ) (names : List (List ℕ)) (ps : List ℕ) → length parents ≡ length all → slice_index parents 0 ≡ 0 → has settled 0 ≡ false
      → ((kind : ℕ) → 0 < kind → kind < length parents → has settled kind ≡ true) → AreBelow known settled → Read all parents settled known names ps → (names ≡ all) × (ps ≡ parents)
  all_read settled known names ps lengths root none whole below r =
      let some = r.some in
      let few = r.few in
      let long = r.long in
      let every : length all ≤ known =
      elim (cases_lt known (length all)) [
        | inl less ↦ let bad = has_all (λ k. k < known) settled known below (whole known some (omega (arith, less, lengths))) in absurd (omega (arith, bad))
        | inr enough ↦ enough
      ] in
      let value : (j : ℕ) → j < length ps → get_or ps j 0 ≡ get_or parents j 0 =
      λ j lt. r.at j (omega (arith, lt, long))
      ∙ elim (cases_lt 0 j) [
        | inl more ↦ when _ _ (whole j more (omega (arith, lt, long, few, lengths)))
        | inr least ↦ let z : j ≡ 0 = omega (arith, least) in ap (λ i. if has settled i then slice_index parents i else 0) z ∙ unless _ _ none ∙ sym root ∙ ap (λ i. get_or parents i 0) (sym z)
      ] in
      (r.same ∙ take_all known all every, ext_get_or 0 ps parents (omega (arith, long, few, every, lengths)) value)

  dash_step : (names : List (List ℕ)) (ps entered : List ℕ) (parented at : ℕ) → length entered ≢ parented
      → taken (reading names ps entered parented false) at (codes "-") ≡ Ok (reading names ps entered parented true)
  unfolding taken dashed
  dash_step names ps entered parented at h = unless _ _ (ne_eqb (length entered) parented h)

  -- the rest of the groups of siblings
  siblings_back : (section : ℕ) (settled : List ℕ) (groups : List Siblings) (known : ℕ) (names : List (List ℕ)) (ps : List ℕ) (items : Items) → length parents ≡ length all
      → is_rooted parents ≡ true → slice_index parents 0 ≡ 0 → AreBelow (length all) parents → ((kind : ℕ) → 0 < kind → kind < length parents → has (settled ++ entries groups) kind ≡ true)
      → has (settled ++ entries groups) 0 ≡ false → NoneTwice (settled ++ entries groups) → All (AreSiblings parents) groups → AreByFirstPlace known (mentions groups) → AreBelow known settled
      → Read all parents settled known names ps → says items ≡ siblings_nest all groups → kinds_rest section (reading names ps settled (length settled) false) items ≡ Ok (kinds all parents)
  siblings_back section settled [] known names ps items lengths rooted root fit whole none once h first below r said =
      let last = end_there items said in
      let same = append-nil settled in
      let end = all_read settled known names ps lengths root (ap (λ xs. has xs 0) (sym same) ∙ none) (λ kind some lt. ap (λ xs. has xs kind) (sym same) ∙ whole kind some lt) below r in
      ap (kinds_rest section (reading names ps settled (length settled) false)) last.is
      ∙ ap (λ ns. finished section (reading ns ps settled (length settled) false) last.close) end.0
      ∙ ap (λ qs. finished section (reading all qs settled (length settled) false) last.close) end.1
      ∙ kinds_end section settled last.close rooted
  siblings_back section settled (s ∷ groups) known names ps items lengths rooted root fit whole none once h first below r said =
      let own = All-head (AreSiblings parents) s groups h in
      let some = own.some in
      let shift : settled ++ (s.kinds ++ entries groups) ≡ (settled ++ s.kinds) ++ entries groups = sym (append_assoc settled s.kinds (entries groups)) in
      let n = length-append settled s.kinds in
      let up = parent_there s parents (length all) own fit in
      entries_back section settled settled (settled ++ s.kinds) s.kinds (entries groups) (s.parent ∷ mentions groups) known names ps items _ _ lengths once refl (λ k e. e) own.real first below r said
      (λ now next_names next_parents more following within read e.
      let a = word_there more (codes "-") _ e in
      let b = word_there a.more (named all s.parent) _ a.said in
      let new : has settled now ≡ false = fresh settled s.kinds now within in
      let p = parent settled s.kinds now s.parent next_names next_parents b.at read following.0 up own.same new in
      ap (kinds_rest section (reading next_names next_parents (settled ++ s.kinds) (length settled) false)) a.is
      ∙ bound _ (dash_step next_names next_parents (settled ++ s.kinds) (length settled) a.at (omega (arith, n, some)))
      (ap (kinds_rest section (reading next_names next_parents (settled ++ s.kinds) (length settled) true)) b.is
      ∙ bound _ p.step
      (siblings_back section (settled ++ s.kinds) groups (max now (s.parent + 1)) p.next_names p.next_parents b.more lengths rooted root fit
      (λ kind c lt. ap (λ xs. has xs kind) (sym shift) ∙ whole kind c lt) (ap (λ xs. has xs 0) (sym shift) ∙ none) (subst NoneTwice shift once)
      (All-tail (AreSiblings parents) s groups h) following.1 (λ i x lt. let z = within i x lt in omega (arith, z)) p.read b.said)))
    where
      fresh : (settled ks : List ℕ) (now : ℕ) → AreBelow now (settled ++ ks) → has settled now ≡ false
      fresh settled ks now within =
          has_front settled ks now (has_none (settled ++ ks) now (λ i lt same. let z = within i 0 lt in omega (arith, z, same)))

pub root_zero : (parents : List ℕ) → is_rooted parents ≡ true → slice_index parents 0 ≡ 0
unfolding is_rooted
root_zero parents h = eqb-true (slice_index parents 0) 0 (and_parts _ _ h).0

first_name : (all : List (List ℕ)) (w : List ℕ) → 0 < length all → named all 0 ≡ w → w ∷ [] ≡ take 1 all
first_name [] w lt e = absurd (omega arith)
first_name (v ∷ all) w lt e = ap (λ x. x ∷ []) (sym e)

pub entries_real : (parents : List ℕ) (groups : List Siblings) → All (AreSiblings parents) groups → All (λ k. (0 < k) × (k < length parents)) (entries groups)
entries_real parents [] h = All-nil (λ k. (0 < k) × (k < length parents))
entries_real parents (s ∷ groups) h =
    All-append (λ k. (0 < k) × (k < length parents)) s.kinds (entries groups) (All-head (AreSiblings parents) s groups h).real (entries_real parents groups (All-tail (AreSiblings parents) s groups h))

-- types that are said with their parents are read as they are, with their numbers
pub kinds_back : (section : ℕ) (k : Kinds) (groups : List Siblings) (items : Items) → AreDistinct k.names → named k.names 0 ≡ codes "object" → AreKinds (length k.names) k.parents → IsArranged k.parents groups
    → says items ≡ siblings_nest k.names groups → kinds_in section items ≡ Ok k
unfolding kinds_in
kinds_back section k groups items t object tree h said =
    let some = tree.some in
    let root = root_zero k.parents tree.rooted in
    let real = entries_real k.parents groups h.siblings in
    let none : has (entries groups) 0 ≡ false = has_none (entries groups) 0 (λ i lt same. let z = (real i 0 lt).0 in omega (arith, z, same)) in
    let first : Read k.names k.parents [] 1 (codes "object" ∷ []) (0 ∷ []) =
    record { some = omega arith; few = omega (arith, some); same = first_name k.names (codes "object") some object; long = refl; at = λ j lt. zero_value j lt } in
    siblings_back k.names k.parents t section [] groups 1 (codes "object" ∷ []) (0 ∷ []) items tree.lengths tree.rooted root tree.below h.whole none h.once h.siblings h.first
    (All-nil (λ j. j < 1)) first said
  where
    zero_value : (j : ℕ) → j < 1 → ◌≡◌ {A = ℕ} (get_or (0 ∷ []) j 0) 0
    zero_value zero lt = refl
    zero_value (suc j) lt = absurd (omega arith)
