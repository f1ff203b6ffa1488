use Rattle.std.proofs.Common.{◌≡◌, ℕ, zero, suc, ◌+◌, ◌-◌, ◌<◌, ◌≤◌, ◌==◌, nat_le, nat_lt, Bool, true, false, List, [], ◌∷◌, ◌++◌, length, take, replicate, slice_index_or, refl, sym, ap, ◌∙◌, arith, length-append}
use Rattle.std.specs.Prelude.{if◌then◌else◌, is_some, Option, Some, Result, Ok, Err, IfOk, All, codes}
use Rattle.std.specs.Str.{bytes_eq}
use Rattle.std.proofs.lemmas.Bool.Decides.{nat_tests, not_from_Decides}
use Rattle.std.proofs.lemmas.Slice.Eq.{bytes_eq-Decides}
use Rattle.std.proofs.lemmas.List.{get_or_append_left, take-append-le, length-replicate}
use Rattle.std.proofs.Math.Seq.{get_or-append_seam}
use Rattle.std.proofs.lemmas.List.Elements.{All-append, All-cons, All-nil, All-replicate}
use Rattle.cpt_pddl.specs.declared.fault.Fault.{Fault}
use Rattle.cpt_pddl.specs.declared.fault.Fault.TheVariants as faults
use Rattle.cpt_pddl.specs.declared.typed.Sort.TheVariants.{Objects}
use Rattle.cpt_pddl.specs.declared.typed.Typed.{Typed}
use Rattle.cpt_task.specs.declared.memory.Limit.TheVariants as limits
use Rattle.cpt_pddl.specs.Faults.{or_fault}
use Rattle.cpt_pddl.specs.Items.{Items, end, word, group}
use Rattle.cpt_pddl.specs.Names.{place_from, place_in}
use Rattle.cpt_pddl.specs.Typed.{Run, dashed, declared, finished, named, padded, taken, type_word, typed_as, typed_list, typed_rest}
use Rattle.cpt_pddl.specs.Words.{is_name, is_word}
use Rattle.cpt_pddl.proofs.WordLemmas.{name_word}
use Rattle.cpt_facts.specs.Fitting.{AreDifferent, AreWords}
use Rattle.cpt_problem.proofs.Steps.{if_ok, ok_then, or_ok}
use Rattle.cpt_problem.proofs.ObjectLemmas.{place_in_below}

found_or : {A : Type 0} (b : Bool) (x : A) (o : Option A) → is_some (if b then Some x else o) ≡ false → (b ≡ false) × (is_some o ≡ false)
found_or true x o h = absurd (cc)
found_or false x o h = (refl, h)

-- a text that is not found is none of the names
not_placed : (names : List (List ℕ)) (k : ℕ) (text : List ℕ) → is_some (place_from names k text) ≡ false → (i : ℕ) → i < length names → slice_index_or names i [] ≡ text → ⊥
not_placed [] k text free i h e = absurd (omega arith)
not_placed (name ∷ names) k text free zero h e =
    not_from_Decides (bytes_eq name text) (bytes_eq-Decides name text) (found_or (bytes_eq name text) k (place_from names (k + 1) text) free).0 e
not_placed (name ∷ names) k text free (suc i) h e =
    not_placed names (k + 1) text (found_or (bytes_eq name text) k (place_from names (k + 1) text) free).1 i (omega arith) e

not_found : (names : List (List ℕ)) (text : List ℕ) → is_some (place_in names text) ≡ false → (i : ℕ) → i < length names → slice_index_or names i [] ≡ text → ⊥
unfolding place_in
not_found names text free i h e = not_placed names 0 text free i h e

different_by : (names : List (List ℕ)) (text : List ℕ) → AreDifferent names → is_some (place_in names text) ≡ false → (i j : ℕ) → i < j → j < length names + 1 → (b : Bool) → nat_lt j (length names) ≡ b
    → slice_index_or (names ++ text ∷ []) i [] ≡ slice_index_or (names ++ text ∷ []) j [] → ⊥
different_by names text one free i j lt within true e f =
    let h : j < length names = grind (arith, nat_tests) in
    let ei = get_or_append_left names (text ∷ []) [] i (omega arith) in
    let ej = get_or_append_left names (text ∷ []) [] j h in
    one i j lt h (sym ei ∙ f ∙ ej)
different_by names text one free i j lt within false e f =
    let h : length names ≤ j = grind (arith, nat_tests) in
    let is : j ≡ length names = omega arith in
    let ei = get_or_append_left names (text ∷ []) [] i (omega arith) in
    let ej = ap (λ (n : ℕ). slice_index_or (names ++ text ∷ []) n []) is ∙ get_or-append_seam names text [] [] in
    not_found names text free i (omega arith) (sym ei ∙ f ∙ ej)

different_more : (names : List (List ℕ)) (text : List ℕ) → AreDifferent names → is_some (place_in names text) ≡ false → AreDifferent (names ++ text ∷ [])
different_more names text one free i j lt within f = different_by names text one free i j lt (omega (arith, length-append names (text ∷ []))) (nat_lt j (length names)) refl f

-- names after the known ones, and the types of so many of them, which are in range
pub record IsGrown (types : List (List ℕ)) (known names : List (List ℕ)) (ks : List ℕ) : Type 0 where
  pub front : take (length known) names ≡ known
  pub long : length known ≤ length names
  pub different : AreDifferent names
  pub words : AreWords names
  pub few : length names ≤ 4096
  pub kinds : All (λ k. k < length types) ks
  pub shorter : length ks ≤ length names

grown_name : (types known names : List (List ℕ)) (kinds : List ℕ) (at : ℕ) (bytes : List ℕ) → IsGrown types known names kinds
    → IfOk (declared Objects names at bytes) (λ more. IsGrown types known more kinds)
unfolding declared
grown_name types known names kinds at bytes h =
    let P = λ (more : List (List ℕ)). IsGrown types known more kinds in
    let IsWord : List ℕ → Type 0 = λ name. is_word name ≡ true in
    let last = if nat_le 4096 (length names) then Err (faults.Limit limits.Objects at) else Ok (names ++ bytes ∷ []) in
    if_ok (is_name bytes) (if is_some (place_in names bytes) then Err (faults.Twice at) else last) (Err (faults.Shape at)) P
    (λ is. if_ok (is_some (place_in names bytes)) (Err (faults.Twice at)) last P (λ _. tt)
    (λ free. if_ok (nat_le 4096 (length names)) (Err (faults.Limit limits.Objects at)) (Ok (names ++ bytes ∷ [])) P (λ _. tt)
    (λ e. let room : length names < 4096 = grind (arith, nat_tests) in
    let long : length known ≤ length names = h.long in
    let short : length kinds ≤ length names = h.shorter in
    record {
      front = take-append-le (length known) names (bytes ∷ []) long ∙ h.front;
      long = omega (arith, length-append names (bytes ∷ []));
      different = different_more names bytes h.different free;
      words = All-append IsWord names (bytes ∷ []) h.words (All-cons IsWord bytes [] (name_word bytes is) (All-nil IsWord));
      few = omega (arith, length-append names (bytes ∷ []));
      kinds = h.kinds;
      shorter = omega (arith, length-append names (bytes ∷ []));
    })))
    (λ _. tt)

grown_padded : (types known names : List (List ℕ)) (kinds : List ℕ) (kind : ℕ) → kind < length types → IsGrown types known names kinds
    → IsGrown types known names (padded (length names) kind kinds) × (length (padded (length names) kind kinds) ≡ length names)
grown_padded types known names kinds kind k h =
    let P = λ (n : ℕ). n < length types in
    let short : length kinds ≤ length names = h.shorter in
    let whole : length (padded (length names) kind kinds) ≡ length names =
    omega (arith, length-append kinds (replicate (length names - length kinds) kind), length-replicate (length names - length kinds) kind) in (
      record {
        front = h.front;
        long = h.long;
        different = h.different;
        words = h.words;
        few = h.few;
        kinds = All-append P kinds (replicate (length names - length kinds) kind) h.kinds (All-replicate P (length names - length kinds) kind k);
        shorter = omega arith;
      },
      whole,
    )

known_type : (types : List (List ℕ)) (at : ℕ) (bytes : List ℕ) → IfOk (type_word types at bytes) (λ kind. kind < length types)
known_type types at bytes =
    let P = λ (kind : ℕ). kind < length types in
    if_ok (is_name bytes) (or_fault (faults.BadName at) (place_in types bytes)) (Err (faults.Shape at)) P
    (λ _. or_ok (faults.BadName at) (place_in types bytes) P (place_in_below types bytes)) (λ _. tt)

grown_typed : (types known : List (List ℕ)) (run : Run) (at : ℕ) (bytes : List ℕ) → IsGrown types known run.names run.kinds
    → IfOk (typed_as types run at bytes) (λ next. IsGrown types known next.names next.kinds)
unfolding typed_as
grown_typed types known run at bytes h =
    let of = λ (kind : ℕ). let next : Run = record { names = run.names; kinds = padded (length run.names) kind run.kinds; dash = false } in let r : Result Run Fault = Ok next in r in
    ok_then (type_word types at bytes) of (λ kind. kind < length types) (λ (next : Run). IsGrown types known next.names next.kinds) (known_type types at bytes)
    (λ kind k. (grown_padded types known run.names run.kinds kind k h).0)

grown_dashed : (types known : List (List ℕ)) (run : Run) (at : ℕ) → IsGrown types known run.names run.kinds
    → IfOk (dashed run at) (λ next. IsGrown types known next.names next.kinds)
unfolding dashed
grown_dashed types known run at h =
    if_ok (length run.names == length run.kinds) (Err (faults.Shape at)) (Ok (record run { dash = true })) (λ (next : Run). IsGrown types known next.names next.kinds) (λ _. tt) (λ _. h)

grown_named : (types known : List (List ℕ)) (run : Run) (at : ℕ) (bytes : List ℕ) → IsGrown types known run.names run.kinds
    → IfOk (named Objects run at bytes) (λ next. IsGrown types known next.names next.kinds)
unfolding named
grown_named types known run at bytes h =
    let of = λ (names : List (List ℕ)). let next : Run = record run { names = names } in let r : Result Run Fault = Ok next in r in
    ok_then (declared Objects run.names at bytes) of (λ names. IsGrown types known names run.kinds) (λ (next : Run). IsGrown types known next.names next.kinds)
    (grown_name types known run.names run.kinds at bytes h) (λ names k. k)

grown_taken : (types known : List (List ℕ)) (run : Run) (at : ℕ) (bytes : List ℕ) → IsGrown types known run.names run.kinds
    → IfOk (taken Objects types run at bytes) (λ next. IsGrown types known next.names next.kinds)
unfolding taken
grown_taken types known run at bytes h =
    let P = λ (next : Run). IsGrown types known next.names next.kinds in
    let word_or_dash = if bytes_eq bytes (codes "-") then dashed run at else named Objects run at bytes in
    if_ok run.dash (typed_as types run at bytes) word_or_dash P (λ _. grown_typed types known run at bytes h)
    (λ _. if_ok (bytes_eq bytes (codes "-")) (dashed run at) (named Objects run at bytes) P (λ _. grown_dashed types known run at h) (λ _. grown_named types known run at bytes h))

-- all of a typed list: a type for each name
pub record IsTyped (types known : List (List ℕ)) (typed : Typed) : Type 0 where
  pub grown : IsGrown types known typed.names typed.kinds
  pub even : length typed.kinds ≡ length typed.names

grown_finished : (types known : List (List ℕ)) (run : Run) (close : ℕ) → 0 < length types → IsGrown types known run.names run.kinds
    → IfOk (finished run close) (IsTyped types known)
unfolding finished
grown_finished types known run close some h =
    let both = grown_padded types known run.names run.kinds 0 some h in
    if_ok run.dash (Err (faults.Shape close)) (Ok (record { names = run.names; kinds = padded (length run.names) 0 run.kinds })) (IsTyped types known) (λ _. tt)
    (λ _. record { grown = both.0; even = both.1 })

grown_rest : (types known : List (List ℕ)) (items : Items) (run : Run) → 0 < length types → IsGrown types known run.names run.kinds
    → IfOk (typed_rest Objects types run items) (IsTyped types known)
grown_rest types known (end close) run some h = grown_finished types known run close some h
grown_rest types known (word at bytes rest) run some h =
    ok_then (taken Objects types run at bytes) (λ next. typed_rest Objects types next rest) (λ next. IsGrown types known next.names next.kinds) (IsTyped types known)
    (grown_taken types known run at bytes h) (λ next k. grown_rest types known rest next some k)
grown_rest types known (group at inside rest) run some h = tt

pub grown_list : (types known : List (List ℕ)) (typed : Typed) (items : Items) → 0 < length types → IsGrown types known typed.names typed.kinds
    → IfOk (typed_list Objects types typed items) (IsTyped types known)
unfolding typed_list
grown_list types known typed items some h = grown_rest types known items (record { names = typed.names; kinds = typed.kinds; dash = false }) some h
