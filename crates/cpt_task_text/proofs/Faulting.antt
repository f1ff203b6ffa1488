-- Where the reading of atoms, of lists and of actions stops.
use Rattle.std.proofs.Common.{◌≡◌, ℕ, zero, suc, ◌+◌, ◌<◌, ◌≤◌, All, Bool, true, false, not, ◌&&◌, eqb, ltb, inl, inr, List, [], ◌∷◌, ◌++◌, length, map, take, drop, Option, None, Some, Result, Ok, Err, refl, sym, ap, subst, ◌∙◌, arith}
use Rattle.std.specs.Prelude.{codes}
use Rattle.std.specs.List.{flat_map}
use Rattle.std.specs.Str.{bytes_eq}
use Rattle.std.proofs.lemmas.List.{map_push}
use Rattle.std.proofs.lemmas.List.Elements.{All-nil}
use Rattle.cpt_task.specs.declared.task.Action.{Action}
use Rattle.cpt_task.specs.Shape.{HasAtomsBelow, IsDuration}
use Rattle.cpt_line.specs.Digits.{number_in}
use Rattle.cpt_line.specs.Names.{is_name}
use Rattle.cpt_task_text.specs.declared.error.TaskTextError.{TaskTextError}
use Rattle.cpt_task_text.specs.Plain.{names_of, HasShortLists, IsShortList}
use Rattle.cpt_task_text.specs.Reading.{◌>>=◌, Rest, past, checked, found_at, number_at, is_among, name_length, new_at, atom_at, atoms_at, id_at, ids_in, ids_at, short_ids_at, head_in, head_at, action_at, actions_at}
use Rattle.cpt_task_text.specs.Spelling.{atom_line, head_line, list_line, action_lines}
use Rattle.cpt_task_text.proofs.Acting.{AllFit, FitsAction, StartsAction, list_lines, head_starts, starts_again, action_takes, action_again}
use Rattle.cpt_task_text.proofs.Completing.{none_rise, more_names, more_actions}
use Rattle.cpt_task_text.proofs.Heading.{new_ok, atom_takes, atom_again}
use Rattle.cpt_task_text.proofs.Listing.{TakesList, short_takes, short_again}
use Rattle.cpt_task_text.proofs.Naming.{AreNew}
use Rattle.cpt_task_text.proofs.Stopping.{Agree, bind_err, OnlyLine, only_bind, only_ok, only_cond, alike_bind, alike_ok, AtFirst, first_line_fails, legal_by, Stops, stops_now, passed, wider, short_stops}

-- ---- steps that fail at their line alone

pub only_past : (front : List ℕ) (n : ℕ) (bytes : List ℕ) → OnlyLine n (past front n bytes)
only_past front n bytes = only_cond n (bytes_eq (take (length front) bytes) front) (drop (length front) bytes)

pub only_checked : (good : Bool) (n : ℕ) → OnlyLine n (checked good n)
only_checked good n = only_cond n good true

only_found : (n : ℕ) (o : Option (ℕ × List ℕ)) → OnlyLine n (found_at n o)
only_found n None = λ e q. cc
only_found n (Some x) = λ e q. absurd cc

pub only_number : (n : ℕ) (bytes : List ℕ) → OnlyLine n (number_at n bytes)
only_number n bytes = only_found n (number_in bytes)

only_id : (n count least : ℕ) (bytes : List ℕ) → OnlyLine n (id_at n count least bytes)
unfolding id_at
only_id n count least bytes =
    only_bind n (past (32 ∷ []) n bytes) (λ digits. number_at n digits >>= λ number. checked (not (ltb number.0 least) && ltb number.0 count) n >>= λ fit. Ok number) (only_past (32 ∷ []) n bytes)
    (λ digits. only_bind n (number_at n digits) (λ number. checked (not (ltb number.0 least) && ltb number.0 count) n >>= λ fit. Ok number) (only_number n digits)
    (λ number. only_bind n (checked (not (ltb number.0 least) && ltb number.0 count) n) (λ fit. Ok number) (only_checked _ n) (λ fit. only_ok n number)))

only_ids : (most n count least : ℕ) (ids bytes : List ℕ) → OnlyLine n (ids_in most n count least ids bytes)
unfolding ids_in
only_ids zero n count least ids [] = only_ok n ids
only_ids (suc most) n count least ids [] = only_ok n ids
only_ids zero n count least ids (b ∷ bs) = λ e q. cc
only_ids (suc most) n count least ids (b ∷ bs) =
    only_bind n (id_at n count least (b ∷ bs)) (λ id. ids_in most n count (id.0 + 1) (ids ++ id.0 ∷ []) id.1) (only_id n count least (b ∷ bs)) (λ id. only_ids most n count (id.0 + 1) (ids ++ id.0 ∷ []) id.1)

after_ids : List ℕ → Rest → Result (List ℕ × Rest) TaskTextError
after_ids ids rest = Ok (ids, rest)

list_body : ℕ → List ℕ → ℕ → List ℕ × Rest → Result (List ℕ × Rest) TaskTextError
list_body n keyword count line = past keyword n line.0 >>= λ bytes. ids_in (length bytes) n count 0 [] bytes >>= λ ids. after_ids ids line.1

-- a list fails at its line, whatever follows
pub list_fails : (n : ℕ) (keyword : List ℕ) (count : ℕ) (r : Rest) (e : TaskTextError) → ids_at n keyword count r ≡ Err e → AtFirst (ids_at n keyword count) n r e
unfolding ids_at list_body after_ids
list_fails n keyword count r e h =
    first_line_fails n (list_body n keyword count) r e
    (λ x. only_bind n (past keyword n x.0) (λ bytes. ids_in (length bytes) n count 0 [] bytes >>= λ ids. after_ids ids x.1) (only_past keyword n x.0)
    (λ bytes. only_bind n (ids_in (length bytes) n count 0 [] bytes) (λ ids. after_ids ids x.1) (only_ids (length bytes) n count 0 [] bytes) (λ ids. only_ok n (ids, x.1))))
    (λ l y z. alike_bind (past keyword n l) (λ bytes. ids_in (length bytes) n count 0 [] bytes >>= λ ids. after_ids ids y) (λ bytes. ids_in (length bytes) n count 0 [] bytes >>= λ ids. after_ids ids z)
    (λ bytes. alike_bind (ids_in (length bytes) n count 0 [] bytes) (λ ids. after_ids ids y) (λ ids. after_ids ids z) (λ ids. alike_ok (ids, y) (after_ids ids z))))
    h

-- ---- atoms

atom_body : ℕ → List ℕ × Rest → Result (List ℕ × Rest) TaskTextError
atom_body n line = past (codes "atom ") n line.0 >>= λ name. checked (is_name name) n >>= λ legal. after_ids name line.1

atom_fails_here : (n : ℕ) (r : Rest) (e : TaskTextError) → atom_at n r ≡ Err e → AtFirst (atom_at n) n r e
unfolding atom_at atom_body after_ids
atom_fails_here n r e h =
    first_line_fails n (atom_body n) r e
    (λ x. only_bind n (past (codes "atom ") n x.0) (λ name. checked (is_name name) n >>= λ legal. after_ids name x.1) (only_past (codes "atom ") n x.0)
    (λ name. only_bind n (checked (is_name name) n) (λ legal. after_ids name x.1) (only_checked (is_name name) n) (λ legal. only_ok n (name, x.1))))
    (λ l y z. alike_bind (past (codes "atom ") n l) (λ name. checked (is_name name) n >>= λ legal. after_ids name y) (λ name. checked (is_name name) n >>= λ legal. after_ids name z)
    (λ name. alike_bind (checked (is_name name) n) (λ legal. after_ids name y) (λ legal. after_ids name z) (λ legal. alike_ok (name, y) (after_ids name z))))
    h

-- the lines of so many atoms
abbrev pub AtomLines : ℕ → List (List ℕ) → List (List ℕ) → Type 0
AtomLines count seen w = (names : List (List ℕ)) × AreNew seen names × (length names ≡ count) × (w ≡ map atom_line names)

some_atoms : (count : ℕ) (seen : List (List ℕ)) → (w : List (List ℕ)) × AtomLines count seen w
some_atoms count seen = let m = more_names count seen in (map atom_line m.names, (m.names, m.new, m.many, refl))

-- the first line is that of a name, and then the name is known
known_here : (n : ℕ) (seen : List (List ℕ)) (name : List ℕ) (r after : Rest) (e : TaskTextError) (h : List ℕ × Rest → Result (List (List ℕ) × Rest) TaskTextError)
    → r ≡ (atom_line name ∷ after.0, after.1) → is_name name ≡ true → new_at n seen name ≡ Err e
    → (z : Rest) → Agree 1 r.0 z.0 → (atom_at n z >>= λ x. new_at n seen x.0 >>= λ new. h x) ≡ Err e
known_here n seen name r after e h is legal bad ([], tail) a = absurd (subst (λ (q : Rest). Agree 1 q.0 []) is a)
known_here n seen name r after e h is legal bad (l ∷ lines, tail) a =
    let same = subst (λ (q : Rest). Agree 1 q.0 (l ∷ lines)) is a in
    subst (λ (x : List ℕ). (atom_at n (x ∷ lines, tail) >>= λ x. new_at n seen x.0 >>= λ new. h x) ≡ Err e) same.0 (rw (atom_again n name lines tail legal, bad) refl)

pub atoms_stop : (count n bound : ℕ) (seen : List (List ℕ)) (r : Rest) (e : TaskTextError) → atoms_at count n seen r ≡ Err e → Stops (List (List ℕ) × Rest) (atoms_at count n seen) n bound (AtomLines count seen) r e
unfolding atoms_at
atoms_stop zero n bound seen r e q = absurd cc
atoms_stop (suc count) n bound seen r e q =
    let w = some_atoms (suc count) seen in
    let next : List ℕ × Rest → Result (List (List ℕ) × Rest) TaskTextError = λ name. atoms_at count (n + 1) (seen ++ name.0 ∷ []) name.1 in
    elim (bind_err (atom_at n r) (λ name. new_at n seen name.0 >>= λ new. next name) e q) [
      | inl fault ↦
          let at = atom_fails_here n r e fault in
          stops_now (List (List ℕ) × Rest) (atoms_at (suc count) n seen) n bound (AtomLines (suc count) seen) r e w.0 w.1
          (at.0, λ z a. ap (λ (s : Result (List ℕ × Rest) TaskTextError). s >>= λ name. new_at n seen name.0 >>= λ new. next name) (at.1 z a))
      | inr ok ↦
          let t = atom_takes n r ok.0 ok.1 in
          elim (bind_err (new_at n seen ok.0.0) (λ new. next ok.0) e ok.2) [
            | inl known ↦
                stops_now (List (List ℕ) × Rest) (atoms_at (suc count) n seen) n bound (AtomLines (suc count) seen) r e w.0 w.1
                (only_checked (not (is_among seen ok.0.0)) n e known, λ z a. known_here n seen ok.0.0 r ok.0.1 e next t.spelled t.legal known z a)
            | inr new ↦
                let is : is_among seen ok.0.0 ≡ false = new_ok n seen ok.0.0 new.0 new.1 in
                let others = atoms_stop count (n + 1) bound (seen ++ ok.0.0 ∷ []) ok.0.1 e new.2 in
                passed (List (List ℕ) × Rest) (atoms_at (suc count) n seen) (atoms_at count (n + 1) (seen ++ ok.0.0 ∷ [])) n (n + 1) bound (atom_line ok.0.0 ∷ []) (AtomLines (suc count) seen) r ok.0.1 e
                t.spelled (omega arith)
                (λ z. rw (atom_again n ok.0.0 z.0 z.1 t.legal, is) refl)
                (legal_by (List (List ℕ) × Rest) (atoms_at count (n + 1) (seen ++ ok.0.0 ∷ [])) (n + 1) bound (AtomLines count (seen ++ ok.0.0 ∷ [])) (λ w. AtomLines (suc count) seen (atom_line ok.0.0 ∷ w)) ok.0.1 e
                (λ w m. (ok.0.0 ∷ m.0, (t.legal, is, m.1), ap suc m.2, ap (λ (ls : List (List ℕ)). atom_line ok.0.0 ∷ ls) m.3)) others)
          ]
    ]

-- ---- the first line of an action

pub here_too : (X : Type 0) (f : Rest → Result X TaskTextError) (line : List ℕ) (r after : Rest) (e : TaskTextError) → r ≡ (line ∷ after.0, after.1) → ((z : Rest) → f (line ∷ z.0, z.1) ≡ Err e) → (z : Rest) → Agree 1 r.0 z.0 → f z ≡ Err e
here_too X f line r after e is bad ([], tail) a = absurd (subst (λ (q : Rest). Agree 1 q.0 []) is a)
here_too X f line r after e is bad (l ∷ lines, tail) a =
    let same = subst (λ (q : Rest). Agree 1 q.0 (l ∷ lines)) is a in
    subst (λ (x : List ℕ). f (x ∷ lines, tail) ≡ Err e) same.0 (bad (lines, tail))

abbrev dur_end : ℕ → List ℕ → ℕ × List ℕ → Result (List ℕ × ℕ) TaskTextError
dur_end n name dur = checked (eqb (length dur.1) 0 && ltb 0 dur.0 && ltb dur.0 100001) n >>= λ fit. Ok (name, dur.0)

abbrev digits_end : ℕ → List ℕ → List ℕ → Result (List ℕ × ℕ) TaskTextError
digits_end n name digits = number_at n digits >>= dur_end n name

abbrev name_end : ℕ → List ℕ → Result (List ℕ × ℕ) TaskTextError
name_end n bytes = checked (is_name (take (name_length bytes) bytes)) n >>= λ legal. past (32 ∷ []) n (drop (name_length bytes) bytes) >>= digits_end n (take (name_length bytes) bytes)

only_dur : (n : ℕ) (name : List ℕ) (dur : ℕ × List ℕ) → OnlyLine n (dur_end n name dur)
only_dur n name dur =
    let named : List ℕ × ℕ = (name, dur.0) in
    only_bind n (checked (eqb (length dur.1) 0 && ltb 0 dur.0 && ltb dur.0 100001) n) (λ fit. Ok named) (only_checked _ n) (λ fit. only_ok n named)

only_head : (n : ℕ) (line : List ℕ) → OnlyLine n (head_in n line)
unfolding head_in
only_head n line =
    only_bind n (past (codes "action ") n line) (name_end n) (only_past (codes "action ") n line)
    (λ bytes. only_bind n (checked (is_name (take (name_length bytes) bytes)) n) (λ legal. past (32 ∷ []) n (drop (name_length bytes) bytes) >>= digits_end n (take (name_length bytes) bytes)) (only_checked _ n)
    (λ legal. only_bind n (past (32 ∷ []) n (drop (name_length bytes) bytes)) (digits_end n (take (name_length bytes) bytes)) (only_past (32 ∷ []) n (drop (name_length bytes) bytes))
    (λ digits. only_bind n (number_at n digits) (dur_end n (take (name_length bytes) bytes)) (only_number n digits) (λ dur. only_dur n (take (name_length bytes) bytes) dur))))

after_head : List ℕ × ℕ → Rest → Result ((List ℕ × ℕ) × Rest) TaskTextError
after_head head rest = Ok (head, rest)

head_body : ℕ → List ℕ × Rest → Result ((List ℕ × ℕ) × Rest) TaskTextError
head_body n line = head_in n line.0 >>= λ head. after_head head line.1

head_fails_here : (n : ℕ) (r : Rest) (e : TaskTextError) → head_at n r ≡ Err e → AtFirst (head_at n) n r e
unfolding head_at head_body after_head
head_fails_here n r e h =
    first_line_fails n (head_body n) r e
    (λ x. only_bind n (head_in n x.0) (λ head. after_head head x.1) (only_head n x.0) (λ head. only_ok n (head, x.1)))
    (λ l y z. alike_bind (head_in n l) (λ head. after_head head y) (λ head. after_head head z) (λ head. alike_ok (head, y) (after_head head z)))
    h

-- ---- the lists of an action

-- the lines of the lists of an action with this name and duration
abbrev ListLines : ℕ → List ℕ × ℕ → List (List ℕ) → Type 0
ListLines count head w = (a : Action) × (a.name ≡ head.0) × (a.dur ≡ head.1) × HasShortLists a × HasAtomsBelow count a × (w ≡ list_lines a)

none_short : (most : ℕ) → IsShortList most []
none_short most = record { increasing = none_rise; short = omega arith }

list_legal : (count : ℕ) (head : List ℕ × ℕ) (pre add : List ℕ) → IsShortList 64 pre → All (λ id. id < count) pre → IsShortList 128 add → All (λ id. id < count) add
    → ListLines count head (list_line (codes "pre") pre ∷ list_line (codes "add") add ∷ list_line (codes "del") [] ∷ [])
list_legal count head pre add p pb a ab = (
  record { name = head.0; dur = head.1; pre = pre; add = add; dele = [] },
  refl,
  refl,
  record { pre = p; add = a; dele = none_short 128 },
  record { pre = pb; add = ab; dele = All-nil (λ id. id < count) },
  refl,
)

abbrev after_add : ℕ → ℕ → List ℕ × ℕ → List ℕ → List ℕ × Rest → Result (Action × Rest) TaskTextError
after_add n count head pre add = short_ids_at (n + 3) (codes "del") 128 count add.1 >>= λ dele. Ok (record { name = head.0; dur = head.1; pre = pre; add = add.0; dele = dele.0 }, dele.1)

abbrev after_pre : ℕ → ℕ → List ℕ × ℕ → List ℕ × Rest → Result (Action × Rest) TaskTextError
after_pre n count head pre = short_ids_at (n + 2) (codes "add") 128 count pre.1 >>= after_add n count head pre.0

abbrev after_dele : List ℕ × ℕ → List ℕ → List ℕ → List ℕ × Rest → Result (Action × Rest) TaskTextError
after_dele head pre add dele = Ok (record { name = head.0; dur = head.1; pre = pre; add = add; dele = dele.0 }, dele.1)

short_from : (count most : ℕ) (keyword : List ℕ) (rest : Rest) (ids : List ℕ) (after : Rest) → TakesList count keyword rest ids after × (length ids ≤ most) → IsShortList most ids
short_from count most keyword rest ids after t = record { increasing = t.0.increasing; short = t.1 }

lists_stop : (n count : ℕ) (head : List ℕ × ℕ) (r : Rest) (e : TaskTextError) → count ≤ 1000000000 → action_at n count head r ≡ Err e → Stops (Action × Rest) (action_at n count head) (n + 1) count (ListLines count head) r e
unfolding action_at
lists_stop n count head r e few q =
    let nil : All (λ id. id < count) [] = All-nil (λ id. id < count) in
    elim (bind_err (short_ids_at (n + 1) (codes "pre") 64 count r) (after_pre n count head) e q) [
      | inl fault ↦
          short_stops (Action × Rest) (after_pre n count head) (n + 1) 64 count (codes "pre") (ListLines count head) r e (list_line (codes "add") [] ∷ list_line (codes "del") [] ∷ []) few (inl (refl, refl))
          (list_legal count head [] [] (none_short 64) nil (none_short 128) nil) (list_fails (n + 1) (codes "pre") count r) fault
      | inr ok ↦
          let pre = short_takes (n + 1) (codes "pre") 64 count r ok.0 few ok.1 in
          let pre_short = short_from count 64 (codes "pre") r ok.0.0 ok.0.1 pre in
          elim (bind_err (short_ids_at (n + 2) (codes "add") 128 count ok.0.1) (after_add n count head ok.0.0) e ok.2) [
            | inl fault ↦
                passed (Action × Rest) (action_at n count head) (λ z. short_ids_at (n + 2) (codes "add") 128 count z >>= after_add n count head ok.0.0) (n + 1) (n + 2) count (list_line (codes "pre") ok.0.0 ∷ []) (ListLines count head) r ok.0.1 e
                pre.0.spelled (omega arith) (λ z. rw (short_again (n + 1) (codes "pre") 64 count ok.0.0 z.0 z.1 few pre_short pre.0.below) refl)
                (short_stops (Action × Rest) (after_add n count head ok.0.0) (n + 2) 128 count (codes "add") (λ w. ListLines count head (list_line (codes "pre") ok.0.0 ∷ w)) ok.0.1 e (list_line (codes "del") [] ∷ []) few (inr (inl (refl, refl)))
                (list_legal count head ok.0.0 [] pre_short pre.0.below (none_short 128) nil) (list_fails (n + 2) (codes "add") count ok.0.1) fault)
            | inr more ↦
                let add = short_takes (n + 2) (codes "add") 128 count ok.0.1 more.0 few more.1 in
                let add_short = short_from count 128 (codes "add") ok.0.1 more.0.0 more.0.1 add in
                elim (bind_err (short_ids_at (n + 3) (codes "del") 128 count more.0.1) (after_dele head ok.0.0 more.0.0) e more.2) [
                  | inl fault ↦
                      passed (Action × Rest) (action_at n count head) (λ z. short_ids_at (n + 3) (codes "del") 128 count z >>= after_dele head ok.0.0 more.0.0) (n + 1) (n + 3) count (list_line (codes "pre") ok.0.0 ∷ list_line (codes "add") more.0.0 ∷ []) (ListLines count head) r more.0.1 e
                      (pre.0.spelled ∙ ap (λ (s : Rest). (list_line (codes "pre") ok.0.0 ∷ s.0, s.1)) add.0.spelled) (omega arith)
                      (λ z. rw (short_again (n + 1) (codes "pre") 64 count ok.0.0 (list_line (codes "add") more.0.0 ∷ z.0) z.1 few pre_short pre.0.below, short_again (n + 2) (codes "add") 128 count more.0.0 z.0 z.1 few add_short add.0.below) refl)
                      (short_stops (Action × Rest) (after_dele head ok.0.0 more.0.0) (n + 3) 128 count (codes "del") (λ w. ListLines count head (list_line (codes "pre") ok.0.0 ∷ list_line (codes "add") more.0.0 ∷ w)) more.0.1 e [] few (inr (inr (refl, refl)))
                      (list_legal count head ok.0.0 more.0.0 pre_short pre.0.below add_short add.0.below) (list_fails (n + 3) (codes "del") count more.0.1) fault)
                  | inr all ↦ absurd (let z : ⊥ = cc in z)
                ]
          ]
    ]

-- ---- actions

-- the lines of so many actions
abbrev pub ActionLines : ℕ → ℕ → List (List ℕ) → List (List ℕ) → Type 0
ActionLines more count seen w = (actions : List Action) × AllFit count seen actions × (length actions ≡ more) × (w ≡ flat_map action_lines actions)

pub some_actions : (more count : ℕ) (seen : List (List ℕ)) → (w : List (List ℕ)) × ActionLines more count seen w
some_actions more count seen = let m = more_actions more count seen in (flat_map action_lines m.actions, (m.actions, m.fit, m.many, refl))

-- an action with the lists of such lines, and further actions behind it
begun_legal : (more count : ℕ) (seen : List (List ℕ)) (name : List ℕ) (dur : ℕ) (w tail : List (List ℕ)) → is_name name ≡ true → is_among seen name ≡ false → IsDuration dur
    → ListLines count (name, dur) w → ActionLines more count (seen ++ name ∷ []) tail → ActionLines (suc more) count seen (head_line name dur ∷ (w ++ tail))
begun_legal more count seen name dur w tail legal new lasts l t =
    let a = l.0 in
    let fit : FitsAction count seen a = record {
      legal = subst (λ (x : List ℕ). is_name x ≡ true) (sym l.1) legal;
      new = subst (λ (x : List ℕ). is_among seen x ≡ false) (sym l.1) new;
      lists = l.3;
      below = l.4;
      lasts = subst IsDuration (sym l.2) lasts;
    } in (
      a ∷ t.0,
      (fit, subst (λ (x : List ℕ). AllFit count (seen ++ x ∷ []) t.0) (sym l.1) t.1),
      ap suc t.2,
      ap (λ (x : List ℕ). head_line x dur ∷ (w ++ tail)) (sym l.1) ∙ ap (λ (x : ℕ). head_line a.name x ∷ (w ++ tail)) (sym l.2) ∙ ap (λ (x : List (List ℕ)). head_line a.name a.dur ∷ (x ++ tail)) l.5 ∙ ap (λ (x : List (List ℕ)). action_lines a ++ x) t.3,
    )

next_stops : (more n count : ℕ) (seen : List Action) (r : Rest) (e : TaskTextError) → count ≤ 1000000000 → (name : List ℕ) (dur : ℕ) (lists : Rest) (act : Action × Rest)
    → StartsAction r name dur lists → is_among (names_of seen) name ≡ false → action_at n count (name, dur) lists ≡ Ok act
    → Stops (List Action × Rest) (actions_at more (n + 4) count (seen ++ act.0 ∷ [])) (n + 4) count (ActionLines more count (names_of (seen ++ act.0 ∷ []))) act.1 e
    → Stops (List Action × Rest) (actions_at (suc more) n count seen) n count (ActionLines (suc more) count (names_of seen)) r e
unfolding actions_at
next_stops more n count seen r e few name dur lists act head new read others =
    let a = act.0 in
    let first = action_takes n count (name, dur) lists act few read in
    let fit : FitsAction count (names_of seen) a = record {
      legal = subst (λ (x : List ℕ). is_name x ≡ true) (sym first.name) head.legal;
      new = subst (λ (x : List ℕ). is_among (names_of seen) x ≡ false) (sym first.name) new;
      lists = first.lists;
      below = first.below;
      lasts = subst IsDuration (sym first.dur) head.lasts;
    } in
    passed (List Action × Rest) (actions_at (suc more) n count seen) (actions_at more (n + 4) count (seen ++ a ∷ [])) n (n + 4) count (action_lines a) (ActionLines (suc more) count (names_of seen)) r act.1 e
    (head.spelled ∙ ap (λ (s : Rest). (head_line name dur ∷ s.0, s.1)) first.spelled ∙ ap (λ (x : List ℕ). (head_line x dur ∷ list_lines a ++ act.1.0, act.1.1)) (sym first.name) ∙ ap (λ (x : ℕ). (head_line a.name x ∷ list_lines a ++ act.1.0, act.1.1)) (sym first.dur))
    (omega arith)
    (λ z. rw (starts_again n a.name a.dur (list_lines a ++ z.0) z.1 fit.legal fit.lasts, fit.new, action_again n count a z.0 z.1 few fit.lists fit.below) refl)
    (legal_by (List Action × Rest) (actions_at more (n + 4) count (seen ++ a ∷ [])) (n + 4) count (ActionLines more count (names_of (seen ++ a ∷ []))) (λ w. ActionLines (suc more) count (names_of seen) (action_lines a ++ w)) act.1 e
    (λ w m. (a ∷ m.0, (fit, subst (λ (names : List (List ℕ)). AllFit count names m.0) (map_push (λ (b : Action). b.name) seen a) m.1), ap suc m.2, ap (λ (ls : List (List ℕ)). action_lines a ++ ls) m.3)) others)

pub actions_stop : (more n count : ℕ) (seen : List Action) (r : Rest) (e : TaskTextError) → count ≤ 1000000000 → actions_at more n count seen r ≡ Err e → Stops (List Action × Rest) (actions_at more n count seen) n count (ActionLines more count (names_of seen)) r e
unfolding actions_at
actions_stop zero n count seen r e few q = absurd cc
actions_stop (suc more) n count seen r e few q =
    let w = some_actions (suc more) count (names_of seen) in
    let next : Action × Rest → Result (List Action × Rest) TaskTextError = λ action. actions_at more (n + 4) count (seen ++ action.0 ∷ []) action.1 in
    elim (bind_err (head_at n r) (λ head. new_at n (names_of seen) head.0.0 >>= λ new. action_at n count head.0 head.1 >>= next) e q) [
      | inl fault ↦
          let at = head_fails_here n r e fault in
          stops_now (List Action × Rest) (actions_at (suc more) n count seen) n count (ActionLines (suc more) count (names_of seen)) r e w.0 w.1
          (at.0, λ z a. ap (λ (s : Result ((List ℕ × ℕ) × Rest) TaskTextError). s >>= λ head. new_at n (names_of seen) head.0.0 >>= λ new. action_at n count head.0 head.1 >>= next) (at.1 z a))
      | inr ok ↦
          let name = ok.0.0.0 in
          let dur = ok.0.0.1 in
          let t = head_starts n r ok.0 ok.1 in
          elim (bind_err (new_at n (names_of seen) name) (λ new. action_at n count ok.0.0 ok.0.1 >>= next) e ok.2) [
            | inl known ↦
                stops_now (List Action × Rest) (actions_at (suc more) n count seen) n count (ActionLines (suc more) count (names_of seen)) r e w.0 w.1 (
                  only_checked (not (is_among (names_of seen) name)) n e known,
                  here_too (List Action × Rest) (actions_at (suc more) n count seen) (head_line name dur) r ok.0.1 e t.spelled (λ z. rw (starts_again n name dur z.0 z.1 t.legal t.lasts, known) refl),
                )
            | inr new ↦
                let is : is_among (names_of seen) name ≡ false = new_ok n (names_of seen) name new.0 new.1 in
                elim (bind_err (action_at n count ok.0.0 ok.0.1) next e new.2) [
                  | inl fault ↦
                      let tail = some_actions more count (names_of seen ++ name ∷ []) in
                      passed (List Action × Rest) (actions_at (suc more) n count seen) (λ z. action_at n count ok.0.0 z >>= next) n (n + 1) count (head_line name dur ∷ []) (ActionLines (suc more) count (names_of seen)) r ok.0.1 e
                      t.spelled (omega arith) (λ z. rw (starts_again n name dur z.0 z.1 t.legal t.lasts, is) refl)
                      (wider (Action × Rest) (List Action × Rest) (action_at n count ok.0.0) next (n + 1) count (ListLines count ok.0.0) (λ x. ActionLines (suc more) count (names_of seen) (head_line name dur ∷ x)) ok.0.1 tail.0 e
                      (λ x l. begun_legal more count (names_of seen) name dur x tail.0 t.legal is t.lasts l tail.1) (lists_stop n count ok.0.0 ok.0.1 e few fault))
                  | inr act ↦ next_stops more n count seen r e few name dur ok.0.1 act.0 t is act.1 (actions_stop more (n + 4) count (seen ++ act.0.0 ∷ []) act.0.1 e few act.2)
                ]
          ]
    ]
