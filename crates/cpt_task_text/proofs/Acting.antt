-- The lines of actions.
use Rattle.std.proofs.Common.{◌≡◌, ℕ, zero, suc, ◌+◌, ◌<◌, ◌≤◌, Bool, true, false, ◌&&◌, eqb, ltb, List, [], ◌∷◌, ◌++◌, length, take, drop, All, Result, Ok, refl, sym, ap, subst, ◌∙◌, append_assoc, append-nil, arith}
use Rattle.std.specs.Prelude.{codes}
use Rattle.std.specs.Fmt.{decimal}
use Rattle.std.specs.List.{flat_map}
use Rattle.std.proofs.lemmas.Bool.{and_parts, eqb-true, ltb-true, lt-ltb}
use Rattle.std.proofs.lemmas.List.{take_at, drop_at, take-append-drop, nil_from_length, map_push}
use Rattle.std.proofs.lemmas.List.Elements.{All-nil, All-cons, All-head, All-tail}
use Rattle.cpt_task.specs.declared.task.Action.{Action}
use Rattle.cpt_task.specs.Shape.{HasAtomsBelow, IsDuration}
use Rattle.cpt_line.specs.Digits.{number_in}
use Rattle.cpt_line.specs.Names.{is_name}
use Rattle.cpt_task_text.specs.declared.error.TaskTextError.{TaskTextError}
use Rattle.cpt_task_text.specs.Plain.{names_of, IsShortList, HasShortLists}
use Rattle.cpt_task_text.specs.Reading.{◌>>=◌, Rest, line_at, past, checked, number_at, is_among, name_length, new_at, head_in, head_at, short_ids_at, action_at, actions_at}
use Rattle.cpt_task_text.specs.Spelling.{head_line, list_line, action_lines}
use Rattle.cpt_task_text.proofs.Binding.{bind_ok, ok_is, past_takes, checked_ok, found_ok, line_takes}
use Rattle.cpt_task_text.proofs.Heading.{new_ok, number_alone}
use Rattle.cpt_task_text.proofs.Listing.{TakesList, short_takes, short_again}
use Rattle.cpt_task_text.proofs.Naming.{AreNew, name_length_of}
use Rattle.cpt_task_text.proofs.Numerals.{number_takes}

-- ---- the first line of an action

pub record TakesHead (line name : List ℕ) (dur : ℕ) : Type 0 where
  pub spelled : line ≡ head_line name dur
  pub legal : is_name name ≡ true
  pub lasts : IsDuration dur

abbrev fits : List ℕ → ℕ → Bool
fits rest dur = eqb (length rest) 0 && ltb 0 dur && ltb dur 100001

fits_parts : (rest : List ℕ) (dur : ℕ) → fits rest dur ≡ true → (rest ≡ []) × IsDuration dur
fits_parts rest dur h =
    let p = and_parts (eqb (length rest) 0 && ltb 0 dur) (ltb dur 100001) h in
    let q = and_parts (eqb (length rest) 0) (ltb 0 dur) p.0 in
    let low : 0 < dur = ltb-true 0 dur q.1 in
    let high : dur < 100001 = ltb-true dur 100001 p.1 in
    (nil_from_length rest (eqb-true (length rest) 0 q.0), (omega (arith, low), omega (arith, high)))

abbrev head_end : ℕ → List ℕ → List ℕ → Result (List ℕ × ℕ) TaskTextError
head_end n name digits = number_at n digits >>= λ dur. checked (fits dur.1 dur.0) n >>= λ fit. Ok (name, dur.0)

pub head_takes : (n : ℕ) (line : List ℕ) (x : List ℕ × ℕ) → head_in n line ≡ Ok x → TakesHead line x.0 x.1
unfolding head_in
head_takes n line x e =
    let a = bind_ok (past (codes "action ") n line) (λ bytes. checked (is_name (take (name_length bytes) bytes)) n >>= λ legal. past (32 ∷ []) n (drop (name_length bytes) bytes) >>= λ digits. head_end n (take (name_length bytes) bytes) digits) x e in
    let bytes = a.0 in
    let name = take (name_length bytes) bytes in
    let b = bind_ok (checked (is_name name) n) (λ legal. past (32 ∷ []) n (drop (name_length bytes) bytes) >>= λ digits. head_end n name digits) x a.2 in
    let c = bind_ok (past (32 ∷ []) n (drop (name_length bytes) bytes)) (λ digits. head_end n name digits) x b.2 in
    let d = bind_ok (number_at n c.0) (λ dur. checked (fits dur.1 dur.0) n >>= λ fit. Ok (name, dur.0)) x c.2 in
    let f = bind_ok (checked (fits d.0.1 d.0.0) n) (λ fit. Ok (name, d.0.0)) x d.2 in
    let fit = fits_parts d.0.1 d.0.0 (checked_ok _ n f.0 f.1) in
    let low : d.0.0 ≤ 100000 = fit.1.1 in
    let digits : c.0 ≡ decimal d.0.0 = number_takes c.0 d.0.0 d.0.1 (omega (arith, low)) (found_ok n (number_in c.0) d.0 d.1) ∙ ap (λ (r : List ℕ). decimal d.0.0 ++ r) fit.0 ∙ append-nil (decimal d.0.0) in
    let after : drop (name_length bytes) bytes ≡ 32 ∷ decimal d.0.0 = past_takes (32 ∷ []) n (drop (name_length bytes) bytes) c.0 c.1 ∙ ap (λ (r : List ℕ). 32 ∷ r) digits in
    let whole : bytes ≡ name ++ 32 ∷ decimal d.0.0 = sym (take-append-drop (name_length bytes) bytes) ∙ ap (λ (r : List ℕ). name ++ r) after in
    let made : List ℕ × ℕ = (name, d.0.0) in
    subst (λ (y : List ℕ × ℕ). TakesHead line y.0 y.1) (ok_is made x f.2)
    (record {
      spelled = past_takes (codes "action ") n line bytes a.1 ∙ ap (λ (r : List ℕ). codes "action " ++ r) whole;
      legal = checked_ok _ n b.0 b.1;
      lasts = fit.1;
    })

pub head_again : (n : ℕ) (name : List ℕ) (dur : ℕ) → is_name name ≡ true → IsDuration dur → head_in n (head_line name dur) ≡ Ok (name, dur)
unfolding head_in
head_again n name dur legal lasts =
    let low : 0 < dur = omega (arith, lasts.0) in
    let high : dur < 100001 = omega (arith, lasts.1) in
    rw (name_length_of name (32 ∷ decimal dur) legal, take_at name (32 ∷ decimal dur) (length name) refl, drop_at name (32 ∷ decimal dur) (length name) refl, legal, number_alone dur (omega (arith, high)), lt-ltb 0 dur low, lt-ltb dur 100001 high) refl

pub record StartsAction (rest : Rest) (name : List ℕ) (dur : ℕ) (after : Rest) : Type 0 where
  pub spelled : rest ≡ (head_line name dur ∷ after.0, after.1)
  pub legal : is_name name ≡ true
  pub lasts : IsDuration dur

pub head_starts : (n : ℕ) (rest : Rest) (x : (List ℕ × ℕ) × Rest) → head_at n rest ≡ Ok x → StartsAction rest x.0.0 x.0.1 x.1
unfolding head_at
head_starts n rest x e =
    let a = bind_ok (line_at n rest) (λ line. head_in n line.0 >>= λ head. Ok (head, line.1)) x e in
    let b = bind_ok (head_in n a.0.0) (λ head. Ok (head, a.0.1)) x a.2 in
    let head = head_takes n a.0.0 b.0 b.1 in
    let made : (List ℕ × ℕ) × Rest = (b.0, a.0.1) in
    subst (λ (y : (List ℕ × ℕ) × Rest). StartsAction rest y.0.0 y.0.1 y.1) (ok_is made x b.2)
    (record { spelled = line_takes n rest a.0 a.1 ∙ ap (λ (l : List ℕ). (l ∷ a.0.1.0, a.0.1.1)) head.spelled; legal = head.legal; lasts = head.lasts })

pub starts_again : (n : ℕ) (name : List ℕ) (dur : ℕ) (lines : List (List ℕ)) (tail : List ℕ) → is_name name ≡ true → IsDuration dur → head_at n (head_line name dur ∷ lines, tail) ≡ Ok ((name, dur), (lines, tail))
unfolding head_at
starts_again n name dur lines tail legal lasts = rw (head_again n name dur legal lasts) refl

-- ---- an action

pub record FitsAction (count : ℕ) (seen : List (List ℕ)) (a : Action) : Type 0 where
  pub legal : is_name a.name ≡ true
  pub new : is_among seen a.name ≡ false
  pub lists : HasShortLists a
  pub below : HasAtomsBelow count a
  pub lasts : IsDuration a.dur

-- the three lists of an action
abbrev pub list_lines : Action → List (List ℕ)
list_lines a = list_line (codes "pre") a.pre ∷ list_line (codes "add") a.add ∷ list_line (codes "del") a.dele ∷ []

pub record TakesLists (count : ℕ) (head : List ℕ × ℕ) (rest : Rest) (a : Action) (after : Rest) : Type 0 where
  pub spelled : rest ≡ (list_lines a ++ after.0, after.1)
  pub name : a.name ≡ head.0
  pub dur : a.dur ≡ head.1
  pub lists : HasShortLists a
  pub below : HasAtomsBelow count a

short_of : (count most : ℕ) (keyword : List ℕ) (rest : Rest) (ids : List ℕ) (after : Rest) → TakesList count keyword rest ids after × (length ids ≤ most) → IsShortList most ids
short_of count most keyword rest ids after t = record { increasing = t.0.increasing; short = t.1 }

pub action_takes : (n count : ℕ) (head : List ℕ × ℕ) (rest : Rest) (x : Action × Rest) → count ≤ 1000000000 → action_at n count head rest ≡ Ok x → TakesLists count head rest x.0 x.1
unfolding action_at
action_takes n count head rest x few e =
    let c = bind_ok (short_ids_at (n + 1) (codes "pre") 64 count rest) (λ pre. short_ids_at (n + 2) (codes "add") 128 count pre.1 >>= λ add. short_ids_at (n + 3) (codes "del") 128 count add.1 >>= λ dele. Ok (record { name = head.0; dur = head.1; pre = pre.0; add = add.0; dele = dele.0 }, dele.1)) x e in
    let d = bind_ok (short_ids_at (n + 2) (codes "add") 128 count c.0.1) (λ add. short_ids_at (n + 3) (codes "del") 128 count add.1 >>= λ dele. Ok (record { name = head.0; dur = head.1; pre = c.0.0; add = add.0; dele = dele.0 }, dele.1)) x c.2 in
    let f = bind_ok (short_ids_at (n + 3) (codes "del") 128 count d.0.1) (λ dele. Ok (record { name = head.0; dur = head.1; pre = c.0.0; add = d.0.0; dele = dele.0 }, dele.1)) x d.2 in
    let pre = short_takes (n + 1) (codes "pre") 64 count rest c.0 few c.1 in
    let add = short_takes (n + 2) (codes "add") 128 count c.0.1 d.0 few d.1 in
    let dele = short_takes (n + 3) (codes "del") 128 count d.0.1 f.0 few f.1 in
    let made : Action × Rest = (record { name = head.0; dur = head.1; pre = c.0.0; add = d.0.0; dele = f.0.0 }, f.0.1) in
    subst (λ (y : Action × Rest). TakesLists count head rest y.0 y.1) (ok_is made x f.2)
    (record {
      spelled = pre.0.spelled ∙ ap (λ (r : Rest). (list_line (codes "pre") c.0.0 ∷ r.0, r.1)) (add.0.spelled ∙ ap (λ (r : Rest). (list_line (codes "add") d.0.0 ∷ r.0, r.1)) dele.0.spelled);
      name = refl;
      dur = refl;
      lists = record { pre = short_of count 64 _ _ _ _ pre; add = short_of count 128 _ _ _ _ add; dele = short_of count 128 _ _ _ _ dele };
      below = record { pre = pre.0.below; add = add.0.below; dele = dele.0.below };
    })

pub action_again : (n count : ℕ) (a : Action) (lines : List (List ℕ)) (tail : List ℕ) → count ≤ 1000000000 → HasShortLists a → HasAtomsBelow count a → action_at n count (a.name, a.dur) (list_lines a ++ lines, tail) ≡ Ok (a, (lines, tail))
unfolding action_at
action_again n count a lines tail few short below =
    rw (
      short_again (n + 1) (codes "pre") 64 count a.pre (list_line (codes "add") a.add ∷ list_line (codes "del") a.dele ∷ lines) tail few short.pre below.pre,
      short_again (n + 2) (codes "add") 128 count a.add (list_line (codes "del") a.dele ∷ lines) tail few short.add below.add,
      short_again (n + 3) (codes "del") 128 count a.dele lines tail few short.dele below.dele,
    ) refl

-- ---- actions

abbrev pub AllFit : ℕ → List (List ℕ) → List Action → Type 0
AllFit count seen [] = Unit {0}
AllFit count seen (a ∷ actions) = FitsAction count seen a × AllFit count (seen ++ a.name ∷ []) actions

pub record TakesActions (more count : ℕ) (seen : List Action) (rest : Rest) (whole : List Action) (after : Rest) : Type 0 where
  pub actions : List Action
  pub all : whole ≡ seen ++ actions
  pub fit : AllFit count (names_of seen) actions
  pub spelled : rest ≡ (flat_map action_lines actions ++ after.0, after.1)
  pub many : length actions ≡ more

pub actions_take : (more n count : ℕ) (seen : List Action) (rest : Rest) (x : List Action × Rest) → count ≤ 1000000000 → actions_at more n count seen rest ≡ Ok x → TakesActions more count seen rest x.0 x.1
unfolding actions_at
actions_take zero n count seen rest x few e =
    let made : List Action × Rest = (seen, rest) in
    subst (λ (y : List Action × Rest). TakesActions 0 count seen rest y.0 y.1) (ok_is made x e) (record { actions = []; all = sym (append-nil seen); fit = tt; spelled = refl; many = refl })
actions_take (suc more) n count seen rest x few e =
    let a = bind_ok (head_at n rest) (λ head. new_at n (names_of seen) head.0.0 >>= λ new. action_at n count head.0 head.1 >>= λ action. actions_at more (n + 4) count (seen ++ action.0 ∷ []) action.1) x e in
    let b = bind_ok (new_at n (names_of seen) a.0.0.0) (λ new. action_at n count a.0.0 a.0.1 >>= λ action. actions_at more (n + 4) count (seen ++ action.0 ∷ []) action.1) x a.2 in
    let c = bind_ok (action_at n count a.0.0 a.0.1) (λ action. actions_at more (n + 4) count (seen ++ action.0 ∷ []) action.1) x b.2 in
    let head = head_starts n rest a.0 a.1 in
    let first = action_takes n count a.0.0 a.0.1 c.0 few c.1 in
    let others = actions_take more (n + 4) count (seen ++ c.0.0 ∷ []) c.0.1 x few c.2 in
    let fit : FitsAction count (names_of seen) c.0.0 = record {
      legal = subst (λ (name : List ℕ). is_name name ≡ true) (sym first.name) head.legal;
      new = subst (λ (name : List ℕ). is_among (names_of seen) name ≡ false) (sym first.name) (new_ok n (names_of seen) a.0.0.0 b.0 b.1);
      lists = first.lists;
      below = first.below;
      lasts = subst IsDuration (sym first.dur) head.lasts;
    } in
    record {
      actions = c.0.0 ∷ others.actions;
      all = others.all ∙ append_assoc seen (c.0.0 ∷ []) others.actions;
      fit = (fit, subst (λ (names : List (List ℕ)). AllFit count names others.actions) (map_push (λ (b : Action). b.name) seen c.0.0) others.fit);
      spelled = head.spelled ∙ ap (λ (r : Rest). (head_line a.0.0.0 a.0.0.1 ∷ r.0, r.1)) first.spelled ∙ ap (λ (name : List ℕ). (head_line name a.0.0.1 ∷ list_lines c.0.0 ++ c.0.1.0, c.0.1.1)) (sym first.name) ∙ ap (λ (dur : ℕ). (head_line c.0.0.name dur ∷ list_lines c.0.0 ++ c.0.1.0, c.0.1.1)) (sym first.dur) ∙ ap (λ (r : Rest). (action_lines c.0.0 ++ r.0, r.1)) others.spelled;
      many = ap suc others.many;
    }

pub actions_again : (actions : List Action) (n count : ℕ) (seen : List Action) (lines : List (List ℕ)) (tail : List ℕ) → count ≤ 1000000000 → AllFit count (names_of seen) actions → actions_at (length actions) n count seen (flat_map action_lines actions ++ lines, tail) ≡ Ok (seen ++ actions, (lines, tail))
unfolding actions_at
actions_again [] n count seen lines tail few fit = ap (λ (x : List Action). Ok (x, (lines, tail))) (sym (append-nil seen))
actions_again (a ∷ actions) n count seen lines tail few fit =
    let named : names_of (seen ++ a ∷ []) ≡ names_of seen ++ a.name ∷ [] = map_push (λ (b : Action). b.name) seen a in
    rw (starts_again n a.name a.dur (list_lines a ++ (flat_map action_lines actions ++ lines)) tail fit.0.legal fit.0.lasts, fit.0.new, action_again n count a (flat_map action_lines actions ++ lines) tail few fit.0.lists fit.0.below)
    (actions_again actions (n + 4) count (seen ++ a ∷ []) lines tail few (subst (λ (names : List (List ℕ)). AllFit count names actions) (sym named) fit.1) ∙ ap (λ (x : List Action). Ok (x, (lines, tail))) (append_assoc seen (a ∷ []) actions))

-- ---- what holds of each action

pub record AllPlain (count : ℕ) (seen : List (List ℕ)) (actions : List Action) : Type 0 where
  pub new : AreNew seen (names_of actions)
  pub lists : All HasShortLists actions
  pub below : All (HasAtomsBelow count) actions
  pub lasting : All (λ a. IsDuration a.dur) actions

pub plain_from_fit : (count : ℕ) (seen : List (List ℕ)) (actions : List Action) → AllFit count seen actions → AllPlain count seen actions
plain_from_fit count seen [] h = record { new = tt; lists = All-nil HasShortLists; below = All-nil (HasAtomsBelow count); lasting = All-nil (λ a. IsDuration a.dur) }
plain_from_fit count seen (a ∷ actions) h =
    let more = plain_from_fit count (seen ++ a.name ∷ []) actions h.1 in
    record {
      new = (h.0.legal, h.0.new, more.new);
      lists = All-cons HasShortLists a actions h.0.lists more.lists;
      below = All-cons (HasAtomsBelow count) a actions h.0.below more.below;
      lasting = All-cons (λ a. IsDuration a.dur) a actions h.0.lasts more.lasting;
    }

pub fit_from_plain : (count : ℕ) (seen : List (List ℕ)) (actions : List Action) → AllPlain count seen actions → AllFit count seen actions
fit_from_plain count seen [] h = tt
fit_from_plain count seen (a ∷ actions) h = (
  record {
    legal = h.new.0;
    new = h.new.1;
    lists = All-head HasShortLists a actions h.lists;
    below = All-head (HasAtomsBelow count) a actions h.below;
    lasts = All-head (λ a. IsDuration a.dur) a actions h.lasting;
  },
  fit_from_plain count (seen ++ a.name ∷ []) actions (record {
    new = h.new.2;
    lists = All-tail HasShortLists a actions h.lists;
    below = All-tail (HasAtomsBelow count) a actions h.below;
    lasting = All-tail (λ a. IsDuration a.dur) a actions h.lasting;
  }),
)
