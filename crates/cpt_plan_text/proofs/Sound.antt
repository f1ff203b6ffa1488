use Rattle.std.proofs.Common.{◌≡◌, ℕ, zero, suc, ◌+◌, ◌<◌, ◌≤◌, ◌==◌, ltb, Bool, true, false, cond, List, [], ◌∷◌, ◌++◌, length, get_or, All, Option, None, Some, Result, Ok, Err, IfSome, IfOk, option_to_list, arith, add-one, length-append, refl, subst, ap}
use Rattle.std.proofs.lemmas.Bool.{ltb-false}
use Rattle.std.proofs.lemmas.List.Elements.{All-nil, All-cons, All-weaker}
use Rattle.std.specs.List.Sorted.{IsStrictlyIncreasing}
use Rattle.cpt_task.specs.declared.plan.Occ.{Occ}
use Rattle.cpt_task.specs.Shape.{TaskShape}
use Rattle.cpt_task.specs.Judgeable.{IsJudgeable, IsJudgeableAt}
use Rattle.cpt_task.specs.Timeline.{IsOccurrence}
use Rattle.cpt_line.specs.Lines.{split, glue}
use Rattle.cpt_plan_text.specs.declared.roster.Found.{Found}
use Rattle.cpt_plan_text.specs.declared.roster.Found.TheVariants.{Known, Unreachable, Unknown}
use Rattle.cpt_plan_text.specs.declared.line.Entry.{Entry}
use Rattle.cpt_plan_text.specs.declared.reading.Item.{Item}
use Rattle.cpt_plan_text.specs.declared.reading.PlanText.{PlanText}
use Rattle.cpt_plan_text.specs.declared.reading.PlanTextError.{PlanTextError}
use Rattle.cpt_plan_text.specs.declared.reading.PlanTextError.TheVariants as errors
use Rattle.cpt_plan_text.specs.Grammar.{line_in}
use Rattle.cpt_plan_text.specs.Knowing.{KnowsActions}
use Rattle.cpt_plan_text.specs.Meaning.{◌>>=◌, Gives, duration_of, timed, looked_up, said_at, item_at, items_in, lines_of, is_wrong, reachable, occ_at, put_first, occs_of, plan_of}

bind_ok : {A B : Type 0} (r : Result A PlanTextError) (f : A → Result B PlanTextError) (y : B) → (r >>= f) ≡ Ok y → (x : A) × (r ≡ Ok x) × (f x ≡ Ok y)
bind_ok (Ok x) f y e = (x, refl, e)
bind_ok (Err d) f y e = absurd (let z : ⊥ = cc in z)

guard_ok : {A : Type 0} (b : Bool) (d : PlanTextError) (r : Result A PlanTextError) (y : A) → cond b (Err d) r ≡ Ok y → (b ≡ false) × (r ≡ Ok y)
guard_ok true d r y e = absurd (let z : ⊥ = cc in z)
guard_ok false d r y e = (refl, e)

-- an entry of line n at the earliest, that starts early enough, of an action of the task where it is reachable
record IsEntry (t : TaskShape) (n : ℕ) (item : Item) : Type 0 where
  pub line : n ≡ item.line
  pub start : item.start ≤ 1000000000
  pub act : IfSome item.act (λ act. act < length t.actions)

timed_entry : (t : TaskShape) (n : ℕ) (e : Entry) (act : Option ℕ) (right : ℕ) (item : Item) → IfSome act (λ act. act < length t.actions) → timed n e act right ≡ Ok item → IsEntry t n item
timed_entry t n e act right item known h =
    let made : Item = record { line = n; start = e.start; act = act; right = right; dur = e.dur } in
    let p = guard_ok (ltb 1000000000 e.start) (errors.Limit _) (Ok made) item h in
    let same : made ≡ item = let q = p.1 in cc in
    let low : e.start ≤ 1000000000 = let q = p.0 in ltb-false 1000000000 e.start q in
    subst (IsEntry t n) same (record { line = refl; start = low; act = known })

looked_up_entry : (t : TaskShape) (n : ℕ) (e : Entry) (found : Found) (item : Item) → ((act : ℕ) → found ≡ Known act → act < length t.actions) → looked_up t n e found ≡ Ok item → IsEntry t n item
looked_up_entry t n e (Known act) item known h = timed_entry t n e (Some act) (duration_of t act) item (known act refl) h
looked_up_entry t n e (Unreachable d) item known h = timed_entry t n e None d item tt h
looked_up_entry t n e Unknown item known h = absurd (let z : ⊥ = cc in z)

said_entry : (finds : List ℕ → Found) (t : TaskShape) (n : ℕ) (said : Option (Option Entry)) (item : Option Item) → KnowsActions finds (length t.actions) → said_at finds t n said ≡ Ok item → IfSome item (IsEntry t n)
said_entry finds t n None item knows h = absurd (let z : ⊥ = cc in z)
said_entry finds t n (Some None) item knows h =
    let same : None ≡ item = cc in
    let P : Option Item → Type 0 = λ o. IfSome o (IsEntry t n) in
    subst P same tt
said_entry finds t n (Some (Some e)) item knows h =
    let p = bind_ok (looked_up t n e (finds e.name)) (λ (i : Item). Ok (Some i)) item h in
    let q = p.2 in
    let same : Some p.0 ≡ item = cc in
    let P : Option Item → Type 0 = λ o. IfSome o (IsEntry t n) in
    subst P same (looked_up_entry t n e (finds e.name) p.0 (λ act k. knows e.name act k) p.1)

item_entry : (finds : List ℕ → Found) (t : TaskShape) (n : ℕ) (line : List ℕ) (item : Option Item) → KnowsActions finds (length t.actions) → item_at finds t n line ≡ Ok item → IfSome item (IsEntry t n)
unfolding item_at
item_entry finds t n line item knows h = said_entry finds t n (line_in line) item knows h

-- entries of lines that rise from n on
abbrev AreEntries : TaskShape → ℕ → List Item → Type 0
AreEntries t n [] = Unit {0}
AreEntries t n (item ∷ items) = (k : ℕ) × (n ≤ k) × IsEntry t k item × AreEntries t (k + 1) items

later : (t : TaskShape) (n m : ℕ) (items : List Item) → n ≤ m → AreEntries t m items → AreEntries t n items
later t n m [] le h = tt
later t n m (item ∷ items) le h = (h.0, omega (arith, h.1), h.2, h.3)

put_entry : (t : TaskShape) (n : ℕ) (first : Option Item) (others : List Item) → IfSome first (IsEntry t n) → AreEntries t (n + 1) others → AreEntries t n (option_to_list first ++ others)
put_entry t n None others h more = later t n (n + 1) others (omega arith) more
put_entry t n (Some item) others h more = (n, omega arith, h, more)

few_more : (first : Option Item) (others : List Item) (n : ℕ) → length others ≤ n → length (option_to_list first ++ others) ≤ suc n
few_more None others n h = omega arith
few_more (Some item) others n h = omega arith

-- what the first pass gives
record IsFirstPass (t : TaskShape) (n count : ℕ) (items : List Item) : Type 0 where
  pub entries : AreEntries t n items
  pub few : length items ≤ count

items_found : (finds : List ℕ → Found) (t : TaskShape) (n : ℕ) (lines : List (List ℕ)) (items : List Item) → KnowsActions finds (length t.actions) → items_in finds t n lines ≡ Ok items → IsFirstPass t n (length lines) items
items_found finds t n [] items knows h =
    let none : [] ≡ items = cc in
    subst (IsFirstPass t n 0) none (record { entries = tt; few = omega arith })
items_found finds t n (line ∷ lines) items knows h =
    let first = bind_ok (item_at finds t n line) (λ (item : Option Item). items_in finds t (n + 1) lines >>= (λ (others : List Item). Ok (option_to_list item ++ others))) items h in
    let rest = bind_ok (items_in finds t (n + 1) lines) (λ (others : List Item). Ok (option_to_list first.0 ++ others)) items first.2 in
    let more = items_found finds t (n + 1) lines rest.0 knows rest.1 in
    let q = rest.2 in
    let same : option_to_list first.0 ++ rest.0 ≡ items = cc in
    subst (IsFirstPass t n (suc (length lines))) same
    (record { entries = put_entry t n first.0 rest.0 (item_entry finds t n line first.0 knows first.1) more.entries; few = few_more first.0 rest.0 (length lines) more.few })

-- occurrences that can be judged and start early enough
pub record IsEarly (t : TaskShape) (o : Occ) : Type 0 where
  pub occurrence : IsOccurrence t o
  pub start : o.start ≤ 1000000000

-- lines that rise from n on
abbrev pub Rises : ℕ → List ℕ → Type 0
Rises n [] = Unit {0}
Rises n (k ∷ ks) = (n ≤ k) × Rises (k + 1) ks

-- what the second pass gives
pub record IsSound (t : TaskShape) (n count : ℕ) (plan : PlanText) : Type 0 where
  pub occs : All (IsEarly t) plan.occs
  pub rises : Rises n plan.lines
  pub same_length : length plan.lines ≡ length plan.occs
  pub few : length plan.occs ≤ count

reached : (t : TaskShape) (n start : ℕ) (act : Option ℕ) (o : Occ) → start ≤ 1000000000 → IfSome act (λ a. a < length t.actions) → reachable n start act ≡ Ok o → IsEarly t o
reached t n start None o low known h = absurd (let z : ⊥ = cc in z)
reached t n start (Some act) o low known h =
    let made : Occ = record { act = act; start = start } in
    let same : made ≡ o = cc in
    subst (IsEarly t) same (record { occurrence = known; start = low })

occ_early : (t : TaskShape) (n : ℕ) (item : Item) (o : Occ) → IsEntry t n item → occ_at item ≡ Ok o → IsEarly t o
unfolding occ_at
occ_early t n item o entry h =
    let p = guard_ok (is_wrong item.dur item.right) (errors.Duration item.line item.right) (reachable item.line item.start item.act) o h in
    reached t item.line item.start item.act o entry.start entry.act p.1

plan_sound : (t : TaskShape) (n : ℕ) (items : List Item) (plan : PlanText) → AreEntries t n items → occs_of items ≡ Ok plan → IsSound t n (length items) plan
plan_sound t n [] plan entries h =
    let made : PlanText = record { occs = []; lines = [] } in
    let same : made ≡ plan = cc in
    subst (IsSound t n 0) same (record { occs = All-nil (IsEarly t); rises = tt; same_length = refl; few = omega arith })
plan_sound t n (item ∷ items) plan entries h =
    let first = bind_ok (occ_at item) (λ (o : Occ). occs_of items >>= (λ (others : PlanText). Ok (put_first item o others))) plan h in
    let rest = bind_ok (occs_of items) (λ (others : PlanText). Ok (put_first item first.0 others)) plan first.2 in
    let more = plan_sound t (entries.0 + 1) items rest.0 entries.3 rest.1 in
    let entry = entries.2 in
    let line : entries.0 ≡ item.line = entry.line in
    let low : n ≤ entries.0 = entries.1 in
    let made : PlanText = put_first item first.0 rest.0 in
    let q = rest.2 in
    let same : made ≡ plan = cc in
    subst (IsSound t n (suc (length items))) same (record {
      occs = All-cons (IsEarly t) first.0 rest.0.occs (occ_early t entries.0 item first.0 entry first.1) more.occs;
      rises = (omega arith, subst (λ k. Rises (k + 1) rest.0.lines) line more.rises);
      same_length = ap suc more.same_length;
      few = omega (arith, more.few);
    })

cond_lines : (b : Bool) (p : List (List ℕ) × List ℕ) (n : ℕ) (x : ℕ) → length p.0 ≤ n → length (cond b ([] ∷ p.0, p.1) (glue (x ∷ []) p)).0 ≤ suc n
cond_lines true p n x h = omega arith
cond_lines false ([], rest) n x h = omega arith
cond_lines false (line ∷ lines, rest) n x h = omega arith

split_short : (text : List ℕ) → length (split text).0 ≤ length text
split_short [] = omega arith
split_short (b ∷ bs) = cond_lines (b == 10) (split bs) (length bs) b (split_short bs)

lines_short : (text : List ℕ) → length (lines_of text) ≤ length text + 1
lines_short text = simp length-append (omega (arith, split_short text))

-- what a text spells
pub plan_of_sound : (finds : List ℕ → Found) (t : TaskShape) (text : List ℕ) (plan : PlanText) → KnowsActions finds (length t.actions) → plan_of finds t text ≡ Ok plan → IsSound t 1 (length text + 1) plan
unfolding plan_of
plan_of_sound finds t text plan knows h =
    let first = bind_ok (items_in finds t 1 (lines_of text)) (λ (items : List Item). occs_of items) plan h in
    let found = items_found finds t 1 (lines_of text) first.0 knows first.1 in
    let sound = plan_sound t 1 first.0 plan found.entries first.2 in
    record { occs = sound.occs; rises = sound.rises; same_length = sound.same_length; few = omega (arith, sound.few, found.few, lines_short text) }

-- a fact of each plan that is spelled is one of each that is read
pub if_read : (result : Result PlanText PlanTextError) (read : Result PlanText PlanTextError) (P : PlanText → Type 0) → ((plan : PlanText) → read ≡ Ok plan → P plan) → Gives (λ plan. plan) result read → IfOk result P
if_read (Ok plan) read P holds gives = holds plan gives
if_read (Err e) read P holds gives = tt

pub sound_judgeable : (t : TaskShape) (n count : ℕ) (plan : PlanText) → IsSound t n count plan → IsJudgeable t plan.occs
sound_judgeable t n count plan sound = All-weaker (IsEarly t) (IsJudgeableAt t) (λ o early. (early.occurrence, omega (arith, early.start))) plan.occs sound.occs

pub sound_early : (t : TaskShape) (n count : ℕ) (plan : PlanText) → IsSound t n count plan → All (λ o. o.start ≤ 1000000000) plan.occs
sound_early t n count plan sound = All-weaker (IsEarly t) (λ o. o.start ≤ 1000000000) (λ o early. early.start) plan.occs sound.occs

rising_from : (n m : ℕ) (ks : List ℕ) → n ≤ m → Rises m ks → All (λ k. n ≤ k) ks
rising_from n m [] le h = All-nil (λ k. n ≤ k)
rising_from n m (k ∷ ks) le h = All-cons (λ j. n ≤ j) k ks (omega (arith, h.0)) (rising_from n (k + 1) ks (omega (arith, h.0)) h.1)

pub sound_from : (t : TaskShape) (n count : ℕ) (plan : PlanText) → IsSound t n count plan → All (λ k. n ≤ k) plan.lines
sound_from t n count plan sound = rising_from n n plan.lines (omega arith) sound.rises

increases : (n : ℕ) (ks : List ℕ) → Rises n ks → (i : ℕ) → i + 1 < length ks → get_or ks i 0 < get_or ks (i + 1) 0
increases n [] h i lt = absurd (omega arith)
increases n (k ∷ []) h i lt = absurd (omega arith)
increases n (k ∷ j ∷ js) h zero lt = let first : k + 1 ≤ j = h.1.0 in omega arith
increases n (k ∷ j ∷ js) h (suc i) lt =
    let later : get_or (j ∷ js) i 0 < get_or (j ∷ js) (i + 1) 0 = increases (k + 1) (j ∷ js) h.1 i (omega arith) in
    rw add-one (rw add-one at later)

pub sound_increasing : (t : TaskShape) (n count : ℕ) (plan : PlanText) → IsSound t n count plan → IsStrictlyIncreasing plan.lines
sound_increasing t n count plan sound = increases n plan.lines sound.rises
