-- Rows of tables that are read, and what they are read as.
use Rattle.std.proofs.Common.{◌≡◌, ℕ, ◌≤◌, Bool, true, false, not, ◌&&◌, ◌||◌, cond, eqb, ltb, ◌⊎◌, inl, inr, List, [], ◌∷◌, ◌++◌, None, Some, Option, option_map, map, codes, All, refl, ap, subst, ◌∙◌, sym, arith, append_assoc}
use Rattle.std.specs.Char.{is_ascii_digit}
use Rattle.std.specs.Fmt.{decimal}
use Rattle.std.specs.Option.{option_and_then}
use Rattle.std.specs.Str.{all_ascii_digits}
use Rattle.std.proofs.lemmas.Bool.{and_parts, and_from, or_cases, or_left, or_right, not-true, not_from_false, eqb-true, eqb-false, ne_eqb, eq-eqb, ltb-true, ltb-false, lt-ltb, le-ltb, false_from_ne_true}
use Rattle.std.proofs.lemmas.Fmt.{digits_decimal}
use Rattle.std.proofs.lemmas.List.Elements.{All-nil, All-cons, All-head, All-tail}
use Rattle.std.proofs.lemmas.Str.Parse.{tells_all_ascii_digits}
use Rattle.cpt_task.specs.declared.span.Span.{Span}
use Rattle.cpt_task.specs.declared.span.Span.TheVariants.{At, Never}
use Rattle.cpt_cert_form.specs.declared.forms.Run.{Run}
use Rattle.cpt_cert_form.specs.Forms.{IsShort, IsShortSpan, IsRowSpan, IsRun, AreRuns, AreAlone, IsRow, span_word, run_word}
use Rattle.cpt_cert_read.specs.Reading.{cut, span_in, number_to, row_span, row_span_in, run_by, run_in, runs_in, are_alone, are_runs, row_in}
use Rattle.cpt_cert_form.specs.Text.{same_span}
use Rattle.cpt_cert_read.proofs.Joining.{is_solid, are_solid}
use Rattle.cpt_cert_read.proofs.Numerals.{own, number_solid}
use Rattle.cpt_cert_read.proofs.Parts.{bind_some, unless, some_is, there}
use Rattle.cpt_cert_read.proofs.WordRead.{span_some, span_again, limited_some, limited_again, span_solid}

-- no star stands in it
abbrev is_starless : List ℕ → Bool
is_starless [] = true
is_starless (b ∷ bs) = not (eqb b 42) && is_starless bs

starless_digits : (ds : List ℕ) → all_ascii_digits ds ≡ true → is_starless ds ≡ true
starless_digits [] h = refl
starless_digits (d ∷ ds) h =
    let p = and_parts (is_ascii_digit d) (all_ascii_digits ds) h in
    let within = (tells_all_ascii_digits.parts d ds h).0 in
    rw (ne_eqb d 42 (λ e. omega (arith, within, e))) (starless_digits ds p.1)

starless_span : (v : Span) → IsShortSpan v → is_starless (span_word v) ≡ true
starless_span (At n) short = starless_digits (decimal n) (digits_decimal own n (omega (arith, short)))
starless_span Never short = refl

cut_none : (w : List ℕ) → is_starless w ≡ true → cut 42 w ≡ None
cut_none [] h = refl
cut_none (b ∷ bs) h =
    let p = and_parts (not (eqb b 42)) (is_starless bs) h in
    rw (not-true (eqb b 42) p.0, cut_none bs p.1) refl

cut_at : (w k : List ℕ) → is_starless w ≡ true → cut 42 (w ++ 42 ∷ k) ≡ Some (w, k)
cut_at [] k h = refl
cut_at (b ∷ bs) k h =
    let p = and_parts (not (eqb b 42)) (is_starless bs) h in
    rw (not-true (eqb b 42) p.0, cut_at bs k p.1) refl

cut_step : (b : ℕ) (bs w k : List ℕ) (t : Bool) (o : Option (List ℕ × List ℕ)) → eqb b 42 ≡ t → ((v s : List ℕ) → o ≡ Some (v, s) → bs ≡ v ++ 42 ∷ s) → cond {A = Option (List ℕ × List ℕ)} t (Some ([], bs)) (option_map (λ (p : List ℕ × List ℕ). (b ∷ p.0, p.1)) o) ≡ Some (w, k) → b ∷ bs ≡ w ++ 42 ∷ k
cut_step b bs w k true o same more e =
    let none : List ℕ × List ℕ = ([], bs) in
    let p : none ≡ (w, k) = some_is none (w, k) e in
    ap (λ x. x ∷ bs) (eqb-true b 42 same) ∙ ap (λ (x : List ℕ × List ℕ). x.0 ++ 42 ∷ x.1) p
cut_step b bs w k false None same more e = absurd cc
cut_step b bs w k false (Some q) same more e =
    let more_of : List ℕ × List ℕ = (b ∷ q.0, q.1) in
    let p : more_of ≡ (w, k) = some_is more_of (w, k) e in
    ap (λ (x : List ℕ). b ∷ x) (more q.0 q.1 refl) ∙ ap (λ (x : List ℕ × List ℕ). x.0 ++ 42 ∷ x.1) p

cut_some : (bs w k : List ℕ) → cut 42 bs ≡ Some (w, k) → bs ≡ w ++ 42 ∷ k
cut_some [] w k e = absurd cc
cut_some (b ∷ bs) w k e = cut_step b bs w k (eqb b 42) (cut 42 bs) refl (cut_some bs) e

row_span_some : (v u : Span) → row_span v ≡ Some u → IsRowSpan u × (v ≡ u)
row_span_some (At n) u e =
    let t = unless_small (ltb n 1000000000000000) e in
    (subst IsRowSpan t.1 (ltb-true n 1000000000000000 t.0), t.1)
  where
    unless_small : (b : Bool) → cond b (Some (At n)) None ≡ Some u → (b ≡ true) × (At n ≡ u)
    unless_small true e = (refl, some_is (At n) u e)
    unless_small false e = absurd cc
row_span_some Never u e = let same : Never ≡ u = some_is Never u e in (subst IsRowSpan same tt, same)

row_span_again : (v : Span) → IsRowSpan v → row_span v ≡ Some v
row_span_again (At n) few = rw (lt-ltb n 1000000000000000 few) refl
row_span_again Never few = refl

short_span : (v : Span) → IsRowSpan v → IsShortSpan v
short_span (At n) few = omega (arith, few)
short_span Never few = tt

value_some : (w : List ℕ) (v : Span) → row_span_in w ≡ Some v → IsRowSpan v × (w ≡ span_word v)
unfolding row_span_in
value_some w v e =
    let b = bind_some (span_in w) row_span v e in
    let s = row_span_some b.0 v b.2 in
    (s.0, (span_some w b.0 b.1).1 ∙ ap span_word s.1)

value_again : (v : Span) → IsRowSpan v → row_span_in (span_word v) ≡ Some v
unfolding row_span_in
value_again v few = rw (span_again v (short_span v few)) (row_span_again v few)

abbrev make : Span → ℕ → Run
make v n = record { value = v; count = n }

abbrev RunOf : List ℕ → Run → Type 0
RunOf w run = IsRun run × (w ≡ run_word run)

run_single : (w : List ℕ) (run : Run) → run_by w None ≡ Some run → RunOf w run
unfolding run_by
run_single w run e =
    let b = bind_some (row_span_in w) (λ v. there (make v 1)) run e in
    let s = value_some w b.0 b.1 in
    subst (RunOf w) (some_is (make b.0 1) run b.2) (record { value = s.0; some = omega arith; few = omega arith }, s.1)

run_many : (w value count : List ℕ) (run : Run) → w ≡ value ++ 42 ∷ count → run_by w (Some (value, count)) ≡ Some run → RunOf w run
unfolding run_by
run_many w value count run h e =
    let b = bind_some (row_span_in value) (λ v. option_and_then (λ n. cond (ltb n 2) None (there (make v n))) (number_to 2048 count)) run e in
    let d = bind_some (number_to 2048 count) (λ n. cond (ltb n 2) None (there (make b.0 n))) run b.2 in
    let u = unless (ltb d.0 2) (there (make b.0 d.0)) run d.2 in
    let s = value_some value b.0 b.1 in
    let n = limited_some 2048 count d.0 d.1 in
    let two : 2 ≤ d.0 = ltb-false d.0 2 u.0 in
    let several : eqb d.0 1 ≡ false = ne_eqb d.0 1 (λ k. omega (arith, k, two)) in
    let word : w ≡ run_word (make b.0 d.0) = h ∙ ap (λ (x : List ℕ). x ++ 42 ∷ count) s.1 ∙ ap (λ (x : List ℕ). span_word b.0 ++ 42 ∷ x) n.1 ∙ rw several (sym (append_assoc (span_word b.0) (42 ∷ []) (decimal d.0))) in
    subst (RunOf w) (some_is (make b.0 d.0) run u.1) (record { value = s.0; some = omega (arith, two); few = n.0 }, word)

run_some : (w : List ℕ) (run : Run) → run_in w ≡ Some run → RunOf w run
unfolding run_in
run_some w run e = by_cut (cut 42 w) refl e
  where
    by_cut : (o : Option (List ℕ × List ℕ)) → cut 42 w ≡ o → run_by w o ≡ Some run → RunOf w run
    by_cut None c e = run_single w run e
    by_cut (Some p) c e = run_many w p.0 p.1 run (cut_some w p.0 p.1 c) e

run_again_by : (v : Span) (n : ℕ) (t : Bool) → eqb n 1 ≡ t → IsRowSpan v → 1 ≤ n → n ≤ 2048 → run_in (cond t (span_word v) (span_word v ++ codes "*" ++ decimal n)) ≡ Some (record { value = v; count = n })
unfolding run_in run_by
run_again_by v n true e few some le = rw (cut_none (span_word v) (starless_span v (short_span v few)), value_again v few, eqb-true n 1 e) refl
run_again_by v n false e few some le =
    let two : 2 ≤ n = omega (arith, eqb-false n 1 e) in
    rw (append_assoc (span_word v) (42 ∷ []) (decimal n), cut_at (span_word v) (decimal n) (starless_span v (short_span v few)), value_again v few, limited_again 2048 n le (omega arith), le-ltb n 2 two) refl

run_again : (run : Run) → IsRun run → run_in (run_word run) ≡ Some run
run_again run h = run_again_by run.value run.count (eqb run.count 1) refl h.value h.some h.few

runs_some : (ws : List (List ℕ)) (runs : List Run) → runs_in ws ≡ Some runs → All IsRun runs × (ws ≡ map run_word runs)
unfolding runs_in
runs_some [] runs e = let same : [] ≡ runs = some_is [] runs e in subst (λ rs. All IsRun rs × ([] ≡ map run_word rs)) same (All-nil IsRun, refl)
runs_some (w ∷ ws) runs e =
    let b = bind_some (run_in w) (λ run. option_and_then (λ rs. there (run ∷ rs)) (runs_in ws)) runs e in
    let d = bind_some (runs_in ws) (λ rs. there (b.0 ∷ rs)) runs b.2 in
    let r = run_some w b.0 b.1 in
    let more = runs_some ws d.0 d.1 in
    subst (λ rs. All IsRun rs × (w ∷ ws ≡ map run_word rs)) (some_is (b.0 ∷ d.0) runs d.2) (All-cons IsRun b.0 d.0 r.0 more.0, ap (λ (x : List ℕ). x ∷ ws) r.1 ∙ ap (λ (x : List (List ℕ)). run_word b.0 ∷ x) more.1)

runs_again : (runs : List Run) → All IsRun runs → runs_in (map run_word runs) ≡ Some runs
unfolding runs_in
runs_again [] h = refl
runs_again (run ∷ runs) h = rw (run_again run (All-head IsRun run runs h), runs_again runs (All-tail IsRun run runs h)) refl

abbrev IsOnce : Run → Type 0
IsOnce run = run.count ≡ 1

alone_some : (runs : List Run) → are_alone runs ≡ true → All IsOnce runs
alone_some [] h = All-nil IsOnce
alone_some (run ∷ runs) h =
    let p = and_parts (eqb run.count 1) (are_alone runs) h in
    All-cons IsOnce run runs (eqb-true run.count 1 p.0) (alone_some runs p.1)

alone_again : (runs : List Run) → All IsOnce runs → are_alone runs ≡ true
alone_again [] h = refl
alone_again (run ∷ runs) h = and_from (eqb run.count 1) (are_alone runs) (eq-eqb run.count 1 (All-head IsOnce run runs h)) (alone_again runs (All-tail IsOnce run runs h))

same_again : (u v : Span) → u ≡ v → same_span u v ≡ true
same_again (At m) (At n) e = eq-eqb m n cc
same_again (At m) Never e = absurd cc
same_again Never (At n) e = absurd cc
same_again Never Never e = refl

one_span : (u v : Span) → same_span u v ≡ true → u ≡ v
one_span (At m) (At n) e = ap At (eqb-true m n e)
one_span (At m) Never e = absurd cc
one_span Never (At n) e = absurd cc
one_span Never Never e = refl

apart_some : (runs : List Run) → are_runs runs ≡ true → AreRuns runs
apart_some [] h = tt
apart_some (run ∷ []) h = tt
apart_some (run ∷ next ∷ runs) h =
    let p = and_parts (not (same_span run.value next.value)) (are_runs (next ∷ runs)) h in
    (λ e. both (not-true (same_span run.value next.value) p.0) (same_again run.value next.value e), apart_some (next ∷ runs) p.1)
  where
    both : {b : Bool} → b ≡ false → b ≡ true → ⊥
    both e f = cc

apart_again : (runs : List Run) → AreRuns runs → are_runs runs ≡ true
apart_again [] h = refl
apart_again (run ∷ []) h = refl
apart_again (run ∷ next ∷ runs) h = and_from (not (same_span run.value next.value)) (are_runs (next ∷ runs)) (not_from_false (same_span run.value next.value) (false_from_ne_true (same_span run.value next.value) (λ e. h.0 (one_span run.value next.value e)))) (apart_again (next ∷ runs) h.1)

form_some : (runs : List Run) → (are_alone runs || are_runs runs) ≡ true → AreAlone runs ⊎ AreRuns runs
form_some runs h =
    elim (or_cases (are_alone runs) (are_runs runs) h) [
      | inl a ↦ inl (alone_some runs a)
      | inr a ↦ inr (apart_some runs a)
    ]

form_again : (runs : List Run) → AreAlone runs ⊎ AreRuns runs → (are_alone runs || are_runs runs) ≡ true
form_again runs (inl a) = or_left (are_alone runs) (are_runs runs) (alone_again runs a)
form_again runs (inr a) = or_right (are_alone runs) (are_runs runs) (apart_again runs a)

-- a row that is read is spelled so
pub row_some : (ws : List (List ℕ)) (runs : List Run) → row_in ws ≡ Some runs → IsRow runs × (ws ≡ map run_word runs)
unfolding row_in
row_some ws runs e =
    let b = bind_some (runs_in ws) (λ rs. cond (are_alone rs || are_runs rs) (there rs) None) runs e in
    let g = guarded (are_alone b.0 || are_runs b.0) b.0 b.2 in
    let s = runs_some ws b.0 b.1 in
    subst (λ rs. IsRow rs × (ws ≡ map run_word rs)) g.1 (record { all = s.0; form = form_some b.0 g.0 }, s.1)
  where
    guarded : (t : Bool) (rs : List Run) → cond t (Some rs) None ≡ Some runs → (t ≡ true) × (rs ≡ runs)
    guarded true rs e = (refl, some_is rs runs e)
    guarded false rs e = absurd cc

-- what is spelled so is read
pub row_again : (runs : List Run) → IsRow runs → row_in (map run_word runs) ≡ Some runs
unfolding row_in
row_again runs h = rw (runs_again runs h.all, form_again runs h.form) refl

solid_append : (v w : List ℕ) → is_solid v ≡ true → is_solid w ≡ true → is_solid (v ++ w) ≡ true
solid_append [] w h k = k
solid_append (b ∷ bs) w h k =
    let p = and_parts (not (eqb b 32)) (is_solid bs) h in
    and_from (not (eqb b 32)) (is_solid (bs ++ w)) p.0 (solid_append bs w p.1 k)

run_solid_by : (v : Span) (n : ℕ) (t : Bool) → IsShortSpan v → IsShort n → is_solid (cond t (span_word v) (span_word v ++ codes "*" ++ decimal n)) ≡ true
run_solid_by v n true short few = span_solid v short
run_solid_by v n false short few = rw (append_assoc (span_word v) (42 ∷ []) (decimal n)) (solid_append (span_word v) (42 ∷ decimal n) (span_solid v short) (number_solid n few))

-- no space stands in a value
pub runs_solid : (runs : List Run) → All IsRun runs → are_solid (map run_word runs) ≡ true
runs_solid [] h = refl
runs_solid (run ∷ runs) h =
    let first : IsRun run = All-head IsRun run runs h in
    let le : run.count ≤ 2048 = first.few in
    and_from (is_solid (run_word run)) (are_solid (map run_word runs)) (run_solid_by run.value run.count (eqb run.count 1) (short_span run.value first.value) (omega (arith, le))) (runs_solid runs (All-tail IsRun run runs h))
