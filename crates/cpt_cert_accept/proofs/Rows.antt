-- rows: the values of runs, and the runs of values
use Rattle.std.proofs.Common.{◌≡◌, ℕ, zero, suc, ◌+◌, ◌≤◌, ◌==◌, ◌&&◌, not, true, false, Bool, if◌then◌else◌, List, [], ◌∷◌, ◌++◌, length, map, replicate, refl, sym, ap, ◌∙◌, subst, arith, add-one}
use Rattle.std.proofs.lemmas.Bool.{and_parts, and_from, eqb-true, eq-eqb}
use Rattle.cpt_task.specs.declared.span.Span.{Span}
use Rattle.cpt_task.specs.declared.span.Span.TheVariants.{At, Never}
use Rattle.cpt_cert_form.specs.declared.forms.Version.{Version}
use Rattle.cpt_cert_form.specs.declared.forms.Version.TheVariants.{One, Two}
use Rattle.cpt_cert_form.specs.declared.forms.Run.{Run}
use Rattle.cpt_cert_form.specs.Text.{same_span, once, run_before, runs_of, row_runs}
use Rattle.cpt_cert_accept.specs.Laws.{AreFilled}
use Rattle.cpt_cert_read.specs.Reading.{are_alone, are_runs}
use Rattle.cpt_cert_accept.specs.Reading.{values_of, is_form, is_row}

pub same_span_true : (v w : Span) → same_span v w ≡ true → v ≡ w
same_span_true (At m) (At n) e = ap At (eqb-true m n e)
same_span_true (At m) Never e = absurd (cc)
same_span_true Never (At n) e = absurd (cc)
same_span_true Never Never e = refl

pub same_span_same : (v : Span) → same_span v v ≡ true
same_span_same (At m) = eq-eqb m m refl
same_span_same Never = refl

more_values : (v : Span) (n : ℕ) (vs : List Span) → replicate (n + 1) v ++ vs ≡ v ∷ (replicate n v ++ vs)
more_values v n vs = ap (λ k. replicate k v ++ vs) (add-one n)

values_before : (v : Span) (runs : List Run) → values_of (run_before v runs) ≡ v ∷ values_of runs
values_before v [] = refl
values_before v (run ∷ runs) = go (same_span v run.value) refl
  where
    go : (b : Bool) → same_span v run.value ≡ b → values_of (if b then record { value = v; count = run.count + 1 } ∷ runs else once v ∷ run ∷ runs) ≡ v ∷ (replicate run.count run.value ++ values_of runs)
    go true e = more_values v run.count (values_of runs) ∙ ap (λ w. v ∷ (replicate run.count w ++ values_of runs)) (same_span_true v run.value e)
    go false e = refl

pub values_row : (v : Version) (vs : List Span) → values_of (row_runs v vs) ≡ vs
values_row One [] = refl
values_row One (x ∷ vs) = ap (λ ws. x ∷ ws) (values_row One vs)
values_row Two [] = refl
values_row Two (x ∷ vs) = values_before x (runs_of vs) ∙ ap (λ ws. x ∷ ws) (values_row Two vs)

-- a run more is apart from its neighbour
apart_before : (v : Span) (runs : List Run) → are_runs runs ≡ true → are_runs (run_before v runs) ≡ true
apart_before v [] h = refl
apart_before v (run ∷ runs) h = go (same_span v run.value) refl runs h
  where
    go : (b : Bool) → same_span v run.value ≡ b → (rest : List Run) → are_runs (run ∷ rest) ≡ true → are_runs (if b then record { value = v; count = run.count + 1 } ∷ rest else once v ∷ run ∷ rest) ≡ true
    go true e [] k = refl
    go true e (next ∷ rest) k = subst (λ w. (not (same_span w next.value) && are_runs (next ∷ rest)) ≡ true) (sym (same_span_true v run.value e)) k
    go false e rest k = and_from (not (same_span v run.value)) (are_runs (run ∷ rest)) (ap not e) k

pub form_row : (v : Version) (vs : List Span) → is_form v (row_runs v vs) ≡ true
form_row One [] = refl
form_row One (x ∷ vs) = form_row One vs
form_row Two [] = refl
form_row Two (x ∷ vs) = apart_before x (runs_of vs) (form_row Two vs)

pub row_is_row : (v : Version) (k : ℕ) (vs : List Span) → length vs ≡ k → is_row v k (row_runs v vs) ≡ true
row_is_row v k vs e =
    and_from (is_form v (row_runs v vs)) (length (values_of (row_runs v vs)) == k) (form_row v vs) (eq-eqb (length (values_of (row_runs v vs))) k (ap length (values_row v vs) ∙ e))

-- a value before a run of the same value
before_same : (v : Span) (n : ℕ) (runs : List Run) → run_before v (record { value = v; count = n } ∷ runs) ≡ record { value = v; count = n + 1 } ∷ runs
before_same v n runs = ap (λ b. if b then record { value = v; count = n + 1 } ∷ runs else once v ∷ record { value = v; count = n } ∷ runs) (same_span_same v)

-- the first value of a run before runs that it is apart from
before_apart : (run : Run) (runs : List Run) → are_runs (run ∷ runs) ≡ true → run_before run.value runs ≡ once run.value ∷ runs
before_apart run [] h = refl
before_apart run (next ∷ runs) h =
    ap (λ b. if b then record { value = run.value; count = next.count + 1 } ∷ runs else once run.value ∷ next ∷ runs) (turned (same_span run.value next.value) (and_parts (not (same_span run.value next.value)) (are_runs (next ∷ runs)) h).0)
  where
    turned : (b : Bool) → not b ≡ true → b ≡ false
    turned true e = absurd (cc)
    turned false e = refl

runs_of_more : (run : Run) (runs : List Run) → are_runs (run ∷ runs) ≡ true → (n : ℕ) (vs : List Span) → runs_of vs ≡ runs → runs_of (replicate (suc n) run.value ++ vs) ≡ record { value = run.value; count = suc n } ∷ runs
runs_of_more run runs h zero vs e = ap (run_before run.value) e ∙ before_apart run runs h
runs_of_more run runs h (suc n) vs e =
    ap (run_before run.value) (runs_of_more run runs h n vs e) ∙ before_same run.value (suc n) runs ∙ ap (λ k. record { value = run.value; count = k } ∷ runs) (omega arith)

apart_tail : (run : Run) (runs : List Run) → are_runs (run ∷ runs) ≡ true → are_runs runs ≡ true
apart_tail run [] h = refl
apart_tail run (next ∷ runs) h = (and_parts (not (same_span run.value next.value)) (are_runs (next ∷ runs)) h).1

runs_of_run : (run : Run) (runs : List Run) → 1 ≤ run.count → are_runs (run ∷ runs) ≡ true → runs_of (values_of runs) ≡ runs → runs_of (values_of (run ∷ runs)) ≡ run ∷ runs
runs_of_run run runs one h e = go run.count refl
  where
    go : (k : ℕ) → run.count ≡ k → runs_of (replicate run.count run.value ++ values_of runs) ≡ run ∷ runs
    go zero c = absurd (omega (arith, one, c))
    go (suc n) c =
        ap (λ k. runs_of (replicate k run.value ++ values_of runs)) c ∙ runs_of_more run runs h n (values_of runs) e ∙ ap (λ k. record { value = run.value; count = k } ∷ runs) (sym c)

-- a row in the form of its version is known from its values
pub runs_back : (v : Version) (runs : List Run) → AreFilled runs → is_form v runs ≡ true → row_runs v (values_of runs) ≡ runs
runs_back One [] some h = refl
runs_back One (run ∷ runs) some h =
    let e = and_parts (run.count == 1) (are_alone runs) h in
    let c : run.count ≡ 1 = eqb-true run.count 1 e.0 in
    ap (λ k. map once (replicate k run.value ++ values_of runs)) c ∙ ap (λ rs. once run.value ∷ rs) (runs_back One runs some.1 e.1) ∙ ap (λ k. record { value = run.value; count = k } ∷ runs) (sym c)
runs_back Two [] some h = refl
runs_back Two (run ∷ runs) some h = runs_of_run run runs some.0 h (runs_back Two runs some.1 (apart_tail run runs h))
