-- runs of equal values
use Rattle.std.proofs.Common.{◌≡◌, ℕ, ◌+◌, List, [], ◌∷◌, ◌++◌, Bool, true, false, if◌then◌else◌, map, Some, length, slice_get, drop, take, refl, sym, ◌∙◌, ap, add_comm, arith}
use Rattle.std.proofs.lemmas.Bool.{eqb-true, eq-eqb}
use Rattle.std.proofs.lemmas.List.{append-nil, append_assoc, drop_more, take_more, map_push}
use Rattle.std.proofs.lemmas.Grind.{flat_map-append}
use Rattle.std.proofs.lemmas.List.Concat.{flat_map-cons}
use Rattle.std.proofs.lemmas.Option.{slice_get_within, get_or_from_slice_get}
use Rattle.std.proofs.Math.Seq.{drop-length}
use Rattle.cpt_task.specs.declared.span.Span.{Span}
use Rattle.cpt_task.specs.declared.span.Span.TheVariants.{At, Never}
use Rattle.cpt_cert_form.specs.declared.forms.Run.{Run}
use Rattle.cpt_cert_form.specs.Forms.{run_word, span_word}
use Rattle.cpt_cert_form.specs.Text.{once, same_span, run_before, runs_of}
use Rattle.cpt_cert_print.specs.Items.{spaced, merged, runs_text}

same_is : (a b : Span) → same_span a b ≡ true → a ≡ b
same_is (At m) (At n) h = ap At (eqb-true m n h)
same_is (At m) Never h = cc
same_is Never (At n) h = cc
same_is Never Never h = refl

same_self : (a : Span) → same_span a a ≡ true
same_self (At n) = eq-eqb n n refl
same_self Never = refl

abbrev run_of : Span → ℕ → Run
run_of v n = record { value = v; count = n }

merged_once : (v : Span) (runs : List Run) → run_before v runs ≡ merged (once v) runs
merged_once v [] = refl
merged_once v (next ∷ runs) = ap (λ n. if same_span v next.value then run_of v n ∷ runs else once v ∷ next ∷ runs) (add_comm next.count 1)

merged_same : (v : Span) (n : ℕ) (runs : List Run) → merged (run_of v n) (run_before v runs) ≡ merged (run_of v (n + 1)) runs
merged_same v n [] = ap (λ b. if b then run_of v (n + 1) ∷ [] else run_of v n ∷ once v ∷ []) (same_self v)
merged_same v n (next ∷ runs) = go (same_span v next.value)
  where
    go : (b : Bool) →
        merged (run_of v n) (if b then run_of v (next.count + 1) ∷ runs else once v ∷ next ∷ runs)
        ≡ (if b then run_of v (n + 1 + next.count) ∷ runs else run_of v (n + 1) ∷ next ∷ runs)
    go true =
        let e : n + (next.count + 1) ≡ n + 1 + next.count = omega arith in
        ap (λ c. if c then run_of v (n + (next.count + 1)) ∷ runs else run_of v n ∷ run_of v (next.count + 1) ∷ runs) (same_self v) ∙ ap (λ k. run_of v k ∷ runs) e
    go false = ap (λ c. if c then run_of v (n + 1) ∷ next ∷ runs else run_of v n ∷ once v ∷ next ∷ runs) (same_self v)

merged_other : (run : Run) (v : Span) (runs : List Run) → same_span run.value v ≡ false → merged run (run_before v runs) ≡ run ∷ run_before v runs
merged_other run v [] h = ap (λ c. if c then run_of run.value (run.count + 1) ∷ [] else run ∷ once v ∷ []) h
merged_other run v (next ∷ runs) h = go (same_span v next.value)
  where
    go : (b : Bool) →
        merged run (if b then run_of v (next.count + 1) ∷ runs else once v ∷ next ∷ runs)
        ≡ run ∷ (if b then run_of v (next.count + 1) ∷ runs else once v ∷ next ∷ runs)
    go true = ap (λ c. if c then run_of run.value (run.count + (next.count + 1)) ∷ runs else run ∷ run_of v (next.count + 1) ∷ runs) h
    go false = ap (λ c. if c then run_of run.value (run.count + 1) ∷ next ∷ runs else run ∷ once v ∷ next ∷ runs) h

words_of : (run : Run) (runs : List Run) → spaced (map run_word (run ∷ runs)) ≡ (32 ∷ run_word run) ++ spaced (map run_word runs)
words_of run runs = flat_map-cons (λ w. 32 ∷ w) (run_word run) (map run_word runs)

text_same : (run : Run) (v : Span) (vs : List Span) → same_span run.value v ≡ true → runs_text (run_of run.value (run.count + 1)) vs ≡ runs_text run (v ∷ vs)
text_same run v vs h =
    ap (λ l. spaced (map run_word l)) (sym (merged_same run.value run.count (runs_of vs)))
    ∙ ap (λ w. spaced (map run_word (merged run (run_before w (runs_of vs))))) (same_is run.value v h)

text_other : (run : Run) (v : Span) (vs : List Span) → same_span run.value v ≡ false → runs_text run (v ∷ vs) ≡ (32 ∷ run_word run) ++ runs_text (once v) vs
text_other run v vs h =
    ap (λ l. spaced (map run_word l)) (merged_other run v (runs_of vs) h ∙ ap (λ l. run ∷ l) (merged_once v (runs_of vs)))
    ∙ words_of run (merged (once v) (runs_of vs))

drop_here : (vs : List Span) (i : ℕ) (v : Span) → slice_get vs i ≡ Some v → drop i vs ≡ v ∷ drop (i + 1) vs
drop_here vs i v h = drop_more vs i v (slice_get_within vs i v h) ∙ ap (λ w. w ∷ drop (i + 1) vs) (get_or_from_slice_get vs i v v h)

-- an equal value makes the run longer
pub same_run : (bytes : List ℕ) (run : Run) (v : Span) (vs : List Span) → same_span run.value v ≡ true →
    bytes ++ runs_text (record { value = run.value; count = run.count + 1 }) vs ≡ bytes ++ runs_text run (v ∷ vs)
same_run bytes run v vs h = ap (λ l. bytes ++ l) (text_same run v vs h)

-- before another value the run is written
pub next_run : (bytes after : List ℕ) (run : Run) (v : Span) (vs : List Span) → same_span run.value v ≡ false → after ≡ bytes ++ 32 ∷ run_word run →
    after ++ runs_text (record { value = v; count = 1 }) vs ≡ bytes ++ runs_text run (v ∷ vs)
next_run bytes after run v vs h e =
    ap (λ l. l ++ runs_text (once v) vs) e
    ∙ (append_assoc bytes (32 ∷ run_word run) (runs_text (once v) vs) ∙ ap (λ l. bytes ++ l) (sym (text_other run v vs h)))

-- the value at i is behind the run
pub keep_runs : (bytes after all : List ℕ) (vs : List Span) (i : ℕ) (run next : Run) (v : Span) → slice_get vs i ≡ Some v →
    ((us : List Span) → after ++ runs_text next us ≡ bytes ++ runs_text run (v ∷ us)) → bytes ++ runs_text run (drop i vs) ≡ all →
    after ++ runs_text next (drop (i + 1) vs) ≡ all
keep_runs bytes after all vs i run next v h f k =
    f (drop (i + 1) vs) ∙ (ap (λ l. bytes ++ runs_text run l) (sym (drop_here vs i v h)) ∙ k)

-- the first value begins the first run
pub begin_runs : (bytes : List ℕ) (vs : List Span) (v : Span) → slice_get vs 0 ≡ Some v →
    bytes ++ runs_text (record { value = v; count = 1 }) (drop 1 vs) ≡ bytes ++ spaced (map run_word (runs_of vs))
begin_runs bytes vs v h =
    ap (λ l. bytes ++ l) (ap (λ l. spaced (map run_word l)) (sym (merged_once v (runs_of (drop 1 vs)))) ∙ ap (λ l. spaced (map run_word (runs_of l))) (sym (drop_here vs 0 v h)))

-- the last run is written
pub end_runs : (bytes all : List ℕ) (vs : List Span) (i : ℕ) (run : Run) → i ≡ length vs → bytes ++ runs_text run (drop i vs) ≡ all → bytes ++ 32 ∷ run_word run ≡ all
end_runs bytes all vs i run e k =
    ap (λ l. bytes ++ l) (sym (append-nil (32 ∷ run_word run)) ∙ (sym (words_of run []) ∙ ap (λ l. runs_text run l) (sym (ap (λ n. drop n vs) e ∙ drop-length vs)))) ∙ k

-- a value more that stands alone
pub values_more : (bytes after all : List ℕ) (vs : List Span) (i : ℕ) (v : Span) → slice_get vs i ≡ Some v →
    bytes ≡ all ++ spaced (map run_word (map once (take i vs))) → after ≡ bytes ++ 32 ∷ span_word v → after ≡ all ++ spaced (map run_word (map once (take (i + 1) vs)))
values_more bytes after all vs i v h e k =
    k ∙ (ap (λ l. l ++ 32 ∷ span_word v) e ∙ (append_assoc all (spaced (map run_word (map once (take i vs)))) (32 ∷ span_word v) ∙ ap (λ l. all ++ l) (sym more)))
  where
    more : spaced (map run_word (map once (take (i + 1) vs))) ≡ spaced (map run_word (map once (take i vs))) ++ 32 ∷ span_word v
    more =
        ap (λ l. spaced (map run_word (map once l))) (take_more vs i v (slice_get_within vs i v h) ∙ ap (λ w. take i vs ++ w ∷ []) (get_or_from_slice_get vs i v v h))
        ∙ (ap (λ l. spaced (map run_word l)) (map_push once (take i vs) v)
        ∙ (ap (λ l. spaced l) (map_push run_word (map once (take i vs)) (once v))
        ∙ (flat_map-append (λ w. 32 ∷ w) (map run_word (map once (take i vs))) (span_word v ∷ [])
        ∙ ap (λ l. spaced (map run_word (map once (take i vs))) ++ l) (append-nil (32 ∷ span_word v)))))
