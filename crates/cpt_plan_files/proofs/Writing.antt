use Rattle.std.proofs.Common.{◌≡◌, ℕ, ◌+◌, ◌<◌, List, [], ◌++◌, length, get_or, take, sym, ap, ◌∙◌}
use Rattle.std.specs.List.{flat_map}
use Rattle.std.proofs.lemmas.List.{flat_map_more, take_more}
use Rattle.cpt_task.specs.declared.plan.Occ.{Occ}
use Rattle.cpt_task.specs.Shape.{TaskShape}
use Rattle.cpt_task.specs.Timeline.{makespan, occurrence_at}
use Rattle.cpt_plan_text.specs.Spelling.{IsTextOf}
use Rattle.cpt_tighten.specs.Chains.{IsChain}
use Rattle.cpt_tighten.specs.Schedules.{IsEarliest}
use Rattle.cpt_plan_files.specs.Texts.{critical_line, critical_lines, makespan_line, IsTightText}

-- the parts of the text, one after the other
pub whole_text : (t : TaskShape) (plan tight : List Occ) (chain lines last critical first text : List ℕ) (m : ℕ) → IsEarliest t plan tight → IsChain t plan tight chain → m ≡ makespan t tight → IsTextOf t tight lines
    → last ≡ makespan_line m → critical ≡ critical_lines t tight chain → first ≡ lines ++ last → text ≡ first ++ critical → IsTightText t plan text
whole_text t plan tight chain lines last critical first text m earliest links is spelled a b c d = record {
  tight = tight;
  chain = chain;
  lines = lines;
  earliest = earliest;
  links = links;
  spelled = spelled;
  is = d ∙ ap (λ xs. xs ++ critical) (c ∙ ap (λ xs. lines ++ xs) (a ∙ ap makespan_line is)) ∙ ap (λ xs. lines ++ makespan_line (makespan t tight) ++ xs) b;
}

-- one more line of the chain
pub critical_more : (t : TaskShape) (plan : List Occ) (chain old new : List ℕ) (o : Occ) (i : ℕ) → i < length chain → old ≡ critical_lines t plan (take i chain) → o ≡ occurrence_at plan (get_or chain i 0) → new ≡ old ++ critical_line t o
    → new ≡ critical_lines t plan (take (i + 1) chain)
critical_more t plan chain old new o i lt before is more =
    let line : ℕ → List ℕ = λ k. critical_line t (occurrence_at plan k) in
    more ∙ ap (λ xs. xs ++ critical_line t o) before ∙ ap (λ q. critical_lines t plan (take i chain) ++ critical_line t q) is ∙ flat_map_more line [] (take i chain) (get_or chain i 0)
    ∙ ap (flat_map line) (sym (take_more chain i 0 lt))
