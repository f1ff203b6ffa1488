-- the children of a list and the occurrences of the tokens, one more at a time
use Rattle.std.proofs.Common.{◌≡◌, ℕ, ◌+◌, ◌-◌, ◌≤◌, ◌<◌, List, [], ◌∷◌, ◌++◌, length, map, take, drop, get_or, slice_get, unwrap_or, Some, refl, subst, sym, ap, ◌∙◌, arith, length-drop}
use Rattle.std.proofs.lemmas.List.{get_or-drop, take_more, map-append}
use Rattle.std.proofs.lemmas.Option.{get_or_from_slice_get, slice_get_within, unwrap_or-slice_get}
use Rattle.cpt_task.specs.declared.plan.Occ.{Occ}
use Rattle.cpt_sheet.specs.declared.data.Cand.{Cand}
use Rattle.cpt_sheet.specs.declared.data.Decision.{Decision}
use Rattle.cpt_sheet.specs.declared.data.Sheet.{Sheet}
use Rattle.cpt_sheet.specs.declared.data.Token.{Token}
use Rattle.cpt_sheet.specs.View.{no_token, token_at}
use Rattle.cpt_calculus.specs.Flaws.{choice}
use Rattle.cpt_outcome.specs.Leaves.{occurrence_of}

one-more : (ts : List Token) (k n : ℕ) → n ≡ 2 + k → n < length ts → take (k + 1) (drop 2 ts) ≡ take k (drop 2 ts) ++ unwrap_or (slice_get ts n) no_token ∷ []
one-more ts k n e lt =
    take_more (drop 2 ts) k no_token (omega (arith, length-drop 2 ts)) ∙
    ap (λ z. take k (drop 2 ts) ++ z ∷ []) (get_or-drop 2 ts k no_token ∙ (ap (λ z. get_or ts z no_token) (sym e) ∙ sym (unwrap_or-slice_get ts n no_token)))

pub occurrences-more : (s : Sheet) (n : ℕ) (made after : List Occ) (o : Occ) → 2 ≤ n → n < length s.tokens → made ≡ map occurrence_of (take (n - 2) (drop 2 s.tokens)) → after ≡ made ++ o ∷ [] → o ≡ occurrence_of (token_at s n) →
    after ≡ map occurrence_of (take (n + 1 - 2) (drop 2 s.tokens))
occurrences-more s n made after o two lt done more e =
    let k : ℕ = n - 2 in
    let step : take (n + 1 - 2) (drop 2 s.tokens) ≡ take k (drop 2 s.tokens) ++ token_at s n ∷ [] = ap (λ z. take z (drop 2 s.tokens)) (omega arith) ∙ one-more s.tokens k n (omega arith) lt in
    more ∙ (ap (λ z. z ++ o ∷ []) done ∙ (ap (λ z. map occurrence_of (take k (drop 2 s.tokens)) ++ z ∷ []) e ∙ sym (ap (map occurrence_of) step ∙ map-append occurrence_of (take k (drop 2 s.tokens)) (token_at s n ∷ []))))

-- an occurrence by its parts
pub occurrence-by : (o : Occ) (a m : ℕ) → o.act ≡ a → o.start ≡ m → o ≡ record { act = a; start = m }
occurrence-by o a m e f = subst (λ z. o ≡ record { act = z; start = m }) e (subst (λ z. o ≡ record { act = o.act; start = z }) f refl)

pub choices-more : (x p k : ℕ) (cs : List Cand) (made after : List Decision) (c : Cand) (d : Decision) → slice_get cs k ≡ Some c → made ≡ map (choice x p) (take k cs) → after ≡ made ++ d ∷ [] → d ≡ choice x p c →
    after ≡ map (choice x p) (take (k + 1) cs)
choices-more x p k cs made after c d at done more e =
    let step : take (k + 1) cs ≡ take k cs ++ c ∷ [] = take_more cs k c (slice_get_within cs k c at) ∙ ap (λ z. take k cs ++ z ∷ []) (get_or_from_slice_get cs k c c at) in
    more ∙ (ap (λ z. z ++ d ∷ []) done ∙ (ap (λ z. map (choice x p) (take k cs) ++ z ∷ []) e ∙ sym (ap (map (choice x p)) step ∙ map-append (choice x p) (take k cs) (c ∷ []))))
