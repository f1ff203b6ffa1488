use Rattle.std.proofs.Common.{◌≡◌, ℕ, zero, suc, ◌+◌, ◌<◌, ◌≤◌, max, ◌∷◌, [], true, List, length, drop, All, inl, inr, ap, ◌∙◌, subst, arith}
use Rattle.std.specs.Prelude.{slice_index}
use Rattle.std.proofs.lemmas.Bool.{cases_eq, eq-eqb, ne_eqb}
use Rattle.std.proofs.lemmas.List.Elements.{All-cons, All-nil}
use Rattle.cpt_declared.specs.Kinds.{has}
use Rattle.cpt_domain_spelling.specs.Siblings.{AreByFirstPlace, AreSiblings, IsArranged, NoneTwice, entries, mentions, one_by_one}
use Rattle.cpt_domain_spelling.proofs.ItemLemmas.{unless, when}

entry_at : (kind : ℕ) (parents : List ℕ) (i : ℕ) → i < length (entries (one_by_one kind parents)) → slice_index (entries (one_by_one kind parents)) i ≡ kind + i
entry_at kind [] i lt = absurd (omega arith)
entry_at kind (parent ∷ parents) zero lt = omega arith
entry_at kind (parent ∷ parents) (suc i) lt = let more = entry_at (kind + 1) parents i (omega arith) in omega (arith, more)

apart : (kind : ℕ) (parents : List ℕ) → NoneTwice (entries (one_by_one kind parents))
apart kind parents i j lt within same =
    let a = entry_at kind parents i (omega arith) in
    let b = entry_at kind parents j within in
    omega (arith, a, b, same, lt)

entered : (kind : ℕ) (parents : List ℕ) (k : ℕ) → kind ≤ k → k < kind + length parents → has (entries (one_by_one kind parents)) k ≡ true
entered kind [] k le lt = absurd (omega arith)
entered kind (parent ∷ parents) k le lt =
    elim (cases_eq kind k) [
      | inl e ↦ when _ _ (eq-eqb kind k e)
      | inr ne ↦ unless _ _ (ne_eqb kind k ne) ∙ entered (kind + 1) parents k (omega (arith, le, ne)) (omega (arith, lt))
    ]

in_order : (kind : ℕ) (parents : List ℕ) → ((i : ℕ) → i < length parents → slice_index parents i < kind + i) → AreByFirstPlace kind (mentions (one_by_one kind parents))
in_order kind [] h = tt
in_order kind (parent ∷ parents) h =
    let first : parent < kind = let z = h 0 (omega arith) in omega (arith, z) in
    let next : kind + 1 ≡ max (max kind (kind + 1)) (parent + 1) = omega (arith, first) in
    let le : kind ≤ kind = omega arith in
    let up : parent ≤ max kind (kind + 1) = omega (arith, first) in
    (le, (up, subst (λ n. AreByFirstPlace n (mentions (one_by_one (kind + 1) parents))) next (in_order (kind + 1) parents (λ i lt. let z = h (suc i) (omega arith) in omega (arith, z)))))

siblings : (whole : List ℕ) (kind : ℕ) (parents : List ℕ) → 0 < kind → length whole ≡ kind + length parents → ((i : ℕ) → i < length parents → slice_index whole (kind + i) ≡ slice_index parents i)
    → All (AreSiblings whole) (one_by_one kind parents)
siblings whole kind [] some n h = All-nil (AreSiblings whole)
siblings whole kind (parent ∷ parents) some n h =
    let here : kind ≡ kind + 0 = omega arith in
    let own : slice_index whole kind ≡ parent = ap (slice_index whole) here ∙ h 0 (omega arith) in
    All-cons (AreSiblings whole) (record { kinds = kind ∷ []; parent = parent }) (one_by_one (kind + 1) parents)
    (record {
      some = omega arith;
      real = All-cons (λ k. (0 < k) × (k < length whole)) kind [] (some, omega (arith, n)) (All-nil (λ k. (0 < k) × (k < length whole)));
      same = All-cons (λ k. slice_index whole k ≡ parent) kind [] own (All-nil (λ k. slice_index whole k ≡ parent));
    })
    (siblings whole (kind + 1) parents (omega arith) (omega (arith, n)) (λ i lt. let e : (kind + 1) + i ≡ kind + suc i = omega arith in ap (slice_index whole) e ∙ h (suc i) (omega arith)))

-- where each type but the first has a lesser one for its parent, the types can stand one by one
pub lesser_stand : (parents : List ℕ) → ((kind : ℕ) → 0 < kind → kind < length parents → slice_index parents kind < kind) → IsArranged parents (one_by_one 1 (drop 1 parents))
lesser_stand [] h = record { siblings = All-nil (AreSiblings []); once = apart 1 []; whole = λ k some lt. absurd (omega arith); first = tt }
lesser_stand (root ∷ parents) h =
    let shift : (i : ℕ) → slice_index (root ∷ parents) (1 + i) ≡ slice_index parents i = λ i. let e : 1 + i ≡ suc i = omega arith in ap (slice_index (root ∷ parents)) e in
    record {
      siblings = siblings (root ∷ parents) 1 parents (omega arith) (omega arith) (λ i lt. shift i);
      once = apart 1 parents;
      whole = λ k some lt. entered 1 parents k (omega arith) (omega arith);
      first = in_order 1 parents (λ i lt. let z = h (1 + i) (omega arith) (omega arith) in let e = shift i in omega (arith, z, e));
    }
