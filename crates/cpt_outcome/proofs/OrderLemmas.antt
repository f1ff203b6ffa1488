-- a leaf's plan in any order
use Rattle.std.proofs.Common.{◌≡◌, ◌≢◌, ℕ, ◌+◌, ◌-◌, ◌<◌, ◌⊎◌, inl, inr, List, length, drop, get_or, refl, sym, ap, ◌∙◌, arith, length-drop}
use Rattle.std.specs.List.{swap}
use Rattle.std.specs.List.Sorted.{IsPermutation}
use Rattle.std.proofs.lemmas.Bool.{cases_eq}
use Rattle.std.proofs.lemmas.Option.{unwrap_or-slice_get}
use Rattle.std.proofs.lemmas.List.{get_or-map, get_or-drop, length-map}
use Rattle.std.proofs.lemmas.List.Edits.{swapped_from_swap, length-swap}
use Rattle.std.proofs.lemmas.List.Elements.{recursion_from_All}
use Rattle.std.proofs.lemmas.List.Sorted.{IsPermutation-keeps}
use Rattle.cpt_task.specs.declared.plan.Occ.{Occ}
use Rattle.cpt_task.specs.declared.span.Span.TheVariants.{At}
use Rattle.cpt_task.specs.Shape.{TaskShape}
use Rattle.cpt_task.specs.Timeline.{occurrence_at}
use Rattle.cpt_sheet.specs.declared.data.Cand.TheVariants.{Tok}
use Rattle.cpt_sheet.specs.declared.data.Kind.TheVariants.{Act}
use Rattle.cpt_sheet.specs.declared.data.Sheet.{Sheet}
use Rattle.cpt_sheet.specs.Edits.{moment_or}
use Rattle.cpt_sheet.specs.Formed.{IsFormed}
use Rattle.cpt_sheet.specs.Live.{IsLive, IsLiveToken}
use Rattle.cpt_sheet.specs.View.{lo, hi, kind_of, token_at, no_token}
use Rattle.cpt_calculus.proofs.Below.{at_within}
use Rattle.cpt_outcome.specs.Leaves.{IsTokenMap, act_of, occurrence_of, token_occurrences, LeafPlansValid}
use Rattle.cpt_outcome.proofs.LeafLemmas.{finite, leaf-valid}

-- the plan of a leaf

-- in the order of the tokens
module _ (t : TaskShape) (u : Sheet) (formed : IsFormed t u) (live : IsLive u) where
  count : length (token_occurrences u) ≡ length u.tokens - 2
  count = length-map (drop 2 u.tokens) occurrence_of ∙ length-drop 2 u.tokens

  here : (i : ℕ) → i < length (token_occurrences u) → occurrence_at (token_occurrences u) i ≡ occurrence_of (token_at u (i + 2))
  here i lt =
      let l : i < length (drop 2 u.tokens) = omega (arith, count, length-drop 2 u.tokens) in
      let e : 2 + i ≡ i + 2 = omega arith in
      get_or-map occurrence_of (drop 2 u.tokens) i no_token (record { act = 0; start = 0 }) l
      ∙ ap occurrence_of (get_or-drop 2 u.tokens i no_token ∙ (ap (λ k. get_or u.tokens k no_token) e ∙ sym (unwrap_or-slice_get u.tokens (i + 2) no_token)))

  in-order : IsTokenMap u (token_occurrences u) (λ i. i + 2)
  in-order = record {
    token = λ i lt. (omega arith, omega (arith, count));
    act = λ i lt. act i lt;
    start = λ i lt. start i lt;
    apart = λ i j li lj e. omega arith;
    whole = λ x low high. (x - 2, omega (arith, count), omega arith);
  }
    where
      act : (i : ℕ) → i < length (token_occurrences u) → kind_of u (Tok (i + 2)) ≡ Act (occurrence_at (token_occurrences u) i).act
      act i lt =
          let a = formed.actions (i + 2) (omega arith) (omega (arith, count)) in
          a.1 ∙ ap Act (sym (ap (λ (o : Occ). o.act) (here i lt) ∙ ap act_of a.1))

      start : (i : ℕ) → i < length (token_occurrences u) → lo u (Tok (i + 2)) ≡ At (occurrence_at (token_occurrences u) i).start
      start i lt =
          let s = finite (lo u (Tok (i + 2))) (hi u (Tok (i + 2))) (at_within u.tokens no_token IsLiveToken (i + 2) (recursion_from_All IsLiveToken u.tokens live) (omega (arith, count))).0 in
          s.1 ∙ ap At (sym (ap (λ (o : Occ). o.start) (here i lt) ∙ ap (λ v. moment_or v 0) s.1))

-- two places exchanged
data Exchange (a b k m : ℕ) : Type 0 where
  to_last : k ≡ a → m ≡ b → Exchange a b k m
  to_first : k ≢ a → k ≡ b → m ≡ a → Exchange a b k m
  stays : k ≢ a → k ≢ b → m ≡ k → Exchange a b k m

exchange : (a b k : ℕ) → (m : ℕ) × Exchange a b k m
exchange a b k = go (cases_eq k a) (cases_eq k b)
  where
    go : (k ≡ a) ⊎ (k ≢ a) → (k ≡ b) ⊎ (k ≢ b) → (m : ℕ) × Exchange a b k m
    go (inl e) q = (b, to_last e refl)
    go (inr n) (inl e) = (a, to_first n e refl)
    go (inr n) (inr o) = (k, stays n o refl)

-- twice is back
back : (a b k m n : ℕ) → Exchange a b k m → Exchange a b m n → n ≡ k
back a b k m n (to_last e f) (to_last g h) = cc
back a b k m n (to_last e f) (to_first g h i) = cc
back a b k m n (to_last e f) (stays g h i) = absurd (h f)
back a b k m n (to_first e f g) (to_last h i) = cc
back a b k m n (to_first e f g) (to_first h i j) = absurd (h g)
back a b k m n (to_first e f g) (stays h i j) = absurd (h g)
back a b k m n (stays e f g) (to_last h i) = absurd (e (sym g ∙ h))
back a b k m n (stays e f g) (to_first h i j) = absurd (f (sym g ∙ i))
back a b k m n (stays e f g) (stays h i j) = j ∙ g

module _ (u : Sheet) (l : List Occ) (a b : ℕ) (la : a < length l) (lb : b < length l) (g : ℕ → ℕ) (leaf : IsTokenMap u l g) where
  to : ℕ → ℕ
  to k = (exchange a b k).0

  inside : (k : ℕ) → k < length l → (exchange a b k).0 < length l
  inside k lt = go ((exchange a b k).0) ((exchange a b k).1)
    where
      go : (m : ℕ) → Exchange a b k m → m < length l
      go m (to_last e f) = omega (arith, f)
      go m (to_first n e f) = omega (arith, f)
      go m (stays n o f) = omega (arith, f)

  moved : (k : ℕ) → occurrence_at (swap l a b) k ≡ occurrence_at l ((exchange a b k).0)
  moved k = go ((exchange a b k).0) ((exchange a b k).1)
    where
      s : (occurrence_at (swap l a b) a ≡ occurrence_at l b) × (occurrence_at (swap l a b) b ≡ occurrence_at l a) × ((m : ℕ) → (m ≡ a → ⊥) → (m ≡ b → ⊥) → occurrence_at (swap l a b) m ≡ occurrence_at l m)
      s = swapped_from_swap l (swap l a b) a b (record { act = 0; start = 0 }) la lb refl

      go : (m : ℕ) → Exchange a b k m → occurrence_at (swap l a b) k ≡ occurrence_at l m
      go m (to_last e f) = ap (occurrence_at (swap l a b)) e ∙ (s.0 ∙ ap (occurrence_at l) (sym f))
      go m (to_first n e f) = ap (occurrence_at (swap l a b)) e ∙ (s.1 ∙ ap (occurrence_at l) (sym f))
      go m (stays n o f) = s.2 k n o ∙ ap (occurrence_at l) (sym f)

  long : (k : ℕ) → k < length (swap l a b) → k < length l
  long k lt = omega (arith, length-swap l a b)

  swapped : IsTokenMap u (swap l a b) (λ k. g ((exchange a b k).0))
  swapped = record {
    token = λ i lt. leaf.token ((exchange a b i).0) (inside i (long i lt));
    act = λ i lt. leaf.act ((exchange a b i).0) (inside i (long i lt)) ∙ ap (λ (o : Occ). Act o.act) (sym (moved i));
    start = λ i lt. leaf.start ((exchange a b i).0) (inside i (long i lt)) ∙ ap (λ (o : Occ). At o.start) (sym (moved i));
    apart = λ i j li lj e. same i j (leaf.apart ((exchange a b i).0) ((exchange a b j).0) (inside i (long i li)) (inside j (long j lj)) e);
    whole = λ x low high. let w = leaf.whole x low high in
        ((exchange a b w.0).0, omega (arith, length-swap l a b, inside w.0 w.1), ap g (back a b w.0 ((exchange a b w.0).0) ((exchange a b ((exchange a b w.0).0)).0) ((exchange a b w.0).1) ((exchange a b ((exchange a b w.0).0)).1)) ∙ w.2);
  }
    where
      same : (i j : ℕ) → (exchange a b i).0 ≡ (exchange a b j).0 → i ≡ j
      same i j e =
          let p = back a b i ((exchange a b i).0) ((exchange a b ((exchange a b i).0)).0) ((exchange a b i).1) ((exchange a b ((exchange a b i).0)).1) in
          let q = back a b j ((exchange a b j).0) ((exchange a b ((exchange a b j).0)).0) ((exchange a b j).1) ((exchange a b ((exchange a b j).0)).1) in
          sym p ∙ (ap (λ m. (exchange a b m).0) e ∙ q)

-- the occurrences of the action tokens, in any order
pub token-map : (t : TaskShape) (u : Sheet) (plan : List Occ) → IsFormed t u → IsLive u → IsPermutation (token_occurrences u) plan → (g : ℕ → ℕ) × IsTokenMap u plan g
token-map t u plan formed live perm = IsPermutation-keeps (token_occurrences u) (λ l. (g : ℕ → ℕ) × IsTokenMap u l g) ((λ i. i + 2), in-order t u formed live) (λ l i j li lj h. ((λ k. h.0 ((exchange i j k).0)), swapped u l i j li lj h.0 h.1)) plan perm

pub leaf-plans-valid : LeafPlansValid
leaf-plans-valid t b u plan h perm = let m = token-map t u plan h.formed h.live perm in leaf-valid t b u plan m.0 h m.1
