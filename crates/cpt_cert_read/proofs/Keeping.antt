-- What is kept of a line.
use Rattle.std.proofs.Common.{◌≡◌, ◌≢◌, ℕ, ◌+◌, ◌-◌, ◌≤◌, Bool, true, false, cond, eqb, List, [], ◌∷◌, ◌++◌, length, take, Option, None, Some, option_map, refl, ap, subst, ◌∙◌, sym, arith}
use Rattle.std.proofs.Math.Seq.{take-append-add, take-append_seam}
use Rattle.std.proofs.lemmas.Bool.{eqb-true, eqb-false}
use Rattle.std.proofs.lemmas.List.Elements.{All-nil, All-cons}
use Rattle.cpt_cert_read.specs.Lines.{kept, HasNoEnd}
use Rattle.cpt_cert_read.specs.Reading.{cut}
use Rattle.cpt_cert_read.proofs.Parts.{some_is}

-- bytes that are kept, and more as far as there is room
pub kept_more : (old more : List ℕ) → length old ≤ 65537 → kept (old ++ more) ≡ old ++ take (65537 - length old) more
unfolding kept
kept_more old more few =
    let sum : length old + (65537 - length old) ≡ 65537 = omega (arith, few) in
    ap (λ n. take n (old ++ more)) (sym sum) ∙ take-append-add old more (65537 - length old)

-- the bytes that were kept before
pub kept_before : (old more : List ℕ) → length old ≤ 65537 → take (length old) (kept (old ++ more)) ≡ old
kept_before old more few = ap (λ (x : List ℕ). take (length old) x) (kept_more old more few) ∙ take-append_seam old (take (65537 - length old) more)

pub cut_open : (bs : List ℕ) → cut 10 bs ≡ None → HasNoEnd bs
cut_open [] e = All-nil (λ b. b ≢ 10)
cut_open (b ∷ bs) e = by_test (cut_open bs) (eqb b 10) (cut 10 bs) refl refl e
  where
    by_test : (cut 10 bs ≡ None → HasNoEnd bs) → (t : Bool) (o : Option (List ℕ × List ℕ)) → eqb b 10 ≡ t → cut 10 bs ≡ o → cond {A = Option (List ℕ × List ℕ)} t (Some ([], bs)) (option_map (λ (p : List ℕ × List ℕ). (b ∷ p.0, p.1)) o) ≡ None → HasNoEnd (b ∷ bs)
    by_test more true o same found e = absurd cc
    by_test more false None same found e = All-cons (λ b. b ≢ 10) b bs (eqb-false b 10 same) (more found)
    by_test more false (Some q) same found e = absurd cc

-- the piece ends a line behind these bytes
pub record Ends (piece body rest : List ℕ) : Type 0 where
  pub is : piece ≡ body ++ 10 ∷ rest
  pub unended : HasNoEnd body

pub cut_ends : (bs w k : List ℕ) → cut 10 bs ≡ Some (w, k) → Ends bs w k
cut_ends [] w k e = absurd cc
cut_ends (b ∷ bs) w k e = by_test (cut_ends bs) (eqb b 10) (cut 10 bs) refl refl e
  where
    by_test : ((v s : List ℕ) → cut 10 bs ≡ Some (v, s) → Ends bs v s) → (t : Bool) (o : Option (List ℕ × List ℕ)) → eqb b 10 ≡ t → cut 10 bs ≡ o → cond {A = Option (List ℕ × List ℕ)} t (Some ([], bs)) (option_map (λ (p : List ℕ × List ℕ). (b ∷ p.0, p.1)) o) ≡ Some (w, k) → Ends (b ∷ bs) w k
    by_test more true o same found e =
        let none : List ℕ × List ℕ = ([], bs) in
        let p : none ≡ (w, k) = some_is none (w, k) e in
        let body : [] ≡ w = ap (λ (x : List ℕ × List ℕ). x.0) p in
        record {
          is = ap (λ x. x ∷ bs) (eqb-true b 10 same) ∙ ap (λ (x : List ℕ × List ℕ). x.0 ++ 10 ∷ x.1) p;
          unended = subst HasNoEnd body (All-nil (λ b. b ≢ 10));
        }
    by_test more false None same found e = absurd cc
    by_test more false (Some q) same found e =
        let m = more q.0 q.1 found in
        let all : List ℕ × List ℕ = (b ∷ q.0, q.1) in
        let p : all ≡ (w, k) = some_is all (w, k) e in
        let body : b ∷ q.0 ≡ w = ap (λ (x : List ℕ × List ℕ). x.0) p in
        record {
          is = ap (λ (x : List ℕ). b ∷ x) m.is ∙ ap (λ (x : List ℕ × List ℕ). x.0 ++ 10 ∷ x.1) p;
          unended = subst HasNoEnd body (All-cons (λ b. b ≢ 10) b q.0 (eqb-false b 10 same) m.unended);
        }
