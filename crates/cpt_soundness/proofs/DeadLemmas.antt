-- a dead sheet admits no plan
use Rattle.std.proofs.Common.{◌≡◌, ℕ, suc, zero, ◌<◌, ◌==◌, List, [], ◌∷◌, map, true, false, if◌then◌else◌, length, get_or, AllPairs, Contains, refl, sym, ◌∙◌, ap, subst, arith, inl, inr}
use Rattle.std.specs.List.Sorted.{IsStrictlyIncreasing}
use Rattle.std.proofs.lemmas.Bool.{eq-eqb, ne_eqb, or_left, or_right}
use Rattle.std.proofs.lemmas.List.{get_or-map}
use Rattle.std.proofs.lemmas.List.Kept.{AllPairs-from_increasing}
use Rattle.std.proofs.lemmas.Option.{unwrap_or-slice_get}
use Rattle.std.proofs.lemmas.List.{get_or_default}
use Rattle.cpt_task.specs.declared.span.Span.TheVariants.{At}
use Rattle.cpt_task.specs.Shape.{TaskShape}
use Rattle.cpt_task.specs.Timeline.{idle}
use Rattle.cpt_tables.proofs.SpanLemmas.{le_trans, lt_not_le}
use Rattle.cpt_sheet.specs.declared.data.Cand.{Cand}
use Rattle.cpt_sheet.specs.declared.data.Cand.TheVariants.{Tok}
use Rattle.cpt_sheet.specs.declared.data.Kind.{Kind}
use Rattle.cpt_sheet.specs.declared.data.Kind.TheVariants.{Start, End, Act}
use Rattle.cpt_sheet.specs.declared.data.Need.{Need}
use Rattle.cpt_sheet.specs.declared.data.Token.{Token}
use Rattle.cpt_sheet.specs.Roles.{needs_of, IsKindOf}
use Rattle.cpt_sheet.specs.Live.{IsDead, IsDeadToken, IsShut}
use Rattle.cpt_sheet.specs.View.{no_token, token_at, lo, hi, kind_of, list_for, has_atom, has}
use Rattle.cpt_sheet.proofs.FormedLemmas.{kind_there}
use Rattle.cpt_calculus.specs.Plans.{begins, who}
use Rattle.cpt_soundness.specs.Sets.{HasSets}
use Rattle.cpt_soundness.specs.Laws.{DeadAdmitsNone}
use Rattle.cpt_calculus.proofs.Below.{list_cons}
use Rattle.cpt_soundness.proofs.ActingLemmas as acting

-- of needs for different atoms each is read by its atom
list_there : (ns : List Need) → AllPairs (λ x y. x < y) (map (λ (n : Need). n.atom) ns) → (i : ℕ) → i < length ns → (n : Need) → get_or ns i n ≡ n → (has_atom n.atom ns ≡ true) × (list_for n.atom ns ≡ n.cands)
list_there [] pairs i l n e = absurd (omega arith)
list_there (m ∷ ns) pairs zero l n e =
    let k : m ≡ n = e in
    let q : (m.atom == n.atom) ≡ true = eq-eqb m.atom n.atom (ap (λ (z : Need). z.atom) k) in (
      or_left (m.atom == n.atom) (has_atom n.atom ns) q,
      list_cons n.atom m ns ∙ subst (λ c. (if c then m.cands else list_for n.atom ns) ≡ n.cands) (sym q) (ap (λ (z : Need). z.cands) k),
    )
list_there (m ∷ ns) pairs (suc i) l n e =
    let low : i < length ns = omega arith in
    let ih = list_there ns (λ j k d x y. pairs (suc j) (suc k) d (omega arith) (omega arith)) i low n e in
    let here : get_or (map (λ (z : Need). z.atom) ns) i 0 ≡ n.atom = get_or-map (λ (z : Need). z.atom) ns i n 0 low ∙ ap (λ (z : Need). z.atom) e in
    let less : m.atom < get_or (map (λ (z : Need). z.atom) ns) i 0 = pairs 0 (suc i) 0 (omega arith) (long ns (omega arith)) in
    let q : (m.atom == n.atom) ≡ false = ne_eqb m.atom n.atom (λ k. omega (arith, here, less, k)) in (
      or_right (m.atom == n.atom) (has_atom n.atom ns) ih.0,
      list_cons n.atom m ns ∙ subst (λ c. (if c then m.cands else list_for n.atom ns) ≡ n.cands) (sym q) ih.1,
    )
  where
    count : (ns : List Need) → length (map (λ (z : Need). z.atom) ns) ≡ length ns
    count [] = refl
    count (x ∷ ns) = ap suc (count ns)

    long : (ns : List Need) → i < length ns → suc i < length (m.atom ∷ map (λ (z : Need). z.atom) ns)
    long ns l = let c = count ns in omega (arith, c, l)

-- what is needed is listed once each
needs_once : (t : TaskShape) (k : Kind) → HasSets t → IsKindOf t k → IsStrictlyIncreasing (needs_of t k)
needs_once t Start sets k = λ i l. absurd (omega arith)
needs_once t End sets k = sets.goal
needs_once t (Act a) sets k = sets.pre a idle k

pub dead_admits_none : DeadAdmitsNone
dead_admits_none t b s plan f sets ok formed dead valid h = go dead
  where
    there : (x : ℕ) → x < length s.tokens → (z : Token) → get_or s.tokens x z ≡ z → token_at s x ≡ z
    there x l z e = unwrap_or-slice_get s.tokens x no_token ∙ (get_or_default s.tokens x no_token z l ∙ e)

    shut : (x : ℕ) → x < length s.tokens → IsShut (token_at s x).span → ⊥
    shut x l k =
        let i = h.spans (Tok x) (who f s x) (l, refl) in
        lt_not_le (At (hi s (Tok x))) (lo s (Tok x)) k (le_trans (lo s (Tok x)) (At (begins t plan (who f s x))) (At (hi s (Tok x))) i.0 i.1)

    empty : (x : ℕ) → x < length s.tokens → ((n : Need) × Contains (token_at s x).lists n × (n.cands ≡ [])) → ⊥
    empty x l k =
        let n = k.0 in
        let c = k.1 in
        let inc = AllPairs-from_increasing (needs_of t (kind_of s (Tok x))) (needs_once t (kind_of s (Tok x)) sets (kind_there t s x formed)) in
        let r = list_there (token_at s x).lists (subst (λ ps. AllPairs (λ u v. u < v) ps) (sym (formed.needs x l)) inc) c.0 c.1 n c.2 in
        let q = acting.named t b plan ok valid f s formed h x n.atom r.0 in
        none q.0 (subst (λ cs. has q.0 cs ≡ true) (r.1 ∙ k.2) q.4)
      where
        none : (c : Cand) → has c [] ≡ true → ⊥
        none c e = cc

    dead_at : (x : ℕ) → x < length s.tokens → IsDeadToken (token_at s x) → ⊥
    dead_at x l (inl k) = shut x l k
    dead_at x l (inr k) = empty x l k

    go : IsDead s → ⊥
    go d = let c = d.1 in dead_at c.0 c.1 (subst IsDeadToken (sym (there c.0 c.1 d.0 c.2)) d.2)
