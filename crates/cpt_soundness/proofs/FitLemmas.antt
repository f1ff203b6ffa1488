-- the children of a flaw of a formed sheet fit
use Rattle.std.proofs.Common.{◌≡◌, ℕ, suc, zero, List, [], ◌∷◌, map, true, Contains, sym, subst, arith}
use Rattle.std.proofs.lemmas.Bool.{or_left, or_right}
use Rattle.cpt_task.specs.Shape.{TaskShape}
use Rattle.cpt_sheet.specs.declared.data.Cand.{Cand}
use Rattle.cpt_sheet.specs.declared.data.Cand.TheVariants.{Tok, Out}
use Rattle.cpt_sheet.specs.declared.data.Sheet.{Sheet}
use Rattle.cpt_sheet.specs.declared.data.Decision.{Decision}
use Rattle.cpt_sheet.specs.declared.data.Decision.TheVariants.{Before}
use Rattle.cpt_sheet.specs.declared.data.Flaw.{Flaw}
use Rattle.cpt_sheet.specs.declared.data.Flaw.TheVariants.{Threat, OpenNeed, Clash}
use Rattle.cpt_sheet.specs.View.{kind_of, cands, has, same}
use Rattle.cpt_sheet.specs.Formed.{IsFormed, IsPlaced}
use Rattle.cpt_calculus.specs.Rules.{only}
use Rattle.cpt_calculus.specs.Decisions.{Fits}
use Rattle.cpt_calculus.specs.Flaws.{IsFlaw, children, choice}
use Rattle.cpt_calculus.proofs.Parts.{same_self}
use Rattle.cpt_calculus.proofs.Keeps.{place_after, place_ahead, place_clash}
use Rattle.cpt_calculus.proofs.Reading.{clash_swap}

choice_fits : (s : Sheet) (x p : ℕ) (c : Cand) → has c (cands s x p) ≡ true → Fits s (choice x p c)
choice_fits s x p (Tok y) h = h
choice_fits s x p (Out a) h = h

-- each choice is made from a candidate
chosen : (x p : ℕ) (cs : List Cand) (d : Decision) → Contains (map (choice x p) cs) d → (c : Cand) × (has c cs ≡ true) × (choice x p c ≡ d)
chosen x p [] d (k, l, e) = absurd (omega arith)
chosen x p (c ∷ cs) d (zero, l, e) = (c, or_left (same c c) (has c cs) (same_self c), e)
chosen x p (c ∷ cs) d (suc k, l, e) = let r = chosen x p cs d (k, omega (arith, l), e) in (r.0, or_right (same c r.0) (has r.0 cs) r.1, r.2)

-- of two decisions
one_of_two : (P : Decision → Type 0) (c e d : Decision) → P c → P e → Contains (c ∷ e ∷ []) d → P d
one_of_two P c e d pc pe (zero, l, q) = subst P q pc
one_of_two P c e d pc pe (suc zero, l, q) = subst P q pe
one_of_two P c e d pc pe (suc (suc k), l, q) = absurd (omega arith)

pub children_fit : (t : TaskShape) (s : Sheet) (flaw : Flaw) → IsFormed t s → IsFlaw t s flaw → (d : Decision) → Contains (children s flaw) d → Fits s d
children_fit t s (Threat x p e) f k d m =
    let y = k.0 in
    let w = k.1 in
    one_of_two (λ z. Fits s z) (Before e (only (cands s x p))) (Before x e) d (subst (λ cs. IsPlaced s e (only cs)) (sym w.one) (place_ahead t s f x p e y w)) (place_after t s f x p e y w) m
children_fit t s (OpenNeed x p) f k d m = let c = chosen x p (cands s x p) d m in subst (λ z. Fits s z) c.2 (choice_fits s x p c.0 c.1)
children_fit t s (Clash x y) f k d m =
    let less = k.ordered in
    one_of_two (λ z. Fits s z) (Before x y) (Before y x) d (place_clash t s f x y (λ q. omega (arith, less, q)) k.interfere)
    (place_clash t s f y x (λ q. omega (arith, less, q)) (clash_swap t (kind_of s (Tok x)) (kind_of s (Tok y)) k.interfere)) m
