-- chains of brought tokens are short
use Rattle.std.proofs.Common.{◌≡◌, ℕ, ◌+◌, ◌≤◌, ◌<◌, length, sym, ◌∙◌, arith}
use Rattle.cpt_task.specs.declared.span.Span.{Span}
use Rattle.cpt_task.specs.declared.span.Span.TheVariants.{At}
use Rattle.cpt_task.specs.Shape.{TaskShape, InBounds}
use Rattle.cpt_tables.specs.declared.tables.Tables.{Tables}
use Rattle.cpt_sheet.specs.declared.data.Cand.TheVariants.{Tok}
use Rattle.cpt_sheet.specs.declared.data.Sheet.{Sheet}
use Rattle.cpt_sheet.specs.declared.data.Step.TheVariants.{R1}
use Rattle.cpt_sheet.specs.Formed.{IsFormed}
use Rattle.cpt_sheet.specs.Live.{IsLive}
use Rattle.cpt_sheet.specs.View.{lo, hi}
use Rattle.cpt_calculus.specs.Rules.{IsLegal}
use Rattle.cpt_outcome.specs.Nodes.{IsClosedSheet}
use Rattle.cpt_outcome.specs.Enough.{IsChain, bottom, link, ChainsShort}
use Rattle.cpt_outcome.proofs.NodeLemmas.{fresh-closed}
use Rattle.cpt_outcome.proofs.TokenLemmas.{begins-at, comes-after, lasting}

module _ (t : TaskShape) (b : Tables) (u : Sheet) (inside : InBounds t) (formed : IsFormed t u) (live : IsLive u) (closed : (x y : ℕ) (v : Span) → IsLegal t b u (R1 x y v) → ⊥) where
  height : (x d e m : ℕ) → IsChain u x d → x < length u.tokens → lo u (Tok 1) ≡ At e → lo u (Tok x) ≡ At m → d + m ≤ e
  height x d e m bottom lt ee em = let same : e ≡ m = at e m (sym ee ∙ em) in omega (arith, same)
    where
      at : (e m : ℕ) → At e ≡ At m → e ≡ m
      at e m h = cc
  height x d e m (link y f w low high chain) lt ee em =
      let there : w.consumer < length u.tokens = omega (arith, w.older) in
      let s = begins-at t b u inside formed live closed w.consumer there in
      let ih = height w.consumer f e s.0 chain there ee s.1 in
      let a = comes-after t b u inside formed live closed x w.consumer m s.0 w.order em s.1 in
      omega (arith, ih, a.0, lasting t b u inside formed live closed x low lt)

chain-there : (t : TaskShape) (u : Sheet) (x d : ℕ) → IsFormed t u → IsChain u x d → x < length u.tokens
chain-there t u x d formed bottom = formed.two
chain-there t u x d formed (link y f w low high chain) = high

pub chains-short : ChainsShort
chains-short w b ds u x d inside one fresh chain = omega (arith, up, end.2, fact.formed.within (Tok 1), fact.bound)
  where
    fact : IsClosedSheet w b u
    fact = fresh-closed w b ds u fresh

    shut : (x y : ℕ) (v : Span) → IsLegal w.task w.tables u (R1 x y v) → ⊥
    shut x y v l = fact.closed (R1 x y v) one l

    there : x < length u.tokens
    there = chain-there w.task u x d fact.formed chain

    end : (n : ℕ) × (lo u (Tok 1) ≡ At n) × (n ≤ hi u (Tok 1))
    end = begins-at w.task w.tables u inside fact.formed fact.live shut 1 fact.formed.two

    here : (n : ℕ) × (lo u (Tok x) ≡ At n) × (n ≤ hi u (Tok x))
    here = begins-at w.task w.tables u inside fact.formed fact.live shut x there

    up : d + here.0 ≤ end.0
    up = height w.task w.tables u inside fact.formed fact.live shut x d end.0 here.0 chain there end.1 here.1
