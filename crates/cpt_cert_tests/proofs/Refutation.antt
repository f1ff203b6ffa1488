-- a refutation by a tree that is closed at its root is whole
use Rattle.std.proofs.Common.{◌≡◌, ℕ, zero, suc, ◌<◌, ◌≤◌, List, [], ◌∷◌, Some, Bool, false, Bor, All, refl, sym, subst, arith}
use Rattle.cpt_task.specs.declared.plan.Occ.{Occ}
use Rattle.cpt_sheet.specs.declared.data.NodeLine.{NodeLine}
use Rattle.cpt_sheet.specs.declared.data.NodeLine.TheVariants.{Close}
use Rattle.cpt_sheet.specs.Gaps.{FitsTask}
use Rattle.cpt_cert_form.specs.declared.forms.Claim.TheVariants.{NoneUpTo}
use Rattle.cpt_cert_print.specs.declared.cert.Cert.{Cert}
use Rattle.cpt_cert_form.specs.Forms.{IsClaim, IsShortNode}
use Rattle.cpt_cert_print.specs.Whole.{HasTables, HasTree, AreNodes, AsksPartial, IsTree, IsListedPlan, IsWhole}
use Rattle.cpt_cert_print.specs.Whole.AreNodes.{closed}
use Rattle.cpt_task.specs.Shape.{TaskShape}
use Rattle.cpt_tables.specs.declared.tables.Tables.{Tables}
use Rattle.cpt_sheet.specs.declared.data.Tree.{Tree}

no_plan : (plan : List Occ) → plan ≡ [] → IsListedPlan plan
no_plan plan e = subst (λ (l : List Occ). IsListedPlan l) (sym e) (record {
  order = λ i j d h l. absurd (nothing j l);
  few = omega arith;
  starts = λ k d l. absurd (nothing k l);
})
  where
    nothing : (k : ℕ) → k < 0 → ⊥
    nothing k l = omega arith

one_close : (ls : List NodeLine) → ls ≡ Close ∷ [] → IsTree false ls
one_close ls e = subst (λ (l : List NodeLine). IsTree false l) (sym e) (record { node = closed; short = short })
  where
    short : All IsShortNode (Close ∷ [])
    short zero d l = tt
    short (suc k) d l = absurd (omega arith)

-- a refutation by a tree that is closed at its root
pub refutation_whole : (t : TaskShape) (c : Cert) (m : ℕ) (b : Bor Tables) (tree : Bor Tree) → c.claim ≡ NoneUpTo m → m ≤ 1000000 → c.plan.now ≡ [] →
    c.tables ≡ Some b → c.tree ≡ Some tree → FitsTask t b.now → tree.now.lines ≡ Close ∷ [] → IsWhole t c
refutation_whole t c m b tree claim le plan tables some fits close = record {
  claim = subst (λ k. IsClaim k) (sym claim) le;
  plan = no_plan c.plan.now plan;
  tables = λ a. subst (λ o. HasTables t o) (sym tables) fits;
  tree = λ a. subst (λ o. HasTree false o) (sym some) (one_close tree.now.lines close);
  partial = λ a. absurd (subst (λ k. AsksPartial k) claim a);
}
