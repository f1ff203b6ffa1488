-- a closed tree refutes
use Rattle.std.proofs.Common.{ℕ, List, [], ◌∷◌, length, subst}
use Rattle.std.proofs.lemmas.List.Elements.{All-contains}
use Rattle.cpt_calculus.specs.Rules.{narrowed}
use Rattle.cpt_calculus.specs.Flaws.{children}
use Rattle.cpt_task.specs.declared.plan.Occ.{Occ}
use Rattle.cpt_task.specs.Shape.{TaskShape}
use Rattle.cpt_task.specs.Timeline.{IsValid}
use Rattle.cpt_tables.specs.declared.tables.Tables.{Tables}
use Rattle.cpt_sheet.specs.declared.data.Sheet.{Sheet}
use Rattle.cpt_sheet.specs.declared.data.Decision.{Decision}
use Rattle.cpt_sheet.specs.declared.data.Decision.TheVariants.{Join, Bring, Before}
use Rattle.cpt_calculus.specs.Root.{root_of}
use Rattle.cpt_calculus.specs.Decisions.{applied}
use Rattle.cpt_calculus.specs.Plans.{Admits}
use Rattle.cpt_soundness.specs.Acting.{IsAdmissible}
use Rattle.cpt_soundness.specs.Sets.{HasSets}
use Rattle.cpt_soundness.specs.Children.{with_place, AdmitsAfter}
use Rattle.cpt_soundness.specs.Tree.{IsClosedTree, TreeRefutes, StepsClose, BranchesClose}
use Rattle.cpt_soundness.specs.Tree.IsClosedTree.{close, narrow, branch}
use Rattle.cpt_sheet.specs.Formed.{IsFormed}
use Rattle.cpt_calculus.proofs.Keeps.{step_formed}
use Rattle.cpt_soundness.proofs.FormedLemmas.{applied_formed}
use Rattle.cpt_soundness.proofs.RootFormedLemmas.{root_formed}
use Rattle.cpt_soundness.proofs.FitLemmas.{children_fit}
use Rattle.cpt_soundness.proofs.NarrowLemmas.{narrow_keeps}
use Rattle.cpt_soundness.proofs.DeadLemmas.{dead_admits_none}
use Rattle.cpt_soundness.proofs.RootLemmas.{root_admits}
use Rattle.cpt_soundness.proofs.CoverLemmas.{children_cover}

-- a formed sheet over which a closed tree stands admits no plan
pub closed_admits_none : (t : TaskShape) (b : Tables) (plan : List Occ) → HasSets t → IsAdmissible t b → IsValid t plan →
    (s : Sheet) → IsClosedTree t b s → IsFormed t s → (f : ℕ → ℕ) → Admits t plan f s → ⊥
closed_admits_none t b plan sets ok valid s (close r dead) formed f h = dead_admits_none t b s plan f sets ok formed dead valid h
closed_admits_none t b plan sets ok valid s (narrow r step legal tree) formed f h =
    closed_admits_none t b plan sets ok valid _ tree (step_formed t b s step formed legal) f (narrow_keeps t b s step plan f ok formed legal valid h)
closed_admits_none t b plan sets ok valid s (branch r flaw stands trees) formed f h =
    let c = children_cover t b s flaw plan f ok formed stands valid h in
    after s c.0 c.2 (λ g k. closed_admits_none t b plan sets ok valid _ (trees c.0 c.1) (applied_formed t s c.0 formed (children_fit t s flaw formed stands c.0 c.1)) g k)
  where
    after : (s : Sheet) (d : Decision) → AdmitsAfter t plan f s d → ((g : ℕ → ℕ) → Admits t plan g (applied t s d) → ⊥) → ⊥
    after s (Join x p y) k none = none f k
    after s (Bring x p a) k none = none (with_place f (length s.tokens) k.0) k.1
    after s (Before x y) k none = none f k

pub tree_refutes : TreeRefutes
tree_refutes t b m sets ok fit few tree plan valid short =
    closed_admits_none t b plan sets ok valid (root_of t b m) tree (root_formed t b m ok.bounds fit few) (λ x. x) (root_admits t b m plan (λ x. x) ok valid short)

pub steps_close : StepsClose
steps_close rules t b s [] u e tree = subst (λ z. IsClosedTree t b z) e tree
steps_close rules t b s (step ∷ steps) u k tree = narrow s step k.1 (steps_close rules t b (narrowed s step) steps u k.2 tree)

pub branches_close : BranchesClose
branches_close t b s flaw stands all = branch s flaw stands (λ d m. All-contains (λ e. IsClosedTree t b (applied t s e)) (children s flaw) d all m)
