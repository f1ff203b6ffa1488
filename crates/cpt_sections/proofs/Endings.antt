-- a text that ends before it is read whole ends too early
use Rattle.std.proofs.Common.{◌≡◌, ℕ, suc, ◌-◌, ◌<◌, ◌≤◌, Bool, List, [], ◌∷◌, length, Some, None, refl, sym, ap, ◌∙◌, subst, arith}
use Rattle.cpt_task.specs.Shape.{TaskShape}
use Rattle.cpt_tables.specs.Shapes.{PairShape}
use Rattle.cpt_cert_form.specs.declared.forms.Version.{Version}
use Rattle.cpt_cert_form.specs.declared.forms.Claim.{Claim}
use Rattle.cpt_cert_form.specs.declared.forms.CertLine.{CertLine}
use Rattle.cpt_cert_form.specs.declared.forms.CertLine.TheVariants as lines
use Rattle.cpt_cert_accept.specs.declared.faults.Why.TheVariants as whys
use Rattle.cpt_cert_accept.specs.Reading.{take_version, take_claim, take_sizes, take_plan, take_items, take_pairs, take_pair_rows, take_dists, take_dist_rows, take_end}
use Rattle.cpt_cert_accept.specs.Reading.Outcome.{went, faulted}
use Rattle.cpt_sections.specs.declared.section.Trees.{Trees}
use Rattle.cpt_sections.specs.declared.section.Aim.{Aim}
use Rattle.cpt_sections.specs.declared.section.Items.{Items}
use Rattle.cpt_sections.specs.declared.section.PairRows.{PairRows}
use Rattle.cpt_sections.specs.declared.section.DistRows.{DistRows}
use Rattle.cpt_sections.specs.declared.section.Section.{Section}
use Rattle.cpt_sections.specs.declared.section.Section.TheVariants as sections
use Rattle.cpt_sections.specs.declared.section.Stage.{Stage}
use Rattle.cpt_sections.specs.declared.section.Stage.TheVariants as stages
use Rattle.cpt_sections.specs.Sections.{IsSection, AreItems, ArePairRows, AreDistRows, IsNothing, EndsEarly, take_tallied_end}
use Rattle.cpt_sections.specs.Stages.{IsStage, Ends}
use Rattle.cpt_sections.proofs.PlanLines.{last_of}
use Rattle.cpt_sections.proofs.TreeLines.{ends_tree, ends_nodes, ends_open_tree, ends_open_nodes}

-- what is the same with no line and with one of no form
on_nothing : {A : Type 0} (f : List CertLine → A) (a : A) → a ≡ f [] → ((ls : List CertLine) → a ≡ f (lines.Strange ∷ ls)) → (ls : List CertLine) → IsNothing ls → a ≡ f ls
on_nothing f a none one [] h = none
on_nothing f a none one (lines.Strange ∷ ls) h = one ls
on_nothing f a none one (_ ∷ ls) h = absurd h

some_left : (k l : ℕ) → k < l → l - k ≡ suc (l - k - 1)
some_left k l h = omega arith

pub one_left : (k : ℕ) → 1 ≤ k → k ≡ suc (k - 1)
one_left k h = omega arith

module _ (t : TaskShape) (v : Version) (n : ℕ) where
  ends_plan : (m : ℕ) → EndsEarly t v (sections.Plan m) n
  ends_plan m ls h = (faulted n whys.Grammar, (faulted n whys.Grammar, on_nothing (take_plan n) (faulted n whys.Grammar) refl (λ ls. refl) ls h, refl), refl)

  ends_items : (i : Items) → AreItems t n i → EndsEarly t v (sections.Items i) n
  ends_items i formed ls h = (
    faulted n whys.Grammar,
    (
      faulted n whys.Grammar,
      on_nothing (take_items (suc (i.left - 1)) (last_of i) n) (faulted n whys.Grammar) refl (λ ls. refl) ls h ∙ sym (ap (λ k. take_items k (last_of i) n ls) (one_left i.left formed.some)),
      refl,
    ),
    refl,
  )

  ends_pairs : (aim : Aim) → EndsEarly t v (sections.Pairs aim) n
  ends_pairs aim ls h = (faulted n whys.Grammar, (faulted n whys.Grammar, on_nothing (take_pairs v (length t.atoms) n) (faulted n whys.Grammar) refl (λ ls. refl) ls h, refl), refl)

  ends_pair_rows : (r : PairRows) → ArePairRows t n r → EndsEarly t v (sections.PairRows r) n
  ends_pair_rows r formed ls h = (
    faulted n whys.Grammar,
    (
      faulted n whys.Grammar,
      on_nothing (take_pair_rows v (suc (length t.atoms - r.next - 1)) n) (faulted n whys.Grammar) refl (λ ls. refl) ls h
          ∙ sym (ap (λ k. take_pair_rows v k n ls) (some_left r.next (length t.atoms) formed.more)),
      refl,
    ),
    refl,
  )

  ends_dists : (trees : Trees) (h : PairShape) → EndsEarly t v (sections.Dists trees h) n
  ends_dists trees p ls h = (faulted n whys.Grammar, (faulted n whys.Grammar, on_nothing (take_dists v (length t.atoms) (length t.actions) n) (faulted n whys.Grammar) refl (λ ls. refl) ls h, refl), refl)

  ends_dist_rows : (r : DistRows) → AreDistRows t n r → EndsEarly t v (sections.DistRows r) n
  ends_dist_rows r formed ls h = (
    faulted n whys.Grammar,
    (
      faulted n whys.Grammar,
      on_nothing (take_dist_rows v (length t.atoms) (suc (length t.actions - r.next - 1)) n) (faulted n whys.Grammar) refl (λ ls. refl) ls h
          ∙ sym (ap (λ k. take_dist_rows v (length t.atoms) k n ls) (some_left r.next (length t.actions) formed.more)),
      refl,
    ),
    refl,
  )

  ends_end : EndsEarly t v sections.End n
  ends_end ls h = on_nothing (take_end n) (faulted n whys.Grammar) refl (λ ls. refl) ls h

  ends_counted : (counted : Bool) → EndsEarly t v (sections.CountedEnd counted) n
  ends_counted counted ls h = on_nothing (take_tallied_end counted n) (faulted n whys.Grammar) refl (λ ls. refl) ls h

  -- every section but the last one
  ends_early : (s : Section) → (s ≡ sections.Done → ⊥) → IsSection t n s → EndsEarly t v s n
  ends_early (sections.Plan m) some formed = ends_plan m
  ends_early (sections.Items i) some formed = ends_items i formed
  ends_early (sections.Pairs aim) some formed = ends_pairs aim
  ends_early (sections.PairRows r) some formed = ends_pair_rows r formed
  ends_early (sections.Dists trees h) some formed = ends_dists trees h
  ends_early (sections.DistRows r) some formed = ends_dist_rows r formed
  ends_early (sections.Tree trees b) some formed = ends_tree t v n trees b formed
  ends_early (sections.Nodes trees b w) some formed = ends_nodes t v n trees b w formed
  ends_early (sections.OpenTree refuted nodes b) some formed = ends_open_tree t v n refuted nodes b formed
  ends_early (sections.OpenNodes nodes b w) some formed = ends_open_nodes t v n nodes b w formed
  ends_early sections.End some formed = ends_end
  ends_early (sections.CountedEnd counted) some formed = ends_counted counted
  ends_early sections.Done some formed = absurd (some refl)

pub ends_unread : (t : TaskShape) (n : ℕ) (s : Stage) → ((v : Version) (claim : Claim) → s ≡ stages.Within v claim sections.Done → ⊥) → IsStage t n s → Ends t s n None
ends_unread t n stages.First some formed = λ ls h. (faulted n whys.Grammar, on_nothing (take_version n) (faulted n whys.Grammar) refl (λ ls. refl) ls h, refl)
ends_unread t n (stages.Claimed v) some formed = λ ls h. (faulted n whys.Grammar, on_nothing (take_claim n) (faulted n whys.Grammar) refl (λ ls. refl) ls h, refl)
ends_unread t n (stages.Sized v claim) some formed = λ ls h. (faulted n whys.Grammar, on_nothing (take_sizes t n) (faulted n whys.Grammar) refl (λ ls. refl) ls h, refl)
ends_unread t n (stages.Within v claim s) some formed = λ ls h. (faulted n whys.Grammar, ends_early t v n s (λ e. some v claim (ap (stages.Within v claim) e)) formed.1 ls h, refl)

pub ends_read : (t : TaskShape) (n : ℕ) (s : Stage) (v : Version) (claim : Claim) → s ≡ stages.Within v claim sections.Done → Ends t s n (Some (v, claim))
ends_read t n s v claim e = subst (λ z. Ends t z n (Some (v, claim))) (sym e) ((went tt [] n, refl, refl), λ ls. (faulted n whys.Grammar, refl, refl))
