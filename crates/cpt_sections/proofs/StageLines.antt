-- what the lines of a certificate lead to
use Rattle.std.proofs.Common.{◌≡◌, ℕ, zero, suc, ◌+◌, ◌≤◌, ◌&&◌, true, cond, eqb, List, ◌∷◌, length, refl, sym, ap, ◌∙◌, subst, arith}
use Rattle.cpt_task.specs.Shape.{TaskShape}
use Rattle.cpt_cert_form.specs.declared.forms.Version.{Version}
use Rattle.cpt_cert_form.specs.declared.forms.Claim.{Claim}
use Rattle.cpt_cert_form.specs.declared.forms.Claim.TheVariants as claims
use Rattle.cpt_cert_form.specs.declared.forms.CertLine.{CertLine}
use Rattle.cpt_cert_form.specs.declared.forms.CertLine.TheVariants as lines
use Rattle.cpt_cert_form.specs.Forms.{IsClaim}
use Rattle.cpt_cert_accept.specs.declared.faults.Why.TheVariants as whys
use Rattle.cpt_cert_accept.specs.Reading.{Outcome, take_sizes}
use Rattle.cpt_cert_accept.specs.Reading.Outcome.{went, faulted}
use Rattle.cpt_cert_accept.specs.Descent.{ReadsSections}
use Rattle.cpt_walk.proofs.Turning.{more_few}
use Rattle.cpt_sections.specs.declared.section.Section.{Section}
use Rattle.cpt_sections.specs.declared.section.Section.TheVariants as sections
use Rattle.cpt_sections.specs.declared.section.Stage.{Stage}
use Rattle.cpt_sections.specs.declared.section.Next.{Next}
use Rattle.cpt_sections.specs.declared.section.Next.TheVariants as nexts
use Rattle.cpt_sections.specs.declared.section.Stage.TheVariants as stages
use Rattle.cpt_sections.specs.declared.section.Turned.{Turned}
use Rattle.cpt_sections.specs.declared.section.Turned.TheVariants as turns
use Rattle.cpt_cert_accept.specs.Texts.{bring_in}
use Rattle.cpt_sections.specs.Sections.{Left, IsSection, HasFew, Moves}
use Rattle.cpt_sections.specs.Stages.{IsStage, HasFewAt, Turns, first_section, turned}

-- where more tokens may be there
more_few_in : (j k : ℕ) (s : Section) → j ≤ k → HasFew j s → HasFew k s
more_few_in j k (sections.Nodes trees b w) le h = more_few j k w le h
more_few_in j k (sections.OpenNodes nodes b w) le h = more_few j k w le h
more_few_in j k (sections.Plan m) le h = tt
more_few_in j k (sections.Items i) le h = tt
more_few_in j k (sections.Pairs aim) le h = tt
more_few_in j k (sections.PairRows r) le h = tt
more_few_in j k (sections.Dists trees h) le few = tt
more_few_in j k (sections.DistRows r) le h = tt
more_few_in j k (sections.Tree trees b) le h = tt
more_few_in j k (sections.OpenTree refuted nodes b) le h = tt
more_few_in j k sections.End le h = tt
more_few_in j k (sections.CountedEnd counted) le h = tt
more_few_in j k sections.Done le h = tt

pub more_few_at : (j k : ℕ) (s : Stage) → j ≤ k → HasFewAt j s → HasFewAt k s
more_few_at j k stages.First le h = tt
more_few_at j k (stages.Claimed v) le h = tt
more_few_at j k (stages.Sized v claim) le h = tt
more_few_at j k (stages.Within v claim s) le h = more_few_in j k s le h

module _ (t : TaskShape) (v : Version) where
  -- the sections that the claim asks for
  section_reads : (claim : Claim) (n : ℕ) (ls : List CertLine) (o : Outcome (Unit {0})) → Left t v (first_section claim) n ls o → ReadsSections t v claim n ls o
  section_reads (claims.Optimal zero) n ls o h = h
  section_reads (claims.Optimal (suc m)) n ls o h = h
  section_reads (claims.NoneUpTo m) n ls o h = h
  section_reads claims.Never n ls o h = h
  section_reads (claims.Spent refuted nodes) n ls o h = h

  section_formed : (claim : Claim) (n : ℕ) → IsClaim claim → IsSection t n (first_section claim)
  section_formed (claims.Optimal m) n h = h
  section_formed (claims.NoneUpTo m) n h = h
  section_formed claims.Never n h = tt
  section_formed (claims.Spent refuted nodes) n h = h.0

  section_few : (claim : Claim) (k : ℕ) → HasFew k (first_section claim)
  section_few (claims.Optimal m) k = tt
  section_few (claims.NoneUpTo m) k = tt
  section_few claims.Never k = tt
  section_few (claims.Spent refuted nodes) k = tt

  -- the sizes are the task's
  pub sizes_turn : (claim : Claim) (n atoms actions : ℕ) (line : CertLine) (s : Section) → line ≡ lines.Sizes atoms actions → s ≡ first_section claim → (eqb atoms (length t.atoms) && eqb actions (length t.actions)) ≡ true → IsStage t n (stages.Sized v claim) →
      Turns t (stages.Sized v claim) n line (turns.On (stages.Within v claim s))
  sizes_turn claim n atoms actions line s is first same formed = record {
    stage = ((let some = formed.0 in omega (arith, some)), subst (IsSection t (n + 1)) (sym first) (section_formed claim (n + 1) formed.1));
    version = refl;
    few = λ k few. subst (HasFew (k + bring_in line)) (sym first) (section_few claim (k + bring_in line));
    reads = λ ls x (y, left, after). (
      went tt ls (n + 1),
      sized ls,
      (y, section_reads claim (n + 1) ls y (subst (λ z. Left t v z (n + 1) ls y) first left), after),
    );
  }
    where
      sized : (ls : List CertLine) → went tt ls (n + 1) ≡ take_sizes t n (line ∷ ls)
      sized ls = sym (ap (λ z. take_sizes t n (z ∷ ls)) is ∙ ap (λ b. cond b (went tt ls (n + 1)) (faulted n whys.Task)) same)

  -- a line of a section
  section_turns : (claim : Claim) (s : Section) (n : ℕ) (line : CertLine) (next : Next) → 2 ≤ n → Moves t v s n line next → Turns t (stages.Within v claim s) n line (turned v claim next)
  section_turns claim s n line (nexts.On new) late h = record {
    stage = (omega (arith, late), h.0);
    version = refl;
    few = h.1;
    reads = λ ls x (y, left, after). (y, h.2 ls y left, after);
  }
  section_turns claim s n line (nexts.Fault at why) late h = record {
    within = h.0;
    version = refl;
    reads = λ ls. (faulted at why, h.1 ls, refl);
  }

  pub section_turn : (claim : Claim) (s : Section) (n : ℕ) (line : CertLine) (next : Next) (r : Turned) → r ≡ turned v claim next → 2 ≤ n → Moves t v s n line next → Turns t (stages.Within v claim s) n line r
  section_turn claim s n line next r e late h = subst (Turns t (stages.Within v claim s) n line) (sym e) (section_turns claim s n line next late h)
