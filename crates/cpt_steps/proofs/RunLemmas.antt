-- runs of steps
use Rattle.std.proofs.Common.{[], ◌∷◌, refl, subst}
use Rattle.cpt_calculus.specs.Rules.{narrowed}
use Rattle.cpt_calculus.specs.Closing.{Leads}
use Rattle.cpt_steps.specs.Tight.{RunsTight, TightRunsLead, RunsAppend, TightRunsAppend, TightRunsGrow}

pub tight_runs_lead : TightRunsLead
tight_runs_lead rules t b s u [] h = h
tight_runs_lead rules t b s u (step ∷ steps) h = (h.0, h.1, tight_runs_lead rules t b (narrowed s step) u steps h.3)

pub runs_append : RunsAppend
runs_append rules t b s m u [] more h k = subst (λ z. Leads rules t b z more u) h k
runs_append rules t b s m u (step ∷ steps) more h k = (h.0, h.1, runs_append rules t b (narrowed s step) m u steps more h.2 k)

pub tight_runs_append : TightRunsAppend
tight_runs_append rules t b s m u [] more h k = subst (λ z. RunsTight rules t b z more u) h k
tight_runs_append rules t b s m u (step ∷ steps) more h k = (h.0, h.1, h.2, tight_runs_append rules t b (narrowed s step) m u steps more h.3 k)

pub tight_runs_grow : TightRunsGrow
tight_runs_grow rules t b s m steps step h o legal tight =
    tight_runs_append rules t b s m (narrowed m step) steps (step ∷ []) h (o, legal, tight, refl)
