-- The atoms of a verdict are those of the task.
use Rattle.std.proofs.Common.{◌<◌, List, length}
use Rattle.std.proofs.lemmas.List.Elements.{All-contains}
use Rattle.cpt_task.specs.declared.plan.Occ.{Occ}
use Rattle.cpt_task.specs.declared.plan.Verdict.{Verdict}
use Rattle.cpt_task.specs.declared.plan.Verdict.TheVariants.{Valid, Overlap, Unmet, GoalMissing}
use Rattle.cpt_task.specs.Judgeable.{IsJudgeable}
use Rattle.cpt_task.specs.Judging.{Judges}
use Rattle.cpt_task.specs.Shape.{InBounds, TaskShape}
use Rattle.cpt_task.specs.Timeline.{action_of, idle, occurrence_at}
use Rattle.cpt_json_form.specs.Values.{HasAtomsOf}

pub verdict_atoms : (t : TaskShape) (plan : List Occ) (v : Verdict) → InBounds t → IsJudgeable t plan → Judges t plan v → HasAtomsOf t v
verdict_atoms t plan (Valid m) b p j = tt
verdict_atoms t plan (Overlap i k) b p j = tt
verdict_atoms t plan (Unmet i atom time) b p j =
    let o = occurrence_at plan i in
    let act = (p i _ j.1.within).0 in
    All-contains (λ q. q < length t.atoms) (action_of t o).pre atom (b.actions o.act idle act).pre j.1.need.needed
verdict_atoms t plan (GoalMissing atom) b p j = All-contains (λ q. q < length t.atoms) t.goal atom b.goal j.2.wanted
