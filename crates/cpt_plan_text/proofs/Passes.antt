use Rattle.std.proofs.Common.{ℕ, List, ◌++◌, Result, Ok}
use Rattle.cpt_task.specs.declared.plan.Occ.{Occ}
use Rattle.cpt_plan_text.specs.declared.reading.Item.{Item}
use Rattle.cpt_plan_text.specs.declared.reading.PlanText.{PlanText}
use Rattle.cpt_plan_text.specs.declared.reading.PlanTextError.{PlanTextError}
use Rattle.cpt_plan_text.specs.Meaning.{◌>>=◌}

-- the entries so far, and those to come
abbrev pub with_items : List Item → Result (List Item) PlanTextError → Result (List Item) PlanTextError
with_items front read = read >>= (λ items. Ok (front ++ items))

-- the plan so far, and the one to come
abbrev pub joined : List Occ → List ℕ → PlanText → PlanText
joined occs lines others = record { occs = occs ++ others.occs; lines = lines ++ others.lines }

abbrev pub with_plan : List Occ → List ℕ → Result PlanText PlanTextError → Result PlanText PlanTextError
with_plan occs lines read = read >>= (λ others. Ok (joined occs lines others))
