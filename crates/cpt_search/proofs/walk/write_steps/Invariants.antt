use Rattle.std.proofs.Common.{◌≡◌, ◌++◌, map, take}
use Rattle.cpt_sheet.specs.declared.data.NodeLine.TheVariants.{Narrow}
use Rattle.cpt_search.proofs.walk.write_steps.Given as goal

abbrev pub invariant-loop-step : goal.invariant-loop-step
invariant-loop-step l = l.lines.items ≡ l.fn.lines.items ++ map Narrow (take l.step-index l.steps)
