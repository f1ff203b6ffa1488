use Rattle.std.proofs.Common.{◌<◌, All}
use Rattle.std.specs.List.Sorted.{IsStrictlyIncreasing}
use Rattle.cpt_sheet.specs.declared.data.Kind.TheVariants.{Act}
use Rattle.cpt_sheet.specs.Roles.{Clash}
use Rattle.cpt_index.specs.Index.{Among}
use Rattle.cpt_index.proofs.index.foes_of.Given as goal

abbrev pub invariant-loop-a : goal.invariant-loop-a
invariant-loop-a l = record {
  increasing : IsStrictlyIncreasing l.found.items;
  below : All (λ a. a < l.a) l.found.items;
  each : Among (λ a. Clash l.task l.kind (Act a)) (λ a. a < l.a) l.found.items;
}
