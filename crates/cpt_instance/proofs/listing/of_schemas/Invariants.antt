use Rattle.std.proofs.Common.{◌≤◌, length, take}
use Rattle.cpt_instance.specs.Choices.{schemas_total}
use Rattle.cpt_instance.specs.Listing.{AreAll, IsOfFirst}
use Rattle.cpt_instance.proofs.listing.of_schemas.Given as goal

abbrev pub invariant-loop-number : goal.invariant-loop-number
invariant-loop-number l =
    record {
      all : AreAll (IsOfFirst l.values l.schemas l.number l.types l.kinds) l.found.items;
      few : length l.found.items ≤ schemas_total l.types l.kinds (take l.number l.schemas);
    }
