use Rattle.std.specs.Prelude.{ℕ, List}
use Rattle.cpt_gen.specs.declared.parts.Part.{Part}
use Rattle.cpt_gen.specs.declared.parts.Part.TheVariants.{Place, Package, AtFirst, Road, Time, AtLast}
use Rattle.cpt_gen.specs.Texts.{place_name, package_name, package_at_first, road, road_time, package_at}

-- the text of a part of the problem of size n
abbrev pub part_text : ℕ → Part → ℕ → List ℕ
part_text n Place i = place_name i
part_text n Package i = package_name i
part_text n AtFirst i = package_at_first i
part_text n Road i = road i
part_text n Time i = road_time i
part_text n AtLast i = package_at n i
