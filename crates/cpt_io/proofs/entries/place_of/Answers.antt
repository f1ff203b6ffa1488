use Rattle.std.proofs.Common.{sym, ◌∙◌}
use Rattle.cpt_io.proofs.EntryLemmas.{found}
use Rattle.cpt_io.proofs.entries.place_of.Goals as goal

pub returns-then-eq : goal.returns-then-eq
returns-then-eq c = sym c.loop-place.invariant ∙ found c.args.files.now c.loop-place.place c.index-files-place.result c.args.name.now c.loop-place-test.true c.index-files-place.is (rw (← c.as_slice.ensures) (sym c.eq.ensures ∙ c.if-eq.true))
