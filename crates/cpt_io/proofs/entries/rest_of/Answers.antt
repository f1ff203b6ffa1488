use Rattle.std.proofs.Common.{ap, sym, ◌∙◌, drop}
use Rattle.std.proofs.Math.Seq.{drop-nil}
use Rattle.cpt_io.proofs.EntryLemmas.{bytes_at-past, bytes_of_read}
use Rattle.cpt_io.proofs.entries.rest_of.Goals as goal

pub returns-then-place-files-clause-rest : goal.returns-then-place-files-clause-rest
returns-then-place-files-clause-rest c =
    c.rest_after.ensures.rest ∙ ap (drop c.args.at) (c.as_slice.ensures.value ∙ bytes_of_read c.args.files.now c.args.place c.index-files-place.result c.if-place-files.true c.index-files-place.is)

pub returns-clause-rest : goal.returns-clause-rest
returns-clause-rest c = sym (ap (drop c.args.at) (bytes_at-past c.args.files.now c.args.place c.if-place-files.false) ∙ drop-nil c.args.at)
