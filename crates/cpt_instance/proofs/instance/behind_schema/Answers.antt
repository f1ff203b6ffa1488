use Rattle.std.proofs.Common.{◌≡◌, ℕ, List, length, take, None, Some, subst}
use Rattle.cpt_instance.specs.Named.{read_args}
use Rattle.cpt_instance.proofs.Answering.{none_read, behind_timed}
use Rattle.cpt_instance.proofs.WordNames.{words_of}
use Rattle.cpt_instance.proofs.instance.behind_schema.Goals as goal

pub returns-then-not-read_args : goal.returns-then-not-read_args
returns-then-not-read_args c =
    none_read c.args.domain.now c.args.problem.now c.args.k c.schema_at-schema.result.now c.args.text.now c.requires.fits (words_of c.args.domain.now c.args.problem.now c.requires.sound c.requires.fits) c.schema_at-schema.ensures
    (subst (λ (ks : List ℕ). read_args c.args.domain.now c.args.problem.now ks c.args.text.now ≡ None) c.as_slice-kinds.ensures c.if-not-read_args.ensures)

pub returns : goal.returns
returns c =
    behind_timed c.args.domain.now c.args.problem.now c.args.k c.schema_at-schema.result.now c.args.text.now (take (length c.as_slice-kinds.result.now) c.read_args.new.objects) c.timed.result
    c.requires.fits (words_of c.args.domain.now c.args.problem.now c.requires.sound c.requires.fits) c.requires.known c.schema_at-schema.ensures
    (subst (λ (ks : List ℕ). read_args c.args.domain.now c.args.problem.now ks c.args.text.now ≡ Some (take (length c.as_slice-kinds.result.now) c.read_args.new.objects)) c.as_slice-kinds.ensures c.if-not-read_args.ensures)
    c.timed.ensures
