use Rattle.std.proofs.Common.{◌++◌, ◌∷◌, [], ◌+◌, ◌*◌, All, ◌<◌, sym, subst}
use Rattle.std.proofs.lemmas.List.Elements.{All-append}
use Rattle.cpt_tables.specs.Spans.{IsBelow}
use Rattle.cpt_tables.specs.Weights.{reached}
use Rattle.cpt_h2.proofs.LimitLemmas.{across_small, span_and, below_only}
use Rattle.cpt_h2.proofs.limits.span_beside.Goals as goal

pub returns-clause-value : goal.returns-clause-value
returns-clause-value c =
    rw (c.greater_span.ensures, c.set_span.ensures, c.greater_span-more.ensures, c.span_with.ensures, c.get.ensures, c.pairs-pairs.ensures)
    (sym (span_and c.args.board.now.pairs c.args.atoms.now c.args.q))

pub returns-clause-small : goal.returns-clause-small
returns-clause-small c =
    let all : All (λ p. p < c.args.board.now.pairs.atoms) (c.args.atoms.now ++ c.args.q ∷ []) = All-append (λ p. p < c.args.board.now.pairs.atoms) c.args.atoms.now (c.args.q ∷ []) c.requires.atoms (below_only c.args.board.now.pairs.atoms c.args.q c.requires.atom) in
    subst (IsBelow (100000 * reached c.args.board.now.pairs.values + 1)) (sym (returns-clause-value c)) (across_small c.args.board.now (c.args.atoms.now ++ c.args.q ∷ []) (c.args.atoms.now ++ c.args.q ∷ []) c.requires.good all all)
