use Rattle.std.proofs.Common.{List, sym, ap, ◌∙◌, arith}
use Rattle.cpt_ground.specs.declared.atoms.Atom.{Atom}
use Rattle.cpt_ground.specs.Atoms.{fact_of, facts_of, place_of}
use Rattle.cpt_ground.proofs.LiteralLemmas.{complement-fits}
use Rattle.cpt_ground.proofs.literals.Literals.complement_number.Goals as goal

pub overflow_add-result : goal.overflow_add-result
overflow_add-result c =
    let found = c.in_ok-place.ensures ∙ ap (λ (xs : List Atom). place_of (facts_of xs) (fact_of c.args.atom)) c.deref.ensures.value in
    omega (arith, c.len.ensures, c.requires.few, complement-fits c.args.self.now (fact_of c.args.atom) c.in_ok-place.place (sym found))
