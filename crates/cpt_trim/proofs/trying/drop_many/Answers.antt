use Rattle.std.proofs.Common.{◌≡◌, ◌∙◌, ℕ, List, Bor, map, length, sym, subst, arith}
use Rattle.cpt_thin.specs.declared.fates.Fate.{Fate}
use Rattle.cpt_trim.specs.Fates.{AreTold, text_of}
use Rattle.cpt_trim.specs.Without.{IsAccepted}
use Rattle.cpt_trim.proofs.FateLists.{befit_count, yes_of}
use Rattle.cpt_trim.proofs.Needs.{are_lines, lines_few, lines_many, thinner_size, thinner_told}
use Rattle.cpt_trim.proofs.trying.drop_many.Goals as goal

pub thin-requires-clause-each : goal.thin-requires-clause-each
thin-requires-clause-each c =
    let each = befit_count c.args.fates.now c.args.bodies.now c.requires.told.befit in
    let many = lines_many c.args.bodies.now c.args.tail.now c.args.lines.now c.requires.lines in
    omega (arith, each, many)

pub thin-requires-clause-lines : goal.thin-requires-clause-lines
thin-requires-clause-lines c = are_lines (map (λ (b : Bor (List ℕ)). b.now) c.args.bodies.now) c.args.tail.now c.args.lines.now c.requires.lines

pub thin-requires-clause-size : goal.thin-requires-clause-size
thin-requires-clause-size c = lines_few c.args.bodies.now c.args.tail.now c.args.lines.now c.requires.lines c.requires.size

pub stands-requires-clause-each : goal.stands-requires-clause-each
stands-requires-clause-each c =
    let each = befit_count c.args.fates.now c.args.bodies.now c.requires.told.befit in
    let size = thinner_size c.args.fates.now c.in_ok-thinner.thinner.items c.in_ok-thinner.ensures in
    subst (λ (z : List Fate). length z ≡ length c.args.bodies.now) (sym c.deref.ensures.value) (omega (arith, each, size))

pub copy_from_slice-requires : goal.copy_from_slice-requires
copy_from_slice-requires c =
    let size = thinner_size c.args.fates.now c.in_ok-thinner.thinner.items c.in_ok-thinner.ensures in
    subst (λ (z : List Fate). length c.args.fates.now ≡ length z) (sym c.deref-2.ensures.value) (omega (arith, size))

pub returns : goal.returns
returns c =
    let t = c.args.task.now in
    let bodies = map (λ (b : Bor (List ℕ)). b.now) c.args.bodies.now in
    let tail = c.args.tail.now in
    let thinner = c.in_ok-thinner.thinner.items in
    let accepted = subst (λ (z : List Fate). IsAccepted t (text_of z bodies tail)) c.deref.ensures.value (yes_of c.in_ok-stands.field-0 _ _ c.in_ok-stands.ensures c.if-not-branch.false) in
    subst (λ (z : List Fate). AreTold t z bodies tail) (sym (c.copy_from_slice.ensures.after ∙ c.deref-2.ensures.value))
    (thinner_told t c.args.fates.now thinner bodies tail c.in_ok-thinner.ensures c.requires.told accepted)
