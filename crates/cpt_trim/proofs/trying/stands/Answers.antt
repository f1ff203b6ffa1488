use Rattle.std.proofs.Common.{◌≤◌, ℕ, List, Bor, map, length, sym, ◌∙◌, subst}
use Rattle.cpt_trim.proofs.FateLists.{text_short}
use Rattle.cpt_trim.proofs.trying.stands.Goals as goal

pub is_certificate-requires-clause-size : goal.is_certificate-requires-clause-size
is_certificate-requires-clause-size c =
    let e = c.deref.ensures.value ∙ c.in_ok-text.ensures in
    subst (λ (z : List ℕ). length z ≤ 16777216) (sym e) (text_short c.args.fates.now (map (λ (b : Bor (List ℕ)). b.now) c.args.bodies.now) c.args.tail.now c.requires.size)
