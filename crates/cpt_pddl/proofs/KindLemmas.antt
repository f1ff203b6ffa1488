use Rattle.std.proofs.Common.{◌≡◌, ◌≢◌, ◌∙◌, ℕ, suc, ◌+◌, ◌-◌, ◌<◌, nat_eq, true, false, List, ap, slice_index, arith}
use Rattle.std.specs.Prelude.{if◌then◌else◌}
use Rattle.std.proofs.lemmas.Bool.Decides.{nat_tests}
use Rattle.cpt_pddl.specs.Kinds.{climbs}

pub differs : (a b : ℕ) → a ≢ b → nat_eq a b ≡ false
differs a b h = grind (arith, nat_tests)

-- one step up from a type that is neither the wanted one nor type 0
pub climb_on : (len step : ℕ) (parents : List ℕ) (kind wanted : ℕ) → step < len → kind ≢ wanted → kind ≢ 0
    → climbs (len - step) parents kind wanted ≡ climbs (len - (step + 1)) parents (slice_index parents kind) wanted
climb_on len step parents kind wanted lt h k =
    let e : len - step ≡ suc (len - (step + 1)) = omega arith in
    ap (λ n. climbs n parents kind wanted) e
    ∙ ap (λ b. if b then true else if nat_eq kind 0 then false else climbs (len - (step + 1)) parents (slice_index parents kind) wanted) (differs kind wanted h)
    ∙ ap (λ b. if b then false else climbs (len - (step + 1)) parents (slice_index parents kind) wanted) (differs kind 0 k)
