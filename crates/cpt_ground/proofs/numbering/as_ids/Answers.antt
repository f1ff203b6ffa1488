use Rattle.std.proofs.Common.{◌≡◌, List, ℕ, Option, subst}
use Rattle.std.specs.Option.{IfSome}
use Rattle.std.proofs.lemmas.List.Filters.{dedup_is}
use Rattle.std.proofs.lemmas.Map.Keys.{IsStrictlyIncreasing-dedup}
use Rattle.cpt_ground.proofs.LiteralLemmas.{same-numbers}
use Rattle.cpt_ground.proofs.numbering.as_ids.Goals as goal

pub unwrap-requires : goal.unwrap-requires
unwrap-requires c =
    let is = dedup_is _ _ _ c.dedup.ensures.filtered in
    c.from_vec.ensures.made.1 (rw is (IsStrictlyIncreasing-dedup _ c.sort_unstable.ensures.sorted))

pub returns-clause-same : goal.returns-clause-same
returns-clause-same c =
    let e : c.unwrap.result ≡ c.dedup.new.self.items = subst (λ (o : Option (List ℕ)). IfSome o (λ ids. ids ≡ c.dedup.new.self.items)) c.unwrap.ensures c.from_vec.ensures.same in
    rw e (same-numbers c.args.numbers.items c.sort_unstable.new.self.items c.dedup.new.self.items c.sort_unstable.ensures.permutation c.dedup.ensures.filtered)
