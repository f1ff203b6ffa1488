use Rattle.std.proofs.Common.{◌≡◌, ◌<◌, length, All, refl, sym, subst}
use Rattle.cpt_tables.specs.Spans.{◌≤ˢ◌}
use Rattle.cpt_tables.specs.Shapes.{pair_at, most_over}
use Rattle.cpt_tables.specs.Admissible.{limit_by_two}
use Rattle.cpt_tables.specs.Weights.{value_at}
use Rattle.cpt_tables.proofs.SpanLemmas.{le_trans}
use Rattle.cpt_h2.specs.Rules.{IsMet}
use Rattle.cpt_h2.specs.Rules.Rule.{two}
use Rattle.cpt_h2.specs.Rows.{limit_of_parts}
use Rattle.cpt_h2.proofs.BoardLemmas.{drops_same}
use Rattle.cpt_h2.proofs.RuleLemmas.{drops_one, settles_one, settles_quiet}
use Rattle.cpt_h2.proofs.RowLemmas.{all_within, row_small, parts_of, parts_enough, parts_most, met_by_tops}
use Rattle.cpt_h2.proofs.rules.apply_two.Goals as goal

pub farthest-across-requires : goal.farthest-across-requires
farthest-across-requires c = rw c.as_slice-qs.ensures.items (all_within c.args.board.now.pairs.atoms (length c.args.reach.now) c.args.second.now.pre c.requires.read.near.size c.requires.second.atoms.pre)

pub limit_of_parts-limit-requires-clause-own : goal.limit_of_parts-limit-requires-clause-own
limit_of_parts-limit-requires-clause-own c = c.requires.read.begin.small

pub limit_of_parts-limit-requires-clause-other : goal.limit_of_parts-limit-requires-clause-other
limit_of_parts-limit-requires-clause-other c = c.requires.other.small

pub limit_of_parts-limit-requires-clause-across : goal.limit_of_parts-limit-requires-clause-across
limit_of_parts-limit-requires-clause-across c =
    rw (c.farthest-across.ensures, c.as_slice-qs.ensures.items) (row_small c.args.board.now c.args.first.now.pre c.args.second.now.pre c.args.reach.now c.requires.read.near c.requires.second.atoms.pre)

pub is_below-requires : goal.is_below-requires
is_below-requires c = rw c.as_slice.ensures.items (all_within c.args.board.now.pairs.atoms (length c.args.tops.now) c.args.second.now.add c.requires.read.top.size c.requires.second.atoms.add)

pub look_at_two-requires-clause-enough : goal.look_at_two-requires-clause-enough
look_at_two-requires-clause-enough c =
    let e : c.limit_of_parts-limit.result ≡ limit_of_parts c.args.first.now c.args.second.now c.args.own c.args.other (most_over (value_at c.args.reach.now) c.args.second.now.pre) =
    parts_of c.args.first.now c.args.second.now c.args.own c.args.other c.farthest-across.result c.args.reach.now c.as_slice-qs.result.now c.limit_of_parts-limit.result c.limit_of_parts-limit.ensures.value c.farthest-across.ensures c.as_slice-qs.ensures.items in
    rw e (parts_enough c.args.board.now c.args.first.now c.args.second.now c.args.own c.args.other c.args.reach.now c.args.tops.now c.requires.read c.requires.other c.requires.second)

pub returns-then-are_quiet : goal.returns-then-are_quiet
returns-then-are_quiet c = record {
  drops = drops_one (two c.args.first.now c.args.second.now) c.args.board.now c.args.board.now (drops_same (λ g. IsMet g (two c.args.first.now c.args.second.now)) c.args.board.now c.args.board.now refl c.requires.good);
  settled = λ h from under. settles_quiet (two c.args.first.now c.args.second.now) c.args.looked.now h c.args.board.now
      (rw (c.as_slice-ps.ensures.items, c.as_slice-qs.ensures.items) at (c.are_quiet.ensures c.if-are_quiet.true));
}

pub returns-then-is_below : goal.returns-then-is_below
returns-then-is_below c =
    let e : c.limit_of_parts-limit.result ≡ limit_of_parts c.args.first.now c.args.second.now c.args.own c.args.other (most_over (value_at c.args.reach.now) c.args.second.now.pre) =
    parts_of c.args.first.now c.args.second.now c.args.own c.args.other c.farthest-across.result c.args.reach.now c.as_slice-qs.result.now c.limit_of_parts-limit.result c.limit_of_parts-limit.ensures.value c.farthest-across.ensures c.as_slice-qs.ensures.items in
    let below : All (λ q. value_at c.args.tops.now q ≤ˢ c.limit_of_parts-limit.result) c.args.second.now.add =
    subst (All (λ q. value_at c.args.tops.now q ≤ˢ c.limit_of_parts-limit.result)) c.as_slice.ensures.items (c.is_below.ensures c.if-is_below.true) in
    let within : All (λ q. q < length c.args.reach.now) c.args.second.now.pre =
    all_within c.args.board.now.pairs.atoms (length c.args.reach.now) c.args.second.now.pre c.requires.read.near.size c.requires.second.atoms.pre in
    record {
      drops = drops_one (two c.args.first.now c.args.second.now) c.args.board.now c.args.board.now (drops_same (λ g. IsMet g (two c.args.first.now c.args.second.now)) c.args.board.now c.args.board.now refl c.requires.good);
      settled = λ h from under. settles_one (two c.args.first.now c.args.second.now) c.args.looked.now h c.args.board.now (λ p q con.
          le_trans (pair_at c.args.board.now.pairs p q) c.limit_of_parts-limit.result (limit_by_two h c.args.first.now c.args.second.now)
          (met_by_tops c.args.board.now c.args.first.now c.args.second.now c.args.tops.now c.limit_of_parts-limit.result c.requires.read.top c.requires.second.atoms.add below p q con)
          (subst (λ v. v ≤ˢ limit_by_two h c.args.first.now c.args.second.now) (sym e) (parts_most h c.args.board.now.pairs c.args.first.now c.args.second.now c.args.own c.args.other c.args.reach.now from under within)));
    }

pub returns : goal.returns
returns c =
    let e : c.limit_of_parts-limit.result ≡ limit_of_parts c.args.first.now c.args.second.now c.args.own c.args.other (most_over (value_at c.args.reach.now) c.args.second.now.pre) =
    parts_of c.args.first.now c.args.second.now c.args.own c.args.other c.farthest-across.result c.args.reach.now c.as_slice-qs.result.now c.limit_of_parts-limit.result c.limit_of_parts-limit.ensures.value c.farthest-across.ensures c.as_slice-qs.ensures.items in
    let within : All (λ q. q < length c.args.reach.now) c.args.second.now.pre =
    all_within c.args.board.now.pairs.atoms (length c.args.reach.now) c.args.second.now.pre c.requires.read.near.size c.requires.second.atoms.pre in
    record {
      drops = drops_one (two c.args.first.now c.args.second.now) c.args.board.now c.look_at_two.new.board c.look_at_two.ensures.drops;
      settled = λ h from under. settles_one (two c.args.first.now c.args.second.now) c.args.looked.now h c.look_at_two.new.board (λ p q con.
          le_trans (pair_at c.look_at_two.new.board.pairs p q) c.limit_of_parts-limit.result (limit_by_two h c.args.first.now c.args.second.now)
          (c.look_at_two.ensures.met p q con)
          (subst (λ v. v ≤ˢ limit_by_two h c.args.first.now c.args.second.now) (sym e) (parts_most h c.args.board.now.pairs c.args.first.now c.args.second.now c.args.own c.args.other c.args.reach.now from under within)));
    }
