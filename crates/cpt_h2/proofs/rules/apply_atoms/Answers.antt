use Rattle.std.proofs.Common.{◌≡◌, ◌≤◌, subst, sym, ap, arith}
use Rattle.cpt_h2.specs.Board.{IsWithin, Drops}
use Rattle.cpt_tables.specs.Shapes.{PairShape}
use Rattle.cpt_h2.specs.Rules.{IsUpTo}
use Rattle.cpt_h2.specs.Rules.Rule.{beside}
use Rattle.cpt_h2.specs.Rounds.{MeetsEach, Settles}
use Rattle.cpt_h2.proofs.RuleLemmas.{drops_none, settles_none, drops_more, settles_more}
use Rattle.cpt_h2.proofs.RowLemmas.{read_later, from_later}
use Rattle.cpt_h2.proofs.rules.apply_atoms.Goals as goal

pub loop-q-init : goal.loop-q-init
loop-q-init c = record {
  read = c.requires.read;
  drops = drops_none (λ q r. r ≡ beside c.args.action.now q) c.args.board.now c.requires.good;
  settled = λ h from. settles_none (λ q r. r ≡ beside c.args.action.now q) c.args.looked.now h c.args.board.now;
}

pub loop-q-preserved : goal.loop-q-preserved
loop-q-preserved c = record {
  read = read_later (MeetsEach (λ r. r ≡ beside c.args.action.now c.loop-q.q)) c.loop-q.board c.apply_beside.new.board c.args.action.now c.args.own c.args.reach.now c.args.tops.now c.apply_beside.ensures.drops c.loop-q.invariant.read;
  drops = drops_more (λ q r. r ≡ beside c.args.action.now q) c.loop-q.q c.args.board.now c.loop-q.board c.apply_beside.new.board c.loop-q.invariant.drops c.apply_beside.ensures.drops;
  settled = λ h from. settles_more (λ q r. r ≡ beside c.args.action.now q) c.loop-q.q c.args.looked.now h c.loop-q.board c.apply_beside.new.board (c.loop-q.invariant.settled h from) c.apply_beside.ensures.drops
      (c.apply_beside.ensures.settled h (from_later (MeetsEach (IsUpTo (λ q r. r ≡ beside c.args.action.now q) c.loop-q.q)) h c.args.board.now c.loop-q.board c.args.action.now c.args.own c.args.reach.now c.loop-q.invariant.drops from));
}

pub apply_beside-requires-clause-good : goal.apply_beside-requires-clause-good
apply_beside-requires-clause-good c = c.loop-q.invariant.drops.good

pub apply_beside-requires-clause-action : goal.apply_beside-requires-clause-action
apply_beside-requires-clause-action c = subst (λ n. IsWithin n c.args.action.now) (sym c.loop-q.invariant.drops.size) c.requires.action

pub apply_beside-requires-clause-read : goal.apply_beside-requires-clause-read
apply_beside-requires-clause-read c = c.loop-q.invariant.read

pub returns : goal.returns
returns c =
    let size : c.atoms-q-end.result ≡ c.pairs.result.now.atoms = c.atoms-q-end.ensures.value in
    let same : c.pairs.result.now.atoms ≡ c.args.board.now.pairs.atoms = ap (λ (h : PairShape). h.atoms) c.pairs.ensures in
    let most : c.loop-q.q ≤ c.atoms-q-end.result = c.loop-q.auto.q-end in
    let least : c.atoms-q-end.result ≤ c.loop-q.q = c.loop-q-test.false in
    let e : c.loop-q.q ≡ c.args.board.now.pairs.atoms = omega (arith, size, same, most, least) in
    record {
      drops = subst (λ n. Drops (MeetsEach (IsUpTo (λ q r. r ≡ beside c.args.action.now q) n)) c.args.board.now c.loop-q.board) e c.loop-q.invariant.drops;
      settled = λ h from. subst (λ n. Settles (IsUpTo (λ q r. r ≡ beside c.args.action.now q) n) c.args.looked.now h c.loop-q.board) e (c.loop-q.invariant.settled h from);
    }
