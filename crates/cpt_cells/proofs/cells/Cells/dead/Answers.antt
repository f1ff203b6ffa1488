use Rattle.std.proofs.Common.{arith, ◌<◌, below_more, length}
use Rattle.cpt_sheet.specs.Live.{IsLiveToken}
use Rattle.cpt_sheet.specs.View.{token_at}
use Rattle.cpt_cells.proofs.Deaths.{dead_at, live_all}
use Rattle.cpt_cells.proofs.cells.Cells.dead.Goals as goal

pub loop-x-preserved : goal.loop-x-preserved
loop-x-preserved c = below_more (λ k. IsLiveToken (token_at c.args.self.now.sheet k)) c.loop-x.x c.loop-x.invariant c.if-is_dead_token.ensures

pub returns-then-is_dead_token : goal.returns-then-is_dead_token
returns-then-is_dead_token c = dead_at c.args.self.now.sheet c.loop-x.x (let l : c.loop-x.x < length c.args.self.now.sheet.tokens = omega (arith, c.tokens-x-end.ensures.value) in l) c.if-is_dead_token.ensures

pub returns : goal.returns
returns c = live_all c.args.self.now.sheet (λ x l. c.loop-x.invariant x (omega (arith, c.tokens-x-end.ensures.value)))
