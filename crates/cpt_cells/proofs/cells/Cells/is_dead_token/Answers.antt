use Rattle.std.proofs.Common.{arith, ◌≢◌, ◌<◌, [], below_more, length, subst, inl}
use Rattle.cpt_sheet.specs.declared.data.Interval.{Interval}
use Rattle.cpt_sheet.specs.Live.{IsOpen, IsShut}
use Rattle.cpt_sheet.specs.View.{token_at}
use Rattle.cpt_block.specs.Blocks.{list_in}
use Rattle.cpt_cells.proofs.Deaths.{empty_at, live_token}
use Rattle.cpt_cells.proofs.cells.Cells.is_dead_token.Goals as goal

pub returns-then-is_shut : goal.returns-then-is_shut
returns-then-is_shut c = inl (subst (λ (i : Interval). IsShut i) c.span.ensures c.if-is_shut.ensures)

pub loop-j-preserved : goal.loop-j-preserved
loop-j-preserved c = below_more (λ k. list_in c.args.self.now.sheet c.args.x k ≢ []) c.loop-j.j c.loop-j.invariant c.if-is_empty.ensures

pub returns-then-is_empty : goal.returns-then-is_empty
returns-then-is_empty c = empty_at (token_at c.args.self.now.sheet c.args.x) c.loop-j.j (let l : c.loop-j.j < length (token_at c.args.self.now.sheet c.args.x).lists = omega (arith, c.needs-j-end.ensures.lists) in l) c.if-is_empty.ensures

pub returns : goal.returns
returns c = live_token (token_at c.args.self.now.sheet c.args.x) (subst (λ (i : Interval). IsOpen i) c.span.ensures c.if-is_shut.ensures) (λ j l. c.loop-j.invariant j (omega (arith, c.needs-j-end.ensures.lists)))
