use Rattle.std.proofs.Common.{arith, ◌≤◌, ◌∙◌, length, ap}
use Rattle.cpt_sheet.specs.View.{cands}
use Rattle.cpt_cells.specs.Lists.{token_of}
use Rattle.cpt_cells.proofs.Making.{only_is, only_past}
use Rattle.cpt_cells.proofs.cells.Cells.only.Goals as goal

pub returns-then-x-tokens : goal.returns-then-x-tokens
returns-then-x-tokens c = c.token_of.ensures ∙ (ap token_of c.first.ensures ∙ only_is (cands c.args.self.now.sheet c.args.x c.args.p))

pub returns-else-x-tokens : goal.returns-else-x-tokens
returns-else-x-tokens c = only_past c.args.self.now.sheet c.args.x c.args.p (let l : length c.args.self.now.sheet.tokens ≤ c.args.x = omega (arith, c.tokens.ensures.value) in l)
