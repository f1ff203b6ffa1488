use Rattle.std.proofs.Common.{◌≡◌}
use Rattle.cpt_sheet.specs.Edits.{changed}
use Rattle.cpt_calculus.specs.Closing.{StaysFormed}
use Rattle.cpt_calculus.proofs.Stays.{ok_more, stays_formed}
use Rattle.cpt_calculus.proofs.narrowing.narrow.Goals as goal

pub returns-clause-formed : goal.returns-clause-formed
returns-clause-formed c =
    ok_more c.make.result (c.make.new.sheet ≡ changed c.args.sheet.now c.change_of-change.result) (StaysFormed c.args.sheet.now c.args.step.now c.make.new.sheet)
    (stays_formed c.args.sheet.now c.make.new.sheet c.change_of-change.result c.args.step.now c.change_of-change.ensures) c.make.ensures.ok
