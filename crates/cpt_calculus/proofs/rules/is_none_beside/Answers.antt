use Rattle.std.proofs.Common.{All, List}
use Rattle.cpt_sheet.specs.declared.data.Cand.{Cand}
use Rattle.cpt_sheet.specs.Gaps.{IsImpossibleBeside}
use Rattle.cpt_sheet.specs.View.{cands}
use Rattle.cpt_calculus.specs.Rules.{IsNoneBeside}
use Rattle.cpt_sheet.proofs.Tests.{match_along, match_more}
use Rattle.cpt_calculus.proofs.rules.is_none_beside.Goals as goal

pub returns : goal.returns
returns c =
    match_more c.are_impossible.result
    (All (IsImpossibleBeside c.args.task.now c.args.tables.now c.args.sheet.now c.args.p c.args.q c.args.c) (cands c.args.sheet.now c.args.x c.args.q))
    (IsNoneBeside c.args.task.now c.args.tables.now c.args.sheet.now c.args.x c.args.p c.args.c c.args.q)
    (λ h. record { none = h }) (λ h. h.none)
    (match_along (λ (zs : List Cand). All (IsImpossibleBeside c.args.task.now c.args.tables.now c.args.sheet.now c.args.p c.args.q c.args.c) zs) c.are_impossible.result c.list.result.now (cands c.args.sheet.now c.args.x c.args.q) c.list.ensures c.are_impossible.ensures)
