use Rattle.std.proofs.Common.{◌≡◌, ◌≤◌, ◌<◌, ◌+◌, ◌^◌, length, All, arith}
use Rattle.std.specs.List.Sorted.{IsStrictlyIncreasing}
use Rattle.cpt_task.specs.Judgeable.{IsJudgeable}
use Rattle.cpt_plan_text.specs.Meaning.{plan_of}
use Rattle.cpt_plan_text.proofs.Sound.{plan_of_sound, if_read, sound_judgeable, sound_early, sound_from, sound_increasing}
use Rattle.cpt_plan_text.proofs.reading.read_plan.Goals as goal

pub returns-clause-plan : goal.returns-clause-plan
returns-clause-plan g c =
    let t = c.args.task.now in
    let text = c.args.text.now in
    let finds = g.R.Roster.finds c.args.roster.now in
    if_read c.plan_in.result (plan_of finds t text) (λ plan. IsJudgeable t plan.occs)
    (λ plan e. sound_judgeable t 1 (length text + 1) plan (plan_of_sound finds t text plan c.requires.known e)) c.plan_in.ensures

pub returns-clause-early : goal.returns-clause-early
returns-clause-early g c =
    let t = c.args.task.now in
    let text = c.args.text.now in
    let finds = g.R.Roster.finds c.args.roster.now in
    if_read c.plan_in.result (plan_of finds t text) (λ plan. All (λ o. o.start ≤ 1000000000) plan.occs)
    (λ plan e. sound_early t 1 (length text + 1) plan (plan_of_sound finds t text plan c.requires.known e)) c.plan_in.ensures

pub returns-clause-short : goal.returns-clause-short
returns-clause-short g c =
    let t = c.args.task.now in
    let text = c.args.text.now in
    let finds = g.R.Roster.finds c.args.roster.now in
    if_read c.plan_in.result (plan_of finds t text) (λ plan. length plan.occs < 2 ^ 32)
    (λ plan e. let few : length plan.occs ≤ length text + 1 = (plan_of_sound finds t text plan c.requires.known e).few in omega (arith, c.requires.small)) c.plan_in.ensures

pub returns-clause-lines : goal.returns-clause-lines
returns-clause-lines g c =
    let t = c.args.task.now in
    let text = c.args.text.now in
    let finds = g.R.Roster.finds c.args.roster.now in
    if_read c.plan_in.result (plan_of finds t text) (λ plan. length plan.lines ≡ length plan.occs)
    (λ plan e. (plan_of_sound finds t text plan c.requires.known e).same_length) c.plan_in.ensures

pub returns-clause-from_one : goal.returns-clause-from_one
returns-clause-from_one g c =
    let t = c.args.task.now in
    let text = c.args.text.now in
    let finds = g.R.Roster.finds c.args.roster.now in
    if_read c.plan_in.result (plan_of finds t text) (λ plan. All (λ n. 1 ≤ n) plan.lines)
    (λ plan e. sound_from t 1 (length text + 1) plan (plan_of_sound finds t text plan c.requires.known e)) c.plan_in.ensures

pub returns-clause-increasing : goal.returns-clause-increasing
returns-clause-increasing g c =
    let t = c.args.task.now in
    let text = c.args.text.now in
    let finds = g.R.Roster.finds c.args.roster.now in
    if_read c.plan_in.result (plan_of finds t text) (λ plan. IsStrictlyIncreasing plan.lines)
    (λ plan e. sound_increasing t 1 (length text + 1) plan (plan_of_sound finds t text plan c.requires.known e)) c.plan_in.ensures
