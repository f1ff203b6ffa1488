use Rattle.cpt_sections.proofs.tabling.leave_pairs.Goals as goal

pub returns-in-Goal : goal.returns-in-Goal
returns-in-Goal c = λ v n late. rw c.in-Goal.is (c.judge_goal.ensures v n late)
