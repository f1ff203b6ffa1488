use Rattle.cpt_plan_text.proofs.EntryParts.{line_has_parts, line_is_silent}
use Rattle.cpt_plan_text.proofs.EntryRead.{parts_are_read, silence_is_read, refused_is_neither, neither_is_refused}
use Rattle.cpt_plan_text.proofs.laws.lines_by_parts.Goals as goal

pub returns-clause-entry : goal.returns-clause-entry
returns-clause-entry c = λ line entry. (line_has_parts line entry, parts_are_read line entry)

pub returns-clause-silent : goal.returns-clause-silent
returns-clause-silent c = λ line. (line_is_silent line, silence_is_read line)

pub returns-clause-refused : goal.returns-clause-refused
returns-clause-refused c = λ line. (refused_is_neither line, λ neither. neither_is_refused line neither.0 neither.1)
