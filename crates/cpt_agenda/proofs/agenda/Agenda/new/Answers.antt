use Rattle.std.proofs.Common.{◌∙◌, ap, List, Bool, length}
use Rattle.cpt_agenda.proofs.MarkLemmas.{sound_new, clear_length}
use Rattle.cpt_agenda.proofs.agenda.Agenda.new.Goals as goal

pub invariant_of-result : goal.invariant_of-result
invariant_of-result c =
    sound_new _ c.args.tokens c.args.acts c.in_ok-tokens.ensures c.in_ok-acts.ensures c.in_ok-queue.ensures.items c.in_ok-queue.ensures.len c.in_ok-queue.ensures.exact

pub returns-clause-tokens : goal.returns-clause-tokens
returns-clause-tokens c = ap (λ (l : List Bool). length l) c.in_ok-tokens.ensures ∙ clear_length c.args.tokens

pub returns-clause-acts : goal.returns-clause-acts
returns-clause-acts c = ap (λ (l : List Bool). length l) c.in_ok-acts.ensures ∙ clear_length c.args.acts
