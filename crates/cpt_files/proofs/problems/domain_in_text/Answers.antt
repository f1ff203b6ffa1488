use Rattle.std.proofs.Common.{Err, sym, subst, true}
use Rattle.cpt_domain.specs.declared.domain.Domain.{Domain}
use Rattle.cpt_answer.specs.declared.ending.Ending.{Ending}
use Rattle.cpt_answer.specs.Giving.{Gives}
use Rattle.cpt_files.specs.Texts.{DomainText}
use Rattle.cpt_files.proofs.Stages.{domain_faulty, domain_given, domain_unparsed}
use Rattle.cpt_files.proofs.problems.domain_in_text.Goals as goal

pub returns-in-Err-clause-answer : goal.returns-in-Err-clause-answer
returns-in-Err-clause-answer c = λ steady. domain_unparsed steady c.args.text.now c.in-Err.ending (c.in-Err.ensures.answer steady)

pub returns-in-Ok-read_domain-clause-answer : goal.returns-in-Ok-read_domain-clause-answer
returns-in-Ok-read_domain-clause-answer c =
    λ steady. domain_given c.args.text.now c.in-Ok.forest c.in-Ok-read_domain.domain (c.in-Ok.ensures.answer true) c.in-Ok-read_domain.ensures.exact c.in-Ok-read_domain.ensures.sound

pub returns-clause-answer : goal.returns-clause-answer
returns-clause-answer c =
    λ steady. subst (λ (e : Ending). Gives steady (λ (d : Domain). d) (Err e) (DomainText c.args.text.now)) (sym c.from_domain.ensures.value)
    (domain_faulty steady c.args.text.now c.in-Ok.forest c.in-Err-read_domain.e (c.in-Ok.ensures.answer true) c.in-Err-read_domain.ensures.exact)
