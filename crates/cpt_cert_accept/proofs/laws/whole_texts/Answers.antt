use Rattle.std.proofs.Common.{[]}
use Rattle.cpt_cert_accept.proofs.TextLines as lemmas
use Rattle.cpt_cert_accept.proofs.laws.whole_texts.Goals as goal

pub returns : goal.returns
returns c = λ t text ls v claim m inside short of reads. lemmas.whole_text t text ls v claim [] m inside short of reads
