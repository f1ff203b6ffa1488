use Rattle.cpt_cert_read.proofs.Enough.{kept_reading, kept_twice, kept_nothing}
use Rattle.cpt_cert_read.proofs.laws.enough_is_kept.Goals as goal

pub returns-clause-reading : goal.returns-clause-reading
returns-clause-reading c = kept_reading

pub returns-clause-more : goal.returns-clause-more
returns-clause-more c = kept_twice

pub returns-clause-nothing : goal.returns-clause-nothing
returns-clause-nothing c = kept_nothing
