use Rattle.std.proofs.Common.{◌≡◌, refl}
use Rattle.std.specs.Fmt.{digits}
use Rattle.cpt_domain_spelling.specs.Sample.{lamp_groups, lamp_text, lamps}
use Rattle.cpt_domain_spelling.specs.Texts.{text_of}

pub lamps_spelled : text_of lamps lamp_groups ≡ lamp_text
unfolding digits
lamps_spelled = refl
