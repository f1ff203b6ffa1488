use Rattle.std.specs.Prelude.{◌≡◌, ℕ, List, Result, Ok, Err}
use Rattle.cpt_sexp.specs.declared.item.SexpError.{SexpError}
use Rattle.cpt_sexp.specs.declared.item.SexpError.TheVariants.{Memory}
use Rattle.cpt_sexp.specs.Grammar.{ForestShape}
use Rattle.cpt_sexp.specs.Parsing.{Parses}
use Rattle.cpt_sexp.specs.Printing.{printed}
use Rattle.cpt_domain.specs.declared.domain.Domain.{Domain}
use Rattle.cpt_domain.specs.Reading.{domain_of}
use Rattle.cpt_domain_spelling.specs.Siblings.{Siblings}
use Rattle.cpt_domain_spelling.specs.Spellable.{IsSpellable}
use Rattle.cpt_domain_spelling.specs.Spelling.{domain_nest}

-- the text of a domain with its types in these groups: its spelling, with a space after each word and group
abbrev pub text_of : Domain → List Siblings → List ℕ
text_of d groups = printed (domain_nest d groups)

-- what parsing returned is read as the domain, unless memory ran out
abbrev pub GivesBack : Domain → Result ForestShape SexpError → Type 0
GivesBack d (Ok forest) = domain_of forest ≡ Ok d
GivesBack d (Err error) = error ≡ Memory

-- whatever parsing returns of the text of a domain, it is read as this domain, unless memory ran out
abbrev pub TextsReadBack : Type 0
TextsReadBack = (d : Domain) (groups : List Siblings) (result : Result ForestShape SexpError) → IsSpellable d groups → Parses (text_of d groups) result → GivesBack d result
