use Rattle.std.proofs.Common.{◌≡◌, ℕ, List, refl, ap, ◌∙◌}
use Rattle.std.specs.Prelude.{Result, Ok, Err}
use Rattle.cpt_sexp.specs.declared.item.SexpError.{SexpError}
use Rattle.cpt_sexp.specs.declared.item.SexpError.TheVariants.{BadByte, Unopened, Unclosed, Deep, Memory}
use Rattle.cpt_sexp.specs.Grammar.{ForestShape, SpellsText}
use Rattle.cpt_sexp.specs.Parsing.{Parses, Refuses}
use Rattle.cpt_sexp.specs.Printing.{nest_of}
use Rattle.cpt_sexp.specs.Trees.{Trees}
use Rattle.cpt_sexp.proofs.OneReading.{no_fault, one_reading}
use Rattle.cpt_sexp.proofs.PrintingLemmas.{printed_spelled}
use Rattle.cpt_domain.specs.declared.domain.Domain.{Domain}
use Rattle.cpt_domain_spelling.specs.Siblings.{Siblings}
use Rattle.cpt_domain_spelling.specs.Spellable.{IsSpellable}
use Rattle.cpt_domain_spelling.specs.Spelling.{domain_nest}
use Rattle.cpt_domain_spelling.specs.Texts.{GivesBack, text_of}
use Rattle.cpt_domain_spelling.proofs.DomainLemmas.{domain_back}
use Rattle.cpt_domain_spelling.proofs.SpellingLemmas.{domain_written}
use Rattle.cpt_domain_spelling.proofs.WrittenLemmas.{written_lower, written_printable}

-- a text that spells trees is refused for memory alone
only_memory : (text : List ℕ) (trees : Trees) (error : SexpError) → SpellsText text trees → Refuses text error → error ≡ Memory
only_memory text trees (BadByte at) s h = absurd (no_fault text trees (BadByte at) s h.stands)
only_memory text trees (Unopened at) s h = absurd (no_fault text trees (Unopened at) s h.stands)
only_memory text trees (Unclosed at) s h = absurd (no_fault text trees (Unclosed at) s h.stands)
only_memory text trees (Deep at) s h = absurd (no_fault text trees (Deep at) s h.stands)
only_memory text trees Memory s h = refl

-- the text of a domain, parsed, gives the domain back
pub text_back : (d : Domain) (groups : List Siblings) (result : Result ForestShape SexpError) → IsSpellable d groups → Parses (text_of d groups) result → GivesBack d result
text_back d groups (Ok forest) h p =
    let written = domain_written d groups h in
    let there = printed_spelled (domain_nest d groups) (written_printable 0 (domain_nest d groups) written) in
    let trees = one_reading (text_of d groups) forest.trees there.0 p.0 there.1 in
    let text = p.1 ∙ written_lower 0 (domain_nest d groups) written in
    domain_back d groups forest h (ap (λ t. nest_of t forest.trees) text ∙ ap (nest_of (text_of d groups)) trees ∙ there.2)
text_back d groups (Err error) h p =
    let there = printed_spelled (domain_nest d groups) (written_printable 0 (domain_nest d groups) (domain_written d groups h)) in
    only_memory (text_of d groups) there.0 error there.1 p
