use Rattle.std.specs.Prelude.{◌≡◌, ℕ, List, map, Result, Ok, Err}
use Rattle.std.specs.Char.{to_ascii_lowercase}
use Rattle.cpt_sexp.specs.declared.item.SexpError.{SexpError}
use Rattle.cpt_sexp.specs.declared.item.SexpError.TheVariants.{BadByte, Unopened, Unclosed, Deep, Memory}
use Rattle.cpt_sexp.specs.Faults.{IsFirstFault}
use Rattle.cpt_sexp.specs.Grammar.{ForestShape, SpellsText}

-- the first fault of the text, unless memory ran out
abbrev pub Refuses : List ℕ → SexpError → Type 0
Refuses text (BadByte at) = IsFirstFault text (BadByte at)
Refuses text (Unopened at) = IsFirstFault text (Unopened at)
Refuses text (Unclosed at) = IsFirstFault text (Unclosed at)
Refuses text (Deep at) = IsFirstFault text (Deep at)
Refuses text Memory = Unit {0}

-- the trees that the text spells, with the text in lower case, or else its first fault
abbrev pub Parses : List ℕ → Result ForestShape SexpError → Type 0
Parses text (Ok forest) = SpellsText text forest.trees × (forest.text ≡ map to_ascii_lowercase text)
Parses text (Err error) = Refuses text error
