use Rattle.std.proofs.Common.{◌≡◌, ◌≢◌, ℕ, true, List, [], ◌∷◌, All, sym, ap, ◌∙◌}
use Rattle.std.proofs.lemmas.List.Elements.{All-weaker}
use Rattle.std.proofs.lemmas.List.Sums.{AllPass-from_list_all}
use Rattle.cpt_line.specs.Names.{word_byte}
use Rattle.cpt_pddl.specs.Words.{is_word}
use Rattle.cpt_domain.specs.declared.domain.Domain.{Domain}
use Rattle.cpt_domain.specs.Sound.{IsSound}
use Rattle.cpt_facts.specs.declared.problem.Problem.{Problem}
use Rattle.cpt_facts.specs.Fitting.{AreDifferent, Fits, object_names}
use Rattle.cpt_instance.specs.Named.{schema_names}
use Rattle.cpt_instance.proofs.Words.{IsWord}

-- what is used here of a sound domain and a problem that fits it
pub record HasWords (d : Domain) (p : Problem) : Type 0 where
  pub schemas : All IsWord (schema_names d)
  pub different : AreDifferent (schema_names d)
  pub objects : All IsWord (object_names d p)

no_blank : (b : ℕ) → word_byte b ≡ true → b ≢ 32
no_blank b h e = let s : word_byte 32 ≡ true = ap word_byte (sym e) ∙ h in cc

pub word_of : (w : List ℕ) → is_word w ≡ true → IsWord w
word_of [] h = absurd (cc)
word_of (b ∷ bs) h = All-weaker (λ c. word_byte c ≡ true) (λ c. c ≢ 32) no_blank (b ∷ bs) (AllPass-from_list_all word_byte (b ∷ bs) h)

pub words_of : (d : Domain) (p : Problem) → IsSound d → Fits d p → HasWords d p
words_of d p sound fits =
    record {
      schemas = All-weaker (λ name. is_word name ≡ true) IsWord word_of (schema_names d) sound.words.actions;
      different = sound.names.actions;
      objects = All-weaker (λ name. is_word name ≡ true) IsWord word_of (object_names d p) fits.words;
    }
