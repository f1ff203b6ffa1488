-- the one file of a library is open
use Rattle.std.proofs.Common.{◌≡◌, ℕ, List, [], ◌∷◌, Option, Some, Vec, ap, ◌∙◌, subst}
use Rattle.std.specs.Global.{Global}
use Rattle.cpt_io.specs.Meaning.{Files, Opens}
use Rattle.cpt_io.specs.Entries.{Entry, held}

pub opened_left : (files : List Entry) (name : List ℕ) (bytes : Vec ℕ Global) (holds : Option Files) (left : Option (List ℕ)) → files ≡ (name, bytes) ∷ [] → name ≡ [] → holds ≡ Some (held files) → Opens holds [] left → left ≡ Some bytes.items
opened_left files name bytes holds left one empty told opens =
    let at : left ≡ held files [] = subst (λ z. Opens z [] left) told opens in
    let first : held files [] ≡ held ((name, bytes) ∷ []) [] = ap (λ z. held z []) one in
    let named : held ((name, bytes) ∷ []) [] ≡ held (([], bytes) ∷ []) [] = ap (λ z. held ((z, bytes) ∷ []) []) empty in
    at ∙ first ∙ named
