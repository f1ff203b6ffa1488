-- what is written between marks, again and again
use Rattle.std.proofs.Common.{◌≡◌, List, [], ◌∷◌, ◌++◌, sym, ◌∙◌, ap, subst}
use Rattle.std.proofs.lemmas.List.{same_from_push}
use Rattle.cpt_sheet.specs.declared.data.Sheet.{Sheet}
use Rattle.cpt_store.specs.Stores.{KeepsMarks, Mark}
use Rattle.cpt_store.specs.Stores.KeepsMarks.{same as as_before, newest}

pub marks_kept : (ls ms ns : List Mark) → KeepsMarks ls ms → KeepsMarks ms ns → KeepsMarks ls ns
marks_kept ls ms ns (as_before e) k = subst (λ (z : List Mark). KeepsMarks z ns) e k
marks_kept ls ms ns (newest xs s m n e f) (as_before g) = newest xs s m n e (g ∙ f)
marks_kept ls ms ns (newest xs s m n e f) (newest ys u k l g h) =
    let p = same_from_push xs ys (record { sheet = s; written = n }) (record { sheet = u; written = k }) (sym f ∙ g) in
    let a : s ≡ u = ap (λ (z : Mark). z.sheet) p.1 in
    newest xs s m l e (h ∙ ap (λ (z : List Mark). z ++ record { sheet = u; written = l } ∷ []) (sym p.0) ∙ ap (λ (z : Sheet). xs ++ record { sheet = z; written = l } ∷ []) (sym a))
