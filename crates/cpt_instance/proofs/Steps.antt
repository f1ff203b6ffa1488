use Rattle.std.proofs.Common.{◌≡◌, ℕ, List, [], ◌∷◌, ◌++◌, Option, None, Some, refl, sym, ap, ◌∙◌}
use Rattle.std.specs.Option.{option_map}
use Rattle.std.proofs.lemmas.List.{append_assoc}
use Rattle.cpt_domain.specs.declared.domain.Domain.{Domain}
use Rattle.cpt_facts.specs.declared.problem.Problem.{Problem}
use Rattle.cpt_instance.specs.Named.{read_arg, then_args, read_args}

regroup : (done : List ℕ) (o : ℕ) (r : Option (List ℕ)) → option_map (λ ns. done ++ ns) (option_map (λ ns. o ∷ ns) r) ≡ option_map (λ ns. (done ++ o ∷ []) ++ ns) r
regroup done o None = refl
regroup done o (Some ns) = ap Some (sym (append_assoc done (o ∷ []) ns))

-- one more object
pub one_more : (d : Domain) (p : Problem) (all text done : List ℕ) (kind : ℕ) (kinds rest : List ℕ) (o : ℕ) (behind : List ℕ)
    → read_args d p all text ≡ option_map (λ ns. done ++ ns) (read_args d p (kind ∷ kinds) rest) → read_arg d p kind rest ≡ Some (o, behind)
    → read_args d p all text ≡ option_map (λ ns. (done ++ o ∷ []) ++ ns) (read_args d p kinds behind)
one_more d p all text done kind kinds rest o behind h e =
    h ∙ ap (λ r. option_map (λ ns. done ++ ns) (then_args r (read_args d p kinds))) e ∙ regroup done o (read_args d p kinds behind)

-- no object where one is wanted
pub no_more : (d : Domain) (p : Problem) (all text done : List ℕ) (kind : ℕ) (kinds rest : List ℕ)
    → read_args d p all text ≡ option_map (λ ns. done ++ ns) (read_args d p (kind ∷ kinds) rest) → read_arg d p kind rest ≡ None
    → read_args d p all text ≡ None
no_more d p all text done kind kinds rest h e =
    h ∙ ap (λ r. option_map (λ ns. done ++ ns) (then_args r (read_args d p kinds))) e
