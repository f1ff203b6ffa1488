-- Names that none of those before has, and actions and atoms that make a beginning whole.
use Rattle.std.proofs.Common.{◌≡◌, ℕ, zero, suc, ◌+◌, ◌<◌, true, false, List, [], ◌∷◌, ◌++◌, length, refl, ap, arith}
use Rattle.std.proofs.lemmas.Bool.{or_from, false_from_ne_true}
use Rattle.std.proofs.lemmas.List.Elements.{All-nil}
use Rattle.std.specs.List.Sorted.{IsStrictlyIncreasing}
use Rattle.std.specs.Str.{bytes_eq}
use Rattle.cpt_task.specs.declared.task.Action.{Action}
use Rattle.cpt_line.specs.Names.{is_name, name_after}
use Rattle.cpt_task_text.specs.Reading.{is_among}
use Rattle.cpt_task_text.proofs.Acting.{AllFit, FitsAction}
use Rattle.cpt_task_text.proofs.Binding.{eq_bytes}
use Rattle.cpt_task_text.proofs.Listing.{rises_increase}
use Rattle.cpt_task_text.proofs.Naming.{AreNew}

-- so many letters, and the closing parenthesis
letters : ℕ → List ℕ
letters zero = 41 ∷ []
letters (suc m) = 120 ∷ letters m

letters_end : (m : ℕ) → name_after true (letters m) ≡ true
unfolding letters
letters_end zero = refl
letters_end (suc m) = letters_end m

letters_length : (m : ℕ) → length (letters m) ≡ m + 1
unfolding letters
letters_length zero = refl
letters_length (suc m) = omega (arith, letters_length m)

-- how many bytes there are in all names
total : List (List ℕ) → ℕ
total [] = 0
total (name ∷ names) = length name + total names

-- a name with more bytes than all of these together
fresh : List (List ℕ) → List ℕ
fresh names = 40 ∷ 120 ∷ letters (total names)

fresh_legal : (names : List (List ℕ)) → is_name (fresh names) ≡ true
unfolding fresh
fresh_legal names = letters_end (total names)

fresh_long : (names : List (List ℕ)) → total names < length (fresh names)
unfolding fresh
fresh_long names = omega (arith, letters_length (total names))

longer_is_new : (names : List (List ℕ)) (name : List ℕ) → total names < length name → is_among names name ≡ false
unfolding total
longer_is_new [] name lt = refl
longer_is_new (other ∷ names) name lt =
    or_from (bytes_eq name other) (is_among names name) (false_from_ne_true _ (λ e. let same : length name ≡ length other = ap length (eq_bytes name other e) in omega (arith, lt, same))) (longer_is_new names name (omega (arith, lt)))

fresh_new : (names : List (List ℕ)) → is_among names (fresh names) ≡ false
fresh_new names = longer_is_new names (fresh names) (fresh_long names)

-- so many further legal names, all distinct and none among those before them
pub record MoreNames (seen : List (List ℕ)) (k : ℕ) : Type 0 where
  pub names : List (List ℕ)
  pub new : AreNew seen names
  pub many : length names ≡ k

pub more_names : (k : ℕ) (seen : List (List ℕ)) → MoreNames seen k
more_names zero seen = record { names = []; new = tt; many = refl }
more_names (suc k) seen =
    let others = more_names k (seen ++ fresh seen ∷ []) in
    record { names = fresh seen ∷ others.names; new = (fresh_legal seen, fresh_new seen, others.new); many = ap suc others.many }

-- so many further actions, with names that are new
pub record MoreActions (count : ℕ) (seen : List (List ℕ)) (k : ℕ) : Type 0 where
  pub actions : List Action
  pub fit : AllFit count seen actions
  pub many : length actions ≡ k

idle : List ℕ → Action
idle name = record { name = name; dur = 1; pre = []; add = []; dele = [] }

pub none_rise : IsStrictlyIncreasing []
none_rise = rises_increase 0 0 [] tt

idle_fits : (count : ℕ) (seen : List (List ℕ)) → FitsAction count seen (idle (fresh seen))
unfolding idle
idle_fits count seen = record {
  legal = fresh_legal seen;
  new = fresh_new seen;
  lists = record { pre = record { increasing = none_rise; short = omega arith }; add = record { increasing = none_rise; short = omega arith }; dele = record { increasing = none_rise; short = omega arith } };
  below = record { pre = All-nil (λ id. id < count); add = All-nil (λ id. id < count); dele = All-nil (λ id. id < count) };
  lasts = (omega arith, omega arith);
}

pub more_actions : (k count : ℕ) (seen : List (List ℕ)) → MoreActions count seen k
unfolding idle
more_actions zero count seen = record { actions = []; fit = tt; many = refl }
more_actions (suc k) count seen =
    let others = more_actions k count (seen ++ fresh seen ∷ []) in
    record { actions = idle (fresh seen) ∷ others.actions; fit = (idle_fits count seen, others.fit); many = ap suc others.many }
