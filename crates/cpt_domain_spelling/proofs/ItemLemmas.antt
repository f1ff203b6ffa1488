use Rattle.std.proofs.Common.{◌≡◌, ℕ, Bool, true, false, List, refl, ap, ◌∙◌}
use Rattle.std.specs.Prelude.{if◌then◌else◌, Result, Ok}
use Rattle.cpt_sexp.specs.Printing.{Nest}
use Rattle.cpt_sexp.specs.Printing as nest
use Rattle.cpt_pddl.specs.declared.fault.Fault.{Fault}
use Rattle.cpt_pddl.specs.Faults.{◌>>=◌}
use Rattle.cpt_pddl.specs.Items.{Items, end, word, group}
use Rattle.cpt_domain_spelling.specs.Saying.{says}

-- items that begin with a word
pub record BeginsWord (items : Items) (bytes : List ℕ) (rest : Nest) : Type 0 where
  pub at : ℕ
  pub more : Items
  pub is : items ≡ word at bytes more
  pub said : says more ≡ rest

-- items that begin with a group
pub record BeginsGroup (items : Items) (inner rest : Nest) : Type 0 where
  pub at : ℕ
  pub inside : Items
  pub more : Items
  pub is : items ≡ group at inside more
  pub within : says inside ≡ inner
  pub said : says more ≡ rest

-- no items
pub record Ends (items : Items) : Type 0 where
  pub close : ℕ
  pub is : items ≡ end close

pub word_there : (items : Items) (bytes : List ℕ) (rest : Nest) → says items ≡ nest.name bytes rest → BeginsWord items bytes rest
word_there (end close) bytes rest e = absurd (cc)
word_there (word at w more) bytes rest e =
    let same : w ≡ bytes = cc in
    record { at = at; more = more; is = ap (λ b. word at b more) same; said = cc }
word_there (group at inside more) bytes rest e = absurd (cc)

pub group_there : (items : Items) (inner rest : Nest) → says items ≡ nest.list inner rest → BeginsGroup items inner rest
group_there (end close) inner rest e = absurd (cc)
group_there (word at w more) inner rest e = absurd (cc)
group_there (group at inside more) inner rest e = record { at = at; inside = inside; more = more; is = refl; within = cc; said = cc }

pub end_there : (items : Items) → says items ≡ nest.nothing → Ends items
end_there (end close) e = record { close = close; is = refl }
end_there (word at w more) e = absurd (cc)
end_there (group at inside more) e = absurd (cc)

-- what is read in two steps
pub bound : {A B : Type 0} {r : Result A Fault} {x : A} {z : Result B Fault} → (f : A → Result B Fault) → r ≡ Ok x → f x ≡ z → (r >>= f) ≡ z
bound f e h = ap (λ q. q >>= f) e ∙ h

-- a test that is so, or not
pub when : {A : Type 0} {b : Bool} → (x y : A) → b ≡ true → (if b then x else y) ≡ x
when x y e = ap (λ c. if c then x else y) e

pub unless : {A : Type 0} {b : Bool} → (x y : A) → b ≡ false → (if b then x else y) ≡ y
unless x y e = ap (λ c. if c then x else y) e
