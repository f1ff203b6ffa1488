use Rattle.std.proofs.Common.{◌≡◌, ℕ, ◌<◌, inl, inr, Bool, List, map, sym, ap, ◌∙◌, subst, arith}
use Rattle.std.proofs.lemmas.List.Kept.{AllPairs-from_increasing}
use Rattle.cpt_facts.specs.declared.problem.Fact.{Fact}
use Rattle.cpt_task.specs.declared.task.Action.{Action}
use Rattle.cpt_task.specs.Shape.{TaskShape}
use Rattle.cpt_ground.specs.Compiled.{Literal, there, missing, IsFactBefore, IsLiteralBefore, AreLiterals, AreNumbers, needs, adds, deletes, is_initial, is_goal, IsCompiledAction, IsCompiledBy, literal_name}
use Rattle.cpt_ground.specs.Signed.{Signed, SignedAction}
use Rattle.cpt_ground.specs.Laws.{OneGround}
use Rattle.cpt_ground.proofs.Unique.{IsOrder, same_list, same_zip, list_irreflexive, list_asymmetric, four, one_reading}

fact_irreflexive : (a : Fact) → IsFactBefore a a → ⊥
fact_irreflexive a h = elim h [ inl lt ↦ omega arith | inr w ↦ list_irreflexive a.args w.1 ]

fact_asymmetric : (a b : Fact) → IsFactBefore a b → IsFactBefore b a → ⊥
fact_asymmetric a b h k =
    elim h [
      | inl lt ↦ elim k [ inl gt ↦ omega arith | inr w ↦ let e : b.pred ≡ a.pred = w.0 in omega arith ]
      | inr v ↦ elim k [ inl gt ↦ let e : a.pred ≡ b.pred = v.0 in omega arith | inr w ↦ list_asymmetric a.args b.args v.1 w.1 ]
    ]

literal_irreflexive : (l : Literal) → IsLiteralBefore l l → ⊥
literal_irreflexive (there f) h = fact_irreflexive f h
literal_irreflexive (missing f) h = fact_irreflexive f h

literal_asymmetric : (l m : Literal) → IsLiteralBefore l m → IsLiteralBefore m l → ⊥
literal_asymmetric (there f) (there g) h k = fact_asymmetric f g h k
literal_asymmetric (there f) (missing g) h k = k
literal_asymmetric (missing f) (there g) h k = h
literal_asymmetric (missing f) (missing g) h k = fact_asymmetric f g h k

literal_order : IsOrder Literal IsLiteralBefore
literal_order = record { irreflexive = literal_irreflexive; asymmetric = literal_asymmetric }

number_order : IsOrder ℕ (λ (x y : ℕ). x < y)
number_order = record { irreflexive = λ n lt. omega arith; asymmetric = λ m n lt gt. omega arith }

same_literals : (s : Signed) (xs ys : List Literal) → AreLiterals s xs → AreLiterals s ys → xs ≡ ys
same_literals s xs ys a b =
    same_list IsLiteralBefore literal_order xs ys a.ordered b.ordered
    (λ l h. (b.exact l).1 ((a.exact l).0 h)) (λ l h. (a.exact l).1 ((b.exact l).0 h))

same_numbers : (literals : List Literal) (test : Literal → Bool) (ns ms : List ℕ) → AreNumbers literals test ns → AreNumbers literals test ms → ns ≡ ms
same_numbers literals test ns ms a b =
    same_list (λ (x y : ℕ). x < y) number_order ns ms (AllPairs-from_increasing ns a.ordered) (AllPairs-from_increasing ms b.ordered)
    (λ n h. (b.exact n).1 ((a.exact n).0 h)) (λ n h. (a.exact n).1 ((b.exact n).0 h))

five : {A B C D E G : Type 0} (f : A → B → C → D → E → G) (a a' : A) (b b' : B) (c c' : C) (d d' : D) (e e' : E)
    → a ≡ a' → b ≡ b' → c ≡ c' → d ≡ d' → e ≡ e' → f a b c d e ≡ f a' b' c' d' e'
five f a a' b b' c c' d d' e e' p q r s t = cc

one_compiled : (literals : List Literal) (a : SignedAction) (x y : Action) → IsCompiledAction literals a x → IsCompiledAction literals a y → x ≡ y
one_compiled literals a x y h k =
    let made : List ℕ → ℕ → List ℕ → List ℕ → List ℕ → Action = λ n m u v w. record { name = n; dur = m; pre = u; add = v; dele = w } in
    five made x.name y.name x.dur y.dur x.pre y.pre x.add y.add x.dele y.dele
    (h.name ∙ sym k.name) (h.dur ∙ sym k.dur) (same_numbers literals (needs a) x.pre y.pre h.pre k.pre)
    (same_numbers literals (adds a) x.add y.add h.add k.add) (same_numbers literals (deletes a) x.dele y.dele h.dele k.dele)

pub one_ground : OneGround
one_ground d p t u fits g h =
    let r : g.reading ≡ h.reading = one_reading d p g.reading h.reading fits g.reads h.reads in
    let c : IsCompiledBy g.reading h.literals u = subst (λ x. IsCompiledBy x h.literals u) (sym r) h.compiled in
    let l : g.literals ≡ h.literals = same_literals g.reading g.literals h.literals g.compiled.listed c.listed in
    let e : IsCompiledBy g.reading g.literals u = subst (λ x. IsCompiledBy g.reading x u) (sym l) c in
    let atoms : t.atoms ≡ u.atoms = g.atoms ∙ ap (map (literal_name d p)) l ∙ sym h.atoms in
    let made : List (List ℕ) → List Action → List ℕ → List ℕ → TaskShape = λ x y v w. record { atoms = x; actions = y; init = v; goal = w } in
    four made t.atoms u.atoms t.actions u.actions t.init u.init t.goal u.goal atoms
    (same_zip (IsCompiledAction g.literals) (one_compiled g.literals) g.reading.actions t.actions u.actions g.compiled.actions e.actions)
    (same_numbers g.literals (is_initial g.reading) t.init u.init g.compiled.init e.init)
    (same_numbers g.literals (is_goal g.reading) t.goal u.goal g.compiled.goal e.goal)
