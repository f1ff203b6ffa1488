use Rattle.std.proofs.Common.{◌≡◌, ◌∙◌, ℕ, suc, zero, ◌+◌, ◌*◌, ◌<◌, ◌≤◌, ◌⊎◌, inl, inr, List, length, min, drop, sym, ap, get_or, arith, mul-suc, mul-zero, mul_assoc, drop-cons}
use Rattle.std.specs.Prelude.{slice_index_or}
use Rattle.std.proofs.lemmas.List.Sums.{get_or-le-sum_by, sum_by-drop_more}
use Rattle.cpt_schema.specs.declared.schemas.Schema.{Schema}
use Rattle.cpt_instance.specs.Choices.{list_total, member_count, schemas_total}

cases_le : (x y : ℕ) → (x ≤ y) ⊎ (y < x)
cases_le zero y = inl (omega arith)
cases_le (suc x) zero = inr (omega arith)
cases_le (suc x) (suc y) = elim (cases_le x y) [ inl less ↦ inl (omega arith) | inr more ↦ inr (omega arith) ]

cap_more : (x r limit : ℕ) → limit < x → min (limit * r) limit ≡ min (x * r) limit
cap_more x zero limit more = omega (arith, mul-zero limit, mul-zero x)
cap_more x (suc r) limit more = omega (arith, mul-suc limit r, mul-suc x r)

-- a factor that is capped changes no capped product
pub cap_mul : (x r limit : ℕ) → min (min x limit * r) limit ≡ min (x * r) limit
cap_mul x r limit =
    elim (cases_le x limit) [
      | inl less ↦ let e : min x limit ≡ x = omega arith in ap (λ n. min (n * r) limit) e
      | inr more ↦ let e : min x limit ≡ limit = omega arith in ap (λ n. min (n * r) limit) e ∙ cap_more x r limit more
    ]

total_at : (parents kinds wanted : List ℕ) (i : ℕ) → i < length wanted
    → list_total parents kinds (drop i wanted) ≡ member_count parents kinds (get_or wanted i 0) * list_total parents kinds (drop (suc i) wanted)
total_at parents kinds wanted i lt = ap (list_total parents kinds) (drop-cons wanted i 0 lt)

-- one more type
pub one_more_type : (parents kinds wanted : List ℕ) (i n m r : ℕ) → i < length wanted → m ≡ member_count parents kinds (get_or wanted i 0) → r ≡ min (n * m) 1000001
    → min (n * list_total parents kinds (drop i wanted)) 1000001 ≡ min (list_total parents kinds wanted) 1000001
    → min (r * list_total parents kinds (drop (i + 1) wanted)) 1000001 ≡ min (list_total parents kinds wanted) 1000001
one_more_type parents kinds wanted i n m r lt em er h =
    let s : i + 1 ≡ suc i = omega arith in
    ap (λ k. min (k * list_total parents kinds (drop (i + 1) wanted)) 1000001) er
    ∙ cap_mul (n * m) (list_total parents kinds (drop (i + 1) wanted)) 1000001
    ∙ ap (λ x. min x 1000001) (mul_assoc n m (list_total parents kinds (drop (i + 1) wanted)))
    ∙ ap (λ x. min (n * (x * list_total parents kinds (drop (i + 1) wanted))) 1000001) em
    ∙ ap (λ k. min (n * (member_count parents kinds (get_or wanted i 0) * list_total parents kinds (drop k wanted))) 1000001) s
    ∙ ap (λ x. min (n * x) 1000001) (sym (total_at parents kinds wanted i lt))
    ∙ h

-- one more schema
pub one_more_schema : (parents kinds : List ℕ) (schemas : List Schema) (i n : ℕ) (s : Schema) → i < length schemas → s ≡ slice_index_or schemas i s
    → min (n + schemas_total parents kinds (drop i schemas)) 1000001 ≡ min (schemas_total parents kinds schemas) 1000001
    → min (min (n + min (list_total parents kinds s.kinds) 1000001) 1000001 + schemas_total parents kinds (drop (i + 1) schemas)) 1000001
    ≡ min (schemas_total parents kinds schemas) 1000001
one_more_schema parents kinds schemas i n s lt is h =
    let e : schemas_total parents kinds (drop i schemas) ≡ list_total parents kinds (slice_index_or schemas i s).kinds + schemas_total parents kinds (drop (i + 1) schemas) =
    sum_by-drop_more (λ (x : Schema). list_total parents kinds x.kinds) schemas i s lt in
    let f : list_total parents kinds s.kinds ≡ list_total parents kinds (slice_index_or schemas i s).kinds = ap (λ (x : Schema). list_total parents kinds x.kinds) is in
    omega arith

-- no schema has more lists than all together
pub schema_few : (parents kinds : List ℕ) (schemas : List Schema) (i : ℕ) (s : Schema) → i < length schemas → s ≡ slice_index_or schemas i s
    → schemas_total parents kinds schemas ≤ 1000000 → list_total parents kinds s.kinds ≤ 1000000
schema_few parents kinds schemas i s lt is few =
    let le : list_total parents kinds (slice_index_or schemas i s).kinds ≤ schemas_total parents kinds schemas =
    get_or-le-sum_by (λ (x : Schema). list_total parents kinds x.kinds) schemas i s lt in
    let f : list_total parents kinds s.kinds ≡ list_total parents kinds (slice_index_or schemas i s).kinds = ap (λ (x : Schema). list_total parents kinds x.kinds) is in
    omega arith
