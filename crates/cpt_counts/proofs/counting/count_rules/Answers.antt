use Rattle.std.proofs.Common.{◌≤◌, ℕ, List, [], ◌∷◌, length, refl}
use Rattle.std.proofs.lemmas.List.Elements.{All-nil, All-cons}
use Rattle.cpt_counts.proofs.counting.count_rules.Goals as goal

pub returns-clause-values : goal.returns-clause-values
returns-clause-values c =
    rw (c.count_begun.ensures.value, c.count_begun-2.ensures.value, c.count_begun-3.ensures.value, c.count_begun-4.ensures.value, c.count_begun-5.ensures.value, c.count_begun-6.ensures.value, c.count_begun-7.ensures.value, c.count_begun-8.ensures.value, c.count_begun-9.ensures.value, c.count_begun-10.ensures.value, c.count_begun-11.ensures.value, c.count_begun-12.ensures.value, c.count_begun-13.ensures.value) refl

pub returns-clause-few : goal.returns-clause-few
returns-clause-few c =
    let few : ℕ → Type 0 = λ n. n ≤ length c.args.text.now in
    let from_13 : List ℕ = c.count_begun-13.result ∷ [] in
    let from_12 : List ℕ = c.count_begun-12.result ∷ from_13 in
    let from_11 : List ℕ = c.count_begun-11.result ∷ from_12 in
    let from_10 : List ℕ = c.count_begun-10.result ∷ from_11 in
    let from_9 : List ℕ = c.count_begun-9.result ∷ from_10 in
    let from_8 : List ℕ = c.count_begun-8.result ∷ from_9 in
    let from_7 : List ℕ = c.count_begun-7.result ∷ from_8 in
    let from_6 : List ℕ = c.count_begun-6.result ∷ from_7 in
    let from_5 : List ℕ = c.count_begun-5.result ∷ from_6 in
    let from_4 : List ℕ = c.count_begun-4.result ∷ from_5 in
    let from_3 : List ℕ = c.count_begun-3.result ∷ from_4 in
    let from_2 : List ℕ = c.count_begun-2.result ∷ from_3 in
    All-cons few c.count_begun.result from_2 c.count_begun.ensures.few (All-cons few c.count_begun-2.result from_3 c.count_begun-2.ensures.few (All-cons few c.count_begun-3.result from_4 c.count_begun-3.ensures.few (All-cons few c.count_begun-4.result from_5 c.count_begun-4.ensures.few (All-cons few c.count_begun-5.result from_6 c.count_begun-5.ensures.few (All-cons few c.count_begun-6.result from_7 c.count_begun-6.ensures.few (All-cons few c.count_begun-7.result from_8 c.count_begun-7.ensures.few (All-cons few c.count_begun-8.result from_9 c.count_begun-8.ensures.few (All-cons few c.count_begun-9.result from_10 c.count_begun-9.ensures.few (All-cons few c.count_begun-10.result from_11 c.count_begun-10.ensures.few (All-cons few c.count_begun-11.result from_12 c.count_begun-11.ensures.few (All-cons few c.count_begun-12.result from_13 c.count_begun-12.ensures.few (All-cons few c.count_begun-13.result [] c.count_begun-13.ensures.few (All-nil few)))))))))))))
