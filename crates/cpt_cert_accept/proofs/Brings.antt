-- how many tokens the sheets of a tree have
use Rattle.std.proofs.Common.{◌≡◌, ℕ, ◌+◌, List, [], ◌∷◌, ◌++◌, length, refl, ap, arith, length-append}
use Rattle.std.proofs.lemmas.List.{length-map}
use Rattle.cpt_task.specs.Shape.{TaskShape}
use Rattle.cpt_sheet.specs.declared.data.Cand.TheVariants.{Tok}
use Rattle.cpt_sheet.specs.declared.data.Sheet.{Sheet}
use Rattle.cpt_sheet.specs.declared.data.Change.{Change}
use Rattle.cpt_sheet.specs.declared.data.Change.TheVariants.{Raise, Lower, Take, Post}
use Rattle.cpt_sheet.specs.declared.data.Decision.{Decision}
use Rattle.cpt_sheet.specs.declared.data.Decision.TheVariants.{Join, Bring, Before}
use Rattle.cpt_sheet.specs.declared.data.NodeLine.{NodeLine}
use Rattle.cpt_sheet.specs.declared.data.NodeLine.TheVariants.{Child}
use Rattle.cpt_sheet.specs.View.{span_of, hi}
use Rattle.cpt_sheet.specs.Edits.{changed, without, moment_or}
use Rattle.cpt_calculus.specs.Decisions.{applied, joined, with_offers, offered, brought}
use Rattle.cpt_calculus.proofs.Views.{tokens_with_span}
use Rattle.cpt_soundness.proofs.ViewLemmas.{count_with_list}
use Rattle.cpt_cert_accept.specs.Trees.{bring_of, brings}

-- a change keeps the number of tokens
pub count_narrowed : (s : Sheet) (c : Change) → length (changed s c).tokens ≡ length s.tokens
count_narrowed s (Raise c v) = tokens_with_span s c (record (span_of s c) { lo = v })
count_narrowed s (Lower c v) = tokens_with_span s c (record (span_of s c) { hi = moment_or v (hi s c) })
count_narrowed s (Take x p c) = count_with_list s x p (without c)
count_narrowed s (Post x y) = refl

-- a decision adds a token where it brings one
pub count_applied : (t : TaskShape) (s : Sheet) (d : Decision) → length (applied t s d).tokens ≡ length s.tokens + bring_of (Child d)
count_applied t s (Join x p y) = let e = count_with_list s x p (λ cs. Tok y ∷ []) in omega (arith, e)
count_applied t s (Bring x p a) =
    let n = length s.tokens in
    let old = joined (with_offers s a n) x p n in
    let e = count_with_list (with_offers s a n) x p (λ cs. Tok n ∷ []) in
    let m = length-map s.tokens (offered a n) in
    let k = length-append old.tokens (brought t s a ∷ []) in omega (arith, e, m, k)
count_applied t s (Before x y) = omega arith

pub brings_append : (ls more : List NodeLine) → brings (ls ++ more) ≡ brings ls + brings more
brings_append [] more = omega arith
brings_append (l ∷ ls) more = let e = brings_append ls more in omega (arith, e)
