use Rattle.std.proofs.Common.{◌≡◌, ◌∙◌, ◌++◌, sym, subst, ap, min}
use Rattle.cpt_task.specs.declared.span.Span.TheVariants.{At}
use Rattle.cpt_tables.specs.Spans.{IsBelow, ◌+ˢ◌, span_max}
use Rattle.cpt_tables.specs.Shapes.{set_span_of, most_across}
use Rattle.cpt_tables.specs.Admissible.{limit_by_one}
use Rattle.cpt_tables.proofs.SetLemmas.{own_small, both_small, set_append}
use Rattle.cpt_tables.proofs.sides.limit_of_two.Goals as goal

pub after-together-requires-clause-small : goal.after-together-requires-clause-small
after-together-requires-clause-small c =
    let h = c.args.pairs.now in
    let other : c.set_span-other.result ≡ set_span_of h c.args.d.now.pre = c.set_span-other.ensures ∙ ap (λ xs. set_span_of h xs) c.as_slice.ensures.items in
    let across : c.span_across-across.result ≡ most_across h c.args.c.now.pre c.args.d.now.pre =
    c.span_across-across.ensures ∙ ap (λ xs. most_across h xs c.as_slice-3.result.now) c.as_slice-2.ensures.items ∙ ap (λ xs. most_across h c.args.c.now.pre xs) c.as_slice-3.ensures.items in
    let is : c.greater_span-both.result ≡ span_max (set_span_of h c.args.c.now.pre) (span_max (set_span_of h c.args.d.now.pre) (most_across h c.args.c.now.pre c.args.d.now.pre)) = cc in
    subst (IsBelow 1000000000000000) (sym is) (both_small h c.args.c.now c.args.d.now c.requires.small c.requires.first c.requires.second)

pub after-requires-clause-small : goal.after-requires-clause-small
after-requires-clause-small c = subst (IsBelow 1000000000000000) (sym c.requires.own) (own_small c.args.pairs.now c.args.c.now c.requires.small c.requires.first)

pub after-requires-2-clause-small : goal.after-requires-2-clause-small
after-requires-2-clause-small c =
    let other : c.set_span-other.result ≡ set_span_of c.args.pairs.now c.args.d.now.pre = c.set_span-other.ensures ∙ ap (λ xs. set_span_of c.args.pairs.now xs) c.as_slice.ensures.items in
    subst (IsBelow 1000000000000000) (sym other) (own_small c.args.pairs.now c.args.d.now c.requires.small c.requires.second)

pub returns : goal.returns
returns c =
    let h = c.args.pairs.now in
    let other : c.set_span-other.result ≡ set_span_of h c.args.d.now.pre = c.set_span-other.ensures ∙ ap (λ xs. set_span_of h xs) c.as_slice.ensures.items in
    let across : c.span_across-across.result ≡ most_across h c.args.c.now.pre c.args.d.now.pre =
    c.span_across-across.ensures ∙ ap (λ xs. most_across h xs c.as_slice-3.result.now) c.as_slice-2.ensures.items ∙ ap (λ xs. most_across h c.args.c.now.pre xs) c.as_slice-3.ensures.items in
    let both : c.greater_span-both.result ≡ set_span_of h (c.args.c.now.pre ++ c.args.d.now.pre) =
    (let is : c.greater_span-both.result ≡ span_max (set_span_of h c.args.c.now.pre) (span_max (set_span_of h c.args.d.now.pre) (most_across h c.args.c.now.pre c.args.d.now.pre)) = cc in is ∙ sym (set_append h c.args.c.now.pre c.args.d.now.pre)) in
    let first : c.after.result ≡ limit_by_one h c.args.c.now = c.after.ensures ∙ ap (λ v. v +ˢ At c.args.c.now.dur) c.requires.own in
    let second : c.after-2.result ≡ limit_by_one h c.args.d.now = c.after-2.ensures ∙ ap (λ v. v +ˢ At c.args.d.now.dur) other in
    let together : c.after-together.result ≡ set_span_of h (c.args.c.now.pre ++ c.args.d.now.pre) +ˢ At (min c.args.c.now.dur c.args.d.now.dur) =
    c.after-together.ensures ∙ ap (λ n. c.greater_span-both.result +ˢ At n) c.min.ensures ∙ ap (λ v. v +ˢ At (min c.args.c.now.dur c.args.d.now.dur)) both in
    c.greater_span-3.ensures ∙ ap (λ v. span_max v c.greater_span-2.result) first
    ∙ ap (λ v. span_max (limit_by_one h c.args.c.now) v) (c.greater_span-2.ensures ∙ ap (λ v. span_max v c.after-together.result) second ∙ ap (λ v. span_max (limit_by_one h c.args.d.now) v) together)
