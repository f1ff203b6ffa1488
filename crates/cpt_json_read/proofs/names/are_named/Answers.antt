use Rattle.std.proofs.Common.{◌≡◌, ◌+◌, ◌<◌, List, ℕ, [], ◌∷◌, ◌++◌, length, get_or, take, map, sym, ap, ◌∙◌, subst, arith}
use Rattle.std.proofs.lemmas.List.{length-map, take_more}
use Rattle.cpt_task_text.proofs.Sets.{Knows, knows_more, was_known, was_new}
use Rattle.cpt_json_read.proofs.Named.{illegal, named_at, one_more_name, repeated}
use Rattle.cpt_json_read.proofs.names.are_named.Goals as goal

pub returns-then-not-is_spelled_name : goal.returns-then-not-is_spelled_name
returns-then-not-is_spelled_name g c =
    let named = g.N.Named.named in
    let i = c.loop-item.item-index in
    let within : i < length c.args.items.now = omega arith in
    let lt : i < length (map named c.args.items.now) = omega (arith, length-map c.args.items.now named) in
    illegal (map named c.args.items.now) i c.name-name.result.now lt (named_at named c.args.items.now i c.item-item.result within c.item-item.is ∙ sym c.name-name.ensures) (sym c.is_spelled_name.ensures ∙ c.if-not-is_spelled_name.true)

pub returns-then-not-branch : goal.returns-then-not-branch
returns-then-not-branch g c =
    let named = g.N.Named.named in
    let i = c.loop-item.item-index in
    let within : i < length c.args.items.now = omega arith in
    let lt : i < length (map named c.args.items.now) = omega (arith, length-map c.args.items.now named) in
    repeated (map named c.args.items.now) i c.name-name.result.now lt (named_at named c.args.items.now i c.item-item.result within c.item-item.is ∙ sym c.name-name.ensures)
    (was_known c.loop-item.seen c.name-name.result (take i (map named c.args.items.now)) c.in_ok-insert.field-0 c.loop-item.invariant.seen c.in_ok-insert.ensures.added c.if-not-branch.true)

pub loop-item-preserved : goal.loop-item-preserved
loop-item-preserved g c =
    let named = g.N.Named.named in
    let names = map named c.args.items.now in
    let i = c.loop-item.item-index in
    let name = c.name-name.result.now in
    let within : i < length c.args.items.now = omega arith in
    let lt : i < length names = omega (arith, length-map c.args.items.now named) in
    let place : get_or names i [] ≡ name = named_at named c.args.items.now i c.item-item.result within c.item-item.is ∙ sym c.name-name.ensures in
    let e : take (i + 1) names ≡ take i names ++ name ∷ [] = take_more names i [] lt ∙ ap (λ (x : List ℕ). take i names ++ x ∷ []) place in
    record {
      seen = subst (Knows c.insert.new.self) (sym e) (knows_more c.loop-item.seen c.insert.new.self c.name-name.result (take i names) c.loop-item.invariant.seen c.in_ok-insert.ensures.keys);
      names = one_more_name names i name lt place (sym c.is_spelled_name.ensures ∙ c.if-not-is_spelled_name.false) (was_new c.loop-item.seen c.name-name.result (take i names) c.in_ok-insert.field-0 c.loop-item.invariant.seen c.in_ok-insert.ensures.added c.if-not-branch.false) c.loop-item.invariant.names;
    }
