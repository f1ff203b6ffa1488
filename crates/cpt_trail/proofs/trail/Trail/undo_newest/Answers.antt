use Rattle.std.proofs.Common.{rules, arith, ◌≡◌, ◌+◌, ◌-◌, ◌≤◌, ℕ, length, map, drop, refl, ◌∙◌, ◌∷◌, ◌++◌, [], ap, sym, subst, List}
use Rattle.std.specs.Prelude.{reverse, min}
use Rattle.std.specs.Vec.{vec_len, vec_capacity}
use Rattle.cpt_trail.specs.declared.entries.Level.{Level}
use Rattle.cpt_trail.specs.Trails.{TrailShape, Mark, entries_of}
use Rattle.cpt_trail.specs.Cells.{IsStamped, marks_of}
use Rattle.cpt_trail.proofs.Undoing.{newest, entries_of-last}
use Rattle.cpt_trail.specs.declared.entries.Entry.{Entry}
use Rattle.std.proofs.lemmas.List.{length-append}
use Rattle.cpt_trail.proofs.Written.{IsRewound, rewound, room_back}
use Rattle.cpt_trail.proofs.trail.Trail.undo_newest.Given as given
use Rattle.cpt_trail.proofs.trail.Trail.undo_newest.Goals as goal
use Rattle.cpt_trail.proofs.trail.Trail.undo_newest.Goals.{After-rewind}

back : (g : given.Over) (c : After-rewind g) → IsRewound c.in-Some.level (reverse c.pop.new.self.items) c.self.inside.entries.items c.rewind.new.entries.items c.self.inside.stamps.items c.rewind.new.stamps.items c.self.inside.values.items c.rewind.new.values.items
back g c =
    let i = c.self.inside in
    let q : reverse i.levels.items ≡ c.in-Some.level ∷ reverse c.pop.new.self.items = ap (λ (ls : List Level). reverse ls) c.in-Some.ensures.items ∙ newest c.pop.new.self.items c.in-Some.level in
    rewound c.in-Some.level (reverse c.pop.new.self.items) i.entries.items c.rewind.new.entries.items i.stamps.items c.rewind.new.stamps.items i.values.items c.rewind.new.values.items
    (subst (λ (ls : List Level). IsStamped ls i.entries.items i.stamps.items) q c.self.invariant.stamped) c.self.invariant.lengths c.rewind.ensures.entries c.rewind.ensures.values c.rewind.ensures.stamps

pub invariant_of-self : goal.invariant_of-self
invariant_of-self g c = let b = back g c in record { lengths = b.lengths; stamped = b.stamped }

-- the newest mark, which is gone
gone : (g : given.Over) (c : After-rewind g) → Mark
gone g c = record { cells = c.rewind.new.values.items; kept = map (λ (e : Entry). e.cell) (drop c.in-Some.level.entries c.self.inside.entries.items) }

-- the marks that are left
left : (g : given.Over) (c : After-rewind g) → List Mark
left g c = marks_of (reverse c.pop.new.self.items) c.rewind.new.entries.items c.rewind.new.values.items

split : (g : given.Over) (c : After-rewind g) → c.args.self.now.marks ≡ left g c ++ gone g c ∷ []
unfolding gone left
split g c =
    let i = c.self.inside in
    let q : reverse i.levels.items ≡ c.in-Some.level ∷ reverse c.pop.new.self.items = ap (λ (ls : List Level). reverse ls) c.in-Some.ensures.items ∙ newest c.pop.new.self.items c.in-Some.level in
    sym (ap (λ (s : TrailShape). s.marks) c.self.view_is) ∙ (ap (λ (ls : List Level). marks_of ls i.entries.items i.values.items) q ∙ (back g c).marks)

one : (g : given.Over) (c : After-rewind g) → length c.args.self.now.marks ≡ length (left g c) + 1
one g c = ap (λ (ms : List Mark). length ms) (split g c) ∙ length-append (left g c) (gone g c ∷ [])

fewer : (g : given.Over) (c : After-rewind g) → entries_of c.args.self.now.marks ≡ entries_of (left g c) + length (gone g c).kept
fewer g c = ap (λ (ms : List Mark). entries_of ms) (split g c) ∙ entries_of-last (left g c) (gone g c)

pub returns-in-Some-clause-one : goal.returns-in-Some-clause-one
unfolding left
returns-in-Some-clause-one g c = one g c

pub returns-in-Some-clause-ticks : goal.returns-in-Some-clause-ticks
unfolding left gone
returns-in-Some-clause-ticks g c =
    let f = fewer g c in
    let e = (back g c).entries in
    let l = (back g c).left in
    omega (arith, c.rewind.ensures.ticks)

pub returns-in-Some-clause-back : goal.returns-in-Some-clause-back
unfolding left gone
returns-in-Some-clause-back g c =
    let i = c.self.inside in
    let b = back g c in
    let n = one g c in
    let f = fewer g c in
    let nv : vec_len i.values ≡ length i.values.items = search rules in
    let ns : vec_len i.stamps ≡ length i.stamps.items = search rules in
    let ne : vec_len i.entries ≡ length i.entries.items = search rules in
    let nl : vec_len i.levels ≡ length i.levels.items = search rules in
    let mv : vec_len c.rewind.new.values ≡ length c.rewind.new.values.items = search rules in
    let ms : vec_len c.rewind.new.stamps ≡ length c.rewind.new.stamps.items = search rules in
    let me : vec_len c.rewind.new.entries ≡ length c.rewind.new.entries.items = search rules in
    let ml : vec_len c.pop.new.self ≡ length c.pop.new.self.items = search rules in
    let bv : vec_len i.values ≤ vec_capacity i.values = search rules in
    let bs : vec_len i.stamps ≤ vec_capacity i.stamps = search rules in
    let be : vec_len i.entries ≤ vec_capacity i.entries = search rules in
    let bl : vec_len i.levels ≤ vec_capacity i.levels = search rules in
    let cv : vec_capacity c.rewind.new.values ≡ vec_capacity i.values = c.rewind.ensures.values_capacity in
    let cs : vec_capacity c.rewind.new.stamps ≡ vec_capacity i.stamps = c.rewind.ensures.stamps_capacity in
    let ce : vec_capacity c.rewind.new.entries ≡ vec_capacity i.entries = c.rewind.ensures.capacity in
    let cl : vec_capacity c.pop.new.self ≡ vec_capacity i.levels = c.pop.ensures.capacity in
    let ll : length i.levels.items ≡ length c.pop.new.self.items + 1 = ap (λ (ls : List Level). length ls) c.in-Some.ensures.items ∙ length-append c.pop.new.self.items (c.in-Some.level ∷ []) in
    let sl : length i.stamps.items ≡ length i.values.items = c.self.invariant.lengths in
    let le : length c.rewind.new.values.items ≤ length i.values.items = b.shorter in
    let room : c.args.self.now.cell_room + length c.args.self.now.cells ≡ min (vec_capacity i.values - vec_len i.values) (vec_capacity i.stamps - vec_len i.stamps) + length i.values.items = ap (λ (s : TrailShape). s.cell_room + length s.cells) (sym c.self.view_is) in
    let eroom : c.args.self.now.entry_room ≡ vec_capacity i.entries - vec_len i.entries = ap (λ (s : TrailShape). s.entry_room) (sym c.self.view_is) in
    let mroom : c.args.self.now.mark_room ≡ vec_capacity i.levels - vec_len i.levels = ap (λ (s : TrailShape). s.mark_room) (sym c.self.view_is) in
    let ents = b.entries in
    record {
      mark = gone g c;
      newer = [];
      marks = split g c;
      older = refl;
      cells = refl;
      cell_room = ap (λ (k : ℕ). min (k - vec_len c.rewind.new.values) (vec_capacity c.rewind.new.stamps - vec_len c.rewind.new.stamps) + length c.rewind.new.values.items) cv
          ∙ (ap (λ (k : ℕ). min (vec_capacity i.values - vec_len c.rewind.new.values) (k - vec_len c.rewind.new.stamps) + length c.rewind.new.values.items) cs
          ∙ (room_back (vec_len i.values) (vec_len i.stamps) (vec_len c.rewind.new.values) (vec_len c.rewind.new.stamps) (length i.values.items) (length c.rewind.new.values.items) (vec_capacity i.values) (vec_capacity i.stamps)
          nv (ns ∙ sl) mv (ms ∙ b.lengths) le (subst (λ (k : ℕ). k ≤ vec_capacity i.values) nv bv) (subst (λ (k : ℕ). k ≤ vec_capacity i.stamps) (ns ∙ sl) bs)
          ∙ sym room));
      entry_room = omega arith;
      mark_room = omega arith;
    }
