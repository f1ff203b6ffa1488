use Rattle.std.proofs.Common.{rules, arith, ◌≡◌, ◌<◌, ◌+◌, ◌*◌, ◌^◌, ◌++◌, ◌∷◌, [], ◌∙◌, ℕ, List, if◌then◌else◌, length, set, ap, sym, subst}
use Rattle.std.specs.Prelude.{map}
use Rattle.cpt_trail.specs.Trails.{Mark, keeps, with_kept}
use Rattle.cpt_layout.specs.Places.{Frame, extended}
use Rattle.cpt_layout.specs.Numbers.{cells_in}
use Rattle.cpt_layout.specs.Sheets.{seen}
use Rattle.cpt_block.specs.Blocks.{IsFrameOf, block, grown}
use Rattle.cpt_cells.specs.Shapes.{CellsShape, KeepsMarks}
use Rattle.cpt_cells.specs.Marks.{mark_of, IsHeldBy}
use Rattle.cpt_cells.proofs.Growths.{grown_seen, held_more, keeps_grown, tokens_below}
use Rattle.cpt_cells.proofs.Rooms.{room_there}
use Rattle.cpt_cells.proofs.cells.Cells.grow.Goals as goal

pub overflow_add-tokens : goal.overflow_add-tokens
overflow_add-tokens g c =
    let s : Frame = c.self.inside.layout.frame in
    let b = tokens_below s (length s.kinds) in
    let k : c.tokens.result + 1 < 2 ^ 64 = omega (arith, c.tokens.ensures, c.self.invariant.cells, c.self.invariant.fits) in
    search rules

pub write-requires-clause-room : goal.write-requires-clause-room
write-requires-clause-room g c k = room_there c.self.inside.trail.entry_room c.out_cells-count.result c.self.inside.trail.marks c.self.invariant.once c.self.invariant.room k

pub invariant_of-self : goal.invariant_of-self
invariant_of-self g c =
    let i = c.self.inside in
    let s : Frame = i.layout.frame in
    let numbers : List ℕ = c.args.numbers.now in
    let u = c.append_all.new.trail in
    let count : c.out_cells-count.result ≡ 2 * length s.pre = c.out_cells-count.ensures in
    let frame : c.push.new.self.frame ≡ extended s (c.args.kind ∷ []) = c.push.ensures.frame in
    let size : length numbers + cells_in s ≡ cells_in (extended s (c.args.kind ∷ [])) = subst (λ (z : CellsShape). length numbers + cells_in z.frame ≡ cells_in (extended z.frame (c.args.kind ∷ []))) (sym c.self.view_is) c.requires.size in
    let fits : cells_in (extended s (c.args.kind ∷ [])) < 2 ^ 64 = subst (λ (z : CellsShape). cells_in (extended z.frame (c.args.kind ∷ [])) < 2 ^ 64) (sym c.self.view_is) c.requires.fits in
    let cells : u.cells ≡ set i.trail.cells (2 * length s.pre) (c.tokens.result + 1) ++ numbers =
    c.append_all.ensures.cells ∙ ap (λ (xs : List ℕ). xs ++ numbers) (c.write.ensures.cells ∙ ap (λ (q : ℕ). set i.trail.cells q (c.tokens.result + 1)) count) in
    let marks : u.marks ≡ (if keeps (2 * length s.pre) i.trail.marks then with_kept (2 * length s.pre) i.trail.marks else i.trail.marks) =
    c.append_all.ensures.marks ∙ (c.write.ensures.marks ∙ ap (λ (q : ℕ). if keeps q i.trail.marks then with_kept q i.trail.marks else i.trail.marks) count) in
    let room : u.entry_room + (if keeps (2 * length s.pre) i.trail.marks then 1 else 0) ≡ i.trail.entry_room =
    subst (λ (q : ℕ). u.entry_room + (if keeps q i.trail.marks then 1 else 0) ≡ i.trail.entry_room) count
    (ap (λ (r : ℕ). r + (if keeps c.out_cells-count.result i.trail.marks then 1 else 0)) c.append_all.ensures.entry_room ∙ c.write.ensures.entry_room) in
    subst (λ (r : Frame). IsHeldBy u r (i.end + length numbers)) (sym frame)
    (held_more i.trail u s c.args.kind i.end (c.tokens.result + 1) numbers c.self.invariant size fits (ap (λ (n : ℕ). n + 1) c.tokens.ensures) cells marks room)

pub returns-clause-sheet : goal.returns-clause-sheet
returns-clause-sheet g c t lo hi f b =
    let i = c.self.inside in
    let s : Frame = i.layout.frame in
    let k = c.args.kind in
    let numbers : List ℕ = c.args.numbers.now in
    let n : ℕ = c.tokens.result + 1 in
    let x : Frame = extended s (k ∷ []) in
    let cells : c.append_all.new.trail.cells ≡ set i.trail.cells (2 * length s.pre) n ++ numbers =
    c.append_all.ensures.cells ∙ ap (λ (xs : List ℕ). xs ++ numbers) (c.write.ensures.cells ∙ ap (λ (q : ℕ). set i.trail.cells q n) c.out_cells-count.ensures) in
    let fr : IsFrameOf t s = subst (λ (z : CellsShape). IsFrameOf t z.frame) (sym c.self.view_is) f in
    let bl : numbers ≡ block t s (seen s i.trail.cells) k lo hi = b ∙ ap (λ (z : CellsShape). block t z.frame z.sheet k lo hi) (sym c.self.view_is) in
    ap (λ (r : Frame). seen r c.append_all.new.trail.cells) c.push.ensures.frame
    ∙ (ap (λ (xs : List ℕ). seen x xs) cells
    ∙ (grown_seen t s i.trail.cells numbers k n lo hi fr c.self.invariant.cells bl
    ∙ ap (λ (z : CellsShape). grown t z.sheet k lo hi) c.self.view_is))

pub returns-clause-marks : goal.returns-clause-marks
returns-clause-marks g c =
    let i = c.self.inside in
    let s : Frame = i.layout.frame in
    let q : ℕ = c.out_cells-count.result in
    let x : Frame = extended s (c.args.kind ∷ []) in
    let ms : List Mark = if keeps q i.trail.marks then with_kept q i.trail.marks else i.trail.marks in
    let marks : c.append_all.new.trail.marks ≡ ms = c.append_all.ensures.marks ∙ c.write.ensures.marks in
    subst (λ (z : CellsShape). KeepsMarks z.marks (map (mark_of c.push.new.self.frame) c.append_all.new.trail.marks)) c.self.view_is
    (subst (λ (r : Frame). KeepsMarks (map (mark_of s) i.trail.marks) (map (mark_of r) c.append_all.new.trail.marks)) (sym c.push.ensures.frame)
    (subst (λ (us : List Mark). KeepsMarks (map (mark_of s) i.trail.marks) (map (mark_of x) us)) (sym marks) (keeps_grown s (c.args.kind ∷ []) q (keeps q i.trail.marks) i.trail.marks c.self.invariant.chain)))
