-- the lines of sections, by their places
use Rattle.std.proofs.Common.{◌≡◌, ℕ, zero, suc, ◌+◌, ◌-◌, ◌<◌, List, ◌∷◌, Option, Some, length, map, slice_get, get_or, refl, sym, ◌∙◌, ap, subst, arith}
use Rattle.std.specs.List.{range_with_len}
use Rattle.std.specs.Option.{option_map}
use Rattle.std.proofs.lemmas.Option.{slice_get-get_or, slice_get-map}
use Rattle.std.proofs.lemmas.List.{length-map}
use Rattle.std.proofs.lemmas.List.FromFn.{length-map-range_with_len, get_or-map-range_with_len}
use Rattle.cpt_task.specs.declared.span.Span.{Span}
use Rattle.cpt_task.specs.declared.plan.Occ.{Occ}
use Rattle.cpt_tables.specs.Shapes.{PairShape, DistShape, pair_at, dist_at}
use Rattle.cpt_sheet.specs.declared.data.NodeLine.{NodeLine}
use Rattle.cpt_cert_form.specs.declared.forms.Version.{Version}
use Rattle.cpt_cert_form.specs.declared.forms.CertLine.{CertLine}
use Rattle.cpt_cert_form.specs.declared.forms.CertLine.TheVariants as lines
use Rattle.cpt_cert_form.specs.Text.{pair_row, dist_row, row_runs, plan_lines, pair_lines, dist_lines, tree_lines, open_lines}

pub pair_row_length : (h : PairShape) (p : ℕ) → length (pair_row h p) ≡ h.atoms - p
pair_row_length h p = length-map-range_with_len (λ q. pair_at h p q) p (h.atoms - p)

pub dist_row_length : (d : DistShape) (a : ℕ) → length (dist_row d a) ≡ d.atoms
dist_row_length d a = length-map-range_with_len (λ p. dist_at d a p) 0 d.atoms

pub pair_within : (h : PairShape) (p i : ℕ) → i < length (pair_row h p) → p + i < h.atoms
pair_within h p i l = let e = pair_row_length h p in omega arith

pub dist_within : (d : DistShape) (a i : ℕ) → i < length (dist_row d a) → i < d.atoms
dist_within d a i l = let e = dist_row_length d a in omega arith

-- what a list of the values of a function has at a place
at_range : {X : Type 0} (f : ℕ → X) (a n i j : ℕ) (v : X) → i < n → a + i ≡ j → v ≡ f j → slice_get (map f (range_with_len a n)) i ≡ Some v
at_range f a n i j v l e g =
    slice_get-get_or (map f (range_with_len a n)) i v (subst (λ m. i < m) (sym (length-map-range_with_len f a n)) l)
    ∙ ap Some (get_or-map-range_with_len f a n i j v l e ∙ sym g)

pub pair_gives : (h : PairShape) (p i : ℕ) (v : Span) → i < length (pair_row h p) → v ≡ pair_at h p (p + i) → slice_get (pair_row h p) i ≡ Some v
pair_gives h p i v l e = at_range (λ q. pair_at h p q) p (h.atoms - p) i (p + i) v (subst (λ m. i < m) (pair_row_length h p) l) refl e

pub dist_gives : (d : DistShape) (a i : ℕ) (v : Span) → i < length (dist_row d a) → v ≡ dist_at d a i → slice_get (dist_row d a) i ≡ Some v
dist_gives d a i v l e = at_range (λ p. dist_at d a p) 0 d.atoms i i v (subst (λ m. i < m) (dist_row_length d a) l) (omega arith) e

pub pair_lines_length : (v : Version) (h : PairShape) → length (pair_lines v h) ≡ h.atoms + 1
pair_lines_length v h = let e = length-map-range_with_len (λ p. lines.PairRow (row_runs v (pair_row h p))) 0 h.atoms in omega (arith, e)

pub dist_lines_length : (v : Version) (d : DistShape) → length (dist_lines v d) ≡ d.actions + 1
dist_lines_length v d = let e = length-map-range_with_len (λ a. lines.DistRow (row_runs v (dist_row d a))) 0 d.actions in omega (arith, e)

-- behind the first element
behind : {X : Type 0} (x : X) (xs : List X) (k : ℕ) → 0 < k → slice_get (x ∷ xs) k ≡ slice_get xs (k - 1)
behind x xs zero l = absurd (omega arith)
behind x xs (suc k) l = let e : k ≡ suc k - 1 = omega arith in ap (λ n. slice_get xs n) e

pub pairs_within : (v : Version) (h : PairShape) (k : ℕ) → 0 < k → k < length (pair_lines v h) → k - 1 < h.atoms
pairs_within v h k p l = let e = pair_lines_length v h in omega (arith, e)

pub dists_within : (v : Version) (d : DistShape) (k : ℕ) → 0 < k → k < length (dist_lines v d) → k - 1 < d.actions
dists_within v d k p l = let e = dist_lines_length v d in omega (arith, e)

pub pairs_give : (v : Version) (h : PairShape) (k : ℕ) → 0 < k → k < length (pair_lines v h) →
    slice_get (pair_lines v h) k ≡ Some (lines.PairRow (row_runs v (pair_row h (k - 1))))
pairs_give v h k p l =
    let f : ℕ → CertLine = λ q. lines.PairRow (row_runs v (pair_row h q)) in
    behind lines.Pairs (map f (range_with_len 0 h.atoms)) k p ∙ at_range f 0 h.atoms (k - 1) (k - 1) (f (k - 1)) (pairs_within v h k p l) (omega arith) refl

pub dists_give : (v : Version) (d : DistShape) (k : ℕ) → 0 < k → k < length (dist_lines v d) →
    slice_get (dist_lines v d) k ≡ Some (lines.DistRow (row_runs v (dist_row d (k - 1))))
dists_give v d k p l =
    let f : ℕ → CertLine = λ a. lines.DistRow (row_runs v (dist_row d a)) in
    behind lines.Dists (map f (range_with_len 0 d.actions)) k p ∙ at_range f 0 d.actions (k - 1) (k - 1) (f (k - 1)) (dists_within v d k p l) (omega arith) refl

-- a list of lines, one for each element, behind a first line
line_gives : {X : Type 0} (f : X → CertLine) (first : CertLine) (xs : List X) (k : ℕ) (d : X) → 0 < k → k < length (first ∷ map f xs) →
    slice_get (first ∷ map f xs) k ≡ Some (f (get_or xs (k - 1) d))
line_gives f first xs k d p l =
    let e = length-map xs f in
    behind first (map f xs) k p ∙ (slice_get-map f xs (k - 1) ∙ ap (λ (o : Option _). option_map f o) (slice_get-get_or xs (k - 1) d (omega (arith, e))))

pub plan_gives : (plan : List Occ) (k : ℕ) (d : Occ) → 0 < k → k < length (plan_lines plan) →
    slice_get (plan_lines plan) k ≡ Some (lines.Item (get_or plan (k - 1) d).start (get_or plan (k - 1) d).act)
plan_gives plan k d p l = line_gives (λ (o : Occ). lines.Item o.start o.act) (lines.Plan (length plan)) plan k d p l

pub tree_gives : (b : ℕ) (tree : List NodeLine) (k : ℕ) (d : NodeLine) → 0 < k → k < length (tree_lines b tree) →
    slice_get (tree_lines b tree) k ≡ Some (lines.Node (get_or tree (k - 1) d))
tree_gives b tree k d p l = line_gives (λ n. lines.Node n) (lines.Tree b) tree k d p l

pub open_gives : (b : ℕ) (tree : List NodeLine) (k : ℕ) (d : NodeLine) → 0 < k → k < length (open_lines b tree) →
    slice_get (open_lines b tree) k ≡ Some (lines.Node (get_or tree (k - 1) d))
open_gives b tree k d p l = line_gives (λ n. lines.Node n) (lines.OpenTree b) tree k d p l
