-- a text is accepted exactly where its lines are read whole
use Rattle.std.proofs.Common.{◌≡◌, ◌≢◌, ℕ, zero, suc, ◌+◌, ◌≤◌, ◌^◌, inl, inr, true, false, List, [], ◌∷◌, ◌++◌, length, map, All, refl, sym, ap, ◌∙◌, subst, arith, append_assoc, append-nil}
use Rattle.std.specs.List.{flat_map, AllZip, range_with_len}
use Rattle.std.proofs.lemmas.List.Elements.{All-head, All-tail, All-nil, All-cons, All-contains}
use Rattle.cpt_task.specs.declared.plan.Occ.{Occ}
use Rattle.cpt_task.specs.Shape.{TaskShape, InBounds}
use Rattle.cpt_tables.specs.declared.tables.Tables.{Tables}
use Rattle.cpt_tables.specs.Shapes.{PairShape}
use Rattle.cpt_sheet.specs.declared.data.NodeLine.{NodeLine}
use Rattle.cpt_cert_form.specs.declared.forms.Version.{Version}
use Rattle.cpt_cert_form.specs.declared.forms.Claim.{Claim}
use Rattle.cpt_cert_form.specs.declared.forms.Claim.TheVariants as claims
use Rattle.cpt_cert_form.specs.declared.forms.Run.{Run}
use Rattle.cpt_cert_form.specs.declared.forms.CertLine.{CertLine}
use Rattle.cpt_cert_form.specs.declared.forms.CertLine.TheVariants as lines
use Rattle.cpt_cert_form.specs.Forms.{spelled, capped_line, IsWritten, IsRun, IsClaim, IsReadAs}
use Rattle.cpt_cert_form.specs.Text.{Parts, row_runs, pair_row, dist_row, plan_lines, pair_lines, dist_lines, table_lines, tree_lines, open_lines, sections, cert_lines}
use Rattle.cpt_cert_accept.specs.Accepting.{Proves, HasTables, IsClosedAt, IsInForm, Accepts}
use Rattle.cpt_cert_accept.specs.Reading.Outcome.{went}
use Rattle.cpt_cert_accept.specs.Descent.{ReadsAll}
use Rattle.cpt_cert_accept.specs.Laws.{AreFilled, IsFilledLine, AllFilled}
use Rattle.cpt_cert_read.specs.Texts.{ended, IsSplit, unended, AreLinesOf}
use Rattle.cpt_cert_accept.specs.Texts.{brings_in}
use Rattle.cpt_cert_accept.specs.Trees.{brings}
use Rattle.cpt_cert_accept.proofs.Back.{lines_back}
use Rattle.cpt_cert_accept.proofs.BringBytes.{brings_in_append, brings_in_nodes, text_bytes}
use Rattle.cpt_cert_accept.proofs.Whole.{item}
use Rattle.cpt_cert_accept.proofs.Ranges.{IsSmallNode, AllSmall, raw_node, kept_node, tree_small}

-- a line that is not strange, and whose numbers are small where it stands in a tree
abbrev pub IsPlainLine : CertLine → Type 0
IsPlainLine (lines.Node l) = IsSmallNode l
IsPlainLine lines.Strange = ⊥
IsPlainLine _ = Unit {0}

abbrev pub AllPlain : List CertLine → Type 0
AllPlain [] = Unit {0}
AllPlain (l ∷ ls) = IsPlainLine l × AllPlain ls

plain_append : (ls more : List CertLine) → AllPlain ls → AllPlain more → AllPlain (ls ++ more)
plain_append [] more h k = k
plain_append (l ∷ ls) more h k = (h.0, plain_append ls more h.1 k)

plain_map : {X : Type 0} (f : X → CertLine) (xs : List X) → ((x : X) → IsPlainLine (f x)) → AllPlain (map f xs)
plain_map f [] h = tt
plain_map f (x ∷ xs) h = (h x, plain_map f xs h)

plain_nodes : (f : List NodeLine) → AllSmall f → AllPlain (map (λ l. lines.Node l) f)
plain_nodes [] h = tt
plain_nodes (l ∷ f) h = (h.0, plain_nodes f h.1)

plain_pairs : (v : Version) (h : PairShape) → AllPlain (pair_lines v h)
plain_pairs v h = (tt, plain_map (λ p. lines.PairRow (row_runs v (pair_row h p))) (range_with_len 0 h.atoms) (λ p. tt))

plain_tables : (v : Version) (b : Tables) → AllPlain (table_lines v b)
plain_tables v b = plain_append (pair_lines v b.pairs) (dist_lines v b.dists) (plain_pairs v b.pairs) (tt, plain_map (λ a. lines.DistRow (row_runs v (dist_row b.dists a))) (range_with_len 0 b.dists.actions) (λ a. tt))

-- the lines bring fewer tokens than there are numbers for them
abbrev HasRoom : List CertLine → Type 0
HasRoom ls = 2 + brings_in ls ≤ 4294967295

room_behind : (ls more : List CertLine) → HasRoom (ls ++ more) → HasRoom more
room_behind ls more h = let e = brings_in_append ls more in omega (arith, e, h)

room_before : (ls more : List CertLine) → HasRoom (ls ++ more) → HasRoom ls
room_before ls more h = let e = brings_in_append ls more in omega (arith, e, h)

tree_room : (bound : ℕ) (f : List NodeLine) → HasRoom (tree_lines bound f) → 2 + brings f ≤ 4294967295
tree_room bound f h = let e = brings_in_nodes f in omega (arith, e, h)

open_room : (bound : ℕ) (f : List NodeLine) → HasRoom (open_lines bound f) → 2 + brings f ≤ 4294967295
open_room bound f h = let e = brings_in_nodes f in omega (arith, e, h)

plain_tree : (t : TaskShape) (v : Version) (b : Tables) (bound : ℕ) (f : List NodeLine) → InBounds t → HasTables t b → bound ≤ 1000000 → IsClosedAt t b bound f → HasRoom (table_lines v b ++ tree_lines bound f) → AllPlain (table_lines v b ++ tree_lines bound f)
plain_tree t v b bound f inside has le tree room =
    let few = tree_room bound f (room_behind (table_lines v b) (tree_lines bound f) room) in
    plain_append (table_lines v b) (tree_lines bound f) (plain_tables v b) (tt, plain_nodes f (tree_small t b inside false bound f has.fits le tree few))

plain_plan : (plan : List Occ) → AllPlain (plan_lines plan)
plain_plan plan = (tt, plain_map item plan (λ o. tt))

plain_sections : (t : TaskShape) (v : Version) (claim : Claim) (c : Parts) → InBounds t → IsClaim claim → Proves t claim c → HasRoom (sections v claim c) → AllPlain (sections v claim c)
plain_sections t v (claims.Optimal zero) c inside few good room = plain_plan c.plan
plain_sections t v (claims.Optimal (suc m)) c inside few good room =
    plain_append (plan_lines c.plan) (table_lines v c.tables ++ tree_lines m c.tree) (plain_plan c.plan)
    (plain_tree t v c.tables m c.tree inside good.1 (omega arith) good.2 (room_behind (plan_lines c.plan) (table_lines v c.tables ++ tree_lines m c.tree) room))
plain_sections t v (claims.NoneUpTo m) c inside few good room = plain_tree t v c.tables m c.tree inside good.0 few good.1 room
plain_sections t v claims.Never c inside few good room = plain_pairs v c.tables.pairs
plain_sections t v (claims.Spent refuted nodes) c inside few good room =
    let le = few.0 in
    let trees = room_behind (table_lines v c.tables) (tree_lines refuted c.tree ++ open_lines (refuted + 1) c.partial) room in
    let first = tree_room refuted c.tree (room_before (tree_lines refuted c.tree) (open_lines (refuted + 1) c.partial) trees) in
    let second = open_room (refuted + 1) c.partial (room_behind (tree_lines refuted c.tree) (open_lines (refuted + 1) c.partial) trees) in
    plain_append (table_lines v c.tables) (tree_lines refuted c.tree ++ open_lines (refuted + 1) c.partial) (plain_tables v c.tables) (
    plain_append (tree_lines refuted c.tree) (open_lines (refuted + 1) c.partial)
    (tt, plain_nodes c.tree (tree_small t c.tables inside false refuted c.tree good.0.fits (omega (arith, le)) good.1 first))
    (tt, plain_nodes c.partial (tree_small t c.tables inside true (refuted + 1) c.partial good.0.fits (omega (arith, le)) good.2.tree second))
    )

pub plain_lines : (t : TaskShape) (v : Version) (claim : Claim) (c : Parts) → InBounds t → c.claim ≡ claim → IsClaim claim → Proves t claim c → HasRoom (cert_lines v t c) → AllPlain (cert_lines v t c)
plain_lines t v claim c inside e few good room =
    let within : HasRoom (sections v c.claim c) = room_before (sections v c.claim c) (lines.End ∷ []) (omega (arith, room)) in
    let plain = plain_sections t v claim c inside few good (subst (λ z. HasRoom (sections v z c)) e within) in
    (tt, (tt, (tt, plain_append (sections v c.claim c) (lines.End ∷ []) (subst (λ z. AllPlain (sections v z c)) (sym e) plain) (tt, tt))))

-- a plain line is given as it is
kept_line : (l : CertLine) → IsPlainLine l → capped_line l ≡ l
kept_line (lines.Node l) h = ap (λ z. lines.Node z) (kept_node l h)
kept_line lines.Strange h = absurd h
kept_line (lines.First v) h = refl
kept_line (lines.Claimed c) h = refl
kept_line (lines.Sizes a b) h = refl
kept_line (lines.Plan k) h = refl
kept_line (lines.Item a b) h = refl
kept_line lines.Pairs h = refl
kept_line (lines.PairRow runs) h = refl
kept_line lines.Dists h = refl
kept_line (lines.DistRow runs) h = refl
kept_line (lines.Tree b) h = refl
kept_line (lines.OpenTree b) h = refl
kept_line lines.End h = refl

pub kept_lines : (ls : List CertLine) → AllPlain ls → map capped_line ls ≡ ls
kept_lines [] h = refl
kept_lines (l ∷ ls) h = let a = kept_line l h.0 in let b = kept_lines ls h.1 in cc

-- what is given as a plain line is that line
raw_line : (l : CertLine) → IsPlainLine (capped_line l) → capped_line l ≡ l
raw_line (lines.Node l) h = ap (λ z. lines.Node z) (raw_node l h)
raw_line lines.Strange h = absurd h
raw_line (lines.First v) h = refl
raw_line (lines.Claimed c) h = refl
raw_line (lines.Sizes a b) h = refl
raw_line (lines.Plan k) h = refl
raw_line (lines.Item a b) h = refl
raw_line lines.Pairs h = refl
raw_line (lines.PairRow runs) h = refl
raw_line lines.Dists h = refl
raw_line (lines.DistRow runs) h = refl
raw_line (lines.Tree b) h = refl
raw_line (lines.OpenTree b) h = refl
raw_line lines.End h = refl

-- lines that are read as plain ones are spelled so
raw_zip : (bodies : List (List ℕ)) (read : List CertLine) → AllZip IsReadAs bodies read → AllPlain read → (bodies ≡ map spelled read) × All IsInForm read
raw_zip [] [] h p = (refl, All-nil IsInForm)
raw_zip [] (r ∷ read) h p = absurd h
raw_zip (b ∷ bodies) [] h p = absurd h
raw_zip (b ∷ bodies) (r ∷ read) h p = go (raw_zip bodies read h.1 p.1) h.0
  where
    go : (bodies ≡ map spelled read) × All IsInForm read → IsReadAs b r → (b ∷ bodies ≡ map spelled (r ∷ read)) × All IsInForm (r ∷ read)
    go more (inl (l, spells, e)) =
        let same : l ≡ r = sym (raw_line l (subst IsPlainLine e p.0)) ∙ sym e in
        let words : b ≡ spelled r = spells.spelled ∙ ap spelled same in
        let form : IsInForm r = subst IsInForm same (record { written = spells.written; spelled = refl; short = subst (λ z. length z ≤ 65536) spells.spelled spells.short }) in
        let rest = more.0 in (cc, All-cons IsInForm r read form more.1)
    go more (inr (e, none)) = absurd (subst IsPlainLine e p.0)

plain_left : (ls more : List CertLine) → AllPlain (ls ++ more) → AllPlain ls × AllPlain more
plain_left [] more h = (tt, h)
plain_left (l ∷ ls) more h = let k = plain_left ls more h.1 in ((h.0, k.0), k.1)

-- each run has a value in a row that is read
filled_runs : (runs : List Run) → All IsRun runs → AreFilled runs
filled_runs [] h = tt
filled_runs (run ∷ runs) h = ((All-head IsRun run runs h).some, filled_runs runs (All-tail IsRun run runs h))

filled_line : (l : CertLine) → IsWritten l → IsFilledLine (capped_line l)
filled_line (lines.PairRow runs) h = filled_runs runs h.all
filled_line (lines.DistRow runs) h = filled_runs runs h.all
filled_line (lines.Node l) h = tt
filled_line lines.Strange h = tt
filled_line (lines.First v) h = tt
filled_line (lines.Claimed c) h = tt
filled_line (lines.Sizes a b) h = tt
filled_line (lines.Plan k) h = tt
filled_line (lines.Item a b) h = tt
filled_line lines.Pairs h = tt
filled_line lines.Dists h = tt
filled_line (lines.Tree b) h = tt
filled_line (lines.OpenTree b) h = tt
filled_line lines.End h = tt

filled_read : (b : List ℕ) (r : CertLine) → IsReadAs b r → IsFilledLine r
filled_read b r (inl (l, spells, e)) = subst IsFilledLine (sym e) (filled_line l spells.written)
filled_read b r (inr (e, none)) = subst IsFilledLine (sym e) tt

filled_zip : (bodies : List (List ℕ)) (read : List CertLine) (tail : List ℕ) → AllZip IsReadAs bodies read → AllFilled (read ++ unended tail)
filled_zip [] [] [] h = tt
filled_zip [] [] (byte ∷ tail) h = (tt, tt)
filled_zip [] (r ∷ read) tail h = absurd h
filled_zip (b ∷ bodies) [] tail h = absurd h
filled_zip (b ∷ bodies) (r ∷ read) tail h = (filled_read b r h.0, filled_zip bodies read tail h.1)

pub filled_text : (text : List ℕ) (ls : List CertLine) → AreLinesOf text ls → AllFilled ls
filled_text text ls h = subst AllFilled (sym h.all) (filled_zip h.bodies h.read h.tail h.each)

pub ended_spelled : (ls : List CertLine) → ended (map spelled ls) ≡ flat_map (λ l. spelled l ++ 10 ∷ []) ls
ended_spelled [] = refl
ended_spelled (l ∷ ls) = ap (λ z. (spelled l ++ 10 ∷ []) ++ z) (ended_spelled ls)

-- the plain lines of a text are its spelling
text_of_plain : (text : List ℕ) (ls : List CertLine) → AreLinesOf text ls → AllPlain ls → (text ≡ flat_map (λ l. spelled l ++ 10 ∷ []) ls) × All IsInForm ls
text_of_plain text ls h p = go h.tail h.split h.all
  where
    go : (tail : List ℕ) → IsSplit text h.bodies tail → ls ≡ h.read ++ unended tail → (text ≡ flat_map (λ l. spelled l ++ 10 ∷ []) ls) × All IsInForm ls
    go [] split e =
        let same : ls ≡ h.read = e ∙ append-nil h.read in
        let k = raw_zip h.bodies h.read h.each (subst AllPlain same p) in (
          split.whole ∙ append-nil (ended h.bodies) ∙ ap ended k.0 ∙ ended_spelled h.read ∙ ap (λ z. flat_map (λ l. spelled l ++ 10 ∷ []) z) (sym same),
          subst (All IsInForm) (sym same) k.1,
        )
    go (byte ∷ tail) split e = absurd ((plain_left h.read (lines.Strange ∷ []) (subst AllPlain e p)).1.0)

claim_of : (t : TaskShape) (v : Version) (claim : Claim) (m : ℕ) (ls rest : List CertLine) → ls ≡ lines.First v ∷ lines.Claimed claim ∷ rest → (text : List ℕ) → AreLinesOf text ls → IsClaim claim
claim_of t v claim m ls rest e text h = go h.bodies h.read h.each (sym h.all ∙ e)
  where
    written : (b : List ℕ) → IsReadAs b (lines.Claimed claim) → IsClaim claim
    written b (inl (l, spells, k)) = subst IsWritten (sym (raw_line l (subst IsPlainLine k tt)) ∙ sym k) spells.written
    written b (inr (k, none)) = absurd (cc)

    go : (bodies : List (List ℕ)) (read : List CertLine) → AllZip IsReadAs bodies read → read ++ unended h.tail ≡ lines.First v ∷ lines.Claimed claim ∷ rest → IsClaim claim
    go bodies [] z k = none h.tail k
      where
        none : (tail : List ℕ) → unended tail ≡ lines.First v ∷ lines.Claimed claim ∷ rest → IsClaim claim
        none [] j = absurd (cc)
        none (byte ∷ tail) j = absurd (let q : lines.Strange ≡ lines.First v = cc in cc)
    go bodies (r ∷ []) z k = none h.tail k
      where
        none : (tail : List ℕ) → r ∷ unended tail ≡ lines.First v ∷ lines.Claimed claim ∷ rest → IsClaim claim
        none [] j = absurd (let q : [] ≡ lines.Claimed claim ∷ rest = cc in cc)
        none (byte ∷ tail) j = absurd (let q : lines.Strange ∷ [] ≡ lines.Claimed claim ∷ rest = cc in let q' : lines.Strange ≡ lines.Claimed claim = cc in cc)
    go [] (r ∷ s ∷ read) z k = absurd z
    go (b ∷ []) (r ∷ s ∷ read) z k = absurd z.1
    go (b ∷ c ∷ bodies) (r ∷ s ∷ read) z k = let q : s ≡ lines.Claimed claim = (let q' : s ∷ (read ++ unended h.tail) ≡ lines.Claimed claim ∷ rest = cc in cc) in written c (subst (IsReadAs c) q z.1.0)

-- the lines of a text that is not too long bring few tokens
pub room_of : (text : List ℕ) (ls : List CertLine) → length text ≤ 2 ^ 36 → AreLinesOf text ls → 2 + brings_in ls ≤ 4294967295
room_of text ls short h = let k = text_bytes text ls h in omega (arith, short, k)

-- a text whose lines are read whole is a certificate
pub whole_text : (t : TaskShape) (text : List ℕ) (ls : List CertLine) (v : Version) (claim : Claim) (rest : List CertLine) (m : ℕ) → InBounds t → length text ≤ 2 ^ 36 → AreLinesOf text ls → ReadsAll t ls (went (v, claim) rest m) → Accepts t text v claim
whole_text t text ls v claim rest m inside short of reads =
    let made = (lines_back t v claim ls rest m (filled_text text ls of) reads).0 in
    let c = made.0 in
    let is = made.1 in
    let first : ls ≡ lines.First v ∷ lines.Claimed claim ∷ lines.Sizes (length t.atoms) (length t.actions) ∷ (sections v c.claim c ++ lines.End ∷ []) =
    is.same ∙ ap (λ z. lines.First v ∷ lines.Claimed z ∷ lines.Sizes (length t.atoms) (length t.actions) ∷ (sections v c.claim c ++ lines.End ∷ [])) is.claims in
    let few = claim_of t v claim m ls (lines.Sizes (length t.atoms) (length t.actions) ∷ (sections v c.claim c ++ lines.End ∷ [])) first text of in
    let room : HasRoom ls = room_of text ls short of in
    let plain : AllPlain ls = subst AllPlain (sym is.same) (plain_lines t v claim c inside is.claims few is.proves (subst HasRoom is.same room)) in
    let k = text_of_plain text ls of plain in (
      c,
      record {
        claims = is.claims;
        spelled = k.0 ∙ ap (λ z. flat_map (λ l. spelled l ++ 10 ∷ []) z) is.same;
        written = subst (All IsInForm) is.same k.1;
        ordered = is.ordered;
        proves = is.proves;
      },
    )
