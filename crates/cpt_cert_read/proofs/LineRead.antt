-- Lines that are read, and what they are read as.
use Rattle.std.proofs.Common.{◌≡◌, ℕ, ◌≤◌, true, cond, eqb, inl, inr, List, [], ◌∷◌, None, Some, Option, option_map, map, codes, refl, ap, subst, ◌∙◌, sym, arith}
use Rattle.std.specs.Fmt.{decimal}
use Rattle.std.specs.Str.{bytes_eq}
use Rattle.std.proofs.lemmas.Bool.{eqb-false}
use Rattle.cpt_sheet.specs.declared.data.Decision.{Decision}
use Rattle.cpt_sheet.specs.declared.data.Decision.TheVariants.{Join, Bring, Before}
use Rattle.cpt_sheet.specs.declared.data.Flaw.{Flaw}
use Rattle.cpt_sheet.specs.declared.data.Flaw.TheVariants.{Threat, OpenNeed, Clash}
use Rattle.cpt_sheet.specs.declared.data.NodeLine.{NodeLine}
use Rattle.cpt_sheet.specs.declared.data.NodeLine.TheVariants.{Child, Narrow, Close, Branch, OpenNode}
use Rattle.cpt_cert_form.specs.declared.forms.Version.{Version}
use Rattle.cpt_cert_form.specs.declared.forms.Version.TheVariants.{One, Two}
use Rattle.cpt_cert_form.specs.declared.forms.Claim.{Claim}
use Rattle.cpt_cert_form.specs.declared.forms.Claim.TheVariants as claims
use Rattle.cpt_cert_form.specs.declared.forms.CertLine.{CertLine}
use Rattle.cpt_cert_form.specs.declared.forms.CertLine.TheVariants as lines
use Rattle.cpt_cert_form.specs.Forms.{IsShort, IsClaim, IsShortDecision, IsShortFlaw, IsShortNode, IsWritten, capped, capped_decision, capped_flaw, capped_node, capped_line, version_word, claim_words, decision_words, flaw_words, node_words, run_word, line_words}
use Rattle.cpt_cert_read.specs.Reading.{◌>>=◌, id_in, number_in, number_to, nothing_in, two_ids_in, three_ids_in, two_numbers_in, alone_number_in, alone_limited_in, version_in, spent_in, claim_in, join_of, bring_of, before_of, threat_of, open_of, clash_of, sizes_of, decision_in, flaw_in, node_in, step_in, numbered_in, worded_in, row_in, named_in, line_by, line_in}
use Rattle.cpt_cert_read.proofs.Numerals.{number_some}
use Rattle.cpt_cert_read.proofs.Parts.{there, eq_bytes, bind_some, map_some, pick, unless, some_is, nothing_some, alone_some, both_some, each_some}
use Rattle.cpt_cert_read.proofs.RowRead.{row_some}
use Rattle.cpt_cert_read.proofs.StepRead.{step_some}
use Rattle.cpt_cert_read.proofs.WordRead.{id_some, limited_some}

one : {a w : List ℕ} (ws : List (List ℕ)) → ws ≡ a ∷ [] → a ≡ w → w ∷ [] ≡ ws
one {a} {w} ws h k = sym (h ∙ ap (λ (x : List ℕ). x ∷ []) k)

two : {a b v w : List ℕ} (ws : List (List ℕ)) → ws ≡ a ∷ b ∷ [] → a ≡ v → b ≡ w → v ∷ w ∷ [] ≡ ws
two {a} {b} {v} {w} ws h k l = sym (h ∙ ap (λ (x : List ℕ). x ∷ b ∷ []) k ∙ ap (λ (x : List ℕ). v ∷ x ∷ []) l)

three : {a b c u v w : List ℕ} (ws : List (List ℕ)) → ws ≡ a ∷ b ∷ c ∷ [] → a ≡ u → b ≡ v → c ≡ w → u ∷ v ∷ w ∷ [] ≡ ws
three {a} {b} {c} {u} {v} {w} ws h k l m = sym (h ∙ ap (λ (x : List ℕ). x ∷ b ∷ c ∷ []) k ∙ ap (λ (x : List ℕ). u ∷ x ∷ c ∷ []) l ∙ ap (λ (x : List ℕ). u ∷ v ∷ x ∷ []) m)

-- words behind a word
behind : (head word : List ℕ) (ts ws : List (List ℕ)) → bytes_eq head word ≡ true → ts ≡ ws → word ∷ ts ≡ head ∷ ws
behind head word ts ws t h = ap (λ (x : List ℕ). x ∷ ts) (sym (eq_bytes head word t)) ∙ ap (λ (x : List (List ℕ)). head ∷ x) h

two_ids : (ws : List (List ℕ)) (r : ℕ × ℕ) → two_ids_in ws ≡ Some r → (x : ℕ) × (y : ℕ) × IsShort x × IsShort y × (decimal x ∷ decimal y ∷ [] ≡ ws) × (r ≡ (capped x, capped y))
unfolding two_ids_in
two_ids ws r e =
    let b = both_some id_in id_in ws r e in
    let x = id_some b.0 r.0 b.3 in
    let y = id_some b.1 r.1 b.4 in
    (x.0, y.0, x.1, y.1, two ws b.2 x.2 y.2, pair r x.3 y.3)
  where
    pair : (r : ℕ × ℕ) {x y : ℕ} → r.0 ≡ x → r.1 ≡ y → r ≡ (x, y)
    pair r {x} {y} h k = ap (λ (z : ℕ). (z, r.1)) h ∙ ap (λ (z : ℕ). (x, z)) k

three_ids : (ws : List (List ℕ)) (r : ℕ × ℕ × ℕ) → three_ids_in ws ≡ Some r → (x : ℕ) × (y : ℕ) × (z : ℕ) × IsShort x × IsShort y × IsShort z × (decimal x ∷ decimal y ∷ decimal z ∷ [] ≡ ws) × (r ≡ (capped x, capped y, capped z))
unfolding three_ids_in
three_ids ws r e =
    let b = each_some id_in id_in id_in ws r e in
    let x = id_some b.0 r.0 b.4 in
    let y = id_some b.1 r.1 b.5 in
    let z = id_some b.2 r.2 b.6 in
    (x.0, y.0, z.0, x.1, y.1, z.1, three ws b.3 x.2 y.2 z.2, triple r x.3 y.3 z.3)
  where
    triple : (r : ℕ × ℕ × ℕ) {x y z : ℕ} → r.0 ≡ x → r.1 ≡ y → r.2 ≡ z → r ≡ (x, y, z)
    triple r {x} {y} {z} h k l = ap (λ (t : ℕ). (t, r.1, r.2)) h ∙ ap (λ (t : ℕ). (x, t, r.2)) k ∙ ap (λ (t : ℕ). (x, y, t)) l

two_numbers : (ws : List (List ℕ)) (r : ℕ × ℕ) → two_numbers_in ws ≡ Some r → IsShort r.0 × IsShort r.1 × (decimal r.0 ∷ decimal r.1 ∷ [] ≡ ws)
unfolding two_numbers_in
two_numbers ws r e =
    let b = both_some number_in number_in ws r e in
    let x = number_some b.0 r.0 b.3 in
    let y = number_some b.1 r.1 b.4 in
    (x.0, y.0, two ws b.2 x.1 y.1)

number_alone : (ws : List (List ℕ)) (n : ℕ) → alone_number_in ws ≡ Some n → IsShort n × (decimal n ∷ [] ≡ ws)
unfolding alone_number_in
number_alone ws n e =
    let a = alone_some number_in ws n e in
    let s = number_some a.0 n a.2 in
    (s.0, one ws a.1 s.1)

limited_alone : (most : ℕ) (ws : List (List ℕ)) (n : ℕ) → alone_limited_in most ws ≡ Some n → (n ≤ most) × (decimal n ∷ [] ≡ ws)
unfolding alone_limited_in
limited_alone most ws n e =
    let a = alone_some (number_to most) ws n e in
    let s = limited_some most a.0 n a.2 in
    (s.0, one ws a.1 s.1)

-- a decision of these words
abbrev DecisionOf : List (List ℕ) → Decision → Type 0
DecisionOf ws d = (full : Decision) × IsShortDecision full × (decision_words full ≡ ws) × (d ≡ capped_decision full)

abbrev FlawOf : List (List ℕ) → Flaw → Type 0
FlawOf ws f = (full : Flaw) × IsShortFlaw full × (flaw_words full ≡ ws) × (f ≡ capped_flaw full)

abbrev NodeOf : List (List ℕ) → NodeLine → Type 0
NodeOf ws l = (full : NodeLine) × IsShortNode full × (node_words full ≡ ws) × (l ≡ capped_node full)

abbrev VersionOf : List (List ℕ) → Version → Type 0
VersionOf ws v = version_word v ∷ [] ≡ ws

abbrev ClaimOf : List (List ℕ) → Claim → Type 0
ClaimOf ws c = IsClaim c × (claim_words c ≡ ws)

-- a line of these words
abbrev pub LineOf : List (List ℕ) → CertLine → Type 0
LineOf ws c = (full : CertLine) × IsWritten full × (line_words full ≡ ws) × (c ≡ capped_line full)

join_some : (kind : List ℕ) (ws : List (List ℕ)) (d : Decision) → bytes_eq kind (codes "join") ≡ true → option_map join_of (three_ids_in ws) ≡ Some d → DecisionOf (kind ∷ ws) d
join_some kind ws d t e =
    let m = map_some join_of (three_ids_in ws) d e in
    let s = three_ids ws m.0 m.1 in
    (Join s.0 s.1 s.2, (s.3, s.4, s.5), behind kind (codes "join") (decimal s.0 ∷ decimal s.1 ∷ decimal s.2 ∷ []) ws t s.6, m.2 ∙ ap join_of s.7)

bring_some : (kind : List ℕ) (ws : List (List ℕ)) (d : Decision) → bytes_eq kind (codes "bring") ≡ true → option_map bring_of (three_ids_in ws) ≡ Some d → DecisionOf (kind ∷ ws) d
bring_some kind ws d t e =
    let m = map_some bring_of (three_ids_in ws) d e in
    let s = three_ids ws m.0 m.1 in
    (Bring s.0 s.1 s.2, (s.3, s.4, s.5), behind kind (codes "bring") (decimal s.0 ∷ decimal s.1 ∷ decimal s.2 ∷ []) ws t s.6, m.2 ∙ ap bring_of s.7)

before_some : (kind : List ℕ) (ws : List (List ℕ)) (d : Decision) → bytes_eq kind (codes "before") ≡ true → option_map before_of (two_ids_in ws) ≡ Some d → DecisionOf (kind ∷ ws) d
before_some kind ws d t e =
    let m = map_some before_of (two_ids_in ws) d e in
    let s = two_ids ws m.0 m.1 in
    (Before s.0 s.1, (s.2, s.3), behind kind (codes "before") (decimal s.0 ∷ decimal s.1 ∷ []) ws t s.4, m.2 ∙ ap before_of s.5)

decision_some : (ws : List (List ℕ)) (d : Decision) → decision_in ws ≡ Some d → DecisionOf ws d
unfolding decision_in
decision_some [] d e = absurd cc
decision_some (kind ∷ ws) d e =
    elim (pick (bytes_eq kind (codes "join")) _ _ d e) [
      | inl h ↦ join_some kind ws d h.0 h.1
      | inr h ↦ elim (pick (bytes_eq kind (codes "bring")) _ _ d h.1) [
        | inl h ↦ bring_some kind ws d h.0 h.1
        | inr h ↦ elim (pick (bytes_eq kind (codes "before")) _ _ d h.1) [
          | inl h ↦ before_some kind ws d h.0 h.1
          | inr h ↦ absurd (none_some h.1)
        ]
      ]
    ]
  where
    none_some : let o : Option Decision = None in o ≡ Some d → ⊥
    none_some e = cc

threat_some : (kind : List ℕ) (ws : List (List ℕ)) (d : Flaw) → bytes_eq kind (codes "threat") ≡ true → option_map threat_of (three_ids_in ws) ≡ Some d → FlawOf (kind ∷ ws) d
threat_some kind ws d t e =
    let m = map_some threat_of (three_ids_in ws) d e in
    let s = three_ids ws m.0 m.1 in
    (Threat s.0 s.1 s.2, (s.3, s.4, s.5), behind kind (codes "threat") (decimal s.0 ∷ decimal s.1 ∷ decimal s.2 ∷ []) ws t s.6, m.2 ∙ ap threat_of s.7)

open_need_some : (kind : List ℕ) (ws : List (List ℕ)) (d : Flaw) → bytes_eq kind (codes "open") ≡ true → option_map open_of (two_ids_in ws) ≡ Some d → FlawOf (kind ∷ ws) d
open_need_some kind ws d t e =
    let m = map_some open_of (two_ids_in ws) d e in
    let s = two_ids ws m.0 m.1 in
    (OpenNeed s.0 s.1, (s.2, s.3), behind kind (codes "open") (decimal s.0 ∷ decimal s.1 ∷ []) ws t s.4, m.2 ∙ ap open_of s.5)

clash_some : (kind : List ℕ) (ws : List (List ℕ)) (d : Flaw) → bytes_eq kind (codes "clash") ≡ true → option_map clash_of (two_ids_in ws) ≡ Some d → FlawOf (kind ∷ ws) d
clash_some kind ws d t e =
    let m = map_some clash_of (two_ids_in ws) d e in
    let s = two_ids ws m.0 m.1 in
    (Clash s.0 s.1, (s.2, s.3), behind kind (codes "clash") (decimal s.0 ∷ decimal s.1 ∷ []) ws t s.4, m.2 ∙ ap clash_of s.5)

flaw_some : (ws : List (List ℕ)) (d : Flaw) → flaw_in ws ≡ Some d → FlawOf ws d
unfolding flaw_in
flaw_some [] d e = absurd cc
flaw_some (kind ∷ ws) d e =
    elim (pick (bytes_eq kind (codes "threat")) _ _ d e) [
      | inl h ↦ threat_some kind ws d h.0 h.1
      | inr h ↦ elim (pick (bytes_eq kind (codes "open")) _ _ d h.1) [
        | inl h ↦ open_need_some kind ws d h.0 h.1
        | inr h ↦ elim (pick (bytes_eq kind (codes "clash")) _ _ d h.1) [
          | inl h ↦ clash_some kind ws d h.0 h.1
          | inr h ↦ absurd (none_some h.1)
        ]
      ]
    ]
  where
    none_some : let o : Option Flaw = None in o ≡ Some d → ⊥
    none_some e = cc

child_some : (head : List ℕ) (ws : List (List ℕ)) (l : NodeLine) → bytes_eq head (codes "child") ≡ true → option_map (λ d. Child d) (decision_in ws) ≡ Some l → NodeOf (head ∷ ws) l
child_some head ws l t e =
    let m = map_some (λ d. Child d) (decision_in ws) l e in
    let s = decision_some ws m.0 m.1 in
    (Child s.0, s.1, behind head (codes "child") (decision_words s.0) ws t s.2, m.2 ∙ ap (λ d. Child d) s.3)

branch_some : (head : List ℕ) (ws : List (List ℕ)) (l : NodeLine) → bytes_eq head (codes "branch") ≡ true → option_map (λ f. Branch f) (flaw_in ws) ≡ Some l → NodeOf (head ∷ ws) l
branch_some head ws l t e =
    let m = map_some (λ f. Branch f) (flaw_in ws) l e in
    let s = flaw_some ws m.0 m.1 in
    (Branch s.0, s.1, behind head (codes "branch") (flaw_words s.0) ws t s.2, m.2 ∙ ap (λ f. Branch f) s.3)

close_some : (head : List ℕ) (ws : List (List ℕ)) (l : NodeLine) → bytes_eq head (codes "close") ≡ true → nothing_in Close ws ≡ Some l → NodeOf (head ∷ ws) l
close_some head ws l t e =
    let m = nothing_some Close ws l e in
    (Close, tt, behind head (codes "close") [] ws t (sym m.0), m.1)

open_some : (head : List ℕ) (ws : List (List ℕ)) (l : NodeLine) → bytes_eq head (codes "open") ≡ true → nothing_in OpenNode ws ≡ Some l → NodeOf (head ∷ ws) l
open_some head ws l t e =
    let m = nothing_some OpenNode ws l e in
    (OpenNode, tt, behind head (codes "open") [] ws t (sym m.0), m.1)

node_some : (head : List ℕ) (ws : List (List ℕ)) (l : NodeLine) → node_in head ws ≡ Some l → NodeOf (head ∷ ws) l
unfolding node_in
node_some head ws l e =
    elim (pick (bytes_eq head (codes "child")) _ _ l e) [
      | inl h ↦ child_some head ws l h.0 h.1
      | inr h ↦ elim (pick (bytes_eq head (codes "close")) _ _ l h.1) [
        | inl h ↦ close_some head ws l h.0 h.1
        | inr h ↦ elim (pick (bytes_eq head (codes "branch")) _ _ l h.1) [
          | inl h ↦ branch_some head ws l h.0 h.1
          | inr h ↦ elim (pick (bytes_eq head (codes "open")) _ _ l h.1) [
            | inl h ↦ open_some head ws l h.0 h.1
            | inr h ↦ absurd (none_some h.1)
          ]
        ]
      ]
    ]
  where
    none_some : let o : Option NodeLine = None in o ≡ Some l → ⊥
    none_some e = cc

version_some : (ws : List (List ℕ)) (v : Version) → version_in ws ≡ Some v → VersionOf ws v
unfolding version_in
version_some ws v e =
    let a = alone_some (λ word. cond (bytes_eq word (codes "1")) (Some One) (cond (bytes_eq word (codes "2")) (Some Two) None)) ws v e in
    one ws a.1 (word a.0 a.2)
  where
    none_some : let o : Option Version = None in o ≡ Some v → ⊥
    none_some e = cc

    word : (w : List ℕ) → cond (bytes_eq w (codes "1")) (Some One) (cond (bytes_eq w (codes "2")) (Some Two) None) ≡ Some v → w ≡ version_word v
    word w e =
        elim (pick (bytes_eq w (codes "1")) (Some One) (cond (bytes_eq w (codes "2")) (Some Two) None) v e) [
          | inl h ↦ eq_bytes w (codes "1") h.0 ∙ ap version_word (some_is One v h.1)
          | inr h ↦ elim (pick (bytes_eq w (codes "2")) (Some Two) None v h.1) [
            | inl h ↦ eq_bytes w (codes "2") h.0 ∙ ap version_word (some_is Two v h.1)
            | inr h ↦ absurd (none_some h.1)
          ]
        ]

optimal_some : (kind : List ℕ) (ws : List (List ℕ)) (c : Claim) → bytes_eq kind (codes "optimal") ≡ true → option_map (λ m. claims.Optimal m) (alone_limited_in 1000000 ws) ≡ Some c → ClaimOf (kind ∷ ws) c
optimal_some kind ws c t e =
    let m = map_some (λ m. claims.Optimal m) (alone_limited_in 1000000 ws) c e in
    let s = limited_alone 1000000 ws m.0 m.1 in
    subst (ClaimOf (kind ∷ ws)) (sym m.2) (s.0, behind kind (codes "optimal") (decimal m.0 ∷ []) ws t s.1)

none_up_to_some : (kind : List ℕ) (ws : List (List ℕ)) (c : Claim) → bytes_eq kind (codes "none-up-to") ≡ true → option_map (λ m. claims.NoneUpTo m) (alone_limited_in 1000000 ws) ≡ Some c → ClaimOf (kind ∷ ws) c
none_up_to_some kind ws c t e =
    let m = map_some (λ m. claims.NoneUpTo m) (alone_limited_in 1000000 ws) c e in
    let s = limited_alone 1000000 ws m.0 m.1 in
    subst (ClaimOf (kind ∷ ws)) (sym m.2) (s.0, behind kind (codes "none-up-to") (decimal m.0 ∷ []) ws t s.1)

never_some : (kind : List ℕ) (ws : List (List ℕ)) (c : Claim) → bytes_eq kind (codes "none") ≡ true → nothing_in claims.Never ws ≡ Some c → ClaimOf (kind ∷ ws) c
never_some kind ws c t e =
    let m = nothing_some claims.Never ws c e in
    subst (ClaimOf (kind ∷ ws)) (sym m.1) (tt, behind kind (codes "none") [] ws t (sym m.0))

abbrev spent_by : ℕ → ℕ → Option Claim
spent_by r n = cond (eqb n 0) None (Some (claims.Spent r n))

spent_parts : (ws : List (List ℕ)) (c : Claim) → spent_in ws ≡ Some c → (a : List ℕ) × (b : List ℕ) × (ws ≡ a ∷ b ∷ []) × ((number_to 999999 a >>= λ r. number_to 4294967295 b >>= λ n. spent_by r n) ≡ Some c)
unfolding spent_in
spent_parts [] c e = absurd cc
spent_parts (a ∷ []) c e = absurd cc
spent_parts (a ∷ b ∷ []) c e = (a, b, refl, e)
spent_parts (a ∷ b ∷ d ∷ ws) c e = absurd cc

spent_some : (kind : List ℕ) (ws : List (List ℕ)) (c : Claim) → bytes_eq kind (codes "spent") ≡ true → spent_in ws ≡ Some c → ClaimOf (kind ∷ ws) c
spent_some kind ws c t e =
    let p = spent_parts ws c e in
    let r = bind_some (number_to 999999 p.0) (λ r. number_to 4294967295 p.1 >>= λ n. spent_by r n) c p.3 in
    let n = bind_some (number_to 4294967295 p.1) (spent_by r.0) c r.2 in
    let u = unless (eqb n.0 0) (there (claims.Spent r.0 n.0)) c n.2 in
    let rs = limited_some 999999 p.0 r.0 r.1 in
    let ns = limited_some 4294967295 p.1 n.0 n.1 in
    let some : n.0 ≡ 0 → ⊥ = eqb-false n.0 0 u.0 in
    subst (ClaimOf (kind ∷ ws)) (some_is (claims.Spent r.0 n.0) c u.1) ((rs.0, omega (arith, some), ns.0), behind kind (codes "spent") (decimal r.0 ∷ decimal n.0 ∷ []) ws t (two ws p.2 rs.1 ns.1))

claim_some : (ws : List (List ℕ)) (c : Claim) → claim_in ws ≡ Some c → ClaimOf ws c
unfolding claim_in
claim_some [] c e = absurd cc
claim_some (kind ∷ ws) c e =
    elim (pick (bytes_eq kind (codes "optimal")) _ _ c e) [
      | inl h ↦ optimal_some kind ws c h.0 h.1
      | inr h ↦ elim (pick (bytes_eq kind (codes "none-up-to")) _ _ c h.1) [
        | inl h ↦ none_up_to_some kind ws c h.0 h.1
        | inr h ↦ elim (pick (bytes_eq kind (codes "none")) _ _ c h.1) [
          | inl h ↦ never_some kind ws c h.0 h.1
          | inr h ↦ elim (pick (bytes_eq kind (codes "spent")) _ _ c h.1) [
            | inl h ↦ spent_some kind ws c h.0 h.1
            | inr h ↦ absurd (none_some h.1)
          ]
        ]
      ]
    ]
  where
    none_some : let o : Option Claim = None in o ≡ Some c → ⊥
    none_some e = cc

first_line : (head : List ℕ) (ws : List (List ℕ)) (c : CertLine) → bytes_eq head (codes "cpt") ≡ true → option_map (λ v. lines.First v) (version_in ws) ≡ Some c → LineOf (head ∷ ws) c
first_line head ws c t e =
    let m = map_some (λ v. lines.First v) (version_in ws) c e in
    (lines.First m.0, tt, behind head (codes "cpt") (version_word m.0 ∷ []) ws t (version_some ws m.0 m.1), m.2)

claimed_line : (head : List ℕ) (ws : List (List ℕ)) (c : CertLine) → bytes_eq head (codes "claim") ≡ true → option_map (λ x. lines.Claimed x) (claim_in ws) ≡ Some c → LineOf (head ∷ ws) c
claimed_line head ws c t e =
    let m = map_some (λ x. lines.Claimed x) (claim_in ws) c e in
    let s = claim_some ws m.0 m.1 in
    (lines.Claimed m.0, s.0, behind head (codes "claim") (claim_words m.0) ws t s.1, m.2)

sizes_line : (head : List ℕ) (ws : List (List ℕ)) (c : CertLine) → bytes_eq head (codes "task") ≡ true → option_map sizes_of (two_numbers_in ws) ≡ Some c → LineOf (head ∷ ws) c
sizes_line head ws c t e =
    let m = map_some sizes_of (two_numbers_in ws) c e in
    let s = two_numbers ws m.0 m.1 in
    (lines.Sizes m.0.0 m.0.1, (s.0, s.1), behind head (codes "task") (decimal m.0.0 ∷ decimal m.0.1 ∷ []) ws t s.2, m.2)

plan_line : (head : List ℕ) (ws : List (List ℕ)) (c : CertLine) → bytes_eq head (codes "plan") ≡ true → option_map (λ x. lines.Plan x) (alone_limited_in 4294967295 ws) ≡ Some c → LineOf (head ∷ ws) c
plan_line head ws c t e =
    let m = map_some (λ x. lines.Plan x) (alone_limited_in 4294967295 ws) c e in
    let s = limited_alone 4294967295 ws m.0 m.1 in
    (lines.Plan m.0, s.0, behind head (codes "plan") (decimal m.0 ∷ []) ws t s.1, m.2)

pairs_line : (head : List ℕ) (ws : List (List ℕ)) (c : CertLine) → bytes_eq head (codes "pairs") ≡ true → nothing_in lines.Pairs ws ≡ Some c → LineOf (head ∷ ws) c
pairs_line head ws c t e =
    let m = nothing_some lines.Pairs ws c e in
    (lines.Pairs, tt, behind head (codes "pairs") [] ws t (sym m.0), m.1)

dists_line : (head : List ℕ) (ws : List (List ℕ)) (c : CertLine) → bytes_eq head (codes "dists") ≡ true → nothing_in lines.Dists ws ≡ Some c → LineOf (head ∷ ws) c
dists_line head ws c t e =
    let m = nothing_some lines.Dists ws c e in
    (lines.Dists, tt, behind head (codes "dists") [] ws t (sym m.0), m.1)

tree_line : (head : List ℕ) (ws : List (List ℕ)) (c : CertLine) → bytes_eq head (codes "tree") ≡ true → option_map (λ x. lines.Tree x) (alone_number_in ws) ≡ Some c → LineOf (head ∷ ws) c
tree_line head ws c t e =
    let m = map_some (λ x. lines.Tree x) (alone_number_in ws) c e in
    let s = number_alone ws m.0 m.1 in
    (lines.Tree m.0, s.0, behind head (codes "tree") (decimal m.0 ∷ []) ws t s.1, m.2)

open_tree_line : (head : List ℕ) (ws : List (List ℕ)) (c : CertLine) → bytes_eq head (codes "open-tree") ≡ true → option_map (λ x. lines.OpenTree x) (alone_number_in ws) ≡ Some c → LineOf (head ∷ ws) c
open_tree_line head ws c t e =
    let m = map_some (λ x. lines.OpenTree x) (alone_number_in ws) c e in
    let s = number_alone ws m.0 m.1 in
    (lines.OpenTree m.0, s.0, behind head (codes "open-tree") (decimal m.0 ∷ []) ws t s.1, m.2)

end_line : (head : List ℕ) (ws : List (List ℕ)) (c : CertLine) → bytes_eq head (codes "end") ≡ true → nothing_in lines.End ws ≡ Some c → LineOf (head ∷ ws) c
end_line head ws c t e =
    let m = nothing_some lines.End ws c e in
    (lines.End, tt, behind head (codes "end") [] ws t (sym m.0), m.1)

node_line : (head : List ℕ) (ws : List (List ℕ)) (c : CertLine) → option_map (λ l. lines.Node l) (node_in head ws) ≡ Some c → LineOf (head ∷ ws) c
node_line head ws c e =
    let m = map_some (λ l. lines.Node l) (node_in head ws) c e in
    let s = node_some head ws m.0 m.1 in
    (lines.Node s.0, s.1, s.2, m.2 ∙ ap (λ l. lines.Node l) s.3)

worded_some : (head : List ℕ) (ws : List (List ℕ)) (c : CertLine) → worded_in head ws ≡ Some c → LineOf (head ∷ ws) c
unfolding worded_in
worded_some head ws c e =
    elim (pick (bytes_eq head (codes "cpt")) _ _ c e) [
      | inl h ↦ first_line head ws c h.0 h.1
      | inr h ↦ elim (pick (bytes_eq head (codes "claim")) _ _ c h.1) [
        | inl h ↦ claimed_line head ws c h.0 h.1
        | inr h ↦ elim (pick (bytes_eq head (codes "task")) _ _ c h.1) [
          | inl h ↦ sizes_line head ws c h.0 h.1
          | inr h ↦ elim (pick (bytes_eq head (codes "plan")) _ _ c h.1) [
            | inl h ↦ plan_line head ws c h.0 h.1
            | inr h ↦ elim (pick (bytes_eq head (codes "pairs")) _ _ c h.1) [
              | inl h ↦ pairs_line head ws c h.0 h.1
              | inr h ↦ elim (pick (bytes_eq head (codes "dists")) _ _ c h.1) [
                | inl h ↦ dists_line head ws c h.0 h.1
                | inr h ↦ elim (pick (bytes_eq head (codes "tree")) _ _ c h.1) [
                  | inl h ↦ tree_line head ws c h.0 h.1
                  | inr h ↦ elim (pick (bytes_eq head (codes "open-tree")) _ _ c h.1) [
                    | inl h ↦ open_tree_line head ws c h.0 h.1
                    | inr h ↦ elim (pick (bytes_eq head (codes "end")) _ _ c h.1) [
                      | inl h ↦ end_line head ws c h.0 h.1
                      | inr h ↦ node_line head ws c h.1
                    ]
                  ]
                ]
              ]
            ]
          ]
        ]
      ]
    ]

pair_row_line : (head : List ℕ) (ws : List (List ℕ)) (c : CertLine) → bytes_eq head (codes "h") ≡ true → option_map (λ runs. lines.PairRow runs) (row_in ws) ≡ Some c → LineOf (head ∷ ws) c
pair_row_line head ws c t e =
    let m = map_some (λ runs. lines.PairRow runs) (row_in ws) c e in
    let s = row_some ws m.0 m.1 in
    (lines.PairRow m.0, s.0, behind head (codes "h") (map run_word m.0) ws t (sym s.1), m.2)

dist_row_line : (head : List ℕ) (ws : List (List ℕ)) (c : CertLine) → bytes_eq head (codes "d") ≡ true → option_map (λ runs. lines.DistRow runs) (row_in ws) ≡ Some c → LineOf (head ∷ ws) c
dist_row_line head ws c t e =
    let m = map_some (λ runs. lines.DistRow runs) (row_in ws) c e in
    let s = row_some ws m.0 m.1 in
    (lines.DistRow m.0, s.0, behind head (codes "d") (map run_word m.0) ws t (sym s.1), m.2)

named_some : (head : List ℕ) (ws : List (List ℕ)) (c : CertLine) → named_in head ws ≡ Some c → LineOf (head ∷ ws) c
unfolding named_in
named_some head ws c e =
    elim (pick (bytes_eq head (codes "h")) _ _ c e) [
      | inl h ↦ pair_row_line head ws c h.0 h.1
      | inr h ↦ elim (pick (bytes_eq head (codes "d")) _ _ c h.1) [
        | inl h ↦ dist_row_line head ws c h.0 h.1
        | inr h ↦ worded_some head ws c h.1
      ]
    ]

item_some : (head : List ℕ) (n : ℕ) (word : List ℕ) (c : CertLine) → IsShort n → head ≡ decimal n → option_map (λ act. lines.Item n act) (number_in word) ≡ Some c → LineOf (head ∷ word ∷ []) c
item_some head n word c short same e =
    let m = map_some (λ act. lines.Item n act) (number_in word) c e in
    let s = number_some word m.0 m.1 in
    (lines.Item n m.0, (short, s.0), ap (λ (x : List ℕ). x ∷ decimal m.0 ∷ []) (sym same) ∙ ap (λ (x : List ℕ). head ∷ x ∷ []) (sym s.1), m.2)

narrow_some : (head : List ℕ) (n : ℕ) (one two : List ℕ) (ws : List (List ℕ)) (c : CertLine) → head ≡ decimal n → (id_in one >>= λ x. id_in two >>= λ p. option_map (λ step. lines.Node (Narrow step)) (step_in n x p ws)) ≡ Some c → LineOf (head ∷ one ∷ two ∷ ws) c
narrow_some head n one two ws c same e =
    let x = bind_some (id_in one) (λ x. id_in two >>= λ p. option_map (λ step. lines.Node (Narrow step)) (step_in n x p ws)) c e in
    let p = bind_some (id_in two) (λ p. option_map (λ step. lines.Node (Narrow step)) (step_in n x.0 p ws)) c x.2 in
    let m = map_some (λ step. lines.Node (Narrow step)) (step_in n x.0 p.0 ws) c p.2 in
    let a = id_some one x.0 x.1 in
    let b = id_some two p.0 p.1 in
    let read : step_in n (capped a.0) (capped b.0) ws ≡ Some m.0 = ap (λ (y : ℕ). step_in n y (capped b.0) ws) (sym a.3) ∙ ap (λ (y : ℕ). step_in n x.0 y ws) (sym b.3) ∙ m.1 in
    let s = step_some n a.0 b.0 ws m.0 a.1 b.1 read in
    let words : decimal n ∷ decimal a.0 ∷ decimal b.0 ∷ ws ≡ head ∷ one ∷ two ∷ ws = ap (λ (y : List ℕ). y ∷ decimal a.0 ∷ decimal b.0 ∷ ws) (sym same) ∙ ap (λ (y : List ℕ). head ∷ y ∷ decimal b.0 ∷ ws) (sym a.2) ∙ ap (λ (y : List ℕ). head ∷ one ∷ y ∷ ws) (sym b.2) in
    (lines.Node (Narrow s.0), s.1, s.2 ∙ words, m.2 ∙ ap (λ step. lines.Node (Narrow step)) s.3)

numbered_some : (head : List ℕ) (n : ℕ) (ws : List (List ℕ)) (c : CertLine) → IsShort n → head ≡ decimal n → numbered_in n ws ≡ Some c → LineOf (head ∷ ws) c
unfolding numbered_in
numbered_some head n [] c short same e = absurd cc
numbered_some head n (word ∷ []) c short same e = item_some head n word c short same e
numbered_some head n (one ∷ two ∷ ws) c short same e = narrow_some head n one two ws c same e

-- a line that is read is spelled so
pub line_some : (ws : List (List ℕ)) (c : CertLine) → line_in ws ≡ Some c → LineOf ws c
unfolding line_in
line_some [] c e = absurd cc
line_some (head ∷ ws) c e = by_number (number_in head) refl e
  where
    by_number : (o : Option ℕ) → number_in head ≡ o → line_by o head ws ≡ Some c → LineOf (head ∷ ws) c
    by_number None same e = named_some head ws c e
    by_number (Some n) same e = let s = number_some head n same in numbered_some head n ws c s.0 s.1 e
