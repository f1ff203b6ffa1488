-- the sheet that lies in cells with a block more
use Rattle.std.proofs.Common.{◌≡◌, ◌≢◌, ℕ, suc, zero, ◌+◌, ◌<◌, ◌==◌, List, [], ◌∷◌, ◌++◌, Bool, true, false, if◌then◌else◌, length, get_or, refl, sym, ◌∙◌, ap, subst, arith, inl, inr}
use Rattle.std.specs.Prelude.{map, not, ◌&&◌}
use Rattle.std.proofs.lemmas.Bool.{cases_eq, eq-eqb, eqb-false}
use Rattle.std.proofs.lemmas.List.{length-append, map-append}
use Rattle.std.proofs.Math.ListN.{get_or-append}
use Rattle.std.proofs.Math.Seq.{get_or-append_seam}
use Rattle.cpt_task.specs.Shape.{TaskShape}
use Rattle.cpt_task.specs.Timeline.{is_in}
use Rattle.cpt_tables.specs.Admissible.{nth_action}
use Rattle.cpt_sheet.specs.declared.data.Cand.{Cand}
use Rattle.cpt_sheet.specs.declared.data.Cand.TheVariants.{Tok, Out}
use Rattle.cpt_sheet.specs.declared.data.Interval.{Interval}
use Rattle.cpt_sheet.specs.declared.data.Kind.{Kind}
use Rattle.cpt_sheet.specs.declared.data.Kind.TheVariants.{Start, End, Act}
use Rattle.cpt_sheet.specs.declared.data.Need.{Need}
use Rattle.cpt_sheet.specs.declared.data.Token.{Token}
use Rattle.cpt_sheet.specs.declared.data.Sheet.{Sheet}
use Rattle.cpt_sheet.specs.Live.{is_open}
use Rattle.cpt_sheet.specs.Roles.{adds_of, needs_of}
use Rattle.cpt_sheet.specs.View.{kind_of, span_of}
use Rattle.cpt_calculus.specs.Decisions.{adders, behind_tokens, need_for, offer, out_adders, token_adders}
use Rattle.cpt_layout.specs.Places.{Place, out_lo, out_hi, tok_lo, tok_hi, order, member, Frame, In, extended, table, kept, kind_at, needs_at, needs_by, atom_at, adders_at}
use Rattle.cpt_layout.specs.Numbers.{cells_in}
use Rattle.cpt_layout.specs.Sheets.{is_cand, is_order, need_from, number_at, out_from, orders_from, seen, span_at, span_from, token_from}
use Rattle.cpt_layout.proofs.Drops.{not_eq}
use Rattle.cpt_layout.proofs.Growing.{needs_same}
use Rattle.cpt_layout.proofs.Laying.{new_needs}
use Rattle.cpt_layout.proofs.Lists.{append_in, either, if_true, if_false, table_same, table_snoc}
use Rattle.cpt_layout.proofs.Views.{cand_same, not_self, outs_same, sheet_of_parts, tokens_are}
use Rattle.cpt_block.specs.Blocks.{Growing, IsFrameOf, action_adders, beside_new, bit, block, grown, is_beside, new_token, nth_need}
use Rattle.cpt_block.proofs.Kepts.{kept_append, kept_more, kept_snoc, map_get, map_table, pairs_more}
use Rattle.cpt_block.proofs.Lookups.{block_length, after_number, ahead_number, hi_number, lo_number, old_number, older_number, out_number, token_number}

bit_is : (b : Bool) → (bit b == 1) ≡ b
bit_is true = refl
bit_is false = refl

none : (b : Bool) (m : ℕ) → m ≡ 0 → (not b && (m == 1)) ≡ false
none true m h = refl
none false m h = ap (λ (i : ℕ). i == 1) h

shown : (x y m : ℕ) (b : Bool) → x ≢ y → m ≡ bit b → (not (x == y) && (m == 1)) ≡ b
shown x y m b d h = ap (λ (c : Bool). not c && (m == 1)) (not_eq x y d) ∙ (ap (λ (i : ℕ). i == 1) h ∙ bit_is b)

and_true : (b : Bool) → (b && true) ≡ b
and_true true = refl
and_true false = refl

and_false : (b : Bool) → (b && false) ≡ false
and_false true = refl
and_false false = refl

-- an action that adds the atom is among those that do
adder_there : (t : TaskShape) (p a m : ℕ) → a < m → is_in p (nth_action t a).add ≡ true → In a (action_adders t p m)
adder_there t p a zero l h = absurd (omega arith)
adder_there t p a (suc m) l h =
    let xs : List ℕ = action_adders t p m in
    let b : Bool = is_in p (nth_action t m).add in
    elim (cases_eq a m) [
      | inl e ↦
          (let q : b ≡ true = ap (λ (i : ℕ). is_in p (nth_action t i).add) (sym e) ∙ h in
          subst (λ (ys : List ℕ). In a ys) (sym (if_true b (xs ++ m ∷ []) xs q)) (append_in a xs (m ∷ []) (inr (inl (sym e)))))
      | inr e ↦
          (let r : In a xs = adder_there t p a m (omega arith) h in
          elim (either b) [
            | inl q ↦ subst (λ (ys : List ℕ). In a ys) (sym (if_true b (xs ++ m ∷ []) xs q)) (append_in a xs (m ∷ []) (inl r))
            | inr q ↦ subst (λ (ys : List ℕ). In a ys) (sym (if_false b (xs ++ m ∷ []) xs q)) r
          ])
    ]

-- of the actions that add the atom the live ones are kept
outs_kept : (t : TaskShape) (s : Sheet) (p m : ℕ) (g : Cand → Bool) → ((a : ℕ) → a < m → is_in p (nth_action t a).add ≡ true → g (Out a) ≡ is_open (span_of s (Out a))) → kept g (map Out (action_adders t p m)) ≡ out_adders t s p m
outs_kept t s p zero g h = refl
outs_kept t s p (suc m) g h =
    let xs : List ℕ = action_adders t p m in
    let os : List Cand = out_adders t s p m in
    let b : Bool = is_in p (nth_action t m).add in
    let o : Bool = is_open (span_of s (Out m)) in
    let r : kept g (map Out xs) ≡ os = outs_kept t s p m g (λ a l e. h a (omega arith) e) in
    elim (either b) [
      | inl e ↦
          ap (λ (ys : List ℕ). kept g (map Out ys)) (if_true b (xs ++ m ∷ []) xs e)
          ∙ (ap (λ (cs : List Cand). kept g cs) (map-append Out xs (m ∷ []))
          ∙ (kept_snoc g (map Out xs) (Out m)
          ∙ (ap (λ (c : Bool). if c then kept g (map Out xs) ++ Out m ∷ [] else kept g (map Out xs)) (h m (omega arith) e)
          ∙ (ap (λ (cs : List Cand). if o then cs ++ Out m ∷ [] else cs) r
          ∙ ap (λ (c : Bool). if c then os ++ Out m ∷ [] else os) (sym (ap (λ (d : Bool). o && d) e ∙ and_true o))))))
      | inr e ↦
          ap (λ (ys : List ℕ). kept g (map Out ys)) (if_false b (xs ++ m ∷ []) xs e)
          ∙ (r ∙ ap (λ (c : Bool). if c then os ++ Out m ∷ [] else os) (sym (ap (λ (d : Bool). o && d) e ∙ and_false o)))
    ]

-- of the tokens those that add the atom are kept
tokens_kept : (t : TaskShape) (s : Sheet) (p m : ℕ) (g : Cand → Bool) → ((y : ℕ) → y < m → g (Tok y) ≡ is_in p (adds_of t (kind_of s (Tok y)))) → kept g (table Tok 0 m) ≡ token_adders t s p m
tokens_kept t s p zero g h = refl
tokens_kept t s p (suc m) g h =
    let z : 0 + m ≡ m = omega arith in
    let b : Bool = is_in p (adds_of t (kind_of s (Tok m))) in
    ap (λ (cs : List Cand). kept g cs) (table_snoc Tok 0 m ∙ ap (λ (i : ℕ). table Tok 0 m ++ Tok i ∷ []) z)
    ∙ (kept_snoc g (table Tok 0 m) (Tok m)
    ∙ (ap (λ (c : Bool). if c then kept g (table Tok 0 m) ++ Tok m ∷ [] else kept g (table Tok 0 m)) (h m (omega arith))
    ∙ ap (λ (cs : List Cand). if b then cs ++ Tok m ∷ [] else cs) (tokens_kept t s p m g (λ y l. h y (omega arith)))))

-- a need of an older token once the new one is there
abbrev beside_need : Kind → ℕ → Need → Need
beside_need k n m = record { atom = m.atom; cands = if is_beside k m.cands then behind_tokens n m.cands else m.cands }

abbrev need_of : ℕ → List Cand → Need
need_of p cs = record { atom = p; cands = cs }

abbrev token_of : Kind → Interval → List Need → Token
token_of q i ms = record { kind = q; span = i; lists = ms }

lists_beside : (k : Kind) (n i m : ℕ) (fa : ℕ → ℕ) (fc : ℕ → List Cand) (q : Kind) (sp : Interval) →
    token_of q sp (table (λ j. beside_need k n (need_of (fa j) (fc j))) i m) ≡ beside_new k n (token_of q sp (table (λ j. need_of (fa j) (fc j)) i m))
lists_beside Start n i m fa fc q sp = refl
lists_beside End n i m fa fc q sp = refl
lists_beside (Act a) n i m fa fc q sp = ap (λ (ms : List Need). token_of q sp ms) (sym (map_table (offer a n) (λ (j : ℕ). need_of (fa j) (fc j)) i m))

module _ (t : TaskShape) (s : Frame) (cells : List ℕ) (k : Kind) (lo hi : ℕ) (fr : IsFrameOf t s) (e : length cells ≡ cells_in s) where
  abbrev pub u : Frame
  u = extended s (k ∷ [])

  abbrev pub n : ℕ
  n = length s.kinds

  abbrev pub v : Place → ℕ
  v = number_at s cells

  abbrev pub w : Place → ℕ
  w = number_at u (cells ++ block t s (seen s cells) k lo hi)

  one_more : length u.kinds ≡ suc n
  one_more = (let q = length-append s.kinds (k ∷ []) in omega arith)

  cands_beside : (x j : ℕ) → x < n → j < length (needs_at s x) → kept (is_cand w x j) (table Tok 0 (suc n) ++ map Out (adders_at s (atom_at s x j))) ≡ (beside_need k n (need_from s v x j)).cands
  cands_beside x j l h =
      let cs : List Cand = (need_from s v x j).cands in
      let b : is_cand w x j (Tok n) ≡ is_beside k cs = shown n x (w (member x j (Tok n))) (is_beside k cs) (omega arith) (older_number t s cells k lo hi e x j l h) in
      kept_more (is_cand v x j) (is_cand w x j) n (adders_at s (atom_at s x j)) (λ c r. cand_same s v w x j c (λ d. old_number t s cells k lo hi e (member x j c) (l, h, r, d)))
      ∙ ap (λ (c : Bool). if c then behind_tokens n cs else cs) b

  need_beside : (x j : ℕ) → x < n → j < length (needs_at s x) → need_from u w x j ≡ beside_need k n (need_from s v x j)
  need_beside x j l h =
      let at : atom_at u x j ≡ atom_at s x j = ap (λ (ns : List ℕ). get_or ns j 0) (needs_same s (k ∷ []) x l) in
      let made : ℕ → List Cand → Need = λ p cs. record { atom = p; cands = cs } in
      ap (λ (p : ℕ). made p (kept (is_cand w x j) (table Tok 0 (length u.kinds) ++ map Out (adders_at s p)))) at
      ∙ (ap (λ (m : ℕ). made (atom_at s x j) (kept (is_cand w x j) (table Tok 0 m ++ map Out (adders_at s (atom_at s x j))))) one_more
      ∙ ap (λ (cs : List Cand). made (atom_at s x j) cs) (cands_beside x j l h))

  token_beside : (x : ℕ) → x < n → token_from u w x ≡ beside_new k n (token_from s v x)
  token_beside x l =
      let made : Kind → ℕ → ℕ → List Need → Token = λ q a b ms. record { kind = q; span = record { lo = span_from a; hi = b }; lists = ms } in
      let m : ℕ = length (needs_at s x) in
      let q : kind_at u x ≡ kind_at s x = get_or-append s.kinds (k ∷ []) Start x l in
      let f : length (needs_at u x) ≡ m = ap (λ (ns : List ℕ). length ns) (needs_same s (k ∷ []) x l) in
      let ls : (token_from u w x).lists ≡ table (λ j. beside_need k n (need_from s v x j)) 0 m =
      ap (λ (i : ℕ). table (need_from u w x) 0 i) f ∙ table_same (λ j. beside_need k n (need_from s v x j)) (need_from u w x) 0 m (λ j a b. need_beside x j l (omega arith)) in
      ap (λ (z : Kind). made z (w (tok_lo x)) (w (tok_hi x)) (token_from u w x).lists) q
      ∙ (ap (λ (z : ℕ). made (kind_at s x) z (w (tok_hi x)) (token_from u w x).lists) (old_number t s cells k lo hi e (tok_lo x) l)
      ∙ (ap (λ (z : ℕ). made (kind_at s x) (v (tok_lo x)) z (token_from u w x).lists) (old_number t s cells k lo hi e (tok_hi x) l)
      ∙ (ap (λ (z : List Need). made (kind_at s x) (v (tok_lo x)) (v (tok_hi x)) z) ls
      ∙ lists_beside k n 0 m (λ (j : ℕ). atom_at s x j) (λ (j : ℕ). (need_from s v x j).cands) (kind_at s x) (span_at v x))))

  new_cands : (j : ℕ) → j < length (needs_by s k) → kept (is_cand w n j) (table Tok 0 (suc n) ++ map Out (adders_at s (nth_need s k j))) ≡ adders t (seen s cells) (nth_need s k j)
  new_cands j l =
      let sh : Sheet = seen s cells in
      let p : ℕ = nth_need s k j in
      let g : Cand → Bool = is_cand w n j in
      let z : 0 + n ≡ n = omega arith in
      let ad : adders_at s p ≡ action_adders t p (length t.actions) = fr.adders p in
      let self : g (Tok n) ≡ false = ap (λ (b : Bool). not b && (w (member n j (Tok n)) == 1)) (eq-eqb n n refl) in
      let toks : kept g (table Tok 0 n) ≡ token_adders t sh p n =
      tokens_kept t sh p n g (λ y h. shown y n (w (member n j (Tok y))) (is_in p (adds_of t (kind_of sh (Tok y)))) (omega arith) (token_number t s cells k lo hi e j y l h)) in
      let most : kept g (table Tok 0 (suc n)) ≡ token_adders t sh p n =
      ap (λ (cs : List Cand). kept g cs) (table_snoc Tok 0 n ∙ ap (λ (i : ℕ). table Tok 0 n ++ Tok i ∷ []) z)
      ∙ (kept_snoc g (table Tok 0 n) (Tok n) ∙ (if_false (g (Tok n)) (kept g (table Tok 0 n) ++ Tok n ∷ []) (kept g (table Tok 0 n)) self ∙ toks)) in
      let outs : kept g (map Out (adders_at s p)) ≡ out_adders t sh p (length t.actions) =
      ap (λ (bs : List ℕ). kept g (map Out bs)) ad
      ∙ outs_kept t sh p (length t.actions) g (λ a h q. (let r : In a (adders_at s p) = subst (λ (bs : List ℕ). In a bs) (sym ad) (adder_there t p a (length t.actions) h q) in
      ap (λ (i : ℕ). i == 1) (out_number t s cells k lo hi e j a l r) ∙ bit_is (is_open (span_of sh (Out a))))) in
      kept_append g (table Tok 0 (suc n)) (map Out (adders_at s p))
      ∙ (ap (λ (cs : List Cand). cs ++ kept g (map Out (adders_at s p))) most
      ∙ (ap (λ (cs : List Cand). token_adders t sh p n ++ cs) outs
      ∙ ap (λ (i : ℕ). token_adders t sh p i ++ out_adders t sh p (length t.actions)) (sym (tokens_are s v))))

  new_need : (j : ℕ) → j < length (needs_by s k) → need_from u w n j ≡ need_for t (seen s cells) (nth_need s k j)
  new_need j l =
      let at : atom_at u n j ≡ nth_need s k j = ap (λ (ns : List ℕ). get_or ns j 0) (new_needs s k) in
      let made : ℕ → List Cand → Need = λ p cs. record { atom = p; cands = cs } in
      ap (λ (p : ℕ). made p (kept (is_cand w n j) (table Tok 0 (length u.kinds) ++ map Out (adders_at s p)))) at
      ∙ (ap (λ (m : ℕ). made (nth_need s k j) (kept (is_cand w n j) (table Tok 0 m ++ map Out (adders_at s (nth_need s k j))))) one_more
      ∙ ap (λ (cs : List Cand). made (nth_need s k j) cs) (new_cands j l))

  token_new : token_from u w n ≡ new_token t (seen s cells) k lo hi
  token_new =
      let sh : Sheet = seen s cells in
      let made : Kind → ℕ → ℕ → List Need → Token = λ q a b ms. record { kind = q; span = record { lo = span_from a; hi = b }; lists = ms } in
      let m : ℕ = length (needs_by s k) in
      let q : kind_at u n ≡ k = get_or-append_seam s.kinds k [] Start in
      let f : length (needs_at u n) ≡ m = ap (λ (ns : List ℕ). length ns) (new_needs s k) in
      let ls : (token_from u w n).lists ≡ map (need_for t sh) (needs_of t k) =
      ap (λ (i : ℕ). table (need_from u w n) 0 i) f
      ∙ (table_same (λ j. need_for t sh (nth_need s k j)) (need_from u w n) 0 m (λ j a b. new_need j (omega arith))
      ∙ (sym (map_get (need_for t sh) (needs_by s k)) ∙ ap (λ (ps : List ℕ). map (need_for t sh) ps) (fr.needs k))) in
      ap (λ (z : Kind). made z (w (tok_lo n)) (w (tok_hi n)) (token_from u w n).lists) q
      ∙ (ap (λ (z : ℕ). made k z (w (tok_hi n)) (token_from u w n).lists) (lo_number t s cells k lo hi e)
      ∙ (ap (λ (z : ℕ). made k lo z (token_from u w n).lists) (hi_number t s cells k lo hi e)
      ∙ ap (λ (z : List Need). made k lo hi z) ls))

  all_tokens : table (token_from u w) 0 (length u.kinds) ≡ map (beside_new k n) (table (token_from s v) 0 n) ++ new_token t (seen s cells) k lo hi ∷ []
  all_tokens =
      let z : 0 + n ≡ n = omega arith in
      ap (λ (i : ℕ). table (token_from u w) 0 i) one_more
      ∙ (table_snoc (token_from u w) 0 n
      ∙ (ap (λ (zs : List Token). zs ++ token_from u w (0 + n) ∷ []) (table_same (λ x. beside_new k n (token_from s v x)) (token_from u w) 0 n (λ x a b. token_beside x (omega arith)) ∙ sym (map_table (beside_new k n) (token_from s v) 0 n))
      ∙ ap (λ (y : Token). map (beside_new k n) (table (token_from s v) 0 n) ++ y ∷ []) (ap (λ (i : ℕ). token_from u w i) z ∙ token_new)))

  all_orders : orders_from w (length u.kinds) ≡ orders_from v n
  all_orders =
      let z : 0 + n ≡ n = omega arith in
      ap (λ (i : ℕ). orders_from w i) one_more
      ∙ pairs_more (is_order w) (is_order v) n 0 n z
      (λ x y a b. not_self (x == y) (w (order x y)) (v (order x y)) (λ d. old_number t s cells k lo hi e (order x y) (a, b, eqb-false x y d)))
      (λ x l. elim (cases_eq x n) [
        | inl q ↦ ap (λ (b : Bool). not b && (w (order x n) == 1)) (eq-eqb x n q)
        | inr q ↦ none (x == n) (w (order x n)) (ahead_number t s cells k lo hi e x (omega arith))
      ])
      (λ y l. elim (cases_eq y n) [
        | inl q ↦ ap (λ (b : Bool). not b && (w (order n y) == 1)) (eq-eqb n y (sym q))
        | inr q ↦ none (n == y) (w (order n y)) (after_number t s cells k lo hi e y (omega arith))
      ])

  pub grows : seen u (cells ++ block t s (seen s cells) k lo hi) ≡ grown t (seen s cells) k lo hi
  grows =
      let sh : Sheet = seen s cells in
      let outs : table (out_from w) 0 (length s.pre) ≡ table (out_from v) 0 (length s.pre) = outs_same s v w (λ a l. old_number t s cells k lo hi e (out_lo a) l) (λ a l. old_number t s cells k lo hi e (out_hi a) l) in
      ap (λ (zs : List Token). sheet_of_parts s zs (table (out_from w) 0 (length s.pre)) (orders_from w (length u.kinds))) all_tokens
      ∙ (ap (λ (is : List Interval). sheet_of_parts s (map (beside_new k n) sh.tokens ++ new_token t sh k lo hi ∷ []) is (orders_from w (length u.kinds))) outs
      ∙ (ap (λ (os : List (ℕ × ℕ)). sheet_of_parts s (map (beside_new k n) sh.tokens ++ new_token t sh k lo hi ∷ []) sh.outs os) all_orders
      ∙ ap (λ (i : ℕ). sheet_of_parts s (map (beside_new k i) sh.tokens ++ new_token t sh k lo hi ∷ []) sh.outs sh.orders) (sym (tokens_are s v))))

pub growing : Growing
growing t f cells k lo hi fr e = (grows t f cells k lo hi fr e, block_length t f cells k lo hi e)
