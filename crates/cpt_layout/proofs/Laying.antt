-- where tokens and needs begin, with a token more and with fewer tokens
use Rattle.std.proofs.Common.{◌≡◌, ℕ, suc, zero, ◌+◌, ◌*◌, ◌≤◌, ◌<◌, ◌-◌, List, [], ◌∷◌, ◌++◌, length, get_or, take, drop, sym, ◌∙◌, ap, subst, arith, inl, inr, append_assoc}
use Rattle.std.proofs.lemmas.Bool.{cases_eq}
use Rattle.std.proofs.lemmas.List.{length-append, length-take-le, take-append-drop, get_or-take, get_or-append-add}
use Rattle.std.proofs.Math.ListN.{get_or-append}
use Rattle.std.proofs.Math.Seq.{get_or-append_seam}
use Rattle.cpt_sheet.specs.declared.data.Kind.{Kind}
use Rattle.cpt_sheet.specs.declared.data.Kind.TheVariants.{Start}
use Rattle.cpt_layout.specs.Places.{Frame, extended, cut, table, needs_by, needs_at}
use Rattle.std.specs.Prelude.{min}
use Rattle.cpt_layout.specs.Numbers.{needs_before, own_cells, base, head, cells_in}
use Rattle.cpt_layout.specs.Laid.{IsLaid}
use Rattle.cpt_layout.proofs.Lists.{length-table, get_at, table_same, table_snoc, take_table}
use Rattle.cpt_layout.proofs.Growing.{needs_by_same, needs_same, before_same, base_same, head_same, new_base}
use Rattle.cpt_layout.proofs.Numbering.{need_below}

-- what a token more needs
pub new_needs : (s : Frame) (k : Kind) → needs_at (extended s (k ∷ [])) (length s.kinds) ≡ needs_by s k
new_needs s k =
    ap (λ (l : Kind). needs_by (extended s (k ∷ [])) l) (get_or-append_seam s.kinds k [] Start)
    ∙ needs_by_same s (k ∷ []) k

one_more : (s : Frame) (k : Kind) → length (s.kinds ++ k ∷ []) ≡ suc (length s.kinds)
one_more s k = (let e = length-append s.kinds (k ∷ []) in omega arith)

listed : (f g : ℕ → ℕ) (n m : ℕ) (xs : List ℕ) (x : ℕ) → m ≡ suc n → xs ≡ table f 0 n → ((i : ℕ) → i < n → g i ≡ f i) → x ≡ g n → xs ++ x ∷ [] ≡ table g 0 m
listed f g n m xs x e h same l =
    let z : n ≡ 0 + n = omega arith in
    ap (λ (ys : List ℕ). ys ++ x ∷ []) (h ∙ sym (table_same f g 0 n (λ i a b. same i (omega arith))))
    ∙ (ap (λ (y : ℕ). table g 0 n ++ y ∷ []) (l ∙ ap g z) ∙ (sym (table_snoc g 0 n) ∙ ap (λ (j : ℕ). table g 0 j) (sym e)))

-- where the needs of a token more begin
abbrev pub new_heads : Frame → Kind → ℕ → List ℕ
new_heads s k first = table (λ j. first + own_cells s.adders (length s.kinds) (needs_by s k) j) 0 (length (needs_by s k))

new_count : (s : Frame) (k : Kind) (hs : List ℕ) (first : ℕ) → length hs ≡ needs_before s (length s.kinds) →
    length (hs ++ new_heads s k first) ≡ needs_before (extended s (k ∷ [])) (length (s.kinds ++ k ∷ []))
new_count s k hs first h =
    let u : Frame = extended s (k ∷ []) in
    let n : ℕ = length s.kinds in
    let a : length (hs ++ new_heads s k first) ≡ length hs + length (new_heads s k first) = length-append hs (new_heads s k first) in
    let b : length (new_heads s k first) ≡ length (needs_by s k) = length-table (λ (j : ℕ). first + own_cells s.adders n (needs_by s k) j) 0 (length (needs_by s k)) in
    let c : needs_before u (length (s.kinds ++ k ∷ [])) ≡ needs_before u n + length (needs_at u n) = ap (λ (i : ℕ). needs_before u i) (one_more s k) in
    let d : needs_before u n ≡ needs_before s n = before_same s (k ∷ []) n (omega arith) in
    let e : length (needs_at u n) ≡ length (needs_by s k) = ap (λ (ns : List ℕ). length ns) (new_needs s k) in
    omega arith

new_head : (s : Frame) (k : Kind) (hs : List ℕ) (end j : ℕ) → length hs ≡ needs_before s (length s.kinds) → end ≡ base s (length s.kinds) → j < length (needs_by s k) →
    get_or (hs ++ new_heads s k (end + (2 + 2 * length s.kinds + length hs))) (needs_before (extended s (k ∷ [])) (length s.kinds) + j) 0 ≡ head (extended s (k ∷ [])) (length s.kinds) j
new_head s k hs end j h b l =
    let u : Frame = extended s (k ∷ []) in
    let n : ℕ = length s.kinds in
    let first : ℕ = end + (2 + 2 * n + length hs) in
    let d : needs_before u n ≡ needs_before s n = before_same s (k ∷ []) n (omega arith) in
    let e : base u n ≡ base s n = new_base s (k ∷ []) in
    let i : needs_before u n + j ≡ length hs + j = omega arith in
    let o : own_cells s.adders n (needs_at u n) j ≡ own_cells s.adders n (needs_by s k) j = ap (λ (ns : List ℕ). own_cells s.adders n ns j) (new_needs s k) in
    let z : 0 + j ≡ j = omega arith in
    let t : get_or (new_heads s k first) j 0 ≡ first + own_cells s.adders n (needs_by s k) j = get_at (λ (m : ℕ). first + own_cells s.adders n (needs_by s k) m) 0 (length (needs_by s k)) j 0 l ∙ ap (λ (m : ℕ). first + own_cells s.adders n (needs_by s k) m) z in
    let g : get_or (hs ++ new_heads s k first) (needs_before u n + j) 0 ≡ get_or (new_heads s k first) j 0 = ap (λ (m : ℕ). get_or (hs ++ new_heads s k first) m 0) i ∙ get_or-append-add hs (new_heads s k first) j 0 in
    let v : first + own_cells s.adders n (needs_by s k) j ≡ base u n + (2 + 2 * n + needs_before u n + own_cells s.adders n (needs_at u n) j) = omega arith in
    g ∙ (t ∙ v)

old_head : (s : Frame) (k : Kind) (hs more : List ℕ) (x j : ℕ) (bs fs : List ℕ) → IsLaid s bs fs hs → x < length s.kinds → j < length (needs_at s x) →
    get_or (hs ++ more) (needs_before (extended s (k ∷ [])) x + j) 0 ≡ head (extended s (k ∷ [])) x j
old_head s k hs more x j bs fs h a b =
    let r = need_below s x j a b in
    let l : needs_before s x + j < length hs = omega (arith, h.count) in
    ap (λ (i : ℕ). get_or (hs ++ more) (i + j) 0) (before_same s (k ∷ []) x (omega arith))
    ∙ (get_or-append hs more 0 (needs_before s x + j) l ∙ (h.heads x j a b ∙ sym (head_same s (k ∷ []) x j a)))

pub laid_more : (s : Frame) (k : Kind) (bs fs hs : List ℕ) (end : ℕ) → IsLaid s bs fs hs → end ≡ base s (length s.kinds) →
    IsLaid (extended s (k ∷ [])) (bs ++ end ∷ []) (fs ++ length hs ∷ []) (hs ++ new_heads s k (end + (2 + 2 * length s.kinds + length hs)))
laid_more s k bs fs hs end h b =
    let u : Frame = extended s (k ∷ []) in
    let n : ℕ = length s.kinds in
    let more : List ℕ = new_heads s k (end + (2 + 2 * n + length hs)) in
    record {
      bases = listed (base s) (base u) n (length u.kinds) bs end (one_more s k) h.bases (λ i l. base_same s (k ∷ []) i (omega arith)) (b ∙ sym (new_base s (k ∷ [])));
      firsts = listed (needs_before s) (needs_before u) n (length u.kinds) fs (length hs) (one_more s k) h.firsts (λ i l. before_same s (k ∷ []) i (omega arith)) (h.count ∙ sym (before_same s (k ∷ []) n (omega arith)));
      count = new_count s k hs (end + (2 + 2 * n + length hs)) h.count;
      heads = λ x j a d.
          let o = one_more s k in
          elim (cases_eq x n) [
            | inl e ↦
                (let at : (i : ℕ) → i ≡ n → j < length (needs_at u i) → get_or (hs ++ more) (needs_before u i + j) 0 ≡ head u i j =
                λ i q r. subst (λ (m : ℕ). get_or (hs ++ more) (needs_before u m + j) 0 ≡ head u m j) (sym q)
                (new_head s k hs end j h.count b (let w : length (needs_at u i) ≡ length (needs_by s k) = ap (λ (m : ℕ). length (needs_at u m)) q ∙ ap (λ (ns : List ℕ). length ns) (new_needs s k) in omega arith)) in
                at x e d)
            | inr e ↦
                (let l : x < n = omega arith in
                old_head s k hs more x j bs fs h l (let w : length (needs_at u x) ≡ length (needs_at s x) = ap (λ (ns : List ℕ). length ns) (needs_same s (k ∷ []) x l) in omega arith))
          ];
      adders = h.adders;
    }

-- with fewer tokens
whole : (s : Frame) (n : ℕ) → extended (cut s n) (drop n s.kinds) ≡ s
whole s n = ap (λ (ks : List Kind). record s { kinds = ks }) (take-append-drop n s.kinds)

pub length_cut : (s : Frame) (n : ℕ) → n ≤ length s.kinds → length (take n s.kinds) ≡ n
length_cut s n l = length-take-le n s.kinds l

pub base_cut : (s : Frame) (n i : ℕ) → n ≤ length s.kinds → i ≤ n → base s i ≡ base (cut s n) i
base_cut s n i l a = ap (λ (t : Frame). base t i) (sym (whole s n)) ∙ base_same (cut s n) (drop n s.kinds) i (let e = length_cut s n l in omega arith)

before_cut : (s : Frame) (n i : ℕ) → n ≤ length s.kinds → i ≤ n → needs_before s i ≡ needs_before (cut s n) i
before_cut s n i l a = ap (λ (t : Frame). needs_before t i) (sym (whole s n)) ∙ before_same (cut s n) (drop n s.kinds) i (let e = length_cut s n l in omega arith)

needs_cut : (s : Frame) (n x : ℕ) → n ≤ length s.kinds → x < n → needs_at s x ≡ needs_at (cut s n) x
needs_cut s n x l a = ap (λ (t : Frame). needs_at t x) (sym (whole s n)) ∙ needs_same (cut s n) (drop n s.kinds) x (let e = length_cut s n l in omega arith)

head_cut : (s : Frame) (n x j : ℕ) → n ≤ length s.kinds → x < n → head s x j ≡ head (cut s n) x j
head_cut s n x j l a = ap (λ (t : Frame). head t x j) (sym (whole s n)) ∙ head_same (cut s n) (drop n s.kinds) x j (let e = length_cut s n l in omega arith)

before_rises : (s : Frame) (n m : ℕ) → needs_before s n ≤ needs_before s (n + m)
before_rises s n zero = (let e : n + 0 ≡ n = omega arith in let q : needs_before s (n + 0) ≡ needs_before s n = ap (λ (i : ℕ). needs_before s i) e in omega arith)
before_rises s n (suc m) = (let e : n + suc m ≡ suc (n + m) = omega arith in let q : needs_before s (n + suc m) ≡ needs_before s (n + m) + length (needs_at s (n + m)) = ap (λ (i : ℕ). needs_before s i) e in let r = before_rises s n m in omega arith)

pub before_most : (s : Frame) (n m : ℕ) → n ≤ m → needs_before s n ≤ needs_before s m
before_most s n m l = (let e : n + (m - n) ≡ m = omega arith in let q : needs_before s (n + (m - n)) ≡ needs_before s m = ap (λ (i : ℕ). needs_before s i) e in let r = before_rises s n (m - n) in omega arith)

fewer : (f g : ℕ → ℕ) (m n p : ℕ) (xs : List ℕ) → xs ≡ table f 0 m → n ≤ m → p ≡ n → ((i : ℕ) → i < n → f i ≡ g i) → take n xs ≡ table g 0 p
fewer f g m n p xs h l e same =
    ap (λ (ys : List ℕ). take n ys) h ∙ (take_table f 0 n m l ∙ (table_same g f 0 n (λ i a b. same i (omega arith)) ∙ ap (λ (i : ℕ). table g 0 i) (sym e)))

pub laid_cut : (s : Frame) (n : ℕ) (bs fs hs : List ℕ) → n ≤ length s.kinds → IsLaid s bs fs hs → IsLaid (cut s n) (take n bs) (take n fs) (take (needs_before s n) hs)
laid_cut s n bs fs hs l h =
    let u : Frame = cut s n in
    let e : length u.kinds ≡ n = length_cut s n l in
    record {
      bases = fewer (base s) (base u) (length s.kinds) n (length u.kinds) bs h.bases l e (λ i a. base_cut s n i l (omega arith));
      firsts = fewer (needs_before s) (needs_before u) (length s.kinds) n (length u.kinds) fs h.firsts l e (λ i a. before_cut s n i l (omega arith));
      count =
          (let b = before_most s n (length s.kinds) l in
          length-take-le (needs_before s n) hs (omega (arith, h.count)) ∙ (before_cut s n n l (omega arith) ∙ ap (λ (i : ℕ). needs_before u i) (sym e)));
      heads = λ x j a b.
          let c : x < n = omega arith in
          let w : length (needs_at s x) ≡ length (needs_at u x) = ap (λ (ns : List ℕ). length ns) (needs_cut s n x l c) in
          let d : j < length (needs_at s x) = omega arith in
          let k = need_below u x j a b in
          let p : needs_before s x ≡ needs_before u x = before_cut s n x l (omega arith) in
          let q : needs_before s n ≡ needs_before u n = before_cut s n n l (omega arith) in
          let r : needs_before u (length u.kinds) ≡ needs_before u n = ap (λ (i : ℕ). needs_before u i) e in
          let z : needs_before s x + j < needs_before s n = omega arith in
          ap (λ (i : ℕ). get_or (take (needs_before s n) hs) (i + j) 0) (sym p)
          ∙ (get_or-take (needs_before s n) hs (needs_before s x + j) 0 z ∙ (h.heads x j (omega arith) d ∙ head_cut s n x j l c));
      adders = h.adders;
    }

-- the cells of more needs
own_rises : (adders : List (List ℕ)) (x : ℕ) (needs : List ℕ) (n m : ℕ) → own_cells adders x needs n ≤ own_cells adders x needs (n + m)
own_rises adders x needs n zero = (let e : n + 0 ≡ n = omega arith in let q : own_cells adders x needs (n + 0) ≡ own_cells adders x needs n = ap (λ (i : ℕ). own_cells adders x needs i) e in omega arith)
own_rises adders x needs n (suc m) =
    let e : n + suc m ≡ suc (n + m) = omega arith in
    let q : own_cells adders x needs (n + suc m) ≡ own_cells adders x needs (n + m) + (2 + x + length (get_or adders (get_or needs (n + m) 0) [])) = ap (λ (i : ℕ). own_cells adders x needs i) e in
    let r = own_rises adders x needs n m in
    omega arith

pub own_most : (adders : List (List ℕ)) (x : ℕ) (needs : List ℕ) (n m : ℕ) → n ≤ m → own_cells adders x needs n ≤ own_cells adders x needs m
own_most adders x needs n m l = (let e : n + (m - n) ≡ m = omega arith in let q : own_cells adders x needs (n + (m - n)) ≡ own_cells adders x needs m = ap (λ (i : ℕ). own_cells adders x needs i) e in let r = own_rises adders x needs n (m - n) in omega arith)

pub own_next : (adders : List (List ℕ)) (x : ℕ) (needs : List ℕ) (n : ℕ) → own_cells adders x needs (n + 1) ≡ own_cells adders x needs n + (2 + x + length (get_or adders (get_or needs n 0) []))
own_next adders x needs n = ap (λ (i : ℕ). own_cells adders x needs i) (let e : n + 1 ≡ suc n = omega arith in e)

pub row_next : (f : ℕ → ℕ) (old xs ys : List ℕ) (n x : ℕ) → xs ≡ old ++ table f 0 n → ys ≡ xs ++ x ∷ [] → x ≡ f n → ys ≡ old ++ table f 0 (n + 1)
row_next f old xs ys n x h k e =
    let z : n ≡ 0 + n = omega arith in
    let o : suc n ≡ n + 1 = omega arith in
    k ∙ (ap (λ (zs : List ℕ). zs ++ x ∷ []) h ∙ (append_assoc old (table f 0 n) (x ∷ [])
    ∙ ap (λ (zs : List ℕ). old ++ zs) (ap (λ (y : ℕ). table f 0 n ++ y ∷ []) (e ∙ ap f z) ∙ (sym (table_snoc f 0 n) ∙ ap (λ (i : ℕ). table f 0 i) o))))

-- where the cells end with a token more
pub new_end : (s : Frame) (k : Kind) → cells_in (extended s (k ∷ [])) ≡ base s (length s.kinds) + (2 + 2 * length s.kinds + needs_before s (length s.kinds) + own_cells s.adders (length s.kinds) (needs_by s k) (length (needs_by s k)))
new_end s k =
    let u : Frame = extended s (k ∷ []) in
    let n : ℕ = length s.kinds in
    let a : base u n ≡ base s n = new_base s (k ∷ []) in
    let d : needs_before u n ≡ needs_before s n = before_same s (k ∷ []) n (omega arith) in
    let o : own_cells s.adders n (needs_at u n) (length (needs_at u n)) ≡ own_cells s.adders n (needs_by s k) (length (needs_by s k)) = ap (λ (ns : List ℕ). own_cells s.adders n ns (length ns)) (new_needs s k) in
    let c : base u (length (s.kinds ++ k ∷ [])) ≡ base u n + (2 + 2 * n + needs_before u n + own_cells s.adders n (needs_at u n) (length (needs_at u n))) = ap (λ (i : ℕ). base u i) (one_more s k) in
    omega arith

-- room in numbers
pub room_three : (k b f k' b' f' n m ck cb cf : ℕ) → k ≡ n → b ≡ n → f ≡ n → k' ≡ m → b' ≡ m → f' ≡ m → m ≤ n → n ≤ ck → n ≤ cb → n ≤ cf →
    min (ck - k') (min (cb - b') (cf - f')) + m ≡ min (ck - k) (min (cb - b) (cf - f)) + n
room_three k b f k' b' f' n m ck cb cf p q r p' q' r' l x y z = omega arith
