-- nodes that begin, and fates that were merged
use Rattle.std.proofs.Common.{◌≡◌, ℕ, ◌+◌, ◌<◌, ◌≤◌, List, [], ◌∷◌, ◌++◌, length, take, get_or, sym, subst, arith}
use Rattle.std.specs.List.{AllZip}
use Rattle.std.proofs.lemmas.List.{take_more}
use Rattle.std.proofs.lemmas.List.Elements.{All-push}
use Rattle.cpt_task.specs.Shape.{TaskShape}
use Rattle.cpt_sheet.specs.declared.data.Sheet.{Sheet}
use Rattle.cpt_sheet.specs.Formed.{IsFormed}
use Rattle.cpt_walk.specs.declared.walk.Walk.{Walk}
use Rattle.cpt_walk.specs.declared.walk.Place.TheVariants.{Node}
use Rattle.cpt_walk.specs.Walks.{AreFew, IsFewAt, IsPlaceFormed, IsUnreadAt, IsWalk}
use Rattle.cpt_thin.specs.Dooms.{IsGoing}
use Rattle.cpt_thin.specs.declared.fates.Fate.{Fate}
use Rattle.cpt_thin.specs.declared.thinning.Begun.{Begun}
use Rattle.cpt_thin.specs.Thinner.{Thins, IsBegun, AreBegun}

-- one fate more
push_thins : (a b : List Fate) (f g : Fate) → AllZip Thins a b → Thins f g → AllZip Thins (a ++ f ∷ []) (b ++ g ∷ [])
push_thins [] [] f g h k = (k, tt)
push_thins [] (y ∷ b) f g h k = absurd h
push_thins (x ∷ a) [] f g h k = absurd h
push_thins (x ∷ a) (y ∷ b) f g h k = (h.0, push_thins a b f g h.1 k)

pub thins_more : (fates : List Fate) (i : ℕ) (d : Fate) (new : List Fate) (g : Fate) → i < length fates → AllZip Thins (take i fates) new → Thins (get_or fates i d) g → AllZip Thins (take (i + 1) fates) (new ++ g ∷ [])
thins_more fates i d new g lt h k = subst (λ z. AllZip Thins z (new ++ g ∷ [])) (sym (take_more fates i d lt)) (push_thins (take i fates) new (get_or fates i d) g h k)

-- a walk of which nothing is read
pub going_from : (t : TaskShape) (k : ℕ) (w : Walk) (s : Sheet) → IsBegun t k s → (IsFormed t s → IsWalk t w) → (length s.tokens ≤ k + 2 → AreFew k w) → w.place ≡ Node s → w.past.done ≡ 0 → IsGoing t k w
going_from t k w s h walk few e done = record {
  walk = walk h.formed;
  unread = subst (λ p. IsUnreadAt p w.past) (sym e) tt;
  few = few h.few;
  done = omega (arith, done);
}

-- a node that begins at the place
pub begun_push : (t : TaskShape) (w : Walk) (place depth : ℕ) (s : Sheet) (copy : Sheet) (ns : List Begun) → w.place ≡ Node s → copy ≡ s → IsWalk t w → AreFew place w → AreBegun t ns → AreBegun t (ns ++ record { place = place; depth = depth; sheet = copy } ∷ [])
begun_push t w place depth s copy ns e same walk many begun =
    let formed : IsFormed t s = subst (IsPlaceFormed t) e walk.place in
    let few : length s.tokens ≤ place + 2 = subst (IsFewAt place) e many.place in
    let one : IsBegun t place copy = subst (IsBegun t place) (sym same) (record { formed = formed; few = few }) in
    All-push (λ n. IsBegun t n.place n.sheet) ns (record { place = place; depth = depth; sheet = copy }) begun one
