use Rattle.std.specs.Prelude.{◌≡◌, ℕ, ◌<◌, List, [], length, map, All, Contains, slice_index_or, vec_len, vec_capacity}
use Rattle.std.specs.List.Sorted.{IsStrictlyIncreasing}
use Rattle.cpt_task.specs.declared.task.Action.{Action}
use Rattle.cpt_task.specs.Shape.{TaskShape, InBounds}
use Rattle.cpt_task.specs.Timeline.{is_in}
use Rattle.cpt_sheet.specs.declared.data.Cand.{Cand}
use Rattle.cpt_sheet.specs.declared.data.Cand.TheVariants.{Tok, Out}
use Rattle.cpt_sheet.specs.declared.data.Kind.{Kind}
use Rattle.cpt_sheet.specs.declared.data.Kind.TheVariants.{Start, Act}
use Rattle.cpt_sheet.specs.declared.data.Sheet.{Sheet}
use Rattle.cpt_sheet.specs.Roles.{Adds, Deletes, Clash, adds_of, deletes_of, needs_of}
use Rattle.cpt_index.specs.declared.index.Seat.{Seat}
use Rattle.cpt_index.specs.declared.index.Index.{Index}
use Rattle.cpt_index.specs.Lists.{Lists}
use Rattle.cpt_index.specs.Rows.{AreRowsOf, HasSpares, contents, places, row_at}

-- what each token of a sheet stands for
abbrev pub kinds_of : Sheet → List Kind
kinds_of s = map (λ z. z.kind) s.tokens

-- what the token of a number stands for, and the start past the end
abbrev pub nth_kind : List Kind → ℕ → Kind
nth_kind ks x = slice_index_or ks x Start

-- a token of these kinds, or an outside action, that adds the atom
abbrev pub OffersAmong : TaskShape → List Kind → ℕ → Cand → Type 0
OffersAmong t ks p (Tok y) = (y < length ks) × Adds t (nth_kind ks y) p
OffersAmong t ks p (Out a) = (a < length t.actions) × Adds t (Act a) p

-- a token of these kinds that deletes the atom
abbrev pub DeletesAmong : TaskShape → List Kind → ℕ → ℕ → Type 0
DeletesAmong t ks p d = Deletes t (nth_kind ks d) p

-- a token of these kinds that needs the atom
abbrev pub NeedsAmong : TaskShape → List Kind → ℕ → ℕ → Type 0
NeedsAmong t ks p x = Contains (needs_of t (nth_kind ks x)) p

-- a token of these kinds that interferes with the action
abbrev pub ClashesAmong : TaskShape → List Kind → ℕ → ℕ → Type 0
ClashesAmong t ks a z = Clash t (nth_kind ks z) (Act a)

-- who adds an atom, and which tokens delete and need it
pub record AtomLists : Type 0 where
  pub offers : List Cand
  pub deleters : List ℕ
  pub consumers : List ℕ

-- the lists of an atom are those of the tokens of these kinds
pub record IsListsOf (t : TaskShape) (ks : List Kind) (p : ℕ) (l : AtomLists) : Type 0 where
  pub offers : Lists (OffersAmong t ks p) l.offers
  pub deleters : Lists (DeletesAmong t ks p) l.deleters
  pub consumers : Lists (NeedsAmong t ks p) l.consumers

-- the lists of an atom, which are empty past the last one
abbrev pub lists_at : Index → ℕ → AtomLists
lists_at i p = record { offers = row_at (contents i.offers) p; deleters = row_at (contents i.deleters) p; consumers = row_at (contents i.consumers) p }

-- the actions that interfere with it, each once
pub record IsFoesOf (t : TaskShape) (k : Kind) (foes : List ℕ) : Type 0 where
  pub increasing : IsStrictlyIncreasing foes
  pub each : Lists (λ a. Clash t k (Act a)) foes

-- its actions are those that interfere with it
abbrev pub IsSeat : TaskShape → Seat → Type 0
IsSeat t z = IsFoesOf t z.kind z.foes

-- what the tokens of an index stand for
abbrev pub kinds_in : Index → List Kind
kinds_in i = map (λ z. z.kind) i.seats.items

-- of each atom those of these outside actions that add it, ascending
abbrev pub IsOutside : TaskShape → List Action → List (List Cand) → Type 0
IsOutside t acts rows = AreRowsOf (length t.atoms) (λ p. []) Out (λ a. a.add) acts rows

-- the outside actions that add the atom, ascending
abbrev pub outside : TaskShape → ℕ → List Cand
outside t p = map Out (places (λ a. is_in p a.add) 0 t.actions)

-- the lists are those of the tokens of these kinds, ascending; among those who add an atom the outside actions are first
pub record IsIndexOf (t : TaskShape) (ks : List Kind) (i : Index) : Type 0 where
  pub bounds : InBounds t
  pub kinds : kinds_in i ≡ ks
  pub seats : All (IsSeat t) i.seats.items
  pub offers : AreRowsOf (length t.atoms) (outside t) Tok (λ z. adds_of t z.kind) i.seats.items (contents i.offers)
  pub deleters : AreRowsOf (length t.atoms) (λ p. []) (λ x. x) (λ z. deletes_of t z.kind) i.seats.items (contents i.deleters)
  pub consumers : AreRowsOf (length t.atoms) (λ p. []) (λ x. x) (λ z. needs_of t z.kind) i.seats.items (contents i.consumers)
  pub rivals : AreRowsOf (length t.actions) (λ p. []) (λ x. x) (λ z. z.foes) i.seats.items (contents i.rivals)

-- the lists and the tokens stay
pub record HasSameRows (old new : Index) : Type 0 where
  pub seats : new.seats ≡ old.seats
  pub offers : contents new.offers ≡ contents old.offers
  pub deleters : contents new.deleters ≡ contents old.deleters
  pub consumers : contents new.consumers ≡ contents old.consumers
  pub rivals : contents new.rivals ≡ contents old.rivals

-- there are lists for each atom and for these actions
pub record HasRows (t : TaskShape) (foes : List ℕ) (i : Index) : Type 0 where
  pub bounds : InBounds t
  pub offers : length i.offers ≡ length t.atoms
  pub deleters : length i.deleters ≡ length t.atoms
  pub consumers : length i.consumers ≡ length t.atoms
  pub rivals : All (λ a. a < length i.rivals) foes

-- the token has room in each list that it joins, and among the tokens
pub record HasRoomFor (t : TaskShape) (i : Index) (z : Seat) : Type 0 where
  pub seats : vec_len i.seats < vec_capacity i.seats
  pub offers : HasSpares i.offers (adds_of t z.kind)
  pub deleters : HasSpares i.deleters (deletes_of t z.kind)
  pub consumers : HasSpares i.consumers (needs_of t z.kind)
  pub rivals : HasSpares i.rivals z.foes

-- of those of which Q holds the list has exactly those of which P holds
pub record Among {A : Type 0} (P Q : A → Type 0) (xs : List A) : Type 0 where
  pub sound : All P xs
  pub complete : (x : A) → Q x → P x → Contains xs x
