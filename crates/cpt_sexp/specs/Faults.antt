use Rattle.std.specs.Prelude.{suc, ◌≡◌, ℕ, ◌-◌, ◌<◌, ◌≤◌, ◌==◌, false, if◌then◌else◌, List, [], ◌∷◌, length, take, slice_index}
use Rattle.cpt_sexp.specs.declared.item.SexpError.{SexpError}
use Rattle.cpt_sexp.specs.declared.item.SexpError.TheVariants.{BadByte, Unopened, Unclosed, Deep, Memory}
use Rattle.cpt_sexp.specs.Bytes.{is_blank, is_graphic, plain}

-- how many groups are open after a byte, where so many were before it; what closes no group changes nothing
abbrev pub depth_over : ℕ → ℕ → ℕ
depth_over depth b = if b == 40 then suc depth else if b == 41 then depth - 1 else depth

-- how many groups are open after bytes, where so many were before them
abbrev pub depth_after : ℕ → List ℕ → ℕ
depth_after depth [] = depth
depth_after depth (b ∷ bs) = depth_after (depth_over depth b) bs

-- how many groups are open before the byte at a place
abbrev pub depth_at : List ℕ → ℕ → ℕ
depth_at bytes place = depth_after 0 (take place bytes)

-- at the place a group is opened, and it is open to the end of the text
pub record IsLeftOpen (bytes : List ℕ) (place : ℕ) : Type 0 where
  pub opens : slice_index bytes place ≡ 40
  pub open_after : (k : ℕ) → place < k → k ≤ length bytes → depth_at bytes place < depth_at bytes k

-- the fault stands in a text whose comments are blank: a byte that may not stand there, a closing parenthesis
-- where no group is open, an opening one inside 64 groups, or the first one whose group is left open
abbrev pub IsFault : List ℕ → SexpError → Type 0
IsFault bytes (BadByte at) =
    (at < length bytes) × (is_blank (slice_index bytes at) ≡ false) × (is_graphic (slice_index bytes at) ≡ false)
IsFault bytes (Unopened at) = (slice_index bytes at ≡ 41) × (depth_at bytes at ≡ 0)
IsFault bytes (Deep at) = (slice_index bytes at ≡ 40) × (64 ≤ depth_at bytes at)
IsFault bytes (Unclosed at) = IsLeftOpen bytes at × ((k : ℕ) → k < at → IsLeftOpen bytes k → ⊥)
IsFault bytes Memory = ⊥

-- the byte at which a fault stands
abbrev pub byte_of : SexpError → ℕ
byte_of (BadByte at) = at
byte_of (Unopened at) = at
byte_of (Unclosed at) = at
byte_of (Deep at) = at
byte_of Memory = 0

-- the fault stands in the text, and none stands at a lesser byte
pub record IsFirstFault (text : List ℕ) (fault : SexpError) : Type 0 where
  pub stands : IsFault (plain text) fault
  pub least : (other : SexpError) → IsFault (plain text) other → byte_of fault ≤ byte_of other
