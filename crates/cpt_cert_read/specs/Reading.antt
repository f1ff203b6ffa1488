-- Reading a line word by word.
use Rattle.std.specs.Prelude.{ℕ, ◌==◌, nat_lt, not, Bool, true, false, ◌&&◌, ◌||◌, if◌then◌else◌, List, [], ◌∷◌, ◌++◌, length, Option, None, Some, option_map, codes, slice_index_or}
use Rattle.std.specs.Option.{option_and_then}
use Rattle.std.specs.Str.{bytes_eq, all_ascii_digits}
use Rattle.std.specs.Str.Parse.{digits_value}
use Rattle.cpt_task.specs.declared.span.Span.{Span}
use Rattle.cpt_task.specs.declared.span.Span.TheVariants.{At, Never}
use Rattle.cpt_sheet.specs.declared.data.Cand.{Cand}
use Rattle.cpt_sheet.specs.declared.data.Cand.TheVariants.{Tok, Out}
use Rattle.cpt_sheet.specs.declared.data.Decision.{Decision}
use Rattle.cpt_sheet.specs.declared.data.Decision.TheVariants.{Join, Bring, Before}
use Rattle.cpt_sheet.specs.declared.data.Flaw.{Flaw}
use Rattle.cpt_sheet.specs.declared.data.Flaw.TheVariants.{Threat, OpenNeed, Clash}
use Rattle.cpt_sheet.specs.declared.data.Step.{Step}
use Rattle.cpt_sheet.specs.declared.data.Step.TheVariants.{R1, R2, R3, R4, R5, R6, R7, R8, R9After, R9Ahead, R10, R11After, R11Ahead, R12After, R12Ahead, R13}
use Rattle.cpt_sheet.specs.declared.data.NodeLine.{NodeLine}
use Rattle.cpt_sheet.specs.declared.data.NodeLine.TheVariants.{Child, Narrow, Close, Branch, OpenNode}
use Rattle.cpt_cert_form.specs.declared.forms.Version.{Version}
use Rattle.cpt_cert_form.specs.declared.forms.Version.TheVariants.{One, Two}
use Rattle.cpt_cert_form.specs.declared.forms.Claim.{Claim}
use Rattle.cpt_cert_form.specs.declared.forms.Claim.TheVariants as claims
use Rattle.cpt_cert_form.specs.declared.forms.Run.{Run}
use Rattle.cpt_cert_form.specs.declared.forms.CertLine.{CertLine}
use Rattle.cpt_cert_form.specs.declared.forms.CertLine.TheVariants as lines
use Rattle.cpt_cert_form.specs.Forms.{capped}
use Rattle.cpt_cert_form.specs.Text.{same_span}

infixl 10 ◌>>=◌
-- one step of reading after another
abbrev pub ◌>>=◌ : {A B : Type 0} → Option A → (A → Option B) → Option B
o >>= f = option_and_then f o

-- bytes put before the first word
abbrev pub glue : List ℕ → List (List ℕ) → List (List ℕ)
glue front [] = front ∷ []
glue front (word ∷ words) = (front ++ word) ∷ words

-- the words of a line: what stands between its spaces
abbrev pub words_in : List ℕ → List (List ℕ)
words_in [] = [] ∷ []
words_in (b ∷ bs) = if b == 32 then [] ∷ words_in bs else glue (b ∷ []) (words_in bs)

-- what stands before and behind the first such byte
abbrev pub cut : ℕ → List ℕ → Option (List ℕ × List ℕ)
cut c [] = None
cut c (b ∷ bs) = if b == c then Some ([], bs) else option_map (λ (p : List ℕ × List ℕ). (b ∷ p.0, p.1)) (cut c bs)

-- digits, no more than 16 and the first of them no 0 that others follow
abbrev pub is_numeral : List ℕ → Bool
is_numeral word = nat_lt 0 (length word) && (nat_lt (length word) 17 && ((length word == 1 || not (slice_index_or word 0 0 == 48)) && all_ascii_digits word))

-- a word that is a number
unfoldable pub number_in : List ℕ → Option ℕ
number_in word = if is_numeral word then Some (digits_value 10 word) else None

-- a number that is at most the given one
unfoldable pub number_to : ℕ → List ℕ → Option ℕ
number_to most word = do
  n ← number_in word
  if nat_lt most n then None else Some n

-- the number of a token, an atom or an action
unfoldable pub id_in : List ℕ → Option ℕ
id_in word = option_map capped (number_in word)

-- a moment: a number, or `never`
unfoldable pub span_in : List ℕ → Option Span
span_in word = if bytes_eq word (codes "never") then Some Never else option_map At (number_in word)

-- a candidate: `t` and the number of a token, or `o` and that of an action
unfoldable pub cand_in : List ℕ → Option Cand
cand_in [] = None
cand_in (b ∷ bs) = if b == 116 then option_map Tok (id_in bs) else if b == 111 then option_map Out (id_in bs) else None

-- whether the word is after, and not ahead
unfoldable pub is_after_in : List ℕ → Option Bool
is_after_in word = if bytes_eq word (codes "after") then Some true else if bytes_eq word (codes "ahead") then Some false else None

-- `o` and the number of an action
unfoldable pub out_in : List ℕ → Option ℕ
out_in [] = None
out_in (b ∷ bs) = if b == 111 then id_in bs else None

-- nothing is left
abbrev pub nothing_in : {X : Type 0} → X → List (List ℕ) → Option X
nothing_in x [] = Some x
nothing_in x (word ∷ words) = None

-- the words, where they are so many
abbrev pub only_in : List (List ℕ) → Option (List ℕ)
only_in [] = None
only_in (one ∷ []) = Some one
only_in (one ∷ two ∷ words) = None

-- two words, and no more
abbrev pub two_in : List (List ℕ) → Option (List ℕ × List ℕ)
two_in [] = None
two_in (one ∷ []) = None
two_in (one ∷ two ∷ []) = Some (one, two)
two_in (one ∷ two ∷ three ∷ words) = None

-- three words, and no more
abbrev pub three_in : List (List ℕ) → Option (List ℕ × List ℕ × List ℕ)
three_in [] = None
three_in (one ∷ []) = None
three_in (one ∷ two ∷ []) = None
three_in (one ∷ two ∷ three ∷ []) = Some (one, two, three)
three_in (one ∷ two ∷ three ∷ four ∷ words) = None

-- one word, which is read so
unfoldable pub alone_number_in : List (List ℕ) → Option ℕ
alone_number_in ws = do
  word ← only_in ws
  number_in word

-- one word: a number of at most the limit
unfoldable pub alone_limited_in : ℕ → List (List ℕ) → Option ℕ
alone_limited_in most ws = do
  word ← only_in ws
  number_to most word

-- one word: a moment
unfoldable pub alone_span_in : List (List ℕ) → Option Span
alone_span_in ws = do
  word ← only_in ws
  span_in word

-- one word: a candidate
unfoldable pub alone_cand_in : List (List ℕ) → Option Cand
alone_cand_in ws = do
  word ← only_in ws
  cand_in word

-- one word: an outside action
unfoldable pub alone_out_in : List (List ℕ) → Option ℕ
alone_out_in ws = do
  word ← only_in ws
  out_in word

-- two words, of which each is read so
unfoldable pub cand_id_in : List (List ℕ) → Option (Cand × ℕ)
cand_id_in ws = do
  two ← two_in ws
  c ← cand_in two.0
  n ← id_in two.1
  Some (c, n)

-- a number, and whether what is told comes after or ahead
unfoldable pub id_side_in : List (List ℕ) → Option (ℕ × Bool)
id_side_in ws = do
  two ← two_in ws
  n ← id_in two.0
  after ← is_after_in two.1
  Some (n, after)

-- whether what is told comes after or ahead, and a moment
unfoldable pub side_span_in : List (List ℕ) → Option (Bool × Span)
side_span_in ws = do
  two ← two_in ws
  after ← is_after_in two.0
  v ← span_in two.1
  Some (after, v)

-- three words, of which each is read so
unfoldable pub id_side_span_in : List (List ℕ) → Option (ℕ × Bool × Span)
id_side_span_in ws = do
  three ← three_in ws
  n ← id_in three.0
  after ← is_after_in three.1
  v ← span_in three.2
  Some (n, after, v)

-- two numbers of tokens, atoms or actions
unfoldable pub two_ids_in : List (List ℕ) → Option (ℕ × ℕ)
two_ids_in ws = do
  two ← two_in ws
  x ← id_in two.0
  y ← id_in two.1
  Some (x, y)

-- three numbers of tokens, atoms or actions
unfoldable pub three_ids_in : List (List ℕ) → Option (ℕ × ℕ × ℕ)
three_ids_in ws = do
  three ← three_in ws
  x ← id_in three.0
  y ← id_in three.1
  z ← id_in three.2
  Some (x, y, z)

-- two numbers
unfoldable pub two_numbers_in : List (List ℕ) → Option (ℕ × ℕ)
two_numbers_in ws = do
  two ← two_in ws
  x ← number_in two.0
  y ← number_in two.1
  Some (x, y)

-- steps of the rules that tell the side
abbrev pub r9 : ℕ → ℕ → ℕ × Bool → Step
r9 x p (d, true) = R9After x p d
r9 x p (d, false) = R9Ahead x p d

-- a step of rule 11: after, or ahead
abbrev pub r11 : ℕ → ℕ → ℕ × Bool × Span → Step
r11 x p (a, true, v) = R11After x p a v
r11 x p (a, false, v) = R11Ahead x p a v

-- a step of rule 12: after, or ahead
abbrev pub r12 : ℕ → ℕ → Bool × Span → Step
r12 x a (true, v) = R12After x a v
r12 x a (false, v) = R12Ahead x a v

-- a step by the number of its rule, the first two numbers and the words behind them
unfoldable pub step_in : ℕ → ℕ → ℕ → List (List ℕ) → Option Step
step_in rule x p ws =
    if rule == 1 then option_map (λ v. R1 x p v) (alone_span_in ws)
    else if rule == 2 then option_map (λ v. R2 x p v) (alone_span_in ws)
    else if rule == 3 then nothing_in (R3 x p) ws
    else if rule == 4 then option_map (λ v. R4 x p v) (alone_span_in ws)
    else if rule == 5 then option_map (λ c. R5 x p c) (alone_cand_in ws)
    else if rule == 6 then nothing_in (R6 x p) ws
    else if rule == 7 then option_map (λ a. R7 x p a) (alone_out_in ws)
    else if rule == 8 then option_map (λ (c : Cand × ℕ). R8 x p c.0 c.1) (cand_id_in ws)
    else if rule == 9 then option_map (r9 x p) (id_side_in ws)
    else if rule == 10 then option_map (λ v. R10 x p v) (alone_span_in ws)
    else if rule == 11 then option_map (r11 x p) (id_side_span_in ws)
    else if rule == 12 then option_map (r12 x p) (side_span_in ws)
    else if rule == 13 then option_map (λ (c : Cand × ℕ). R13 x p c.0 c.1) (cand_id_in ws)
    else None

-- a line that begins with a number: an occurrence or a step
unfoldable pub numbered_in : ℕ → List (List ℕ) → Option CertLine
numbered_in n [] = None
numbered_in n (word ∷ []) = option_map (λ act. lines.Item n act) (number_in word)
numbered_in n (one ∷ two ∷ ws) = do
  x ← id_in one
  p ← id_in two
  option_map (λ step. lines.Node (Narrow step)) (step_in n x p ws)

-- the join with these numbers
abbrev pub join_of : ℕ × ℕ × ℕ → Decision
join_of (x, p, y) = Join x p y

-- the decision that brings a token, with these numbers
abbrev pub bring_of : ℕ × ℕ × ℕ → Decision
bring_of (x, p, a) = Bring x p a

-- the order of these tokens
abbrev pub before_of : ℕ × ℕ → Decision
before_of (x, y) = Before x y

-- the threat with these numbers
abbrev pub threat_of : ℕ × ℕ × ℕ → Flaw
threat_of (x, p, d) = Threat x p d

-- the open need with these numbers
abbrev pub open_of : ℕ × ℕ → Flaw
open_of (x, p) = OpenNeed x p

-- the clash of these tokens
abbrev pub clash_of : ℕ × ℕ → Flaw
clash_of (x, y) = Clash x y

-- a decision: its kind, then its numbers
unfoldable pub decision_in : List (List ℕ) → Option Decision
decision_in [] = None
decision_in (kind ∷ ws) =
    if bytes_eq kind (codes "join") then option_map join_of (three_ids_in ws)
    else if bytes_eq kind (codes "bring") then option_map bring_of (three_ids_in ws)
    else if bytes_eq kind (codes "before") then option_map before_of (two_ids_in ws)
    else None

-- a flaw: its kind, then its numbers
unfoldable pub flaw_in : List (List ℕ) → Option Flaw
flaw_in [] = None
flaw_in (kind ∷ ws) =
    if bytes_eq kind (codes "threat") then option_map threat_of (three_ids_in ws)
    else if bytes_eq kind (codes "open") then option_map open_of (two_ids_in ws)
    else if bytes_eq kind (codes "clash") then option_map clash_of (two_ids_in ws)
    else None

-- a version: `1` or `2`
unfoldable pub version_in : List (List ℕ) → Option Version
version_in ws = do
  word ← only_in ws
  if bytes_eq word (codes "1") then Some One else if bytes_eq word (codes "2") then Some Two else None

-- from 1 to 4,294,967,295 nodes
unfoldable pub spent_in : List (List ℕ) → Option Claim
spent_in ws = do
  two ← two_in ws
  refuted ← number_to 999999 two.0
  nodes ← number_to 4294967295 two.1
  if nodes == 0 then None else Some (claims.Spent refuted nodes)

-- a claim: its kind, then its numbers, which keep their limits
unfoldable pub claim_in : List (List ℕ) → Option Claim
claim_in [] = None
claim_in (kind ∷ ws) =
    if bytes_eq kind (codes "optimal") then option_map (λ m. claims.Optimal m) (alone_limited_in 1000000 ws)
    else if bytes_eq kind (codes "none-up-to") then option_map (λ m. claims.NoneUpTo m) (alone_limited_in 1000000 ws)
    else if bytes_eq kind (codes "none") then nothing_in claims.Never ws
    else if bytes_eq kind (codes "spent") then spent_in ws
    else None

-- a line of a tree that begins with a word
unfoldable pub node_in : List ℕ → List (List ℕ) → Option NodeLine
node_in head ws =
    if bytes_eq head (codes "child") then option_map (λ d. Child d) (decision_in ws)
    else if bytes_eq head (codes "close") then nothing_in Close ws
    else if bytes_eq head (codes "branch") then option_map (λ f. Branch f) (flaw_in ws)
    else if bytes_eq head (codes "open") then nothing_in OpenNode ws
    else None

-- the line with these numbers of atoms and actions
abbrev pub sizes_of : ℕ × ℕ → CertLine
sizes_of (atoms, actions) = lines.Sizes atoms actions

-- a line that begins with a word, and is no row of a table
unfoldable pub worded_in : List ℕ → List (List ℕ) → Option CertLine
worded_in head ws =
    if bytes_eq head (codes "cpt") then option_map (λ v. lines.First v) (version_in ws)
    else if bytes_eq head (codes "claim") then option_map (λ c. lines.Claimed c) (claim_in ws)
    else if bytes_eq head (codes "task") then option_map sizes_of (two_numbers_in ws)
    else if bytes_eq head (codes "plan") then option_map (λ k. lines.Plan k) (alone_limited_in 4294967295 ws)
    else if bytes_eq head (codes "pairs") then nothing_in lines.Pairs ws
    else if bytes_eq head (codes "dists") then nothing_in lines.Dists ws
    else if bytes_eq head (codes "tree") then option_map (λ b. lines.Tree b) (alone_number_in ws)
    else if bytes_eq head (codes "open-tree") then option_map (λ b. lines.OpenTree b) (alone_number_in ws)
    else if bytes_eq head (codes "end") then nothing_in lines.End ws
    else option_map (λ l. lines.Node l) (node_in head ws)

-- a value of a row, of at most 15 digits
abbrev pub row_span : Span → Option Span
row_span (At n) = if nat_lt n 1000000000000000 then Some (At n) else None
row_span Never = Some Never

-- a value of a row: a moment that rows may have
unfoldable pub row_span_in : List ℕ → Option Span
row_span_in word = do
  v ← span_in word
  row_span v

-- a value alone, or a value and how often it stands: from 2 to 2,048 times
unfoldable pub run_by : List ℕ → Option (List ℕ × List ℕ) → Option Run
run_by word None = do
  v ← row_span_in word
  Some (record { value = v; count = 1 })
run_by word (Some (value, count)) = do
  v ← row_span_in value
  n ← number_to 2048 count
  if nat_lt n 2 then None else Some (record { value = v; count = n })

-- a value, and behind a star how often it stands there
unfoldable pub run_in : List ℕ → Option Run
run_in word = run_by word (cut 42 word)

-- the runs of a row, a word each
unfoldable pub runs_in : List (List ℕ) → Option (List Run)
runs_in [] = Some []
runs_in (word ∷ words) = do
  run ← run_in word
  runs ← runs_in words
  Some (run ∷ runs)

-- the tests of a row's two forms
abbrev pub are_alone : List Run → Bool
are_alone [] = true
are_alone (run ∷ runs) = (run.count == 1) && are_alone runs

-- no two runs one behind the other have the same value
abbrev pub are_runs : List Run → Bool
are_runs [] = true
are_runs (run ∷ []) = true
are_runs (run ∷ next ∷ runs) = not (same_span run.value next.value) && are_runs (next ∷ runs)

-- a row of either version
unfoldable pub row_in : List (List ℕ) → Option (List Run)
row_in words = do
  runs ← runs_in words
  if are_alone runs || are_runs runs then Some runs else None

-- a line that begins with a word
unfoldable pub named_in : List ℕ → List (List ℕ) → Option CertLine
named_in head ws =
    if bytes_eq head (codes "h") then option_map (λ runs. lines.PairRow runs) (row_in ws)
    else if bytes_eq head (codes "d") then option_map (λ runs. lines.DistRow runs) (row_in ws)
    else worded_in head ws

-- a line by its first word: a number, or a name
abbrev pub line_by : Option ℕ → List ℕ → List (List ℕ) → Option CertLine
line_by (Some n) head ws = numbered_in n ws
line_by None head ws = named_in head ws

-- a line by its words
unfoldable pub line_in : List (List ℕ) → Option CertLine
line_in [] = None
line_in (head ∷ ws) = line_by (number_in head) head ws
