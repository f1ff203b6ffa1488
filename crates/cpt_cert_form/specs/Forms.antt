use Rattle.std.specs.Prelude.{◌≡◌, ◌≢◌, ℕ, ◌<◌, ◌≤◌, ◌^◌, ◌⊎◌, ◌==◌, min, if◌then◌else◌, List, [], ◌∷◌, ◌++◌, length, map, codes, All}
use Rattle.std.specs.List.{flat_map}
use Rattle.std.specs.Fmt.{decimal}
use Rattle.cpt_task.specs.declared.span.Span.{Span}
use Rattle.cpt_task.specs.declared.span.Span.TheVariants.{At, Never}
use Rattle.cpt_sheet.specs.declared.data.Cand.{Cand}
use Rattle.cpt_sheet.specs.declared.data.Cand.TheVariants.{Tok, Out}
use Rattle.cpt_sheet.specs.declared.data.Decision.{Decision}
use Rattle.cpt_sheet.specs.declared.data.Decision.TheVariants.{Join, Bring, Before}
use Rattle.cpt_sheet.specs.declared.data.Flaw.{Flaw}
use Rattle.cpt_sheet.specs.declared.data.Flaw.TheVariants.{Threat, OpenNeed, Clash}
use Rattle.cpt_sheet.specs.declared.data.Step.{Step}
use Rattle.cpt_sheet.specs.declared.data.Step.TheVariants.{R1, R2, R3, R4, R5, R6, R7, R8, R9After, R9Ahead, R10, R11After, R11Ahead, R12After, R12Ahead, R13}
use Rattle.cpt_sheet.specs.declared.data.NodeLine.{NodeLine}
use Rattle.cpt_sheet.specs.declared.data.NodeLine.TheVariants.{Child, Narrow, Close, Branch, OpenNode}
use Rattle.cpt_cert_form.specs.declared.forms.Version.{Version}
use Rattle.cpt_cert_form.specs.declared.forms.Version.TheVariants.{One, Two}
use Rattle.cpt_cert_form.specs.declared.forms.Claim.{Claim}
use Rattle.cpt_cert_form.specs.declared.forms.Claim.TheVariants as claims
use Rattle.cpt_cert_form.specs.declared.forms.Run.{Run}
use Rattle.cpt_cert_form.specs.declared.forms.CertLine.{CertLine}
use Rattle.cpt_cert_form.specs.declared.forms.CertLine.TheVariants as lines

-- the words of a line: a number is its decimal digits
abbrev pub span_word : Span → List ℕ
span_word (At n) = decimal n
span_word Never = codes "never"

-- the word of a version
abbrev pub version_word : Version → List ℕ
version_word One = codes "1"
version_word Two = codes "2"

-- a candidate: `t` and the number of a token, or `o` and that of an action
abbrev pub cand_word : Cand → List ℕ
cand_word (Tok n) = codes "t" ++ decimal n
cand_word (Out n) = codes "o" ++ decimal n

-- a value, and behind it how often it stands there, where that is more than once
abbrev pub run_word : Run → List ℕ
run_word run = if run.count == 1 then span_word run.value else span_word run.value ++ codes "*" ++ decimal run.count

-- the words of a claim, behind the word `claim`
abbrev pub claim_words : Claim → List (List ℕ)
claim_words (claims.Optimal m) = codes "optimal" ∷ decimal m ∷ []
claim_words (claims.NoneUpTo m) = codes "none-up-to" ∷ decimal m ∷ []
claim_words claims.Never = codes "none" ∷ []
claim_words (claims.Spent refuted nodes) = codes "spent" ∷ decimal refuted ∷ decimal nodes ∷ []

-- the words of a decision: its kind, then its numbers
abbrev pub decision_words : Decision → List (List ℕ)
decision_words (Join x p y) = codes "join" ∷ decimal x ∷ decimal p ∷ decimal y ∷ []
decision_words (Bring x p a) = codes "bring" ∷ decimal x ∷ decimal p ∷ decimal a ∷ []
decision_words (Before x y) = codes "before" ∷ decimal x ∷ decimal y ∷ []

-- the words of a flaw: its kind, then its numbers
abbrev pub flaw_words : Flaw → List (List ℕ)
flaw_words (Threat x p d) = codes "threat" ∷ decimal x ∷ decimal p ∷ decimal d ∷ []
flaw_words (OpenNeed x p) = codes "open" ∷ decimal x ∷ decimal p ∷ []
flaw_words (Clash x y) = codes "clash" ∷ decimal x ∷ decimal y ∷ []

-- the number of the rule, and what it is used on
abbrev pub step_words : Step → List (List ℕ)
step_words (R1 x y v) = codes "1" ∷ decimal x ∷ decimal y ∷ span_word v ∷ []
step_words (R2 x y v) = codes "2" ∷ decimal x ∷ decimal y ∷ span_word v ∷ []
step_words (R3 x y) = codes "3" ∷ decimal x ∷ decimal y ∷ []
step_words (R4 x p v) = codes "4" ∷ decimal x ∷ decimal p ∷ span_word v ∷ []
step_words (R5 x p c) = codes "5" ∷ decimal x ∷ decimal p ∷ cand_word c ∷ []
step_words (R6 x p) = codes "6" ∷ decimal x ∷ decimal p ∷ []
step_words (R7 x p a) = codes "7" ∷ decimal x ∷ decimal p ∷ cand_word (Out a) ∷ []
step_words (R8 x p c d) = codes "8" ∷ decimal x ∷ decimal p ∷ cand_word c ∷ decimal d ∷ []
step_words (R9After x p d) = codes "9" ∷ decimal x ∷ decimal p ∷ decimal d ∷ codes "after" ∷ []
step_words (R9Ahead x p d) = codes "9" ∷ decimal x ∷ decimal p ∷ decimal d ∷ codes "ahead" ∷ []
step_words (R10 a p v) = codes "10" ∷ decimal a ∷ decimal p ∷ span_word v ∷ []
step_words (R11After x p a v) = codes "11" ∷ decimal x ∷ decimal p ∷ decimal a ∷ codes "after" ∷ span_word v ∷ []
step_words (R11Ahead x p a v) = codes "11" ∷ decimal x ∷ decimal p ∷ decimal a ∷ codes "ahead" ∷ span_word v ∷ []
step_words (R12After x a v) = codes "12" ∷ decimal x ∷ decimal a ∷ codes "after" ∷ span_word v ∷ []
step_words (R12Ahead x a v) = codes "12" ∷ decimal x ∷ decimal a ∷ codes "ahead" ∷ span_word v ∷ []
step_words (R13 x p c q) = codes "13" ∷ decimal x ∷ decimal p ∷ cand_word c ∷ decimal q ∷ []

-- the words of a line of a tree
abbrev pub node_words : NodeLine → List (List ℕ)
node_words (Child d) = codes "child" ∷ decision_words d
node_words (Narrow step) = step_words step
node_words Close = codes "close" ∷ []
node_words (Branch flaw) = codes "branch" ∷ flaw_words flaw
node_words OpenNode = codes "open" ∷ []

-- the words of a line
abbrev pub line_words : CertLine → List (List ℕ)
line_words (lines.First v) = codes "cpt" ∷ version_word v ∷ []
line_words (lines.Claimed c) = codes "claim" ∷ claim_words c
line_words (lines.Sizes atoms actions) = codes "task" ∷ decimal atoms ∷ decimal actions ∷ []
line_words (lines.Plan k) = codes "plan" ∷ decimal k ∷ []
line_words (lines.Item start act) = decimal start ∷ decimal act ∷ []
line_words lines.Pairs = codes "pairs" ∷ []
line_words (lines.PairRow runs) = codes "h" ∷ map run_word runs
line_words lines.Dists = codes "dists" ∷ []
line_words (lines.DistRow runs) = codes "d" ∷ map run_word runs
line_words (lines.Tree b) = codes "tree" ∷ decimal b ∷ []
line_words (lines.OpenTree b) = codes "open-tree" ∷ decimal b ∷ []
line_words (lines.Node line) = node_words line
line_words lines.End = codes "end" ∷ []
line_words lines.Strange = []

-- words with one space between two
abbrev pub joined : List (List ℕ) → List ℕ
joined [] = []
joined (word ∷ words) = word ++ flat_map (λ w. 32 ∷ w) words

-- the line without its line feed
abbrev pub spelled : CertLine → List ℕ
spelled line = joined (line_words line)

-- a number of at most 16 digits
abbrev pub IsShort : ℕ → Type 0
IsShort n = n < 10 ^ 16

-- a moment of at most 16 digits, or never
abbrev pub IsShortSpan : Span → Type 0
IsShortSpan (At n) = IsShort n
IsShortSpan Never = Unit {0}

-- a candidate whose number has at most 16 digits
abbrev pub IsShortCand : Cand → Type 0
IsShortCand (Tok n) = IsShort n
IsShortCand (Out n) = IsShort n

-- the numbers of a claim keep their limits
abbrev pub IsClaim : Claim → Type 0
IsClaim (claims.Optimal m) = m ≤ 1000000
IsClaim (claims.NoneUpTo m) = m ≤ 1000000
IsClaim claims.Never = Unit {0}
IsClaim (claims.Spent refuted nodes) = (refuted ≤ 999999) × (1 ≤ nodes) × (nodes ≤ 4294967295)

-- a value of at most 15 digits, from 1 to 2,048 times
abbrev pub IsRowSpan : Span → Type 0
IsRowSpan (At n) = n < 10 ^ 15
IsRowSpan Never = Unit {0}

-- a value of a row, from 1 to 2,048 times
pub record IsRun (run : Run) : Type 0 where
  pub value : IsRowSpan run.value
  pub some : 1 ≤ run.count
  pub few : run.count ≤ 2048

-- two neighbours have different values
abbrev pub AreRuns : List Run → Type 0
AreRuns [] = Unit {0}
AreRuns (run ∷ []) = Unit {0}
AreRuns (run ∷ next ∷ runs) = (run.value ≢ next.value) × AreRuns (next ∷ runs)

-- each value stands alone
abbrev pub AreAlone : List Run → Type 0
AreAlone runs = All (λ (run : Run). run.count ≡ 1) runs

-- a row of the first version, or one of the second
pub record IsRow (runs : List Run) : Type 0 where
  pub all : All IsRun runs
  pub form : AreAlone runs ⊎ AreRuns runs

-- each number of the decision has at most 16 digits
abbrev pub IsShortDecision : Decision → Type 0
IsShortDecision (Join x p y) = IsShort x × IsShort p × IsShort y
IsShortDecision (Bring x p a) = IsShort x × IsShort p × IsShort a
IsShortDecision (Before x y) = IsShort x × IsShort y

-- each number of the flaw has at most 16 digits
abbrev pub IsShortFlaw : Flaw → Type 0
IsShortFlaw (Threat x p d) = IsShort x × IsShort p × IsShort d
IsShortFlaw (OpenNeed x p) = IsShort x × IsShort p
IsShortFlaw (Clash x y) = IsShort x × IsShort y

-- each number of the step has at most 16 digits
abbrev pub IsShortStep : Step → Type 0
IsShortStep (R1 x y v) = IsShort x × IsShort y × IsShortSpan v
IsShortStep (R2 x y v) = IsShort x × IsShort y × IsShortSpan v
IsShortStep (R3 x y) = IsShort x × IsShort y
IsShortStep (R4 x p v) = IsShort x × IsShort p × IsShortSpan v
IsShortStep (R5 x p c) = IsShort x × IsShort p × IsShortCand c
IsShortStep (R6 x p) = IsShort x × IsShort p
IsShortStep (R7 x p a) = IsShort x × IsShort p × IsShort a
IsShortStep (R8 x p c d) = IsShort x × IsShort p × IsShortCand c × IsShort d
IsShortStep (R9After x p d) = IsShort x × IsShort p × IsShort d
IsShortStep (R9Ahead x p d) = IsShort x × IsShort p × IsShort d
IsShortStep (R10 a p v) = IsShort a × IsShort p × IsShortSpan v
IsShortStep (R11After x p a v) = IsShort x × IsShort p × IsShort a × IsShortSpan v
IsShortStep (R11Ahead x p a v) = IsShort x × IsShort p × IsShort a × IsShortSpan v
IsShortStep (R12After x a v) = IsShort x × IsShort a × IsShortSpan v
IsShortStep (R12Ahead x a v) = IsShort x × IsShort a × IsShortSpan v
IsShortStep (R13 x p c q) = IsShort x × IsShort p × IsShortCand c × IsShort q

-- each number of the line of a tree has at most 16 digits
abbrev pub IsShortNode : NodeLine → Type 0
IsShortNode (Child d) = IsShortDecision d
IsShortNode (Narrow step) = IsShortStep step
IsShortNode Close = Unit {0}
IsShortNode (Branch flaw) = IsShortFlaw flaw
IsShortNode OpenNode = Unit {0}

-- the line has a form of one of the two versions, and its numbers keep their limits
abbrev pub IsWritten : CertLine → Type 0
IsWritten (lines.First v) = Unit {0}
IsWritten (lines.Claimed c) = IsClaim c
IsWritten (lines.Sizes atoms actions) = IsShort atoms × IsShort actions
IsWritten (lines.Plan k) = k ≤ 4294967295
IsWritten (lines.Item start act) = IsShort start × IsShort act
IsWritten lines.Pairs = Unit {0}
IsWritten (lines.PairRow runs) = IsRow runs
IsWritten lines.Dists = Unit {0}
IsWritten (lines.DistRow runs) = IsRow runs
IsWritten (lines.Tree b) = IsShort b
IsWritten (lines.OpenTree b) = IsShort b
IsWritten (lines.Node line) = IsShortNode line
IsWritten lines.End = Unit {0}
IsWritten lines.Strange = ⊥

-- numbers of tokens, atoms and actions above 4,294,967,295 are given as that number, which none has
abbrev pub capped : ℕ → ℕ
capped n = min n 4294967295

-- the candidate, its number capped
abbrev pub capped_cand : Cand → Cand
capped_cand (Tok n) = Tok (capped n)
capped_cand (Out n) = Out (capped n)

-- the decision, its numbers capped
abbrev pub capped_decision : Decision → Decision
capped_decision (Join x p y) = Join (capped x) (capped p) (capped y)
capped_decision (Bring x p a) = Bring (capped x) (capped p) (capped a)
capped_decision (Before x y) = Before (capped x) (capped y)

-- the flaw, its numbers capped
abbrev pub capped_flaw : Flaw → Flaw
capped_flaw (Threat x p d) = Threat (capped x) (capped p) (capped d)
capped_flaw (OpenNeed x p) = OpenNeed (capped x) (capped p)
capped_flaw (Clash x y) = Clash (capped x) (capped y)

-- the step, its numbers of tokens, atoms and actions capped; moments stay
abbrev pub capped_step : Step → Step
capped_step (R1 x y v) = R1 (capped x) (capped y) v
capped_step (R2 x y v) = R2 (capped x) (capped y) v
capped_step (R3 x y) = R3 (capped x) (capped y)
capped_step (R4 x p v) = R4 (capped x) (capped p) v
capped_step (R5 x p c) = R5 (capped x) (capped p) (capped_cand c)
capped_step (R6 x p) = R6 (capped x) (capped p)
capped_step (R7 x p a) = R7 (capped x) (capped p) (capped a)
capped_step (R8 x p c d) = R8 (capped x) (capped p) (capped_cand c) (capped d)
capped_step (R9After x p d) = R9After (capped x) (capped p) (capped d)
capped_step (R9Ahead x p d) = R9Ahead (capped x) (capped p) (capped d)
capped_step (R10 a p v) = R10 (capped a) (capped p) v
capped_step (R11After x p a v) = R11After (capped x) (capped p) (capped a) v
capped_step (R11Ahead x p a v) = R11Ahead (capped x) (capped p) (capped a) v
capped_step (R12After x a v) = R12After (capped x) (capped a) v
capped_step (R12Ahead x a v) = R12Ahead (capped x) (capped a) v
capped_step (R13 x p c q) = R13 (capped x) (capped p) (capped_cand c) (capped q)

-- the line of a tree, its numbers of tokens, atoms and actions capped
abbrev pub capped_node : NodeLine → NodeLine
capped_node (Child d) = Child (capped_decision d)
capped_node (Narrow step) = Narrow (capped_step step)
capped_node Close = Close
capped_node (Branch flaw) = Branch (capped_flaw flaw)
capped_node OpenNode = OpenNode

-- the line, where it is one of a tree with its numbers of tokens, atoms and actions capped
abbrev pub capped_line : CertLine → CertLine
capped_line (lines.First v) = lines.First v
capped_line (lines.Claimed c) = lines.Claimed c
capped_line (lines.Sizes atoms actions) = lines.Sizes atoms actions
capped_line (lines.Plan k) = lines.Plan k
capped_line (lines.Item start act) = lines.Item start act
capped_line lines.Pairs = lines.Pairs
capped_line (lines.PairRow runs) = lines.PairRow runs
capped_line lines.Dists = lines.Dists
capped_line (lines.DistRow runs) = lines.DistRow runs
capped_line (lines.Tree b) = lines.Tree b
capped_line (lines.OpenTree b) = lines.OpenTree b
capped_line (lines.Node line) = lines.Node (capped_node line)
capped_line lines.End = lines.End
capped_line lines.Strange = lines.Strange

-- the bytes are the spelling of this line, and are at most 65,536
pub record Spells (bytes : List ℕ) (line : CertLine) : Type 0 where
  pub written : IsWritten line
  pub spelled : bytes ≡ spelled line
  pub short : length bytes ≤ 65536

-- What a line's bytes, without the line feed, are read as: the line that they spell, or Strange where they spell none.
abbrev pub IsReadAs : List ℕ → CertLine → Type 0
IsReadAs bytes read = ((line : CertLine) × Spells bytes line × (read ≡ capped_line line)) ⊎ ((read ≡ lines.Strange) × ((line : CertLine) → Spells bytes line → ⊥))
