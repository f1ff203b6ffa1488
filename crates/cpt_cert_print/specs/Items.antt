use Rattle.std.specs.Prelude.{ℕ, ◌+◌, ◌<◌, List, [], ◌∷◌, ◌++◌, if◌then◌else◌, map}
use Rattle.std.specs.List.{flat_map}
use Rattle.cpt_task.specs.declared.span.Span.{Span}
use Rattle.cpt_cert_form.specs.declared.forms.Run.{Run}
use Rattle.cpt_cert_form.specs.declared.forms.CertLine.{CertLine}
use Rattle.cpt_cert_form.specs.declared.forms.CertLine.TheVariants as lines
use Rattle.cpt_cert_print.specs.declared.items.Row.{Row}
use Rattle.cpt_cert_print.specs.declared.items.Row.TheVariants.{OfAtom, OfAction}
use Rattle.cpt_cert_print.specs.declared.items.Item.{Item}
use Rattle.cpt_cert_print.specs.declared.items.Item.TheVariants as items
use Rattle.cpt_cert_print.specs.declared.items.Section.{Section}
use Rattle.cpt_cert_print.specs.declared.items.Section.TheVariants as sections
use Rattle.cpt_cert_form.specs.Forms.{spelled, run_word}
use Rattle.cpt_cert_form.specs.Text.{pair_row, dist_row, row_runs, plan_lines, pair_lines, dist_lines, tree_lines, open_lines, same_span, runs_of}

-- words, each behind a space
abbrev pub spaced : List (List ℕ) → List ℕ
spaced words = flat_map (λ w. 32 ∷ w) words

-- the values of a row
abbrev pub row_values : Row → List Span
row_values (OfAtom h p) = pair_row h.now p
row_values (OfAction d a) = dist_row d.now a

-- the row is one of its table
abbrev pub IsThere : Row → Type 0
IsThere (OfAtom h p) = p < h.now.atoms
IsThere (OfAction d a) = a < d.now.actions

-- the line of an item
abbrev pub line_of : Item → CertLine
line_of (items.First v) = lines.First v
line_of (items.Claimed c) = lines.Claimed c
line_of (items.Sizes atoms actions) = lines.Sizes atoms actions
line_of (items.Plan k) = lines.Plan k
line_of (items.Occurrence o) = lines.Item o.start o.act
line_of items.Pairs = lines.Pairs
line_of (items.PairRow v row) = lines.PairRow (row_runs v (row_values row))
line_of items.Dists = lines.Dists
line_of (items.DistRow v row) = lines.DistRow (row_runs v (row_values row))
line_of (items.Tree b) = lines.Tree b
line_of (items.OpenTree b) = lines.OpenTree b
line_of (items.Node line) = lines.Node line
line_of items.End = lines.End

-- the row of an item, if it is one, is there
abbrev pub IsItem : Item → Type 0
IsItem (items.First v) = Unit {0}
IsItem (items.Claimed c) = Unit {0}
IsItem (items.Sizes atoms actions) = Unit {0}
IsItem (items.Plan k) = Unit {0}
IsItem (items.Occurrence o) = Unit {0}
IsItem items.Pairs = Unit {0}
IsItem (items.PairRow v row) = IsThere row
IsItem items.Dists = Unit {0}
IsItem (items.DistRow v row) = IsThere row
IsItem (items.Tree b) = Unit {0}
IsItem (items.OpenTree b) = Unit {0}
IsItem (items.Node line) = Unit {0}
IsItem items.End = Unit {0}

-- the line of an item, with its line feed
abbrev pub item_text : Item → List ℕ
item_text item = spelled (line_of item) ++ 10 ∷ []

-- the lines of a section
abbrev pub section_lines : Section → List CertLine
section_lines sections.Nothing = []
section_lines (sections.Head v c atoms actions) = lines.First v ∷ lines.Claimed c ∷ lines.Sizes atoms actions ∷ []
section_lines (sections.Plan plan) = plan_lines plan.now
section_lines (sections.Pairs v h) = pair_lines v h.now
section_lines (sections.Dists v d) = dist_lines v d.now
section_lines (sections.Tree b tree) = tree_lines b tree.now.lines
section_lines (sections.OpenTree b tree) = open_lines b tree.now.lines
section_lines sections.End = lines.End ∷ []

-- a run and the runs behind it, where the first of these may belong to it
abbrev pub merged : Run → List Run → List Run
merged run [] = run ∷ []
merged run (next ∷ runs) = if same_span run.value next.value then record { value = run.value; count = run.count + next.count } ∷ runs else run ∷ next ∷ runs

-- the words of a run that is not written yet, and of the values behind it
abbrev pub runs_text : Run → List Span → List ℕ
runs_text run vs = spaced (map run_word (merged run (runs_of vs)))
