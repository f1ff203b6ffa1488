use Rattle.std.specs.Prelude.{ℕ, ◌+◌, ◌==◌, if◌then◌else◌, List, [], ◌∷◌, ◌++◌, codes}
use Rattle.std.specs.Fmt.{decimal}
use Rattle.std.specs.List.{sum}
use Rattle.cpt_counts.specs.declared.kinds.Counts.{Counts}
use Rattle.cpt_answer.specs.Lines.{line_of}

-- a word and a number
abbrev pub count_line : List ℕ → ℕ → List ℕ
count_line word n = line_of (word ++ codes " " ++ decimal n)

-- how many steps of a rule there are, where there are any
abbrev pub rule_line : ℕ → ℕ → List ℕ
rule_line rule n = if n == 0 then [] else line_of (codes "rule " ++ decimal rule ++ codes ": " ++ decimal n)

-- those of each rule, where the first has this number
abbrev pub rule_lines : ℕ → List ℕ → List ℕ
rule_lines rule [] = []
rule_lines rule (n ∷ ns) = rule_line rule n ++ rule_lines (rule + 1) ns

-- The lines of the counts. The nodes are those that are closed, that branch and that are left open; the steps are those of all rules.
abbrev pub counts_lines : Counts → List ℕ
counts_lines c =
    count_line (codes "nodes") (c.closed + c.branched + c.left) ++ count_line (codes "closed") c.closed ++ count_line (codes "branched") c.branched ++ count_line (codes "open") c.left
    ++ count_line (codes "steps") (sum c.rules) ++ rule_lines 1 c.rules
