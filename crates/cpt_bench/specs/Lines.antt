use Rattle.std.specs.Prelude.{ℕ, List, ◌++◌, length, codes}
use Rattle.std.specs.Fmt.{decimal}
use Rattle.cpt_task.specs.Shape.{TaskShape}
use Rattle.cpt_cert_form.specs.declared.forms.Claim.TheVariants.{Optimal}
use Rattle.cpt_answer.specs.Lines.{line_of}
use Rattle.cpt_check_files.specs.Rulings.{accepted_line}

-- the lines of a summary: the size of the made problem, how many atoms and actions its kept task has, and the makespan
abbrev pub size_line : ℕ → List ℕ
size_line n = line_of (codes "bench " ++ decimal n)

-- the line of the number of atoms
abbrev pub atoms_line : ℕ → List ℕ
atoms_line count = line_of (codes "atoms " ++ decimal count)

-- the line of the number of actions
abbrev pub actions_line : ℕ → List ℕ
actions_line count = line_of (codes "actions " ++ decimal count)

-- the line of the least makespan
abbrev pub least_line : ℕ → List ℕ
least_line m = line_of (codes "makespan " ++ decimal m)

-- these four and the line that `check` writes of an accepted certificate
abbrev pub counted_lines : (n atoms actions m : ℕ) → List ℕ
counted_lines n atoms actions m = size_line n ++ atoms_line atoms ++ actions_line actions ++ least_line m ++ accepted_line (Optimal m)

-- the summary of the made problem of size n, whose kept task this is
abbrev pub summary_lines : ℕ → TaskShape → ℕ → List ℕ
summary_lines n t m = counted_lines n (length t.atoms) (length t.actions) m
