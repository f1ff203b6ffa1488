-- the runs of each line that is read keep their limits
use Rattle.std.proofs.Common.{ℕ, inl, inr, List, [], ◌∷◌, ◌++◌, All, sym, subst}
use Rattle.std.specs.List.{AllZip}
use Rattle.cpt_cert_form.specs.declared.forms.CertLine.{CertLine}
use Rattle.cpt_cert_form.specs.declared.forms.CertLine.TheVariants as lines
use Rattle.cpt_cert_form.specs.Forms.{IsRun, IsWritten, IsReadAs, capped_line}
use Rattle.cpt_cert_read.specs.Texts.{unended, AreLinesOf}

-- the runs of a row keep their limits
abbrev pub HasRuns : CertLine → Type 0
HasRuns (lines.PairRow runs) = All IsRun runs
HasRuns (lines.DistRow runs) = All IsRun runs
HasRuns _ = Unit {0}

abbrev pub AllHaveRuns : List CertLine → Type 0
AllHaveRuns [] = Unit {0}
AllHaveRuns (l ∷ ls) = HasRuns l × AllHaveRuns ls

written_runs : (l : CertLine) → IsWritten l → HasRuns (capped_line l)
written_runs (lines.PairRow runs) h = h.all
written_runs (lines.DistRow runs) h = h.all
written_runs (lines.Node l) h = tt
written_runs lines.Strange h = tt
written_runs (lines.First v) h = tt
written_runs (lines.Claimed c) h = tt
written_runs (lines.Sizes a b) h = tt
written_runs (lines.Plan k) h = tt
written_runs (lines.Item a b) h = tt
written_runs lines.Pairs h = tt
written_runs lines.Dists h = tt
written_runs (lines.Tree b) h = tt
written_runs (lines.OpenTree b) h = tt
written_runs lines.End h = tt

read_runs : (b : List ℕ) (r : CertLine) → IsReadAs b r → HasRuns r
read_runs b r (inl (l, spells, e)) = subst HasRuns (sym e) (written_runs l spells.written)
read_runs b r (inr (e, none)) = subst HasRuns (sym e) tt

pub zip_runs : (bodies : List (List ℕ)) (read : List CertLine) (tail : List ℕ) → AllZip IsReadAs bodies read → AllHaveRuns (read ++ unended tail)
zip_runs [] [] [] h = tt
zip_runs [] [] (byte ∷ tail) h = (tt, tt)
zip_runs [] (r ∷ read) tail h = absurd h
zip_runs (b ∷ bodies) [] tail h = absurd h
zip_runs (b ∷ bodies) (r ∷ read) tail h = (read_runs b r h.0, zip_runs bodies read tail h.1)

pub text_runs : (text : List ℕ) (ls : List CertLine) → AreLinesOf text ls → AllHaveRuns ls
text_runs text ls h = subst AllHaveRuns (sym h.all) (zip_runs h.bodies h.read h.tail h.each)
