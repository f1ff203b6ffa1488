use Rattle.std.specs.Prelude.{ℕ, nat_lt, if◌then◌else◌, List, length, Option, None, Some, Result, Ok, Err}
use Rattle.cpt_io.specs.Meaning.{Files}
use Rattle.cpt_io.specs.declared.library.ReadError.{ReadError}
use Rattle.cpt_io.specs.declared.library.ReadError.TheVariants as read_errors
use Rattle.cpt_task.specs.declared.memory.Limit.TheVariants.{Certificate}
use Rattle.cpt_answer.specs.declared.ending.Cause.TheVariants.{Passed}
use Rattle.cpt_answer.specs.declared.ending.Ending.{Ending}
use Rattle.cpt_answer.specs.declared.ending.Ending.TheVariants.{Because, Read, Memory}

-- the most bytes of a certificate that is read whole
abbrev pub text_limit : ℕ
text_limit = 16777216

-- the ending at a fault of reading a certificate whole
abbrev pub reading_ending : ReadError → Ending
reading_ending read_errors.Failed = Read
reading_ending read_errors.TooLong = Because (Passed Certificate)
reading_ending read_errors.Memory = Memory

-- a certificate of at most 16 MiB; a file that is not held cannot be read
abbrev pub within_limit : Option (List ℕ) → Result (List ℕ) Ending
within_limit None = Err Read
within_limit (Some bytes) = if nat_lt text_limit (length bytes) then Err (Because (Passed Certificate)) else Ok bytes

-- the text of the certificate in a file
abbrev pub certificate_under : Files → List ℕ → Result (List ℕ) Ending
certificate_under files name = within_limit (files name)
