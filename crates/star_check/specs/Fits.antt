-- Whether a file may go to a bench that has the earlier limit: specification 18. Believed; the contract of `fits_32` and the demands cite it.
use Rattle.std.specs.Prelude.{List, ℕ}
use Rattle.star_text.specs.Outcome.{accepted, then}
use Rattle.star_lex.specs.Rules.{old_bench}
use Rattle.star_lex.specs.Fits.{all_fit}
use Rattle.star_read.specs.Read.{FileRows, Sizes, tokens_only, read_of}
use Rattle.star_read.specs.Answer.{Tables, sizes}
use Rattle.star_check.specs.Check.{Verdict, Checking, Checks}
use Rattle.star_check.specs.declared.Checked.{Checked}

-- yes where every name and code is within that limit; the place is 0
unfoldable pub fits_verdict : FileRows → Verdict
fits_verdict read = record { yes = all_fit old_bench.longest (tokens_only read.0); place = 0 }

-- the file is read first, with reading's refusals
unfoldable pub fits_of : List ℕ → Sizes → Checking
fits_of file words = then (read_of file words) (λ read. accepted (read, fits_verdict read))

-- the contract of `fits_32`: the answer, and every word of the five tables
abbrev pub FitsChecked : (file : List ℕ) (before after : Tables) → Checked → Type 0
FitsChecked file before after r = Checks (fits_of file (sizes before)) before after r
