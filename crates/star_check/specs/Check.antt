-- What a check of a file gives: it reads first, with reading's refusals, and answers yes or no. Believed; the contracts of the checks and their demands cite it.
use Rattle.std.specs.Prelude.{◌≡◌, Bool, cond, ℕ, Result, Ok, Err}
use Rattle.star_text.specs.Refusal.{number}
use Rattle.star_text.specs.declared.refusal.Refusal.{Refusal}
use Rattle.star_text.specs.Outcome.{Outcome, refused, accepted}
use Rattle.star_read.specs.Read.{FileRows}
use Rattle.star_read.specs.Answer.{read_answer, reading_of, Tables, sizes, Leaves}
use Rattle.star_read.specs.declared.Answer.{Answer}
use Rattle.star_check.specs.declared.Checked.{Checked}
use Rattle.star_check.specs.declared.Fits.{Fits}

-- yes or no, and the place that goes with it
pub record Verdict : Type 0 where
  pub yes : Bool
  pub place : ℕ

-- the tokens and rows of the reading, and the verdict
abbrev pub Checking : Type 0
Checking = Outcome (FileRows × Verdict)

-- reading's answer, with yes or no as a number, and a place
unfoldable pub checked_as : Answer → (told place : ℕ) → Checked
checked_as r told place = record {
  refusal = r.refusal;
  place = place;
  yes = told;
  tokens = r.tokens;
  sets = r.sets;
  names = r.names;
  packets = r.packets;
  values = r.values;
}

-- 1 for yes, 0 for no; on a refusal yes is 0, as the counts are
unfoldable pub check_answer : Checking → Checked
check_answer (refused n place) = checked_as (read_answer (refused n place)) 0 place
check_answer (accepted (read, verdict)) = checked_as (read_answer (accepted read)) (cond verdict.yes 1 0) verdict.place

-- what a check tells that answers yes or no with the row counts, or a refusal
abbrev pub checked_of : Result Fits Refusal → Checked
checked_of (Ok f) = record {
  refusal = 0;
  place = 0;
  yes = cond f.yes 1 0;
  tokens = f.counts.tokens;
  sets = f.counts.sets;
  names = f.counts.names;
  packets = f.counts.packets;
  values = f.counts.values;
}
checked_of (Err r) = record { refusal = number r.reason; place = r.place; yes = 0; tokens = 0; sets = 0; names = 0; packets = 0; values = 0 }

-- the contract of a check: the answer, and every word of the five tables, which after yes and after no hold the reading
pub record Checks (o : Checking) (before after : Tables) (r : Checked) : Type 0 where
  pub answer : r ≡ check_answer o
  pub leaves : Leaves (reading_of o) (sizes before) after
