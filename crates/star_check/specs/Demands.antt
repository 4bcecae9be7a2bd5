-- What is demanded of the check: statements alone. Believed; star's Demands cites it.
use Rattle.std.specs.Prelude.{◌≡◌, ◌⊎◌, ◌↔◌, List, ℕ, length}
use Rattle.star_text.specs.Outcome.{refused, accepted}
use Rattle.star_lex.specs.Rules.{old_bench}
use Rattle.star_lex.specs.Tokens.{Placed}
use Rattle.star_grammar.specs.Tables.{Rows}
use Rattle.star_read.specs.Read.{FileRows, Sizes, read_by, read_of}
use Rattle.star_read.specs.Answer.{Tables, zero_tables, tables_of, reading_of}
use Rattle.star_read.specs.Demands.{Numbered, HasReading, FirstLonger}
use Rattle.star_check.specs.Check.{check_answer}
use Rattle.star_check.specs.Fits.{fits_of}
use Rattle.star_check.specs.declared.Checked.{Checked}

-- of any file and any tables: yes exactly when a bench with the earlier limit accepts the file; it then reads the file as it is read here, whatever tables both are lent
abbrev pub Fits32 : Type 0
Fits32 = (file : List ℕ) (words : Sizes)
    → (((check_answer (fits_of file words)).yes ≡ 1) ↔ ((read : FileRows) × (read_by old_bench file words ≡ accepted read)))
    × ((check_answer (fits_of file words)).yes ≡ 1 → (others : Sizes) → read_by old_bench file others ≡ read_of file others)

-- no of a file that is accepted: such a bench gives refusal 4, at the first name or code that is longer, whatever tables it is lent
abbrev pub Fits32No : Type 0
Fits32No = (file : List ℕ) (words : Sizes) (ps : List Placed) (rows : Rows) → read_of file words ≡ accepted (ps, rows) → (check_answer (fits_of file words)).yes ≡ 0
    → (place : ℕ) × FirstLonger old_bench.longest ps place × ((others : Sizes) → read_by old_bench file others ≡ refused 4 place)

-- demand 1, of a check: its answer is 0 and 0 only with a reading, and then yes is 1 or 0; else one of reading's numbers with its place, yes 0, no rows, and every word 0
pub data CheckAnswer (file : List ℕ) (words : Sizes) : Checked → Tables → Type 0 where
  acceptance : (r : Checked) (t : Tables) → r.refusal ≡ 0 → r.place ≡ 0 → (r.yes ≡ 1) ⊎ (r.yes ≡ 0) → HasReading file → CheckAnswer file words r t
  refusal : (n place : ℕ) → Numbered (length file) n place
      → CheckAnswer file words (record { refusal = n; place = place; yes = 0; tokens = 0; sets = 0; names = 0; packets = 0; values = 0 }) (zero_tables words)

abbrev pub FitsAnswers : Type 0
FitsAnswers = (file : List ℕ) (words : Sizes) → CheckAnswer file words (check_answer (fits_of file words)) (tables_of (reading_of (fits_of file words)) words)
