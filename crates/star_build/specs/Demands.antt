-- What is demanded of what is built, and of all three calls of an index: statements alone. Believed; star's Demands cites it.
use Rattle.std.specs.Prelude.{◌≡◌, List, ℕ, ◌≤◌, ◌<◌, length, replicate}
use Rattle.star_text.specs.Outcome.{refused, accepted}
use Rattle.star_lex.specs.Tokens.{Placed}
use Rattle.star_grammar.specs.Tables.{Rows}
use Rattle.star_read.specs.Read.{Sizes, read_of}
use Rattle.star_read.specs.Answer.{read_answer, reading_of, Tables, zero_tables, tables_of}
use Rattle.star_read.specs.Demands.{Numbered, HasReading}
use Rattle.star_read.specs.declared.Answer.{Answer}
use Rattle.star_find.specs.Find.{Lent}
use Rattle.star_find.specs.Demands.{RowAnswer}
use Rattle.star_rows.specs.declared.Counts.{Counts}
use Rattle.star_slots.specs.Lookup.{find_slot}
use Rattle.star_index.specs.Index.{check_of}
use Rattle.star_build.specs.Build.{build_of, slots_of}

-- what is built is accepted by the check, whatever tables both are lent; after acceptance by reading it is built exactly where there are more slots than names, else 7 with place 8,
-- and a refusal of reading is the builder's
abbrev pub IndexBuilt : Type 0
IndexBuilt = (file : List ℕ) (words : Sizes) (slots : ℕ)
    → ((ps : List Placed) (rows : Rows) (index : List ℕ) → build_of file words slots ≡ accepted ((ps, rows), index)
    → (length index ≡ slots) × ((others : Sizes) → check_of file others index ≡ read_of file others))
    × ((ps : List Placed) (rows : Rows) → read_of file words ≡ accepted (ps, rows) → length rows.names < slots
    → (index : List ℕ) × (build_of file words slots ≡ accepted ((ps, rows), index)))
    × ((ps : List Placed) (rows : Rows) → read_of file words ≡ accepted (ps, rows) → slots ≤ length rows.names → build_of file words slots ≡ refused 7 8)
    × ((n place : ℕ) → read_of file words ≡ refused n place → build_of file words slots ≡ refused n place)

-- an answer that is a refusal
abbrev pub refusing : (n place : ℕ) → Answer
refusing n place = record { refusal = n; place = place; tokens = 0; sets = 0; names = 0; packets = 0; values = 0 }

-- demand 1, of the check: its answer is 0 and 0 only with a reading; else one of reading's numbers with its place or 15 with 0, no rows, and every word 0
pub data CheckAnswer (file : List ℕ) (words : Sizes) : Answer → Tables → Type 0 where
  acceptance : (r : Answer) (t : Tables) → r.refusal ≡ 0 → r.place ≡ 0 → HasReading file → CheckAnswer file words r t
  refusal : (n place : ℕ) → Numbered (length file) n place → CheckAnswer file words (refusing n place) (zero_tables words)
  no_index : CheckAnswer file words (refusing 15 0) (zero_tables words)

-- of the builder: the same, with 7 and place 8 for 15 and 0, and every slot 0 on a refusal
pub data BuildAnswer (file : List ℕ) (words : Sizes) (slots : ℕ) : Answer → Tables → List ℕ → Type 0 where
  acceptance : (r : Answer) (t : Tables) (index : List ℕ) → r.refusal ≡ 0 → r.place ≡ 0 → HasReading file → length index ≡ slots
      → BuildAnswer file words slots r t index
  refusal : (n place : ℕ) → Numbered (length file) n place → BuildAnswer file words slots (refusing n place) (zero_tables words) (replicate slots 0)
  few_slots : BuildAnswer file words slots (refusing 7 8) (zero_tables words) (replicate slots 0)

-- of all three calls: lookup answers a name row, 13 or 14, whatever tables and slots it is lent
abbrev pub IndexAnswers : Type 0
IndexAnswers =
    ((file : List ℕ) (words : Sizes) (slots : List ℕ)
    → CheckAnswer file words (read_answer (check_of file words slots)) (tables_of (check_of file words slots) words))
    × ((file : List ℕ) (words : Sizes) (slots : ℕ)
    → BuildAnswer file words slots (read_answer (reading_of (build_of file words slots))) (tables_of (reading_of (build_of file words slots)) words)
    (slots_of (build_of file words slots) slots))
    × ((l : Lent) (c : Counts) (slots : List ℕ) (set : ℕ) (name : List ℕ) → RowAnswer c.names (find_slot l c slots set name))
