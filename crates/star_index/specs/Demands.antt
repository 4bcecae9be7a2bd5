-- What is demanded of an index, its check and lookup through it: statements alone. Believed; star's Demands cites it.
use Rattle.std.specs.Prelude.{◌≡◌, ◌↔◌, List, ℕ, length}
use Rattle.star_text.specs.Outcome.{refused, accepted}
use Rattle.star_lex.specs.Tokens.{Placed}
use Rattle.star_grammar.specs.Tables.{Rows}
use Rattle.star_read.specs.Read.{Sizes, in_layout, read_of}
use Rattle.star_find.specs.Find.{find_name}
use Rattle.star_find.specs.Demands.{lent_after, counts_after}
use Rattle.star_slots.specs.Lookup.{find_slot}
use Rattle.star_index.specs.Index.{Indexed, row_home, check_of}

-- the slots are an index of the names of a reading
abbrev pub IndexOf : List Placed → Rows → (slots : List ℕ) → Type 0
IndexOf ps rows slots = Indexed (length rows.names) (row_home ps rows (length slots)) slots

-- of any file, tables and slots: the check accepts exactly when reading does and the slots are an index of its names, and then gives the reading; after acceptance by reading slots that
-- are none are 15, place 0, and a refusal of reading is the check's
abbrev pub IndexExactly : Type 0
IndexExactly = (file : List ℕ) (words : Sizes) (slots : List ℕ)
    → ((ps : List Placed) (rows : Rows) → (check_of file words slots ≡ accepted (ps, rows)) ↔ ((read_of file words ≡ accepted (ps, rows)) × IndexOf ps rows slots))
    × ((ps : List Placed) (rows : Rows) → read_of file words ≡ accepted (ps, rows) → (IndexOf ps rows slots → ⊥) → check_of file words slots ≡ refused 15 0)
    × ((n place : ℕ) → read_of file words ≡ refused n place → check_of file words slots ≡ refused n place)

-- with an accepted index and the check's tables and counts, which are those of layout 0, lookup through the index gives the plain lookup's answer, for every set and name
abbrev pub IndexLookup : Type 0
IndexLookup = (file : List ℕ) (words : Sizes) (slots : List ℕ) (ps : List Placed) (rows : Rows) → check_of file words slots ≡ accepted (ps, rows)
    → (set : ℕ) (name : List ℕ)
    → find_slot (lent_after (in_layout 0) file words) (counts_after (in_layout 0) file words) slots set name ≡ find_name (lent_after (in_layout 0) file words) (counts_after (in_layout 0) file words) set name
