-- What a slot holds, and the home of a name row by the tables. For contracts of `held`, `probe` and `home_at`, and of functions of star_index and star_build that go by homes; what lookup answers, specs/Lookup.antt says.
use Rattle.std.specs.Prelude.{ℕ, false, cond, List, ◌==◌, nat_lt}
use Rattle.star_rows.specs.Widths.{name_width}
use Rattle.star_rows.specs.Rows.{word_of}
use Rattle.star_lex.specs.Table.{or_empty}
use Rattle.star_find.specs.Find.{Lent, content_at, is_wanted, found, refused}
use Rattle.star_rows.specs.declared.Counts.{Counts}
use Rattle.star_find.specs.declared.Found.{Found}
use Rattle.star_hash.specs.Hash.{home_of}
use Rattle.star_slots.specs.Lookup.{probe}

-- what a slot is refused with in a lookup: 13 where it holds 0, 14 where it holds a number above the name count, else 0
unfoldable pub refusal_of : (rows row : ℕ) → ℕ
refusal_of rows row = cond (row == 0) 13 (cond (nat_lt rows row) 14 0)

-- the row that a slot holds, or what it is refused with
abbrev pub held_of : (rows row : ℕ) → Found
held_of rows row = cond (refusal_of rows row == 0) (found row) (refused (refusal_of rows row))

-- so many slots from one on, in the tables that are lent
abbrev pub probed : Lent → Counts → (slots wanted : List ℕ) → (set left at : ℕ) → Found
probed l c slots wanted set left at =
    probe slots c.names (is_wanted l.names name_width set false 0) (λ row. content_at l.file l.tokens c.tokens (word_of l.names name_width row 1)) wanted left at

-- the home of a name row, by the tables
unfoldable pub table_home : (file tokens : List ℕ) → (count : ℕ) → (names : List ℕ) → (slots row : ℕ) → ℕ
table_home file tokens count names slots row =
    home_of slots (word_of names name_width row 0) (or_empty (content_at file tokens count (word_of names name_width row 1)))
