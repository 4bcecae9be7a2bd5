-- Table 1 of a row in the 1991 layout with the kinds of today's layout, and back. For contracts of `to_today`, `from_today`, `close_frames` and `open_frames`; what the kinds of today's layout are, star_grammar's specs/Layout.antt says.
use Rattle.std.specs.Prelude.{cond, List, ℕ, zero, suc, ◌*◌, eqb, length, get_or, set}
use Rattle.star_rows.specs.Widths.{token_width}
use Rattle.star_lex.specs.Room.{has_rows}
use Rattle.star_grammar.specs.Layout.{today_kind_at}

-- the kind of the n-th row of a table, counted from 0
abbrev pub kind_of : List ℕ → ℕ → ℕ
kind_of words n = get_or words (n * token_width) 0

-- the first rows of a table, so many, have these kinds; every other word is as it was
unfoldable pub retagged : (kinds : ℕ → ℕ) → (count : ℕ) → List ℕ → List ℕ
retagged kinds zero words = words
retagged kinds (suc n) words = set (retagged kinds n words) (n * token_width) (kinds n)

-- the first rows of a table have the kinds of today's layout; a table that has not that many rows is as it was
unfoldable pub closed_frames : (count : ℕ) → List ℕ → List ℕ
closed_frames count words = cond (has_rows count (length words)) (retagged (today_kind_at 8 (kind_of words)) count words) words

-- the kind in the 1991 layout of what closes a frame in today's: 5, `stop_`
unfoldable pub open_kind : (kind : ℕ) → ℕ
open_kind kind = cond (eqb kind 3) 5 kind

-- in the first rows of a table what closes a frame is `stop_` again; a table that has not that many rows is as it was
unfoldable pub opened_frames : (count : ℕ) → List ℕ → List ℕ
opened_frames count words = cond (has_rows count (length words)) (retagged (λ n. open_kind (kind_of words n)) count words) words

-- a table of so many rows of a layout, with the kinds of today's
unfoldable pub as_today : (layout count : ℕ) → List ℕ → List ℕ
as_today layout count words = cond (eqb layout 1) (closed_frames count words) words

-- a table of so many rows with the kinds of today's layout, with those of a layout again
unfoldable pub from_today : (layout count : ℕ) → List ℕ → List ℕ
from_today layout count words = cond (eqb layout 1) (opened_frames count words) words
