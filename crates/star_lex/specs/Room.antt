-- Whether a table has so many rows of tokens. For contracts of the functions that take a table and a number of its rows and ask nothing of them.
use Rattle.std.specs.Prelude.{Bool, ◌&&◌, ℕ, ◌*◌, leb}
use Rattle.star_rows.specs.Widths.{token_width}
use Rattle.star_text.specs.Bytes.{most_bytes}

-- a table of so many words has that many rows of tokens, at most one for each byte that a file may have
unfoldable pub has_rows : (count words : ℕ) → Bool
has_rows count words = leb (count * token_width) words && leb count most_bytes
