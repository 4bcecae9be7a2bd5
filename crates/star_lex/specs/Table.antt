-- What table 1 says of a file: specification 7.2. Believed; lookup (star_find's Find) and the contracts of `content`, `has_content`, `first_byte` and of star_check's inner functions cite it.
use Rattle.std.specs.Prelude.{cond, ◌&&◌, List, [], ℕ, ◌+◌, ◌-◌, ◌*◌, leb, length, get_or, take, drop}
use Rattle.std.proofs.Math.Option.{Option, none, some}
use Rattle.star_rows.specs.Widths.{token_width}
use Rattle.star_lex.specs.Tokens.{opening}
use Rattle.star_lex.specs.Answer.{is_some}

-- the bytes of a file from a start up to an end; none where that is no part of it
unfoldable pub part_of : List ℕ → (start end : ℕ) → Option (List ℕ)
part_of file start end = cond (leb start end && leb end (length file)) (some (take (end - start) (drop start file))) none

-- the content that row n of the words spans, counted from 0; none where they have no such row or the row points outside the file
unfoldable pub content_in : (file words : List ℕ) → (n : ℕ) → Option (List ℕ)
content_in file words n =
    cond (leb (n * token_width + token_width) (length words)) (part_of file (get_or words (n * token_width + 1) 0) (get_or words (n * token_width + 2) 0)) none

-- an empty content where there is none
unfoldable pub or_empty : Option (List ℕ) → List ℕ
or_empty none = []
or_empty (some content) = content

-- where the content of row n begins; 0 where there is none
unfoldable pub start_in : (file words : List ℕ) → (n : ℕ) → ℕ
start_in file words n = cond (is_some (content_in file words n)) (get_or words (n * token_width + 1) 0) 0

-- the first byte of the token in row n: what stands before a content is told by its kind; 0 where there is no such row
unfoldable pub first_byte : (words : List ℕ) → (n : ℕ) → ℕ
first_byte words n = cond (leb (n * token_width + token_width) (length words)) (get_or words (n * token_width + 1) 0 - length (opening (get_or words (n * token_width) 0))) 0

-- so many bytes behind an address, which is a block of memory and an offset in it
abbrev pub further : ℕ × ℕ → ℕ → ℕ × ℕ
further address bytes = (address.0, bytes + address.1)
