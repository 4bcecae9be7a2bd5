-- What writing gives: specification 12.4, and dropping header stops: 21.4. Believed; the contracts of `write`, `write_layout` and `drop_header_stops`, converting and the demands cite it.
use Rattle.std.specs.Prelude.{Bool, false, List, ℕ, leb, length}
use Rattle.star_text.specs.Outcome.{Outcome, accepted, then, need}
use Rattle.star_text.specs.Bytes.{most_bytes}
use Rattle.star_lex.specs.Tokens.{Placed}
use Rattle.star_lex.specs.Plain.{plain_of}
use Rattle.star_grammar.specs.Tables.{Rows}
use Rattle.star_grammar.specs.Stopless.{drop_stops}
use Rattle.star_plain.specs.Kept.{kept_row}
use Rattle.star_read.specs.Read.{FileRows, ReadOutcome, Sizes, tokens_only, read_in, read_old, read_of}

-- what is written: the tokens and rows of the reading, and the plain form
abbrev pub Writing : Type 0
Writing = Outcome (FileRows × List ℕ)

abbrev pub written : List Placed → Rows → (plain : List ℕ) → Writing
written ps rows plain = accepted ((ps, rows), plain)

-- 1 if the plain form is over the size limit, then 7 with place 6 if the output, of so many bytes, is too short
unfoldable pub plain_fits : (room : ℕ) → FileRows → (plain : List ℕ) → Writing
plain_fits room read plain = need (leb (length plain) most_bytes) 1 0 (need (leb (length plain) room) 7 6 (accepted (read, plain)))

-- the writer reads first, with reading's refusals
unfoldable pub write_of : List ℕ → Sizes → (room : ℕ) → Writing
write_of file words room = then (read_of file words) (λ read. plain_fits room read (plain_of (tokens_only read.0)))

-- the same in a layout, 0 or 1
unfoldable pub write_in : (layout : ℕ) → List ℕ → Sizes → (room : ℕ) → Writing
write_in layout file words room = then (read_in layout file words) (λ read. plain_fits room read (plain_of (tokens_only read.0)))

-- an old file's plain form without the header stops
unfoldable pub drop_of : List ℕ → Sizes → (room : ℕ) → Writing
drop_of file words room = then (read_old file words) (λ read. plain_fits room read (plain_of (drop_stops false (tokens_only read.0))))

-- what is written after reading, with the header stops or without
abbrev pub writing_of : ReadOutcome → (without : Bool) → (room : ℕ) → Writing
writing_of o without room = then o (λ read. plain_fits room read (plain_of (kept_row without (tokens_only read.0))))
