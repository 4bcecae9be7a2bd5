-- How the lookups of the code are the definitions: what is lent and what is answered, of each. For contracts.
use Rattle.std.specs.Prelude.{Bool, true, false, cond, List, ℕ, Option as StdOption, Some, None, Result, Ok, Err}
use Rattle.std.proofs.Math.Option.{Option}
use Rattle.star_rows.specs.Rows.{word_of}
use Rattle.star_find.specs.Find.{Lent, lent, Match, match_of, content_at, is_wanted}
use Rattle.star_find.specs.declared.Found.{Found}
use Rattle.star_find.specs.declared.Missing.{Missing}
use Rattle.star_find.specs.declared.Missing.TheVariants.{NotFound, Outside}
use Rattle.star_find.specs.declared.Lent.{Lent as LentTables}
use Rattle.star_find.specs.declared.Contents.{Contents}
use Rattle.star_find.specs.declared.Wanted.{Wanted}

-- the number of a refusal in the interface
abbrev pub number : Missing → ℕ
number NotFound = 13
number Outside = 14

-- an answer as refusal and row
abbrev pub found_of : Result ℕ Missing → Found
found_of (Ok row) = record { refusal = 0; row = row }
found_of (Err missing) = record { refusal = number missing; row = 0 }

-- how a content compares, as an answer
abbrev pub compared : Match → Result Bool Missing
compared Match.Outside = Err Outside
compared Match.Equal = Ok true
compared Match.Other = Ok false

-- the file and the tables that are lent
abbrev pub seen : LentTables → Lent
seen l = lent l.file.now l.tokens.now l.sets.now l.names.now l.packets.now l.values.now

-- the file with its token rows
abbrev pub contents_of : LentTables → Contents
contents_of l = record { file = l.file; tokens = l.tokens; count = l.counts.tokens }

abbrev pub content : Contents → (row : ℕ) → Option (List ℕ)
content c row = content_at c.file.now c.tokens.now c.count row

-- the content of the token in the second word of a row
abbrev pub named : Contents → (table : List ℕ) → (width row : ℕ) → Option (List ℕ)
named c table width row = content c (word_of table width row 1)

-- which rows are looked at
abbrev pub by_parent : StdOption ℕ → Bool
by_parent None = false
by_parent (Some parent) = true

abbrev pub parent_of : StdOption ℕ → ℕ
parent_of None = 0
parent_of (Some parent) = parent

abbrev pub is_asked : (table : List ℕ) → Wanted → (row : ℕ) → Bool
is_asked table w row = is_wanted table w.width w.first (by_parent w.parent) (parent_of w.parent) row

-- how a row compares: one that is not looked at is another
abbrev pub match_at : Contents → (table : List ℕ) → Wanted → (bytes : List ℕ) → (row : ℕ) → Match
match_at c table w bytes row = cond (is_asked table w row) (match_of bytes (named c table w.width row)) Match.Other
