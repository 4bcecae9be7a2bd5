-- Lookup of blocks, frames and names in tables that are not trusted: specification 10. Believed; the contracts of every lookup and the demands cite it.
use Rattle.std.specs.Prelude.{Bool, true, false, cond, not, ◌&&◌, ◌||◌, List, ℕ, zero, suc, ◌-◌, eqb, leb, length}
use Rattle.std.proofs.Math.Option.{Option, none, some}
use Rattle.star_rows.specs.Widths.{token_width, set_width, name_width, packet_width, value_width}
use Rattle.star_rows.specs.Rows.{word_of, has_room}
use Rattle.star_lex.specs.Table.{content_in}
use Rattle.star_text.specs.Names.{same}
use Rattle.star_rows.specs.declared.Counts.{Counts}
use Rattle.star_find.specs.declared.Found.{Found}

-- what is lent: the file and the five tables
pub record Lent : Type 0 where
  pub file : List ℕ
  pub tokens : List ℕ
  pub sets : List ℕ
  pub names : List ℕ
  pub packets : List ℕ
  pub values : List ℕ

abbrev pub lent : (file tokens sets names packets values : List ℕ) → Lent
lent file tokens sets names packets values = record { file = file; tokens = tokens; sets = sets; names = names; packets = packets; values = values }

-- no count is larger than its table holds
unfoldable pub fits : (tokens sets names packets values : List ℕ) → Counts → Bool
fits tokens sets names packets values c =
    has_room c.tokens token_width (length tokens)
    && (has_room c.sets set_width (length sets)
    && (has_room c.names name_width (length names) && (has_room c.packets packet_width (length packets) && has_room c.values value_width (length values))))

-- a row number that is neither 0 nor above its count
unfoldable pub is_row : (count row : ℕ) → Bool
is_row count row = leb 1 row && leb row count

-- the content of a token row: none where the row or its span points outside
unfoldable pub content_at : (file tokens : List ℕ) → (count row : ℕ) → Option (List ℕ)
content_at file tokens count row = cond (is_row count row) (content_in file tokens (row - 1)) none

unfoldable pub found : (row : ℕ) → Found
found row = record { refusal = 0; row = row }

unfoldable pub refused : (number : ℕ) → Found
refused number = record { refusal = number; row = 0 }

-- a row whose content is compared: the first with equal bytes answers, and one that points outside is refusal 14 when it is met
unfoldable pub meet : (wanted : List ℕ) → (row : ℕ) → Option (List ℕ) → (others : Found) → Found
meet wanted row none others = refused 14
meet wanted row (some content) others = cond (same content wanted) (found row) others

-- rows in order, so many from this one on: which rows are of the kind and set that is looked for, and the content of each
unfoldable pub seek : (is_one : ℕ → Bool) → (content : ℕ → Option (List ℕ)) → (wanted : List ℕ) → (left row : ℕ) → Found
seek is_one content wanted zero row = refused 13
seek is_one content wanted (suc left) row =
    cond (is_one row) (meet wanted row (content row) (seek is_one content wanted left (suc row))) (seek is_one content wanted left (suc row))

-- a row of a table of sets or names, by its first word and, of a frame, by its third, its parent set
unfoldable pub is_wanted : List ℕ → (width first : ℕ) → (by_parent : Bool) → (parent : ℕ) → (row : ℕ) → Bool
is_wanted table width first by_parent parent row =
    eqb (word_of table width row 0) first && (not by_parent || eqb (word_of table width row 2) parent)

-- the rows of a table of sets or names, compared by the token in their second word
unfoldable pub look : Lent → Counts → (table : List ℕ) → (width first : ℕ) → (by_parent : Bool) → (parent : ℕ) → (wanted : List ℕ) → (rows : ℕ) → Found
look l c table width first by_parent parent wanted rows =
    seek (is_wanted table width first by_parent parent) (λ row. content_at l.file l.tokens c.tokens (word_of table width row 1)) wanted rows 1

unfoldable pub counts_fit : Lent → Counts → Bool
counts_fit l c = fits l.tokens l.sets l.names l.packets l.values c

-- what is checked before rows of a set or a name are looked at: the counts, and that it is a row
unfoldable pub row_there : Lent → Counts → (count row : ℕ) → Bool
row_there l c count row = counts_fit l c && is_row count row

-- a set's own names by name
unfoldable pub own_name : Lent → Counts → (name : List ℕ) → (set : ℕ) → Found
own_name l c name set = look l c l.names name_width set false 0 name c.names

-- an answer, or another where it is 13
unfoldable pub or_else : Found → Found → Found
or_else f g = cond (eqb f.refusal 13) g f

-- the global blocks among the first so many sets are asked, the last first, until one does not answer 13
unfoldable pub ask_globals : (sets : List ℕ) → (ask : (set : ℕ) → Found) → (rows : ℕ) → Found
ask_globals sets ask zero = refused 13
ask_globals sets ask (suc row) =
    cond (eqb (word_of sets set_width (suc row) 0) 3) (or_else (ask (suc row)) (ask_globals sets ask row)) (ask_globals sets ask row)

-- a set is asked and, where it is a data block and answers 13, the global blocks before it
unfoldable pub ask_on : (sets : List ℕ) → (ask : (set : ℕ) → Found) → (set : ℕ) → Found
ask_on sets ask set = or_else (ask set) (cond (eqb (word_of sets set_width set 0) 1) (ask_globals sets ask (set - 1)) (refused 13))

-- names by name: those of the set or, for a data block, of the nearest earlier global block that does not answer 13
unfoldable pub find_name : Lent → Counts → (set : ℕ) → (name : List ℕ) → Found
find_name l c set name = cond (row_there l c c.sets set) (ask_on l.sets (own_name l c name) set) (refused 14)

-- data blocks by code
unfoldable pub find_block : Lent → Counts → (code : List ℕ) → Found
find_block l c code = cond (counts_fit l c) (look l c l.sets set_width 1 false 0 code c.sets) (refused 14)

-- frames of a set by code
unfoldable pub find_frame : Lent → Counts → (set : ℕ) → (code : List ℕ) → Found
find_frame l c set code = cond (row_there l c c.sets set) (look l c l.sets set_width 2 true set code c.sets) (refused 14)

-- how a content compares: its row or span points outside, it is equal, or it is another
pub data Match : Type 0 where
  Outside : Match
  Equal : Match
  Other : Match

unfoldable pub match_of : (wanted : List ℕ) → Option (List ℕ) → Match
match_of wanted none = Match.Outside
match_of wanted (some content) = cond (same content wanted) Match.Equal Match.Other
