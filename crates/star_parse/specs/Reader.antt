-- What the reader's own functions say of each other: how far they have come in a run of the machine. For contracts of star_parse's inner functions.
use Rattle.std.specs.Prelude.{◌≡◌, Bool, true, false, Option, Some, None, cond, ℕ, zero, suc, ◌+◌, ◌-◌, ◌*◌, ◌≤◌, ◌<◌, ltb, length, get_or, take, drop}
use mathlib.Core.List.{List, [], ◌∷◌, reverse_aux}
use Rattle.star_text.specs.Bytes.{most_bytes}
use Rattle.star_lex.specs.Rules.{Rules, today}
use Rattle.star_lex.specs.Tokens.{Token}
use Rattle.star_rows.specs.Widths.{token_width}
use Rattle.star_rows.specs.Rows.{put_row}
use Rattle.star_grammar.specs.Tables.{Rows, linked, next}
use Rattle.star_grammar.specs.Machine.{Sort, sort_of, Where, Level, parent_of, State, body, filled, Run, bad, good, run, last_row}
use Rattle.star_parse.specs.Parsed.{kind_tokens, FourTables, Stored}
use Rattle.star_parse.specs.declared.progress.SetKind.{SetKind}
use Rattle.star_parse.specs.Reached.{Progress, kind_number}
use Rattle.star_parse.specs.declared.packets.LoopState.{LoopState}

-- the number of a sort: its kind, 7 for values
unfoldable pub sort_number : Sort → ℕ
sort_number Sort.block = 1
sort_number Sort.global = 12
sort_number Sort.frame = 2
sort_number Sort.frame_end = 3
sort_number Sort.loop = 4
sort_number Sort.stop = 5
sort_number Sort.name = 6
sort_number Sort.value = 7

-- and of the sort of a kind
unfoldable pub number_of : (kind : ℕ) → ℕ
number_of kind = sort_number (sort_of kind)

-- the number of the sort of the next token, 0 at the end
unfoldable pub ahead : List Token → ℕ
ahead [] = 0
ahead (t ∷ ts) = number_of t.kind

-- the number of the sort of the token at a place of a table
abbrev pub sort_at : (count : ℕ) → List ℕ → (at : ℕ) → ℕ
sort_at count words at = ahead (drop at (kind_tokens count words))

-- a token of this sort stands at a place
pub record Ahead (count : ℕ) (tokens : List ℕ) (at sort : ℕ) : Type 0 where
  pub is : sort_at count tokens at ≡ sort
  pub token : at < count

-- whether a token of this sort stands at a place
pub record NextIs (count : ℕ) (tokens : List ℕ) (at sort : ℕ) (says : Bool) : Type 0 where
  pub is : says ≡ true → Ahead count tokens at sort
  pub not : says ≡ false → sort_at count tokens at ≡ sort → ⊥

-- no entry begins at a place
pub record NoEntry (count : ℕ) (tokens : List ℕ) (at : ℕ) : Type 0 where
  pub loop : sort_at count tokens at ≡ 4 → ⊥
  pub name : sort_at count tokens at ≡ 6 → ⊥

-- what begins a block of this kind stands at a place
pub data Headed (count : ℕ) (tokens : List ℕ) (at : ℕ) : (kind : ℕ) → Type 0 where
  data_block : Ahead count tokens at 1 → Headed count tokens at 1
  global_block : Ahead count tokens at 12 → Headed count tokens at 3

-- the block that begins at a place, if one does
pub record Headless (count : ℕ) (tokens : List ℕ) (at : ℕ) : Type 0 where
  pub block : sort_at count tokens at ≡ 1 → ⊥
  pub global : sort_at count tokens at ≡ 12 → ⊥

abbrev pub HeadAt : (count : ℕ) (tokens : List ℕ) (at : ℕ) → Option SetKind → Type 0
HeadAt count tokens at None = Headless count tokens at
HeadAt count tokens at (Some kind) = Headed count tokens at (kind_number kind)

-- before the first token
pub record Fresh (r : Progress) : Type 0 where
  pub refusal : r.refusal ≡ 0
  pub at : r.at ≡ 0
  pub loops : r.loops ≡ 0
  pub sets : r.sets ≡ 0
  pub names : r.names ≡ 0
  pub packets : r.packets ≡ 0
  pub values : r.values ≡ 0

-- the same progress but for so many tokens, loops and rows more
pub record Moved (p : Progress) (token new_loop new_set new_name new_packet new_value : ℕ) (r : Progress) : Type 0 where
  pub refusal : r.refusal ≡ p.refusal
  pub at : r.at ≡ p.at + token
  pub loops : r.loops ≡ p.loops + new_loop
  pub sets : r.sets ≡ p.sets + new_set
  pub names : r.names ≡ p.names + new_name
  pub packets : r.packets ≡ p.packets + new_packet
  pub values : r.values ≡ p.values + new_value

-- refused at the next token
pub record Misplaced (p : Progress) (number : ℕ) (r : Progress) : Type 0 where
  pub refusal : r.refusal ≡ number
  pub at : r.at ≡ p.at

-- a row more in a table, as its count says, and the progress that counts it
pub record RowPut (row : List ℕ) (count : ℕ) (before after : List ℕ) (Counted : Type 0) : Type 0 where
  pub table : after ≡ put_row row count before
  pub counted : Counted

-- a token or a row more can be counted
pub record CountRoom (p : Progress) : Type 0 where
  pub at : p.at ≤ (most_bytes + 1)
  pub loops : p.loops ≤ (most_bytes + 1)
  pub sets : p.sets ≤ (most_bytes + 1)
  pub names : p.names ≤ (most_bytes + 1)
  pub packets : p.packets ≤ (most_bytes + 1)
  pub values : p.values ≤ (most_bytes + 1)

-- the token table has its rows, and no count is larger than the tokens passed
pub record Bounds (count : ℕ) (tokens : List ℕ) (p : Progress) : Type 0 where
  pub rows : count * token_width ≤ length tokens
  pub few : count ≤ most_bytes
  pub at : p.at ≤ count
  pub loops : p.loops ≤ p.at
  pub sets : p.sets ≤ p.at
  pub names : p.names ≤ p.at
  pub packets : p.packets ≤ p.at
  pub values : p.values ≤ p.at

-- a read that goes on: no refusal yet
pub record Ready (count : ℕ) (tokens : List ℕ) (p : Progress) : Type 0 where
  pub going : p.refusal ≡ 0
  pub bounds : Bounds count tokens p

-- the progress counts these rows, and the tables hold them, each value row with the next one of the same name
pub record Matches (before : FourTables) (rows : Rows) (p : Progress) (t : FourTables) : Type 0 where
  pub at : p.at ≡ rows.tokens
  pub loops : p.loops ≡ rows.loops
  pub sets : p.sets ≡ length rows.sets
  pub names : p.names ≡ length rows.names
  pub packets : p.packets ≡ length rows.packets
  pub values : p.values ≡ length rows.values
  pub tables : Stored before (linked rows) t

-- a read of these tokens by the rules into these tables, with this outcome, has come to a state, and this holds of its rows: the run from here on has that outcome
pub record AtWith (rules : Rules) (tokens : List Token) (before : FourTables) (outcome : Run) (st : State) (Holds : Rows → Type 0) (p : Progress) (t : FourTables) : Type 0 where
  pub rows : Rows
  pub matches : Matches before rows p t
  pub left : run rules st (drop p.at tokens) rows ≡ outcome
  pub holds : Holds rows

-- it has come to a state, or the outcome is the refusal
pub record ComesWith (rules : Rules) (tokens : List Token) (before : FourTables) (outcome : Run) (st : State) (Holds : Rows → Type 0) (p : Progress) (t : FourTables) : Type 0 where
  pub goes : p.refusal ≡ 0 → AtWith rules tokens before outcome st Holds p t
  pub ends : (p.refusal ≡ 0 → ⊥) → outcome ≡ bad p.refusal p.at

-- every read that is at one state comes to another, or is refused
abbrev pub LeadsWith : (rules : Rules) (count : ℕ) (tokens : List ℕ) → (from : State) → (Rows → Type 0) → Progress → FourTables → (to : State) → (Rows → Type 0) → Progress → FourTables
    → Type 0
LeadsWith rules count tokens from From p t to To r u =
    (before : FourTables) (outcome : Run) → AtWith rules (kind_tokens count tokens) before outcome from From p t
    → ComesWith rules (kind_tokens count tokens) before outcome to To r u

-- every read that is at one state comes to another
abbrev pub PassesWith : (rules : Rules) (count : ℕ) (tokens : List ℕ) → (from : State) → (Rows → Type 0) → Progress → FourTables → (to : State) → (Rows → Type 0) → Progress → FourTables
    → Type 0
PassesWith rules count tokens from From p t to To r u =
    (before : FourTables) (outcome : Run) → AtWith rules (kind_tokens count tokens) before outcome from From p t
    → AtWith rules (kind_tokens count tokens) before outcome to To r u

-- no value row is of a name row from this one on
abbrev pub Unvalued : (from : ℕ) → Rows → Type 0
Unvalued from rows = (name : ℕ) → from ≤ name → last_row name rows.values ≡ 0

-- outside of loops: no value row is of a name row that is still to come
abbrev pub Between : Rows → Type 0
Between rows = Unvalued (next rows.names) rows

abbrev pub At : (rules : Rules) → List Token → (before : FourTables) → Run → State → Progress → FourTables → Type 0
At rules tokens before outcome st p t = AtWith rules tokens before outcome st Between p t

abbrev pub Comes : (rules : Rules) → List Token → (before : FourTables) → Run → State → Progress → FourTables → Type 0
Comes rules tokens before outcome st p t = ComesWith rules tokens before outcome st Between p t

abbrev pub Leads : (rules : Rules) (count : ℕ) (tokens : List ℕ) → (from : State) → Progress → FourTables → (to : State) → Progress → FourTables → Type 0
Leads rules count tokens from p t to r u = LeadsWith rules count tokens from Between p t to Between r u

abbrev pub Passes : (rules : Rules) (count : ℕ) (tokens : List ℕ) → (from : State) → Progress → FourTables → (to : State) → Progress → FourTables → Type 0
Passes rules count tokens from p t to r u = PassesWith rules count tokens from Between p t to Between r u

-- what reading on answers: counts in bounds, at least so many tokens passed, and where reads come to
pub record Onward (count : ℕ) (tokens : List ℕ) (least : ℕ) (r : Progress) (Goes : Type 0) : Type 0 where
  pub bounds : Bounds count tokens r
  pub further : least ≤ r.at
  pub goes : Goes

-- a read of all tokens is accepted with the rows counted
pub record Accepts (count : ℕ) (outcome : Run) (before : FourTables) (r : Progress) (t : FourTables) : Type 0 where
  pub rows : Rows
  pub matches : Matches before rows r t
  pub all : r.at ≡ count
  pub is : outcome ≡ good (linked rows)

-- what reading a whole file answers: it is accepted, or the outcome is the refusal
pub record Whole (count : ℕ) (outcome : Run) (before : FourTables) (r : Progress) (t : FourTables) : Type 0 where
  pub accepts : r.refusal ≡ 0 → Accepts count outcome before r t
  pub refuses : (r.refusal ≡ 0 → ⊥) → outcome ≡ bad r.refusal r.at

-- what reading the names of a level answers: no name comes next
pub record Names (count : ℕ) (tokens : List ℕ) (p r : Progress) (Goes : Type 0) : Type 0 where
  pub ready : Ready count tokens r
  pub further : p.at ≤ r.at
  pub counted : p.names ≤ r.names
  pub last : sort_at count tokens r.at ≡ 6 → ⊥
  pub goes : Goes

-- what reading header stops, at most so many, answers, unless one is refused: no name row is put, and no `stop_` comes next, or there were as many
pub record Stops (count : ℕ) (tokens : List ℕ) (inner : ℕ) (p r : Progress) (Goes : Type 0) : Type 0 where
  pub bounds : Bounds count tokens r
  pub further : p.at ≤ r.at
  pub names : r.refusal ≡ 0 → r.names ≡ p.names
  pub last : r.refusal ≡ 0 → sort_at count tokens r.at ≡ 5 → p.at + inner ≤ r.at
  pub goes : Goes

-- a state of a loop: the current level is one of those that the rules allow, each level has a name, and the row numbers fit
pub record InLoop (s : LoopState) : Type 0 where
  pub size : length s.counts ≡ 8
  pub some : s.level < s.levels
  pub names : s.names ≡ get_or s.counts s.level 0
  pub limit : s.levels ≤ today.levels
  pub few : (i : ℕ) → get_or s.counts i 0 ≤ most_bytes
  pub named : (i : ℕ) → i < s.levels → 0 < get_or s.counts i 0
  pub first : s.first ≤ (most_bytes + 1) + most_bytes * s.level

-- level 1, with no packet begun
pub record Outermost (s : LoopState) : Type 0 where
  pub level : s.level ≡ 0
  pub filled : s.filled ≡ 0
  pub parent : s.parent ≡ 0

-- the header of a loop with these levels, innermost first: those before the last and the last
pub record Header (s : LoopState) (outer : List ℕ) (n : ℕ) : Type 0 where
  pub some : 0 < n
  pub depth : length outer + 1 ≡ s.levels
  pub counts : reverse_aux outer (n ∷ []) ≡ take s.levels s.counts

-- the numbers of names of the levels inside the current one
unfoldable pub inner_of : LoopState → List ℕ
inner_of s = drop (suc s.level) (take s.levels s.counts)

-- the current level, with the packet begun
abbrev pub level_of : LoopState → (packet : ℕ) → Level
level_of s packet = record { names = get_or s.counts s.level 0; first = s.first; packet = packet }

-- the level inside, in a packet of this number
abbrev pub deeper_of : LoopState → (packet : ℕ) → LoopState
deeper_of s packet = record {
  counts = s.counts;
  levels = s.levels;
  level = s.level + 1;
  names = get_or s.counts (s.level + 1) 0;
  filled = 0;
  first = s.first + s.names;
  parent = packet;
}

-- the row of the first name of a level of a loop, levels from 0, where that of the loop is this one and the levels have so many names
unfoldable pub name_at : (base : ℕ) → (counts : List ℕ) → (level : ℕ) → ℕ
name_at base counts zero = base
name_at base counts (suc level) = name_at base counts level + get_or counts level 0

-- the levels around the current one, in a loop whose first name is of this row
pub record Around (s : LoopState) (outer : List Level) (base : ℕ) : Type 0 where
  pub depth : length outer ≡ s.level
  pub parent : parent_of outer ≡ s.parent
  pub first : s.first ≡ name_at base s.counts s.level

-- the value row of the j-th name of a level, from 0, in a packet whose own values begin at this row; 0 where there is no packet
unfoldable pub in_packet : (began j : ℕ) → ℕ
in_packet zero j = 0
in_packet (suc b) j = suc b + j

-- how many rows back from each value of a packet that begins after so many rows the last one of its name is, where the last packet of the level began at this
-- row; 0 where there is no packet
unfoldable pub back_to : (began rows : ℕ) → ℕ
back_to zero rows = 0
back_to (suc b) rows = rows - b

-- between the packets of a loop: the last value row of each name is in the last packet of its level, which began at the row that is kept for the level
pub record Columns (base : ℕ) (counts : List ℕ) (levels : ℕ) (began : List ℕ) (rows : Rows) : Type 0 where
  pub column : (i j : ℕ) → i < levels → j < get_or counts i 0 → last_row (name_at base counts i + j) rows.values ≡ in_packet (get_or began i 0) j
  pub ends : name_at base counts levels ≡ next rows.names
  pub unvalued : Between rows

-- in a packet of a level that has so many values: those are the last rows
pub record Filling (base : ℕ) (counts : List ℕ) (levels level filled : ℕ) (began : List ℕ) (rows : Rows) : Type 0 where
  pub enough : filled ≤ length rows.values
  pub own : (j : ℕ) → j < filled → last_row (name_at base counts level + j) rows.values ≡ suc (length rows.values - filled + j)
  pub still : (j : ℕ) → filled ≤ j → j < get_or counts level 0 → last_row (name_at base counts level + j) rows.values ≡ in_packet (get_or began level 0) j
  pub other : (i j : ℕ) → i < levels → (i ≡ level → ⊥) → j < get_or counts i 0 → last_row (name_at base counts i + j) rows.values ≡ in_packet (get_or began i 0) j
  pub ends : name_at base counts levels ≡ next rows.names
  pub unvalued : Between rows

-- no packet of the current level is begun
abbrev pub at_level : Where → List Level → LoopState → State
at_level w outer s = body w outer (level_of s 0) (inner_of s) 0

-- a packet that has so many values, and some: all of them, or not
unfoldable pub partly : Where → List Level → Level → List ℕ → (values : ℕ) → State
partly w outer l inner f = cond (ltb f l.names) (body w outer l inner f) (filled w outer l inner)
