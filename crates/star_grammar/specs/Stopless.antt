-- A file without its header stops: as a tree, as a row of tokens, and which rows of tables 2 to 5 have the same contents. Believed; what dropping header stops gives and the demands
-- on it cite it.
use Rattle.std.specs.Prelude.{◌≡◌, Bool, true, cond, ◌&&◌, List, [], ◌∷◌, map, ℕ, ◌-◌, eqb, get_or}
use Rattle.star_lex.specs.Tokens.{Token}
use Rattle.star_grammar.specs.Tree.{Loop, Entry, item, looped, Frame, Member, own, framed, Block, File}
use Rattle.star_grammar.specs.Tables.{SetRow, NameRow, ValueRow, Rows}

-- the same loop with no header stops
unfoldable pub stopless_loop : Loop → Loop
stopless_loop l = record { names = l.names; deeper = l.deeper; stops = 0; packets = l.packets }

unfoldable pub stopless_entry : Entry → Entry
stopless_entry (item n v) = item n v
stopless_entry (looped l) = looped (stopless_loop l)

unfoldable pub stopless_frame : Frame → Frame
stopless_frame f = record { heading = f.heading; entries = map stopless_entry f.entries }

unfoldable pub stopless_member : Member → Member
stopless_member (own e) = own (stopless_entry e)
stopless_member (framed f) = framed (stopless_frame f)

unfoldable pub stopless_block : Block → Block
stopless_block b = record { heading = b.heading; members = map stopless_member b.members }

-- the same file with no header stops
unfoldable pub stopless : File → File
stopless f = map stopless_block f

-- a header stop is a `stop_` directly after a name or after a header stop
unfoldable pub is_header_stop : (headed : Bool) → (kind : ℕ) → Bool
is_header_stop headed kind = headed && eqb kind 5

-- a row of tokens without its header stops; `headed` if a name or a header stop stands directly before it
unfoldable pub drop_stops : (headed : Bool) → List Token → List Token
drop_stops headed [] = []
drop_stops headed (t ∷ ts) = cond (is_header_stop headed t.kind) (drop_stops true ts) (t ∷ drop_stops (eqb t.kind 6) ts)

-- whether a name or a header stop stands last, where one stands directly before these tokens or not
unfoldable pub headed_after : (headed : Bool) → List Token → Bool
headed_after headed [] = headed
headed_after headed (t ∷ ts) = headed_after (cond (is_header_stop headed t.kind) true (eqb t.kind 6)) ts

-- the token of a row of table 1, counted from 1
unfoldable pub token_of_row : List Token → ℕ → Token
token_of_row ts n = get_or ts (n - 1) (record { kind = 0; content = [] })

-- rows with a token, its kind and content, in place of the number of its row
unfoldable pub set_seen : List Token → SetRow → ℕ × Token × ℕ
set_seen ts r = (r.kind, token_of_row ts r.heading, r.parent)

unfoldable pub name_seen : List Token → NameRow → ℕ × Token × ℕ × ℕ
name_seen ts r = (r.set, token_of_row ts r.name, r.loop, r.level)

unfoldable pub value_seen : List Token → ValueRow → ℕ × ℕ × Token × ℕ
value_seen ts r = (r.name, r.packet, token_of_row ts r.value, r.next)

-- rows of one row of tokens and rows of another: the same sets, names, packets and values in the same order, with the same contents and the same numbers but those of token rows
pub record SameContents (ts : List Token) (r : Rows) (us : List Token) (s : Rows) : Type 0 where
  pub sets : map (set_seen us) s.sets ≡ map (set_seen ts) r.sets
  pub names : map (name_seen us) s.names ≡ map (name_seen ts) r.names
  pub packets : s.packets ≡ r.packets
  pub values : map (value_seen us) s.values ≡ map (value_seen ts) r.values
