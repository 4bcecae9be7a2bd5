-- The grammar, specification 4, as trees and the tokens that they yield. No parser stands here. Believed; readings, rows and the demands cite it.
--
--   file   ::= block*
--   block  ::= ( data_CODE | global_ ) ( item | loop | frame )*
--   frame  ::= save_CODE ( item | loop )* save_          in the 1991 layout `stop_` in place of the last `save_`
--   item   ::= NAME value
--   loop   ::= header packet+          header ::= loop_ NAME+ [ header ]     in old files ( header | stop_* ) in place of the brackets
--   packet ::= value+ [ packet* stop_ ]     one value for each name of its level; in brackets, the packets of the deeper level if there is one
use Rattle.std.specs.Prelude.{◌≡◌, Bool, true, cond, ℕ, ◌≤◌, ◌<◌, eqb, length, replicate}
use mathlib.Core.List.{List, [], ◌∷◌, ◌++◌, map, flat_map}
use Rattle.star_lex.specs.Rules.{Rules}
use Rattle.star_lex.specs.Tokens.{Token, Each, save_word, loop_word, stop_word}

-- the tokens `save_`, `loop_` and `stop_`
unfoldable pub frame_end : Token
frame_end = record { kind = 3; content = save_word }

unfoldable pub loop_start : Token
loop_start = record { kind = 4; content = loop_word }

unfoldable pub stop : Token
stop = record { kind = 5; content = stop_word }

-- what closes a frame, by the rules
unfoldable pub frame_close : Rules → Token
frame_close rules = cond rules.stop_closes stop frame_end

-- values are kinds 7 to 11
pub record IsValue (t : Token) : Type 0 where
  pub low : 7 ≤ t.kind
  pub high : t.kind ≤ 11

pub record IsName (t : Token) : Type 0 where
  pub kind6 : t.kind ≡ 6

-- what a packet holds below its own values, where the deeper levels have these numbers of names
abbrev pub Inner : List ℕ → Type 0
Inner [] = Unit {0}
Inner (m ∷ ls) = List (List Token × Inner ls)

-- a packet: its level's values, and the deeper level's packets
abbrev pub Packet : List ℕ → Type 0
Packet ls = List Token × Inner ls

-- the deeper level's packets and one `stop_`, or nothing where there is no deeper level
unfoldable pub inner_yield : (ls : List ℕ) → Inner ls → List Token
inner_yield [] i = []
inner_yield (m ∷ ls) ps = flat_map (λ p. p.0 ++ inner_yield ls p.1) ps ++ (stop ∷ [])

abbrev pub packet_yield : (ls : List ℕ) → Packet ls → List Token
packet_yield ls p = p.0 ++ inner_yield ls p.1

-- whole packets: one value for each name of the level
unfoldable pub InnerWhole : (ls : List ℕ) → Inner ls → Type 0
InnerWhole [] i = Unit {0}
InnerWhole (m ∷ ls) ps = Each (λ p. (length p.0 ≡ m) × Each IsValue p.0 × InnerWhole ls p.1) ps

abbrev pub PacketWhole : (n : ℕ) (ls : List ℕ) → Packet ls → Type 0
PacketWhole n ls p = (length p.0 ≡ n) × Each IsValue p.0 × InnerWhole ls p.1

-- a loop: the names of level 1, those of each deeper level, the header stops, and the packets of level 1
pub record Loop : Type 0 where
  pub names : List Token
  pub deeper : List (List Token)
  pub stops : ℕ
  pub packets : List (Packet (map length deeper))

unfoldable pub loop_yield : Loop → List Token
loop_yield l =
    (loop_start ∷ l.names) ++ (flat_map (λ ns. loop_start ∷ ns) l.deeper ++ (replicate l.stops stop
    ++ flat_map (packet_yield (map length l.deeper)) l.packets))

-- by the rules: at most so many levels, one name or more at each, at most one header stop for each inner level and none where the rules have
-- none, one packet or more at level 1
pub record LoopBy (rules : Rules) (l : Loop) : Type 0 where
  pub some_name : 1 ≤ length l.names
  pub some_names : Each (λ ns. 1 ≤ length ns) l.deeper
  pub are_names : Each IsName l.names
  pub are_deeper : Each (Each IsName) l.deeper
  pub levels : length l.deeper < rules.levels
  pub stops_fit : l.stops ≤ length l.deeper
  pub stops_allowed : 1 ≤ l.stops → rules.header_stops ≡ true
  pub some_packet : 1 ≤ length l.packets
  pub whole : Each (PacketWhole (length l.names) (map length l.deeper)) l.packets

-- an entry: a name and one value, or a loop
pub data Entry : Type 0 where
  item : (name value : Token) → Entry
  looped : Loop → Entry

unfoldable pub entry_yield : Entry → List Token
entry_yield (item n v) = n ∷ v ∷ []
entry_yield (looped l) = loop_yield l

abbrev pub EntryBy : (rules : Rules) → Entry → Type 0
EntryBy rules (item n v) = IsName n × IsValue v
EntryBy rules (looped l) = LoopBy rules l

-- a frame: a heading, any number of items and loops, and what closes it; frames do not nest
pub record Frame : Type 0 where
  pub heading : Token
  pub entries : List Entry

-- its tokens, with the token that closes frames
unfoldable pub frame_yield : (close : Token) → Frame → List Token
frame_yield close f = f.heading ∷ (flat_map entry_yield f.entries ++ (close ∷ []))

pub record FrameBy (rules : Rules) (f : Frame) : Type 0 where
  pub heading : f.heading.kind ≡ 2
  pub entries : Each (EntryBy rules) f.entries

-- what a block holds: an entry of its own, or a frame
pub data Member : Type 0 where
  own : Entry → Member
  framed : Frame → Member

unfoldable pub member_yield : (close : Token) → Member → List Token
member_yield close (own e) = entry_yield e
member_yield close (framed f) = frame_yield close f

abbrev pub MemberBy : (rules : Rules) → Member → Type 0
MemberBy rules (own e) = EntryBy rules e
MemberBy rules (framed f) = FrameBy rules f

-- a block: a heading or `global_`, and any number of items, loops and frames
pub record Block : Type 0 where
  pub heading : Token
  pub members : List Member

unfoldable pub block_yield : (close : Token) → Block → List Token
block_yield close b = b.heading ∷ flat_map (member_yield close) b.members

-- what begins a block: the heading of a data block, or `global_`
pub data IsHeading (t : Token) : Type 0 where
  data_block : t.kind ≡ 1 → IsHeading t
  global_block : t.kind ≡ 12 → IsHeading t

-- a global block begins with `global_`
unfoldable pub is_global : Block → Bool
is_global b = eqb b.heading.kind 12

pub record BlockBy (rules : Rules) (b : Block) : Type 0 where
  pub heading : IsHeading b.heading
  pub members : Each (MemberBy rules) b.members

-- a file: any number of data blocks and global blocks
abbrev pub File : Type 0
File = List Block

-- the tokens of a tree in the layout whose frames this token closes: one tree has a yield in each
abbrev pub file_yield : (close : Token) → File → List Token
file_yield close f = flat_map (block_yield close) f

abbrev pub FileBy : (rules : Rules) → File → Type 0
FileBy rules f = Each (BlockBy rules) f
