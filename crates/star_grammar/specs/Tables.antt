-- The rows of tables 2 to 5 of a tree: specification 7. Rows count from 1, so a row's number is one more than the rows before it. Believed; the demands, what reading leaves and the machine cite it.
use Rattle.std.specs.Prelude.{cond, List, [], ◌∷◌, ◌++◌, map, ℕ, zero, suc, ◌+◌, eqb, length}
use Rattle.star_lex.specs.Tokens.{Token}
use Rattle.star_grammar.specs.Tree.{Inner, Packet, Loop, Entry, item, looped, Frame, Member, own, framed, Block, is_global, File}

-- sets: kind (1 data block, 2 frame, 3 global block), token of the heading or `global_`, parent set (0 for a block)
pub record SetRow : Type 0 where
  pub kind : ℕ
  pub heading : ℕ
  pub parent : ℕ

-- names: set, name token, loop, level (loop and level 0 for a single item)
pub record NameRow : Type 0 where
  pub set : ℕ
  pub name : ℕ
  pub loop : ℕ
  pub level : ℕ

-- packets: loop, level, parent packet (0 at level 1)
pub record PacketRow : Type 0 where
  pub loop : ℕ
  pub level : ℕ
  pub parent : ℕ

-- values: name row, packet (0 for a single item), token, next value row of the same name (0 after the last)
pub record ValueRow : Type 0 where
  pub name : ℕ
  pub packet : ℕ
  pub value : ℕ
  pub next : ℕ

-- the words of a row
unfoldable pub set_words : SetRow → List ℕ
set_words r = r.kind ∷ r.heading ∷ r.parent ∷ []

unfoldable pub name_words : NameRow → List ℕ
name_words r = r.set ∷ r.name ∷ r.loop ∷ r.level ∷ []

unfoldable pub packet_words : PacketRow → List ℕ
packet_words r = r.loop ∷ r.level ∷ r.parent ∷ []

unfoldable pub value_words : ValueRow → List ℕ
value_words r = r.name ∷ r.packet ∷ r.value ∷ r.next ∷ []

-- how many tokens and loops were passed, and the rows so far
pub record Rows : Type 0 where
  pub tokens : ℕ
  pub loops : ℕ
  pub sets : List SetRow
  pub names : List NameRow
  pub packets : List PacketRow
  pub values : List ValueRow

unfoldable pub no_rows : Rows
no_rows = record { tokens = 0; loops = 0; sets = []; names = []; packets = []; values = [] }

-- one token that makes no row
unfoldable pub pass : Rows → Rows
pass r = record { tokens = suc r.tokens; loops = r.loops; sets = r.sets; names = r.names; packets = r.packets; values = r.values }

-- `loop_` that begins a loop: loops are numbered through the file
unfoldable pub open_loop : Rows → Rows
open_loop r = record { tokens = suc r.tokens; loops = suc r.loops; sets = r.sets; names = r.names; packets = r.packets; values = r.values }

-- a heading
unfoldable pub put_set : (kind parent : ℕ) → Rows → Rows
put_set kind parent r = record {
  tokens = suc r.tokens;
  loops = r.loops;
  sets = r.sets ++ (record { kind = kind; heading = suc r.tokens; parent = parent } ∷ []);
  names = r.names;
  packets = r.packets;
  values = r.values;
}

-- a name
unfoldable pub put_name : (set loop level : ℕ) → Rows → Rows
put_name set loop level r = record {
  tokens = suc r.tokens;
  loops = r.loops;
  sets = r.sets;
  names = r.names ++ (record { set = set; name = suc r.tokens; loop = loop; level = level } ∷ []);
  packets = r.packets;
  values = r.values;
}

-- a packet begins at its first own value
unfoldable pub put_packet : (loop level parent : ℕ) → Rows → Rows
put_packet loop level parent r = record {
  tokens = r.tokens;
  loops = r.loops;
  sets = r.sets;
  names = r.names;
  packets = r.packets ++ (record { loop = loop; level = level; parent = parent } ∷ []);
  values = r.values;
}

-- a value: its next row is known when all rows are
unfoldable pub put_value : (name packet : ℕ) → Rows → Rows
put_value name packet r = record {
  tokens = suc r.tokens;
  loops = r.loops;
  sets = r.sets;
  names = r.names;
  packets = r.packets;
  values = r.values ++ (record { name = name; packet = packet; value = suc r.tokens; next = 0 } ∷ []);
}

abbrev pub fold {ℓ} : {A : Type ℓ} → (A → Rows → Rows) → List A → Rows → Rows
fold f [] r = r
fold f (x ∷ xs) r = fold f xs (f x r)

-- the number of the next row
abbrev pub next {ℓ} : {A : Type ℓ} → List A → ℕ
next xs = suc (length xs)

-- the values of a packet, the first of this name row
unfoldable pub put_values : (name packet : ℕ) → List Token → Rows → Rows
put_values name packet [] r = r
put_values name packet (t ∷ ts) r = put_values (suc name) packet ts (put_value name packet r)

-- the packets below a packet and their `stop_`: the loop, the level, its first name row, the parent packet
unfoldable pub put_inner : (ls : List ℕ) → (loop level first parent : ℕ) → Inner ls → Rows → Rows
put_inner [] loop level first parent i r = r
put_inner (m ∷ ls) loop level first parent ps r =
    pass (fold (λ p u. put_inner ls loop (suc level) (first + m) (next u.packets) p.1
    (put_values first (next u.packets) p.0 (put_packet loop level parent u))) ps r)

-- a packet of a level of m names
unfoldable pub put_packet_tree : (m : ℕ) (ls : List ℕ) → (loop level first parent : ℕ) → Packet ls → Rows → Rows
put_packet_tree m ls loop level first parent p r =
    put_inner ls loop (suc level) (first + m) (next r.packets) p.1
    (put_values first (next r.packets) p.0 (put_packet loop level parent r))

-- the names of a level
unfoldable pub put_names : (set loop level : ℕ) → List Token → Rows → Rows
put_names set loop level [] r = r
put_names set loop level (t ∷ ts) r = put_names set loop level ts (put_name set loop level r)

-- the deeper levels of a header, each a `loop_` and its names
unfoldable pub put_deeper : (set loop level : ℕ) → List (List Token) → Rows → Rows
put_deeper set loop level [] r = r
put_deeper set loop level (ns ∷ nss) r = put_deeper set loop (suc level) nss (put_names set loop level ns (pass r))

-- header stops
unfoldable pub put_stops : ℕ → Rows → Rows
put_stops zero r = r
put_stops (suc n) r = put_stops n (pass r)

unfoldable pub put_loop : (set : ℕ) → Loop → Rows → Rows
put_loop set l r =
    let number : ℕ = suc r.loops in
    let first : ℕ = next r.names in
    fold (put_packet_tree (length l.names) (map length l.deeper) number 1 first 0) l.packets
    (put_stops l.stops (put_deeper set number 2 l.deeper (put_names set number 1 l.names (open_loop r))))

unfoldable pub put_entry : (set : ℕ) → Entry → Rows → Rows
put_entry set (item n v) r = put_value (next r.names) 0 (put_name set 0 0 r)
put_entry set (looped l) r = put_loop set l r

-- a frame of a block
unfoldable pub put_frame : (block : ℕ) → Frame → Rows → Rows
put_frame block f r = pass (fold (put_entry (next r.sets)) f.entries (put_set 2 block r))

unfoldable pub put_member : (block : ℕ) → Member → Rows → Rows
put_member block (own e) r = put_entry block e r
put_member block (framed f) r = put_frame block f r

-- the kind of a block's set
unfoldable pub block_kind : Block → ℕ
block_kind b = cond (is_global b) 3 1

-- sets are numbered in the order of their first tokens
unfoldable pub put_block : Block → Rows → Rows
put_block b r = fold (put_member (next r.sets)) b.members (put_set (block_kind b) 0 r)

-- the number of the first of these rows that is of a name, where they are numbered from this one on; 0 where none is
unfoldable pub first_of : (name number : ℕ) → List ValueRow → ℕ
first_of name number [] = 0
first_of name number (v ∷ vs) = cond (eqb v.name name) number (first_of name (suc number) vs)

-- a value row whose next row of the same name is this one
unfoldable pub link_to : (next : ℕ) → ValueRow → ValueRow
link_to next v = record { name = v.name; packet = v.packet; value = v.value; next = next }

-- value rows, numbered from this one on, each with the next one of the same name
unfoldable pub linked_from : (number : ℕ) → List ValueRow → List ValueRow
linked_from number [] = []
linked_from number (v ∷ vs) = link_to (first_of v.name (suc number) vs) v ∷ linked_from (suc number) vs

-- all rows, each value row with the next one of the same name
unfoldable pub linked : Rows → Rows
linked r = record {
  tokens = r.tokens;
  loops = r.loops;
  sets = r.sets;
  names = r.names;
  packets = r.packets;
  values = linked_from 1 r.values;
}

unfoldable pub rows_of : File → Rows
rows_of f = linked (fold put_block f no_rows)
