-- For each state of the machine, the rows of tokens that may still come, made of pieces of trees. Of what a state holds only the counts
-- matter here, not the numbers of sets and rows. An aid of the proofs, as the machine is.
use mathlib.Core.Path.{◌≡◌}
use mathlib.Core.Bool.{true}
use mathlib.Core.List.{List, [], ◌∷◌, ◌++◌, map, flat_map, reverse_aux}
use Prim.Native.Nat.{ℕ, zero, suc, ◌+◌, ◌-◌, ◌≤◌, ◌<◌}
use lib.ListN.{length, replicate}
use Rattle.star_lex.specs.Rules.{Rules}
use Rattle.star_lex.specs.Tokens.{Token, Each, save_word, loop_word, stop_word}
use Rattle.star_grammar.specs.Tree.{IsValue, IsName, Inner, Packet, inner_yield, packet_yield, InnerWhole, PacketWhole, Entry, entry_yield, EntryBy, Member, member_yield, MemberBy, File, file_yield, FileBy, frame_end, loop_start, stop}
use Rattle.star_grammar.specs.Machine.{Where, in_block, in_frame, Level, State, start, within, named, header, body}

-- a token as files have them: a kind of the table, and the words `save_`, `loop_` and `stop_` for their contents
pub record Fixed (t : Token) : Type 0 where
  pub least : 1 ≤ t.kind
  pub most : t.kind ≤ 12
  pub save-is : t.kind ≡ 3 → t.content ≡ save_word
  pub loop-is : t.kind ≡ 4 → t.content ≡ loop_word
  pub stop_is : t.kind ≡ 5 → t.content ≡ stop_word

-- between the members of a block: members, then blocks
pub record Members (rules : Rules) (ts : List Token) : Type 0 where
  pub members : List Member
  pub blocks : File
  pub yield : ts ≡ flat_map (member_yield frame_end) members ++ file_yield frame_end blocks
  pub members-whole : Each (MemberBy rules) members
  pub blocks-whole : FileBy rules blocks

-- between the entries of a frame: entries, the frame's end, then the rest of the block
pub record Entries (rules : Rules) (ts : List Token) : Type 0 where
  pub entries : List Entry
  pub after : List Token
  pub yield : ts ≡ flat_map entry_yield entries ++ (frame_end ∷ after)
  pub whole : Each (EntryBy rules) entries
  pub rest : Members rules after

abbrev pub InSet : (rules : Rules) → Where → List Token → Type 0
InSet rules (in_block s) ts = Members rules ts
InSet rules (in_frame b s) ts = Entries rules ts

-- one value, then a row of the given sort
pub record Valued (After : List Token → Type 0) (ts : List Token) : Type 0 where
  pub value : Token
  pub after : List Token
  pub yield : ts ≡ value ∷ after
  pub is_value : IsValue value
  pub rest : After after

-- `stop_`, then a row of the given sort
pub record Stopped (After : List Token → Type 0) (ts : List Token) : Type 0 where
  pub after : List Token
  pub yield : ts ≡ stop ∷ after
  pub rest : After after

-- packets of a level of n names, then a row of the given sort
pub record Packets (n : ℕ) (inner : List ℕ) (After : List Token → Type 0) (ts : List Token) : Type 0 where
  pub packets : List (Packet inner)
  pub after : List Token
  pub yield : ts ≡ flat_map (packet_yield inner) packets ++ after
  pub whole : Each (PacketWhole n inner) packets
  pub rest : After after

-- a packet that has f of its n values: the others, what is below it, then a row of the given sort
pub record Filling (n f : ℕ) (inner : List ℕ) (After : List Token → Type 0) (ts : List Token) : Type 0 where
  pub values : List Token
  pub below : Inner inner
  pub after : List Token
  pub yield : ts ≡ values ++ (inner_yield inner below ++ after)
  pub count : f + length values ≡ n
  pub are-values : Each IsValue values
  pub whole : InnerWhole inner below
  pub rest : After after

-- before a packet of a level: more of its packets, then out along the levels around it, and on in the set
abbrev pub Levels : (rules : Rules) → Where → List Level → (n : ℕ) → List ℕ → List Token → Type 0
Levels rules w [] n inner = Packets n inner (InSet rules w)
Levels rules w (o ∷ outer) n inner = Packets n inner (Stopped (Levels rules w outer o.names (n ∷ inner)))

-- in a header whose current level has n names, after those of the levels before, and s stops: more names, deeper levels and stops, then one
-- packet or more. Names and levels come only before the first stop
pub record Heading (rules : Rules) (w : Where) (before : List ℕ) (n s : ℕ) (ts : List Token) : Type 0 where
  pub names : List Token
  pub deeper : List (List Token)
  pub stops : ℕ
  pub first : ℕ
  pub inner : List ℕ
  pub counts : reverse_aux before ((n + length names) ∷ map length deeper) ≡ first ∷ inner
  pub tail : List Token
  pub yield : ts ≡ names ++ (flat_map (λ ns. loop_start ∷ ns) deeper ++ (replicate stops stop ++ tail))
  pub some_name : 1 ≤ n + length names
  pub some_names : Each (λ ns. 1 ≤ length ns) deeper
  pub are_names : Each IsName names
  pub are_deeper : Each (Each IsName) deeper
  pub levels : length before + length deeper < rules.levels
  pub stops_fit : s + stops ≤ length before + length deeper
  pub stops_allowed : 1 ≤ stops → rules.header_stops ≡ true
  pub stopped : 1 ≤ s → (length names ≡ 0) × (length deeper ≡ 0)
  pub packets : Filling first 0 inner (Levels rules w [] first inner) tail

abbrev pub InBody : (rules : Rules) → Where → List Level → Level → List ℕ → ℕ → List Token → Type 0
InBody rules w outer l inner zero = Levels rules w outer l.names inner
InBody rules w outer l inner (suc f) = Filling l.names (suc f) inner (Levels rules w outer l.names inner)

-- a whole file
pub record Blocks (rules : Rules) (ts : List Token) : Type 0 where
  pub blocks : File
  pub yield : ts ≡ file_yield frame_end blocks
  pub whole : FileBy rules blocks

abbrev pub Rest : (rules : Rules) → State → List Token → Type 0
Rest rules start = Blocks rules
Rest rules (within w) = InSet rules w
Rest rules (named w) = Valued (InSet rules w)
Rest rules (header w first before n s) = Heading rules w before n s
Rest rules (body w outer l inner f) = InBody rules w outer l inner f

-- the counts of a state that a run can reach: one name or more at each level but a header's current one, which has one before a stop; no more
-- levels than the rules allow; no more header stops than inner levels, and none where the rules have none; a packet that is begun is not full
pub record SaneHeader (rules : Rules) (before : List ℕ) (n s : ℕ) : Type 0 where
  pub some_names : Each (λ m. 1 ≤ m) before
  pub levels : length before < rules.levels
  pub stops_fit : s ≤ length before
  pub stops_allowed : 1 ≤ s → rules.header_stops ≡ true
  pub stopped : 1 ≤ s → 1 ≤ n

pub record SaneBody (rules : Rules) (outer : List Level) (n : ℕ) (inner : List ℕ) (f : ℕ) : Type 0 where
  pub some-outer : Each (λ o. 1 ≤ o.names) outer
  pub some-inner : Each (λ m. 1 ≤ m) inner
  pub room : f < n
  pub levels : length outer + length inner < rules.levels

abbrev pub Sane : (rules : Rules) → State → Type 0
Sane rules start = Unit {0}
Sane rules (within w) = Unit {0}
Sane rules (named w) = Unit {0}
Sane rules (header w first before n s) = SaneHeader rules before n s
Sane rules (body w outer l inner f) = SaneBody rules outer l.names inner f

-- the word 0, as a value
unfoldable pub zero_word : Token
zero_word = record { kind = 7; content = 48 ∷ [] }

-- the end of the set that is open
abbrev pub set_ending : Where → List Token
set_ending (in_block s) = []
set_ending (in_frame b s) = frame_end ∷ []

-- the end of a packet after its own values: no packets below it
abbrev pub packet_ending : List ℕ → List Token
packet_ending [] = []
packet_ending (m ∷ inner) = stop ∷ []

-- one packet of level 1
abbrev pub one_packet : List ℕ → List Token
one_packet [] = []
one_packet (m ∷ inner) = replicate m zero_word ++ packet_ending inner

-- the counts of a header's levels from level 1 on, with one name at least at the current level
abbrev pub counts_of : List ℕ → ℕ → List ℕ
counts_of before zero = reverse_aux before (1 ∷ [])
counts_of before (suc n) = reverse_aux before (suc n ∷ [])

-- tokens that end a file after a state, where a header's current level has a name
abbrev pub ending : State → List Token
ending start = []
ending (within w) = set_ending w
ending (named w) = zero_word ∷ set_ending w
ending (header w first before n s) = one_packet (counts_of before n) ++ set_ending w
ending (body w outer l inner zero) = replicate (length outer) stop ++ set_ending w
ending (body w outer l inner (suc f)) =
    replicate (l.names - suc f) zero_word ++ (packet_ending inner ++ (replicate (length outer) stop ++ set_ending w))

-- the given name, where a header's current level has none yet
abbrev pub naming : State → Token → List Token
naming start x = []
naming (within w) x = []
naming (named w) x = []
naming (header w first before zero s) x = x ∷ []
naming (header w first before (suc n) s) x = []
naming (body w outer l inner f) x = []

-- tokens that make a file of what was read
abbrev pub completion : State → Token → List Token
completion st x = naming st x ++ ending st
