-- What is demanded of lookup of blocks, frames and names in the tables and counts as the reader left them, in either layout or as an old file: statements alone, over the reading. Believed; star's Demands cites it.
use Rattle.std.specs.Prelude.{◌≡◌, ◌↔◌, ℕ, ◌-◌, ◌≤◌, ◌<◌, length, get_or}
use mathlib.Core.List.{List, [], ◌∷◌, map, flat_map, Memᴰ}
use Rattle.star_text.specs.Outcome.{accepted}
use Rattle.star_text.specs.Names.{key}
use Rattle.star_lex.specs.Tokens.{Placed}
use Rattle.star_grammar.specs.Tree.{Member, own, framed, Block, File}
use Rattle.star_grammar.specs.Tables.{Rows, block_kind}
use Rattle.star_grammar.specs.Reading.{ReadingBy, entry_names, own_names, frame_codes, block_code}
use Rattle.star_read.specs.Read.{Sizes, tokens_only, Way, way_rules, read_via}
use Rattle.star_read.specs.Answer.{read_answer, Tables, tables_of}
use Rattle.star_read.specs.declared.Answer.{Answer}
use Rattle.star_find.specs.Find.{Lent, lent, find_name, find_block, find_frame}
use Rattle.star_rows.specs.declared.Counts.{Counts}
use Rattle.star_find.specs.declared.Found.{Found}

-- the file with the tables that reading in a layout or as an old file leaves, and the counts that it answers
abbrev pub lent_after : (way : Way) → List ℕ → Sizes → Lent
lent_after way file words =
    let t : Tables = tables_of (read_via way file words) words in
    lent file t.tokens t.sets t.names t.packets t.values

abbrev pub counts_after : (way : Way) → List ℕ → Sizes → Counts
counts_after way file words =
    let r : Answer = read_answer (read_via way file words) in
    record { tokens = r.tokens; sets = r.sets; names = r.names; packets = r.packets; values = r.values }

-- the own names of each set of a tree, sets in the order of their first tokens: a block, then its frames
unfoldable pub frame_names : Member → List (List (List ℕ))
frame_names (own e) = []
frame_names (framed f) = flat_map entry_names f.entries ∷ []

unfoldable pub block_names : Block → List (List (List ℕ))
block_names b = flat_map own_names b.members ∷ flat_map frame_names b.members

-- there is a set of that number, and it holds the name: an item or loop of its own has an equal name
pub record HoldsName (f : File) (set : ℕ) (name : List ℕ) : Type 0 where
  pub low : 1 ≤ set
  pub high : set ≤ length (flat_map block_names f)
  pub holds : Memᴰ (key name) (get_or (flat_map block_names f) (set - 1) [])

-- the content of the token of that row
unfoldable pub content_of : List Placed → (row : ℕ) → List ℕ
content_of ps row = get_or (map (λ p. p.token.content) ps) (row - 1) []

-- a row of a set with an equal name, the first
pub record FirstName (ps : List Placed) (rows : Rows) (set : ℕ) (name : List ℕ) (row : ℕ) : Type 0 where
  pub low : 1 ≤ row
  pub high : row ≤ length rows.names
  pub of_set : get_or (map (λ r. r.set) rows.names) (row - 1) 0 ≡ set
  pub equal : key (content_of ps (get_or (map (λ r. r.name) rows.names) (row - 1) 0)) ≡ key name
  pub first : (other : ℕ) → 1 ≤ other → other < row → get_or (map (λ r. r.set) rows.names) (other - 1) 0 ≡ set
      → key (content_of ps (get_or (map (λ r. r.name) rows.names) (other - 1) 0)) ≡ key name → ⊥

-- the kinds of the sets of a tree, in the same order: 1 a data block, 2 a frame, 3 a global block
unfoldable pub frame_kinds : Member → List ℕ
frame_kinds (own e) = []
frame_kinds (framed f) = 2 ∷ []

unfoldable pub block_kinds : Block → List ℕ
block_kinds b = block_kind b ∷ flat_map frame_kinds b.members

-- there is a set of that number, and it is of this kind
pub record IsKind (f : File) (kind set : ℕ) : Type 0 where
  pub low : 1 ≤ set
  pub high : set ≤ length (flat_map block_kinds f)
  pub is : get_or (flat_map block_kinds f) (set - 1) 0 ≡ kind

-- an earlier global block holds the name
pub record EarlierHolds (f : File) (set : ℕ) (name : List ℕ) (global : ℕ) : Type 0 where
  pub earlier : global < set
  pub is_global : IsKind f 3 global
  pub holds : HoldsName f global name

-- the set or, for a data block, an earlier global block holds the name
pub data Reaches (f : File) (set : ℕ) (name : List ℕ) : Type 0 where
  itself : HoldsName f set name → Reaches f set name
  earlier : IsKind f 1 set → (global : ℕ) → EarlierHolds f set name global → Reaches f set name

-- the set whose name it is: the set itself or, where that does not hold it, the nearest of the earlier global blocks
pub data NameOf (f : File) (set : ℕ) (name : List ℕ) : (of : ℕ) → Type 0 where
  itself : HoldsName f set name → NameOf f set name set
  nearest : (HoldsName f set name → ⊥) → IsKind f 1 set → (global : ℕ) → EarlierHolds f set name global
      → ((other : ℕ) → EarlierHolds f set name other → other ≤ global) → NameOf f set name global

-- demand 3, fifth sentence: after acceptance in either layout or as an old file, for any set number and any name, lookup by name succeeds exactly when there is a set of
-- that number and it or, for a data block, an earlier global block holds the name, and answers the first row with an equal name of the set whose
-- name it is
abbrev pub LookupByName : Type 0
LookupByName = (way : Way) (file : List ℕ) (words : Sizes) (ps : List Placed) (rows : Rows) → read_via way file words ≡ accepted (ps, rows)
    → (r : ReadingBy (way_rules way) (tokens_only ps)) (set : ℕ) (name : List ℕ)
    → (((find_name (lent_after way file words) (counts_after way file words) set name).refusal ≡ 0) ↔ Reaches r.tree set name)
    × ((find_name (lent_after way file words) (counts_after way file words) set name).refusal ≡ 0
    → (of : ℕ) × NameOf r.tree set name of × FirstName ps rows of name (find_name (lent_after way file words) (counts_after way file words) set name).row)

-- a set row of that kind and parent whose code is equal to this one
pub record SetWith (ps : List Placed) (rows : Rows) (kind parent : ℕ) (code : List ℕ) (row : ℕ) : Type 0 where
  pub low : 1 ≤ row
  pub high : row ≤ length rows.sets
  pub of_kind : get_or (map (λ r. r.kind) rows.sets) (row - 1) 0 ≡ kind
  pub of_parent : get_or (map (λ r. r.parent) rows.sets) (row - 1) 0 ≡ parent
  pub equal : key (content_of ps (get_or (map (λ r. r.heading) rows.sets) (row - 1) 0)) ≡ key code

-- block lookup succeeds exactly when a data block of that code is in the reading
abbrev pub LookupBlock : Type 0
LookupBlock = (way : Way) (file : List ℕ) (words : Sizes) (ps : List Placed) (rows : Rows) → read_via way file words ≡ accepted (ps, rows)
    → (r : ReadingBy (way_rules way) (tokens_only ps)) (code : List ℕ)
    → (((find_block (lent_after way file words) (counts_after way file words) code).refusal ≡ 0) ↔ Memᴰ (key code) (flat_map block_code r.tree))
    × ((find_block (lent_after way file words) (counts_after way file words) code).refusal ≡ 0
    → SetWith ps rows 1 0 code (find_block (lent_after way file words) (counts_after way file words) code).row)

-- the frame codes of each set, sets in the order of their first tokens; a frame has none
unfoldable pub no_codes : Member → List (List (List ℕ))
no_codes (own e) = []
no_codes (framed f) = [] ∷ []

unfoldable pub block_codes : Block → List (List (List ℕ))
block_codes b = flat_map frame_codes b.members ∷ flat_map no_codes b.members

-- there is a set of that number, a data block or a global block, and it has a frame of that code
pub record HoldsFrame (f : File) (set : ℕ) (code : List ℕ) : Type 0 where
  pub low : 1 ≤ set
  pub high : set ≤ length (flat_map block_codes f)
  pub holds : Memᴰ (key code) (get_or (flat_map block_codes f) (set - 1) [])

abbrev pub LookupFrame : Type 0
LookupFrame = (way : Way) (file : List ℕ) (words : Sizes) (ps : List Placed) (rows : Rows) → read_via way file words ≡ accepted (ps, rows)
    → (r : ReadingBy (way_rules way) (tokens_only ps)) (set : ℕ) (code : List ℕ)
    → (((find_frame (lent_after way file words) (counts_after way file words) set code).refusal ≡ 0) ↔ HoldsFrame r.tree set code)
    × ((find_frame (lent_after way file words) (counts_after way file words) set code).refusal ≡ 0
    → SetWith ps rows 2 set code (find_frame (lent_after way file words) (counts_after way file words) set code).row)

-- demand 1, of a lookup among so many rows: a row is found, or the answer is 13 or 14 and row 0
pub data RowAnswer (rows : ℕ) : Found → Type 0 where
  at : (row : ℕ) → 1 ≤ row → row ≤ rows → RowAnswer rows (record { refusal = 0; row = row })
  nowhere : RowAnswer rows (record { refusal = 13; row = 0 })
  outside : RowAnswer rows (record { refusal = 14; row = 0 })

abbrev pub LookupsAnswer : Type 0
LookupsAnswer = (l : Lent) (c : Counts)
    → ((code : List ℕ) → RowAnswer c.sets (find_block l c code))
    × ((set : ℕ) (code : List ℕ) → RowAnswer c.sets (find_frame l c set code))
    × ((set : ℕ) (name : List ℕ) → RowAnswer c.names (find_name l c set name))
