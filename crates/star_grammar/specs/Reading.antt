-- The reading of a row of tokens: specification 5 and 6. Believed; the demands on reading and lookup cite it.
use Rattle.std.specs.Prelude.{◌≡◌, cond, ℕ}
use mathlib.Core.List.{List, [], ◌∷◌, ◌++◌, map, flat_map, Memᴰ}
use Rattle.star_lex.specs.Rules.{Rules, today}
use Rattle.star_text.specs.Names.{key}
use Rattle.star_lex.specs.Tokens.{Token, Each}
use Rattle.star_grammar.specs.Tree.{Entry, item, looped, Member, own, framed, Block, is_global, File, file_yield, frame_close, FileBy}

-- no name or code stands twice in the list
abbrev pub Distinct : List (List ℕ) → Type 0
Distinct [] = Unit {0}
Distinct (x ∷ xs) = (Memᴰ x xs → ⊥) × Distinct xs

-- what the names or codes of tokens are compared by
abbrev pub contents : List Token → List (List ℕ)
contents ts = map (λ t. key t.content) ts

-- the names of an entry, in order
unfoldable pub entry_names : Entry → List (List ℕ)
entry_names (item n v) = key n.content ∷ []
entry_names (looped l) = contents l.names ++ flat_map contents l.deeper

-- a block's own names: those of its frames are not counted
unfoldable pub own_names : Member → List (List ℕ)
own_names (own e) = entry_names e
own_names (framed f) = []

unfoldable pub frame_codes : Member → List (List ℕ)
frame_codes (own e) = []
frame_codes (framed f) = key f.heading.content ∷ []

-- names are unique within a frame
unfoldable pub FrameDistinct : Member → Type 0
FrameDistinct (own e) = Unit {0}
FrameDistinct (framed f) = Distinct (flat_map entry_names f.entries)

-- names are unique within a block, its frames not counted; frame codes are unique within a block
pub record BlockDistinct (b : Block) : Type 0 where
  pub names : Distinct (flat_map own_names b.members)
  pub codes : Distinct (flat_map frame_codes b.members)
  pub frames : Each FrameDistinct b.members

-- a global block has no code
unfoldable pub block_code : Block → List (List ℕ)
block_code b = cond (is_global b) [] (key b.heading.content ∷ [])

-- block codes are unique within the file
pub record FileDistinct (f : File) : Type 0 where
  pub blocks : Each BlockDistinct f
  pub codes : Distinct (flat_map block_code f)

-- a reading of a row of tokens: a tree by the rules whose tokens, in the layout of the rules, are all of them
pub record ReadingBy (rules : Rules) (ts : List Token) : Type 0 where
  pub tree : File
  pub yield : file_yield (frame_close rules) tree ≡ ts
  pub whole : FileBy rules tree
  pub distinct : FileDistinct tree

-- by today's rules
abbrev pub Reading : List Token → Type 0
Reading ts = ReadingBy today ts
