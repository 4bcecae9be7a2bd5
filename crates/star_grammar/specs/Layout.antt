-- A row of tokens in the 1991 layout, token by token as one of today's: the `stop_` that closes a frame is `save_`, and a `save_` alone in a frame, which closes nothing there, is a `global_`, which is
-- out of place there in the same way. For contracts: star_frames', star_unique's and star_read's. An aid: what is accepted in each layout is said by trees and their yields, and no demand cites this.
use Rattle.std.specs.Prelude.{Bool, true, false, cond, ◌&&◌, ◌||◌, List, [], ◌∷◌, ◌++◌, map, ℕ, zero, suc, ◌-◌, eqb, ltb, length, get_or, set}
use Rattle.star_lex.specs.Rules.{Rules}
use Rattle.star_lex.specs.Tokens.{Token, save_word}
use Rattle.star_grammar.specs.Tree as Tree
use Rattle.star_grammar.specs.Machine.{Sort, block, global, frame, frame_end, loop, stop, name, value, sort_of}

-- how far a row has come, as far as that tells what a `stop_` closes: whether a frame is open; 0 outside of loops, 1 in a loop's header, 2 in its packets; the numbers of names of the loop's levels; the
-- level of the packets, counted from 0, and how many values its packet has
pub record Track : Type 0 where
  pub inside : Bool
  pub part : ℕ
  pub counts : List ℕ
  pub level : ℕ
  pub filled : ℕ

abbrev pub track : (inside : Bool) (part : ℕ) (counts : List ℕ) (level filled : ℕ) → Track
track inside part counts level filled = record { inside = inside; part = part; counts = counts; level = level; filled = filled }

-- outside of loops
unfoldable pub outside : (inside : Bool) → Track
outside inside = track inside 0 [] 0 0

-- outside of loops, or in level 1 with no packet begun
unfoldable pub is_between : Track → Bool
is_between t = eqb t.part 0 || (eqb t.part 2 && (eqb t.level 0 && eqb t.filled 0))

-- the kind that a token has in today's layout
unfoldable pub today_kind : Track → (kind : ℕ) → ℕ
today_kind t kind = cond t.inside (cond (eqb kind 3) 12 (cond (eqb kind 5 && is_between t) 3 kind)) kind

-- `loop_`: in a header a level more, of which there are at most so many; else a header
unfoldable pub pass_loop : (most : ℕ) → Track → Track
pass_loop most t =
    cond (eqb t.part 1) (cond (ltb (length t.counts) most) (track t.inside 1 (t.counts ++ (0 ∷ [])) 0 0) (outside false)) (track t.inside 1 (0 ∷ []) 0 0)

-- one more in the last of these numbers
unfoldable pub one_more : List ℕ → List ℕ
one_more counts = set counts (length counts - 1) (suc (get_or counts (length counts - 1) 0))

-- a name: in a header one more of its level; else an item's
unfoldable pub pass_name : Track → Track
pass_name t = cond (eqb t.part 1) (track t.inside 1 (one_more t.counts) 0 0) (outside t.inside)

-- `stop_` with no packet begun: out of an inner level
unfoldable pub pass_stop : Track → Track
pass_stop t = cond (eqb t.part 2 && eqb t.filled 0) (track t.inside 2 t.counts (t.level - 1) 0) t

-- a value of a packet: after the last the deeper level, if there is one
unfoldable pub fill_one : (inside : Bool) (counts : List ℕ) (level filled : ℕ) → Track
fill_one inside counts level filled =
    cond (ltb (suc filled) (get_or counts level 0)) (track inside 2 counts level (suc filled))
    (cond (ltb (suc level) (length counts)) (track inside 2 counts (suc level) 0) (track inside 2 counts level 0))

-- a value: the first after a header begins level 1
unfoldable pub pass_value : Track → Track
pass_value t =
    cond (eqb t.part 1) (fill_one t.inside t.counts 0 0) (cond (eqb t.part 2) (fill_one t.inside t.counts t.level t.filled) t)

unfoldable pub pass_sort : (most : ℕ) → Track → Sort → Track
pass_sort most t block = outside false
pass_sort most t global = outside false
pass_sort most t frame = outside true
pass_sort most t frame_end = outside false
pass_sort most t loop = pass_loop most t
pass_sort most t stop = pass_stop t
pass_sort most t name = pass_name t
pass_sort most t value = pass_value t

-- after a token of a kind of today's layout
unfoldable pub pass_kind : (most : ℕ) → Track → (kind : ℕ) → Track
pass_kind most t kind = pass_sort most t (sort_of kind)

-- a token in today's layout
unfoldable pub today_token : Track → Token → Token
today_token t x = record { kind = today_kind t x.kind; content = cond (eqb (today_kind t x.kind) 3) save_word x.content }

unfoldable pub today_from : (most : ℕ) → Track → List Token → List Token
today_from most t [] = []
today_from most t (x ∷ xs) = today_token t x ∷ today_from most (pass_kind most t (today_kind t x.kind)) xs

-- a row in the layout of the rules as one of today's
unfoldable pub today_row : Rules → List Token → List Token
today_row rules ts = cond rules.stop_closes (today_from rules.levels (outside false) ts) ts

-- how far a row of these kinds has come before its n-th token, counted from 0
unfoldable pub track_at : (most : ℕ) → (ℕ → ℕ) → ℕ → Track
track_at most kinds zero = outside false
track_at most kinds (suc n) = pass_kind most (track_at most kinds n) (today_kind (track_at most kinds n) (kinds n))

-- the kind of its n-th token in today's layout
unfoldable pub today_kind_at : (most : ℕ) → (ℕ → ℕ) → ℕ → ℕ
today_kind_at most kinds n = today_kind (track_at most kinds n) (kinds n)

-- a row of today's layout as one of 1991: a `save_` alone is `stop_`, all else stays
unfoldable pub old_token : Token → Token
old_token t = cond (eqb t.kind 3) Tree.stop t

unfoldable pub old_row : List Token → List Token
old_row ts = map old_token ts

-- a row of today's layout in the layout of the rules
unfoldable pub layout_row : Rules → List Token → List Token
layout_row rules ts = cond rules.stop_closes (old_row ts) ts
