-- The first name or code of a row of tokens that is already taken (specification 5): names are unique within a block, its frames not counted, and
-- within a frame; frame codes are unique within a block, block codes within the file. A global block is a block without a code. For contracts, and `read_by`; `repeat-distinct` ties it to what a reading asks.
use Rattle.std.specs.Prelude.{Bool, false, true, cond, ◌||◌, List, [], ◌∷◌, ◌++◌, ℕ, suc, eqb}
use Rattle.star_text.specs.Names.{key, equal}
use Rattle.star_lex.specs.Tokens.{Token}

-- a key in a list of keys
unfoldable pub among : List ℕ → List (List ℕ) → Bool
among x [] = false
among x (y ∷ ys) = equal x y || among x ys

-- the keys of what is taken so far: block codes of the file, frame codes and own names of the open block, names of the open frame, and whether a frame is open
pub record Taken : Type 0 where
  pub blocks : List (List ℕ)
  pub frames : List (List ℕ)
  pub names : List (List ℕ)
  pub inner : List (List ℕ)
  pub in_frame : Bool

unfoldable pub nothing : Taken
nothing = record { blocks = []; frames = []; names = []; inner = []; in_frame = false }

-- a name or code equal to one that is taken
unfoldable pub is_taken : Taken → Token → Bool
is_taken s t =
    cond (eqb t.kind 1) (among (key t.content) s.blocks)
    (cond (eqb t.kind 2) (among (key t.content) s.frames)
    (cond (eqb t.kind 6) (among (key t.content) (cond s.in_frame s.inner s.names)) false))

unfoldable pub take_block : Taken → Token → Taken
take_block s t = record { blocks = s.blocks ++ (key t.content ∷ []); frames = []; names = []; inner = []; in_frame = false }

-- `global_` opens a block and has no code
unfoldable pub take_global : Taken → Taken
take_global s = record { blocks = s.blocks; frames = []; names = []; inner = []; in_frame = false }

unfoldable pub take_frame : Taken → Token → Taken
take_frame s t = record { blocks = s.blocks; frames = s.frames ++ (key t.content ∷ []); names = s.names; inner = []; in_frame = true }

unfoldable pub end_frame : Taken → Taken
end_frame s = record { blocks = s.blocks; frames = s.frames; names = s.names; inner = []; in_frame = false }

unfoldable pub take_name : Taken → Token → Taken
take_name s t =
    cond s.in_frame
    (record { blocks = s.blocks; frames = s.frames; names = s.names; inner = s.inner ++ (key t.content ∷ []); in_frame = true })
    (record { blocks = s.blocks; frames = s.frames; names = s.names ++ (key t.content ∷ []); inner = s.inner; in_frame = false })

-- what is taken after a token
unfoldable pub takes : Taken → Token → Taken
takes s t =
    cond (eqb t.kind 1) (take_block s t)
    (cond (eqb t.kind 12) (take_global s)
    (cond (eqb t.kind 2) (take_frame s t)
    (cond (eqb t.kind 3) (end_frame s) (cond (eqb t.kind 6) (take_name s t) s))))

-- how many tokens stand before the first that is taken; all of them where none is
unfoldable pub first_repeat : Taken → List Token → ℕ
first_repeat s [] = 0
first_repeat s (t ∷ ts) = cond (is_taken s t) 0 (suc (first_repeat (takes s t) ts))
