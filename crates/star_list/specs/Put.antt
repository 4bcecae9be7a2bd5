-- What the routines that make the text answer and leave, in terms of the bytes that they put. For contracts of star_list's inner functions.
use Rattle.std.specs.Prelude.{◌≡◌, cond, List, [], ℕ, ◌+◌, eqb, length}
use Rattle.std.proofs.lemmas.List.Edits.{sets}
use Rattle.star_list.specs.Listing.{line}

-- these bytes were put at a place, as many as the room takes, and the next place is after them; the others are as they were
pub record PutWithin (bytes : List ℕ) (at : ℕ) (before after : List ℕ) (next : ℕ) : Type 0 where
  pub ends : next ≡ at + length bytes
  pub leaves : after ≡ sets before at bytes

-- what is printed of a token, by its kind and content: a data block's code on a line of its own
unfoldable pub code_line : (kind : ℕ) → (content : List ℕ) → List ℕ
code_line kind content = cond (eqb kind 1) (line content) []
