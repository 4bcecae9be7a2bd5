-- What the routines that write answer and leave, in terms of the bytes that they write. For the contracts of star_plain, of which converting calls some.
use Rattle.std.specs.Prelude.{◌≡◌, cond, List, [], ◌++◌, ℕ, ◌+◌, leb, length, take, drop}
use Rattle.star_lex.specs.Tokens.{Token}

-- a token by its kind and content
abbrev pub token_of : ℕ → List ℕ → Token
token_of kind content = record { kind = kind; content = content }

-- these bytes were put at a place, and the next place is after them; the others are as they were
pub record Put (bytes : List ℕ) (at : ℕ) (before after : List ℕ) (next : ℕ) : Type 0 where
  pub ends : next ≡ at + length bytes
  pub leaves : after ≡ take at before ++ bytes ++ drop (at + length bytes) before

-- a room begins with these bytes, so many; those after them are as they were
pub record Filled (bytes before after : List ℕ) (count : ℕ) : Type 0 where
  pub counts : count ≡ length bytes
  pub leaves : after ≡ bytes ++ drop (length bytes) before

-- these bytes where a room of so many has place for them from here on, else none
unfoldable pub within : (room at : ℕ) → List ℕ → List ℕ
within room at bytes = cond (leb (at + length bytes) room) bytes []
